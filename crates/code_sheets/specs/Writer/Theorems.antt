-- How much memory a sheet needs, and what stays of the writer's answers under the old limits.
use Rattle.std.specs.Prelude.{◌≡◌, ℕ, ◌+◌, ◌*◌, ◌≤◌, length}
use Rattle.rules.specs.Graphs.{Graph, program_limits, Admitted}
use Rattle.graphs.specs.Judging.{graph_judged}
use Rattle.graphs.specs.Calls.{Old}
use Rattle.code_sheets.specs.Text.Texts.{sheet_text}
use Rattle.code_sheets.specs.Writer.Writing.{write_judged, write_finds}

-- The text of an admitted graph: fixed lines of 17 and 15 bytes, at most 16 bytes for the counts, and at most 14 for each entry.
abbrev pub SheetsShort : Type 0
SheetsShort = (G : Graph) → Admitted G → length (sheet_text G) ≤ 48 + 14 * G.entries

-- Document 02, item 9: of graphs within the old limits the writer finds what it found before where the list of degrees is long enough.
abbrev pub WritesAsBefore : Type 0
WritesAsBefore = (G : Graph) (d room : ℕ) → Old G d → write_finds G d room ≡ write_judged (graph_judged program_limits G) G room
