-- Texts and admitted graphs determine each other, under any limits; and what stays of the answers under the old ones.
use Rattle.std.specs.Prelude.{◌≡◌, List, ℕ, suc, ◌*◌, ◌≤◌, ◌<◌}
use Rattle.words.specs.Roles.{wide}
use Rattle.rules.specs.Graphs.{Graph, Limits, limits, program_limits, AdmittedWithin}
use Rattle.texts.specs.Lines.{Pair}
use Rattle.code_sheets.specs.Text.Texts.{sheet_text}
use Rattle.code_sheets.specs.Text.Reading.{lines, sheet_lines}
use Rattle.code_sheets.specs.Text.Theorems.{Counted}
use Rattle.code_sheets.specs.Reader.Reading.{graph, sheet_read, sheet_read_in}

-- The same graph: counts, and starts and columns on their ranges.
pub record Same (G H : Graph) : Type 0 where
  pub variables : G.variables ≡ H.variables
  pub checks : G.checks ≡ H.checks
  pub entries : G.entries ≡ H.entries
  pub starts : (i : ℕ) → i ≤ H.checks → G.start i ≡ H.start i
  pub columns : (e : ℕ) → e < H.entries → G.column e ≡ H.column e

-- 'The buffers suffice': lists of d, s and c bytes for degrees, starts and columns.
pub record Suffice (G : Graph) (d s c : ℕ) : Type 0 where
  pub degrees : 4 * G.variables ≤ d
  pub starts : wide * suc G.checks ≤ s
  pub columns : wide * G.entries ≤ c

pub record TextsAndGraphs : Type 0 where
  -- a text that is accepted is the text of the graph it gives, that graph is admitted, and the buffers suffice
  pub accepted : (L : Limits) (t : List ℕ) (d s c : ℕ) (G : Graph) → sheet_read_in L t d s c ≡ graph G
      → AdmittedWithin L G × (t ≡ sheet_text G) × Suffice G d s c
  -- the text of an admitted graph is accepted where the buffers suffice, and gives that graph back
  pub back : (L : Limits) (G : Graph) → AdmittedWithin L G → (d s c : ℕ) → Suffice G d s c
      → (H : Graph) × (sheet_read_in L (sheet_text G) d s c ≡ graph H) × Same H G
  -- so two admitted graphs with one text are the same, and the same graph has one text
  pub one_graph : (L : Limits) (G H : Graph) → AdmittedWithin L G → AdmittedWithin L H → sheet_text G ≡ sheet_text H → Same G H
  pub one_text : (L : Limits) (G H : Graph) → AdmittedWithin L G → Same G H → sheet_text G ≡ sheet_text H

-- A list of d bytes is long enough for the degrees of the sheet's variables.
abbrev pub LongEnough : Limits → List ℕ → ℕ → Type 0
LongEnough L t d = (k : Pair) (ps : List Pair) → sheet_lines L t ≡ lines k ps → 4 * k.first ≤ d

-- Such a list changes no answer.
abbrev pub SameReading : Type 0
SameReading = (L : Limits) (t : List ℕ) (d s c : ℕ) → LongEnough L t d → sheet_read_in L t d s c ≡ sheet_read L t s c

-- Document 02, item 9: sheets within the old limits, which these do not refuse with 2, give what they gave before where that list is long
-- enough.
abbrev pub SheetsAsBefore : Type 0
SheetsAsBefore = (t : List ℕ) (d s c : ℕ) → Counted (sheet_lines program_limits t) → LongEnough program_limits t d
    → sheet_read_in limits t d s c ≡ sheet_read program_limits t s c
