-- Document 01, 'The program': what `frame` prints for the bytes of the sheet and of the run text.
use Rattle.std.specs.Prelude.{◌≡◌, cond, List, [], ◌++◌, map, ℕ, suc, ◌*◌, leb, length, drop, Ok, Err}
use Rattle.words.specs.Roles.{wide}
use Rattle.rules.specs.Ranges.{one}
use Rattle.rules.specs.Graphs.{program_limits}
use Rattle.rules.specs.Sequence.{final, report}
use Rattle.refusals.specs.declared.Refusal.TheVariants.{Count, RunText}
use Rattle.refusals.specs.Refusals.{Judged}
use Rattle.words.specs.Words.{table}
use Rattle.graphs.specs.Judging.{graph_judged}
use Rattle.decoding.specs.Decoding.{Frame, graph, scheme, frame_judged}
use Rattle.decoding.specs.Frames.{frame}
use Rattle.code_sheets.specs.Reader.Reading as Sheet
use Rattle.code_sheets.specs.Reader.Reading.{sheet_read}
use Rattle.program_texts.specs.RunText.Reading as Run
use Rattle.program_texts.specs.RunText.Reading.{largest_input, run_text}
use Rattle.program_texts.specs.Printing.Texts.{report_text, refusal_text, longest}

-- 'Then decode's': its refusals, but for both 6, since enough memory is lent; or the report and the bits of the run.
abbrev pub judged_text : Frame → Judged → List ℕ
judged_text F (Ok _) = report_text (report (graph F) (scheme F) F.asked.limit) (map one (final (graph F) (scheme F) F.asked.limit).bits)
judged_text F (Err r) = refusal_text r

unfoldable pub frame_text : Frame → List ℕ
frame_text F = judged_text F (frame_judged F (graph_judged program_limits (graph F)))

-- '14, run text oversized (0), else the first line that is of other form, missing, extra or without LF (its line).'
abbrev pub after_run : ℕ → List ℕ → List ℕ → Run.RunText → List ℕ
after_run n starts columns (Run.refused l) = refusal_text (RunText l)
after_run n starts columns (Run.read asked values) = frame_text (frame n starts columns values asked)

-- 'The sheet's.' The graph's lists are m + 1 starts and E columns, `wide` bytes each.
abbrev pub after_sheet : Sheet.Reading → List ℕ → List ℕ
after_sheet (Sheet.turned r) run = refusal_text r
after_sheet (Sheet.graph G) run =
    after_run G.variables (table wide G.start (suc G.checks)) (table wide G.column G.entries) (run_text G.variables run)

-- What the sheet gives under 'the old limits', into lists that hold those of every graph that they admit.
abbrev pub sheet_given : List ℕ → Sheet.Reading
sheet_given sheet = sheet_read program_limits sheet (wide * suc program_limits.checks) (wide * program_limits.entries)

-- '2 for an oversized file.'
unfoldable pub program_text : List ℕ → List ℕ → List ℕ
program_text sheet run = cond (leb (length sheet) largest_input) (after_sheet (sheet_given sheet) run) (refusal_text (Count 0))

-- ---- the text in lent memory

-- The text at the front and its length, the bytes past it unchanged. Nothing, where fewer than `longest` bytes are lent.
pub record Answers (sheet run old now : List ℕ) (r : ℕ) : Type 0 where
  pub text : List ℕ
  pub is : text ≡ cond (leb longest (length old)) (program_text sheet run) []
  pub holds : now ≡ text ++ drop (length text) old
  pub long : r ≡ length text
