use Prim.Native.Nat.{◌-◌, ◌≤◌}
use lib.ListN.{length}
use Rattle.texts.specs.Lines.{pair}
use Rattle.texts.proofs.Passes.{Scanning}
use Rattle.code_sheets.specs.Text.Reading.{sheet_entries}
use Rattle.sheet_text.proofs.scan_entries.Given as goal

abbrev pub invariant-loop-at : goal.invariant-loop-at
invariant-loop-at l = (l.k ≤ l.most.entries) × Scanning sheet_entries l.most.entries (pair l.n l.m) l.text l.from l.at l.k (pair l.c0 l.w0)

abbrev pub decreases-loop-at : goal.decreases-loop-at
decreases-loop-at l = length l.text - l.at
