use mathlib.Core.Path.{◌≡◌}
use lib.ListN.{length}
use Rattle.block_sheets.specs.Text.Blocks.{Blocks}
use Rattle.block_sheets.specs.Reader.Storing.{RowAt}
use Rattle.block_rows.proofs.Rows.{Going}
use Rattle.block_rows.proofs.read_row.Given as goal

abbrev pub invariant-loop-d : goal.invariant-loop-d
invariant-loop-d l = (length l.bases ≡ length l.initial.bases) × (length l.shifts ≡ length l.initial.shifts) × ((b : Blocks) → b.size ≡ l.size → RowAt b l.text l.from l.left l.i (length l.initial.bases) (length l.initial.shifts) → Going b l.text l.i l.initial.bases l.bases l.initial.shifts l.shifts l.at l.d)
