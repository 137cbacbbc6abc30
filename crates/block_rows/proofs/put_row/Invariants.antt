use Rattle.block_rows.proofs.Putting.{Rowing}
use Rattle.block_rows.proofs.put_row.Given as goal

abbrev pub invariant-loop-p : goal.invariant-loop-p
invariant-loop-p l = Rowing l.bases l.shifts l.d l.size l.e l.initial.columns l.columns l.p
