use mathlib.Core.Path.{sym, refl}
use native.Mathlib.Omega.{arith}
use Rattle.refusals.proofs.Judging.{passed_none, passed_more, passed_all, failed_at}
use Rattle.graphs.specs.Judging.{columns_judged}
use Rattle.shape.proofs.Loops.{less_true, less_false}
use Rattle.shape.proofs.check_columns.Goals as goal

pub loop-e-init : goal.loop-e-init
loop-e-init c = passed_none

pub returns-then-graph-column : goal.returns-then-graph-column
unfolding columns_judged
returns-then-graph-column c = sym (failed_at c.loop-e.invariant (less_false c.column.ensures.0 refl c.if-graph-column.true) (omega arith))

pub loop-e-preserved : goal.loop-e-preserved
loop-e-preserved c = passed_more c.loop-e.invariant (less_true c.column.ensures.0 refl c.if-graph-column.false)

pub returns : goal.returns
unfolding columns_judged
returns c = sym (passed_all c.loop-e.invariant (omega arith))
