use mathlib.Core.Path.{sym}
use native.Mathlib.Omega.{arith}
use Rattle.words.specs.Roles.{column_at}
use Rattle.shape.proofs.Loops.{less_true, less_false, rises_none, rises_more, rises_all, falls_at}
use Rattle.shape.proofs.check_row.Goals as goal

pub returns-then-column : goal.returns-then-column
returns-then-column c =
    sym (falls_at (column_at c.args.graph.columns.now) c.args.a c.args.b c.loop-e.e (omega arith) (omega arith) c.loop-e.invariant (less_false c.column-in-loop-e.ensures.0 c.column.ensures.0 c.if-column.true))

pub loop-e-init : goal.loop-e-init
loop-e-init c = rises_none (column_at c.args.graph.columns.now) c.args.a

pub loop-e-preserved : goal.loop-e-preserved
loop-e-preserved c =
    rises_more (column_at c.args.graph.columns.now) c.args.a c.loop-e.e (omega arith) c.loop-e.invariant (less_true c.column-in-loop-e.ensures.0 c.column.ensures.0 c.if-column.false)

pub returns : goal.returns
returns c = sym (rises_all (column_at c.args.graph.columns.now) c.args.a c.args.b c.loop-e.e (omega arith) c.loop-e.auto.e-end c.loop-e.invariant)
