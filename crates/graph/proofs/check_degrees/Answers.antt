use mathlib.Core.Path.{sym}
use native.Mathlib.Omega.{arith}
use native.Mathlib.Numerals.{add-one}
use Rattle.refusals.proofs.Judging.{passed_none, passed_more, passed_all, failed_at}
use Rattle.words.specs.Roles.{graph_lent}
use Rattle.rules.specs.Graphs.{limits}
use Rattle.graphs.specs.Judging.{check_degrees_judged}
use Rattle.graphs.proofs.Parts.{starts_told}
use Rattle.shape.proofs.Loops.{check_test_lem}
use Rattle.graph.proofs.check_degrees.Goals as goal

pub loop-i-init : goal.loop-i-init
loop-i-init c = passed_none

pub overflow_sub-start : goal.overflow_sub-start
overflow_sub-start c = omega (arith, (starts_told _ c.requires).rises c.loop-i.i (omega arith), rw add-one at c.start.ensures.0)

pub returns-then-not-in_range : goal.returns-then-not-in_range
unfolding check_degrees_judged
returns-then-not-in_range c =
    sym (failed_at c.loop-i.invariant (check_test_lem limits (graph_lent c.args.graph) c.loop-i.i c.start-in-loop-i.ensures.0 c.start.ensures.0 c.in_range.ensures c.if-not-in_range.true) (omega arith))

pub loop-i-preserved : goal.loop-i-preserved
loop-i-preserved c =
    passed_more c.loop-i.invariant (check_test_lem limits (graph_lent c.args.graph) c.loop-i.i c.start-in-loop-i.ensures.0 c.start.ensures.0 c.in_range.ensures c.if-not-in_range.false)

pub returns : goal.returns
unfolding check_degrees_judged
returns c = sym (passed_all c.loop-i.invariant (omega arith))
