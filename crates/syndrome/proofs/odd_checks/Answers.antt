use native.Mathlib.Omega.{arith}
use Rattle.rules.specs.Graphs.{unsatisfied}
use Rattle.syndrome.proofs.Loops.{counted_none, counted_more, counted_le, counted_all}
use Rattle.syndrome.proofs.odd_checks.Goals as goal

pub loop-i-init : goal.loop-i-init
loop-i-init c = counted_none

pub overflow_add-odd : goal.overflow_add-odd
overflow_add-odd c = omega (arith, counted_le (counted_more c.loop-i.invariant c.is_odd.ensures))

pub loop-i-preserved : goal.loop-i-preserved
loop-i-preserved c = counted_more c.loop-i.invariant c.is_odd.ensures

pub returns : goal.returns
unfolding unsatisfied
returns c = counted_all c.loop-i.invariant (omega arith)
