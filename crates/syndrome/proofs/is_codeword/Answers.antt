use mathlib.Core.Path.{sym}
use native.Mathlib.Omega.{arith}
use Rattle.rules.specs.Graphs.{unsatisfied}
use Rattle.syndrome.proofs.Loops.{counted_none, counted_same, counted_even, some_odd}
use Rattle.syndrome.proofs.is_codeword.Goals as goal

pub loop-i-init : goal.loop-i-init
loop-i-init c = counted_none

pub returns-then-is_odd : goal.returns-then-is_odd
unfolding unsatisfied
returns-then-is_odd c = sym (some_odd c.loop-i.invariant c.is_odd.ensures _ (omega arith) c.if-is_odd.true)

pub loop-i-preserved : goal.loop-i-preserved
loop-i-preserved c = counted_same c.loop-i.invariant c.is_odd.ensures c.if-is_odd.false

pub returns : goal.returns
unfolding unsatisfied
returns c = sym (counted_even c.loop-i.invariant (omega arith))
