use mathlib.Core.Bool.{true}
use Rattle.elimination.specs.Eliminating.{Eliminated}
use Rattle.elimination.proofs.eliminate.Given as goal

abbrev pub invariant-loop-i : goal.invariant-loop-i
invariant-loop-i l = Eliminated l.m l.n 0 l.i true l.initial.work l.work
