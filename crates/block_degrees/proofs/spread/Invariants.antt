use Rattle.block_degrees.proofs.Spreading.{Spreading}
use Rattle.block_degrees.proofs.spread.Given as goal

abbrev pub invariant-loop-j : goal.invariant-loop-j
invariant-loop-j l = Spreading l.columns l.size l.initial.degrees l.degrees l.j l.v
