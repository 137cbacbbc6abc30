use Rattle.block_degrees.proofs.Heads.{Clearing}
use Rattle.block_degrees.proofs.clear.Given as goal

abbrev pub invariant-loop-j : goal.invariant-loop-j
invariant-loop-j l = Clearing l.columns l.size l.initial.degrees l.degrees l.j l.v
