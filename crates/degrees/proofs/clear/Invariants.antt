use Rattle.words.proofs.Filling.{Filled}
use Rattle.degrees.proofs.clear.Given as goal

abbrev pub invariant-loop-v : goal.invariant-loop-v
invariant-loop-v l = Filled 4 (λ _. 0) l.initial.degrees l.degrees l.v
