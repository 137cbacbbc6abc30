use Rattle.run_text.proofs.Storing.{Storing}
use Rattle.run_text.proofs.values_at.Given as goal

abbrev pub invariant-loop-k : goal.invariant-loop-k
invariant-loop-k l = Storing l.text l.n l.from l.at l.k l.initial.values l.values
