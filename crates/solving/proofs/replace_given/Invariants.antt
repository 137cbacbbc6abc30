use Rattle.codewords.specs.Encoding.{given_of}
use Rattle.solving.specs.Solving.{Replaced}
use Rattle.solving.proofs.replace_given.Given as goal

abbrev pub invariant-loop-k : goal.invariant-loop-k
invariant-loop-k l = Replaced l.m l.n l.k (given_of l.positions l.given) l.initial.work l.work
