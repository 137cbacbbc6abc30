use Rattle.codewords.specs.Encoding.{given_of}
use Rattle.solving.specs.Solving.{Begun}
use Rattle.solving.proofs.put_given.Given as goal

abbrev pub invariant-loop-k : goal.invariant-loop-k
invariant-loop-k l = Begun l.n l.k (given_of l.positions l.given) l.initial.codeword l.codeword
