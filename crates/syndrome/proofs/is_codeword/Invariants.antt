use Rattle.words.specs.Roles.{graph_lent, bit_of_byte}
use Rattle.syndrome.proofs.Loops.{Counted}
use Rattle.syndrome.proofs.is_codeword.Given as goal

abbrev pub invariant-loop-i : goal.invariant-loop-i
invariant-loop-i l = Counted (graph_lent l.graph) (bit_of_byte l.bits) 0 l.i
