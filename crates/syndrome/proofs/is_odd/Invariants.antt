use Rattle.words.specs.Roles.{graph_lent, bit_of_byte}
use Rattle.syndrome.proofs.Loops.{Parity}
use Rattle.syndrome.proofs.is_odd.Given as goal

abbrev pub invariant-loop-e : goal.invariant-loop-e
invariant-loop-e l = Parity (graph_lent l.graph) (bit_of_byte l.bits) l.i l.e l.odd
