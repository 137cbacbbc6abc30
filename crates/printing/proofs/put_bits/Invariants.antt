use Rattle.printing.proofs.Parts.{BitsPut}
use Rattle.printing.proofs.put_bits.Given as goal

abbrev pub invariant-loop-k : goal.invariant-loop-k
invariant-loop-k l = BitsPut l.bits l.initial.out l.out l.at l.k
