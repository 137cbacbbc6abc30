use Rattle.rules.specs.Ranges.{one}
use Rattle.rules.specs.Nodes.{first_bit}
use Rattle.rules.proofs.Filling.{Filled}
use Rattle.nodes.specs.Memory.{level_in}
use Rattle.check_nodes.proofs.first.first_bits.Given as goal

abbrev pub invariant-loop-v : goal.invariant-loop-v
invariant-loop-v l = Filled (λ v. one (first_bit (level_in l.levels) v)) l.initial.bits l.bits l.v
