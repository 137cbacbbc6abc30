use Rattle.rules.specs.Ranges.{one}
use Rattle.rules.specs.Nodes.{bit_of}
use Rattle.rules.proofs.Filling.{Filled}
use Rattle.words.specs.Roles.{sum_at}
use Rattle.nodes.specs.Memory.{level_in}
use Rattle.posterior.proofs.decide.Given as goal

abbrev pub invariant-loop-v : goal.invariant-loop-v
invariant-loop-v l = Filled (λ v. one (bit_of (sum_at l.sums v) (level_in l.levels v).minus)) l.initial.bits l.bits l.v
