use mir.Syntax.{w32}
use mir.Val.{of_z}
use Rattle.rules.specs.Nodes.{contribution, extra}
use Rattle.words.specs.Roles.{degree_at}
use Rattle.words.proofs.Filling.{Filled}
use Rattle.nodes.specs.Memory.{level_in}
use Rattle.posterior.proofs.channel_parts.Given as goal

abbrev pub invariant-loop-v : goal.invariant-loop-v
invariant-loop-v l = Filled 4 (λ v. of_z w32 (contribution (extra (degree_at l.degrees v)) (level_in l.levels v))) l.initial.sums l.sums l.v
