use lib.IntN.{pos, ◌-ℤ◌}
use Rattle.rules.specs.Levels.{byte}
use Rattle.rules.specs.Nodes.{outgoing}
use Rattle.rules.proofs.Filling.{Filled}
use Rattle.nodes.specs.Magnitudes.{offsets}
use Rattle.variable_nodes.proofs.put_messages.Given as goal

abbrev pub invariant-loop-k : goal.invariant-loop-k
invariant-loop-k l = Filled (λ j. byte (outgoing l.most (offsets l.phi_s l.phi_a l.phi_0) (pos j -ℤ pos 17))) l.initial.messages l.messages l.k
