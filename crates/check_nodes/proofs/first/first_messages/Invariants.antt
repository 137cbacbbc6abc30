use Rattle.rules.specs.Levels.{byte}
use Rattle.rules.specs.Nodes.{first_message}
use Rattle.rules.proofs.Filling.{Filled}
use Rattle.nodes.specs.Memory.{level_in, on_columns}
use Rattle.check_nodes.proofs.first.first_messages.Given as goal

abbrev pub invariant-loop-e : goal.invariant-loop-e
invariant-loop-e l = Filled (λ e. byte (first_message (on_columns l.columns) l.most (level_in l.levels) e)) l.initial.outgoing l.outgoing l.e
