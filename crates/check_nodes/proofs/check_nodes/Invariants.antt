use Rattle.rules.specs.Levels.{byte}
use Rattle.rules.specs.Nodes.{from_check}
use Rattle.rules.proofs.Filling.{Filled}
use Rattle.words.specs.Roles.{start_at}
use Rattle.nodes.specs.Memory.{level_in, on_starts}
use Rattle.check_nodes.proofs.check_nodes.Given as goal

abbrev pub invariant-loop-i : goal.invariant-loop-i
invariant-loop-i l = Filled (λ e. byte (from_check (on_starts l.starts) (level_in l.incoming) e)) l.initial.outgoing l.outgoing (start_at l.starts l.i)
