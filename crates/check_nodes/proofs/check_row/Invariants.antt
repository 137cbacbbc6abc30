use lib.ListN.{length}
use Rattle.rules.specs.Levels.{byte}
use Rattle.rules.proofs.Filling.{Filled}
use Rattle.nodes.specs.Memory.{level_in}
use Rattle.nodes.specs.Rows.{row_message}
use Rattle.check_nodes.proofs.check_row.Given as goal

abbrev pub invariant-loop-j : goal.invariant-loop-j
invariant-loop-j l = Filled (λ j. byte (row_message (level_in l.incoming) (length l.incoming) j)) l.initial.outgoing l.outgoing l.j
