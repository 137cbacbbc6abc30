use Prim.Native.Nat.{◌≤◌, ◌-◌}
use lib.ListN.{length}
use Rattle.rules.proofs.Filling.{Filled}
use Rattle.words.specs.Roles.{column_at}
use Rattle.nodes.specs.Lists.{sent_by}
use Rattle.variable_nodes.proofs.variable_nodes.Given as goal

abbrev pub invariant-loop-e : goal.invariant-loop-e
invariant-loop-e l = (l.e ≤ length l.incoming) × Filled (sent_by l.parts l.messages (column_at l.columns) l.sums l.incoming) l.initial.outgoing l.outgoing l.e

abbrev pub decreases-loop-e : goal.decreases-loop-e
decreases-loop-e l = length l.incoming - l.e
