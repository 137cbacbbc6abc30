use native.Mathlib.Omega.{arith}
use Rattle.rules.proofs.Filling.{filled_none, filled_more}
use Rattle.variable_nodes.proofs.put_messages.Goals as goal

pub loop-k-init : goal.loop-k-init
loop-k-init c = filled_none _ _

pub loop-k-preserved : goal.loop-k-preserved
loop-k-preserved c = filled_more (omega arith) c.loop-k.invariant c.outgoing_message.ensures
