use mathlib.Core.Path.{ap, ◌∙◌}
use Prim.Native.Nat.{ℕ, min}
use native.Mathlib.Omega.{arith}
use Rattle.rules.specs.Levels.{byte}
use Rattle.rules.specs.Nodes.{first_message}
use Rattle.rules.proofs.Filling.{filled_none, filled_more}
use Rattle.nodes.specs.Memory.{level_in}
use Rattle.check_nodes.proofs.first.first_messages.Goals as goal

pub loop-e-init : goal.loop-e-init
loop-e-init c = filled_none _ _

pub loop-e-preserved : goal.loop-e-preserved
unfolding first_message
loop-e-preserved c = filled_more (omega arith) c.loop-e.invariant
    (c.clipped.ensures ∙ ap (λ (v : ℕ). byte (record { minus = (level_in c.args.levels.now v).minus; magnitude = min (level_in c.args.levels.now v).magnitude c.args.most })) c.column.ensures.0)
