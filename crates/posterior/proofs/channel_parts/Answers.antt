use mathlib.Core.Path.{ap, ◌∙◌}
use Prim.Native.Nat.{ℕ}
use native.Mathlib.Omega.{arith}
use mir.Syntax.{w32}
use mir.Val.{of_z}
use mir.ValLaws.{to_z-of_z}
use Rattle.rules.specs.Nodes.{contribution, extra}
use Rattle.words.proofs.Filling.{filled_none, filled_more}
use Rattle.nodes.specs.Memory.{level_in}
use Rattle.posterior.proofs.channel_parts.Goals as goal

pub loop-v-init : goal.loop-v-init
loop-v-init c = filled_none 4 _ _

pub loop-v-preserved : goal.loop-v-preserved
loop-v-preserved c = filled_more (omega arith) c.loop-v.invariant c.put_sum.ensures
    (ap (of_z w32) (to_z-of_z w32 c.contribution-part.result (record { sfits = c.contribution-part.type_inv }) ∙ c.contribution-part.ensures
    ∙ ap (λ (e : ℕ). contribution e (level_in c.args.levels.now c.loop-v.v)) (c.extra.ensures ∙ ap extra c.degree.ensures.0)))
