use mathlib.Core.Path.{ap, ◌∙◌}
use Prim.Native.Nat.{min}
use native.Mathlib.Omega.{arith}
use Rattle.rules.specs.Levels.{byte}
use Rattle.rules.proofs.Filling.{filled_none, filled_more}
use Rattle.settings.specs.Quantiser.{level_for}
use Rattle.quantiser.proofs.quantise.Goals as goal

pub loop-v-init : goal.loop-v-init
loop-v-init c = filled_none _ _

pub loop-v-preserved : goal.loop-v-preserved
loop-v-preserved c =
    let a = c.args in
    filled_more (omega arith) c.loop-v.invariant
    (c.level.ensures ∙ ap (λ y. byte (level_for (min a.most 127) a.factor y)) c.value.ensures)
