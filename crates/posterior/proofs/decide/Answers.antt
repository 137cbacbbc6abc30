use mathlib.Core.Path.{ap, ◌∙◌}
use native.Mathlib.Omega.{arith}
use lib.IntN.{ℤ}
use mir.Syntax.{w32}
use mir.ValLaws.{to_z-of_z}
use Rattle.rules.specs.Ranges.{one}
use Rattle.rules.specs.Levels.{level_of}
use Rattle.rules.specs.Nodes.{bit_of}
use Rattle.rules.proofs.Filling.{filled_none, filled_more}
use Rattle.nodes.specs.Memory.{level_in}
use Rattle.posterior.proofs.decide.Goals as goal

pub loop-v-init : goal.loop-v-init
loop-v-init c = filled_none _ _

pub loop-v-preserved : goal.loop-v-preserved
unfolding level_of
loop-v-preserved c = filled_more (omega arith) c.loop-v.invariant
    (c.bit.ensures ∙ ap (λ (s : ℤ). one (bit_of s (level_in c.args.levels.now c.loop-v.v).minus)) (to_z-of_z w32 c.sum.result (record { sfits = c.sum.type_inv }) ∙ c.sum.ensures))
