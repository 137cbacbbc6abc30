use native.Mathlib.Omega.{arith}
use Rattle.rules.specs.Levels.{level_of}
use Rattle.rules.specs.Nodes.{first_bit}
use Rattle.rules.proofs.Filling.{filled_none, filled_more}
use Rattle.nodes.proofs.Leaves.{sign_of}
use Rattle.check_nodes.proofs.first.first_bits.Goals as goal

pub loop-v-init : goal.loop-v-init
loop-v-init c = filled_none _ _

pub loop-v-preserved : goal.loop-v-preserved
unfolding first_bit level_of
loop-v-preserved c = filled_more (omega arith) c.loop-v.invariant (sign_of _ (c.type_inv.levels c.loop-v.v).fits)
