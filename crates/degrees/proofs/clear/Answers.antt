use mathlib.Core.Path.{refl}
use native.Mathlib.Omega.{arith}
use Rattle.words.proofs.Filling.{filled_none, filled_more}
use Rattle.degrees.proofs.clear.Goals as goal

pub loop-v-init : goal.loop-v-init
loop-v-init c = filled_none 4 (λ _. 0) c.args.degrees.now

pub loop-v-preserved : goal.loop-v-preserved
loop-v-preserved c = filled_more (omega arith) c.loop-v.invariant c.put_degree.ensures refl
