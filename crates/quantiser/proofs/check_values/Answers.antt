use mathlib.Core.Path.{sym}
use native.Mathlib.Omega.{arith}
use Rattle.refusals.proofs.Judging.{passed_none, passed_more, failed_at}
use Rattle.quantiser.proofs.check_values.Goals as goal

pub loop-v-init : goal.loop-v-init
loop-v-init c = passed_none

pub returns-then-not-is_finite : goal.returns-then-not-is_finite
returns-then-not-is_finite c = sym (failed_at c.loop-v.invariant (cc) (omega arith))

pub loop-v-preserved : goal.loop-v-preserved
loop-v-preserved c = passed_more c.loop-v.invariant (cc)
