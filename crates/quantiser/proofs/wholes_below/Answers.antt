use mathlib.Core.Path.{◌≡◌, ap, ◌∙◌}
use Prim.Native.Nat.{◌+◌}
use native.Mathlib.Omega.{arith}
use lib.Ieee.{lt}
use mir.Val.{bool_byte}
use Rattle.settings.specs.Scaling.{whole}
use Rattle.settings.specs.Quantiser.{wholes_below}
use Rattle.settings.proofs.Magnitudes.{below_none, one_more_fits, below_more, below_within}
use Rattle.quantiser.proofs.wholes_below.Goals as goal

pub loop-k-init : goal.loop-k-init
loop-k-init c = below_none c.args.p

pub overflow_add-n-in-loop-k : goal.overflow_add-n-in-loop-k
overflow_add-n-in-loop-k c = one_more_fits c.loop-k.n _ (omega (arith, c.loop-k.invariant, below_within c.loop-k.k c.args.p))

pub loop-k-preserved : goal.loop-k-preserved
loop-k-preserved c = ap (λ m. m + bool_byte (lt (whole (c.loop-k.k + 1)) c.args.p)) c.loop-k.invariant ∙ below_more c.loop-k.k c.args.p

pub returns : goal.returns
returns c =
    let full : c.loop-k.k ≡ c.args.most = omega arith in
    let told = c.loop-k.invariant ∙ ap (λ k. wholes_below k c.args.p) full in
    (told, omega (arith, told, below_within c.args.most c.args.p))
