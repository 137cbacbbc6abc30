use mathlib.Core.Path.{ap₂, ◌∙◌}
use Prim.Native.Nat.{min}
use lib.Ieee.{binary32, mul}
use Rattle.settings.specs.Quantiser.{wholes_below}
use Rattle.settings.proofs.Magnitudes.{level_byte_lem}
use Rattle.quantiser.proofs.level.Goals as goal

pub returns : goal.returns
returns c =
    let a = c.args in
    level_byte_lem (min a.most 127) a.factor a.y
    (c.wholes_below.ensures.0 ∙ ap₂ (λ N x. wholes_below N (mul binary32 a.factor x)) c.min.ensures c.size_of.ensures) c.sign_of.ensures
