use mathlib.Core.Path.{ap, ap₂, ◌∙◌}
use lib.Ieee.{binary32, mul, lt}
use Rattle.settings.specs.Quantiser.{size, level_for}
use Rattle.settings.proofs.Floats.{one_is}
use Rattle.settings.proofs.Exposure.{exposed_is}
use Rattle.quantiser.proofs.is_exposed.Goals as goal

pub returns : goal.returns
unfolding level_for
returns c =
    let a = c.args in
    λ N l u. ap₂ lt one_is (ap (mul binary32 a.factor) c.size_of.ensures) ∙ exposed_is (mul binary32 a.factor (size a.y)) N l u
