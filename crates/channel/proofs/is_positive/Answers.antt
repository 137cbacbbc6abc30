use mathlib.Core.Path.{ap₂, ◌∙◌}
use mathlib.Core.Bool.{◌&&◌}
use lib.Ieee.{lt}
use Rattle.settings.specs.Scaling.{positive}
use Rattle.settings.proofs.Floats.{zero_is, same_finite}
use Rattle.channel.proofs.is_positive.Goals as goal

pub returns : goal.returns
unfolding positive
returns c = ap₂ (λ b z. b && lt z c.args.x) (c.is_finite.ensures.value ∙ same_finite c.args.x) zero_is
