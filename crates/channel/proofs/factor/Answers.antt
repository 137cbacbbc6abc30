use mathlib.Core.Path.{sym, ap}
use Rattle.settings.specs.Scaling.{factor_of}
use Rattle.settings.proofs.Floats.{two_is}
use Rattle.channel.proofs.factor.Goals as goal

pub returns-in-Noise : goal.returns-in-Noise
returns-in-Noise c = rw two_is (sym (ap factor_of c.in-Noise.is))
