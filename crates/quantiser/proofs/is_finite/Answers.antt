use Rattle.settings.proofs.Floats.{finite_is}
use Rattle.quantiser.proofs.is_finite.Goals as goal

pub returns : goal.returns
returns c = finite_is c.args.bits
