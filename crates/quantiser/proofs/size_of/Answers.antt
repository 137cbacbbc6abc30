use mathlib.Core.Path.{sym, subst, ◌∙◌}
use lib.Dec.{T}
use Rattle.settings.proofs.Floats.{nan_size, size_is, size_pattern}
use Rattle.quantiser.proofs.size_of.Goals as goal

pub returns-then-is_nan : goal.returns-then-is_nan
returns-then-is_nan c = nan_size c.args.y (sym c.is_nan.ensures.value ∙ c.if-is_nan.true)

pub float_from_bits-result : goal.float_from_bits-result
float_from_bits-result c = size_pattern c.args.y (subst T (sym c.well_formed.0.1) tt) (sym c.is_nan.ensures.value ∙ c.if-is_nan.false)

pub returns : goal.returns
returns c = size_is c.args.y (subst T (sym c.well_formed.0.1) tt)
