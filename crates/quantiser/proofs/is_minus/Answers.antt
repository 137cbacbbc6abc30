use mathlib.Core.Path.{sym, ◌∙◌}
use Rattle.settings.proofs.Floats.{same_sign, nan_sign}
use Rattle.quantiser.proofs.is_minus.Goals as goal

pub returns-then-not-is_nan : goal.returns-then-not-is_nan
returns-then-not-is_nan c = c.is_sign_negative.ensures ∙ same_sign c.args.y

pub returns-else-not-is_nan : goal.returns-else-not-is_nan
returns-else-not-is_nan c = rw c.if-not-is_nan.false (nan_sign c.args.y (sym c.is_nan.ensures.value ∙ c.if-not-is_nan.false))
