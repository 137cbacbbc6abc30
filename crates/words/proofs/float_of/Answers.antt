use mathlib.Core.Path.{◌∙◌}
use Rattle.words.proofs.Patterns.{nan_is, nan_pattern, no_nan_pattern}
use Rattle.words.proofs.float_of.Goals as goal

pub float_from_bits-result : goal.float_from_bits-result
float_from_bits-result c = no_nan_pattern c.args.bits c.if-bits-gt2139095040.false

pub returns-then-bits-gt2139095040 : goal.returns-then-bits-gt2139095040
returns-then-bits-gt2139095040 c = nan_is ∙ nan_pattern c.args.bits c.if-bits-gt2139095040.true
