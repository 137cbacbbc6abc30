use mathlib.Core.Path.{ap₂}
use mathlib.Core.Bool.{◌&&◌}
use Rattle.block_text.proofs.counts_fit.Goals as goal

pub returns : goal.returns
returns c = ap₂ ◌&&◌ c.in_range.ensures c.in_range-2.ensures
