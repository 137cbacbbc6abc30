use mathlib.Core.Path.{◌≡◌}
use Rattle.settings.specs.Quantiser.{wholes_below}
use Rattle.quantiser.proofs.wholes_below.Given as goal

abbrev pub invariant-loop-k : goal.invariant-loop-k
invariant-loop-k l = l.n ≡ wholes_below l.k l.p
