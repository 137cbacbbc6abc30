-- The trial values, by computation: where a definition is wrong, the rows that fail are shown.
use mathlib.Core.Path.{refl}
use lib.Ieee.{mul, lt, of_int, of_bits}
use Rattle.rules.specs.Tables.{failures}
use Rattle.rules.specs.Ranges.{fold, count}
use Rattle.rules.specs.Levels.{byte}
use Rattle.settings.specs.Quantiser.{wholes_below, level_for}
use Rattle.settings.specs.Trials.{trials, passes, TrialsPass}

pub trials_pass : TrialsPass
unfolding mul lt of_int of_bits fold count byte wholes_below level_for trials passes failures
trials_pass = refl
