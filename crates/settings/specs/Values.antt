-- Document 01, 'Decode', refusal 12, the levels of all channel values, and document 02, item 4, blank ones. The values are f32, held in bytes.
use Rattle.std.specs.Prelude.{Bool, List, ◌++◌, ℕ, ◌/◌, min, Float, length, drop}
use Rattle.std.specs.Float.Ieee.Scale.{finite}
use Rattle.rules.specs.Ranges.{tabulate}
use Rattle.rules.specs.Levels.{Level, byte, blank}
use Rattle.refusals.specs.Refusals.{unless, each, Judged}
use Rattle.refusals.specs.declared.Refusal.TheVariants.{Value}
use Rattle.words.specs.Roles.{value_at}
use Rattle.settings.specs.Quantiser.{level_for}

-- 'A value infinite or NaN (first index).'
abbrev pub values_judged : List ℕ → Judged
values_judged values = each (λ v. unless (finite (value_at values v)) (Value v)) (length values / 4)

-- The channel level of variable v.
abbrev pub channel_level : ℕ → Float → List ℕ → ℕ → Level
channel_level N factor values v = level_for N factor (value_at values v)

-- Whether the channel magnitudes of all values are 0.
abbrev pub blank_values : ℕ → Float → List ℕ → Bool
blank_values N factor values = blank (channel_level N factor values) (length values / 4)

-- A list of levels whose first bytes are the values' levels, as far as both lists go; the others are as they were.
abbrev pub quantised : ℕ → Float → List ℕ → List ℕ → List ℕ
quantised N factor values old =
    let k : ℕ = min (length old) (length values / 4) in
    tabulate (λ v. byte (channel_level N factor values v)) k ++ drop k old
