-- What is promised of settings and levels. Each statement is a type; proofs/ has a proof of each.
use Rattle.std.specs.Prelude.{◌≡◌, Bool, true, List, ℕ, ◌/◌, ◌≤◌, ◌<◌, Float, length, Ok}
use Rattle.rules.specs.Levels.{largest}
use Rattle.rules.specs.Nodes.{never}
use Rattle.rules.specs.Symmetry.{turned}
use Rattle.settings.specs.declared.Parameters.{Parameters}
use Rattle.settings.specs.declared.Settings.{Settings}
use Rattle.settings.specs.Scaling.{positive}
use Rattle.settings.specs.Quantiser.{level_for}
use Rattle.settings.specs.Settings.{largest_lift, judged_with, settings_judged, settings, settings_of}
use Rattle.settings.specs.Values.{values_judged, channel_level, blank_values}
use Rattle.settings.specs.Reversal.{Bytes, reversed}

-- 'b bits allow magnitudes 0 to N.'
abbrev pub MagnitudesWithin : Type 0
MagnitudesWithin = (N : ℕ) (factor y : Float) → (level_for N factor y).magnitude ≤ N

-- What is known of settings that were not turned down.
pub record Admissible (s : Settings) : Type 0 where
  pub factor : positive s.factor ≡ true
  pub channel : (3 ≤ s.channel) × (s.channel ≤ 4)
  pub message : (2 ≤ s.message) × (s.message ≤ s.channel)
  pub offsets : (s.phi_s ≤ 1) × (s.phi_a ≤ 1) × (s.phi_0 ≤ 1)
  pub limit : s.limit ≤ 255
  pub lifting : (1 ≤ s.lift_from) × (s.lift_from ≤ never) × (largest s.message < s.lift_to) × (s.lift_to ≤ largest_lift)

abbrev pub GoodSettings : Type 0
GoodSettings = (p : Parameters) (s : Settings) → settings_of p ≡ Ok s → (s ≡ settings p) × Admissible s

-- L = 256 with W = 15, which the run text means, is admitted at every precision: such settings are judged as they were before there was 16.
abbrev pub JudgedAsBefore : Type 0
JudgedAsBefore = (p : Parameters) → p.lift_from ≡ never → p.lift_to ≡ largest_lift → settings_judged p ≡ judged_with p (Ok tt)

-- Values with signs reversed are turned down where the values are, at the same index.
abbrev pub ReversedJudged : Type 0
ReversedJudged = (c : ℕ → Bool) (values : List ℕ) → Bytes values → values_judged (reversed c values) ≡ values_judged values

-- Their levels are the values' levels, with the signs reversed where c.
abbrev pub ReversedLevels : Type 0
ReversedLevels = (c : ℕ → Bool) (values : List ℕ) → Bytes values → values_judged values ≡ Ok tt
    → (N : ℕ) (factor : Float) (v : ℕ) → v < length values / 4
    → channel_level N factor (reversed c values) v ≡ turned (c v) (channel_level N factor values v)

-- They are blank where the values are, whatever the values and c.
abbrev pub ReversedBlank : Type 0
ReversedBlank = (c : ℕ → Bool) (values : List ℕ) → Bytes values → (N : ℕ) (factor : Float) → blank_values N factor (reversed c values) ≡ blank_values N factor values
