-- Document 01, 'Trial values': 'Gain 1, Nch 3: 1.0 → +0; 3f800001 → +1; 3.0 → +2; 40400001 → +3; 80000000 → -0.'
use Rattle.std.specs.Prelude.{Bool, List, [], ◌∷◌, ℕ, eqb}
use Rattle.std.specs.Float.{binary32}
use Rattle.std.specs.Float.Ieee.{of_bits}
use Rattle.rules.specs.Tables.{AllPass}
use Rattle.rules.specs.Levels.{Level, byte}
use Rattle.rules.specs.Trials.{plus, minus}
use Rattle.settings.specs.declared.Scaling.TheVariants.{Plain}
use Rattle.settings.specs.Scaling.{whole, factor_of}
use Rattle.settings.specs.Quantiser.{level_for}

-- The value with this bit pattern has this level.
pub data Trial : Type 0 where
  gives : ℕ → Level → Trial

unfoldable pub trials : List Trial
trials =
    gives 0x3f80_0000 (plus 0)
    ∷ gives 0x3f80_0001 (plus 1)
    ∷ gives 0x4040_0000 (plus 2)
    ∷ gives 0x4040_0001 (plus 3)
    ∷ gives 0x8000_0000 (minus 0)
    ∷ []

unfoldable pub passes : Trial → Bool
passes (gives b l) = eqb (byte (level_for 3 (factor_of (Plain (whole 1))) (of_bits binary32 b))) (byte l)

abbrev pub TrialsPass : Type 0
TrialsPass = AllPass passes trials
