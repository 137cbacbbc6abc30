-- Document 01, 'Levels and scaling': the level of a channel value, for any largest magnitude N.
use Rattle.std.specs.Prelude.{Bool, false, ℕ, Float}
use Rattle.std.specs.Float.{nan, inf, fin, binary32}
use Rattle.std.specs.Float.Ieee.{mul, lt}
use Rattle.rules.specs.Ranges.{count}
use Rattle.rules.specs.Levels.{Level}
use Rattle.settings.specs.Scaling.{whole}

-- The sign bit of y. (A NaN, which is refused, has none.)
abbrev pub sign_bit : Float → Bool
sign_bit nan = false
sign_bit (inf s) = s
sign_bit (fin s m e) = s

-- |y|
abbrev pub size : Float → Float
size nan = nan
size (inf s) = inf false
size (fin s m e) = fin false m e

-- 'How many of 1, 2, .., N lie strictly below p.'
unfoldable pub wholes_below : ℕ → Float → ℕ
wholes_below N p = count (λ k. lt (whole k) p) 1 N

-- 'For a channel value y let p = factor × |y|, rounded once. The magnitude is how many of 1, 2, .., Nch lie strictly below p. The sign is
-- the sign bit of y, so negative zero gives -0.'
unfoldable pub level_for : ℕ → Float → Float → Level
level_for N factor y = record { minus = sign_bit y; magnitude = wholes_below N (mul binary32 factor (size y)) }
