-- Document 01, 'Levels and scaling': the scaling and its factor.
use Rattle.std.specs.Prelude.{Bool, true, false, ◌&&◌, ℕ, eqb, pos, Float}
use Rattle.std.specs.Float.{nan, inf, fin, binary32}
use Rattle.std.specs.Float.Ieee.{mul, div, lt, of_int}
use Rattle.std.specs.Float.Ieee.Scale.{finite}
use Rattle.settings.specs.declared.Scaling.{Scaling}
use Rattle.settings.specs.declared.Scaling.TheVariants.{Plain, Noise}

-- The number k as an f32.
abbrev pub whole : ℕ → Float
whole k = of_int binary32 (pos k)

-- 'The factor is the gain, or (2 × gain) / variance, as f32, each operation rounded once.'
abbrev pub factor_of : Scaling → Float
factor_of (Plain gain) = gain
factor_of (Noise gain variance) = div binary32 (mul binary32 (whole 2) gain) variance

-- 'Finite and above zero.'
unfoldable pub positive : Float → Bool
positive x = finite x && lt (whole 0) x

-- 'Gain or variance not finite and above zero' is refused. A plain gain has no variance to look at.
abbrev pub scaling_admitted : Scaling → Bool
scaling_admitted (Plain gain) = positive gain
scaling_admitted (Noise gain variance) = positive gain && positive variance

-- 'Factor infinite or zero.'
abbrev pub infinite_or_zero : Float → Bool
infinite_or_zero nan = false
infinite_or_zero (inf s) = true
infinite_or_zero (fin s m e) = eqb m 0
