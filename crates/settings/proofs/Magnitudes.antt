-- Laws of magnitudes: counting thresholds, and the level's byte.
use mathlib.Core.Path.{◌≡◌, refl, ap, ap₂, ◌∙◌}
use mathlib.Core.Bool.{Bool, true, false, cond}
use mathlib.Core.List.{List, append-nil}
use Prim.Native.Nat.{ℕ, ◌+◌, ◌/◌, ◌≤◌, ◌<◌, min}
use native.Mathlib.Numerals.{add-one}
use native.Mathlib.Omega.{arith}
use lib.Ieee.{Float, binary32, mul, lt}
use lib.ListN.{length, drop_of_length-le}
use mir.Syntax.{w8}
use mir.Val.{Fits, bool_byte}
use Rattle.rules.specs.Ranges.{fold, one, count, tabulate}
use Rattle.rules.specs.Levels.{byte}
use Rattle.rules.proofs.Ranges.{count_le}
use Rattle.settings.specs.Scaling.{whole}
use Rattle.settings.specs.Quantiser.{sign_bit, size, wholes_below, level_for}
use Rattle.settings.specs.Values.{channel_level, quantised}
use Rattle.settings.specs.Theorems.{MagnitudesWithin}

pub below_none : (p : Float) → 0 ≡ wholes_below 0 p
unfolding wholes_below count fold
below_none p = refl

byte_one : (b : Bool) → bool_byte b ≡ one b
byte_one true = refl
byte_one false = refl

-- a small count and one test more
pub one_more_fits : (n : ℕ) (b : Bool) → n < 128 → Fits w8 (n + bool_byte b)
one_more_fits n true l = record { fits = omega arith }
one_more_fits n false l = record { fits = omega arith }

-- one threshold more
pub below_more : (k : ℕ) (p : Float) → wholes_below k p + bool_byte (lt (whole (k + 1)) p) ≡ wholes_below (k + 1) p
unfolding wholes_below count fold
below_more k p =
    ap (λ n. wholes_below k p + n) (byte_one (lt (whole (k + 1)) p))
    ∙ rw (add-one k) (ap (λ j. wholes_below k p + one (lt (whole j) p)) (omega arith))

pub below_within : (N : ℕ) (p : Float) → wholes_below N p ≤ N
unfolding wholes_below
below_within N p = count_le (λ k. lt (whole k) p) 1 N

pub magnitudes_within : MagnitudesWithin
unfolding level_for
magnitudes_within N factor y = below_within N (mul binary32 factor (size y))

pub sign_part : (y : Float) → cond (sign_bit y) 128 0 ≤ 128
sign_part y = go (sign_bit y)
  where
    go : (b : Bool) → cond b 128 0 ≤ 128
    go true = omega arith
    go false = omega arith

pub level_byte_lem : (N : ℕ) (factor y : Float) {m s : ℕ} → m ≡ wholes_below N (mul binary32 factor (size y)) → s ≡ cond (sign_bit y) 128 0
    → m + s ≡ byte (level_for N factor y)
unfolding level_for byte
level_byte_lem N factor y p q = ap₂ ◌+◌ p q

-- a level for each value, of magnitudes that a byte holds
pub quantised_all : (N : ℕ) (factor : Float) (values old : List ℕ) → N < 128 → length old ≡ length values / 4
    → quantised (min N 127) factor values old ≡ tabulate (λ v. byte (channel_level N factor values v)) (length values / 4)
quantised_all N factor values old small long =
    let k : min N 127 ≡ N = omega arith in
    let n : min (length old) (length values / 4) ≡ length values / 4 = omega arith in
    rw (k, n, drop_of_length-le old {i = length values / 4} (omega arith)) (append-nil (tabulate (λ v. byte (channel_level N factor values v)) (length values / 4)))
