-- The factor of an admitted scaling is no NaN and not negative: it is finite and above zero unless it is infinite or zero.
use mathlib.Core.Path.{◌≡◌, refl, sym, ap, ◌∙◌}
use mathlib.Core.Bool.{Bool, true, false, not, cond, true≢false}
use Prim.Native.Nat.{ℕ, zero, suc, ◌+◌, ◌*◌, ◌^◌}
use native.Mathlib.Nat.{zero-mul, mul-one, mul-pos, zero-lt-suc}
use native.Mathlib.Omega.{arith}
use borrow.Author.Tests.{ltb-true, lt-ltb, le-ltb}
use lib.Dec.{ltb, eqb-suc-zero}
use lib.IntN.{ℤ}
use lib.Ieee.{Float, nan, inf, fin, Format, binary32, low, emax, prec, up, down, odd, units, round, mul, div, lt, of_int}
use lib.Ieee.Fits.{up_pos}
use Rattle.rules.proofs.Tests.{and_left, and_right}
use Rattle.settings.specs.declared.Scaling.{Scaling}
use Rattle.settings.specs.declared.Scaling.TheVariants.{Plain, Noise}
use Rattle.settings.specs.Scaling.{whole, factor_of, positive, scaling_admitted, infinite_or_zero}

-- ---- finite and above zero, by its parts

data Above : Float → Type 0 where
  above : (m : ℕ) (e : ℤ) → Above (fin false (suc m) e)

positive_above : (x : Float) → positive x ≡ true → Above x
unfolding positive lt of_int
positive_above nan h = absurd (true≢false (sym h))
positive_above (inf s) h = absurd (true≢false (sym h))
positive_above (fin true m e) h = absurd (true≢false (sym h))
positive_above (fin false zero e) h = absurd (omega (arith, ltb-true (0 * 1 * down e) (0 * up e * 1) h))
positive_above (fin false (suc m) e) h = above m e

two_above : Above (whole 2)
unfolding of_int
two_above = above 0 _

-- ---- no NaN, and the sign bit clear

abbrev plus : Float → Bool
plus nan = false
plus (inf s) = not s
plus (fin s m e) = not s

odd_plus : (d q k l : ℕ) → plus (odd d false q k l) ≡ true
unfolding odd
odd_plus d zero k l = refl
odd_plus d (suc q) k l = refl

units_plus : (f : Format) (q k : ℕ) → plus (units f false q k) ≡ true
unfolding units
units_plus f q k = go (ltb (q * 2 ^ k) (2 ^ (low f + suc (emax f))))
  where
    go : (b : Bool) → plus (cond b (odd (suc (prec f)) false q k (low f)) (inf false)) ≡ true
    go true = odd_plus (suc (prec f)) q k (low f)
    go false = refl

round_plus : (f : Format) (a b : ℕ) → plus (round f false a b) ≡ true
unfolding round
round_plus f a b = units_plus f _ _

mul_plus : {x y : Float} → Above x → Above y → plus (mul binary32 x y) ≡ true
unfolding mul
mul_plus (above m e) (above n d) = round_plus binary32 (suc m * up e * (suc n * up d)) (down e * down d)

div_plus : (x : Float) {v : Float} → plus x ≡ true → Above v → plus (div binary32 x v) ≡ true
unfolding div
div_plus nan h (above n d) = absurd (true≢false (sym h))
div_plus (inf true) h (above n d) = absurd (true≢false (sym h))
div_plus (inf false) h (above n d) = refl
div_plus (fin true m e) h (above n d) = absurd (true≢false (sym h))
div_plus (fin false m e) h (above n d) = rw (eqb-suc-zero n) (round_plus binary32 (m * up e * down d) (suc n * up d * down e))

above_plus : {x : Float} → Above x → plus x ≡ true
above_plus (above m e) = refl

factor_plus : (s : Scaling) → scaling_admitted s ≡ true → plus (factor_of s) ≡ true
factor_plus (Plain gain) h = above_plus (positive_above gain h)
factor_plus (Noise gain variance) h =
    div_plus (mul binary32 (whole 2) gain)
    (mul_plus two_above (positive_above gain (and_left (positive gain) (positive variance) h)))
    (positive_above variance (and_right (positive gain) (positive variance) h))

plus_positive : (x : Float) → plus x ≡ true → positive x ≡ not (infinite_or_zero x)
unfolding positive lt of_int
plus_positive nan h = absurd (true≢false (sym h))
plus_positive (inf s) h = refl
plus_positive (fin true m e) h = absurd (true≢false (sym h))
plus_positive (fin false zero e) h = le-ltb (0 * 1 * down e) (0 * up e * 1) (omega arith)
plus_positive (fin false (suc m) e) h =
    lt-ltb (0 * 1 * down e) (suc m * up e * 1) (simp (zero-mul, mul-one) (mul-pos (zero-lt-suc m) (up_pos e))) ∙ sym (ap not (eqb-suc-zero m))

pub factor_positive : (s : Scaling) → scaling_admitted s ≡ true → positive (factor_of s) ≡ not (infinite_or_zero (factor_of s))
factor_positive s h = plus_positive (factor_of s) (factor_plus s h)
