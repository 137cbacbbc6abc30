-- Laws of floats: the code's comparisons, the sign bit, the size, and bit patterns.
use mathlib.Core.Path.{◌≡◌, refl, sym, ap, ◌∙◌, subst}
use mathlib.Core.Bool.{Bool, true, false, not, cond, true≢false}
use Prim.Native.Nat.{ℕ, zero, suc, ◌+◌, ◌/◌, ◌%◌, ◌^◌, ◌<◌}
use native.Mathlib.Omega.{arith}
use borrow.Author.Tests.{ltb-true, ltb-false, eq-eqb, ne_eqb, le-leb, lt-leb}
use lib.Dec.{T, leb, ltb, eqb}
use lib.Ieee.{Float, nan, inf, fin, binary32, neg, of_int, of_bits, of_fields, odd, to_bits, fits, is_nan, nan_bits}
use lib.Ieee.Bits.{of_bits-to_bits, nan_bits_is}
use lib.Ieee.Scale.{finite}
use Rattle.std.specs.Float.{float_is_finite, is_sign_negative}
use Rattle.settings.specs.Scaling.{whole}
use Rattle.settings.specs.Quantiser.{sign_bit, size}

-- ---- the code's constants and comparisons

pub one_is : of_bits binary32 0x3f80_0000 ≡ whole 1
unfolding of_bits of_int
one_is = refl

pub two_is : of_bits binary32 0x4000_0000 ≡ whole 2
unfolding of_bits of_int
two_is = refl

pub zero_is : of_bits binary32 0 ≡ whole 0
unfolding of_bits of_int
zero_is = refl

-- ---- the library's words

pub same_finite : (x : Float) → float_is_finite x ≡ finite x
unfolding float_is_finite
same_finite nan = refl
same_finite (inf s) = refl
same_finite (fin s m e) = refl

pub same_sign : (y : Float) → is_sign_negative y ≡ sign_bit y
unfolding is_sign_negative
same_sign nan = refl
same_sign (inf s) = refl
same_sign (fin s m e) = refl

-- ---- the NaN

only_nan : (y : Float) → is_nan y ≡ true → y ≡ nan
unfolding is_nan
only_nan nan h = refl
only_nan (inf s) h = absurd (true≢false (sym h))
only_nan (fin s m e) h = absurd (true≢false (sym h))

pub nan_sign : (y : Float) → is_nan y ≡ true → false ≡ sign_bit y
nan_sign y h = rw (only_nan y h)

pub nan_size : (y : Float) → is_nan y ≡ true → y ≡ size y
nan_size y h = rw (only_nan y h)

size_number : (y : Float) → is_nan (size y) ≡ is_nan y
unfolding is_nan
size_number nan = refl
size_number (inf s) = refl
size_number (fin s m e) = refl

-- ---- the negative

pub neg_neg : (y : Float) → neg (neg y) ≡ y
unfolding neg
neg_neg nan = refl
neg_neg (inf true) = refl
neg_neg (inf false) = refl
neg_neg (fin true m e) = refl
neg_neg (fin false m e) = refl

pub finite_neg : (y : Float) → finite (neg y) ≡ finite y
unfolding neg
finite_neg nan = refl
finite_neg (inf s) = refl
finite_neg (fin s m e) = refl

-- ---- bit patterns: the sign, the exponent's field and the digits

odd_finite : (d : ℕ) (s : Bool) (q k l : ℕ) → finite (odd d s q k l) ≡ true
unfolding odd
odd_finite d s zero k l = refl
odd_finite d s (suc q) k l = refl

odd_size : (d : ℕ) (s : Bool) (q k l : ℕ) → odd d false q k l ≡ size (odd d s q k l)
unfolding odd
odd_size d s zero k l = refl
odd_size d s (suc q) k l = refl

odd_neg : (d q k l : ℕ) → odd d true q k l ≡ neg (odd d false q k l)
unfolding odd neg
odd_neg d zero k l = refl
odd_neg d (suc q) k l = refl

fields_finite : (s : Bool) (x t : ℕ) → not (eqb x 255) ≡ finite (of_fields binary32 s x t)
unfolding of_fields
fields_finite s zero t = sym (odd_finite 24 s t 0 149)
fields_finite s (suc x) t = go (eqb (suc x) 255) (eqb t 0)
  where
    go : (a b : Bool) → not a ≡ finite (cond a (cond b (inf s) nan) (odd 24 s (8388608 + t) x 149))
    go true true = refl
    go true false = refl
    go false b = sym (odd_finite 24 s (8388608 + t) x 149)

fields_size : (s : Bool) (x t : ℕ) → of_fields binary32 false x t ≡ size (of_fields binary32 s x t)
unfolding of_fields
fields_size s zero t = odd_size 24 s t 0 149
fields_size s (suc x) t = go (eqb (suc x) 255) (eqb t 0)
  where
    go : (a b : Bool) → cond a (cond b (inf false) nan) (odd 24 false (8388608 + t) x 149) ≡ size (cond a (cond b (inf s) nan) (odd 24 s (8388608 + t) x 149))
    go true true = refl
    go true false = refl
    go false b = odd_size 24 s (8388608 + t) x 149

fields_neg : (x t : ℕ) → of_fields binary32 true x t ≡ neg (of_fields binary32 false x t)
unfolding of_fields neg
fields_neg zero t = odd_neg 24 t 0 149
fields_neg (suc x) t = go (eqb (suc x) 255) (eqb t 0)
  where
    go : (a b : Bool) → cond a (cond b (inf true) nan) (odd 24 true (8388608 + t) x 149)
        ≡ neg (cond a (cond b (inf false) nan) (odd 24 false (8388608 + t) x 149))
    go true true = refl
    go true false = refl
    go false b = odd_neg 24 (8388608 + t) x 149

-- the size is the pattern without that bit
pub size_is : (y : Float) → T (fits binary32 y) → of_bits binary32 (to_bits binary32 y % 2147483648) ≡ size y
unfolding of_bits
size_is y f =
    let u : ℕ = to_bits binary32 y in
    let clear : leb 2147483648 (u % 2147483648) ≡ false = lt-leb 2147483648 (u % 2147483648) (omega arith) in
    let low : u % 2147483648 % 2147483648 ≡ u % 2147483648 = omega arith in
    let digits : u % 2147483648 % 8388608 ≡ u % 8388608 = omega arith in
    rw (clear, low, digits) (fields_size (leb 2147483648 u) (u % 2147483648 / 8388608) (u % 8388608)) ∙ ap size (of_bits-to_bits binary32 y f)

-- .. and no NaN's where y is none
pub size_pattern : (y : Float) → T (fits binary32 y) → is_nan y ≡ false → T (not (nan_bits binary32 (to_bits binary32 y % 2147483648)))
size_pattern y f h = subst T (sym (ap not (nan_bits_is binary32 (to_bits binary32 y % 2147483648) ∙ ap is_nan (size_is y f) ∙ size_number y ∙ h))) tt

-- a finite pattern is below that of infinity, the sign left out
pub finite_is : (u : ℕ) → ltb (u % 2147483648) 2139095040 ≡ finite (of_bits binary32 u)
unfolding of_bits
finite_is u = below (u % 2147483648) (omega arith) ∙ fields_finite (leb 2147483648 u) (u % 2147483648 / 8388608) (u % 8388608)
  where
    below : (r : ℕ) → r < 2147483648 → ltb r 2139095040 ≡ not (eqb (r / 8388608) 255)
    below r l = go (ltb r 2139095040) refl
      where
        go : (b : Bool) → ltb r 2139095040 ≡ b → b ≡ not (eqb (r / 8388608) 255)
        go true t = let h = ltb-true r 2139095040 t in sym (ap not (ne_eqb (r / 8388608) 255 (λ e. omega arith)))
        go false t = let h = ltb-false r 2139095040 t in sym (ap not (eq-eqb (r / 8388608) 255 (omega arith)))

-- the highest bit negates
pub pattern_neg : (u : ℕ) → u < 2 ^ 31 → of_bits binary32 (u + 2 ^ 31) ≡ neg (of_bits binary32 u)
unfolding of_bits
pattern_neg u l =
    let set : leb 2147483648 (u + 2147483648) ≡ true = le-leb 2147483648 (u + 2147483648) (omega arith) in
    let clear : leb 2147483648 u ≡ false = lt-leb 2147483648 u l in
    let low : (u + 2147483648) % 2147483648 ≡ u % 2147483648 = omega arith in
    let digits : (u + 2147483648) % 8388608 ≡ u % 8388608 = omega arith in
    rw (set, clear, low, digits) (fields_neg (u % 2147483648 / 8388608) (u % 8388608))
