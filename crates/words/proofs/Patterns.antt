-- Bit patterns of floats: which of them are a NaN's, and what the highest bit adds.
use mathlib.Core.Path.{◌≡◌, refl, sym, ap, ◌∙◌, subst}
use mathlib.Core.Bool.{true, not}
use mathlib.Core.List.{List}
use Prim.Native.Nat.{ℕ, ◌+◌, ◌*◌, ◌%◌, ◌^◌, ◌<◌, ◌≤◌}
use native.Mathlib.Omega.{arith}
use borrow.Author.Tests.{lt-ltb, le-ltb}
use lib.Dec.{T}
use lib.Ieee.{Float, nan, inf, fin, binary32, div, of_bits, is_nan, nan_bits}
use lib.Ieee.Bits.{nan_bits_is, nan_bits_above}
use lib.ListN.{get_or}
use Rattle.words.specs.Roles.{pattern_at}
use Rattle.words.proofs.Words.{word_ext, word_last}

pub nan_is : div binary32 (of_bits binary32 0) (of_bits binary32 0) ≡ nan
unfolding of_bits div
nan_is = refl

only_nan : (x : Float) → is_nan x ≡ true → nan ≡ x
unfolding is_nan
only_nan nan h = refl
only_nan (inf s) h = absurd (subst T (sym h) tt)
only_nan (fin s m e) h = absurd (subst T (sym h) tt)

-- a NaN's pattern is above that of infinity, the sign left out
pub nan_pattern : (u : ℕ) → 2139095040 < u % 2147483648 → nan ≡ of_bits binary32 u
nan_pattern u h = only_nan (of_bits binary32 u) (sym (nan_bits_is binary32 u) ∙ nan_bits_above binary32 u ∙ lt-ltb 2139095040 (u % 2147483648) h)

pub no_nan_pattern : (u : ℕ) → u % 2147483648 ≤ 2139095040 → T (not (nan_bits binary32 u))
no_nan_pattern u h = subst T (sym (ap not (nan_bits_above binary32 u ∙ le-ltb 2139095040 (u % 2147483648) h))) tt

-- The pattern's highest bit is its last byte's: where c has that bit and b has not, and nothing else differs, c's pattern is larger by 2 ^ 31.
-- Where b has it and c has not, change their places.
pub pattern_turned : (b c : List ℕ) (v : ℕ) → ((k : ℕ) → 4 * v ≤ k → k < 4 * v + 3 → get_or c k 0 ≡ get_or b k 0)
    → get_or c (4 * v + 3) 0 ≡ get_or b (4 * v + 3) 0 + 128 → pattern_at c v ≡ pattern_at b v + 2 ^ 31
pattern_turned b c v same top =
    omega (arith, word_last 3 b (4 * v), word_last 3 c (4 * v), word_ext 3 c b (4 * v) same)
