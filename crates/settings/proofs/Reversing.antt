-- Values with signs reversed: their bytes, their values, how they are judged, and their levels.
use Rattle.std.specs.Prelude.{Ok}
use mathlib.Core.Path.{◌≡◌, refl, sym, ap, ◌∙◌}
use mathlib.Core.Bool.{Bool, true, false, cond, ◌&&◌, xor, true≢false}
use mathlib.Core.List.{List}
use Prim.Native.Nat.{ℕ, ◌+◌, ◌*◌, ◌/◌, ◌%◌, ◌^◌, ◌≤◌, ◌<◌}
use native.Mathlib.Decide.{dec_lt}
use native.Mathlib.Omega.{arith}
use borrow.Author.Tests.{eq-eqb, ne_eqb}
use lib.Dec.{eqb}
use lib.Ieee.{Float, nan, inf, fin, binary32, neg, of_bits}
use lib.Ieee.Scale.{finite}
use lib.ListN.{length, get_or, get_or-eq_default}
use Rattle.rules.specs.Levels.{blank}
use Rattle.refusals.specs.Refusals.{unless, or_else, each}
use Rattle.rules.specs.Symmetry.{turned}
use Rattle.refusals.specs.declared.Refusal.TheVariants.{Value}
use Rattle.rules.proofs.Ranges.{fold_ext, length_tabulate, get_d_tabulate}
use Rattle.refusals.proofs.Judging.{all_true}
use Rattle.rules.proofs.Blanks.{blank_same}
use Rattle.words.specs.Roles.{pattern_at, value_at}
use Rattle.words.proofs.Words.{word_ext, word_last, word_bound}
use Rattle.words.proofs.Patterns.{pattern_turned}
use Rattle.settings.specs.Quantiser.{level_for}
use Rattle.settings.specs.Values.{channel_level}
use Rattle.settings.specs.Reversal.{Bytes, reversed_byte, reversed}
use Rattle.settings.specs.Theorems.{ReversedJudged, ReversedLevels, ReversedBlank}
use Rattle.settings.proofs.Floats.{neg_neg, finite_neg, pattern_neg}

-- ---- one value

-- y, negated where b
abbrev pub negated : Bool → Float → Float
negated false y = y
negated true y = neg y

pub negated_finite : (b : Bool) (y : Float) → finite (negated b y) ≡ finite y
negated_finite false y = refl
negated_finite true y = finite_neg y

-- the sign is reversed, the magnitude kept
pub negated_level : (N : ℕ) (factor : Float) (b : Bool) (y : Float) → finite y ≡ true → level_for N factor (negated b y) ≡ turned b (level_for N factor y)
unfolding level_for turned neg xor
negated_level N factor b nan h = absurd (true≢false (sym h))
negated_level N factor b (inf s) h = absurd (true≢false (sym h))
negated_level N factor false (fin true m e) h = refl
negated_level N factor false (fin false m e) h = refl
negated_level N factor true (fin true m e) h = refl
negated_level N factor true (fin false m e) h = refl

-- the magnitude is kept of a value that is not finite too
negated_magnitude : (N : ℕ) (factor : Float) (b : Bool) (y : Float) → (level_for N factor (negated b y)).magnitude ≡ (level_for N factor y).magnitude
unfolding level_for neg
negated_magnitude N factor false y = refl
negated_magnitude N factor true nan = refl
negated_magnitude N factor true (inf s) = refl
negated_magnitude N factor true (fin s m e) = refl

-- ---- the bytes

module _ (c : ℕ → Bool) (values : List ℕ) where
  pub length_reversed : length (reversed c values) ≡ length values
  unfolding reversed
  length_reversed = length_tabulate (reversed_byte c values) (length values)

  byte_is : (k : ℕ) → k < length values → get_or (reversed c values) k 0 ≡ reversed_byte c values k
  unfolding reversed
  byte_is k l = get_d_tabulate (reversed_byte c values) (length values) k 0 l

  module _ (v : ℕ) (u : v < length values / 4) where
    low_bytes : (k : ℕ) → 4 * v ≤ k → k < 4 * v + 3 → get_or (reversed c values) k 0 ≡ get_or values k 0
    unfolding reversed_byte
    low_bytes k l h = byte_is k (omega arith) ∙ rw (ne_eqb (k % 4) 3 (λ e. omega arith))

    last_byte : get_or (reversed c values) (4 * v + 3) 0 ≡ cond (c v) ((get_or values (4 * v + 3) 0 + 128) % 256) (get_or values (4 * v + 3) 0)
    unfolding reversed_byte
    last_byte = byte_is (4 * v + 3) (omega arith) ∙ rw (eq-eqb ((4 * v + 3) % 4) 3 (omega arith), at)
      where
        at : (4 * v + 3) / 4 ≡ v
        at = omega arith

-- a pattern whose last byte has not the highest bit
pattern_low : (b : List ℕ) (v : ℕ) → Bytes b → get_or b (4 * v + 3) 0 < 128 → pattern_at b v < 2 ^ 31
pattern_low b v ok l = omega (arith, word_last 3 b (4 * v), word_bound 3 b (4 * v) (λ j m u. ok j))

module _ (c : ℕ → Bool) (values : List ℕ) (ok : Bytes values) where
  pub reversed_bytes : Bytes (reversed c values)
  unfolding reversed_byte
  reversed_bytes k = go (dec_lt k (length values))
    where
      either : (b : Bool) {x y : ℕ} → x < 256 → y < 256 → cond b x y < 256
      either true p q = p
      either false p q = q

      go : Dec (k < length values) → get_or (reversed c values) k 0 < 256
      go (yes l) = rw (byte_is c values k l) (either (eqb (k % 4) 3 && c (k / 4)) (omega arith) (ok k))
      go (no l) = rw (get_or-eq_default (reversed c values) 0 {n = k} (omega (arith, length_reversed c values))) (omega arith)

  value_reversed : (v : ℕ) → v < length values / 4 → value_at (reversed c values) v ≡ negated (c v) (value_at values v)
  value_reversed v u = go (c v) (last_byte c values v u)
    where
      b : ℕ
      b = get_or values (4 * v + 3) 0

      set : Dec (b < 128) → get_or (reversed c values) (4 * v + 3) 0 ≡ (b + 128) % 256 → value_at (reversed c values) v ≡ neg (value_at values v)
      set (yes l) e =
          ap (of_bits binary32) (pattern_turned values (reversed c values) v (low_bytes c values v u) (omega arith)) ∙ pattern_neg (pattern_at values v) (pattern_low values v ok l)
      set (no l) e =
          let h = ok (4 * v + 3) in
          sym (neg_neg (value_at (reversed c values) v))
          ∙ ap neg (sym (ap (of_bits binary32) (pattern_turned (reversed c values) values v (λ k m n. sym (low_bytes c values v u k m n)) (omega arith))
          ∙ pattern_neg (pattern_at (reversed c values) v) (pattern_low (reversed c values) v reversed_bytes (omega arith))))

      go : (t : Bool) → get_or (reversed c values) (4 * v + 3) 0 ≡ cond t ((b + 128) % 256) b → value_at (reversed c values) v ≡ negated t (value_at values v)
      go true e = set (dec_lt b 128) e
      go false e = ap (of_bits binary32) (word_ext 4 (reversed c values) values (4 * v) (λ k l h. same k l h (dec_lt k (4 * v + 3))))
        where
          same : (k : ℕ) → 4 * v ≤ k → k < 4 * v + 4 → Dec (k < 4 * v + 3) → get_or (reversed c values) k 0 ≡ get_or values k 0
          same k l h (yes p) = low_bytes c values v u k l p
          same k l h (no p) = let last : k ≡ 4 * v + 3 = omega arith in rw last e

  finite_reversed : (v : ℕ) → v < length values / 4 → finite (value_at (reversed c values) v) ≡ finite (value_at values v)
  finite_reversed v u = ap finite (value_reversed v u) ∙ negated_finite (c v) (value_at values v)

pub reversed_judged : ReversedJudged
unfolding each
reversed_judged c values ok =
    ap (λ n. each (λ v. unless (finite (value_at (reversed c values) v)) (Value v)) (n / 4)) (length_reversed c values)
    ∙ fold_ext or_else (Ok tt) (λ v. unless (finite (value_at (reversed c values) v)) (Value v)) (λ v. unless (finite (value_at values v)) (Value v)) 0 (length values / 4)
    (λ v l u. ap (λ b. unless b (Value v)) (finite_reversed c values ok v (omega arith)))

pub reversed_levels : ReversedLevels
reversed_levels c values ok good N factor v u =
    ap (level_for N factor) (value_reversed c values ok v u)
    ∙ negated_level N factor (c v) (value_at values v) (all_true (λ v. finite (value_at values v)) Value (length values / 4) good v u)

pub reversed_blank : ReversedBlank
reversed_blank c values ok N factor =
    ap (λ n. blank (channel_level N factor (reversed c values)) (n / 4)) (length_reversed c values)
    ∙ blank_same (channel_level N factor values) (channel_level N factor (reversed c values)) (length values / 4)
    (λ v u. ap (λ y. (level_for N factor y).magnitude) (value_reversed c values ok v u) ∙ negated_magnitude N factor (c v) (value_at values v))
