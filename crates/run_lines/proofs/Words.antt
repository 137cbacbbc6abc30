-- Eight hexadecimal digits, one step on, at a place of the text.
use mathlib.Core.Path.{◌≡◌, refl, ap, ap₂, ◌∙◌}
use Rattle.std.proofs.Common.{Some}
use mathlib.Core.List.{List}
use Prim.Native.Nat.{ℕ, zero, suc, ◌+◌, ◌*◌, ◌^◌, ◌≤◌, ◌<◌}
use native.Mathlib.Nat.{pow-suc, pow-le-pow_right}
use native.Mathlib.Numerals.{add-one}
use native.Mathlib.Omega.{arith}
use lib.ListN.{length, drop, get_or, drop_of_length-le}
use borrow.Author.Tests.{lt-ltb, le-ltb}
use Rattle.texts.specs.Numbers.{other}
use Rattle.texts.proofs.Places.{here}
use Rattle.program_texts.specs.RunText.Texts.{hex_digit, hex_digits}
use Rattle.run_lines.specs.Places.{Reads, HexDigit}

-- ---- hexadecimal digits

module _ (s : List ℕ) (i : ℕ) where
  digits_end : (k v : ℕ) → 0 < k → length s ≤ i → hex_digits k v (drop i s) ≡ other
  unfolding hex_digits
  digits_end zero v u h = absurd (omega arith)
  digits_end (suc k) v u h = rw (drop_of_length-le s h)

  module _ (h : i < length s) where
    digits_not : (k v : ℕ) → 0 < k → 16 ≤ hex_digit (get_or s i 0) → hex_digits k v (drop i s) ≡ other
    unfolding hex_digits
    digits_not zero v u n = absurd (omega arith)
    digits_not (suc k) v u n = rw (here s i h, le-ltb (hex_digit (get_or s i 0)) 16 n)

    digits_on : (k v : ℕ) → hex_digit (get_or s i 0) < 16 → hex_digits (suc k) v (drop i s) ≡ hex_digits k (v * 16 + hex_digit (get_or s i 0)) (drop (i + 1) s)
    unfolding hex_digits
    digits_on k v n = rw (here s i h, lt-ltb (hex_digit (get_or s i 0)) 16 n)

-- ---- the loop over eight digits: k of them make v

pub record Reading (s : List ℕ) (at v k : ℕ) : Type 0 where
  pub left : ℕ
  pub total : left + k ≡ 8
  pub within : at + k ≤ length s
  pub small : v < 16 ^ k
  pub same : hex_digits 8 0 (drop at s) ≡ hex_digits left v (drop (at + k) s)

pub reading_none : (s : List ℕ) (at : ℕ) → at ≤ length s → Reading s at 0 0
reading_none s at h = record { left = 8; total = refl; within = omega arith; small = omega arith; same = ap (λ i. hex_digits 8 0 (drop i s)) (omega arith) }

module _ {s : List ℕ} {at v k : ℕ} (q : Reading s at v k) where
  pub reading_all : k ≡ 8 → Reads (hex_digits 8 0 (drop at s)) s v (at + 8)
  unfolding hex_digits
  reading_all h =
      let e : q.left ≡ 0 = omega (arith, q.total) in
      record {
        reads = q.same ∙ ap₂ (λ (j i : ℕ). hex_digits j v (drop i s)) e (ap (λ j. at + j) h);
        within = omega (arith, q.within);
      }

  module _ (l : k < 8) where
    pub reading_end : length s ≤ at + k → hex_digits 8 0 (drop at s) ≡ other
    reading_end h = q.same ∙ digits_end s (at + k) q.left v (omega (arith, q.total)) h

    pub reading_not : at + k < length s → hex_digit (get_or s (at + k) 0) ≡ 16 → hex_digits 8 0 (drop at s) ≡ other
    reading_not h n = q.same ∙ digits_not s (at + k) h q.left v (omega (arith, q.total)) (omega (arith, n))

    -- one more digit fits
    grows : (d : ℕ) → d < 16 → v * 16 + d < 16 ^ (k + 1)
    grows d h =
        let e : 16 ^ (k + 1) ≡ 16 ^ k * 16 = ap (λ (j : ℕ). 16 ^ j) (add-one k) ∙ pow-suc 16 k in
        omega (arith, q.small)

    pub reading_fits : (d : ℕ) → d < 16 → v * 16 + d < 4294967296
    reading_fits d h =
        let m : 16 ^ (k + 1) ≤ 16 ^ 8 = pow-le-pow_right (omega arith) {i = k + 1} {j = 8} (omega arith) in
        let g : v * 16 + d < 16 ^ (k + 1) = grows d h in
        omega arith

    pub reading_more : {d : ℕ} → at + k < length s → HexDigit (get_or s (at + k) 0) (Some d) → Reading s at (v * 16 + d) (k + 1)
    reading_more {d} h e = go q.left q.total q.same
      where
        go : (left : ℕ) → left + k ≡ 8 → hex_digits 8 0 (drop at s) ≡ hex_digits left v (drop (at + k) s) → Reading s at (v * 16 + d) (k + 1)
        go zero t a = absurd (omega arith)
        go (suc left) t a = record {
          left = left;
          total = omega arith;
          within = omega arith;
          small = grows d e.0;
          same =
              a ∙ digits_on s (at + k) h left v (omega (arith, e.0, e.1))
              ∙ ap₂ (λ (x i : ℕ). hex_digits left (v * 16 + x) (drop i s)) e.1 (omega arith);
        }
