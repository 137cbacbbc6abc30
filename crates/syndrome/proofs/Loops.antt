-- What the loops and the calls in them tell, over plain values: the parity of a row, and the count of odd checks.
use mathlib.Core.Path.{◌≡◌, refl, sym, ap, ap₂, ◌∙◌}
use mathlib.Core.Bool.{Bool, true, false, not, xor, beq, false≢true}
use Prim.Native.Nat.{ℕ, suc, ◌+◌, ◌-◌, ◌≤◌, ◌<◌}
use native.Mathlib.Numerals.{add-one}
use native.Mathlib.Omega.{arith}
use borrow.Author.Tests.{eq-eqb, ne_eqb}
use lib.Dec.{eqb}
use mir.Val.{bool_byte}
use Rattle.rules.specs.Ranges.{fold, one, count}
use Rattle.rules.specs.Graphs.{Graph, odd_check}
use Rattle.rules.proofs.Ranges.{fold_none, count_none, count_next, count_le, zero_count}

-- ---- the parity of a row

other_xor : (a b : Bool) → not (beq a b) ≡ xor a b
unfolding xor
other_xor true true = refl
other_xor true false = refl
other_xor false true = refl
other_xor false false = refl

-- the parity of row i as far as entry e
pub record Parity (G : Graph) (b : ℕ → Bool) (i e : ℕ) (odd : Bool) : Type 0 where
  pub is : odd ≡ fold xor false (λ e. b (G.column e)) (G.start i) (e - G.start i)

module _ {G : Graph} {b : ℕ → Bool} {i e : ℕ} where
  pub parity_none : e ≡ G.start i → Parity G b i e false
  parity_none p =
      let none : e - G.start i ≡ 0 = omega arith in
      record { is = sym (ap (fold xor false (λ e. b (G.column e)) (G.start i)) none ∙ fold_none xor false (λ e. b (G.column e)) (G.start i)) }

  module _ {odd : Bool} (d : Parity G b i e odd) where
    pub parity_more : {t : Bool} → G.start i ≤ e → t ≡ b (G.column e) → Parity G b i (e + 1) (not (beq odd t))
    unfolding fold
    parity_more {t} l q =
        let here : e ≡ G.start i + (e - G.start i) = omega arith in
        let more : suc (e - G.start i) ≡ e + 1 - G.start i = omega arith in
        record { is = other_xor odd t ∙ ap₂ xor d.is (q ∙ ap (λ e. b (G.column e)) here) ∙ ap (fold xor false (λ e. b (G.column e)) (G.start i)) more }

    pub parity_all : e ≡ G.start (i + 1) → odd ≡ odd_check G b i
    unfolding odd_check
    parity_all p = d.is ∙ ap (λ y. fold xor false (λ e. b (G.column e)) (G.start i) (y - G.start i)) (p ∙ ap G.start (add-one i))

-- ---- odd checks

-- n of the checks below i are odd
pub record Counted (G : Graph) (b : ℕ → Bool) (n i : ℕ) : Type 0 where
  pub is : n ≡ count (odd_check G b) 0 i

byte_one : (t : Bool) → bool_byte t ≡ one t
byte_one true = refl
byte_one false = refl

module _ {G : Graph} {b : ℕ → Bool} where
  pub counted_none : Counted G b 0 0
  counted_none = record { is = sym (count_none (odd_check G b)) }

  module _ {n i : ℕ} (d : Counted G b n i) where
    pub counted_le : n ≤ i
    counted_le = omega (arith, d.is, count_le (odd_check G b) 0 i)

    pub counted_all : {m : ℕ} → i ≡ m → n ≡ count (odd_check G b) 0 m
    counted_all e = d.is ∙ ap (count (odd_check G b) 0) e

    -- check i, whose parity is t
    module _ {t : Bool} (r : t ≡ odd_check G b i) where
      pub counted_more : Counted G b (n + bool_byte t) (i + 1)
      counted_more = record { is = ap₂ ◌+◌ d.is (byte_one t ∙ ap one r) ∙ sym (count_next (odd_check G b) i) }

      -- it is even
      pub counted_same : t ≡ false → Counted G b n (i + 1)
      counted_same f = record { is = omega (arith, d.is, count_next (odd_check G b) i, ap one (sym r ∙ f)) }

      -- it is odd
      pub some_odd : (m : ℕ) → i < m → t ≡ true → eqb (count (odd_check G b) 0 m) 0 ≡ false
      some_odd m l o = ne_eqb (count (odd_check G b) 0 m) 0 (λ z. false≢true (sym (zero_count (odd_check G b) m z i l) ∙ sym r ∙ o))

  -- none is odd
  pub counted_even : {i m : ℕ} → Counted G b 0 i → i ≡ m → eqb (count (odd_check G b) 0 m) 0 ≡ true
  counted_even {m = m} d e = eq-eqb (count (odd_check G b) 0 m) 0 (sym (counted_all d e))
