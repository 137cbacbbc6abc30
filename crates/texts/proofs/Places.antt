-- The definitions one step on, at a place of the text.
use mathlib.Core.Path.{◌≡◌, refl, sym, ap, ◌∙◌, subst}
use mathlib.Core.Bool.{Bool, true, false}
use mathlib.Core.List.{List, ◌∷◌, ◌++◌}
use Rattle.std.proofs.Common.{Some}
use Rattle.std.specs.Bool.{then_some}
use Rattle.std.specs.List.{starts_with}
use Rattle.std.proofs.lemmas.Bool.{false≢true}
use Rattle.std.proofs.lemmas.Bool.Decides.{Decides-eqb}
use Rattle.std.proofs.lemmas.Slice.Eq.{starts_is}
use Prim.Native.Nat.{ℕ, ◌+◌, ◌-◌, ◌*◌, ◌≤◌, ◌<◌, min}
use native.Mathlib.Decide.{dec_lt}
use native.Mathlib.Numerals.{add-one}
use native.Mathlib.Omega.{arith}
use lib.Dec.{eqb}
use lib.ListN.{length, drop, get_or, drop_of_length-le, length-append, length-drop}
use lib.Seq.{drop-cons, drop-drop}
use borrow.Author.Tests.{lt-leb, ne_eqb}
use Rattle.texts.specs.Numbers.{Front, other, value, digit, more, number, front_digit}
use Rattle.texts.specs.Lines.{space, lf, pair, field, line, fixed}
use Rattle.texts.specs.Places.{cap, DigitAt, NumberRead, FixedRead, FixedAt}
use Rattle.texts.proofs.Numbers.{digit_told}
use Rattle.texts.proofs.Lines.{fixed_reads, fixed_text}

-- the byte at a place, and those after it
pub here : (s : List ℕ) (i : ℕ) → i < length s → drop i s ≡ get_or s i 0 ∷ drop (i + 1) s
here s i h = drop-cons s i 0 h ∙ ap (λ (n : ℕ). get_or s i 0 ∷ drop n s) (sym (add-one i))

pub digit_low : (b : ℕ) → b < 48 → digit b ≡ false
digit_low b h = rw (lt-leb 48 b h)

module _ (s : List ℕ) (i : ℕ) where
  number_end : length s ≤ i → number (drop i s) ≡ other
  unfolding number
  number_end h = rw (drop_of_length-le s h)

  more_end : (w : ℕ) → length s ≤ i → more w (drop i s) ≡ value w (drop i s)
  unfolding more
  more_end w h = rw (drop_of_length-le s h)

  module _ (h : i < length s) where
    number_zero : get_or s i 0 ≡ 48 → number (drop i s) ≡ value 0 (drop (i + 1) s)
    unfolding number
    number_zero e = rw (here s i h, e)

    number_not : (get_or s i 0 ≡ 48 → ⊥) → digit (get_or s i 0) ≡ false → number (drop i s) ≡ other
    unfolding number
    number_not n e = rw (here s i h, ne_eqb (get_or s i 0) 48 n, e)

    number_first : (get_or s i 0 ≡ 48 → ⊥) → digit (get_or s i 0) ≡ true → number (drop i s) ≡ more (get_or s i 0 - 48) (drop (i + 1) s)
    unfolding number
    number_first n e = rw (here s i h, ne_eqb (get_or s i 0) 48 n, e)

    more_stop : (w : ℕ) → digit (get_or s i 0) ≡ false → more w (drop i s) ≡ value w (drop i s)
    unfolding more
    more_stop w e = rw (here s i h, e)

    more_on : (w : ℕ) → digit (get_or s i 0) ≡ true → more w (drop i s) ≡ more (w * 10 + (get_or s i 0 - 48)) (drop (i + 1) s)
    unfolding more
    more_on w e = rw (here s i h, e)

-- ---- the digit at a place

module _ (s : List ℕ) (i : ℕ) where
  digit_end : length s ≤ i → front_digit (drop i s) ≡ 10
  unfolding front_digit
  digit_end h = rw (drop_of_length-le s h)

  module _ (h : i < length s) where
    digit_not : digit (get_or s i 0) ≡ false → front_digit (drop i s) ≡ 10
    unfolding front_digit
    digit_not e = rw (here s i h, e)

    digit_is : digit (get_or s i 0) ≡ true → front_digit (drop i s) ≡ get_or s i 0 - 48
    unfolding front_digit
    digit_is e = rw (here s i h, e)

-- where there is none, the number ends
module _ (s : List ℕ) (i : ℕ) (told : front_digit (drop i s) ≡ 10) where
  none_here : i < length s → digit (get_or s i 0) ≡ false
  none_here h = go (digit (get_or s i 0)) refl
    where
      go : (c : Bool) → digit (get_or s i 0) ≡ c → digit (get_or s i 0) ≡ false
      go true e = absurd (omega (arith, digit_is s i h e, digit_told (get_or s i 0) e))
      go false e = e

  pub none_number : number (drop i s) ≡ other
  none_number = place (dec_lt i (length s))
    where
      place : Dec (i < length s) → number (drop i s) ≡ other
      place (yes h) = number_not s i h (λ q. omega (arith, digit_is s i h (ap digit q))) (none_here h)
      place (no h) = number_end s i (omega arith)

  none_more : (w : ℕ) → more w (drop i s) ≡ value w (drop i s)
  none_more w = place (dec_lt i (length s))
    where
      place : Dec (i < length s) → more w (drop i s) ≡ value w (drop i s)
      place (yes h) = more_stop s i h w (none_here h)
      place (no h) = more_end s i w (omega arith)

-- where there is one, it is of the number
module _ (s : List ℕ) (i : ℕ) {d : ℕ} (told : DigitAt s i (Some d)) where
  pub one_within : i < length s
  one_within = place (dec_lt i (length s))
    where
      place : Dec (i < length s) → i < length s
      place (yes h) = h
      place (no h) = absurd (omega (arith, digit_end s i (omega arith)))

  one_here : digit (get_or s i 0) ≡ true
  one_here = go (digit (get_or s i 0)) refl
    where
      go : (c : Bool) → digit (get_or s i 0) ≡ c → digit (get_or s i 0) ≡ true
      go true e = e
      go false e = absurd (omega (arith, digit_not s i one_within e))

  one_is : get_or s i 0 - 48 ≡ d
  one_is = sym (digit_is s i one_within one_here) ∙ told.1

  pub one_zero : d ≡ 0 → NumberRead (number (drop i s)) s i 0 (i + 1)
  one_zero e = record {
    number = 0;
    reads = number_zero s i one_within (omega (arith, one_is, digit_told (get_or s i 0) one_here));
    capped = refl;
    on = omega arith;
    within = omega (arith, one_within);
  }

-- ---- a number begun at place `at`: its digits before place `next` make one that is kept as v

pub record Digits (s : List ℕ) (at v next : ℕ) : Type 0 where
  pub made : ℕ
  pub left : number (drop at s) ≡ more made (drop next s)
  pub capped : v ≡ min made cap
  pub on : at < next
  pub within : next ≤ length s

pub digits_first : (s : List ℕ) (at : ℕ) {d : ℕ} → DigitAt s at (Some d) → (d ≡ 0 → ⊥) → Digits s at d (at + 1)
digits_first s at {d} told n = record {
  made = d;
  left =
      number_first s at (one_within s at told) (λ q. n (sym (one_is s at told) ∙ ap (λ b. b - 48) q)) (one_here s at told)
      ∙ ap (λ d. more d (drop (at + 1) s)) (one_is s at told);
  capped = omega arith;
  on = omega arith;
  within = omega (arith, one_within s at told);
}

module _ {s : List ℕ} {at v next : ℕ} (g : Digits s at v next) where
  pub digits_more : {d w : ℕ} → DigitAt s next (Some d) → w ≡ min (v * 10 + d) cap → Digits s at w (next + 1)
  digits_more {d} told e = record {
    made = g.made * 10 + d;
    left =
        g.left ∙ more_on s next (one_within s next told) g.made (one_here s next told)
        ∙ ap (λ d. more (g.made * 10 + d) (drop (next + 1) s)) (one_is s next told);
    capped = omega (arith, g.capped, e);
    on = omega (arith, g.on);
    within = omega (arith, one_within s next told);
  }

  digits_read : more g.made (drop next s) ≡ value g.made (drop next s) → NumberRead (number (drop at s)) s at v next
  digits_read e = record { number = g.made; reads = g.left ∙ e; capped = g.capped; on = g.on; within = g.within }

  pub digits_none : front_digit (drop next s) ≡ 10 → NumberRead (number (drop at s)) s at v next
  digits_none told = digits_read (none_more s next told g.made)

  pub digits_end : {n : ℕ} → length s ≡ n → n ≤ next → NumberRead (number (drop at s)) s at v n
  digits_end {n} e h =
      let q : next ≡ n = omega (arith, g.within) in
      subst (NumberRead (number (drop at s)) s at v) q (digits_read (more_end s next g.made (omega arith)))

-- ---- lines

module _ (t : List ℕ) where
  pub line_first : field space t ≡ other → line t ≡ other
  unfolding line
  line_first e = rw e

  module _ {u : List ℕ} {a : ℕ} (e : field space t ≡ value a u) where
    pub line_second : field lf u ≡ other → line t ≡ other
    unfolding line
    line_second f = rw (e, f)

    pub line_both : {b : ℕ} {r : List ℕ} → field lf u ≡ value b r → line t ≡ value (pair a b) r
    unfolding line
    line_both f = rw (e, f)

-- ---- fixed texts

-- the text x at a place, by the test that the rest of the text begins with it
pub fixed_found : (x s : List ℕ) (at : ℕ) (r : Bool) → at ≤ length s → r ≡ starts_with eqb (drop at s) x → FixedAt x s at (then_some r (at + length x))
fixed_found x s at r h e = go r (starts_is Decides-eqb (drop at s) x r e)
  where
    found : drop at s ≡ x ++ drop (length x) (drop at s) → FixedRead (fixed x (drop at s)) s (at + length x)
    found q = record {
      reads = ap (fixed x) q ∙ fixed_reads x (drop (length x) (drop at s)) ∙ ap (value tt) (drop-drop (length x) at s);
      within = omega (arith, ap length q, length-append x (drop (length x) (drop at s)), length-drop at s);
    }

    none : (f : Front Unit) → fixed x (drop at s) ≡ f → ((rest : List ℕ) → drop at s ≡ x ++ rest → false ≡ true) → fixed x (drop at s) ≡ other
    none other d k = d
    none (value u t) d k = absurd (false≢true (k t (fixed_text x (drop at s) t u d)))

    go : (r : Bool) → (r ≡ true → drop at s ≡ x ++ drop (length x) (drop at s)) × ((rest : List ℕ) → drop at s ≡ x ++ rest → r ≡ true)
        → FixedAt x s at (then_some r (at + length x))
    go true k = found (k.0 refl)
    go false k = none (fixed x (drop at s)) refl k.1
