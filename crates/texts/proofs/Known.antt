-- Reading what is known to stand at a place.
use mathlib.Core.Path.{◌≡◌, refl, sym, ap, ap₂, ◌∙◌, subst}
use mathlib.Core.Bool.{Bool, true, false}
use mathlib.Core.List.{List, [], ◌∷◌}
use Prim.Native.Nat.{ℕ, ◌+◌, ◌-◌, ◌*◌, ◌≤◌, ◌<◌}
use native.Mathlib.Decide.{dec_lt, ℕ_discrete}
use native.Mathlib.Nat.{zero-add}
use native.Mathlib.Omega.{arith}
use lib.ListN.{length, drop, get_or, drop_of_length-le}
use borrow.Author.Tests.{eq-eqb, ne_eqb}
use Rattle.texts.specs.Numbers.{Front, other, value, digit, more, number}
use Rattle.texts.specs.Lines.{Pair, pair, space, lf, and_then, ended_by, field, line}
use Rattle.texts.specs.Places.{cap, NumberRead, Known, LineRead, KnownLine}
use Rattle.texts.proofs.Numbers.{digit_true, digit_told}
use Rattle.texts.proofs.Places.{here, digit_low, line_first, line_second, line_both}

other_not : {A : Type 0} {a : A} {t : List ℕ} → other ≡ value a t → ⊥
other_not {A} {a} {t} h = let z : ◌≡◌ {A = ℕ} 0 1 = cc in absurd (omega arith)

pub value_is : {A : Type 0} {a b : A} {t u : List ℕ} → value a t ≡ value b u → (a ≡ b) × (t ≡ u)
value_is h = (cc, cc)

-- what is left of a number whose digits so far make v, with the byte x after it
abbrev pub rest_of : ℕ → ℕ → List ℕ → Front ℕ
rest_of x v t = and_then (more v t) (ended_by x)

-- one byte on
ended_same : (x v b : ℕ) (t : List ℕ) → b ≡ x → ended_by x v (b ∷ t) ≡ value v t
ended_same x v b t e = rw (eq-eqb b x e)

ended_other : (x v b : ℕ) (t : List ℕ) → (b ≡ x → ⊥) → ended_by x v (b ∷ t) ≡ other
ended_other x v b t e = rw (ne_eqb b x e)

field_zero : (x b : ℕ) (t : List ℕ) → b ≡ 48 → field x (b ∷ t) ≡ ended_by x 0 t
unfolding field number
field_zero x b t e = rw (eq-eqb b 48 e)

field_first : (x b : ℕ) (t : List ℕ) → (b ≡ 48 → ⊥) → digit b ≡ true → field x (b ∷ t) ≡ rest_of x (b - 48) t
unfolding field number
field_first x b t n e = rw (ne_eqb b 48 n, e)

field_none : (x b : ℕ) (t : List ℕ) → (b ≡ 48 → ⊥) → digit b ≡ false → field x (b ∷ t) ≡ other
unfolding field number
field_none x b t n e = rw (ne_eqb b 48 n, e)

rest_stop : (x v b : ℕ) (t : List ℕ) → digit b ≡ false → rest_of x v (b ∷ t) ≡ ended_by x v (b ∷ t)
unfolding more
rest_stop x v b t e = rw e

rest_on : (x v b : ℕ) (t : List ℕ) → digit b ≡ true → rest_of x v (b ∷ t) ≡ rest_of x (v * 10 + (b - 48)) t
unfolding more
rest_on x v b t e = rw e

rest_end : (x v : ℕ) → rest_of x v [] ≡ other
unfolding more
rest_end x v = refl

-- the number is not below what its first digits make
pub rest_grows : (x v : ℕ) (t : List ℕ) {n : ℕ} {u : List ℕ} → rest_of x v t ≡ value n u → v ≤ n
rest_grows x v [] h = absurd (other_not (sym (rest_end x v) ∙ h))
rest_grows x v (b ∷ t) {n} {u} h = go (digit b) refl (λ d. rest_grows x (v * 10 + (b - 48)) t (sym (rest_on x v b t d) ∙ h))
  where
    ended : Dec (b ≡ x) → ended_by x v (b ∷ t) ≡ value n u → v ≤ n
    ended (yes e) k = omega (arith, (value_is (sym (ended_same x v b t e) ∙ k)).0)
    ended (no e) k = absurd (other_not (sym (ended_other x v b t e) ∙ k))

    go : (c : Bool) → digit b ≡ c → (digit b ≡ true → v * 10 + (b - 48) ≤ n) → v ≤ n
    go true d ih = omega (arith, ih d)
    go false d ih = ended (ℕ_discrete b x) (sym (rest_stop x v b t d) ∙ h)

module _ {x : ℕ} (low : x < 48) where
  -- a zero alone
  zero_begins : (t : List ℕ) {n : ℕ} {u : List ℕ} → ended_by x 0 t ≡ value n u → rest_of x 0 t ≡ value n u
  zero_begins [] h = absurd (other_not h)
  zero_begins (b ∷ t) {n} {u} h = go (ℕ_discrete b x)
    where
      go : Dec (b ≡ x) → rest_of x 0 (b ∷ t) ≡ value n u
      go (yes e) = rest_stop x 0 b t (digit_low b (omega arith)) ∙ h
      go (no e) = absurd (other_not (sym (ended_other x 0 b t e) ∙ h))

  -- no digits so far
  pub rest_begins : (t : List ℕ) {n : ℕ} {u : List ℕ} → field x t ≡ value n u → rest_of x 0 t ≡ value n u
  unfolding field number
  rest_begins [] h = absurd (other_not h)
  rest_begins (b ∷ t) {n} {u} h = go (ℕ_discrete b 48) (digit b) refl
    where
      zero : b ≡ 48 → 0 * 10 + (b - 48) ≡ 0
      zero e = omega arith

      go : Dec (b ≡ 48) → (c : Bool) → digit b ≡ c → rest_of x 0 (b ∷ t) ≡ value n u
      go (yes e) c d =
          rest_on x 0 b t (digit_true b (omega arith) (omega arith))
          ∙ ap (λ k. rest_of x k t) (zero e) ∙ zero_begins t (sym (field_zero x b t e) ∙ h)
      go (no e) true d = rest_on x 0 b t d ∙ ap (λ k. rest_of x k t) (zero-add (b - 48)) ∙ sym (field_first x b t e d) ∙ h
      go (no e) false d = absurd (other_not (sym (field_none x b t e d) ∙ h))

  module _ (s : List ℕ) (i v : ℕ) {n : ℕ} {u : List ℕ} (h : rest_of x v (drop i s) ≡ value n u) where
    pub rest_within : i < length s
    rest_within = go (dec_lt i (length s))
      where
        go : Dec (i < length s) → i < length s
        go (yes l) = l
        go (no l) = absurd (other_not (sym (ap (rest_of x v) (drop_of_length-le s {i = i} (omega arith)) ∙ rest_end x v) ∙ h))

    pub rest_ends : get_or s i 0 ≡ x → (v ≡ n) × (drop (i + 1) s ≡ u)
    rest_ends e =
        value_is (sym (ap (rest_of x v) (here s i rest_within) ∙ rest_stop x v (get_or s i 0) (drop (i + 1) s) (digit_low (get_or s i 0) (omega arith)) ∙ ended_same x v (get_or s i 0) (drop (i + 1) s) e) ∙ h)

    pub rest_digit : (get_or s i 0 ≡ x → ⊥) → digit (get_or s i 0) ≡ true
    rest_digit e = go (digit (get_or s i 0)) refl
      where
        go : (c : Bool) → digit (get_or s i 0) ≡ c → digit (get_or s i 0) ≡ true
        go true d = d
        go false d =
            absurd (other_not (sym (ap (rest_of x v) (here s i rest_within) ∙ rest_stop x v (get_or s i 0) (drop (i + 1) s) d ∙ ended_other x v (get_or s i 0) (drop (i + 1) s) e) ∙ h))

    pub rest_more : (get_or s i 0 ≡ x → ⊥) → rest_of x (v * 10 + (get_or s i 0 - 48)) (drop (i + 1) s) ≡ value n u
    rest_more e = sym (ap (rest_of x v) (here s i rest_within) ∙ rest_on x v (get_or s i 0) (drop (i + 1) s) (rest_digit e)) ∙ h

-- ---- the loop over the digits

pub record Going (s : List ℕ) (at x v i : ℕ) : Type 0 where
  pub low : x < 48
  pub known : Known (field x) s at
  pub from : at ≤ i
  pub left : rest_of x v (drop i s) ≡ value known.number known.rest
  pub within : i < length s
  pub small : v < cap

going_at : {s : List ℕ} {at x v i : ℕ} → x < 48 → (k : Known (field x) s at) → at ≤ i → rest_of x v (drop i s) ≡ value k.number k.rest → Going s at x v i
going_at {s} {at} {x} {v} {i} l k f e = record {
  low = l;
  known = k;
  from = f;
  left = e;
  within = rest_within l s i v e;
  small = omega (arith, rest_grows x v (drop i s) e, k.small);
}

pub going_none : {s : List ℕ} {at x : ℕ} → (x < 48) × Known (field x) s at → Going s at x 0 at
going_none {s} {at} {x} p = going_at p.0 p.1 (omega arith) (rest_begins p.0 (drop at s) p.1.reads)

module _ {s : List ℕ} {at x v i : ℕ} (g : Going s at x v i) where
  module _ (n : get_or s i 0 ≡ x → ⊥) where
    pub going_digit : (v < cap) × (48 ≤ get_or s i 0) × (get_or s i 0 ≤ 57)
    going_digit = let d = digit_told (get_or s i 0) (rest_digit g.low s i v g.left n) in (g.small, d.0, d.1)

    going_more : Going s at x (v * 10 + (get_or s i 0 - 48)) (i + 1)
    going_more = going_at g.low g.known (omega (arith, g.from)) (rest_more g.low s i v g.left n)

    -- the digit's number and the place after it, as the code has them
    pub going_on : {w j : ℕ} → w ≡ v * 10 + (get_or s i 0 - 48) → j ≡ i + 1 → Going s at x w j
    going_on {w} {j} p q = subst (λ k. Going s at x k j) (sym p) (subst (λ k. Going s at x (v * 10 + (get_or s i 0 - 48)) k) (sym q) going_more)

  pub going_ends : {j : ℕ} → get_or s i 0 ≡ x → j ≡ i + 1 → NumberRead (field x (drop at s)) s at v j
  going_ends {j} e q =
      let z = rest_ends g.low s i v g.left e in
      record {
        number = v;
        reads = g.known.reads ∙ sym (ap₂ value z.0 z.1) ∙ ap (λ k. value v (drop k s)) (sym q);
        capped = omega (arith, g.small);
        on = omega (arith, g.from);
        within = omega (arith, g.within);
      }

-- ---- the two fields of a line

pub record Fields (t : List ℕ) (p : Pair) (u : List ℕ) : Type 0 where
  pub between : List ℕ
  pub first : field space t ≡ value p.first between
  pub second : field lf between ≡ value p.second u

fields_are : (t : List ℕ) {p : Pair} {u : List ℕ} → line t ≡ value p u → Fields t p u
fields_are t {p} {u} h = go (field space t) refl
  where
    both : (a : ℕ) (r : List ℕ) → field space t ≡ value a r → (f : Front ℕ) → field lf r ≡ f → Fields t p u
    both a r e other d = absurd (other_not (sym (line_second t e d) ∙ h))
    both a r e (value b w) d =
        let z = value_is (sym (line_both t e d) ∙ h) in
        record { between = r; first = e ∙ ap (λ q. value q.first r) z.0; second = d ∙ ap₂ (λ q y. value q.second y) z.0 z.1 }

    go : (f : Front ℕ) → field space t ≡ f → Fields t p u
    go other e = absurd (other_not (sym (line_first t e) ∙ h))
    go (value a r) e = both a r e (field lf r) refl

module _ {s : List ℕ} {at : ℕ} (k : KnownLine s at) where
  pub known_first : Known (field space) s at
  known_first =
      let f = fields_are (drop at s) k.reads in
      record { number = k.pair.first; rest = f.between; reads = f.first; small = k.first }

  pub known_second : {a i : ℕ} → NumberRead (field space (drop at s)) s at a i → Known (field lf) s i
  known_second r =
      let f = fields_are (drop at s) k.reads in
      record {
        number = k.pair.second;
        rest = k.rest;
        reads = ap (field lf) (value_is (sym r.reads ∙ f.first)).1 ∙ f.second;
        small = k.second;
      }

-- the two numbers, read
pub line_read : {s : List ℕ} {at a i b j : ℕ} → NumberRead (field space (drop at s)) s at a i → NumberRead (field lf (drop i s)) s i b j
    → LineRead (line (drop at s)) s at a b j
line_read {s} {at} r q = record {
  pair = pair r.number q.number;
  reads = line_both (drop at s) r.reads q.reads;
  first = r.capped;
  second = q.capped;
  on = omega (arith, r.on, q.on);
  within = q.within;
}
