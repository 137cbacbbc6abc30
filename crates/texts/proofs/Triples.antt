-- Lines of three numbers: what was written is read, and what is read was written.
use mathlib.Core.Path.{◌≡◌, refl, sym, ap, ap₂, ◌∙◌}
use mathlib.Core.List.{List, [], ◌∷◌, ◌++◌, append_assoc}
use Prim.Native.Nat.{ℕ}
use native.Mathlib.Omega.{arith}
use lib.ListN.{drop}
use Rattle.texts.specs.Numbers.{decimal, Front, other, value, number}
use Rattle.texts.specs.Lines.{space, Pair, pair, line_text, and_then, field, line}
use Rattle.texts.proofs.Known.{value_is}
use Rattle.texts.proofs.Lines.{other_not, field_decimal, field_text, line_reads, line_text_lem}
use Rattle.texts.specs.Places.{LineRead, Known, KnownLine, NumberRead}
use Rattle.texts.specs.Triples.{Triple, triple, triple_text, triple_line, TripleRead, KnownTriple}

-- a line with what follows it
triple_then : (p : Triple) (t : List ℕ) → triple_text p ++ t ≡ decimal p.first ++ (space ∷ (line_text (pair p.second p.third) ++ t))
unfolding triple_text
triple_then p t = simp append_assoc

pub triple_reads : (p : Triple) (t : List ℕ) → triple_line (triple_text p ++ t) ≡ value p t
unfolding triple_line
triple_reads p t =
    let q = pair p.second p.third in
    rw (triple_then p t, field_decimal space p.first (line_text q ++ t) refl, line_reads q t)

pub triple_text_lem : (p : Triple) (t r : List ℕ) → triple_line t ≡ value p r → t ≡ triple_text p ++ r
unfolding triple_line
triple_text_lem p t r e = go (field space t) refl e
  where
    both : (a : ℕ) (u : List ℕ) → field space t ≡ value a u → (s : Front Pair) → line u ≡ s
        → and_then s (λ q v. value (triple a q.first q.second) v) ≡ value p r → t ≡ triple_text p ++ r
    both a u h other q k = absurd (other_not k)
    both a u h (value x v) q k =
        let ep : triple a x.first x.second ≡ p = cc in
        let er : v ≡ r = cc in
        field_text space a t u h ∙ ap (λ (y : List ℕ). decimal a ++ (space ∷ y)) (line_text_lem x u v q)
        ∙ sym (triple_then (triple a x.first x.second) v) ∙ ap₂ (λ (y : Triple) (z : List ℕ). triple_text y ++ z) ep er

    go : (s : Front ℕ) → field space t ≡ s → and_then s (λ a u. and_then (line u) (λ q v. value (triple a q.first q.second) v)) ≡ value p r
        → t ≡ triple_text p ++ r
    go other h q = absurd (other_not q)
    go (value a u) h q = both a u h (line u) refl q

-- no line is empty
pub triple_empty : (p : Triple) (t : List ℕ) → triple_line [] ≡ value p t → ⊥
unfolding triple_line field number
triple_empty p t e = other_not e

-- ---- at a place

module _ (t : List ℕ) where
  pub triple_first : field space t ≡ other → triple_line t ≡ other
  unfolding triple_line
  triple_first e = rw e

  module _ {u : List ℕ} {a : ℕ} (e : field space t ≡ value a u) where
    pub triple_rest : line u ≡ other → triple_line t ≡ other
    unfolding triple_line
    triple_rest f = rw (e, f)

    pub triple_both : {p : Pair} {r : List ℕ} → line u ≡ value p r → triple_line t ≡ value (triple a p.first p.second) r
    unfolding triple_line
    triple_both f = rw (e, f)

-- ---- where one is known to stand

pub record Parts (t : List ℕ) (p : Triple) (u : List ℕ) : Type 0 where
  pub between : List ℕ
  pub first : field space t ≡ value p.first between
  pub rest : line between ≡ value (pair p.second p.third) u

parts_are : (t : List ℕ) {p : Triple} {u : List ℕ} → triple_line t ≡ value p u → Parts t p u
parts_are t {p} {u} h = go (field space t) refl
  where
    both : (a : ℕ) (r : List ℕ) → field space t ≡ value a r → (f : Front Pair) → line r ≡ f → Parts t p u
    both a r e other d = absurd (other_not (sym (triple_rest t e d) ∙ h))
    both a r e (value q w) d =
        let z = value_is (sym (triple_both t e d) ∙ h) in
        record {
          between = r;
          first = e ∙ ap (λ (x : Triple). value x.first r) z.0;
          rest = d ∙ ap₂ (λ (x : Triple) (y : List ℕ). value (pair x.second x.third) y) z.0 z.1;
        }

    go : (f : Front ℕ) → field space t ≡ f → Parts t p u
    go other e = absurd (other_not (sym (triple_first t e) ∙ h))
    go (value a r) e = both a r e (line r) refl

-- the first number and the line after it, read
pub triple_read : {s : List ℕ} {at a i b d next : ℕ} → NumberRead (field space (drop at s)) s at a i → LineRead (line (drop i s)) s i b d next
    → TripleRead (triple_line (drop at s)) s at a b d next
triple_read {s} {at} r q = record {
  numbers = triple r.number q.pair.first q.pair.second;
  reads = triple_both (drop at s) r.reads q.reads;
  first = r.capped;
  second = q.first;
  third = q.second;
  on = omega (arith, r.on, q.on);
  within = q.within;
}

module _ {s : List ℕ} {at : ℕ} (k : KnownTriple s at) where
  pub known_number : Known (field space) s at
  known_number =
      let f = parts_are (drop at s) k.reads in
      record { number = k.numbers.first; rest = f.between; reads = f.first; small = k.first }

  pub known_pair : {a i : ℕ} → NumberRead (field space (drop at s)) s at a i → KnownLine s i
  known_pair r =
      let f = parts_are (drop at s) k.reads in
      record {
        pair = pair k.numbers.second k.numbers.third;
        rest = k.rest;
        reads = ap line (value_is (sym r.reads ∙ f.first)).1 ∙ f.rest;
        first = k.second;
        second = k.third;
      }
