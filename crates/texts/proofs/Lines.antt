-- Fields, lines and fixed texts: what was written is read, and what is read was written.
use mathlib.Core.Path.{◌≡◌, refl, sym, ap, ap₂, ◌∙◌}
use mathlib.Core.Bool.{Bool, true, false, cond}
use mathlib.Core.List.{List, [], ◌∷◌, ◌++◌, append_assoc}
use Prim.Native.Nat.{ℕ}
use native.Mathlib.Omega.{arith}
use lib.Dec.{eqb}
use borrow.Author.Tests.{eqb-true, eq-eqb}
use Rattle.texts.specs.Numbers.{decimal, Front, other, value, digit, number}
use Rattle.texts.specs.Lines.{space, lf, Pair, pair, line_text, lines_text, and_then, ended_by, field, line, fixed}
use Rattle.texts.proofs.Numbers.{number_decimal, number_text}

-- nothing is no value
pub other_not : {A : Type 0} {a : A} {t : List ℕ} → ◌≡◌ {A = Front A} other (value a t) → ⊥
other_not {A} {a} {t} e = let z : ◌≡◌ {A = ℕ} 0 1 = cc in absurd (omega arith)

-- ---- fields

pub field_decimal : (x k : ℕ) (t : List ℕ) → digit x ≡ false → field x (decimal k ++ (x ∷ t)) ≡ value k t
unfolding field
field_decimal x k t h = rw (number_decimal k x t h, eq-eqb x x refl)

pub field_text : (x w : ℕ) (t r : List ℕ) → field x t ≡ value w r → t ≡ decimal w ++ (x ∷ r)
unfolding field
field_text x w t r e = go (number t) refl e
  where
    end : (v : ℕ) (u : List ℕ) → number t ≡ value v u → ended_by x v u ≡ value w r → t ≡ decimal w ++ (x ∷ r)
    end v [] p q = absurd (other_not q)
    end v (b ∷ u) p q = test (eqb b x) refl q
      where
        test : (c : Bool) → eqb b x ≡ c → cond c (value v u) other ≡ value w r → t ≡ decimal w ++ (x ∷ r)
        test true h k =
            let ev : v ≡ w = cc in
            let eu : u ≡ r = cc in
            number_text v t (b ∷ u) p ∙ rw (eqb-true b x h, ev, eu)
        test false h k = absurd (other_not k)

    go : (s : Front ℕ) → number t ≡ s → and_then s (ended_by x) ≡ value w r → t ≡ decimal w ++ (x ∷ r)
    go other p q = absurd (other_not q)
    go (value v u) p q = end v u p q

-- ---- lines

-- a line with what follows it
line_then : (p : Pair) (t : List ℕ) → line_text p ++ t ≡ decimal p.first ++ (space ∷ (decimal p.second ++ (lf ∷ t)))
unfolding line_text
line_then p t = simp append_assoc

pub line_reads : (p : Pair) (t : List ℕ) → line (line_text p ++ t) ≡ value p t
unfolding line
line_reads p t =
    rw (line_then p t, field_decimal space p.first (decimal p.second ++ (lf ∷ t)) refl, field_decimal lf p.second t refl)

pub line_text_lem : (p : Pair) (t r : List ℕ) → line t ≡ value p r → t ≡ line_text p ++ r
unfolding line
line_text_lem p t r e = go (field space t) refl e
  where
    both : (a : ℕ) (u : List ℕ) → field space t ≡ value a u → (s : Front ℕ) → field lf u ≡ s → and_then s (λ b v. value (pair a b) v) ≡ value p r → t ≡ line_text p ++ r
    both a u h other q k = absurd (other_not k)
    both a u h (value b v) q k =
        let ep : pair a b ≡ p = cc in
        let er : v ≡ r = cc in
        field_text space a t u h ∙ ap (λ (x : List ℕ). decimal a ++ (space ∷ x)) (field_text lf b u v q)
        ∙ sym (line_then (pair a b) v) ∙ ap₂ (λ (x : Pair) (y : List ℕ). line_text x ++ y) ep er

    go : (s : Front ℕ) → field space t ≡ s → and_then s (λ a u. and_then (field lf u) (λ b v. value (pair a b) v)) ≡ value p r → t ≡ line_text p ++ r
    go other h q = absurd (other_not q)
    go (value a u) h q = both a u h (field lf u) refl q

pub lines_append : (ps qs : List Pair) → lines_text (ps ++ qs) ≡ lines_text ps ++ lines_text qs
unfolding lines_text
lines_append [] qs = refl
lines_append (p ∷ ps) qs = ap (λ (t : List ℕ). line_text p ++ t) (lines_append ps qs) ∙ sym (append_assoc (line_text p) (lines_text ps) (lines_text qs))

-- ---- fixed texts

pub fixed_reads : (x t : List ℕ) → fixed x (x ++ t) ≡ value tt t
unfolding fixed
fixed_reads [] t = refl
fixed_reads (b ∷ x) t = rw (eq-eqb b b refl) (fixed_reads x t)

pub fixed_text : (x t r : List ℕ) (u : Unit) → fixed x t ≡ value u r → t ≡ x ++ r
unfolding fixed
fixed_text [] t r u e = cc
fixed_text (b ∷ x) [] r u e = absurd (other_not e)
fixed_text (b ∷ x) (d ∷ t) r u e = go (fixed_text x t r u) (eqb d b) refl e
  where
    go : (fixed x t ≡ value u r → t ≡ x ++ r) → (c : Bool) → eqb d b ≡ c → cond c (fixed x t) other ≡ value u r → d ∷ t ≡ b ∷ (x ++ r)
    go ih true h q = rw (eqb-true d b h, ih q)
    go ih false h q = absurd (other_not q)

-- no line is empty
pub line_empty : {p : Pair} {t : List ℕ} → line [] ≡ value p t → ⊥
unfolding line field number
line_empty {p} {t} e = other_not e
