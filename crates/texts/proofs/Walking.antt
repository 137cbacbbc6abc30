-- Entries, judged one after the other as the lines of their text would be.
use Rattle.std.specs.Prelude.{Ok, Err}
use mathlib.Core.Path.{◌≡◌, refl, ap, ◌∙◌}
use mathlib.Core.List.{List, [], ◌∷◌, ◌++◌}
use Prim.Native.Nat.{ℕ, zero, suc, ◌+◌, ◌≤◌, ◌<◌}
use native.Mathlib.Nat.{not-suc-le-zero}
use native.Mathlib.Omega.{arith}
use lib.ListN.{length, drop, drop_of_length-le}
use Rattle.refusals.specs.declared.Refusal.{Refusal}
use Rattle.refusals.specs.declared.Refusal.TheVariants.{Count}
use Rattle.texts.specs.Layouts.{EntryLines}
use Rattle.texts.specs.Reading.{Lines, refused, lines, walked}

module _ {C A L : Type 0} (E : EntryLines C A L) (most : ℕ) (c : C) (ps : List A) where
  abbrev pub walked_all : Lines C A
  walked_all = walked E c most 4 E.low [] ps

  -- after k entries, the next not before `low`
  pub record Walking (k : ℕ) (low : L) : Type 0 where
    pub left : ℕ
    pub done : List A
    pub total : left + k ≡ most
    pub same : walked_all ≡ walked E c left (k + 4) low done (drop k ps)

  pub walking_none : Walking 0 E.low
  walking_none = record { left = most; done = []; total = omega arith; same = refl }

module _ {C A L : Type 0} (E : EntryLines C A L) (c : C) (l : ℕ) (low : L) (done : List A) where
  none_left : (j : ℕ) → walked E c j l low done [] ≡ lines c done
  unfolding walked
  none_left zero = refl
  none_left (suc j) = refl

  module _ (p : A) (ps : List A) where
    too_many : (j : ℕ) → j ≡ 0 → walked E c j l low done (p ∷ ps) ≡ refused (Count l)
    unfolding walked
    too_many zero e = refl
    too_many (suc j) e = absurd (omega arith)

    bad_entry : (j : ℕ) (r : Refusal) → 0 < j → E.entry_judged c l low p ≡ Err r → walked E c j l low done (p ∷ ps) ≡ refused r
    unfolding walked
    bad_entry zero r u q = absurd (not-suc-le-zero u)
    bad_entry (suc j) r u q = rw q

    good_entry : (j : ℕ) → E.entry_judged c l low p ≡ Ok tt
        → walked E c (suc j) l low done (p ∷ ps) ≡ walked E c j (suc l) (E.after p) (done ++ (p ∷ [])) ps
    unfolding walked
    good_entry j q = rw q

module _ {C A L : Type 0} {E : EntryLines C A L} {most : ℕ} {c : C} {ps : List A} {k : ℕ} {low : L} (q : Walking E most c ps k low) where
  abbrev answer : Lines C A
  answer = walked_all E most c ps

  pub walking_end : length ps ≤ k → answer ≡ lines c q.done
  walking_end h = q.same ∙ ap (walked E c q.left (k + 4) low q.done) (drop_of_length-le ps h) ∙ none_left E c (k + 4) low q.done q.left

  -- where entry k is p
  module _ {p : A} (e : drop k ps ≡ p ∷ drop (k + 1) ps) where
    here : answer ≡ walked E c q.left (k + 4) low q.done (p ∷ drop (k + 1) ps)
    here = q.same ∙ ap (walked E c q.left (k + 4) low q.done) e

    pub walking_many : most ≤ k → answer ≡ refused (Count (k + 4))
    walking_many u = here ∙ too_many E c (k + 4) low q.done p (drop (k + 1) ps) q.left (omega (arith, q.total))

    module _ (u : k < most) where
      pub walking_refused : {r : Refusal} → E.entry_judged c (k + 4) low p ≡ Err r → answer ≡ refused r
      walking_refused {r} j = here ∙ bad_entry E c (k + 4) low q.done p (drop (k + 1) ps) q.left r (omega (arith, q.total)) j

      pub walking_more : E.entry_judged c (k + 4) low p ≡ Ok tt → Walking E most c ps (k + 1) (E.after p)
      walking_more j = go q.left q.total here
        where
          go : (left : ℕ) → left + k ≡ most → answer ≡ walked E c left (k + 4) low q.done (p ∷ drop (k + 1) ps) → Walking E most c ps (k + 1) (E.after p)
          go zero t a = absurd (omega arith)
          go (suc left) t a = record {
            left = left;
            done = q.done ++ (p ∷ []);
            total = omega arith;
            same =
                a ∙ good_entry E c (k + 4) low q.done p (drop (k + 1) ps) left j
                ∙ ap (λ (l : ℕ). walked E c left l (E.after p) (q.done ++ (p ∷ [])) (drop (k + 1) ps)) (omega arith);
          }
