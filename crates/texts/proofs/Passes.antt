-- The first pass, one line on: the loop over the entries' lines, and the lines above them.
use Rattle.std.specs.Prelude.{Ok, Err}
use mathlib.Core.Path.{◌≡◌, refl, ap, ◌∙◌}
use mathlib.Core.List.{List, [], ◌∷◌, ◌++◌}
use Prim.Native.Nat.{ℕ, zero, suc, ◌+◌, ◌≤◌, ◌<◌}
use native.Mathlib.Nat.{not-suc-le-zero}
use native.Mathlib.Omega.{arith}
use lib.ListN.{length, drop, length-append, drop_of_length-le}
use Rattle.refusals.specs.declared.Refusal.{Refusal}
use Rattle.refusals.specs.declared.Refusal.TheVariants.{Form, Count}
use Rattle.texts.specs.Numbers.{other, value}
use Rattle.texts.specs.Lines.{fixed}
use Rattle.texts.proofs.Places.{here}
use Rattle.texts.specs.Layouts.{EntryLines, Layout}
use Rattle.texts.specs.Reading.{Lines, refused, lines, at_end, rows, sheet_lines}

-- ---- the loop over the entries' lines

module _ {C A L : Type 0} (E : EntryLines C A L) (most : ℕ) (c : C) (s : List ℕ) (from : ℕ) where
  abbrev pub rows_from : Lines C A
  rows_from = rows E c most 4 E.low [] (drop from s)

  -- at `at`, after k entries, the next not before `low`
  pub record Scanning (at k : ℕ) (low : L) : Type 0 where
    pub left : ℕ
    pub done : List A
    pub within : at ≤ length s
    pub total : left + k ≡ most
    pub got : length done ≡ k
    pub same : rows_from ≡ rows E c left (k + 4) low done (drop at s)

  pub scanning_none : from ≤ length s → Scanning from 0 E.low
  scanning_none h = record { left = most; done = []; within = h; total = omega arith; got = refl; same = refl }

-- the text goes on at a place
full : {C A : Type 0} (s : List ℕ) (i : ℕ) (x y : Lines C A) → i < length s → at_end (drop i s) x y ≡ y
full s i x y h = rw (here s i h)

module _ {C A L : Type 0} (E : EntryLines C A L) (c : C) (l : ℕ) (low : L) (done : List A) where
  none_left : (j : ℕ) → rows E c j l low done [] ≡ lines c done
  unfolding rows
  none_left zero = refl
  none_left (suc j) = refl

  module _ (s : List ℕ) (at : ℕ) (h : at < length s) where
    too_many : (j : ℕ) → j ≡ 0 → rows E c j l low done (drop at s) ≡ refused (Count l)
    unfolding rows
    too_many zero e = full s at _ _ h
    too_many (suc j) e = absurd (omega arith)

    no_line : (j : ℕ) → 0 < j → E.entry (drop at s) ≡ other → rows E c j l low done (drop at s) ≡ refused (Form l)
    unfolding rows
    no_line zero u e = absurd (not-suc-le-zero u)
    no_line (suc j) u e = full s at _ _ h ∙ rw e

    module _ (p : A) (t : List ℕ) (e : E.entry (drop at s) ≡ value p t) where
      bad_entry : (j : ℕ) (r : Refusal) → 0 < j → E.entry_judged c l low p ≡ Err r → rows E c j l low done (drop at s) ≡ refused r
      unfolding rows
      bad_entry zero r u q = absurd (not-suc-le-zero u)
      bad_entry (suc j) r u q = full s at _ _ h ∙ rw (e, q)

      good_entry : (j : ℕ) → E.entry_judged c l low p ≡ Ok tt
          → rows E c (suc j) l low done (drop at s) ≡ rows E c j (suc l) (E.after p) (done ++ (p ∷ [])) t
      unfolding rows
      good_entry j q = full s at _ _ h ∙ rw (e, q)

module _ {C A L : Type 0} {E : EntryLines C A L} {most : ℕ} {c : C} {s : List ℕ} {from at k : ℕ} {low : L} (q : Scanning E most c s from at k low) where
  abbrev answer : Lines C A
  answer = rows_from E most c s from

  pub scanning_end : length s ≤ at → answer ≡ lines c q.done
  scanning_end h = q.same ∙ ap (rows E c q.left (k + 4) low q.done) (drop_of_length-le s h) ∙ none_left E c (k + 4) low q.done q.left

  module _ (h : at < length s) where
    pub scanning_many : most ≤ k → answer ≡ refused (Count (k + 4))
    scanning_many u = q.same ∙ too_many E c (k + 4) low q.done s at h q.left (omega (arith, q.total))

    module _ (u : k < most) where
      pub scanning_other : E.entry (drop at s) ≡ other → answer ≡ refused (Form (k + 4))
      scanning_other e = q.same ∙ no_line E c (k + 4) low q.done s at h q.left (omega (arith, q.total)) e

      module _ (p : A) (next : ℕ) (e : E.entry (drop at s) ≡ value p (drop next s)) where
        pub scanning_refused : {r : Refusal} → E.entry_judged c (k + 4) low p ≡ Err r → answer ≡ refused r
        scanning_refused {r} j = q.same ∙ bad_entry E c (k + 4) low q.done s at h p (drop next s) e q.left r (omega (arith, q.total)) j

        pub scanning_more : next ≤ length s → E.entry_judged c (k + 4) low p ≡ Ok tt → Scanning E most c s from next (k + 1) (E.after p)
        scanning_more w j = go q.left q.total q.same
          where
            go : (left : ℕ) → left + k ≡ most → answer ≡ rows E c left (k + 4) low q.done (drop at s) → Scanning E most c s from next (k + 1) (E.after p)
            go zero t a = absurd (omega arith)
            go (suc left) t a = record {
              left = left;
              done = q.done ++ (p ∷ []);
              within = w;
              total = omega arith;
              got = length-append q.done (p ∷ []) ∙ omega (arith, q.got);
              same =
                  a ∙ good_entry E c (k + 4) low q.done s at h p (drop next s) e left j
                  ∙ ap (λ (l : ℕ). rows E c left l (E.after p) (q.done ++ (p ∷ [])) (drop next s)) (omega arith);
            }

-- ---- the lines above the entries

module _ {C A L : Type 0} (Y : Layout C A L) (s : List ℕ) where
  pub no_heading : fixed Y.heading s ≡ other → sheet_lines Y s ≡ refused (Form 1)
  unfolding sheet_lines
  no_heading e = rw e

  module _ {t₁ : List ℕ} (e₁ : fixed Y.heading s ≡ value tt t₁) where
    pub no_counts : Y.counts t₁ ≡ other → sheet_lines Y s ≡ refused (Form 2)
    unfolding sheet_lines
    no_counts e = rw (e₁, e)

    module _ {c : C} {t₂ : List ℕ} (e₂ : Y.counts t₁ ≡ value c t₂) where
      pub bad_counts : {r : Refusal} → Y.counts_judged c ≡ Err r → sheet_lines Y s ≡ refused r
      unfolding sheet_lines
      bad_counts {r} e = rw (e₁, e₂, e)

      module _ (fit : Y.counts_judged c ≡ Ok tt) where
        pub no_titles : fixed Y.titles t₂ ≡ other → sheet_lines Y s ≡ refused (Form 3)
        unfolding sheet_lines
        no_titles e = rw (e₁, e₂, fit, e)

        pub to_entries : {t₃ : List ℕ} → fixed Y.titles t₂ ≡ value tt t₃ → sheet_lines Y s ≡ rows Y.entries c (Y.room c) 4 Y.entries.low [] t₃
        unfolding sheet_lines
        to_entries e = rw (e₁, e₂, fit, e)
