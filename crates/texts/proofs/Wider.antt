-- Wider limits make nothing else of lines that are not refused with 2.
use Rattle.std.specs.Prelude.{Ok, Err}
use mathlib.Core.Path.{◌≡◌, refl, ap, ◌∙◌}
use mathlib.Core.List.{List, [], ◌∷◌, ◌++◌}
use Prim.Native.Nat.{ℕ, zero, suc, ◌≤◌}
use native.Mathlib.Omega.{arith}
use Rattle.refusals.specs.declared.Refusal.TheVariants.{Count}
use Rattle.refusals.specs.Refusals.{Judged}
use Rattle.texts.specs.Numbers.{Front, other, value}
use Rattle.texts.specs.Lines.{fixed}
use Rattle.texts.specs.Layouts.{EntryLines, Layout}
use Rattle.texts.specs.Reading.{Lines, refused, formed, below, rows, sheet_lines}

module _ {C A : Type 0} where
  -- not refused with 2
  abbrev pub Counted : Lines C A → Type 0
  Counted x = (l : ℕ) → x ≡ refused (Count l) → ⊥

  -- ---- the combinators

  formed_alike : {X : Type 0} (l : ℕ) (f : Front X) (x y : X → List ℕ → Lines C A) → ((a : X) (r : List ℕ) → Counted (y a r) → x a r ≡ y a r)
      → Counted (formed l f y) → formed l f x ≡ formed l f y
  formed_alike l other x y e h = refl
  formed_alike l (value a r) x y e h = e a r h

  below_alike : (j : Judged) (x y : Lines C A) → (Counted y → x ≡ y) → Counted (below j y) → below j x ≡ below j y
  below_alike (Ok _) x y e h = e h
  below_alike (Err r) x y e h = refl

-- ---- the entries

module _ {C A L : Type 0} (E : EntryLines C A L) (c : C) where
  pub rows_alike : (k j : ℕ) → k ≤ j → (l : ℕ) (low : L) (done : List A) (t : List ℕ) → Counted (rows E c k l low done t)
      → rows E c j l low done t ≡ rows E c k l low done t
  unfolding rows
  rows_alike zero zero u l low done t h = refl
  rows_alike zero (suc j) u l low done [] h = refl
  rows_alike zero (suc j) u l low done (b ∷ t) h = absurd (h l refl)
  rows_alike (suc k) zero u l low done t h = absurd (omega arith)
  rows_alike (suc k) (suc j) u l low done [] h = refl
  rows_alike (suc k) (suc j) u l low done (b ∷ t) h =
      formed_alike l (E.entry (b ∷ t)) _ (λ p r. below (E.entry_judged c l low p) (rows E c k (suc l) (E.after p) (done ++ (p ∷ [])) r))
      (λ p r.
      below_alike (E.entry_judged c l low p) (rows E c j (suc l) (E.after p) (done ++ (p ∷ [])) r) (rows E c k (suc l) (E.after p) (done ++ (p ∷ [])) r)
      (rows_alike k j (omega arith) (suc l) (E.after p) (done ++ (p ∷ [])) r)) h

-- ---- the sheet

-- i is j, unless j refuses with 2
abbrev pub Looser : Judged → Judged → Type 0
Looser j i = ((l : ℕ) → j ≡ Err (Count l) → ⊥) → i ≡ j

counts_alike : {C A : Type 0} (j i : Judged) → Looser j i → (x y : Lines C A) → (Counted y → x ≡ y) → Counted (below j y) → below i x ≡ below j y
counts_alike j i w x y e h = ap (λ (a : Judged). below a x) (w (λ l q. h l (ap (λ (a : Judged). below a y) q))) ∙ below_alike j x y e h

module _ {C A L : Type 0} (Y : Layout C A L) (judged : C → Judged) (room : C → ℕ) where
  -- the layout with other limits
  abbrev pub under : Layout C A L
  under = record {
    heading = Y.heading;
    counts = Y.counts;
    counts_text = Y.counts_text;
    counts_judged = judged;
    titles = Y.titles;
    entries = Y.entries;
    room = room;
  }

  pub sheets_alike : ((c : C) → Looser (Y.counts_judged c) (judged c)) → ((c : C) → Y.room c ≤ room c) → (t : List ℕ) → Counted (sheet_lines Y t)
      → sheet_lines under t ≡ sheet_lines Y t
  unfolding sheet_lines
  sheets_alike looser more t h =
      formed_alike 1 (fixed Y.heading t) _ _
      (λ u t₁ h₁.
      formed_alike 2 (Y.counts t₁) _ _
      (λ c t₂ h₂.
      counts_alike (Y.counts_judged c) (judged c) (looser c) _ _
      (λ h₃. formed_alike 3 (fixed Y.titles t₂) _ _ (λ v t₃ h₄. rows_alike Y.entries c (Y.room c) (room c) (more c) 4 Y.entries.low [] t₃ h₄) h₃) h₂) h₁) h
