-- Reading a sheet of any layout: 'top line first, place the line counted from 1'.
-- The answer is a function of the text that is left, so that no place of the text stands in it.
use Rattle.std.specs.Prelude.{List, [], ◌∷◌, ◌++◌, ℕ, zero, suc, Ok, Err}
use Rattle.refusals.specs.declared.Refusal.{Refusal}
use Rattle.refusals.specs.declared.Refusal.TheVariants.{Form, Count}
use Rattle.refusals.specs.Refusals.{Judged}
use Rattle.texts.specs.Numbers.{Front, other, value}
use Rattle.texts.specs.Lines.{fixed}
use Rattle.texts.specs.Layouts.{EntryLines, Layout}

-- A refusal, or the counts and the entries.
pub data Lines (C A : Type 0) : Type 0 where
  refused : Refusal → Lines C A
  lines : C → List A → Lines C A

-- '1, a line of another form, or a missing line or LF': line l, or what is made of it and of the text after it.
abbrev pub formed : {C A X : Type 0} → ℕ → Front X → (X → List ℕ → Lines C A) → Lines C A
formed l other k = refused (Form l)
formed l (value a t) k = k a t

-- What comes of the lines below, where a line's numbers are not refused.
abbrev pub below : {C A : Type 0} → Judged → Lines C A → Lines C A
below (Ok _) x = x
below (Err r) x = refused r

-- The first where nothing is left of the text, else the second.
abbrev pub at_end : {C A : Type 0} → List ℕ → Lines C A → Lines C A → Lines C A
at_end [] x y = x
at_end (b ∷ t) x y = y

module _ {C A L : Type 0} where
  -- Line l and those below it: k entries more are allowed, after the entries `done`, the next not before `low`.
  -- '2, .. a 32,769th entry, before its form', as of any layout's first entry that is too many.
  unfoldable pub rows : EntryLines C A L → C → ℕ → ℕ → L → List A → List ℕ → Lines C A
  rows E c zero l low done t = at_end t (lines c done) (refused (Count l))
  rows E c (suc k) l low done t =
      at_end t (lines c done)
      (formed l (E.entry t) (λ p r. below (E.entry_judged c l low p) (rows E c k (suc l) (E.after p) (done ++ (p ∷ [])) r)))

  -- All lines: the two fixed ones, the counts between them, and the entries.
  unfoldable pub sheet_lines : Layout C A L → List ℕ → Lines C A
  sheet_lines Y t =
      formed 1 (fixed Y.heading t) (λ u t₁. formed 2 (Y.counts t₁) (λ c t₂.
      below (Y.counts_judged c) (formed 3 (fixed Y.titles t₂) (λ u t₃. rows Y.entries c (Y.room c) 4 Y.entries.low [] t₃))))

  -- ---- the same on entries in place of their lines: what a writer of them is to refuse

  unfoldable pub walked : EntryLines C A L → C → ℕ → ℕ → L → List A → List A → Lines C A
  walked E c k l low done [] = lines c done
  walked E c zero l low done (p ∷ ps) = refused (Count l)
  walked E c (suc k) l low done (p ∷ ps) = below (E.entry_judged c l low p) (walked E c k (suc l) (E.after p) (done ++ (p ∷ [])) ps)

  abbrev pub given : Layout C A L → C → List A → Lines C A
  given Y c ps = below (Y.counts_judged c) (walked Y.entries c (Y.room c) 4 Y.entries.low [] ps)
