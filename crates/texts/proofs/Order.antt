-- What a layout must have for texts and entries to determine each other.
use Rattle.std.specs.Prelude.{Ok}
use mathlib.Core.Path.{◌≡◌}
use mathlib.Core.List.{List, [], ◌++◌}
use Prim.Native.Nat.{ℕ}
use Rattle.texts.specs.Numbers.{value}
use Rattle.texts.specs.Layouts.{EntryLines, Layout}

module _ {C A L : Type 0} where
  -- its lines are read as they are written, and only so; none is empty
  pub record ReadableEntries (E : EntryLines C A L) : Type 0 where
    pub entry_reads : (p : A) (t : List ℕ) → E.entry (E.entry_text p ++ t) ≡ value p t
    pub entry_text_lem : (p : A) (t r : List ℕ) → E.entry t ≡ value p r → t ≡ E.entry_text p ++ r
    pub entry_empty : (p : A) (t : List ℕ) → E.entry [] ≡ value p t → ⊥

  pub record Readable (Y : Layout C A L) : Type 0 where
    pub counts_reads : (c : C) (t : List ℕ) → Y.counts (Y.counts_text c ++ t) ≡ value c t
    pub counts_text_lem : (c : C) (t r : List ℕ) → Y.counts t ≡ value c r → t ≡ Y.counts_text c ++ r
    pub entries : ReadableEntries Y.entries

  -- an entry that is not refused is one that fits, in whatever line
  pub record Judging (E : EntryLines C A L) (Fits : C → L → A → Type 0) : Type 0 where
    pub fits_judged : (c : C) (low : L) (p : A) (l : ℕ) → Fits c low p → E.entry_judged c l low p ≡ Ok tt
    pub judged_fits : (c : C) (low : L) (p : A) (l : ℕ) → E.entry_judged c l low p ≡ Ok tt → Fits c low p
