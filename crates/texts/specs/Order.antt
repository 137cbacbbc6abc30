-- Entries in order.
use Rattle.std.specs.Prelude.{◌≡◌, List, [], ◌∷◌, ◌≤◌, length, Ok}
use Rattle.texts.specs.Layouts.{EntryLines, Layout}

module _ {C A L : Type 0} where
  -- Each fits, the first not before `low`, and each other after the one above.
  abbrev pub Rising : EntryLines C A L → (C → L → A → Type 0) → C → L → List A → Type 0
  Rising E Fits c low [] = Unit
  Rising E Fits c low (p ∷ ps) = Fits c low p × Rising E Fits c (E.after p) ps

  -- Counts and entries that a sheet may have.
  pub record Lined (Y : Layout C A L) (Fits : C → L → A → Type 0) (c : C) (ps : List A) : Type 0 where
    pub counts : Y.counts_judged c ≡ Ok tt
    pub rising : Rising Y.entries Fits c Y.entries.low ps
    pub few : length ps ≤ Y.room c
