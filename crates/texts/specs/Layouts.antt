-- Layouts of sheets: two fixed lines with the counts between them, then a line per entry.
use Rattle.std.specs.Prelude.{List, [], ◌∷◌, ◌++◌, ℕ}
use Rattle.refusals.specs.Refusals.{Judged}
use Rattle.texts.specs.Numbers.{Front}

-- The lines of entries, under counts of type C: entries of type A, judged by the place, of type L, where one may stand at the lowest.
pub record EntryLines (C A L : Type 0) : Type 0 where
  pub entry : List ℕ → Front A  -- a line, read and written
  pub entry_text : A → List ℕ
  pub entry_judged : C → ℕ → L → A → Judged  -- in line l, at a place or after it
  pub low : L  -- the place of a first entry
  pub after : A → L  -- the place just after an entry

pub record Layout (C A L : Type 0) : Type 0 where
  pub heading : List ℕ  -- line 1
  pub counts : List ℕ → Front C  -- line 2, read and written
  pub counts_text : C → List ℕ
  pub counts_judged : C → Judged
  pub titles : List ℕ  -- line 3
  pub entries : EntryLines C A L
  pub room : C → ℕ  -- how many entries there may be

module _ {C A L : Type 0} where
  -- The lines of entries, one after the other.
  unfoldable pub entries_text : EntryLines C A L → List A → List ℕ
  entries_text E [] = []
  entries_text E (p ∷ ps) = E.entry_text p ++ entries_text E ps

  -- The sheet of counts and entries.
  unfoldable pub sheet_of : Layout C A L → C → List A → List ℕ
  sheet_of Y c ps = Y.heading ++ (Y.counts_text c ++ (Y.titles ++ entries_text Y.entries ps))
