-- What a first pass owes: the lines as `sheet_lines` has them.
use Rattle.std.specs.Prelude.{◌≡◌, List, [], ℕ, length, drop}
use Rattle.texts.specs.Layouts.{EntryLines}
use Rattle.texts.specs.Reading.{Lines, lines, rows}

-- The lines x of the text s have the counts c and `total` entries of at most `most`, whose lines begin at `at`.
pub record LinesAt {C A L : Type 0} (E : EntryLines C A L) (most : ℕ) (s : List ℕ) (x : Lines C A) (c : C) (total at : ℕ) : Type 0 where
  pub entries : List A
  pub are : x ≡ lines c entries
  pub many : length entries ≡ total
  pub rest : rows E c most 4 E.low [] (drop at s) ≡ lines c entries
