-- The parts of a sheet's text, and how long they are.
use mathlib.Core.Path.{◌≡◌, refl, ap, ◌∙◌}
use mathlib.Core.List.{List, [], ◌∷◌, ◌++◌, append-nil}
use Prim.Native.Nat.{ℕ, zero, suc, ◌+◌, ◌≤◌, ◌<◌}
use mathlib.Core.Logic.{⊎_elim}
use native.Mathlib.Nat.{eq-or-lt_of_le, le_of_suc-le-suc}
use native.Mathlib.Numerals.{add-one}
use native.Mathlib.Omega.{arith}
use lib.ListN.{length, length-append}
use Rattle.rules.specs.Ranges.{joined, tabulate}
use Rattle.rules.specs.Graphs.{Graph, check_degree}
use Rattle.rules.proofs.Ranges.{joined_ext}
use Rattle.texts.specs.Numbers.{decimal}
use Rattle.texts.specs.Lines.{Pair, pair, line_text, lines_text}
use Rattle.texts.proofs.Lines.{lines_append}
use Rattle.code_sheets.specs.Text.Texts.{sheet_of, row_entries, entries_of, sheet_text}

-- ---- lines

pub line_long : (a b : ℕ) → length (line_text (pair a b)) ≡ length (decimal a) + 1 + length (decimal b) + 1
unfolding line_text
line_long a b = simp length-append (omega arith)

-- the lines of entries that were put together
lines_joined : (f : ℕ → List Pair) (n : ℕ) → lines_text (joined f n) ≡ joined (λ k. lines_text (f k)) n
unfolding joined lines_text
lines_joined f zero = refl
lines_joined f (suc n) = lines_append (joined f n) (f n) ∙ ap (λ t. t ++ lines_text (f n)) (lines_joined f n)

one_line : (p : Pair) → lines_text (p ∷ []) ≡ line_text p
unfolding lines_text
one_line p = append-nil (line_text p)

-- ---- texts one after the other: one more, which lies within all

pub joined_more : (f : ℕ → List ℕ) (k : ℕ) → joined f (k + 1) ≡ joined f k ++ f k
unfolding joined
joined_more f k = rw add-one

pub joined_within : (f : ℕ → List ℕ) (k n : ℕ) → k < n → length (joined f k) + length (f k) ≤ length (joined f n)
unfolding joined
joined_within f k zero h = absurd (omega arith)
joined_within f k (suc n) h = rw length-append (⊎_elim here (λ l. omega (arith, joined_within f k n l)) (eq-or-lt_of_le (le_of_suc-le-suc h)))
  where
    here : k ≡ n → length (joined f k) + length (f k) ≤ length (joined f n) + length (f n)
    here e = omega (arith, ap (λ j. length (joined f j)) e, ap (λ j. length (f j)) e)

-- ---- the sheet

module _ (G : Graph) where
  -- the line of entry k of check i
  abbrev pub entry_line : ℕ → ℕ → List ℕ
  entry_line i k = line_text (pair i (G.column (G.start i + k)))

  -- the lines of check i
  abbrev pub row_lines : ℕ → List ℕ
  row_lines i = lines_text (row_entries G i)

  pub row_lines_lem : (i : ℕ) → row_lines i ≡ joined (entry_line i) (check_degree G i)
  unfolding row_entries tabulate
  row_lines_lem i =
      lines_joined (λ k. pair i (G.column (G.start i + k)) ∷ []) (check_degree G i)
      ∙ joined_ext _ _ (check_degree G i) (λ k l. one_line (pair i (G.column (G.start i + k))))

  pub all_lines : lines_text (entries_of G) ≡ joined row_lines G.checks
  unfolding entries_of
  all_lines = lines_joined (row_entries G) G.checks

  pub sheet_long : length (sheet_text G)
      ≡ 17 + length (line_text (pair G.variables G.checks)) + 15 + length (lines_text (entries_of G))
  unfolding sheet_text sheet_of
  sheet_long = simp length-append (omega arith)
