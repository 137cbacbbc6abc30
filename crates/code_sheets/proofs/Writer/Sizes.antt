-- A line of a sheet has at most fourteen bytes, that of the counts sixteen.
use mathlib.Core.Path.{◌≡◌, refl, ap}
use mathlib.Core.Bool.{Bool, true, false}
use mathlib.Core.List.{List}
use Prim.Native.Nat.{ℕ, zero, suc, ◌+◌, ◌*◌, ◌/◌, ◌^◌, ◌≤◌, ◌<◌}
use native.Mathlib.Nat.{pow-zero, pow-suc}
use native.Mathlib.Omega.{arith}
use borrow.Author.Tests.{ltb-true, ltb-false}
use lib.Dec.{ltb}
use lib.ListN.{length, length-append}
use Rattle.rules.specs.Ranges.{joined}
use Rattle.rules.specs.Graphs.{Graph, Admitted, check_degree}
use Rattle.rules.proofs.Rows.{rowed, row_entries_lem}
use Rattle.texts.specs.Numbers.{decimal}
use Rattle.texts.specs.Lines.{pair, line_text}
use Rattle.texts.proofs.Putting.{one_digit, more_digits}
use Rattle.code_sheets.specs.Writer.Theorems.{SheetsShort}
use Rattle.code_sheets.proofs.Writer.Texts.{line_long, entry_line, row_lines, row_lines_lem, all_lines, sheet_long}

-- one digit more for ten times as much
digits_more : (k w d : ℕ) → (k / 10 < w → length (decimal (k / 10)) ≤ d) → k < 10 * w → length (decimal k) ≤ d + 1
digits_more k w d ih h = go (ltb k 10) refl
  where
    go : (b : Bool) → ltb k 10 ≡ b → length (decimal k) ≤ d + 1
    go true e = omega (arith, one_digit k (ltb-true k 10 e))
    go false e = let l : 10 ≤ k = ltb-false k 10 e in omega (arith, more_digits k l, ih (omega arith))

pub digits_within : (d k : ℕ) → k < 10 * 10 ^ d → length (decimal k) ≤ d + 1
digits_within zero k h = omega (arith, one_digit k (omega (arith, pow-zero 10)))
digits_within (suc d) k h = omega (arith, digits_more k (10 * 10 ^ d) (d + 1) (digits_within d (k / 10)) (omega (arith, pow-suc 10 d)))

pub line_short : (d a b : ℕ) → a < 10 * 10 ^ d → b < 10 * 10 ^ d → length (line_text (pair a b)) ≤ 2 * d + 4
line_short d a b h k = omega (arith, line_long a b, digits_within d a h, digits_within d b k)

-- lines one after the other
joined_short : (f : ℕ → List ℕ) (n : ℕ) → ((k : ℕ) → k < n → length (f k) ≤ 14) → length (joined f n) ≤ 14 * n
unfolding joined
joined_short f zero h = omega arith
joined_short f (suc n) h = rw length-append (omega (arith, joined_short f n (λ k l. h k (omega arith)), h n (omega arith)))

module _ (G : Graph) (ad : Admitted G) where
  row_short : (i : ℕ) → i < G.checks → length (row_lines G i) ≤ 14 * check_degree G i
  row_short i l = omega (arith, ap length (row_lines_lem G i), joined_short (entry_line G i) (check_degree G i) entry)
    where
      entry : (k : ℕ) → k < check_degree G i → length (entry_line G i k) ≤ 14
      entry k u =
          let e : ℕ = G.start i + k in
          let c = ad.within e (row_entries_lem G (rowed ad) i e l (omega arith)) in
          line_short 5 i (G.column e) (omega (arith, ad.checks.1)) (omega (arith, ad.variables.1))

  rows_short : (k : ℕ) → k ≤ G.checks → length (joined (row_lines G) k) ≤ 14 * G.start k
  unfolding joined
  rows_short zero h = omega (arith, ad.begins)
  rows_short (suc k) h = rw length-append (omega (arith, rows_short k (omega arith), row_short k h, ad.check_degrees k h))

pub sheets_short : SheetsShort
sheets_short G ad =
    omega (
      arith,
      sheet_long G,
      line_short 6 G.variables G.checks (omega (arith, ad.variables.1)) (omega (arith, ad.checks.1)),
      ap length (all_lines G),
      rows_short G ad G.checks (omega arith),
      ad.ends,
    )
