-- The degrees of an expansion, from what was counted; and 5.
use Rattle.std.specs.Prelude.{Err}
use mathlib.Core.Path.{◌≡◌, sym, ap, ◌∙◌, subst}
use mathlib.Core.List.{List, ◌++◌}
use Prim.Native.Nat.{ℕ, ◌+◌, ◌*◌, ◌≤◌, ◌<◌}
use native.Mathlib.Omega.{arith}
use borrow.Author.Tests.{le-leb, lt-leb}
use lib.Dec.{eqb}
use lib.ListN.{length, drop, length-map}
use Rattle.rules.specs.Ranges.{count}
use Rattle.rules.specs.Graphs.{limits, least_variable_degree, between, variable_degree}
use Rattle.refusals.specs.Refusals.{unless, Judged}
use Rattle.refusals.specs.declared.Refusal.TheVariants.{Degree}
use Rattle.rules.proofs.Ranges.{count_ext}
use Rattle.refusals.proofs.Judging.{each_same}
use Rattle.words.specs.Words.{table}
use Rattle.words.specs.Roles.{degree_at}
use Rattle.graphs.specs.Judging.{variable_degrees_judged}
use Rattle.graphs.specs.Degrees.{Judges}
use Rattle.texts.specs.Triples.{Triple}
use Rattle.code_sheets.specs.declared.Rows.{Rows}
use Rattle.block_sheets.specs.declared.Counts.{Counts}
use Rattle.block_sheets.specs.Text.Blocks.{Blocks, place, places_of, block_at}
use Rattle.block_sheets.specs.Text.Expansion.{expansion}
use Rattle.block_sheets.specs.Text.Reading.{counted}
use Rattle.block_sheets.specs.Text.Scanning.{counts_in}
use Rattle.block_sheets.specs.Text.Theorems.{Valid}
use Rattle.block_sheets.proofs.Text.Rows.{part_div}
use Rattle.block_sheets.proofs.Text.Expanding.{column_of_lem}
use Rattle.block_text.proofs.Degrees.{degrees}
use Rattle.block_degrees.specs.Counting.{in_column, BlocksCounted, column_degrees_judged, Spread, JudgesBlocks}
use Rattle.block_degrees.proofs.Places.{checks_are, by_column}

module _ {b : Blocks} (v : Valid b) where
  -- what is counted of block column j
  column_is : (j : ℕ) → in_column b (length b.entries) j ≡ variable_degree (places_of b) j
  unfolding variable_degree
  column_is j =
      count_ext (λ q. eqb (block_at b q).second j) (λ q. eqb ((places_of b).column q) j) (length b.entries)
      (λ q l. ap (λ (x : ℕ). eqb x j) (sym (column_of_lem b v.ordered q)))
      ∙ ap (count (λ q. eqb ((places_of b).column q) j) 0) (sym (length-map b.entries place))

  module _ {rows : Rows} {old now : List ℕ} (c : BlocksCounted b rows old now) where
    first_at : (j r : ℕ) → j < b.columns → r < b.size → degree_at now (j * b.size) ≡ variable_degree (expansion b) (j * b.size + r)
    first_at j r l u =
        c.counts.heads j l ∙ column_is j
        ∙ ap (variable_degree (places_of b)) (sym (part_div b.size j r u)) ∙ sym ((degrees b v.ordered).variables (j * b.size + r))

    -- the list, spread
    degrees_are : {later : List ℕ} → Spread b.columns b.size now later
        → later ≡ table 4 (variable_degree (expansion b)) (b.columns * b.size) ++ drop (4 * (b.columns * b.size)) old
    degrees_are {later} s =
        s (variable_degree (expansion b)) first_at
        ∙ ap (λ (t : List ℕ). table 4 (variable_degree (expansion b)) (b.columns * b.size) ++ t) c.counts.rest

    -- 5 for the variables, off the first ones
    columns_are : column_degrees_judged (counted b) now ≡ variable_degrees_judged limits (expansion b)
    columns_are =
        each_same (λ j. unless (between least_variable_degree (degree_at now (j * b.size)) limits.variable_degree) (Degree (b.rows * b.size + j * b.size)))
        (λ j. unless (between least_variable_degree (variable_degree (places_of b) j) limits.variable_degree) (Degree (b.rows * b.size + j * b.size))) b.columns
        (λ j l. ap (λ (d : ℕ). unless (between least_variable_degree d limits.variable_degree) (Degree (b.rows * b.size + j * b.size))) (c.counts.heads j l ∙ column_is j))
        ∙ sym (by_column b v.ordered)

    module _ {later : List ℕ} (s : Spread b.columns b.size now later) where
      checks_refused : rows.low < b.rows → Judges limits (expansion b) (Err (Degree (rows.low * b.size))) old later
      checks_refused l = record {
        answer = sym (rw (checks_are b v.ordered rows c.to c.rows_are, lt-leb b.rows rows.low l));
        degrees = degrees_are s;
      }

      variables_judged_lem : b.rows ≤ rows.low → {r : Judged} → r ≡ column_degrees_judged (counted b) now → Judges limits (expansion b) r old later
      variables_judged_lem l e = record {
        answer = e ∙ columns_are ∙ sym (rw (checks_are b v.ordered rows c.to c.rows_are, le-leb b.rows rows.low l));
        degrees = degrees_are s;
      }

-- ---- in the numbers of the code

module _ (k : Counts) (rows : Rows) {now later : List ℕ} (s : Spread k.columns k.size now later) where
  pub judge_checks : rows.low < k.rows → JudgesBlocks k rows (Err (Degree (rows.low * k.size))) now later
  judge_checks l b old v e c =
      subst (λ (t : Triple). Judges limits (expansion b) (Err (Degree (rows.low * t.first))) old later) e
      (checks_refused v c (subst (λ (t : Triple). Spread t.third t.first now later) (sym e) s) (omega (arith, ap (λ (t : Triple). t.second) e)))

  pub judge_variables : k.rows ≤ rows.low → {r : Judged} → r ≡ column_degrees_judged (counts_in k) now → JudgesBlocks k rows r now later
  judge_variables l {r} a b old v e c =
      variables_judged_lem v c (subst (λ (t : Triple). Spread t.third t.first now later) (sym e) s) (omega (arith, ap (λ (t : Triple). t.second) e))
      (a ∙ ap (λ (t : Triple). column_degrees_judged t now) (sym e))
