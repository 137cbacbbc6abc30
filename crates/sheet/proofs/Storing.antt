-- The pass that stores: what the two lists hold after some of the lines, one line on, and after the last.
use mathlib.Core.Path.{◌≡◌, sym, ◌∙◌, subst}
use mathlib.Core.List.{List}
use Prim.Native.Nat.{ℕ, ◌+◌, ◌<◌}
use native.Mathlib.Numerals.{add-one}
use native.Mathlib.Omega.{arith}
use lib.ListN.{drop}
use Rattle.words.specs.Roles.{wide}
use Rattle.words.proofs.Filling.{Filled, filled_none, filled_end}
use Rattle.texts.specs.Lines.{line}
use Rattle.texts.specs.Places.{LineRead}
use Rattle.code_sheets.specs.Text.Reading.{Lines, start_in, column_in}
use Rattle.code_sheets.specs.declared.Counts.{Counts}
use Rattle.code_sheets.specs.Reader.Storing.{lines_graph, graph_from, EntriesAt, Stores}
use Rattle.sheet_lines.specs.Passing.{Pass}
use Rattle.sheet_lines.proofs.Passing.{pass_none, pass_more}

-- the starts below place `filled` are made
pub record Stage (s : List ℕ) (counts : Counts) (from : ℕ) (starts₀ starts columns₀ columns : List ℕ) (i k filled : ℕ) : Type 0 where
  pub pass : Pass s counts from i k filled
  pub starts_are : Filled wide (start_in pass.held.entries) starts₀ starts filled
  pub columns_are : Filled wide (column_in pass.held.entries) columns₀ columns k

pub stage_none : {s : List ℕ} {counts : Counts} {from : ℕ} (starts columns : List ℕ) → EntriesAt s counts from
    → Stage s counts from starts starts columns columns from 0 0
stage_none starts columns h = record {
  pass = record { held = h; at = pass_none h (omega arith) };
  starts_are = filled_none wide (start_in h.entries) starts;
  columns_are = filled_none wide (column_in h.entries) columns;
}

module _ {s : List ℕ} {counts : Counts} {from : ℕ} {starts₀ starts columns₀ columns : List ℕ} {i k filled : ℕ}
    (q : Stage s counts from starts₀ starts columns₀ columns i k filled) where
  pub stage_more : k < counts.entries → {a b next : ℕ} → LineRead (line (drop i s)) s i a b next → {starts' columns' : List ℕ}
      → Filled wide (start_in q.pass.held.entries) starts₀ starts' (a + 1) → Filled wide (column_in q.pass.held.entries) columns₀ columns' (k + 1)
      → Stage s counts from starts₀ starts' columns₀ columns' next (k + 1) (a + 1)
  stage_more h r f g = record { pass = record { held = q.pass.held; at = pass_more q.pass h r }; starts_are = f; columns_are = g }

  -- after the last line
  pub stage_all : k ≡ counts.entries → {starts' : List ℕ} → Filled wide (start_in q.pass.held.entries) starts₀ starts' (counts.checks + 1)
      → Stores (graph_from s counts from) starts₀ starts' columns₀ columns
  stage_all e {starts'} f =
      let h = q.pass.held in
      subst (λ (x : Lines). Stores (lines_graph x) starts₀ starts' columns₀ columns) (sym h.are)
      (record {
        starts = filled_end (add-one counts.checks) f;
        columns = filled_end (e ∙ sym h.many) q.columns_are;
      })
