-- What the passes over the entries' lines, judged before, owe, and what follows them.
use Rattle.std.specs.Prelude.{◌≡◌, cond, List, [], ◌++◌, ℕ, suc, ◌+◌, ◌-◌, ◌*◌, ◌≤◌, ◌<◌, leb, ltb, length, drop}
use Rattle.rules.specs.Graphs.{Graph, limits, least_check_degree, variable_degree, between}
use Rattle.refusals.specs.Refusals.{unless, each, Judged}
use Rattle.refusals.specs.declared.Refusal.TheVariants.{Degree}
use Rattle.words.specs.Words.{table}
use Rattle.graphs.specs.Judging.{check_degrees_judged}
use Rattle.texts.specs.Lines.{Pair, pair}
use Rattle.code_sheets.specs.Text.Reading.{Lines, refused, lines, rows, graph_in}
use Rattle.code_sheets.specs.Text.Scanning.{counted, UpTo}
use Rattle.code_sheets.specs.declared.Counts.{Counts}
use Rattle.code_sheets.specs.Reader.Reading.{graph, unless_refused, starts_of, columns_of, ReadAs, after_lines_in, degrees_in, Sheet}
use Rattle.code_sheets.specs.declared.Rows.{Rows}

-- The graph of the lines of a sheet.
abbrev pub lines_graph : Lines → Graph
lines_graph (refused r) = graph_in (pair 0 0) []
lines_graph (lines c ps) = graph_in c ps

-- The text from place `at` on, read as the entries' lines of a sheet with these counts.
abbrev pub lines_from : List ℕ → Counts → ℕ → Lines
lines_from s k at = rows (counted k) k.entries 4 (pair 0 0) [] (drop at s)

abbrev pub graph_from : List ℕ → Counts → ℕ → Graph
graph_from s k at = lines_graph (lines_from s k at)

-- They are as many as the counts say, and the counts are within limits.
pub record EntriesAt (s : List ℕ) (k : Counts) (at : ℕ) : Type 0 where
  pub entries : List Pair
  pub are : lines_from s k at ≡ lines (counted k) entries
  pub many : length entries ≡ k.entries
  pub small : UpTo k limits

-- The lists of a graph, in lent memory.
pub record Stores (G : Graph) (s s' c c' : List ℕ) : Type 0 where
  pub starts : s' ≡ starts_of (graph G) s
  pub columns : c' ≡ columns_of (graph G) c

-- ---- 5

-- Check i, where the rows begin at `start`.
abbrev pub row_judged : (ℕ → ℕ) → ℕ → Judged
row_judged start i = unless (between least_check_degree (start (suc i) - start i) limits.check_degree) (Degree i)

-- The lowest check that is refused, where check i has d entries, `low` is the lowest below it, and check i + 1 has none.
abbrev pub lowest_passed : ℕ → ℕ → ℕ → ℕ
lowest_passed low i d = cond (ltb low i) low (cond (between least_check_degree d limits.check_degree) (i + 1) i)

-- What `rows` says, where the rows begin at `start`.
pub record RowsTo (start : ℕ → ℕ) (rows : Rows) : Type 0 where
  pub judged : each (row_judged start) rows.check ≡ unless (leb rows.check rows.low) (Degree rows.low)
  pub first : rows.first ≡ start rows.check

-- r is come on from `rows` to check c, where the rows after those begin at entry k.
pub record GoesOn (rows : Rows) (c k : ℕ) (r : Rows) : Type 0 where
  pub check : r.check ≡ c
  pub first : r.first ≤ k
  pub holds : (start : ℕ → ℕ) → RowsTo start rows → ((i : ℕ) → rows.check < i → i ≤ c → k ≡ start i) → RowsTo start r

-- What is refused of the checks' degrees, and the variables' degrees in a list.
pub record CountedInto (G : Graph) (r : Judged) (d d' : List ℕ) : Type 0 where
  pub judged : r ≡ check_degrees_judged limits G
  pub degrees : d' ≡ table 4 (variable_degree G) G.variables ++ drop (4 * G.variables) d

-- ---- after the last line

-- What is refused where lists of s and c bytes are lent, and the list of degrees before and after.
pub record AfterLines (G : Graph) (r : Judged) (d d' : List ℕ) (s c : ℕ) : Type 0 where
  pub judged : r ≡ after_lines_in limits G (length d) s c
  pub degrees : d' ≡ degrees_in G d

-- The answer, and the three lists before and after.
pub record Finished (G : Graph) (r : Sheet) (d d' s s' c c' : List ℕ) : Type 0 where
  pub read : ReadAs (unless_refused (after_lines_in limits G (length d) (length s) (length c)) G) r s s' c c'
  pub degrees : d' ≡ degrees_in G d
