-- Document 02, item 9: 'variable degrees are counted in a further lent list of n 32-bit numbers'.
use Rattle.std.specs.Prelude.{◌≡◌, List, ◌++◌, ℕ, ◌*◌, ◌≤◌, length, drop, Ok, Err}
use Rattle.rules.specs.Graphs.{Graph, Limits, variable_degree}
use Rattle.refusals.specs.Refusals.{Judged}
use Rattle.words.specs.Words.{table}
use Rattle.graphs.specs.Judging.{graph_judged, degrees_judged, countable, graph_judged_in}

-- 'It holds the degrees after every call that came as far as 5, refused or not, and is unchanged otherwise.' Bytes past n numbers do not
-- change.
abbrev pub degrees_in : Judged → Graph → List ℕ → List ℕ
degrees_in (Ok _) G old = table 4 (variable_degree G) G.variables ++ drop (4 * G.variables) old
degrees_in (Err r) G old = old

-- 'Check a graph': the answer r, and the list before and after.
pub record Checks (L : Limits) (G : Graph) (r : Judged) (old now : List ℕ) : Type 0 where
  pub answer : r ≡ graph_judged_in L G (length old)
  pub degrees : now ≡ degrees_in (countable L G (length old)) G old

-- 5, in a list that is long enough.
pub record Judges (L : Limits) (G : Graph) (r : Judged) (old now : List ℕ) : Type 0 where
  pub answer : r ≡ degrees_judged L G
  pub degrees : now ≡ table 4 (variable_degree G) G.variables ++ drop (4 * G.variables) old

-- A list that is long enough changes no answer.
abbrev pub LentAlike : Type 0
LentAlike = (L : Limits) (G : Graph) (d : ℕ) → 4 * G.variables ≤ d → graph_judged_in L G d ≡ graph_judged L G
