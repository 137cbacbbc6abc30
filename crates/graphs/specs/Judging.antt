-- Document 01, 'Check a graph': the five refusals, each looked for over the whole input before the next; document 02, item 9: the list of degrees.
use Rattle.std.specs.Prelude.{Bool, not, ◌&&◌, ◌||◌, ℕ, suc, ◌+◌, ◌*◌, ◌-◌, eqb, leb, ltb}
use Rattle.rules.specs.Graphs.{Graph, Limits, fewest_variables, fewest_checks, least_check_degree, between, check_degree, variable_degree}
use Rattle.refusals.specs.Refusals.{unless, or_else, each, Judged}
use Rattle.graphs.specs.Variables.{variables_judged}
use Rattle.refusals.specs.declared.Refusal.TheVariants.{Count, Range, Order, Degree, Buffer, Start}

-- Start i of m, which is s, where the one before is last: 0 at the front, not below last, E at the end. (At the front last is s.)
abbrev pub start_is_fit : ℕ → ℕ → ℕ → ℕ → ℕ → Bool
start_is_fit i m E last s = (not (eqb i 0) || eqb s 0) && (leb last s && (not (eqb i m) || eqb s E))

-- Of the entries from a to before b, the first whose column is not above its predecessor's.
unfoldable pub span_judged : (ℕ → ℕ) → ℕ → ℕ → Judged
span_judged column a b = each (λ k. unless (ltb (column (a + k)) (column (a + k + 1))) (Order (a + k + 1))) (b - a - 1)

-- '2, a count outside its limits (n, then m, then E).'
unfoldable pub counts_judged : Limits → Graph → Judged
counts_judged L G =
    or_else (unless (between fewest_variables G.variables L.variables) (Count 0))
    (or_else (unless (between fewest_checks G.checks L.checks) (Count 0)) (unless (leb G.entries L.entries) (Count 0)))

module _ (G : Graph) where
  -- '7, starts not beginning at 0, one below the start before it, or not ending at E (first such index, the ends being 0 and m).'
  unfoldable pub starts_judged : Judged
  starts_judged =
      each (λ i. unless (start_is_fit i G.checks G.entries (G.start (i - 1)) (G.start i)) (Start i)) (suc G.checks)

  -- '3, a column not below n (its index).'
  unfoldable pub columns_judged : Judged
  columns_judged = each (λ e. unless (ltb (G.column e) G.variables) (Range e)) G.entries

  -- '4, a column not above its predecessor in the row (its index).'
  unfoldable pub rows_judged : Judged
  rows_judged = each (λ i. span_judged G.column (G.start i) (G.start (suc i))) G.checks

module _ (L : Limits) (G : Graph) where
  -- '5, a degree outside its limits (lowest check, else m + lowest variable).'
  unfoldable pub check_degrees_judged : Judged
  check_degrees_judged = each (λ i. unless (between least_check_degree (check_degree G i) L.check_degree) (Degree i)) G.checks

  unfoldable pub variable_degrees_judged : Judged
  variable_degrees_judged = variables_judged L G.checks (variable_degree G) G.variables

  abbrev pub degrees_judged : Judged
  degrees_judged = or_else check_degrees_judged variable_degrees_judged

  -- What comes before the degrees: 2, 7, 3, 4.
  unfoldable pub shape_judged : Judged
  shape_judged = or_else (counts_judged L G) (or_else (starts_judged G) (or_else (columns_judged G) (rows_judged G)))

  -- 'The graph's five': 2, 7, 3, 4, 5. What is refused where the list of degrees is long enough.
  unfoldable pub graph_judged : Judged
  graph_judged = or_else shape_judged degrees_judged

  -- 'A further lent list of n 32-bit numbers, and a shorter one gets 6 directly before 5': a list of d bytes is lent.
  unfoldable pub countable : ℕ → Judged
  countable d = or_else shape_judged (unless (leb (4 * G.variables) d) Buffer)

  -- 'Check a graph': 2, 7, 3, 4, 6, 5.
  unfoldable pub graph_judged_in : ℕ → Judged
  graph_judged_in d = or_else (countable d) degrees_judged
