-- The check of a graph with its list of degrees, and how it stands to the five alone.
use Rattle.std.specs.Prelude.{Ok, Err}
use mathlib.Core.Path.{◌≡◌, refl, sym, ap, ◌∙◌}
use mathlib.Core.List.{List, ◌++◌}
use Prim.Native.Nat.{ℕ, ◌*◌, ◌^◌, ◌≤◌, ◌<◌}
use native.Mathlib.Omega.{arith}
use borrow.Author.Tests.{le-leb, lt-leb}
use lib.Dec.{eqb}
use lib.ListN.{length, drop}
use Rattle.rules.specs.Graphs.{Graph, Limits, AdmittedWithin, variable_degree}
use Rattle.refusals.specs.Refusals.{or_else, Judged}
use Rattle.refusals.specs.declared.Refusal.{Refusal}
use Rattle.refusals.specs.declared.Refusal.TheVariants.{Buffer}
use Rattle.refusals.proofs.Judging.{or_else_left, or_else_right, or_else_both}
use Rattle.rules.proofs.Ranges.{count_le}
use Rattle.words.specs.Words.{table}
use Rattle.words.specs.Roles.{degree_at}
use Rattle.words.proofs.Words.{at_table}
use Rattle.graphs.specs.Counting.{tally}
use Rattle.graphs.specs.Variables.{variables_judged}
use Rattle.graphs.proofs.Alike.{variables_alike}
use Rattle.graphs.specs.Judging.{counts_judged, starts_judged, columns_judged, rows_judged, check_degrees_judged, variable_degrees_judged, graph_judged, shape_judged, degrees_judged, countable, graph_judged_in}
use Rattle.graphs.specs.Degrees.{degrees_in, Checks, Judges, LentAlike}
use Rattle.graphs.proofs.Meaning.{graph_admitted}

-- nothing is refused before 6 and 5
pub record Shaped (L : Limits) (G : Graph) : Type 0 where
  pub counts : counts_judged L G ≡ Ok tt
  pub starts : starts_judged G ≡ Ok tt
  pub columns : columns_judged G ≡ Ok tt
  pub rows : rows_judged G ≡ Ok tt

module _ {L : Limits} (G : Graph) where
  pub shape_told : shape_judged L G ≡ Ok tt → Shaped L G
  unfolding shape_judged
  shape_told h =
      let after_counts = or_else_right (counts_judged L G) _ h in
      let after_starts = or_else_right (starts_judged G) _ after_counts in
      record {
        counts = or_else_left (counts_judged L G) _ h;
        starts = or_else_left (starts_judged G) _ after_counts;
        columns = or_else_left (columns_judged G) _ after_starts;
        rows = or_else_right (columns_judged G) _ after_starts;
      }

  -- ---- 5, where it ends

  module _ {old now : List ℕ} (counted : now ≡ table 4 (variable_degree G) G.variables ++ drop (4 * G.variables) old) where
    pub judges_refused : {r : Refusal} → check_degrees_judged L G ≡ Err r → Judges L G (Err r) old now
    judges_refused h = record { answer = sym (rw h); degrees = counted }

    pub judges_last : {r : Judged} → check_degrees_judged L G ≡ Ok tt → r ≡ variable_degrees_judged L G → Judges L G r old now
    judges_last h q = record { answer = q ∙ sym (rw h); degrees = counted }

  -- ---- the check, where it ends

  pub checks_refused : (old : List ℕ) {r : Refusal} → shape_judged L G ≡ Err r → Checks L G (Err r) old old
  unfolding countable graph_judged_in
  checks_refused old h = record { answer = sym (rw h); degrees = sym (rw h) }

  module _ (old : List ℕ) (shape : shape_judged L G ≡ Ok tt) where
    pub checks_short : length old < 4 * G.variables → Checks L G (Err Buffer) old old
    unfolding countable graph_judged_in
    checks_short l =
        let short = lt-leb (4 * G.variables) (length old) l in
        record { answer = sym (rw (shape, short)); degrees = sym (rw (shape, short)) }

    pub checks_judged : {r : Judged} {now : List ℕ} → 4 * G.variables ≤ length old → Judges L G r old now → Checks L G r old now
    unfolding countable graph_judged_in
    checks_judged l j =
        let enough = le-leb (4 * G.variables) (length old) l in
        record { answer = j.answer ∙ sym (rw (shape, enough)); degrees = j.degrees ∙ sym (rw (shape, enough)) }

-- the degrees off the list
pub degree_at_lem : (G : Graph) (v : ℕ) (old : List ℕ) {now : List ℕ} → now ≡ table 4 (variable_degree G) G.variables ++ drop (4 * G.variables) old → v < G.variables
    → G.entries < 2 ^ 32 → degree_at now v ≡ variable_degree G v
unfolding variable_degree
degree_at_lem G v old e l h =
    ap (λ b. degree_at b v) e
    ∙ at_table 4 (variable_degree G) G.variables (drop (4 * G.variables) old) v l (omega (arith, count_le (λ e. eqb (G.column e) v) 0 G.entries))

-- all entries are counted
pub counted_all : (G : Graph) (old : List ℕ) {now : List ℕ} → now ≡ table 4 (tally G.column G.entries) G.variables ++ drop (4 * G.variables) old
    → now ≡ table 4 (variable_degree G) G.variables ++ drop (4 * G.variables) old
unfolding variable_degree
counted_all G old h = h

-- 5 for the variables, off the list
pub variables_off : (L : Limits) (G : Graph) (old : List ℕ) {now : List ℕ} {m n : ℕ} → now ≡ table 4 (variable_degree G) G.variables ++ drop (4 * G.variables) old
    → G.entries < 2 ^ 32 → m ≡ G.checks → n ≡ G.variables → variables_judged L m (degree_at now) n ≡ variable_degrees_judged L G
unfolding variable_degrees_judged
variables_off L G old e h p q = variables_alike L p q (λ v l. degree_at_lem G v old e (omega (arith, q)) h)

-- ---- beside the five alone

none_between : (a b : Judged) → or_else (or_else a (Ok tt)) b ≡ or_else a b
none_between (Err _) b = refl
none_between (Ok _) b = refl

pub lent_alike : LentAlike
unfolding graph_judged countable graph_judged_in
lent_alike L G d l = rw (le-leb (4 * G.variables) d l) (none_between (shape_judged L G) (degrees_judged L G))

-- refused by none: the graph is admitted
pub lent_admitted : {L : Limits} (G : Graph) (d : ℕ) → graph_judged_in L G d ≡ Ok tt → AdmittedWithin L G
unfolding graph_judged countable graph_judged_in
lent_admitted {L} G d h =
    graph_admitted G (or_else_both (or_else_left (shape_judged L G) _ (or_else_left (countable L G d) _ h)) (or_else_right (countable L G d) _ h))

-- .. and the list holds the degrees
pub lent_counted : (L : Limits) (G : Graph) (d : ℕ) (old : List ℕ) {now : List ℕ} → graph_judged_in L G d ≡ Ok tt → now ≡ degrees_in (countable L G d) G old
    → now ≡ table 4 (variable_degree G) G.variables ++ drop (4 * G.variables) old
unfolding graph_judged_in
lent_counted L G d old h e = e ∙ rw (or_else_left (countable L G d) _ h)
