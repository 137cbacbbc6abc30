-- The degrees of graphs that agree, and what the degrees of a sheet's graph make of it.
use Rattle.std.specs.Prelude.{Ok}
use mathlib.Core.Path.{◌≡◌, ap, ap₂, ◌∙◌}
use mathlib.Core.List.{List}
use Prim.Native.Nat.{ℕ, suc, ◌+◌, ◌<◌, ◌-◌}
use native.Mathlib.Omega.{arith}
use lib.Dec.{eqb}
use Rattle.rules.specs.Ranges.{count}
use Rattle.rules.specs.Graphs.{Graph, Limits, AdmittedWithin, least_check_degree, least_variable_degree, check_degree, variable_degree, between}
use Rattle.refusals.specs.Refusals.{unless, each}
use Rattle.refusals.specs.declared.Refusal.TheVariants.{Degree}
use Rattle.rules.proofs.Ranges.{count_ext}
use Rattle.refusals.proofs.Judging.{each_same}
use Rattle.graphs.specs.Judging.{check_degrees_judged, variable_degrees_judged}
use Rattle.graphs.proofs.Parts.{check_test, variable_test, check_degrees_told, variable_degrees_told}
use Rattle.texts.specs.Lines.{Pair, pair}
use Rattle.code_sheets.specs.Text.Reading.{graph_in}
use Rattle.code_sheets.proofs.Text.Sheets.{Lined, counts_told}
use Rattle.code_sheets.proofs.Text.Entries.{start_zero, start_end, column_within, column_rise}
use Rattle.code_sheets.specs.Reader.Theorems.{Same}

module _ (G H : Graph) (s : Same G H) where
  pub same_check_degree : (i : ℕ) → i < H.checks → check_degree G i ≡ check_degree H i
  same_check_degree i l = ap₂ ◌-◌ (s.starts (suc i) l) (s.starts i (omega arith))

  same_variable_degree : (v : ℕ) → variable_degree G v ≡ variable_degree H v
  unfolding variable_degree
  same_variable_degree v =
      ap (count (λ e. eqb (G.column e) v) 0) s.entries
      ∙ count_ext (λ e. eqb (G.column e) v) (λ e. eqb (H.column e) v) H.entries (λ e l. ap (λ (x : ℕ). eqb x v) (s.columns e l))

module _ (L : Limits) (G H : Graph) (s : Same G H) where
  pub same_check_degrees : check_degrees_judged L G ≡ check_degrees_judged L H
  unfolding check_degrees_judged
  same_check_degrees =
      ap (each (λ i. unless (check_test L G i) (Degree i))) s.checks
      ∙ each_same (λ i. unless (check_test L G i) (Degree i)) (λ i. unless (check_test L H i) (Degree i)) H.checks
      (λ i l. ap (λ (d : ℕ). unless (between least_check_degree d L.check_degree) (Degree i)) (same_check_degree G H s i l))

  pub same_variable_degrees : variable_degrees_judged L G ≡ variable_degrees_judged L H
  unfolding variable_degrees_judged
  same_variable_degrees =
      ap (each (λ v. unless (variable_test L G v) (Degree (G.checks + v)))) s.variables
      ∙ each_same (λ v. unless (variable_test L G v) (Degree (G.checks + v))) (λ v. unless (variable_test L H v) (Degree (H.checks + v))) H.variables
      (λ v l. ap₂ (λ (d m : ℕ). unless (between least_variable_degree d L.variable_degree) (Degree (m + v))) (same_variable_degree G H s v) s.checks)

-- a sheet's graph with good degrees is admitted
pub sheet_admitted : {L : Limits} (c : Pair) (ps : List Pair) → Lined L c ps → check_degrees_judged L (graph_in c ps) ≡ Ok tt
    → variable_degrees_judged L (graph_in c ps) ≡ Ok tt → AdmittedWithin L (graph_in c ps)
sheet_admitted {L} c ps h d v = record {
  variables = (counts_told L c h.counts).0;
  checks = (counts_told L c h.counts).1;
  entries = h.few;
  begins = start_zero ps;
  ends = start_end c (pair 0 0) ps h.rising;
  within = column_within c (pair 0 0) ps h.rising;
  rising = λ i e l. column_rise c (pair 0 0) ps h.rising i e;
  check_degrees = check_degrees_told L (graph_in c ps) d;
  variable_degrees = variable_degrees_told L (graph_in c ps) v;
}
