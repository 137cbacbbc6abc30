-- A graph is refused by none of the five exactly when it is admitted, under any limits.
use Rattle.std.specs.Prelude.{Ok}
use mathlib.Core.Path.{◌≡◌}
use native.Mathlib.Omega.{arith}
use Rattle.rules.specs.Graphs.{Graph, Limits, AdmittedWithin}
use Rattle.refusals.proofs.Judging.{or_else_left, or_else_right, or_else_both}
use Rattle.graphs.specs.Judging.{counts_judged, starts_judged, columns_judged, rows_judged, check_degrees_judged, variable_degrees_judged, shape_judged, graph_judged}
use Rattle.graphs.specs.Calls.{JudgedRightly}
use Rattle.graphs.proofs.Parts.{counts_told, counts_admitted, Starts, starts_told, starts_admitted, columns_told, columns_admitted, rows_told, rows_admitted, check_degrees_told, check_degrees_admitted, variable_degrees_told, variable_degrees_admitted}

-- none of the parts refuses
pub record Parts (L : Limits) (G : Graph) : Type 0 where
  pub counts : counts_judged L G ≡ Ok tt
  pub starts : starts_judged G ≡ Ok tt
  pub columns : columns_judged G ≡ Ok tt
  pub rows : rows_judged G ≡ Ok tt
  pub check_degrees : check_degrees_judged L G ≡ Ok tt
  pub variable_degrees : variable_degrees_judged L G ≡ Ok tt

-- the starts of an admitted graph do not fall
pub admitted_starts : {L : Limits} (G : Graph) → AdmittedWithin L G → Starts G
admitted_starts G a = record { begins = a.begins; ends = a.ends; rises = λ i l. omega (arith, (a.check_degrees i l).0) }

module _ {L : Limits} (G : Graph) where
  pub parts_told : graph_judged L G ≡ Ok tt → Parts L G
  unfolding graph_judged shape_judged
  parts_told h =
      let shape = or_else_left (shape_judged L G) _ h in
      let degrees = or_else_right (shape_judged L G) _ h in
      let after_counts = or_else_right (counts_judged L G) _ shape in
      let after_starts = or_else_right (starts_judged G) _ after_counts in
      record {
        counts = or_else_left (counts_judged L G) _ shape;
        starts = or_else_left (starts_judged G) _ after_counts;
        columns = or_else_left (columns_judged G) _ after_starts;
        rows = or_else_right (columns_judged G) _ after_starts;
        check_degrees = or_else_left (check_degrees_judged L G) _ degrees;
        variable_degrees = or_else_right (check_degrees_judged L G) _ degrees;
      }

  pub parts_admitted : Parts L G → graph_judged L G ≡ Ok tt
  unfolding graph_judged shape_judged
  parts_admitted p =
      or_else_both (or_else_both p.counts (or_else_both p.starts (or_else_both p.columns p.rows)))
      (or_else_both p.check_degrees p.variable_degrees)

  pub graph_admitted : graph_judged L G ≡ Ok tt → AdmittedWithin L G
  graph_admitted h =
      let p = parts_told h in
      let k = counts_told G p.counts in
      let s = starts_told G p.starts in
      record {
        variables = k.variables;
        checks = k.checks;
        entries = k.entries;
        begins = s.begins;
        ends = s.ends;
        within = columns_told G p.columns;
        rising = rows_told G p.rows;
        check_degrees = check_degrees_told L G p.check_degrees;
        variable_degrees = variable_degrees_told L G p.variable_degrees;
      }

  pub admitted_graph : AdmittedWithin L G → graph_judged L G ≡ Ok tt
  admitted_graph a = parts_admitted (record {
    counts = counts_admitted G (record { variables = a.variables; checks = a.checks; entries = a.entries });
    starts = starts_admitted G (admitted_starts G a);
    columns = columns_admitted G a.within;
    rows = rows_admitted G a.rising;
    check_degrees = check_degrees_admitted L G a.check_degrees;
    variable_degrees = variable_degrees_admitted L G a.variable_degrees;
  })

pub judged_rightly : JudgedRightly
judged_rightly L G = (graph_admitted G, admitted_graph G)
