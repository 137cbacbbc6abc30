-- Under wider limits: a graph whose counts are within the narrower ones is judged alike.
use Rattle.std.specs.Prelude.{Ok}
use mathlib.Core.Path.{◌≡◌, refl, ap, ◌∙◌}
use Prim.Native.Nat.{ℕ}
use native.Mathlib.Omega.{arith}
use Rattle.rules.specs.Graphs.{Graph, Limits, Wider, limits, program_limits}
use Rattle.graphs.specs.Judging.{counts_judged, check_degrees_judged, variable_degrees_judged, shape_judged, graph_judged, graph_judged_in}
use Rattle.graphs.specs.Calls.{WiderAlike, row_judgement, bits_judged, Old, AsBefore}
use Rattle.graphs.proofs.Parts.{counts_told, counts_admitted}
use Rattle.graphs.proofs.Lending.{lent_alike}

module _ {L M : Limits} (w : Wider L M) (G : Graph) where
  pub counts_wider : counts_judged L G ≡ Ok tt → counts_judged M G ≡ Ok tt
  counts_wider h =
      let k = counts_told {L = L} G h in
      counts_admitted {L = M} G (record {
        variables = (k.variables.0, omega (arith, k.variables.1, w.variables));
        checks = (k.checks.0, omega (arith, k.checks.1, w.checks));
        entries = omega (arith, k.entries, w.entries);
      })

  pub check_degrees_alike : check_degrees_judged M G ≡ check_degrees_judged L G
  unfolding check_degrees_judged
  check_degrees_alike = rw w.check_degree

  pub variable_degrees_alike : variable_degrees_judged M G ≡ variable_degrees_judged L G
  unfolding variable_degrees_judged
  variable_degrees_alike = rw w.variable_degree

pub wider_alike : WiderAlike
unfolding graph_judged shape_judged
wider_alike L M w G h = rw (h, counts_wider w G h, check_degrees_alike w G, variable_degrees_alike w G)

-- ---- the old limits, which the program keeps

pub program_wider : Wider program_limits limits
program_wider = record { variables = omega arith; checks = omega arith; entries = omega arith; check_degree = refl; variable_degree = refl }

pub found_before : (G : Graph) (d : ℕ) → Old G d → graph_judged_in limits G d ≡ graph_judged program_limits G
found_before G d o = lent_alike limits G d o.enough ∙ wider_alike program_limits limits program_wider G o.counts

pub as_before : AsBefore
as_before = record {
  check = found_before;
  row = λ G d i o. ap (λ g. row_judgement g G i) (found_before G d o);
  bits = λ G d b o. ap (λ g. bits_judged g G b) (found_before G d o);
}
