use Rattle.std.specs.Prelude.{Ok}
use mathlib.Core.Path.{◌≡◌}
use Rattle.refusals.specs.Refusals.{each}
use Rattle.words.specs.Roles.{graph_lent}
use Rattle.graphs.proofs.Parts.{row_judged}
use Rattle.shape.proofs.check_rows.Given as goal

abbrev pub invariant-loop-i : goal.invariant-loop-i
invariant-loop-i l = each (row_judged (graph_lent l.graph)) l.i ≡ Ok tt
