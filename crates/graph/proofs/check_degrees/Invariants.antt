use Rattle.rules.specs.Graphs.{limits}
use Rattle.refusals.specs.declared.Refusal.TheVariants.{Degree}
use Rattle.refusals.proofs.Judging.{Passed}
use Rattle.words.specs.Roles.{graph_lent}
use Rattle.graphs.proofs.Parts.{check_test}
use Rattle.graph.proofs.check_degrees.Given as goal

abbrev pub invariant-loop-i : goal.invariant-loop-i
invariant-loop-i l = Passed (check_test limits (graph_lent l.graph)) (λ k. Degree k) l.i
