use lib.Dec.{ltb}
use Rattle.refusals.specs.declared.Refusal.TheVariants.{Range}
use Rattle.refusals.proofs.Judging.{Passed}
use Rattle.words.specs.Roles.{column_at}
use Rattle.shape.proofs.check_columns.Given as goal

abbrev pub invariant-loop-e : goal.invariant-loop-e
invariant-loop-e l = Passed (λ k. ltb (column_at l.graph.columns.now k) l.graph.variables) (λ k. Range k) l.e
