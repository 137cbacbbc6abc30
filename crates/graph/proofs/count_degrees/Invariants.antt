use Rattle.words.specs.Roles.{column_at}
use Rattle.degrees.proofs.Tallies.{Tallies}
use Rattle.graph.proofs.count_degrees.Given as goal

abbrev pub invariant-loop-e : goal.invariant-loop-e
invariant-loop-e l = Tallies 4 l.graph.variables (column_at l.graph.columns.now) l.initial.degrees l.degrees l.e
