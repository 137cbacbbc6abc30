use Rattle.words.specs.Roles.{graph_lent}
use Rattle.elimination.specs.Rows.{Done}
use Rattle.solving.specs.Solving.{check_rows}
use Rattle.solving.proofs.load.Given as goal

abbrev pub invariant-loop-j : goal.invariant-loop-j
invariant-loop-j l = Done l.graph.variables l.j (check_rows (graph_lent l.graph)) l.initial.work l.work
