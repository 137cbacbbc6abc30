use Rattle.words.specs.Roles.{graph_lent}
use Rattle.elimination.specs.Rows.{Turned}
use Rattle.solving.proofs.Loading.{with_entries}
use Rattle.solving.proofs.load_row.Given as goal

abbrev pub invariant-loop-e : goal.invariant-loop-e
invariant-loop-e l = Turned l.graph.variables l.j (with_entries (graph_lent l.graph) l.graph.variables l.initial.work l.j l.e) l.initial.work l.work
