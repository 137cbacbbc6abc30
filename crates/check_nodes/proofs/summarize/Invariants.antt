use Rattle.nodes.specs.Memory.{level_in}
use Rattle.nodes.specs.Rows.{Kept}
use Rattle.check_nodes.proofs.summarize.Given as goal

abbrev pub invariant-loop-b : goal.invariant-loop-b
invariant-loop-b l = Kept (level_in l.incoming) l.b-index l.s.minus l.s.least l.s.second
