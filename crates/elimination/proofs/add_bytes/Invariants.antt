use Rattle.elimination.specs.Rows.{Added}
use Rattle.elimination.proofs.add_bytes.Given as goal

abbrev pub invariant-loop-k : goal.invariant-loop-k
invariant-loop-k l = Added l.row l.b l.k l.initial.work l.work
