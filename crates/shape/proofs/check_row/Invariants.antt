use Prim.Native.Nat.{◌-◌}
use Rattle.words.specs.Roles.{column_at}
use Rattle.shape.proofs.Loops.{Rises}
use Rattle.shape.proofs.check_row.Given as goal

abbrev pub invariant-loop-e : goal.invariant-loop-e
invariant-loop-e l = Rises (column_at l.graph.columns.now) l.a (l.e - l.a - 1)
