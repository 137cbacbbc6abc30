use Prim.Native.Nat.{◌+◌}
use Rattle.block_rows.proofs.Putting.{Going}
use Rattle.block_rows.proofs.put_along.Given as goal

abbrev pub invariant-loop-r : goal.invariant-loop-r
invariant-loop-r l = Going l.e l.d (λ t. l.x + t) l.initial.columns l.columns l.r
