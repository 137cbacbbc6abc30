use mathlib.Core.Path.{◌≡◌}
use Prim.Native.Nat.{◌≤◌}
use Rattle.elimination.specs.Systems.{top}
use Rattle.elimination.specs.Rows.{bit_in}
use Rattle.elimination.proofs.highest.Given as goal

abbrev pub invariant-loop-v : goal.invariant-loop-v
invariant-loop-v l = (l.v ≤ l.n) × (top l.n (bit_in l.work l.b) ≡ top l.v (bit_in l.work l.b))

abbrev pub decreases-loop-v : goal.decreases-loop-v
decreases-loop-v l = l.v
