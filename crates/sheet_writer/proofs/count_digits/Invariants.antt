use mathlib.Core.Path.{◌≡◌}
use Prim.Native.Nat.{◌+◌, ◌≤◌}
use lib.ListN.{length}
use Rattle.texts.specs.Numbers.{decimal}
use Rattle.sheet_writer.proofs.count_digits.Given as goal

abbrev pub invariant-loop-left : goal.invariant-loop-left
invariant-loop-left l = (l.count + l.left ≤ l.k + 1) × (length (decimal l.k) + 1 ≡ l.count + length (decimal l.left))

abbrev pub decreases-loop-left : goal.decreases-loop-left
decreases-loop-left l = l.left
