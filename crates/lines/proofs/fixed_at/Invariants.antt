use mathlib.Core.Path.{◌≡◌}
use Prim.Native.Nat.{◌+◌, ◌≤◌}
use lib.ListN.{length, drop}
use Rattle.texts.specs.Lines.{fixed}
use Rattle.lines.proofs.fixed_at.Given as goal

abbrev pub invariant-loop-j : goal.invariant-loop-j
invariant-loop-j l = (l.at + l.j ≤ length l.s) × (fixed l.x (drop l.at l.s) ≡ fixed (drop l.j l.x) (drop (l.at + l.j) l.s))
