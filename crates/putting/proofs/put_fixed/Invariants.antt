use Prim.Native.Nat.{◌+◌}
use lib.ListN.{take}
use Rattle.texts.specs.Putting.{Put}
use Rattle.putting.proofs.put_fixed.Given as goal

abbrev pub invariant-loop-k : goal.invariant-loop-k
invariant-loop-k l = Put (take l.k l.x) l.initial.text l.text l.at (l.at + l.k)
