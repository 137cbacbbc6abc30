use mathlib.Core.Path.{ap}
use Prim.Native.Nat.{ℕ, ◌+◌, ◌/◌, ◌%◌}
use native.Mathlib.Omega.{arith}
use lib.Bits.{bit_xor}
use lib.ListN.{get_or, set}
use Rattle.elimination.specs.Rows.{flipped}
use Rattle.elimination.proofs.Loops.{power_byte}
use Rattle.elimination.proofs.flip.Goals as goal

pub returns : goal.returns
unfolding flipped
returns c =
    let a = c.args in
    ap (λ (x : ℕ). set a.work.now (a.b + a.v / 8) (bit_xor (get_or a.work.now (a.b + a.v / 8) 0) x))
    (power_byte (a.v % 8) (omega arith))
