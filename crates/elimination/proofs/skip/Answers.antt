use Prim.Native.Nat.{◌-◌}
use native.Mathlib.Omega.{arith}
use Rattle.elimination.proofs.Bytes.{zero_byte}
use Rattle.elimination.proofs.skip.Goals as goal

pub returns-then-work-b-eq0 : goal.returns-then-work-b-eq0
returns-then-work-b-eq0 c =
    let a = c.args in
    (omega arith, λ u l k. zero_byte a.work.now a.b (a.v - 1) u c.if-work-b-eq0.true (omega arith))
