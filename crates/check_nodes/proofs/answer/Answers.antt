use Prim.Native.Nat.{◌%◌, ◌<◌}
use native.Mathlib.Omega.{arith}
use mathlib.Core.Bool.{xor}
use lib.Dec.{leb, ltb}
use Rattle.nodes.proofs.Leaves.{either_small}
use Rattle.check_nodes.proofs.answer.Goals as goal

pub overflow_cast-result : goal.overflow_cast-result
overflow_cast-result c =
    let least_small : c.least_but.result < 128 = let s = c.args.s in omega (arith, c.least_but.ensures, either_small (ltb s.least (c.args.b % 128)) s.least s.second 127 (omega arith) (omega arith)) in
    omega (arith, least_small)

pub overflow_add-result : goal.overflow_add-result
overflow_add-result c =
    let least_small : c.least_but.result < 128 = let s = c.args.s in omega (arith, c.least_but.ensures, either_small (ltb s.least (c.args.b % 128)) s.least s.second 127 (omega arith) (omega arith)) in
    let a = c.args in
    omega (arith, least_small, c.sign_but.ensures, either_small (xor a.s.minus (leb 128 a.b)) 128 0 128 (omega arith) (omega arith))
