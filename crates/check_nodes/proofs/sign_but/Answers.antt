use native.Mathlib.Omega.{arith}
use Rattle.nodes.proofs.Leaves.{sign_product, bool_small}
use Rattle.check_nodes.proofs.sign_but.Goals as goal

pub overflow_add-result : goal.overflow_add-result
overflow_add-result c = omega (arith, bool_small c.args.s.minus)

pub returns : goal.returns
returns c = sign_product c.args.s.minus c.args.b (omega arith)
