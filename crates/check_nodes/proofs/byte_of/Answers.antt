use native.Mathlib.Omega.{arith}
use Rattle.check_nodes.proofs.byte_of.Goals as goal

pub returns-then-minus : goal.returns-then-minus
returns-then-minus c = rw c.if-minus.true

pub returns-else-minus : goal.returns-else-minus
returns-else-minus c = rw c.if-minus.false (omega arith)
