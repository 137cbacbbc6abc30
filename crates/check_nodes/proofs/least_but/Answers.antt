use borrow.Author.Tests.{lt-ltb, le-ltb}
use Rattle.check_nodes.proofs.least_but.Goals as goal

pub returns-then-s-m : goal.returns-then-s-m
returns-then-s-m c = simp (lt-ltb _ _ c.if-s-m.true)

pub returns-else-s-m : goal.returns-else-s-m
returns-else-s-m c = simp (le-ltb _ _ c.if-s-m.false)
