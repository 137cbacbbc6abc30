use mathlib.Core.Path.{sym}
use borrow.Author.Tests.{eq-eqb}
use Rattle.rules.specs.Nodes.{extra}
use Rattle.nodes.proofs.Leaves.{extra_other}
use Rattle.posterior.proofs.extra.Goals as goal

pub returns-then-d-eq2 : goal.returns-then-d-eq2
unfolding extra
returns-then-d-eq2 c = sym (rw (eq-eqb c.args.d 2 c.if-d-eq2.true))

pub returns-else-d-eq2 : goal.returns-else-d-eq2
returns-else-d-eq2 c = extra_other c.args.d c.if-d-eq2.false
