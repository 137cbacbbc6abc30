use mathlib.Core.Path.{sym, ◌∙◌}
use native.Mathlib.Omega.{arith}
use Rattle.elimination.proofs.Steps.{replace_idle, replace_zero, replace_one_lem}
use Rattle.elimination.proofs.replace_one.Goals as goal

pub returns-then-not-bit : goal.returns-then-not-bit
returns-then-not-bit c = replace_idle _ _ (sym c.bit.ensures ∙ c.if-not-bit.true)

pub returns-then-b : goal.returns-then-b
returns-then-b c = replace_one_lem _ _ (omega arith) (omega arith) (sym c.bit.ensures ∙ c.if-not-bit.false) c.if-b.true c.flip.ensures c.flip-then-b.ensures

pub returns-else-b : goal.returns-else-b
returns-else-b c = replace_zero _ _ (omega arith) (omega arith) (sym c.bit.ensures ∙ c.if-not-bit.false) c.if-b.false c.flip.ensures
