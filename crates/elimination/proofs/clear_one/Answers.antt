use mathlib.Core.Path.{sym, ◌∙◌}
use Rattle.elimination.proofs.Steps.{clear_self, clear_idle, clear_adds}
use Rattle.elimination.proofs.clear_one.Goals as goal

pub returns-then-i-j : goal.returns-then-i-j
returns-then-i-j c = clear_self _ _ c.if-i-j.true

pub returns-then-not-bit : goal.returns-then-not-bit
returns-then-not-bit c = clear_idle _ _ (sym c.bit.ensures ∙ c.if-not-bit.true)

pub returns : goal.returns
returns c = clear_adds c.args.row.now _ _ c.if-i-j.false (sym c.bit.ensures ∙ c.if-not-bit.false) c.requires.4 c.add_row.ensures
