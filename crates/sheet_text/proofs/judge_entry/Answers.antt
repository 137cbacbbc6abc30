use mathlib.Core.Path.{sym}
use Rattle.sheet_text.proofs.judge_entry.Goals as goal

pub returns-then-not-in_range : goal.returns-then-not-in_range
returns-then-not-in_range c = sym (rw (← c.in_range.ensures, c.if-not-in_range.true))

pub returns-then-not-not_before : goal.returns-then-not-not_before
returns-then-not-not_before c = sym (rw (← c.in_range.ensures, c.if-not-in_range.false, ← c.not_before.ensures, c.if-not-not_before.true))

pub returns : goal.returns
returns c = sym (rw (← c.in_range.ensures, c.if-not-in_range.false, ← c.not_before.ensures, c.if-not-not_before.false))
