use borrow.Author.Tests.{le-ltb, lt-ltb}
use native.Mathlib.Omega.{arith}
use mathlib.Core.Path.{sym}
use Rattle.block_text.proofs.judge_block.Goals as goal

pub returns-then-not-in_range : goal.returns-then-not-in_range
returns-then-not-in_range c = sym (rw (← c.in_range.ensures, c.if-not-in_range.true))

pub returns-then-size-k : goal.returns-then-size-k
returns-then-size-k c = sym (rw (← c.in_range.ensures, c.if-not-in_range.false, le-ltb c.args.k c.args.size c.if-size-k.true))

pub returns-then-not-not_before : goal.returns-then-not-not_before
returns-then-not-not_before c = sym (rw (← c.in_range.ensures, c.if-not-in_range.false, lt-ltb c.args.k c.args.size (omega arith), ← c.not_before.ensures, c.if-not-not_before.true))

pub returns : goal.returns
returns c = sym (rw (← c.in_range.ensures, c.if-not-in_range.false, lt-ltb c.args.k c.args.size (omega arith), ← c.not_before.ensures, c.if-not-not_before.false))
