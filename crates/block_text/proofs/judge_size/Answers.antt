use Rattle.texts.specs.Places.{cap}
use borrow.Author.Tests.{le-ltb, lt-ltb}
use native.Mathlib.Nat.{mul-le-mul}
use native.Mathlib.Omega.{arith}
use mathlib.Core.Path.{sym}
use Rattle.block_text.proofs.judge_size.Goals as goal

pub returns-then-size-eq0 : goal.returns-then-size-eq0
returns-then-size-eq0 c = rw (le-ltb 0 c.args.size (omega arith))

pub overflow_mul-columns : goal.overflow_mul-columns
overflow_mul-columns c = record { fits = omega (arith, mul-le-mul {n₁ = c.args.columns} {m₁ = c.args.size} {n₂ = cap} {m₂ = cap} c.requires.2 c.requires.0) }

pub overflow_mul-rows : goal.overflow_mul-rows
overflow_mul-rows c = record { fits = omega (arith, mul-le-mul {n₁ = c.args.rows} {m₁ = c.args.size} {n₂ = cap} {m₂ = cap} c.requires.1 c.requires.0) }

pub returns-then-not-counts_fit : goal.returns-then-not-counts_fit
returns-then-not-counts_fit c = sym (rw (lt-ltb 0 c.args.size (omega arith), ← c.counts_fit.ensures, c.if-not-counts_fit.true))

pub returns : goal.returns
returns c = sym (rw (lt-ltb 0 c.args.size (omega arith), ← c.counts_fit.ensures, c.if-not-counts_fit.false))
