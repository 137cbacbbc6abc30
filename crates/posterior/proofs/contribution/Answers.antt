use mathlib.Core.Path.{◌∙◌}
use Prim.Native.Nat.{ℕ, ◌+◌, ◌*◌, ◌%◌}
use native.Mathlib.Omega.{arith}
use borrow.Author.Tests.{le-leb, lt-leb}
use mir.Syntax.{w32}
use mir.Facts.{to_z-of_z, to_z_pos}
use Rattle.rules.specs.Levels.{level_of}
use Rattle.rules.specs.Nodes.{contribution}
use Rattle.nodes.proofs.Signed.{neg_fits, zero_minus}
use Rattle.posterior.proofs.contribution.Goals as goal

abbrev size : ℕ → ℕ → ℕ
size b e = 2 * (b % 128) + e

pub overflow_sub-result : goal.overflow_sub-result
overflow_sub-result c = neg_fits (size c.args.b c.args.e) (omega arith)

pub returns-then-b-ge128 : goal.returns-then-b-ge128
unfolding contribution level_of
returns-then-b-ge128 c = to_z-of_z (neg_fits (size c.args.b c.args.e) (omega arith)) ∙ zero_minus (size c.args.b c.args.e) (omega arith) ∙ simp (le-leb _ _ c.if-b-ge128.true)

pub returns-else-b-ge128 : goal.returns-else-b-ge128
unfolding contribution level_of
returns-else-b-ge128 c = to_z_pos w32 {n = size c.args.b c.args.e} (omega arith) ∙ simp (lt-leb _ _ c.if-b-ge128.false)
