use mathlib.Core.Path.{refl, sym, ◌∙◌}
use native.Mathlib.Omega.{arith}
use borrow.Author.Rules.{rules}
use Rattle.elimination.proofs.Loops.{top_here, top_none, top_past}
use Rattle.elimination.proofs.highest.Goals as goal

pub loop-v-init : goal.loop-v-init
loop-v-init c = (search rules, refl)

pub returns-then-bit : goal.returns-then-bit
returns-then-bit c = sym (c.loop-v.invariant.1 ∙ top_here _ _ (omega arith) (sym c.bit.ensures ∙ c.if-bit.true))

pub loop-v-smaller : goal.loop-v-smaller
loop-v-smaller c = omega (arith, c.skip-v.ensures.0)

pub loop-v-preserved : goal.loop-v-preserved
loop-v-preserved c = (omega (arith, c.skip-v.ensures.0), c.loop-v.invariant.1 ∙ top_past _ _ _ (omega arith) (omega (arith, c.skip-v.ensures.0)) (sym c.bit.ensures ∙ c.if-bit.false) c.skip-v.ensures.1)

pub returns : goal.returns
returns c = sym (c.loop-v.invariant.1 ∙ top_none _ _ (omega arith))
