use mathlib.Core.Path.{refl}
use native.Mathlib.Omega.{arith}
use Rattle.texts.proofs.Places.{none_number, one_within, one_zero, digits_first, digits_more, digits_none, digits_end}
use Rattle.lines.proofs.number_at.Goals as goal

pub returns-in_err-first : goal.returns-in_err-first
returns-in_err-first c = rw c.from_residual.ensures (none_number c.args.s.now c.args.at c.in_err-first.ensures)

pub overflow_add-result : goal.overflow_add-result
overflow_add-result c = omega (arith, one_within c.args.s.now c.args.at c.in_ok-first.ensures)

pub returns-then-first-eq0 : goal.returns-then-first-eq0
returns-then-first-eq0 c = one_zero c.args.s.now c.args.at c.in_ok-first.ensures c.if-first-eq0.true

pub overflow_step-next : goal.overflow_step-next
overflow_step-next c = omega (arith, one_within c.args.s.now c.args.at c.in_ok-first.ensures)

pub loop-next-init : goal.loop-next-init
loop-next-init c = digits_first c.args.s.now c.args.at c.in_ok-first.ensures c.if-first-eq0.false

pub returns-in_default : goal.returns-in_default
returns-in_default c = digits_none c.loop-next.invariant c.in_default.ensures

pub push-value-requires : goal.push-value-requires
push-value-requires c = omega (arith, c.loop-next.invariant.capped)

pub loop-next-preserved : goal.loop-next-preserved
loop-next-preserved c = digits_more c.loop-next.invariant c.in-Some.ensures c.push-value.ensures

pub returns : goal.returns
returns c = digits_end c.loop-next.invariant refl (omega arith)
