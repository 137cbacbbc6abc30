use mathlib.Core.Path.{refl}
use native.Mathlib.Omega.{arith}
use Rattle.texts.proofs.Known.{going_none, going_digit, going_on, going_ends}
use Rattle.lines.proofs.known_field_at.Goals as goal

pub loop-i-init : goal.loop-i-init
loop-i-init c = going_none c.requires

pub with_digit-one-requires : goal.with_digit-one-requires
with_digit-one-requires c = going_digit c.loop-i.invariant c.loop-i-test.true

pub bounds-s-i-in-loop-i-2 : goal.bounds-s-i-in-loop-i-2
bounds-s-i-in-loop-i-2 c = (going_on c.loop-i.invariant c.loop-i-test.true c.with_digit-one.ensures refl).within

pub returns-then-second-x : goal.returns-then-second-x
returns-then-second-x c = going_ends (going_on c.loop-i.invariant c.loop-i-test.true c.with_digit-one.ensures refl) c.if-second-x.true (omega arith)

pub with_digit-two-requires : goal.with_digit-two-requires
with_digit-two-requires c = going_digit (going_on c.loop-i.invariant c.loop-i-test.true c.with_digit-one.ensures refl) c.if-second-x.false

pub bounds-s-i-in-loop-i-3 : goal.bounds-s-i-in-loop-i-3
bounds-s-i-in-loop-i-3 c =
    (going_on (going_on c.loop-i.invariant c.loop-i-test.true c.with_digit-one.ensures refl) c.if-second-x.false c.with_digit-two.ensures (omega arith)).within

pub returns-then-third-x : goal.returns-then-third-x
returns-then-third-x c =
    going_ends (going_on (going_on c.loop-i.invariant c.loop-i-test.true c.with_digit-one.ensures refl) c.if-second-x.false c.with_digit-two.ensures (omega arith))
    c.if-third-x.true (omega arith)

pub with_digit-value-requires : goal.with_digit-value-requires
with_digit-value-requires c =
    going_digit (going_on (going_on c.loop-i.invariant c.loop-i-test.true c.with_digit-one.ensures refl) c.if-second-x.false c.with_digit-two.ensures (omega arith)) c.if-third-x.false

pub loop-i-preserved : goal.loop-i-preserved
loop-i-preserved c =
    going_on (going_on (going_on c.loop-i.invariant c.loop-i-test.true c.with_digit-one.ensures refl) c.if-second-x.false c.with_digit-two.ensures (omega arith)) c.if-third-x.false c.with_digit-value.ensures (omega arith)

pub returns : goal.returns
returns c = going_ends c.loop-i.invariant c.loop-i-test.false refl
