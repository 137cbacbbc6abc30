use mathlib.Core.Path.{◌≡◌, ◌∙◌}
use Prim.Native.Nat.{◌+◌}
use native.Mathlib.Omega.{arith}
use lib.ListN.{length}
use Rattle.lines.proofs.Fixed.{fixed_none, fixed_end, fixed_short, fixed_not, fixed_on}
use Rattle.lines.proofs.fixed_at.Goals as goal

pub loop-j-init : goal.loop-j-init
loop-j-init c = (omega (arith, c.requires), fixed_none c.args.x.now c.args.s.now c.args.at)

pub returns-then-s-at : goal.returns-then-s-at
returns-then-s-at c =
    c.loop-j.invariant.1 ∙ fixed_short c.args.x.now c.args.s.now c.loop-j.j (c.args.at + c.loop-j.j) (omega arith) c.if-s-at.true

pub returns-then-s-at-2 : goal.returns-then-s-at-2
returns-then-s-at-2 c =
    c.loop-j.invariant.1
    ∙ fixed_not c.args.x.now c.args.s.now c.loop-j.j (c.args.at + c.loop-j.j) (omega arith) (omega (arith, c.if-s-at.false)) c.if-s-at-2.true

pub loop-j-preserved : goal.loop-j-preserved
loop-j-preserved c = (
  omega (arith, c.if-s-at.false),
  c.loop-j.invariant.1
      ∙ fixed_on c.args.x.now c.args.s.now c.args.at c.loop-j.j (omega arith) (omega (arith, c.if-s-at.false)) c.if-s-at-2.false,
)

pub returns : goal.returns
returns c =
    let all : c.loop-j.j ≡ length c.args.x.now = omega arith in
    rw (← all) (record {
      reads = c.loop-j.invariant.1 ∙ fixed_end c.args.x.now c.args.s.now c.loop-j.j (c.args.at + c.loop-j.j) (omega arith);
      within = c.loop-j.invariant.0;
    })
