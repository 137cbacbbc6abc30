use mathlib.Core.Path.{◌≡◌, refl, ap, ◌∙◌, subst}
use native.Mathlib.Omega.{arith}
use lib.ListN.{length}
use Rattle.words.specs.Roles.{wide}
use Rattle.words.proofs.Words.{length_stored}
use Rattle.words.proofs.Filling.{Filled, filled_more}
use Rattle.sheet.proofs.fill.Goals as goal

pub loop-i-init : goal.loop-i-init
loop-i-init c = (refl, λ f old h g. h)

pub put_start-requires : goal.put_start-requires
put_start-requires c = (omega arith, omega arith)

pub loop-i-preserved : goal.loop-i-preserved
loop-i-preserved c = (
  ap length c.put_start.ensures ∙ length_stored wide _ _ _ ∙ c.loop-i.invariant.0,
  λ f old h g. filled_more (omega (arith, h.long)) (c.loop-i.invariant.1 f old h g) c.put_start.ensures (g c.loop-i.i (omega arith) (omega arith)),
)

pub shape_of-starts : goal.shape_of-starts
shape_of-starts c = c.loop-i.invariant.0

pub returns : goal.returns
returns c f old h g =
    let all : c.loop-i.i ≡ c.args.b = omega arith in
    subst (Filled wide f old c.loop-i.starts) all (c.loop-i.invariant.1 f old h g)
