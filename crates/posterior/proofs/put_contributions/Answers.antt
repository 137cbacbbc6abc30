use mathlib.Core.Path.{◌∙◌}
use Prim.Native.Nat.{◌+◌, ◌*◌}
use native.Mathlib.Omega.{arith}
use Rattle.rules.specs.Nodes.{contribution}
use Rattle.nodes.proofs.Halves.{made_none, made_more, made_all, contribution_plus, contribution_minus}
use Rattle.nodes.proofs.Signed.{neg_fits, zero_minus}
use mir.Syntax.{w32}
use mir.Facts.{to_z-of_z, to_z_pos}
use Rattle.posterior.proofs.put_contributions.Goals as goal

pub loop-m-init : goal.loop-m-init
loop-m-init c = made_none (contribution 1) c.requires.1

pub loop-m-preserved : goal.loop-m-preserved
loop-m-preserved c =
    let m = c.loop-m.m in
    made_more (contribution 1) (omega arith) c.loop-m.invariant
    (to_z_pos w32 {n = 2 * m + 1} (omega arith) ∙ contribution_plus m (omega arith))
    (to_z-of_z (neg_fits (2 * m + 1) (omega arith)) ∙ zero_minus (2 * m + 1) (omega arith) ∙ contribution_minus m (omega arith))

pub returns : goal.returns
returns c = made_all (contribution 1) _ (omega arith) c.loop-m.invariant
