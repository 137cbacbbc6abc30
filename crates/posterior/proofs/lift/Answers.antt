use mathlib.Core.Path.{◌∙◌}
use Prim.Native.Nat.{◌+◌, ◌*◌}
use native.Mathlib.Omega.{arith}
use lib.ListN.{length-set}
use mir.Syntax.{w32}
use mir.Facts.{to_z-of_z, to_z_pos}
use Rattle.nodes.proofs.SumLaws.{parts_long}
use Rattle.nodes.proofs.Halves.{halves_set, lifted_plus, lifted_minus, lifted_other}
use Rattle.nodes.proofs.Signed.{neg_fits, zero_minus}
use Rattle.posterior.proofs.lift.Goals as goal

pub bounds-parts-m : goal.bounds-parts-m
bounds-parts-m c = omega (arith, parts_long _ c.requires.2)

pub overflow_sub-parts : goal.overflow_sub-parts
overflow_sub-parts c = neg_fits (2 * c.args.to + 1) (omega arith)

pub bounds-parts-m-2 : goal.bounds-parts-m-2
bounds-parts-m-2 c = simp length-set (omega (arith, parts_long _ c.requires.2))

pub returns : goal.returns
returns c =
    let m = c.args.most in
    let W = c.args.to in
    halves_set c.requires.2 c.requires.0
    (to_z_pos w32 {n = 2 * W + 1} (omega arith) ∙ lifted_plus m W c.requires.0)
    (to_z-of_z (neg_fits (2 * c.args.to + 1) (omega arith)) ∙ zero_minus (2 * W + 1) (omega arith) ∙ lifted_minus m W c.requires.0)
    (lifted_other m W)
