use mathlib.Core.Path.{ap, ◌∙◌}
use Prim.Native.Nat.{◌<◌, ◌+◌, ◌/◌, ◌^◌}
use native.Mathlib.Omega.{arith}
use lib.IntN.{nat_abs, ◌+ℤ◌}
use lib.ListN.{length, get_or}
use Rattle.nodes.specs.Lists.{part_in}
use Rattle.nodes.proofs.Signed.{plus_fits, plus_is}
use Rattle.nodes.proofs.SumLaws.{added_none, added_small, added_more, added_end}
use Rattle.posterior.proofs.add_messages.Goals as goal
use Rattle.posterior.proofs.add_messages.Goals.{After-sum}

-- the entry's variable has a sum
low : (c : After-sum) → c.column-v.result < length c.args.sums.now / 4
low c = rw c.column-v.ensures.0 (c.requires.by_index c.loop-e.e (omega arith))

-- that and the part of the entry's message add up within an i32
few : (c : After-sum) → nat_abs c.sum.result + nat_abs (part_in c.args.parts.now c.args.messages.now c.loop-e.e) < 2 ^ 31
few c =
    let small = c.requires.messages_len.2.small in
    omega (arith, ap nat_abs c.sum.ensures, small (get_or c.args.messages.now c.loop-e.e 0), added_small _ _ _ (λ k. small (get_or c.args.messages.now k 0)) c.requires.by_index_2 (omega arith) c.loop-e.invariant (low c))

pub loop-e-init : goal.loop-e-init
loop-e-init c = added_none _ _ _ (λ k. c.requires.messages_len.2.small (get_or c.args.messages.now k 0)) c.requires.by_index_2 (λ k. (c.type_inv.sums k).fits)

pub overflow_add-sum : goal.overflow_add-sum
overflow_add-sum c = plus_fits c.sum.result (part_in c.args.parts.now c.args.messages.now c.loop-e.e) (few (goal.at.overflow_add-sum c).After-sum)

pub loop-e-preserved : goal.loop-e-preserved
loop-e-preserved c =
    let s = (goal.at.loop-e-preserved c).After-sum in
    let part = part_in c.args.parts.now c.args.messages.now c.loop-e.e in
    added_more _ _ _ (λ k. c.requires.messages_len.2.small (get_or c.args.messages.now k 0)) c.requires.by_index_2 (omega arith) c.loop-e.invariant (low s) c.column-v.ensures.0
    (plus_is c.sum.result part (few s) ∙ ap (λ x. x +ℤ part) c.sum.ensures) c.put_sum.ensures

pub returns : goal.returns
returns c = added_end _ _ _ (omega arith) c.loop-e.invariant
