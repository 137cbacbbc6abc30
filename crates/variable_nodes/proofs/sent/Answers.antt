use mathlib.Core.Path.{ap, ◌∙◌}
use Prim.Native.Nat.{◌<◌, ◌+◌, ◌/◌, ◌^◌}
use native.Mathlib.Omega.{arith}
use lib.IntN.{ℤ, nat_abs, ◌-ℤ◌}
use lib.ListN.{length, get_or}
use Rattle.words.specs.Roles.{sum_at}
use Rattle.nodes.specs.Lists.{part_in, place_of}
use Rattle.nodes.proofs.Signed.{less_is}
use Rattle.variable_nodes.proofs.sent.Goals as goal

pub returns : goal.returns
returns c =
    let a = c.args in
    let part : ℤ = part_in a.parts.now a.incoming.now a.e in
    let low : c.column-v.result < length a.sums.now / 4 = rw c.column-v.ensures.0 c.requires.e_in_bounds in
    let few : nat_abs c.sum.result + nat_abs part < 2 ^ 31 = omega (arith, ap nat_abs c.sum.ensures, c.requires.by_index c.column-v.result low, c.requires.incoming_len.2.small (get_or a.incoming.now a.e 0)) in
    ap (λ k. get_or a.messages.now k 0)
    (c.place.ensures ∙ ap place_of (less_is c.sum.result part few ∙ ap (λ s. s -ℤ part) (c.sum.ensures ∙ ap (sum_at a.sums.now) c.column-v.ensures.0)))
