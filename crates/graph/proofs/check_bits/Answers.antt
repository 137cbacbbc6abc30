use Rattle.std.specs.Prelude.{Ok, Err}
use Rattle.std.proofs.Common.{tests, rules}
use Rattle.std.proofs.lemmas.Iterator.{IsFirst-from_position, YieldsList-from_slice}
use mathlib.Core.Path.{◌≡◌, sym}
use mathlib.Core.List.{List}
use Prim.Native.Nat.{ℕ, ◌≤◌, ◌<◌}
use native.Mathlib.Omega.{arith}
use borrow.Author.Tests.{le-leb, lt-leb}
use lib.ListN.{length, get_or}
use Rattle.refusals.specs.declared.Refusal.TheVariants.{Bit}
use Rattle.refusals.proofs.Judging.{true_all, failed_at}
use Rattle.graphs.specs.Calls.{bytes_judged}
use Rattle.graph.proofs.check_bits.Goals as goal

bits_refused : (bits : List ℕ) (at : ℕ) → at < length bits → 1 < get_or bits at 0 → ((k : ℕ) → k < at → get_or bits k 0 ≤ 1) → bytes_judged bits ≡ Err (Bit at)
unfolding bytes_judged
bits_refused bits at l one below =
    failed_at (record { admitted = true_all _ (λ k. Bit k) at (λ k u. le-leb (get_or bits k 0) 1 (below k u)) }) (lt-leb _ _ one) l

bits_admitted : (bits : List ℕ) → ((k : ℕ) → k < length bits → get_or bits k 0 ≤ 1) → bytes_judged bits ≡ Ok tt
unfolding bytes_judged
bits_admitted bits all = true_all _ (λ k. Bit k) (length bits) (λ k u. le-leb (get_or bits k 0) 1 (all k u))

pub returns-in-Some : goal.returns-in-Some
returns-in-Some c =
    let bits = c.args.bits.now in
    let first = IsFirst-from_position _ _ _ (λ x. 1 < x) (λ x. x ≤ 1) c.in-Some.ensures.ran (YieldsList-from_slice bits cc) (λ x q k. search (rules, tests)) (λ x q k. search (rules, tests)) in
    sym (bits_refused bits c.in-Some.at first.0 (first.1 0) (λ k l. first.2 k 0 (omega arith) l))

pub returns-in-None : goal.returns-in-None
returns-in-None c =
    let bits = c.args.bits.now in
    let none = IsFirst-from_position _ _ _ (λ x. 1 < x) (λ x. x ≤ 1) c.in-None.ensures.ran (YieldsList-from_slice bits cc) (λ x q k. search (rules, tests)) (λ x q k. search (rules, tests)) in
    sym (bits_admitted bits (λ k l. none k 0 (omega arith) l))
