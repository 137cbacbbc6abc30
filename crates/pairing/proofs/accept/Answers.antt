use native.Mathlib.Omega.{arith}
use Rattle.std.proofs.Common.{rules}
use Rattle.std.proofs.lemmas.Result.{err_from_is_err_and}
use Rattle.decoding.specs.Pairing.Pairs.{heads_lent}
use Rattle.pairing.proofs.Deciding.{mapped_ok, mapped_err, refused_first, graph_admitted, refused_second, refused_pair, accepted_both}
use Rattle.pairing.proofs.accept.Goals as goal

pub returns-in_err-first : goal.returns-in_err-first
returns-in_err-first c =
    let a = c.args in
    let p = err_from_is_err_and c.from_residual.result c.from_residual.ensures.1 in
    let m = mapped_err _ c.accept-first.result (λ e y q. search rules) c.map_err.ensures.cases c.in_err-first.was in
    rw (p.1, p.2, m.1) (refused_first (heads_lent a.heads) a.first_room a.second_room c.accept-first.ensures m.0)

pub accept_on-second-requires : goal.accept_on-second-requires
accept_on-second-requires c =
    let a = c.args in
    let first = mapped_ok _ c.accept-first.result c.map_err.ensures.cases c.in_ok-first.was in
    omega (arith, (graph_admitted (heads_lent a.heads) a.first_room a.second_room c.accept-first.ensures first).variables)

pub returns-in_err-second : goal.returns-in_err-second
returns-in_err-second c =
    let a = c.args in
    let p = err_from_is_err_and c.from_residual-in_err-second.result c.from_residual-in_err-second.ensures.1 in
    let first = mapped_ok _ c.accept-first.result c.map_err.ensures.cases c.in_ok-first.was in
    let m = mapped_err _ c.accept_on-second.result (λ e y q. search rules) c.map_err-2.ensures.cases c.in_err-second.was in
    rw (p.1, p.2, m.1) (refused_second (heads_lent a.heads) a.first_room a.second_room c.accept-first.ensures first c.accept_on-second.ensures m.0)

pub returns-then-not-in_range : goal.returns-then-not-in_range
returns-then-not-in_range c =
    let a = c.args in
    let first = mapped_ok _ c.accept-first.result c.map_err.ensures.cases c.in_ok-first.was in
    let second = mapped_ok _ c.accept_on-second.result c.map_err-2.ensures.cases c.in_ok-second.was in
    refused_pair (heads_lent a.heads) a.first_room a.second_room c.accept-first.ensures first c.accept_on-second.ensures second c.in_range.ensures c.if-not-in_range.true

pub returns : goal.returns
returns c =
    let a = c.args in
    let first = mapped_ok _ c.accept-first.result c.map_err.ensures.cases c.in_ok-first.was in
    let second = mapped_ok _ c.accept_on-second.result c.map_err-2.ensures.cases c.in_ok-second.was in
    accepted_both (heads_lent a.heads) a.first_room a.second_room c.accept-first.ensures first c.accept_on-second.ensures second c.in_range.ensures c.if-not-in_range.false
