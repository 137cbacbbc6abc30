use mathlib.Core.Path.{sym, ap}
use mathlib.Core.Bool.{cond}
use Prim.Native.Nat.{◌/◌, ◌%◌}
use borrow.Author.Tests.{eq-eqb, ne_eqb}
use lib.ListN.{length}
use Rattle.words.specs.Roles.{graph_lent}
use Rattle.interface.specs.Packing.{decode_place}
use Rattle.interface.proofs.PairAnswers.{place_as}
use Rattle.host.proofs.pairs.frame_decode_pair_place.Goals as goal

pub returns-then-answer-eq2 : goal.returns-then-answer-eq2
returns-then-answer-eq2 c =
    let a = c.args in
    place_as (ap (λ b. decode_place (graph_lent a.graph) (cond b a.second_values.now a.first_values.now) (length a.degrees.now) (a.answer % 256)) (sym (eq-eqb (a.answer / 256 % 256) 2 c.if-answer-eq2.true))) c.frame_decode_place.ensures

pub returns : goal.returns
returns c =
    let a = c.args in
    place_as (ap (λ b. decode_place (graph_lent a.graph) (cond b a.second_values.now a.first_values.now) (length a.degrees.now) (a.answer % 256)) (sym (ne_eqb (a.answer / 256 % 256) 2 c.if-answer-eq2.false))) c.frame_decode_place-2.ensures
