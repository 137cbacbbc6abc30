use mathlib.Core.Path.{ap, ap₂, ◌∙◌}
use Prim.Native.Nat.{ℕ}
use native.Mathlib.Omega.{arith}
use Rattle.words.specs.Words.{stored}
use Rattle.decoding.specs.Decoding.{Memory}
use Rattle.decoding.specs.Frames.{memory}
use Rattle.decoding.specs.Pairing.Pairs.{Heads, heads_lent}
use Rattle.interface.proofs.PairAnswers.{as_answer, both_small, two_numbers, reported_refused, reported_ran}
use Rattle.reporting.proofs.decode_reported.Goals as goal

pub pack_decoded-a-requires : goal.pack_decoded-a-requires
pack_decoded-a-requires c =
    let P : Heads = let a = c.args in heads_lent a.heads in
    let M : Memory = let a = c.args in memory a.first_levels.now a.first_variable_messages.now a.first_check_messages.now a.first_sums.now a.first_bits.now in
    let N : Memory = let a = c.args in memory a.second_levels.now a.second_variable_messages.now a.second_check_messages.now a.second_sums.now a.second_bits.now in
    (both_small P M N c.args.degrees.now (as_answer c.in-Ok.is c.decode-answer.ensures)).0

pub pack_decoded-b-requires : goal.pack_decoded-b-requires
pack_decoded-b-requires c =
    let P : Heads = let a = c.args in heads_lent a.heads in
    let M : Memory = let a = c.args in memory a.first_levels.now a.first_variable_messages.now a.first_check_messages.now a.first_sums.now a.first_bits.now in
    let N : Memory = let a = c.args in memory a.second_levels.now a.second_variable_messages.now a.second_check_messages.now a.second_sums.now a.second_bits.now in
    (both_small P M N c.args.degrees.now (as_answer c.in-Ok.is c.decode-answer.ensures)).1

pub put_number-requires : goal.put_number-requires
put_number-requires c = omega (arith, c.requires)

pub put_number-requires-in-Ok : goal.put_number-requires-in-Ok
put_number-requires-in-Ok c = omega (arith, c.requires, c.put_number.auto.list)

pub returns-in-Err : goal.returns-in-Err
returns-in-Err c =
    let P : Heads = let a = c.args in heads_lent a.heads in
    let M : Memory = let a = c.args in memory a.first_levels.now a.first_variable_messages.now a.first_check_messages.now a.first_sums.now a.first_bits.now in
    let N : Memory = let a = c.args in memory a.second_levels.now a.second_variable_messages.now a.second_check_messages.now a.second_sums.now a.second_bits.now in
    reported_refused P M N c.args.degrees.now c.args.reports.now (as_answer c.in-Err.is c.decode-answer.ensures) c.pack_refused.ensures

pub shape_of-reports : goal.shape_of-reports
shape_of-reports c = c.put_number-in-Ok.auto.list ∙ c.put_number.auto.list

pub returns-in-Ok : goal.returns-in-Ok
returns-in-Ok c =
    let P : Heads = let a = c.args in heads_lent a.heads in
    let M : Memory = let a = c.args in memory a.first_levels.now a.first_variable_messages.now a.first_check_messages.now a.first_sums.now a.first_bits.now in
    let N : Memory = let a = c.args in memory a.second_levels.now a.second_variable_messages.now a.second_check_messages.now a.second_sums.now a.second_bits.now in
    let l = c.args.reports.now in
    let a = c.pack_decoded-a in
    let b = c.pack_decoded-b in
    reported_ran P M N c.args.degrees.now l (as_answer c.in-Ok.is c.decode-answer.ensures)
    (c.put_number-in-Ok.ensures ∙ ap (λ k. stored 8 k 8 b.result) c.put_number.ensures ∙ ap₂ (λ (x y : ℕ). stored 8 (stored 8 l 0 x) 8 y) a.ensures b.ensures ∙ two_numbers l _ _ c.requires)
