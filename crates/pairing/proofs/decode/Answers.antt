use Rattle.decoding.specs.Decoding.{Memory}
use Rattle.decoding.specs.Frames.{memory}
use Rattle.decoding.specs.Pairing.Pairs.{heads_lent}
use Rattle.pairing.proofs.Deciding.{both_ready, both_long, allowed, pair_ran}
use Rattle.pairing.proofs.decode.Goals as goal

pub run_both-requires : goal.run_both-requires
run_both-requires c =
    let M : Memory = let a = c.args in memory a.first_levels.now a.first_variable_messages.now a.first_check_messages.now a.first_sums.now a.first_bits.now in
    let N : Memory = let a = c.args in memory a.second_levels.now a.second_variable_messages.now a.second_check_messages.now a.second_sums.now a.second_bits.now in
    let P = heads_lent c.args.heads in
    let w = c.accept.ensures in
    let e = c.in_ok-first.was in
    record { allowance_bound = allowed P M N w e; ready = both_ready P M N w e; long = both_long P M N w e }

pub returns : goal.returns
returns c =
    let M : Memory = let a = c.args in memory a.first_levels.now a.first_variable_messages.now a.first_check_messages.now a.first_sums.now a.first_bits.now in
    let N : Memory = let a = c.args in memory a.second_levels.now a.second_variable_messages.now a.second_check_messages.now a.second_sums.now a.second_bits.now in
    pair_ran (heads_lent c.args.heads) M N c.accept.ensures c.in_ok-first.was c.run_both.ensures.0 c.run_both.ensures.1
