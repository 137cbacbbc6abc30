use native.Mathlib.Omega.{arith}
use Rattle.decoding.specs.Decoding.{Memory}
use Rattle.decoding.specs.Frames.{memory}
use Rattle.decoding.specs.Pairing.Pairs.{heads_lent}
use Rattle.interface.proofs.PairAnswers.{entry_long, entry_short}
use Rattle.host.proofs.pairs.frame_decode_pair.Goals as goal

pub returns-then-reports-lt-REPORTS : goal.returns-then-reports-lt-REPORTS
returns-then-reports-lt-REPORTS c =
    let M : Memory = let a = c.args in memory a.first_levels.now a.first_variable_messages.now a.first_check_messages.now a.first_sums.now a.first_bits.now in
    let N : Memory = let a = c.args in memory a.second_levels.now a.second_variable_messages.now a.second_check_messages.now a.second_sums.now a.second_bits.now in
    entry_short (heads_lent c.args.heads) M N c.args.degrees.now c.args.reports.now (omega (arith, c.if-reports-lt-REPORTS.true)) c.refuse_short.ensures

pub decode_reported-requires : goal.decode_reported-requires
decode_reported-requires c = omega (arith, c.if-reports-lt-REPORTS.false)

pub returns : goal.returns
returns c =
    let M : Memory = let a = c.args in memory a.first_levels.now a.first_variable_messages.now a.first_check_messages.now a.first_sums.now a.first_bits.now in
    let N : Memory = let a = c.args in memory a.second_levels.now a.second_variable_messages.now a.second_check_messages.now a.second_sums.now a.second_bits.now in
    entry_long (heads_lent c.args.heads) M N c.args.degrees.now c.args.reports.now (omega (arith, c.if-reports-lt-REPORTS.false)) c.decode_reported.ensures
