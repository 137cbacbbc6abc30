use native.Mathlib.Omega.{arith}
use Rattle.std.proofs.lemmas.Result.{err_from_is_err_and}
use Rattle.decoding.specs.Frames.{memory}
use Rattle.pausing.specs.Pausing.{Lent, lent, Asked, asked_lent}
use Rattle.pausing.proofs.Pausing.{advances_refused, accepted_graph, accepted_degrees, accepted_settings, accepted_long, resume_refused, advances_none, variable_within, check_within_lem, resumable_below, advances_on}
use Rattle.pausing.proofs.Run.advance_judged.Goals as goal

pub returns-in_err-settings : goal.returns-in_err-settings
returns-in_err-settings c =
    let A : Asked = asked_lent c.args.graph c.args.settings c.args.count in
    let z : Lent = let a = c.args in lent a.self (memory a.levels.now a.variable_messages.now a.check_messages.now a.sums.now a.bits.now) in
    let p = err_from_is_err_and c.from_residual.result c.from_residual.ensures.1 in
    rw (p.1, p.2) (advances_refused A z c.accept.ensures c.in_err-settings.was)

pub judge-requires : goal.judge-requires
judge-requires c =
    let A : Asked = asked_lent c.args.graph c.args.settings c.args.count in
    let z : Lent = let a = c.args in lent a.self (memory a.levels.now a.variable_messages.now a.check_messages.now a.sums.now a.bits.now) in
    let l = accepted_long A z c.accept.ensures c.in_ok-settings.was in
    rw c.entries.ensures (accepted_settings A z c.accept.ensures c.in_ok-settings.was, l.levels, l.variable_messages, l.check_messages)

pub returns-in_err-judge : goal.returns-in_err-judge
returns-in_err-judge c =
    let A : Asked = asked_lent c.args.graph c.args.settings c.args.count in
    let z : Lent = let a = c.args in lent a.self (memory a.levels.now a.variable_messages.now a.check_messages.now a.sums.now a.bits.now) in
    let p = err_from_is_err_and c.from_residual-in_err-judge.result c.from_residual-in_err-judge.ensures.1 in
    let j = rw c.entries.ensures at c.judge.ensures in
    rw (p.1, p.2) (resume_refused A z c.accept.ensures c.in_ok-settings.was j c.in_err-judge.was)

pub returns-then-count-eq0 : goal.returns-then-count-eq0
returns-then-count-eq0 c =
    let A : Asked = asked_lent c.args.graph c.args.settings c.args.count in
    let z : Lent = let a = c.args in lent a.self (memory a.levels.now a.variable_messages.now a.check_messages.now a.sums.now a.bits.now) in
    let j = rw c.entries.ensures at c.judge.ensures in
    advances_none A z c.accept.ensures c.in_ok-settings.was j c.in_ok-judge.was c.if-count-eq0.true

pub advance_within-requires : goal.advance_within-requires
advance_within-requires c =
    let A : Asked = asked_lent c.args.graph c.args.settings c.args.count in
    let z : Lent = let a = c.args in lent a.self (memory a.levels.now a.variable_messages.now a.check_messages.now a.sums.now a.bits.now) in
    let j = rw c.entries.ensures at c.judge.ensures in
    let w = c.accept.ensures in
    let e = c.in_ok-settings.was in
    let h = c.in_ok-judge.was in
    record {
      admissible = (accepted_settings A z w e, accepted_graph A z w e, accepted_degrees A z w e);
      long = (accepted_long A z w e, resumable_below A z w e j h, omega (arith, c.if-count-eq0.false));
      columns_value = (variable_within A z w e j h, check_within_lem A z w e j h);
    }

pub returns : goal.returns
returns c =
    let A : Asked = asked_lent c.args.graph c.args.settings c.args.count in
    let z : Lent = let a = c.args in lent a.self (memory a.levels.now a.variable_messages.now a.check_messages.now a.sums.now a.bits.now) in
    let j = rw c.entries.ensures at c.judge.ensures in
    advances_on A z c.accept.ensures c.in_ok-settings.was j c.in_ok-judge.was c.if-count-eq0.false c.advance_within.ensures
