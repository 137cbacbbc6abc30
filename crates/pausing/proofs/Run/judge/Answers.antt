use mathlib.Core.Path.{refl, sym, ◌∙◌}
use Rattle.std.proofs.lemmas.Result.{err_from_is_err_and}
use Rattle.pausing.proofs.Pausing.{within_front}
use Rattle.pausing.proofs.Run.judge.Goals as goal

pub returns-in_err-check_within : goal.returns-in_err-check_within
returns-in_err-check_within c =
    let a = c.args in
    let p = err_from_is_err_and c.from_residual.result c.from_residual.ensures.1 in
    rw (p.1, p.2, sym c.admits.ensures ∙ c.if-not-admits.false, within_front a.levels.now c.largest.ensures c.requires.1 c.check_within.ensures ∙ c.in_err-check_within.was) refl

pub returns-in_err-check_within-2 : goal.returns-in_err-check_within-2
returns-in_err-check_within-2 c =
    let a = c.args in
    let p = err_from_is_err_and c.from_residual-in_err-check_within-2.result c.from_residual-in_err-check_within-2.ensures.1 in
    rw (
      p.1,
      p.2,
      sym c.admits.ensures ∙ c.if-not-admits.false,
      within_front a.levels.now c.largest.ensures c.requires.1 c.check_within.ensures ∙ c.in_ok-check_within.was,
      within_front a.variable_messages.now c.largest-most.ensures c.requires.2 c.check_within-2.ensures ∙ c.in_err-check_within-2.was,
    ) refl

pub returns : goal.returns
returns c =
    let a = c.args in
    rw (
      sym c.admits.ensures ∙ c.if-not-admits.false,
      within_front a.levels.now c.largest.ensures c.requires.1 c.check_within.ensures ∙ c.in_ok-check_within.was,
      within_front a.variable_messages.now c.largest-most.ensures c.requires.2 c.check_within-2.ensures ∙ c.in_ok-check_within-2.was,
      within_front a.check_messages.now c.largest-most.ensures c.requires.3 c.check_within-3.ensures,
    ) refl
