use Rattle.std.proofs.lemmas.Result.{err_from_is_err_and}
use Rattle.run_text.proofs.Storing.{storing_none, storing_other, storing_more, storing_extra, storing_all}
use Rattle.run_text.proofs.values_at.Goals as goal

pub loop-k-init : goal.loop-k-init
loop-k-init c = storing_none c.args.text.now c.args.n c.args.from c.args.values.now c.requires.0

pub returns-in_err-pattern : goal.returns-in_err-pattern
returns-in_err-pattern c =
    let told = c.in_err-pattern.ensures in
    let exit = err_from_is_err_and c.from_residual.result c.from_residual.ensures.1 in
    rw (exit.1, exit.2) (storing_other c.loop-k.invariant c.loop-k-test.true c.pattern_at.ensures told.ok_part told.value)

pub loop-k-preserved : goal.loop-k-preserved
loop-k-preserved c =
    storing_more c.loop-k.invariant c.loop-k-test.true c.requires.2 c.pattern_at.ensures c.in_ok-pattern.ensures.ok_part c.store32.ensures

pub returns-then-at-text : goal.returns-then-at-text
returns-then-at-text c = storing_extra c.loop-k.invariant c.loop-k-test.false c.if-at-text.true

pub returns : goal.returns
returns c = storing_all c.loop-k.invariant c.loop-k-test.false c.if-at-text.false
