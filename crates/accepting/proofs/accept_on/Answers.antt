use borrow.Author.Rules.{rules}
use Rattle.decoding.specs.Frames.{frame_lent}
use Rattle.accepting.proofs.Ending.{count_off, settings_off, values_off, blank_off, memory_off, accepted}
use Rattle.accepting.proofs.accept_on.Goals as goal

pub returns-then-count-frame : goal.returns-then-count-frame
returns-then-count-frame c = count_off (frame_lent c.args.frame) c.args.room c.if-count-frame.true

pub returns-in_err-settings : goal.returns-in_err-settings
returns-in_err-settings c = search (rules, settings_off (frame_lent c.args.frame) c.args.room c.if-count-frame.false c.in_err-settings.ensures)

pub returns-in_err-check_values : goal.returns-in_err-check_values
returns-in_err-check_values c =
    search (rules, values_off (frame_lent c.args.frame) c.args.room c.if-count-frame.false c.in_ok-settings.ensures c.in_err-check_values.ensures)

pub returns-then-blank : goal.returns-then-blank
returns-then-blank c =
    blank_off (frame_lent c.args.frame) c.args.room c.if-count-frame.false c.in_ok-settings.ensures c.in_ok-check_values.ensures c.is_blank-blank.ensures c.if-blank.true

pub returns-then-not-enough : goal.returns-then-not-enough
returns-then-not-enough c =
    memory_off (frame_lent c.args.frame) c.args.room c.if-count-frame.false c.in_ok-settings.ensures c.in_ok-check_values.ensures c.is_blank-blank.ensures c.if-blank.false c.entries.ensures c.long_enough-enough.ensures c.if-not-enough.true

pub returns : goal.returns
returns c =
    accepted (frame_lent c.args.frame) c.args.room c.if-count-frame.false c.in_ok-settings.ensures c.in_ok-check_values.ensures c.is_blank-blank.ensures c.if-blank.false c.entries.ensures c.long_enough-enough.ensures c.if-not-enough.false
