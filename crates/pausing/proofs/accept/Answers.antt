use mathlib.Core.Path.{sym, ap, ◌∙◌}
use native.Mathlib.Omega.{arith}
use Rattle.std.proofs.lemmas.Result.{err_from_is_err_and}
use Rattle.words.specs.Roles.{graph_lent}
use Rattle.settings.specs.Settings.{settings_of}
use Rattle.pausing.proofs.Pausing.{graph_good, settings_refused, memory_refused, all_accepted}
use Rattle.pausing.proofs.accept.Goals as goal

pub returns-in_err-settings : goal.returns-in_err-settings
returns-in_err-settings c =
    let p = err_from_is_err_and c.from_residual-in_err-settings.result c.from_residual-in_err-settings.ensures.1 in
    rw (p.1, p.2) (settings_refused (graph_lent c.args.graph) c.args.settings c.args.room c.check.ensures c.in_ok-check.was (c.check_settings.ensures ∙ ap settings_of c.scaled.ensures) c.in_err-settings.was)

pub long_enough-requires : goal.long_enough-requires
long_enough-requires c = omega (arith, (graph_good (graph_lent c.args.graph) c.args.settings c.args.room c.check.ensures c.in_ok-check.was).variables)

pub returns-then-not-long_enough : goal.returns-then-not-long_enough
returns-then-not-long_enough c = memory_refused (graph_lent c.args.graph) c.args.settings c.args.room c.check.ensures c.in_ok-check.was (c.check_settings.ensures ∙ ap settings_of c.scaled.ensures) c.in_ok-settings.was (rw (sym c.entries.ensures) (sym c.long_enough.ensures ∙ c.if-not-long_enough.true))

pub returns : goal.returns
returns c = all_accepted (graph_lent c.args.graph) c.args.settings c.args.room c.check.ensures c.in_ok-check.was (c.check_settings.ensures ∙ ap settings_of c.scaled.ensures) c.in_ok-settings.was (rw (sym c.entries.ensures) (sym c.long_enough.ensures ∙ c.if-not-long_enough.false))
