use mathlib.Core.Path.{◌∙◌}
use Rattle.std.proofs.lemmas.Result.{err_from_is_err_and}
use Rattle.run_text.proofs.Storing.{oversized, sized, read_refused, read_stored}
use Rattle.run_text.proofs.read.Goals as goal

pub returns-then-text-gt-LARGEST_INPUT : goal.returns-then-text-gt-LARGEST_INPUT
returns-then-text-gt-LARGEST_INPUT c = read_refused (oversized c.args.n c.args.text.now c.if-text-gt-LARGEST_INPUT.true)

pub returns-in_err-settings : goal.returns-in_err-settings
returns-in_err-settings c =
    let exit = err_from_is_err_and c.from_residual.result c.from_residual.ensures.1 in
    rw (exit.1, exit.2) (read_refused (sized c.args.n c.args.text.now c.if-text-gt-LARGEST_INPUT.false ∙ c.in_err-settings.ensures c.args.n))

pub returns-in_err-values_at : goal.returns-in_err-values_at
returns-in_err-values_at c =
    let above = c.in_ok-settings.ensures in
    let exit = err_from_is_err_and c.from_residual-in_err-values_at.result c.from_residual-in_err-values_at.ensures.1 in
    rw (exit.1, exit.2)
    (read_refused (sized c.args.n c.args.text.now c.if-text-gt-LARGEST_INPUT.false ∙ above.same c.args.n ∙ c.in_err-values_at.ensures c.in_ok-settings.settings.value))

pub returns : goal.returns
returns c =
    let above = c.in_ok-settings.ensures in
    read_stored (sized c.args.n c.args.text.now c.if-text-gt-LARGEST_INPUT.false ∙ above.same c.args.n) (c.in_ok-values_at.ensures c.in_ok-settings.settings.value) c.copy_from_slice.ensures.after
