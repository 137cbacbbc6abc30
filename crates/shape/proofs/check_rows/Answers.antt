use Rattle.std.specs.Prelude.{Err}
use Rattle.std.proofs.lemmas.Result.{err_from_is_err_and}
use mathlib.Core.Path.{sym, ap, ◌∙◌}
use native.Mathlib.Omega.{arith}
use Rattle.refusals.specs.Refusals.{each}
use Rattle.refusals.proofs.Judging.{each_none, each_more, each_at}
use Rattle.graphs.specs.Judging.{rows_judged}
use Rattle.graphs.proofs.Parts.{row_ends, starts_told}
use Rattle.words.specs.Roles.{graph_lent}
use Rattle.shape.proofs.Loops.{row_test}
use Rattle.shape.proofs.check_rows.Goals as goal

pub loop-i-init : goal.loop-i-init
loop-i-init c = each_none _

pub check_row-requires : goal.check_row-requires
check_row-requires c = row_ends _ (starts_told _ c.requires) c.loop-i.i (omega arith) c.start.ensures.0 c.start-in-loop-i.ensures.0

pub returns-in_err-check_row : goal.returns-in_err-check_row
unfolding rows_judged
returns-in_err-check_row c =
    let p = err_from_is_err_and c.from_residual.result c.from_residual.ensures.1 in
    p.1 ∙ ap Err p.2 ∙ sym (each_at _ c.loop-i.i _ _ c.loop-i.invariant (row_test (graph_lent c.args.graph) c.loop-i.i c.start.ensures.0 c.start-in-loop-i.ensures.0 c.in_err-check_row.ensures) (omega arith))

pub loop-i-preserved : goal.loop-i-preserved
loop-i-preserved c = each_more _ _ c.loop-i.invariant (row_test (graph_lent c.args.graph) c.loop-i.i c.start.ensures.0 c.start-in-loop-i.ensures.0 c.in_ok-check_row.ensures)

pub returns : goal.returns
unfolding rows_judged
returns c = sym c.loop-i.invariant ∙ ap (each _) (omega arith)
