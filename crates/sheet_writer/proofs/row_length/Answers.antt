use mathlib.Core.Path.{sym, ap, ◌∙◌}
use native.Mathlib.Omega.{arith}
use lib.ListN.{length}
use Rattle.words.specs.Roles.{graph_lent}
use Rattle.code_sheets.proofs.Writer.Texts.{row_lines_lem}
use Rattle.sheet_writer.proofs.Lengths.{summed_none, summed_more, summed_all}
use Rattle.sheet_writer.proofs.Rows.{row_read, row_line}
use Rattle.sheet_writer.proofs.row_length.Goals as goal

pub loop-k-init : goal.loop-k-init
loop-k-init c =
    let h = c.requires in
    let r = row_read h.0 h.1 c.start-a.ensures.0 c.start-b.ensures.0 in
    (r, summed_none)

pub loop-k-preserved : goal.loop-k-preserved
loop-k-preserved c =
    let o = c.loop-k in
    let l = c.line_length-total.ensures in
    let e = row_line o.k o.invariant.0 c.column.ensures.0 in
    (o.invariant.0, summed_more o.invariant.1 (l.0 ∙ ap length e) l.1)

pub returns : goal.returns
returns c =
    let o = c.loop-k in
    (summed_all o.invariant.1 (omega arith) ∙ ap length (sym (row_lines_lem (graph_lent c.args.graph) c.args.i)), omega arith)
