use native.Mathlib.Omega.{arith}
use Rattle.rules.specs.Graphs.{check_degree}
use Rattle.words.specs.Roles.{graph_lent}
use Rattle.texts.proofs.Putting.{put_long}
use Rattle.code_sheets.proofs.Writer.Texts.{row_lines_lem}
use Rattle.sheet_writer.proofs.Putting.{put_begun, put_next, put_room, put_all}
use Rattle.sheet_writer.proofs.Rows.{row_read, row_line}
use Rattle.sheet_writer.proofs.put_row.Goals as goal

pub loop-k-init : goal.loop-k-init
loop-k-init c =
    let h = c.requires.admitted in
    let r = row_read h.0 h.1 c.start-a.ensures.0 c.start-end.ensures.0 in
    (r, put_begun)

pub put_line-next-requires : goal.put_line-next-requires
put_line-next-requires c =
    let o = c.loop-k in
    let e = row_line o.k o.invariant.0 c.column.ensures.0 in
    put_room (check_degree (graph_lent c.args.graph) c.args.i) (row_lines_lem (graph_lent c.args.graph) c.args.i) o.invariant.1 c.requires.i_in_bounds (omega arith) e

pub loop-k-preserved : goal.loop-k-preserved
loop-k-preserved c =
    let o = c.loop-k in
    let e = row_line o.k o.invariant.0 c.column.ensures.0 in
    (o.invariant.0, put_next o.invariant.1 c.put_line-next.ensures e)

pub shape_of-text : goal.shape_of-text
shape_of-text c = put_long c.loop-k.invariant.1.put

pub returns : goal.returns
returns c = put_all (omega arith) (row_lines_lem (graph_lent c.args.graph) c.args.i) c.loop-k.invariant.1
