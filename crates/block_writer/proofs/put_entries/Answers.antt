use Prim.Native.Nat.{◌/◌}
use native.Mathlib.Omega.{arith}
use lib.ListN.{length}
use Rattle.texts.proofs.Putting.{put_long}
use Rattle.sheet_writer.proofs.Putting.{put_begun, put_next, put_room, put_all}
use Rattle.block_sheets.proofs.Writer.Texts.{all_lines}
use Rattle.block_writer.proofs.Entries.{entry_line_lem}
use Rattle.block_writer.proofs.put_entries.Goals as goal

pub loop-q-init : goal.loop-q-init
loop-q-init c = put_begun

pub put_line-next-requires : goal.put_line-next-requires
put_line-next-requires c =
    let e = entry_line_lem (record { first = c.entry-row.ensures.row.0; second = c.entry-row.ensures.column.0; third = c.entry-row.ensures.shift.0 }) in
    put_room (length c.args.entries.now / 12) (all_lines c.args.entries.now) c.loop-q.invariant c.requires (omega arith) e

pub loop-q-preserved : goal.loop-q-preserved
loop-q-preserved c =
    let e = entry_line_lem (record { first = c.entry-row.ensures.row.0; second = c.entry-row.ensures.column.0; third = c.entry-row.ensures.shift.0 }) in
    put_next c.loop-q.invariant c.put_line-next.ensures e

pub shape_of-text : goal.shape_of-text
shape_of-text c = put_long c.loop-q.invariant.put

pub returns : goal.returns
returns c = put_all (omega arith) (all_lines c.args.entries.now) c.loop-q.invariant
