use native.Mathlib.Omega.{arith}
use Rattle.texts.proofs.Putting.{put_long}
use Rattle.block_sheets.specs.Writer.Writing.{blocks_lent}
use Rattle.block_sheets.proofs.Writer.Texts.{sheet_long, put_lines}
use Rattle.block_writer.proofs.put_sheet.Goals as goal

pub put_fixed-counts-requires : goal.put_fixed-counts-requires
put_fixed-counts-requires c =
    omega (arith, sheet_long (blocks_lent c.args.blocks))

pub put_line-titles-requires : goal.put_line-titles-requires
put_line-titles-requires c =
    let p = c.put_fixed-counts.ensures in
    omega (arith, sheet_long (blocks_lent c.args.blocks), p.after, put_long p)

pub put_fixed-first-requires : goal.put_fixed-first-requires
put_fixed-first-requires c =
    let p = c.put_fixed-counts.ensures in
    let q = c.put_line-titles.ensures in
    omega (arith, sheet_long (blocks_lent c.args.blocks), p.after, put_long p, q.after, put_long q)

pub put_entries-requires : goal.put_entries-requires
put_entries-requires c =
    let p = c.put_fixed-counts.ensures in
    let q = c.put_line-titles.ensures in
    let r = c.put_fixed-first.ensures in
    omega (arith, sheet_long (blocks_lent c.args.blocks), p.after, put_long p, q.after, put_long q, r.after, put_long r)

pub returns : goal.returns
returns c =
    put_lines (blocks_lent c.args.blocks) c.put_fixed-counts.ensures c.put_line-titles.ensures c.put_fixed-first.ensures c.put_entries.ensures
