use native.Mathlib.Omega.{arith}
use Rattle.words.specs.Roles.{graph_lent}
use Rattle.texts.proofs.Putting.{put_long}
use Rattle.code_sheets.proofs.Writer.Texts.{sheet_long}
use Rattle.sheet_writer.proofs.Putting.{put_lines}
use Rattle.sheet_writer.proofs.put_sheet.Goals as goal

pub put_fixed-counts-requires : goal.put_fixed-counts-requires
put_fixed-counts-requires c = omega (arith, sheet_long (graph_lent c.args.graph))

pub put_line-titles-requires : goal.put_line-titles-requires
put_line-titles-requires c =
    let p = c.put_fixed-counts.ensures in
    rw c.checks.ensures (omega (arith, sheet_long (graph_lent c.args.graph), put_long p))

pub put_fixed-entries-requires : goal.put_fixed-entries-requires
put_fixed-entries-requires c =
    let p = c.put_fixed-counts.ensures in
    let q = rw c.checks.ensures at c.put_line-titles.ensures in
    omega (arith, sheet_long (graph_lent c.args.graph), put_long p, put_long q)

pub put_rows-requires : goal.put_rows-requires
put_rows-requires c =
    let p = c.put_fixed-counts.ensures in
    let q = rw c.checks.ensures at c.put_line-titles.ensures in
    let r = c.put_fixed-entries.ensures in
    record { admitted = c.requires.admitted; columns_in_bounds = omega (arith, c.requires.columns_in_bounds, sheet_long (graph_lent c.args.graph), put_long p, put_long q, put_long r) }

pub returns : goal.returns
returns c =
    let p = c.put_fixed-counts.ensures in
    let q = rw c.checks.ensures at c.put_line-titles.ensures in
    let r = c.put_fixed-entries.ensures in
    put_lines (graph_lent c.args.graph) p q r c.put_rows.ensures
