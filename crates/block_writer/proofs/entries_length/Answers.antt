use mathlib.Core.Path.{sym, ap, ◌∙◌}
use native.Mathlib.Omega.{arith}
use lib.ListN.{length}
use Rattle.sheet_writer.proofs.Lengths.{summed_none, summed_more, summed_all}
use Rattle.block_sheets.proofs.Writer.Texts.{all_lines}
use Rattle.block_writer.proofs.Entries.{entry_line_lem}
use Rattle.block_writer.proofs.entries_length.Goals as goal

pub loop-q-init : goal.loop-q-init
loop-q-init c = summed_none

pub overflow_add-total : goal.overflow_add-total
overflow_add-total c = omega (arith, c.loop-q.invariant.most, c.line_length-total.ensures.1)

pub loop-q-preserved : goal.loop-q-preserved
loop-q-preserved c =
    let e = entry_line_lem (record { first = c.entry-row.ensures.row.0; second = c.entry-row.ensures.column.0; third = c.entry-row.ensures.shift.0 }) in
    summed_more c.loop-q.invariant (c.line_length-total.ensures.0 ∙ ap length e) c.line_length-total.ensures.1

pub returns : goal.returns
returns c = (summed_all c.loop-q.invariant (omega arith) ∙ ap length (sym (all_lines c.args.entries.now)), omega (arith, c.loop-q.invariant.most))
