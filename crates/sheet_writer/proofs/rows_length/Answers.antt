use mathlib.Core.Path.{sym, ap, ◌∙◌}
use native.Mathlib.Omega.{arith}
use lib.ListN.{length}
use Rattle.words.specs.Roles.{graph_lent}
use Rattle.code_sheets.proofs.Writer.Texts.{all_lines}
use Rattle.sheet_writer.proofs.Lengths.{summed_none, summed_more, summed_all}
use Rattle.sheet_writer.proofs.rows_length.Goals as goal

pub loop-i-init : goal.loop-i-init
loop-i-init c = summed_none

pub row_length-total-requires : goal.row_length-total-requires
row_length-total-requires c = (c.requires, omega arith)

pub overflow_add-total : goal.overflow_add-total
overflow_add-total c = omega (arith, c.requires.checks.1)

pub loop-i-preserved : goal.loop-i-preserved
loop-i-preserved c = summed_more c.loop-i.invariant c.row_length-total.ensures.0 c.row_length-total.ensures.1

pub returns : goal.returns
returns c = (
  summed_all c.loop-i.invariant (omega arith) ∙ ap length (sym (all_lines (graph_lent c.args.graph))),
  omega (arith, c.requires.checks.1),
)
