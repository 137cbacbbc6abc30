use Rattle.words.specs.Roles.{graph_lent}
use Rattle.code_sheets.proofs.Writer.Texts.{row_lines}
use Rattle.sheet_writer.proofs.Putting.{PutTo}
use Rattle.sheet_writer.proofs.put_rows.Given as goal

abbrev pub invariant-loop-i : goal.invariant-loop-i
invariant-loop-i l = PutTo (row_lines (graph_lent l.graph)) l.initial.text l.text l.at l.next l.i
