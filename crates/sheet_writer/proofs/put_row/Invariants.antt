use Rattle.words.specs.Roles.{graph_lent}
use Rattle.code_sheets.proofs.Writer.Texts.{entry_line}
use Rattle.sheet_writer.proofs.Putting.{PutTo}
use Rattle.sheet_writer.proofs.Rows.{Row}
use Rattle.sheet_writer.proofs.put_row.Given as goal

abbrev pub invariant-loop-k : goal.invariant-loop-k
invariant-loop-k l = Row (graph_lent l.graph) l.i l.a l.end × PutTo (entry_line (graph_lent l.graph) l.i) l.initial.text l.text l.at l.next l.k
