use Rattle.words.specs.Roles.{graph_lent}
use Rattle.code_sheets.proofs.Writer.Texts.{entry_line}
use Rattle.sheet_writer.proofs.Lengths.{Summed}
use Rattle.sheet_writer.proofs.Rows.{Row}
use Rattle.sheet_writer.proofs.row_length.Given as goal

abbrev pub invariant-loop-k : goal.invariant-loop-k
invariant-loop-k l = Row (graph_lent l.graph) l.i l.a l.b × Summed (entry_line (graph_lent l.graph) l.i) 42 l.total l.k
