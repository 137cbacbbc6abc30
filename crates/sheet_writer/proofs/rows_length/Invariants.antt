use Prim.Native.Nat.{◌*◌}
use Rattle.rules.specs.Graphs.{limits}
use Rattle.words.specs.Roles.{graph_lent}
use Rattle.code_sheets.proofs.Writer.Texts.{row_lines}
use Rattle.sheet_writer.proofs.Lengths.{Summed}
use Rattle.sheet_writer.proofs.rows_length.Given as goal

abbrev pub invariant-loop-i : goal.invariant-loop-i
invariant-loop-i l = Summed (row_lines (graph_lent l.graph)) (limits.check_degree * 42) l.total l.i
