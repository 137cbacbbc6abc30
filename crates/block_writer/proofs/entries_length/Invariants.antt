use Rattle.sheet_writer.proofs.Lengths.{Summed}
use Rattle.block_sheets.proofs.Writer.Texts.{entry_line}
use Rattle.block_writer.proofs.entries_length.Given as goal

abbrev pub invariant-loop-q : goal.invariant-loop-q
invariant-loop-q l = Summed (entry_line l.entries) 63 l.total l.q
