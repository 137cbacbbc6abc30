use Rattle.sheet_writer.proofs.Putting.{PutTo}
use Rattle.block_sheets.proofs.Writer.Texts.{entry_line}
use Rattle.block_writer.proofs.put_entries.Given as goal

abbrev pub invariant-loop-q : goal.invariant-loop-q
invariant-loop-q l = PutTo (entry_line l.entries) l.initial.text l.text l.at l.next l.q
