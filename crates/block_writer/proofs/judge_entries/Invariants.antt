use Rattle.texts.specs.Lines.{pair}
use Rattle.texts.specs.Triples.{triple}
use Rattle.texts.proofs.Walking.{Walking}
use Rattle.block_sheets.specs.Text.Reading.{block_entries, room_of}
use Rattle.block_sheets.specs.Writer.Writing.{entries_in}
use Rattle.block_writer.proofs.judge_entries.Given as goal

abbrev pub invariant-loop-q : goal.invariant-loop-q
invariant-loop-q l = Walking block_entries (room_of l.blocks.size) (triple l.blocks.size l.blocks.rows l.blocks.columns) (entries_in l.blocks.entries.now) l.q (pair l.i0 l.j0)
