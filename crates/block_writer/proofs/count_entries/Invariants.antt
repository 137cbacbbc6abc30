use Rattle.block_degrees.proofs.Counting.{Counting}
use Rattle.block_sheets.specs.Writer.Writing.{blocks_lent}
use Rattle.block_writer.proofs.count_entries.Given as goal

abbrev pub invariant-loop-q : goal.invariant-loop-q
invariant-loop-q l = Counting (blocks_lent l.blocks) l.initial.degrees l.degrees l.so_far l.q
