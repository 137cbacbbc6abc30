use Rattle.sheet_lines.proofs.Counting.{add_room, add_more}
use Rattle.sheet_lines.proofs.add_block.Goals as goal

pub add_one-requires : goal.add_one-requires
add_one-requires c = add_room c.loop-j.invariant c.loop-j-test.true c.column.ensures.0 c.requires.0

pub loop-j-preserved : goal.loop-j-preserved
loop-j-preserved c = add_more c.loop-j.invariant c.loop-j-test.true c.column.ensures.0 c.add_one.ensures
