use mathlib.Core.Path.{sym, subst}
use lib.ListN.{length}
use Rattle.block_sheets.specs.Writer.Writing.{blocks_lent}
use Rattle.interface.specs.Packing.{SmallWritten}
use Rattle.interface.proofs.BlockAnswers.{blocks_written_small, host_writes_blocks}
use Rattle.host.proofs.sheets.frame_write_blocks.Goals as goal

pub pack_written-requires : goal.pack_written-requires
pack_written-requires c =
    let a = c.args in
    subst SmallWritten (sym c.write.ensures.answer) (blocks_written_small (blocks_lent a.blocks) (length a.degrees.now) (length a.text.now))

pub returns : goal.returns
returns c = host_writes_blocks c.write.ensures c.pack_written.ensures
