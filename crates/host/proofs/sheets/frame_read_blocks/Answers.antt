use mathlib.Core.Path.{sym, subst}
use lib.ListN.{length}
use Rattle.interface.specs.Packing.{SmallRead}
use Rattle.interface.proofs.BlockAnswers.{blocks_small, host_reads_blocks}
use Rattle.host.proofs.sheets.frame_read_blocks.Goals as goal

pub pack_read-requires : goal.pack_read-requires
pack_read-requires c =
    let a = c.args in
    subst SmallRead (sym c.read.ensures.read.answer) (blocks_small a.text.now (length a.degrees.now) (length a.starts.now) (length a.columns.now))

pub returns : goal.returns
returns c = host_reads_blocks c.read.ensures c.pack_read.ensures
