use mathlib.Core.Path.{sym, subst}
use lib.ListN.{length}
use Rattle.words.specs.Roles.{graph_lent}
use Rattle.interface.specs.Packing.{SmallWritten}
use Rattle.interface.proofs.SheetAnswers.{written_small, host_writes}
use Rattle.host.proofs.sheets.frame_write_sheet.Goals as goal

pub pack_written-requires : goal.pack_written-requires
pack_written-requires c =
    let a = c.args in
    subst SmallWritten (sym c.write.ensures.answer) (written_small (graph_lent a.graph) (length a.degrees.now) (length a.text.now))

pub returns : goal.returns
returns c = host_writes c.write.ensures c.pack_written.ensures
