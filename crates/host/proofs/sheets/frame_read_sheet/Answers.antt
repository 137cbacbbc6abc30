use mathlib.Core.Path.{sym, subst}
use lib.ListN.{length}
use Rattle.interface.specs.Packing.{SmallRead}
use Rattle.interface.proofs.SheetAnswers.{read_small, host_reads}
use Rattle.host.proofs.sheets.frame_read_sheet.Goals as goal

pub pack_read-requires : goal.pack_read-requires
pack_read-requires c =
    let a = c.args in
    subst SmallRead (sym c.read.ensures.answer) (read_small a.text.now (length a.degrees.now) (length a.starts.now) (length a.columns.now))

pub returns : goal.returns
returns c = host_reads c.read.ensures c.pack_read.ensures
