use Rattle.interface.proofs.SheetAnswers.{tells_line}
use Rattle.host.proofs.sheets.frame_read_sheet_place.Goals as goal

pub returns : goal.returns
returns c = tells_line c.judge_read.ensures c.place_of.ensures
