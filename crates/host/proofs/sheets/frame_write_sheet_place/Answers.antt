use Rattle.interface.proofs.SheetAnswers.{tells_place}
use Rattle.host.proofs.sheets.frame_write_sheet_place.Goals as goal

pub returns : goal.returns
returns c = tells_place c.judge_write.ensures c.place_of.ensures
