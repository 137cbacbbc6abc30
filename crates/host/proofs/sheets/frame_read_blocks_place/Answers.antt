use Rattle.interface.proofs.BlockAnswers.{tells_blocks_line}
use Rattle.host.proofs.sheets.frame_read_blocks_place.Goals as goal

pub returns : goal.returns
returns c = tells_blocks_line c.judge_read.ensures c.place_of.ensures
