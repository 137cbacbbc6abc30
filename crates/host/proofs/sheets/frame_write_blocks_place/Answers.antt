use Rattle.interface.proofs.BlockAnswers.{tells_blocks_place}
use Rattle.host.proofs.sheets.frame_write_blocks_place.Goals as goal

pub returns : goal.returns
returns c = tells_blocks_place c.judge_write.ensures c.place_of.ensures
