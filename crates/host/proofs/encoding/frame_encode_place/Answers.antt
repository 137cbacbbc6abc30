use Rattle.interface.proofs.EncodeAnswers.{tells_encode_place}
use Rattle.host.proofs.encoding.frame_encode_place.Goals as goal

pub returns : goal.returns
returns c = tells_encode_place c.judge.ensures c.place_of.ensures
