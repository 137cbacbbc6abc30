use Rattle.texts.proofs.Putting.{put_byte, put_then}
use Rattle.putting.proofs.put_field.Goals as goal

pub returns : goal.returns
returns c = put_then c.put_number-i.ensures put_byte
