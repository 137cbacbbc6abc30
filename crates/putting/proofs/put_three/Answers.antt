use Rattle.texts.proofs.Putting.{put_then}
use Rattle.putting.proofs.put_three.Goals as goal

pub returns : goal.returns
returns c = put_then (put_then c.put_digit-i.ensures c.put_digit-j.ensures) c.put_digit.ensures
