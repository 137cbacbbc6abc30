use native.Mathlib.Omega.{arith}
use Rattle.solving.proofs.Answering.{put_more}
use Rattle.solving.proofs.put_ones.Goals as goal

pub loop-i-preserved : goal.loop-i-preserved
loop-i-preserved c =
    let asked = c.requires in
    put_more asked.2 (omega arith) asked.0 c.loop-i.invariant c.put_one.ensures
