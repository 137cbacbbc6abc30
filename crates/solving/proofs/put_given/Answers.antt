use mathlib.Core.Path.{refl}
use native.Mathlib.Omega.{arith}
use Rattle.solving.proofs.Answering.{begun_more}
use Rattle.solving.proofs.put_given.Goals as goal

pub loop-k-preserved : goal.loop-k-preserved
loop-k-preserved c =
    let asked = c.requires in
    begun_more asked.2.rising (omega arith) asked.0 c.position.ensures refl (asked.2.bits _) c.loop-k.invariant
