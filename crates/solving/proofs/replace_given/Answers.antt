use mathlib.Core.Path.{refl}
use native.Mathlib.Omega.{arith}
use Rattle.solving.proofs.Loading.{replaced_next}
use Rattle.solving.proofs.replace_given.Goals as goal

pub loop-k-preserved : goal.loop-k-preserved
loop-k-preserved c = replaced_next c.requires.1.rising (omega arith) c.position.ensures refl c.loop-k.invariant c.replace.ensures
