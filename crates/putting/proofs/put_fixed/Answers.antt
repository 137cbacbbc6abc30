use mathlib.Core.Path.{◌≡◌, refl}
use native.Mathlib.Omega.{arith}
use lib.ListN.{length}
use Rattle.texts.proofs.Putting.{put_long, put_taken, put_whole}
use Rattle.putting.proofs.put_fixed.Goals as goal

pub loop-k-init : goal.loop-k-init
loop-k-init c = record { text = refl; after = refl }

pub bounds-text-at : goal.bounds-text-at
bounds-text-at c = omega (arith, put_long c.loop-k.invariant)

pub loop-k-preserved : goal.loop-k-preserved
loop-k-preserved c = put_taken c.args.x.now c.loop-k.k (omega arith) c.loop-k.invariant

pub shape_of-text : goal.shape_of-text
shape_of-text c = put_long c.loop-k.invariant

pub returns : goal.returns
returns c =
    let all : c.loop-k.k ≡ length c.args.x.now = omega arith in
    rw (← all) (put_whole c.args.x.now c.loop-k.k (omega arith) c.loop-k.invariant)
