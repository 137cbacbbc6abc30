use mathlib.Core.Path.{◌≡◌}
use lib.ListN.{length}
use Rattle.printing.proofs.Parts.{bits_none, bits_long, bits_more, bits_all}
use native.Mathlib.Omega.{arith}
use Rattle.printing.proofs.put_bits.Goals as goal

pub loop-k-init : goal.loop-k-init
loop-k-init c = bits_none

pub bounds-out-at : goal.bounds-out-at
bounds-out-at c = omega (arith, bits_long c.loop-k.invariant)

pub loop-k-preserved : goal.loop-k-preserved
loop-k-preserved c = bits_more c.loop-k.invariant (omega arith) c.bit_text.ensures

pub shape_of-out : goal.shape_of-out
shape_of-out c = bits_long c.loop-k.invariant

pub returns : goal.returns
returns c =
    let all : c.loop-k.k ≡ length c.args.bits.now = omega arith in
    rw (← all) (bits_all c.loop-k.invariant (omega arith))
