use native.Mathlib.Omega.{arith}
use Rattle.block_degrees.proofs.Spreading.{spreading_none, spreading_room, spreading_more, spreading_all}
use Rattle.block_degrees.proofs.spread.Goals as goal

pub loop-j-init : goal.loop-j-init
loop-j-init c = spreading_none c.args.columns c.args.size c.args.degrees.now

pub degree-d-requires : goal.degree-d-requires
degree-d-requires c = omega (arith, spreading_room c.loop-j.invariant (omega arith), c.requires.0, c.requires.1, c.loop-j.invariant.long)

pub overflow_add-v : goal.overflow_add-v
overflow_add-v c = omega (arith, spreading_room c.loop-j.invariant (omega arith), c.requires.0, c.requires.1)

pub fill-requires : goal.fill-requires
fill-requires c = (omega arith, omega (arith, spreading_room c.loop-j.invariant (omega arith), c.requires.1, c.loop-j.invariant.long), omega (arith, c.degree-d.ensures.1))

pub overflow_add-v-in-loop-j : goal.overflow_add-v-in-loop-j
overflow_add-v-in-loop-j c = omega (arith, spreading_room c.loop-j.invariant (omega arith), c.requires.0, c.requires.1)

pub loop-j-preserved : goal.loop-j-preserved
loop-j-preserved c = spreading_more c.loop-j.invariant (omega arith) c.degree-d.ensures.0 (omega arith) c.fill.ensures

pub shape_of-degrees : goal.shape_of-degrees
shape_of-degrees c = c.loop-j.invariant.long

pub returns : goal.returns
returns c = spreading_all c.loop-j.invariant (omega arith)
