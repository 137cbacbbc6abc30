use native.Mathlib.Omega.{arith}
use Rattle.block_degrees.proofs.Heads.{clearing_none, clearing_long, clearing_room, clearing_more, clearing_all}
use Rattle.block_degrees.proofs.clear.Goals as goal

pub loop-j-init : goal.loop-j-init
loop-j-init c = clearing_none c.args.columns c.args.size c.args.degrees.now

pub put_degree-requires : goal.put_degree-requires
put_degree-requires c = omega (arith, clearing_room c.loop-j.invariant (omega arith), clearing_long c.loop-j.invariant, c.requires.0, c.requires.1)

pub overflow_add-v : goal.overflow_add-v
overflow_add-v c = omega (arith, clearing_room c.loop-j.invariant (omega arith), c.requires.0, c.requires.1)

pub loop-j-preserved : goal.loop-j-preserved
loop-j-preserved c = clearing_more c.loop-j.invariant (omega arith) c.put_degree.ensures

pub shape_of-degrees : goal.shape_of-degrees
shape_of-degrees c = clearing_long c.loop-j.invariant

pub returns : goal.returns
returns c = clearing_all c.loop-j.invariant (omega arith)
