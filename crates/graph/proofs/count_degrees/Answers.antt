use Prim.Native.Nat.{◌<◌}
use native.Mathlib.Omega.{arith}
use Rattle.words.specs.Roles.{column_at}
use Rattle.degrees.proofs.Tallies.{tallies_none, tallies_long, tallies_small, tallies_more}
use Rattle.graph.proofs.count_degrees.Goals as goal

pub loop-e-init : goal.loop-e-init
loop-e-init c = let a = c.args in tallies_none 4 a.graph.variables (column_at a.graph.columns.now) a.degrees.now c.clear.ensures

pub add_one-requires : goal.add_one-requires
add_one-requires c =
    let t = c.loop-e.invariant in
    let low : c.column.result < c.args.graph.variables = omega (arith, c.requires.by_index c.loop-e.e (omega arith)) in
    (omega (arith, tallies_long t), omega (arith, tallies_small t low (omega arith)))

pub loop-e-preserved : goal.loop-e-preserved
loop-e-preserved c =
    tallies_more c.loop-e.invariant (omega (arith, c.requires.by_index c.loop-e.e (omega arith))) (omega arith) c.column.ensures.0 c.add_one.ensures
