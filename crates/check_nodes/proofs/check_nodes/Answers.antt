use Prim.Native.Nat.{◌<◌, ◌-◌, ◌/◌}
use native.Mathlib.Omega.{arith}
use lib.ListN.{length}
use Rattle.rules.proofs.Filling.{filled_none}
use Rattle.words.specs.Roles.{wide}
use Rattle.nodes.proofs.RowLaws.{row_fits, row_filled}
use Rattle.check_nodes.proofs.check_nodes.Goals as goal

pub loop-i-init : goal.loop-i-init
loop-i-init c = rw c.requires.0.rowed.begins (filled_none _ _)

pub loop-i-preserved : goal.loop-i-preserved
loop-i-preserved c =
    let h : c.loop-i.i < length c.args.starts.now / wide - 1 = omega arith in
    row_filled c.args.starts.now (length c.args.incoming.now) c.requires.0 c.args.incoming.now (omega arith) (omega arith) h c.start-a.ensures.0 c.start-b.ensures.0
    c.loop-i.invariant c.check_row.ensures

pub slice_bounds-check_row-end : goal.slice_bounds-check_row-end
slice_bounds-check_row-end c = omega (arith, c.start-a.ensures.0, c.start-b.ensures.0, row_fits c.args.starts.now _ c.requires.0 c.loop-i.i (omega arith))
