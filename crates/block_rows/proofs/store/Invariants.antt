use mathlib.Core.Path.{◌≡◌}
use lib.ListN.{length}
use Rattle.block_rows.proofs.Stages.{Storing}
use Rattle.block_rows.proofs.store.Given as goal

abbrev pub invariant-loop-i : goal.invariant-loop-i
invariant-loop-i l = (length l.bases ≡ 256) × (length l.shifts ≡ 256) × Storing l.text l.counts l.at l.initial.starts l.starts l.initial.columns l.columns l.from l.left l.i l.c l.e
