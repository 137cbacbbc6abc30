-- Every entry read has its place in the list. Each line moves on.
use Rattle.std.proofs.Common.{length, ◌-◌, ◌≡◌, ◌/◌, ◌≤◌}
use Rattle.block_trials.proofs.entries.Given as goal

abbrev pub invariant-loop-at : goal.invariant-loop-at
invariant-loop-at l = (length l.list ≡ length l.initial.list) × (l.k ≤ length l.initial.list / 12)

abbrev pub decreases-loop-at : goal.decreases-loop-at
decreases-loop-at l = length l.text - l.at
