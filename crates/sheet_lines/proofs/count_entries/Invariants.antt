use Prim.Native.Nat.{◌-◌, ◌≤◌}
use Rattle.sheet_lines.proofs.Counting.{Counting}
use Rattle.sheet_lines.proofs.count_entries.Given as goal

abbrev pub invariant-loop-k : goal.invariant-loop-k
invariant-loop-k l = (l.k ≤ l.counts.entries) × Counting l.text l.counts l.at l.initial.degrees l.degrees l.rows l.next l.k

abbrev pub decreases-loop-k : goal.decreases-loop-k
decreases-loop-k l = l.counts.entries - l.k
