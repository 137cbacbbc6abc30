use mathlib.Core.Path.{◌≡◌}
use Prim.Native.Nat.{◌-◌}
use Rattle.refusals.specs.declared.Refusal.TheVariants.{Start}
use Rattle.refusals.proofs.Judging.{Passed}
use Rattle.words.specs.Roles.{start_at, graph_lent}
use Rattle.graphs.proofs.Parts.{test_of_start}
use Rattle.shape.proofs.check_starts.Given as goal

abbrev pub invariant-loop-i : goal.invariant-loop-i
invariant-loop-i l = record {
  last : l.last ≡ start_at l.graph.starts.now (l.i - 1);
  passed : Passed (test_of_start (graph_lent l.graph)) (λ k. Start k) l.i;
}
