use mathlib.Core.Path.{◌≡◌}
use mathlib.Core.List.{List}
use Prim.Native.Nat.{ℕ, ◌+◌, ◌*◌, ◌<◌}
use lib.ListN.{length}
use Rattle.words.specs.Roles.{wide}
use Rattle.words.proofs.Filling.{Filled}
use Rattle.block_rows.proofs.put_starts.Given as goal

abbrev pub invariant-loop-r : goal.invariant-loop-r
invariant-loop-r l = (length l.starts ≡ length l.initial.starts) × ((f : ℕ → ℕ) (old : List ℕ) → Filled wide f old l.initial.starts l.c → ((t : ℕ) → t < l.size → l.x + t * l.d ≡ f (l.c + t)) → Filled wide f old l.starts (l.c + l.r))
