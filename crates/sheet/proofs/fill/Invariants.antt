use mathlib.Core.Path.{◌≡◌}
use mathlib.Core.List.{List}
use Prim.Native.Nat.{ℕ, ◌≤◌, ◌<◌}
use lib.ListN.{length}
use Rattle.words.specs.Roles.{wide}
use Rattle.words.proofs.Filling.{Filled}
use Rattle.sheet.proofs.fill.Given as goal

abbrev pub invariant-loop-i : goal.invariant-loop-i
invariant-loop-i l = (length l.starts ≡ length l.initial.starts)
    × ((f : ℕ → ℕ) (old : List ℕ) → Filled wide f old l.initial.starts l.a → ((j : ℕ) → l.a ≤ j → j < l.b → l.x ≡ f j) → Filled wide f old l.starts l.i)
