use mathlib.Core.Path.{◌≡◌}
use mathlib.Core.Bool.{true}
use Prim.Native.Nat.{ℕ, ◌≤◌, ◌<◌}
use Rattle.rules.specs.Levels.{blank}
use Rattle.settings.specs.Values.{channel_level}
use Rattle.quantiser.proofs.is_blank.Given as goal

abbrev pub invariant-loop-v : goal.invariant-loop-v
invariant-loop-v l = (N : ℕ) → 1 ≤ N → N < 128 → blank (channel_level N l.factor l.values) l.v ≡ true
