use mathlib.Core.List.{List}
use Prim.Native.Nat.{ℕ, min}
use lib.Ieee.{Float}
use Rattle.rules.specs.Levels.{byte}
use Rattle.rules.proofs.Filling.{Filled}
use Rattle.settings.specs.Values.{channel_level}
use Rattle.quantiser.proofs.quantise.Given as goal

abbrev pub level_byte : ℕ → Float → List ℕ → ℕ → ℕ
level_byte most factor values v = byte (channel_level (min most 127) factor values v)

abbrev pub invariant-loop-v : goal.invariant-loop-v
invariant-loop-v l = Filled (level_byte l.most l.factor l.values) l.initial.levels l.levels l.v
