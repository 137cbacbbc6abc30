-- The answer lies within its memory.
use mathlib.Core.Path.{ap}
use mathlib.Core.List.{List}
use Prim.Native.Nat.{ℕ, ◌≤◌}
use native.Mathlib.Omega.{arith}
use lib.ListN.{length, drop, length-append}
use Rattle.program_texts.specs.Answering.{Answers}

pub answer_within : {sheet run old now : List ℕ} {r : ℕ} → Answers sheet run old now r → r ≤ length now
answer_within {old = old} w = omega (arith, w.long, ap length w.holds, length-append w.text (drop (length w.text) old))
