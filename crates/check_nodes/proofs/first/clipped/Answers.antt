use mathlib.Core.Path.{sym, ap, ◌∙◌}
use mathlib.Core.Bool.{cond}
use Prim.Native.Nat.{ℕ, ◌+◌}
use native.Mathlib.Omega.{arith}
use lib.Dec.{leb}
use Rattle.rules.specs.Levels.{byte, level_of}
use Rattle.rules.proofs.Own.{level_bytes}
use Rattle.check_nodes.proofs.first.clipped.Goals as goal

pub returns-then-most-b : goal.returns-then-most-b
unfolding byte level_of
returns-then-most-b c = c.byte_of.ensures ∙ ap (λ (m : ℕ). m + cond (leb 128 c.args.b) 128 0) (omega arith)

pub returns-else-most-b : goal.returns-else-most-b
unfolding level_of
returns-else-most-b c = sym (level_bytes.1 c.args.b (omega arith)) ∙ ap (λ (m : ℕ). byte (record { minus = (level_of c.args.b).minus; magnitude = m })) (omega arith)
