use mathlib.Core.Path.{◌≡◌, subst}
use mathlib.Core.List.{List}
use Prim.Native.Nat.{ℕ, ◌<◌, ◌+◌}
use native.Mathlib.Omega.{arith}
use lib.ListN.{length, set}
use Rattle.rules.proofs.Filling.{Filled, filled_none, filled_more, filled_all}
use Rattle.variable_nodes.proofs.variable_nodes.Goals as goal

two_more : {f : ℕ → ℕ} {old now : List ℕ} {e x y : ℕ} → e + 1 < length old → Filled f old now e → x ≡ f e → y ≡ f (e + 1) → Filled f old (set (set now e x) (e + 1) y) (e + 2)
two_more {f} {old} {now} {e} {x} {y} l h p q =
    let two : e + 1 + 1 ≡ e + 2 = omega arith in
    subst (Filled f old (set (set now e x) (e + 1) y)) two (filled_more l (filled_more (omega arith) h p) q)

pub loop-e-init : goal.loop-e-init
loop-e-init c = (omega arith, filled_none _ _)

pub loop-e-preserved : goal.loop-e-preserved
loop-e-preserved c = (omega arith, two_more (omega arith) c.loop-e.invariant.1 c.sent.ensures c.sent-in-loop-e.ensures)

pub returns-then-e-n : goal.returns-then-e-n
returns-then-e-n c = filled_all (omega arith) (omega arith) (filled_more (omega arith) c.loop-e.invariant.1 c.sent-then-e-n.ensures)
