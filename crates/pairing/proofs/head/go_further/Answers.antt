use mathlib.Core.Path.{sym, ◌∙◌}
use native.Mathlib.Omega.{arith}
use Rattle.pairing.proofs.Halts.{stays_finished, stays_none, advances}
use Rattle.pairing.proofs.head.go_further.Goals as goal
use Rattle.pairing.proofs.head.go_further.Goals.{then-not-is_open-via-then-not-is_open, then-not-is_open-via-else-not-is_open+then-count-eq0}

pub returns-then-not-is_open : goal.returns-then-not-is_open
returns-then-not-is_open c = λ values ready w.
    elim c.then-not-is_open.branch [
      | then-not-is_open-via-then-not-is_open b ↦ stays_finished _ values ready _ _ w c.args.count (sym c.is_open.ensures ∙ b.if-not-is_open.true)
      | then-not-is_open-via-else-not-is_open+then-count-eq0 b ↦ stays_none _ values ready _ _ w c.args.count b.if-count-eq0.true
    ]

pub returns : goal.returns
returns c = λ values ready w. advances _ values ready _ _ w c.args.count (omega (arith, c.if-count-eq0.false)) (sym c.is_open.ensures ∙ c.if-not-is_open.false) c.advance_within.ensures
