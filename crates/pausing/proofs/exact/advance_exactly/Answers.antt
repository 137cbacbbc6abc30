use native.Mathlib.Omega.{arith}
use Rattle.pausing.proofs.Pausing.{advances_exactly}
use Rattle.pausing.proofs.exact.advance_exactly.Goals as goal

pub returns : goal.returns
returns c =
    let a = c.args in
    λ σ given. advances_exactly _ _ a.settings.limit a.count a.t _ (omega (arith, c.min.ensures, c.saturating_add.ensures, c.requires.admissible.0.limit)) given.number c.requires.t_lt_limit.0 (c.go_on-t.ensures σ given) c.odd_checks.ensures c.run_at.ensures
