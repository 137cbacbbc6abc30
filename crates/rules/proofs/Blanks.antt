-- Laws of blank levels: a search for a magnitude above 0, and levels of the same magnitudes.
use mathlib.Core.Path.{◌≡◌, sym, ap, ◌∙◌}
use mathlib.Core.Bool.{true, false, ◌&&◌}
use mathlib.Core.Logic.{⊎_elim}
use Prim.Native.Nat.{ℕ, zero, suc, ◌+◌, ◌<◌}
use native.Mathlib.Nat.{eq-or-lt_of_le, le_of_suc-le-suc}
use native.Mathlib.Numerals.{add-one}
use native.Mathlib.Omega.{arith}
use lib.Dec.{eqb}
use Rattle.rules.specs.Levels.{Level, blank}
use Rattle.rules.proofs.Ranges.{fold_none, fold_next, fold_ext}
use Rattle.rules.proofs.Tests.{and_both, and_no}

module _ (y : ℕ → Level) where
  pub blank_none : blank y 0 ≡ true
  unfolding blank
  blank_none = fold_none ◌&&◌ true _ 0

  blank_next : (k : ℕ) → blank y (k + 1) ≡ blank y k && eqb (y k).magnitude 0
  unfolding blank
  blank_next k = fold_next ◌&&◌ true _ k

  pub blank_more : (k : ℕ) → blank y k ≡ true → eqb (y k).magnitude 0 ≡ true → blank y (k + 1) ≡ true
  blank_more k h e = blank_next k ∙ and_both h e

  -- one magnitude above 0 is enough
  pub exposed_at : (k n : ℕ) → k < n → eqb (y k).magnitude 0 ≡ false → blank y n ≡ false
  exposed_at k zero l e = absurd (omega arith)
  exposed_at k (suc n) l e =
      ap (blank y) (sym (add-one n)) ∙ blank_next n
      ∙ ⊎_elim (λ q. rw (← q, e) (and_no (blank y k))) (λ q. rw (exposed_at k n q e)) (eq-or-lt_of_le (le_of_suc-le-suc l))

pub blank_same : (y y' : ℕ → Level) (n : ℕ) → ((v : ℕ) → v < n → (y' v).magnitude ≡ (y v).magnitude) → blank y' n ≡ blank y n
unfolding blank
blank_same y y' n h =
    fold_ext ◌&&◌ true (λ v. eqb (y' v).magnitude 0) (λ v. eqb (y v).magnitude 0) 0 n (λ v _ u. ap (λ m. eqb m 0) (h v (omega arith)))
