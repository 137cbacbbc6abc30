-- A loop that adds up the lengths of texts, each at most w long.
use mathlib.Core.Path.{◌≡◌, refl, ap, ◌∙◌}
use mathlib.Core.List.{List}
use Prim.Native.Nat.{ℕ, ◌+◌, ◌*◌, ◌≤◌}
use native.Mathlib.Nat.{mul-add}
use native.Mathlib.Omega.{arith}
use lib.ListN.{length, length-append}
use Rattle.rules.specs.Ranges.{joined}
use Rattle.code_sheets.proofs.Writer.Texts.{joined_more}

pub record Summed (f : ℕ → List ℕ) (w total k : ℕ) : Type 0 where
  pub is : total ≡ length (joined f k)
  pub most : total ≤ w * k

module _ {f : ℕ → List ℕ} {w : ℕ} where
  pub summed_none : Summed f w 0 0
  unfolding joined
  summed_none = record { is = refl; most = omega arith }

  pub summed_more : {total x k : ℕ} → Summed f w total k → x ≡ length (f k) → x ≤ w → Summed f w (total + x) (k + 1)
  summed_more {total} {x} {k} s e l = record {
    is = omega (arith, s.is, ap length (joined_more f k), length-append (joined f k) (f k));
    most = omega (arith, s.most, mul-add w k 1);
  }

  pub summed_all : {total k n : ℕ} → Summed f w total k → k ≡ n → total ≡ length (joined f n)
  summed_all s e = s.is ∙ ap (λ j. length (joined f j)) e
