-- The least of a set of bits: there is only one.
use mathlib.Core.Path.{◌≡◌, refl, sym}
use mathlib.Core.Bool.{Bool, true, false, true≢false}
use mathlib.Core.Logic.{◌≢◌}
use Prim.Native.Nat.{ℕ, zero, suc, ◌≤◌, ◌<◌}
use native.Mathlib.Decide.{ℕ_discrete}
use native.Mathlib.Omega.{arith}
use Rattle.codewords.specs.Choosing.{LeastOnly}

both_false : (a b : Bool) → (a ≢ b → a ≡ false) → (b ≢ a → b ≡ false) → a ≡ b
both_false true true h k = refl
both_false true false h k = h true≢false
both_false false true h k = sym (k true≢false)
both_false false false h k = refl

pub least_only : LeastOnly
least_only n S x y p q v l = agree n (omega arith) v l
  where
    agree : (w : ℕ) → w ≤ n → (v : ℕ) → v < w → x v ≡ y v
    agree zero l v u = absurd (omega arith)
    agree (suc w) l v u = go (ℕ_discrete v w) (agree w (omega arith))
      where
        go : Dec (v ≡ w) → ((v : ℕ) → v < w → x v ≡ y v) → x v ≡ y v
        go (yes e) ih =
            both_false (x v) (y v) (p.first y q.member v (omega arith) (λ u h. ih u (omega arith)))
            (q.first x p.member v (omega arith) (λ u h. sym (ih u (omega arith))))
        go (no e) ih = ih v (omega arith)
