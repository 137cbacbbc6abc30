-- The magnitude is above 0 exactly where the first threshold lies below the product.
use mathlib.Core.Path.{◌≡◌, refl, sym, ap, ap₂, ◌∙◌}
use mathlib.Core.Bool.{Bool, true, false, not, true≢false}
use Prim.Native.Nat.{ℕ, zero, suc, ◌+◌, ◌*◌, ◌≤◌, ◌<◌}
use native.Mathlib.Nat.{lt_of_not-le}
use native.Mathlib.Omega.{arith}
use borrow.Author.Tests.{ltb-true, lt-ltb, ne_eqb}
use lib.Dec.{eqb}
use lib.Ieee.{Float, nan, inf, fin, binary32, up, down, lt, of_int}
use lib.Ieee.Back.{round_whole}
use lib.Ieee.Exact.{HasValue}
use lib.Ieee.Fits.{down_pos}
use lib.Ieee.Order.{transfer}
use lib.Ieee.Positive.{through}
use Rattle.rules.specs.Ranges.{fold, one, count}
use Rattle.settings.specs.Scaling.{whole}
use Rattle.settings.specs.Quantiser.{wholes_below}

whole_value : (k : ℕ) → k < 128 → HasValue (whole k) false k 1
unfolding of_int
whole_value k h = round_whole binary32 false k (omega arith)

-- what lies above a number lies above a smaller one
lower_below : (x y p : Float) (i k : ℕ) → HasValue x false i 1 → HasValue y false k 1 → i ≤ k → lt y p ≡ true → lt x p ≡ true
unfolding lt
lower_below nan y p i k a b l h = absurd a
lower_below (inf s) y p i k a b l h = absurd a
lower_below (fin true m e) y p i k a b l h = absurd (true≢false a.0)
lower_below (fin false m e) nan p i k a b l h = absurd b
lower_below (fin false m e) (inf s) p i k a b l h = absurd b
lower_below (fin false m e) (fin true n d) p i k a b l h = absurd (true≢false b.0)
lower_below (fin false m e) (fin false n d) nan i k a b l h = absurd (true≢false (sym h))
lower_below (fin false m e) (fin false n d) (inf t) i k a b l h = h
lower_below (fin false m e) (fin false n d) (fin true o g) i k a b l h = absurd (true≢false (sym h))
lower_below (fin false m e) (fin false n d) (fin false o g) i k a b l h =
    lt-ltb (m * up e * down g) (o * up g * down e) (lt_of_not-le (λ (r : o * up g * down e ≤ m * up e * down g).
    over (through (o * up g) (m * up e) (n * up d) (down g) (down e) (down d) (down_pos e) r
    (transfer (m * up e) (n * up d) (down e) (down d) i k 1 1 (omega arith) (omega arith) a.1 b.1 (omega arith)))
    (ltb-true (n * up d * down g) (o * up g * down d) h)))
  where
    over : {a b : ℕ} → a ≤ b → b < a → ⊥
    over p q = omega arith

module _ (p : Float) where
  none_below : lt (whole 1) p ≡ false → (N : ℕ) → N < 128 → wholes_below N p ≡ 0
  unfolding wholes_below count fold
  none_below h zero l = refl
  none_below h (suc n) l = ap₂ ◌+◌ (none_below h n (omega arith)) (ap one (go (lt (whole (1 + n)) p) refl))
    where
      go : (b : Bool) → lt (whole (1 + n)) p ≡ b → b ≡ false
      go true e = sym (lower_below (whole 1) (whole (1 + n)) p 1 (1 + n) (whole_value 1 (omega arith)) (whole_value (1 + n) (omega arith)) (omega arith) e) ∙ h
      go false e = refl

  some_below : lt (whole 1) p ≡ true → (n : ℕ) → 1 ≤ wholes_below (suc n) p
  unfolding wholes_below count fold
  some_below h zero = rw h (omega arith)
  some_below h (suc n) = let k = some_below h n in omega arith

  pub exposed_is : (N : ℕ) → 1 ≤ N → N < 128 → lt (whole 1) p ≡ not (eqb (wholes_below N p) 0)
  exposed_is zero l u = absurd (omega arith)
  exposed_is (suc n) l u = go (lt (whole 1) p) refl
    where
      go : (b : Bool) → lt (whole 1) p ≡ b → b ≡ not (eqb (wholes_below (suc n) p) 0)
      go true h = let k = some_below h n in sym (ap not (ne_eqb (wholes_below (suc n) p) 0 (λ e. omega arith)))
      go false h = rw (none_below h (suc n) u)
