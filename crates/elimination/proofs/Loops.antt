-- What the loops and the calls in them tell, over plain values.
use mathlib.Core.Path.{◌≡◌, refl, sym, ap, ◌∙◌}
use mathlib.Core.Bool.{Bool, true, false, cond}
use Prim.Native.Nat.{ℕ, zero, suc, ◌-◌, ◌*◌, ◌%◌, ◌^◌, ◌≤◌, ◌<◌}
use native.Mathlib.Decide.{ℕ_discrete}
use native.Mathlib.Nat.{mod-eq_of_lt}
use native.Mathlib.Omega.{arith}
use native.Mathlib.Numerals.{unary_clauses}
use lib.Pow.{pow-lt}
use Rattle.elimination.specs.Systems.{top}

-- ---- a bit of a byte

pub power_byte : (k : ℕ) → k < 8 → 1 * 2 ^ k % 256 ≡ 2 ^ k
power_byte k l = ap (λ (x : ℕ). x % 256) (omega arith) ∙ mod-eq_of_lt {n = 2 ^ k} {m = 256} (pow-lt {i = k} {j = 8} l)

-- ---- the highest variable

pub top_here : (r : ℕ → Bool) (v : ℕ) → 0 < v → r (v - 1) ≡ true → top v r ≡ v
unfolding top
top_here r zero h e = refl
top_here r (suc v) h e = ap (λ b. cond b (suc v) (top v r)) (simp unary_clauses at e)

top_below : (r : ℕ → Bool) (v : ℕ) → 0 < v → r (v - 1) ≡ false → top v r ≡ top (v - 1) r
unfolding top
top_below r zero h e = refl
top_below r (suc v) h e = ap (λ b. cond b (suc v) (top v r)) (simp unary_clauses at e) ∙ simp unary_clauses

pub top_none : (r : ℕ → Bool) (v : ℕ) → v ≤ 0 → top v r ≡ 0
unfolding top
top_none r zero h = refl
top_none r (suc v) h = absurd (omega arith)

top_skip : (r : ℕ → Bool) (k v : ℕ) → k ≤ v → ((u : ℕ) → k ≤ u → u < v → r u ≡ false) → top v r ≡ top k r
top_skip r k zero h z = ap (λ (x : ℕ). top x r) (omega arith)
top_skip r k (suc v) h z = go (ℕ_discrete k (suc v)) (top_skip r k v)
  where
    go : Dec (k ≡ suc v) → (k ≤ v → ((u : ℕ) → k ≤ u → u < v → r u ≡ false) → top v r ≡ top k r) → top (suc v) r ≡ top k r
    go (yes e) ih = ap (λ (x : ℕ). top x r) (sym e)
    go (no e) ih =
        top_below r (suc v) (omega arith) (z (suc v - 1) (omega arith) (omega arith)) ∙ ap (λ (x : ℕ). top x r) (omega arith)
        ∙ ih (omega arith) (λ u a b. z u a (omega arith))

-- bit v - 1 is 0, and so are those from k on to before it
pub top_past : (r : ℕ → Bool) (k v : ℕ) → 0 < v → k < v → r (v - 1) ≡ false → ((u : ℕ) → k ≤ u → u < v - 1 → r u ≡ false) → top v r ≡ top k r
top_past r k v p l e z = top_below r v p e ∙ top_skip r k (v - 1) (omega arith) z
