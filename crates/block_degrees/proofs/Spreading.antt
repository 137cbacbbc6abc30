-- The loop that gives every variable of a block column the number of the first, one block column on.
use mathlib.Core.Path.{◌≡◌, refl, sym, ap, ◌∙◌}
use mathlib.Core.List.{List}
use Prim.Native.Nat.{ℕ, suc, ◌+◌, ◌-◌, ◌*◌, ◌≤◌, ◌<◌}
use native.Mathlib.Nat.{zero-mul, suc-mul, mul-le-mul_right}
use native.Mathlib.Omega.{arith}
use lib.ListN.{length}
use Rattle.words.specs.Roles.{wide, degree_at}
use Rattle.words.proofs.Filling.{Filled, filled_none, filled_rest, filled_end}
use Rattle.block_degrees.specs.Counting.{Spread}

-- before block column j, whose first variable is v
pub record Spreading (columns size : ℕ) (old now : List ℕ) (j v : ℕ) : Type 0 where
  pub up : j ≤ columns
  pub at : v ≡ j * size
  pub long : length now ≡ length old
  pub is : (f : ℕ → ℕ) → ((i r : ℕ) → i < columns → r < size → degree_at old (i * size) ≡ f (i * size + r)) → Filled 4 f old now v

pub spreading_none : (columns size : ℕ) (old : List ℕ) → Spreading columns size old old 0 0
spreading_none columns size old = record { up = omega arith; at = sym (zero-mul size); long = refl; is = λ f h. filled_none 4 f old }

module _ {columns size : ℕ} {old now : List ℕ} {j v : ℕ} (q : Spreading columns size old now j v) where
  pub spreading_room : j < columns → v + size ≤ columns * size
  spreading_room l = omega (arith, q.at, suc-mul j size, mul-le-mul_right {m = suc j} {n = columns} size l)

  pub spreading_more : {later : List ℕ} {x : ℕ} → j < columns → x ≡ degree_at now v → length later ≡ length old
      → ((f : ℕ → ℕ) (old : List ℕ) → Filled wide f old now v → ((i : ℕ) → v ≤ i → i < v + size → x ≡ f i) → Filled wide f old later (v + size))
      → Spreading columns size old later (j + 1) (v + size)
  spreading_more {later} {x} l e n fill = record {
    up = omega arith;
    at = ap (λ (k : ℕ). k + size) q.at ∙ sym (suc-mul j size) ∙ ap (λ (k : ℕ). k * size) (omega arith);
    long = n;
    is = λ f h. fill f old (q.is f h) (λ i a u.
        e ∙ filled_rest (omega arith) (q.is f h) ∙ ap (degree_at old) q.at ∙ h j (i - v) l (omega arith)
        ∙ ap f (omega (arith, q.at)));
  }

  pub spreading_all : columns ≤ j → Spread columns size old now
  spreading_all l f h = filled_end (q.at ∙ ap (λ (k : ℕ). k * size) (omega (arith, q.up))) (q.is f h)
