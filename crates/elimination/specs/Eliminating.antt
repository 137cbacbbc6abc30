-- What elimination does to the rows that the bytes hold.
use Rattle.std.specs.Prelude.{◌≡◌, Bool, true, false, ◌↔◌, List, ℕ, ◌<◌, length}
use Rattle.elimination.specs.Systems.{Solves, Reduced}
use Rattle.elimination.specs.Rows.{rows_in}

-- Variable v is in no row.
abbrev pub Absent : ℕ → (ℕ → ℕ → Bool) → ℕ → Type 0
Absent m R v = (j : ℕ) → j < m → R j v ≡ false

-- The rows from i on to before e are done, if r; else nothing solves them. Either way the same bits solve them as before, and a variable that was in
-- no row is in none.
pub record Eliminated (m n i e : ℕ) (r : Bool) (old new : List ℕ) : Type 0 where
  pub long : length new ≡ length old
  pub reduced : r ≡ true → Reduced m n i (rows_in n old) → Reduced m n e (rows_in n new)
  pub same : (x : ℕ → Bool) → Solves m n (rows_in n old) x ↔ Solves m n (rows_in n new) x
  pub absent : (v : ℕ) → v < n → Absent m (rows_in n old) v → Absent m (rows_in n new) v
  pub none : r ≡ false → (x : ℕ → Bool) → Solves m n (rows_in n old) x → ⊥
