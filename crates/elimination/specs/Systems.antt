-- Systems of parity equations. A row over n variables: bit v below n says whether variable v takes part, bit n is the right side.
use Rattle.std.specs.Prelude.{◌≡◌, Bool, false, true, not, cond, ◌&&◌, ◌≢◌, ℕ, zero, suc, ◌<◌, eqb}
use Rattle.std.specs.Bool.{xor}
use Rattle.rules.specs.Ranges.{fold}

-- Whether the bits x break row r: the parity of its variables is not its right side.
unfoldable pub broken : ℕ → (ℕ → Bool) → (ℕ → Bool) → Bool
broken n r x = xor (fold xor false (λ v. r v && x v) 0 n) (r n)

-- The bits x solve the m rows of R.
abbrev pub Solves : ℕ → ℕ → (ℕ → ℕ → Bool) → (ℕ → Bool) → Type 0
Solves m n R x = (i : ℕ) → i < m → broken n (R i) x ≡ false

-- One more than the highest variable of a row, or 0 where it has none.
unfoldable pub top : ℕ → (ℕ → Bool) → ℕ
top zero r = 0
top (suc n) r = cond (r n) (suc n) (top n r)

-- Row i added to every other row that has variable v.
unfoldable pub cleared : ℕ → ℕ → (ℕ → ℕ → Bool) → ℕ → ℕ → Bool
cleared i v R j u = cond (not (eqb j i) && R j v) (xor (R j u) (R i u)) (R j u)

-- Rows in which variable v, whose value is b, is replaced by its value.
unfoldable pub replaced : ℕ → ℕ → Bool → (ℕ → ℕ → Bool) → ℕ → ℕ → Bool
replaced n v b R j u = cond (R j v) (xor (R j u) (cond (eqb u v) true (eqb u n && b))) (R j u)

-- The rows below i are done: the highest variable of each is in no other row, and one without variables has the right side 0.
pub record Reduced (m n i : ℕ) (R : ℕ → ℕ → Bool) : Type 0 where
  pub alone : (k j h : ℕ) → k < i → j < m → j ≢ k → top n (R k) ≡ suc h → R j h ≡ false
  pub even : (k : ℕ) → k < i → top n (R k) ≡ 0 → R k n ≡ false
