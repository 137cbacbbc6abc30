-- What adding a block of variables to the degrees needs and owes.
use Rattle.std.specs.Prelude.{◌≡◌, List, ℕ, ◌+◌, ◌^◌, ◌<◌}
use Rattle.words.specs.Roles.{column_at}
use Rattle.degrees.proofs.Tallies.{Tallies}

-- The variables of a block of entries, from entry k on.
pub record Next (n : ℕ) (column : ℕ → ℕ) (block : List ℕ) (k size : ℕ) : Type 0 where
  pub columns : (e : ℕ) → e < size → column_at block e ≡ column (k + e)
  pub within : (e : ℕ) → e < size → column (k + e) < n
  pub small : k + size < 2 ^ 32

-- The list has the degrees by the first k entries.
pub record Addable (block degrees : List ℕ) (size : ℕ) : Type 0 where
  pub variables : ℕ
  pub column : ℕ → ℕ
  pub old : List ℕ
  pub k : ℕ
  pub tallies : Tallies 4 variables column old degrees k
  pub next : Next variables column block k size

-- It then has them by j entries more, whatever they are of.
abbrev pub AddsOn : List ℕ → ℕ → List ℕ → List ℕ → ℕ → Type 0
AddsOn block size d d' j =
    (n : ℕ) (column : ℕ → ℕ) (old : List ℕ) (k : ℕ) → Tallies 4 n column old d k → Next n column block k size → Tallies 4 n column old d' (k + j)
