-- Document 02, item 7: what is promised of the grants.
use Rattle.std.specs.Prelude.{◌≡◌, ℕ, ◌+◌, ◌≤◌, min}
use Rattle.decoding.specs.Pairing.Grants.{first_grant, second_grant}

-- 'Together they never exceed T', and they are all of T that the heads can use.
pub record Granted (T a b : ℕ) : Type 0 where
  pub within : first_grant T a b + second_grant T a b ≤ T
  pub used : first_grant T a b + second_grant T a b ≡ min T (a + b)

abbrev pub GrantsWithin : Type 0
GrantsWithin = (T a b : ℕ) → Granted T a b
