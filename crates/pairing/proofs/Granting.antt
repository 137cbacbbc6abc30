-- What the other head left of the allowance is what a head's grant adds to its half.
use mathlib.Core.Path.{◌≡◌}
use Prim.Native.Nat.{ℕ, ◌+◌, ◌-◌, ◌≤◌, ◌<◌, min}
use native.Mathlib.Omega.{arith}
use Rattle.decoding.specs.Pairing.Grants.{grant}

-- a head may go beyond its half exactly where the other finishes within its own
pub beyond : (half half' T own other : ℕ) → half + half' ≡ T → other ≤ half' → min (half + (T - half - other)) own ≡ grant half T own other
beyond half half' T own other e l = omega arith

pub not_beyond : (half half' T own other : ℕ) → half + half' ≡ T → half' < other → min (half + 0) own ≡ grant half T own other
not_beyond half half' T own other e l = omega arith

-- where the allowance is enough for both, each is granted what it takes alone
pub granted_all : (half T own other : ℕ) → own + other ≤ T → grant half T own other ≡ own
granted_all half T own other l = omega arith
