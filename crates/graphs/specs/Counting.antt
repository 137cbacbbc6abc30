-- The variables' degrees, as they are counted.
use Rattle.std.specs.Prelude.{ℕ, eqb}
use Rattle.rules.specs.Ranges.{count}

-- How many of the first k entries have column v. Of all entries, that is its degree.
abbrev pub tally : (ℕ → ℕ) → ℕ → ℕ → ℕ
tally column k v = count (λ e. eqb (column e) v) 0 k
