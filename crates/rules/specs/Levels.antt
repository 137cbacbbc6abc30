-- Document 01, 'Levels and scaling': levels. (The scaling, which needs floats, is in the crate channel.)
use Rattle.std.specs.Prelude.{Bool, true, false, cond, ◌&&◌, ℕ, ◌+◌, ◌-◌, ◌%◌, ◌^◌, leb, eqb}
use Rattle.rules.specs.Ranges.{fold}

-- 'A level is a sign and a magnitude; +0 and -0 are different.'
pub record Level : Type 0 where
  pub minus : Bool
  pub magnitude : ℕ

-- 'Its byte is the magnitude, plus 128 when the sign is minus.'
unfoldable pub byte : Level → ℕ
byte l = l.magnitude + cond l.minus 128 0

-- The level of a byte: what `byte` turns back into it, for every byte.
unfoldable pub level_of : ℕ → Level
level_of b = record { minus = leb 128 b; magnitude = b % 128 }

-- '+0'
abbrev pub plus_zero : Level
plus_zero = record { minus = false; magnitude = 0 }

-- 'b bits allow magnitudes 0 to N = 2^(b-1) - 1.' Of the channel precision that is Nch, of the message precision Nq.
abbrev pub largest : ℕ → ℕ
largest b = 2 ^ (b - 1) - 1

-- Document 02, item 4: 'a frame whose channel magnitudes are all 0 is now blank': y are its channel levels, n their number.
unfoldable pub blank : (ℕ → Level) → ℕ → Bool
blank y n = fold ◌&&◌ true (λ v. eqb (y v).magnitude 0) 0 n
