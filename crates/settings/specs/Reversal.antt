-- Channel values with signs reversed, on their bytes: what demand 3 compares.
use Rattle.std.specs.Prelude.{Bool, cond, ◌&&◌, List, ℕ, ◌+◌, ◌/◌, ◌%◌, ◌<◌, eqb, length, get_or}
use Rattle.rules.specs.Ranges.{tabulate}

-- Every element is a byte.
abbrev pub Bytes : List ℕ → Type 0
Bytes b = (k : ℕ) → get_or b k 0 < 256

-- Byte k once signs are reversed: the sign bit is the highest bit of a value's last byte.
unfoldable pub reversed_byte : (ℕ → Bool) → List ℕ → ℕ → ℕ
reversed_byte c values k = cond (eqb (k % 4) 3 && c (k / 4)) ((get_or values k 0 + 128) % 256) (get_or values k 0)

-- The values with the sign of value v reversed exactly where c v.
unfoldable pub reversed : (ℕ → Bool) → List ℕ → List ℕ
reversed c values = tabulate (reversed_byte c values) (length values)
