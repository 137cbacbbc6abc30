-- Lists held in bytes, lowest byte first: numbers of any width w, in bytes.
-- A list's count is its length divided by the width, rounded down; the bytes past the last whole element are no part of it.
use Rattle.std.specs.Prelude.{List, [], ◌∷◌, ℕ, zero, suc, ◌+◌, ◌*◌, ◌/◌, ◌%◌, get_or, set}
use Rattle.rules.specs.Ranges.{joined}

-- The number in the w bytes from byte k on.
unfoldable pub word : ℕ → List ℕ → ℕ → ℕ
word zero b k = 0
word (suc w) b k = get_or b k 0 + 256 * word w b (suc k)

-- The list with the number x in the w bytes from byte k on.
unfoldable pub stored : ℕ → List ℕ → ℕ → ℕ → List ℕ
stored zero b k x = b
stored (suc w) b k x = stored w (set b k (x % 256)) (suc k) (x / 256)

-- The w bytes of the number x.
unfoldable pub bytes : ℕ → ℕ → List ℕ
bytes zero x = []
bytes (suc w) x = x % 256 ∷ bytes w (x / 256)

-- The bytes of the list f 0, f 1, .., f (n - 1), of numbers w bytes wide.
unfoldable pub table : ℕ → (ℕ → ℕ) → ℕ → List ℕ
table w f n = joined (λ k. bytes w (f k)) n
