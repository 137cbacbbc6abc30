-- Decimal numbers in bytes: the text of a number, and the number at the front of a text.
use Rattle.std.specs.Prelude.{Bool, cond, ◌&&◌, List, [], ◌∷◌, ◌++◌, ℕ, zero, suc, ◌+◌, ◌-◌, ◌*◌, ◌/◌, ◌%◌, eqb, leb, ltb}

-- ---- writing

-- The text of k, for which f digits are enough. The digit d is the byte 48 + d.
unfoldable pub digits : ℕ → ℕ → List ℕ
digits zero k = []
digits (suc f) k = cond (ltb k 10) ((48 + k) ∷ []) (digits f (k / 10) ++ ((48 + k % 10) ∷ []))

-- 'Decimal numbers have no leading zeros.'
unfoldable pub decimal : ℕ → List ℕ
decimal k = digits (suc k) k

-- ---- reading

-- What stands at the front of a text: a value, with the text after it; or nothing of the form that was asked for.
pub data Front (A : Type 0) : Type 0 where
  other : Front A
  value : A → List ℕ → Front A

abbrev pub digit : ℕ → Bool
digit b = leb 48 b && leb b 57

-- The number whose digits so far make v, and go on at the front of the text.
unfoldable pub more : ℕ → List ℕ → Front ℕ
more v [] = value v []
more v (b ∷ t) = cond (digit b) (more (v * 10 + (b - 48)) t) (value v (b ∷ t))

-- A number, however long: a 0 alone, or digits that begin with another.
unfoldable pub number : List ℕ → Front ℕ
number [] = other
number (b ∷ t) = cond (eqb b 48) (value 0 t) (cond (digit b) (more (b - 48) t) other)

-- The digit at the front of a text, or 10 where there is none.
unfoldable pub front_digit : List ℕ → ℕ
front_digit [] = 10
front_digit (b ∷ t) = cond (digit b) (b - 48) 10
