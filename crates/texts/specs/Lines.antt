-- Lines of a text: fixed ones, and lines of two numbers. 'Lines end in one LF. One space separates.'
use Rattle.std.specs.Prelude.{cond, List, [], ◌∷◌, ◌++◌, ℕ, eqb}
use Rattle.texts.specs.Numbers.{decimal, Front, other, value, number}

abbrev pub space : ℕ
space = 32

abbrev pub lf : ℕ
lf = 10

-- ---- writing

pub record Pair : Type 0 where
  pub first : ℕ
  pub second : ℕ

abbrev pub pair : ℕ → ℕ → Pair
pair a b = record { first = a; second = b }

-- The line of two numbers.
unfoldable pub line_text : Pair → List ℕ
line_text p = decimal p.first ++ (space ∷ (decimal p.second ++ (lf ∷ [])))

-- Lines of two numbers, one after the other.
unfoldable pub lines_text : List Pair → List ℕ
lines_text [] = []
lines_text (p ∷ ps) = line_text p ++ lines_text ps

-- ---- reading

-- What is read from the rest, where there was a value.
abbrev pub and_then : {A B : Type 0} → Front A → (A → List ℕ → Front B) → Front B
and_then other k = other
and_then (value a t) k = k a t

-- The byte x at the front of the text, after the value v.
abbrev pub ended_by : ℕ → ℕ → List ℕ → Front ℕ
ended_by x v [] = other
ended_by x v (b ∷ t) = cond (eqb b x) (value v t) other

-- A number with the byte x after it.
unfoldable pub field : ℕ → List ℕ → Front ℕ
field x t = and_then (number t) (ended_by x)

-- A line of two numbers.
unfoldable pub line : List ℕ → Front Pair
line t = and_then (field space t) (λ a r. and_then (field lf r) (λ b u. value (pair a b) u))

-- A fixed text.
unfoldable pub fixed : List ℕ → List ℕ → Front Unit
fixed [] t = value tt t
fixed (x ∷ xs) [] = other
fixed (x ∷ xs) (b ∷ t) = cond (eqb b x) (fixed xs t) other
