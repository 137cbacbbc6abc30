-- What is found at a place of a text: the definitions on the rest of the text, said of the code's answers.
use Rattle.std.specs.Prelude.{◌≡◌, List, Option, Some, None, ℕ, ◌≤◌, ◌<◌, min, length, drop}
use Rattle.texts.specs.Numbers.{Front, other, value, front_digit}
use Rattle.texts.specs.Lines.{Pair, ended_by, line, fixed}
use Rattle.texts.specs.declared.Parsed.{Parsed}

-- Above every limit: a number from here on is given as this, 'however long'.
abbrev pub cap : ℕ
cap = 1000000000

-- A digit was read, or none stands there.
abbrev pub DigitAt : List ℕ → ℕ → Option ℕ → Type 0
DigitAt s at None = front_digit (drop at s) ≡ 10
DigitAt s at (Some d) = (d ≤ 9) × (front_digit (drop at s) ≡ d)

-- The byte x was read, or it does not stand there: what becomes of a value before it.
pub record ByteRead (x : ℕ) (s : List ℕ) (at next : ℕ) : Type 0 where
  pub ends : (v : ℕ) → ended_by x v (drop at s) ≡ value v (drop next s)
  pub on : at < next
  pub within : next ≤ length s

abbrev pub ByteAt : ℕ → List ℕ → ℕ → Option ℕ → Type 0
ByteAt x s at None = (v : ℕ) → ended_by x v (drop at s) ≡ other
ByteAt x s at (Some next) = ByteRead x s at next

-- A number was read from place `at` to place `next`.
pub record NumberRead (x : Front ℕ) (s : List ℕ) (at v next : ℕ) : Type 0 where
  pub number : ℕ
  pub reads : x ≡ value number (drop next s)
  pub capped : v ≡ min number cap
  pub on : at < next
  pub within : next ≤ length s

abbrev pub NumberAt : (List ℕ → Front ℕ) → List ℕ → ℕ → Option (Parsed ℕ) → Type 0
NumberAt form s at None = form (drop at s) ≡ other
NumberAt form s at (Some p) = NumberRead (form (drop at s)) s at p.value p.next

-- Something of this form is known to stand at place `at`, with a number that is not above every limit.
pub record Known (form : List ℕ → Front ℕ) (s : List ℕ) (at : ℕ) : Type 0 where
  pub number : ℕ
  pub rest : List ℕ
  pub reads : form (drop at s) ≡ value number rest
  pub small : number < cap

-- A line of two numbers was read.
pub record LineRead (x : Front Pair) (s : List ℕ) (at a b next : ℕ) : Type 0 where
  pub pair : Pair
  pub reads : x ≡ value pair (drop next s)
  pub first : a ≡ min pair.first cap
  pub second : b ≡ min pair.second cap
  pub on : at < next
  pub within : next ≤ length s

abbrev pub LineAt : List ℕ → ℕ → Option (Parsed (ℕ × ℕ)) → Type 0
LineAt s at None = line (drop at s) ≡ other
LineAt s at (Some p) = LineRead (line (drop at s)) s at p.value.0 p.value.1 p.next

pub record KnownLine (s : List ℕ) (at : ℕ) : Type 0 where
  pub pair : Pair
  pub rest : List ℕ
  pub reads : line (drop at s) ≡ value pair rest
  pub first : pair.first < cap
  pub second : pair.second < cap

-- A fixed text was read.
pub record FixedRead (x : Front Unit) (s : List ℕ) (next : ℕ) : Type 0 where
  pub reads : x ≡ value tt (drop next s)
  pub within : next ≤ length s

abbrev pub FixedAt : List ℕ → List ℕ → ℕ → Option ℕ → Type 0
FixedAt x s at None = fixed x (drop at s) ≡ other
FixedAt x s at (Some next) = FixedRead (fixed x (drop at s)) s next
