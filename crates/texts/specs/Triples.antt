-- Lines of three numbers: a number, and a line of two.
use Rattle.std.specs.Prelude.{◌≡◌, List, ◌∷◌, ◌++◌, Option, Some, None, ℕ, ◌≤◌, ◌<◌, min, length, drop}
use Rattle.texts.specs.Numbers.{decimal, Front, other, value}
use Rattle.texts.specs.Lines.{space, pair, line_text, and_then, field, line}
use Rattle.texts.specs.Places.{cap}
use Rattle.texts.specs.declared.Parsed.{Parsed}

pub record Triple : Type 0 where
  pub first : ℕ
  pub second : ℕ
  pub third : ℕ

abbrev pub triple : ℕ → ℕ → ℕ → Triple
triple a b c = record { first = a; second = b; third = c }

-- The line of three numbers.
unfoldable pub triple_text : Triple → List ℕ
triple_text p = decimal p.first ++ (space ∷ line_text (pair p.second p.third))

unfoldable pub triple_line : List ℕ → Front Triple
triple_line t = and_then (field space t) (λ a r. and_then (line r) (λ p u. value (triple a p.first p.second) u))

-- ---- at a place of a text

-- A line of three numbers was read.
pub record TripleRead (x : Front Triple) (s : List ℕ) (at a b d next : ℕ) : Type 0 where
  pub numbers : Triple
  pub reads : x ≡ value numbers (drop next s)
  pub first : a ≡ min numbers.first cap
  pub second : b ≡ min numbers.second cap
  pub third : d ≡ min numbers.third cap
  pub on : at < next
  pub within : next ≤ length s

abbrev pub TripleAt : List ℕ → ℕ → Option (Parsed (ℕ × ℕ × ℕ)) → Type 0
TripleAt s at None = triple_line (drop at s) ≡ other
TripleAt s at (Some p) = TripleRead (triple_line (drop at s)) s at p.value.0 p.value.1 p.value.2 p.next

-- Such a line is known to stand at place `at`, with numbers that are not above every limit.
pub record KnownTriple (s : List ℕ) (at : ℕ) : Type 0 where
  pub numbers : Triple
  pub rest : List ℕ
  pub reads : triple_line (drop at s) ≡ value numbers rest
  pub first : numbers.first < cap
  pub second : numbers.second < cap
  pub third : numbers.third < cap
