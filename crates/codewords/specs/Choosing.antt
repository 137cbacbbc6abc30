-- Document 02, item 3: 'The caller gives variable positions, strictly rising, and a bit for each. The answer is a codeword holding those bits
-- there. Of several it is the one with 0 at the first place where they differ.'
use Rattle.std.specs.Prelude.{◌≡◌, Bool, false, ◌≢◌, ℕ, ◌<◌}
use Rattle.rules.specs.Graphs.{Graph, Codeword}

-- Positions, and a bit for each.
pub record Given : Type 0 where
  pub count : ℕ
  pub position : ℕ → ℕ
  pub bit : ℕ → Bool

-- The word x holds the given bits at their positions.
abbrev pub Holds : Given → (ℕ → Bool) → Type 0
Holds g x = (k : ℕ) → k < g.count → x (g.position k) ≡ g.bit k

-- 'A codeword holding those bits there.'
pub record Fitting (G : Graph) (g : Given) (x : ℕ → Bool) : Type 0 where
  pub codeword : Codeword G x
  pub holds : Holds g x

-- Of the words of n bits in S 'the one with 0 at the first place where they differ': where it differs from another at v, and nowhere below, it has 0.
pub record Least (n : ℕ) (S : (ℕ → Bool) → Type 0) (x : ℕ → Bool) : Type 0 where
  pub member : S x
  pub first : (y : ℕ → Bool) → S y → (v : ℕ) → v < n → ((u : ℕ) → u < v → x u ≡ y u) → x v ≢ y v → x v ≡ false

-- There is only one.
abbrev pub LeastOnly : Type 1
LeastOnly = (n : ℕ) (S : (ℕ → Bool) → Type 0) (x y : ℕ → Bool) → Least n S x → Least n S y → (v : ℕ) → v < n → x v ≡ y v
