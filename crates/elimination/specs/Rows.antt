-- Rows in bytes: 'm times (n / 8 rounded down, plus 1) bytes'. Row i begins at byte i times that width; bit v of a row that begins at byte b is
-- bit v % 8 of byte b + v / 8.
use Rattle.std.specs.Prelude.{◌≡◌, Bool, false, ◌≢◌, ◌⊎◌, List, ℕ, ◌+◌, ◌*◌, ◌/◌, ◌%◌, ◌^◌, ◌≤◌, ◌<◌, eqb, length, get_or, set}
use Rattle.std.specs.Bool.{xor}
use Rattle.std.specs.Int.Bits.{bit_xor}

abbrev pub width : ℕ → ℕ
width n = n / 8 + 1

-- Room for a row of 2,048 variables.
abbrev pub widest : ℕ
widest = 257

-- Bit k of the byte x.
unfoldable pub digit : ℕ → ℕ → Bool
digit x k = eqb (x / 2 ^ k % 2) 1

unfoldable pub bit_in : List ℕ → ℕ → ℕ → Bool
bit_in l b v = digit (get_or l (b + v / 8) 0) (v % 8)

-- The rows of n variables that the bytes hold.
abbrev pub rows_in : ℕ → List ℕ → ℕ → ℕ → Bool
rows_in n l i v = bit_in l (width n * i) v

-- Bit v of the row at byte b changed.
unfoldable pub flipped : List ℕ → ℕ → ℕ → List ℕ
flipped l b v = set l (b + v / 8) (bit_xor (get_or l (b + v / 8) 0) (2 ^ (v % 8)))

-- A row by itself.
unfoldable pub row_in : List ℕ → ℕ → Bool
row_in l v = digit (get_or l (v / 8) 0) (v % 8)

-- It is row i.
abbrev pub Copied : ℕ → ℕ → List ℕ → List ℕ → Type 0
Copied n i row l = (u : ℕ) → u ≤ n → row_in row u ≡ rows_in n l i u

-- It has no variable above h.
abbrev pub Below : ℕ → ℕ → List ℕ → Type 0
Below n h row = (u : ℕ) → h < u → u < n → row_in row u ≡ false

-- The first t bytes of a row added to those from byte b on.
pub record Added (row : List ℕ) (b t : ℕ) (old new : List ℕ) : Type 0 where
  pub long : length new ≡ length old
  pub inside : (s : ℕ) → s < t → get_or new (b + s) 0 ≡ bit_xor (get_or old (b + s) 0) (get_or row s 0)
  pub outside : (k : ℕ) → (k < b) ⊎ (b + t ≤ k) → get_or new k 0 ≡ get_or old k 0

-- Row j changed into r, and no other.
pub record Turned (n j : ℕ) (r : ℕ → Bool) (old new : List ℕ) : Type 0 where
  pub long : length new ≡ length old
  pub own : (u : ℕ) → u ≤ n → rows_in n new j u ≡ r u
  pub others : (k u : ℕ) → k ≢ j → u ≤ n → rows_in n new k u ≡ rows_in n old k u

-- A row added to row j.
abbrev pub Summed : ℕ → ℕ → List ℕ → List ℕ → List ℕ → Type 0
Summed n j row old new = Turned n j (λ u. xor (rows_in n old j u) (row_in row u)) old new

-- The rows below j changed into those of F, and no other.
pub record Done (n j : ℕ) (F : ℕ → ℕ → Bool) (old new : List ℕ) : Type 0 where
  pub long : length new ≡ length old
  pub below : (k u : ℕ) → k < j → u ≤ n → rows_in n new k u ≡ F k u
  pub above : (k u : ℕ) → j ≤ k → u ≤ n → rows_in n new k u ≡ rows_in n old k u
