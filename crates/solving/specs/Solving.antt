-- What the steps of the solution say to each other.
use Rattle.std.specs.Prelude.{◌≡◌, Bool, true, false, cond, ◌↔◌, List, ℕ, suc, ◌-◌, ◌≤◌, ◌<◌, eqb, length, get_or, set}
use Rattle.std.specs.Bool.{xor}
use Rattle.rules.specs.Ranges.{fold, tabulate}
use Rattle.rules.specs.Graphs.{Graph, Codeword, check_degree}
use Rattle.words.specs.Roles.{bit_of_byte}
use Rattle.elimination.specs.Systems.{broken, Solves, Reduced}
use Rattle.elimination.specs.Rows.{rows_in}
use Rattle.elimination.specs.Eliminating.{Absent}
use Rattle.codewords.specs.Choosing.{Given, Holds, Fitting, Least}

-- Only bits.
abbrev pub Bits : List ℕ → Type 0
Bits l = (k : ℕ) → get_or l k 0 ≤ 1

-- Only zeros.
abbrev pub Zeros : List ℕ → Type 0
Zeros l = (k : ℕ) → get_or l k 0 ≡ 0

-- The bits below v settle bit v.
abbrev pub Forced : ((ℕ → Bool) → Type 0) → ℕ → Type 0
Forced S v = (y z : ℕ → Bool) → S y → S z → ((u : ℕ) → u < v → y u ≡ z u) → y v ≡ z v

-- The first k given bits.
abbrev pub upto : ℕ → Given → Given
upto k g = record { count = k; position = g.position; bit = g.bit }

-- 'Variable positions, strictly rising.'
pub record Rising (n : ℕ) (g : Given) : Type 0 where
  pub within : (k : ℕ) → k < g.count → g.position k < n
  pub rising : (k : ℕ) → suc k < g.count → g.position k < g.position (suc k)

-- Two byte lists that give bits.
pub record Gives (n : ℕ) (g : Given) (given : List ℕ) : Type 0 where
  pub rising : Rising n g
  pub many : g.count ≤ length given
  pub bits : Bits given

-- The rows R say, of words that hold what is given, whether they are codewords; and no given variable is in them.
pub record Means (G : Graph) (g : Given) (m n : ℕ) (R : ℕ → ℕ → Bool) : Type 0 where
  pub says : (x : ℕ → Bool) → Holds g x → Codeword G x ↔ Solves m n R x
  pub clear : (k : ℕ) → k < g.count → Absent m R (g.position k)

-- The word x after the rows below i: it solves these rows, its ones are in no later row, and each one is forced.
pub record Filling (S : (ℕ → Bool) → Type 0) (g : Given) (m n i : ℕ) (R : ℕ → ℕ → Bool) (x : ℕ → Bool) : Type 0 where
  pub done : (k : ℕ) → k < i → broken n (R k) x ≡ false
  pub later : (k v : ℕ) → i ≤ k → k < m → v < n → x v ≡ true → R k v ≡ false
  pub ones : (v : ℕ) → v < n → x v ≡ true → Forced S v
  pub holds : Holds g x

-- The entries from a on to before a + t, as a row: variable u as often as it stands there, modulo 2.
unfoldable pub entries_row : (ℕ → ℕ) → ℕ → ℕ → ℕ → Bool
entries_row column a t u = fold xor false (λ e. eqb u (column e)) a t

-- The rows of the checks.
abbrev pub check_rows : Graph → ℕ → ℕ → Bool
check_rows G j = entries_row G.column (G.start j) (check_degree G j)

-- The first k given bits are put for their variables.
pub record Replaced (m n k : ℕ) (g : Given) (old new : List ℕ) : Type 0 where
  pub long : length new ≡ length old
  pub means : (G : Graph) → Means G (upto 0 g) m n (rows_in n old) → Means G (upto k g) m n (rows_in n new)

-- The rows are done and mean the codewords that hold the given bits, if r; else there is none.
pub record Prepared (G : Graph) (g : Given) (m n : ℕ) (r : Bool) (old new : List ℕ) : Type 0 where
  pub long : length new ≡ length old
  pub reduced : r ≡ true → Reduced m n m (rows_in n new)
  pub means : Means G g m n (rows_in n new)
  pub none : r ≡ false → (x : ℕ → Bool) → Fitting G g x → ⊥

-- The first k given bits stand in a list of zeros.
pub record Begun (n k : ℕ) (g : Given) (old new : List ℕ) : Type 0 where
  pub long : length new ≡ length old
  pub bits : Bits new
  pub fills : (G : Graph) (m : ℕ) (R : ℕ → ℕ → Bool) → Means G g m n R → Filling (Fitting G g) (upto k g) m n 0 R (bit_of_byte new)

-- 1 below place t, if b.
unfoldable pub one_put : Bool → ℕ → List ℕ → List ℕ
one_put b t l = cond b (set l (t - 1) 1) l

-- The ones of the first k rows are put in.
pub record Put (m n k : ℕ) (R : ℕ → ℕ → Bool) (old new : List ℕ) : Type 0 where
  pub long : length new ≡ length old
  pub bits : Bits old → Bits new
  pub fills : (G : Graph) (g : Given) → Means G g m n R → Filling (Fitting G g) g m n 0 R (bit_of_byte old) → Filling (Fitting G g) g m n k R (bit_of_byte new)

-- The codeword's bytes.
pub record Written (G : Graph) (g : Given) (n : ℕ) (old new : List ℕ) : Type 0 where
  pub long : length new ≡ length old
  pub bits : Bits new
  pub least : Least n (Fitting G g) (bit_of_byte new)

-- What comes back: the least codeword that holds the given bits; or false, where there is none, and the codeword's bytes as they were. The work bytes
-- are all 0.
pub record Solved (G : Graph) (g : Given) (n : ℕ) (r : Bool) (old new work work' : List ℕ) : Type 0 where
  pub found : r ≡ true → Written G g n old new
  pub none : r ≡ false → ((x : ℕ → Bool) → Fitting G g x → ⊥) × (new ≡ old)
  pub cleared : work' ≡ tabulate (λ k. 0) (length work)
