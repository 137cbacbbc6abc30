-- Document 01, 'Graph': the parity-check graph, and codewords.
use Rattle.std.specs.Prelude.{◌≡◌, Bool, false, ◌&&◌, ℕ, suc, ◌+◌, ◌-◌, ◌≤◌, ◌<◌, eqb, leb, ltb}
use Rattle.std.specs.Bool.{xor}
use Rattle.rules.specs.Ranges.{fold, count, first}

-- 'Variables are numbered 0 to n-1, checks 0 to m-1. Two .. lists hold the graph: m+1 row starts, and E columns in check order.'
pub record Graph : Type 0 where
  pub variables : ℕ  -- n
  pub checks : ℕ  -- m
  pub entries : ℕ  -- E
  pub start : ℕ → ℕ
  pub column : ℕ → ℕ

-- How many entries check i has.
abbrev pub check_degree : Graph → ℕ → ℕ
check_degree G i = G.start (suc i) - G.start i

-- How many entries variable v has.
unfoldable pub variable_degree : Graph → ℕ → ℕ
variable_degree G v = count (λ e. eqb (G.column e) v) 0 G.entries

-- The check that entry e belongs to: the first whose row ends after e.
unfoldable pub check_of : Graph → ℕ → ℕ
check_of G e = first (λ i. ltb e (G.start (suc i))) 0 G.checks

-- The largest numbers that a graph may have.
pub record Limits : Type 0 where
  pub variables : ℕ
  pub checks : ℕ
  pub entries : ℕ
  pub check_degree : ℕ
  pub variable_degree : ℕ

-- Document 02, item 9: 'admit n and m to 1,000,000 and E to 4,000,000 in lent graphs and in sheets'; 'check degree 2 to 64; variable degree 1 to 32'
-- as before.
abbrev pub limits : Limits
limits = record { variables = 1_000_000; checks = 1_000_000; entries = 4_000_000; check_degree = 64; variable_degree = 32 }

-- 'The program keeps .. the old limits': 'n from 2 to 8,192; m from 1 to 8,192; E at most 32,768'.
abbrev pub program_limits : Limits
program_limits = record { variables = 8192; checks = 8192; entries = 32768; check_degree = 64; variable_degree = 32 }

-- The least numbers, which are the same under any limits.
abbrev pub fewest_variables : ℕ
fewest_variables = 2

abbrev pub fewest_checks : ℕ
fewest_checks = 1

abbrev pub least_check_degree : ℕ
least_check_degree = 2

abbrev pub least_variable_degree : ℕ
least_variable_degree = 1

-- Whether x lies within its limits.
abbrev pub between : ℕ → ℕ → ℕ → Bool
between low x high = leb low x && leb x high

-- A graph within limits L, with starts that begin at 0 and end at E, columns below n, and 'each row's columns strictly rising'.
pub record AdmittedWithin (L : Limits) (G : Graph) : Type 0 where
  pub variables : (fewest_variables ≤ G.variables) × (G.variables ≤ L.variables)
  pub checks : (fewest_checks ≤ G.checks) × (G.checks ≤ L.checks)
  pub entries : G.entries ≤ L.entries
  pub begins : G.start 0 ≡ 0
  pub ends : G.start G.checks ≡ G.entries
  pub within : (e : ℕ) → e < G.entries → G.column e < G.variables
  pub rising : (i e : ℕ) → i < G.checks → G.start i ≤ e → suc e < G.start (suc i) → G.column e < G.column (suc e)
  pub check_degrees : (i : ℕ) → i < G.checks → (G.start i + least_check_degree ≤ G.start (suc i)) × (G.start (suc i) ≤ G.start i + L.check_degree)
  pub variable_degrees : (v : ℕ) → v < G.variables → (least_variable_degree ≤ variable_degree G v) × (variable_degree G v ≤ L.variable_degree)

-- Limits M allow larger counts than L, and the same degrees.
pub record Wider (L M : Limits) : Type 0 where
  pub variables : L.variables ≤ M.variables
  pub checks : L.checks ≤ M.checks
  pub entries : L.entries ≤ M.entries
  pub check_degree : M.check_degree ≡ L.check_degree
  pub variable_degree : M.variable_degree ≡ L.variable_degree

-- Admitted in a lent graph or a sheet.
abbrev pub Admitted : Graph → Type 0
Admitted G = AdmittedWithin limits G

-- What check nodes need of a graph: starts that make rows of at least two entries, from 0 to E. An admitted graph has them.
pub record Rowed (G : Graph) : Type 0 where
  pub begins : G.start 0 ≡ 0
  pub ends : G.start G.checks ≡ G.entries
  pub rises : (i : ℕ) → i < G.checks → G.start i + 2 ≤ G.start (suc i)

-- Whether check i has an odd number of ones among the bits b.
unfoldable pub odd_check : Graph → (ℕ → Bool) → ℕ → Bool
odd_check G b i = fold xor false (λ e. b (G.column e)) (G.start i) (check_degree G i)

-- 'A list of n bits is a codeword when every check has an even number of ones.'
abbrev pub Codeword : Graph → (ℕ → Bool) → Type 0
Codeword G b = (i : ℕ) → i < G.checks → odd_check G b i ≡ false

-- 'The unsatisfied checks are how many checks have an odd number of ones.'
unfoldable pub unsatisfied : Graph → (ℕ → Bool) → ℕ
unsatisfied G b = count (odd_check G b) 0 G.checks
