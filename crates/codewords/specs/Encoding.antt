-- Document 02, item 3: the whole call, what it refuses, what it answers, and every lent byte afterwards.
use Rattle.std.specs.Prelude.{◌≡◌, Bool, ◌&&◌, ◌||◌, List, ◌++◌, ℕ, ◌+◌, ◌-◌, ◌*◌, ◌/◌, eqb, leb, ltb, length, drop, Ok, Err}
use Rattle.rules.specs.Ranges.{one, tabulate}
use Rattle.rules.specs.Graphs.{Graph, Limits, limits}
use Rattle.refusals.specs.Refusals.{unless, or_else, each, Judged}
use Rattle.refusals.specs.declared.Refusal.{Refusal}
use Rattle.refusals.specs.declared.Refusal.TheVariants.{Buffer, Positions, NoCodeword}
use Rattle.words.specs.Roles.{position_at, bit_of_byte}
use Rattle.graphs.specs.Judging.{countable, graph_judged_in}
use Rattle.graphs.specs.Degrees.{degrees_in}
use Rattle.graphs.specs.Calls.{bytes_judged}
use Rattle.codewords.specs.Choosing.{Given, Fitting, Least}

-- ---- what is refused

-- 'This serves graphs of at most 2,048 variables and 512 checks. Larger graphs get 2.'
abbrev pub encoder_limits : Limits
encoder_limits = record {
  variables = 2048;
  checks = 512;
  entries = limits.entries;
  check_degree = limits.check_degree;
  variable_degree = limits.variable_degree;
}

-- Position k is below n and above the one before.
abbrev pub position_fits : ℕ → (ℕ → ℕ) → ℕ → Bool
position_fits n p k = ltb (p k) n && (eqb k 0 || ltb (p (k - 1)) (p k))

unfoldable pub positions_judged : ℕ → List ℕ → Judged
positions_judged n positions = each (λ k. unless (position_fits n (position_at positions) k) Positions) (length positions / 2)

-- 'Positions out of order or range or unequal lists with 18 .., then 15': a given byte not 0 or 1 (first index).
unfoldable pub given_judged : ℕ → List ℕ → List ℕ → Judged
given_judged n positions given =
    or_else (unless (eqb (length positions / 2) (length given)) Positions) (or_else (positions_judged n positions) (bytes_judged given))

-- The graph's refusals, where a list of d bytes is lent for the degrees; then those of what is given.
unfoldable pub input_judged : Graph → List ℕ → List ℕ → ℕ → Judged
input_judged G positions given d = or_else (graph_judged_in encoder_limits G d) (given_judged G.variables positions given)

-- 'm times (n / 8 rounded down, plus 1) bytes to work in'
abbrev pub work_bytes : Graph → ℕ
work_bytes G = (G.variables / 8 + 1) * G.checks

-- 'The caller lends n bytes for the answer and .. to work in; less gets 6': c bytes and w bytes are lent.
unfoldable pub room_judged : Graph → ℕ → ℕ → Judged
room_judged G c w = or_else (unless (leb G.variables c) Buffer) (unless (leb (work_bytes G) w) Buffer)

-- All that is refused before a codeword is looked for.
unfoldable pub encode_judged : Graph → List ℕ → List ℕ → ℕ → ℕ → ℕ → Judged
encode_judged G positions given d c w = or_else (input_judged G positions given d) (room_judged G c w)

-- ---- what is answered

-- The given bits that two byte lists hold.
abbrev pub given_of : List ℕ → List ℕ → Given
given_of positions given = record { count = length positions / 2; position = position_at positions; bit = bit_of_byte given }

-- A codeword: it is the least that holds the given bits, and stands in the first n of the lent bytes, c before and c' after.
pub record Found (G : Graph) (g : Given) (c c' : List ℕ) : Type 0 where
  pub codeword : ℕ → Bool
  pub least : Least G.variables (Fitting G g) codeword
  pub written : c' ≡ tabulate (λ v. one (codeword v)) G.variables ++ drop G.variables c

-- '19 exactly when no codeword holds the given bits', which 'leaves the answer bytes unchanged'.
pub record NoneFits (G : Graph) (g : Given) (c c' : List ℕ) : Type 0 where
  pub none : (x : ℕ → Bool) → Fitting G g x → ⊥
  pub kept : c' ≡ c

abbrev pub Answers : Judged → Graph → Given → List ℕ → List ℕ → Type 0
Answers (Ok _) G g c c' = Found G g c c'
Answers (Err q) G g c c' = (q ≡ NoCodeword) × NoneFits G g c c'

-- 'The work bytes are all 0 after a codeword or .. after a 19': those that are asked for, and bytes past them do not change.
abbrev pub worked_in : Graph → List ℕ → List ℕ
worked_in G w = tabulate (λ k. 0) (work_bytes G) ++ drop (work_bytes G) w

-- ---- the calls

-- What is refused of the input, and the list of degrees, d before and d' after.
pub record JudgesInput (G : Graph) (positions given : List ℕ) (r : Judged) (d d' : List ℕ) : Type 0 where
  pub answer : r ≡ input_judged G positions given (length d)
  pub degrees : d' ≡ degrees_in (countable encoder_limits G (length d)) G d

-- The answer r, the list of degrees, the codeword and the work bytes, before and after.
pub record Encodes (G : Graph) (positions given : List ℕ) (r : Judged) (d d' c c' w w' : List ℕ) : Type 0 where
  pub degrees : d' ≡ degrees_in (countable encoder_limits G (length d)) G d
  pub refused : (q : Refusal) → encode_judged G positions given (length d) (length c) (length w) ≡ Err q
      → (r ≡ Err q) × (c' ≡ c) × (w' ≡ w)
  pub accepted : encode_judged G positions given (length d) (length c) (length w) ≡ Ok tt → Answers r G (given_of positions given) c c' × (w' ≡ worked_in G w)
