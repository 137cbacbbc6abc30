-- Document 01: 'Row of a check' and 'Count odd checks of given bits', and what the check of a graph means.
use Rattle.std.specs.Prelude.{◌≡◌, ◌↔◌, List, [], ℕ, ◌*◌, ◌≤◌, eqb, leb, ltb, length, get_or, take, drop, Ok, Err, Result}
use Rattle.rules.specs.Graphs.{Graph, Limits, Wider, limits, program_limits, AdmittedWithin, check_degree, unsatisfied}
use Rattle.refusals.specs.Refusals.{unless, or_else, each, Judged}
use Rattle.refusals.specs.declared.Refusal.TheVariants.{Range, Length, Bit}
use Rattle.words.specs.Roles.{wide, bit_of_byte}
use Rattle.graphs.specs.Judging.{counts_judged, graph_judged, countable, graph_judged_in}
use Rattle.graphs.specs.Degrees.{degrees_in}
use Rattle.refusals.specs.declared.Refusal.{Refusal}

-- Under any limits a graph is refused by none of the five exactly when it is admitted.
abbrev pub JudgedRightly : Type 0
JudgedRightly = (L : Limits) (G : Graph) → (graph_judged L G ≡ Ok tt) ↔ AdmittedWithin L G

-- A graph whose counts are within L is judged alike under wider limits.
abbrev pub WiderAlike : Type 0
WiderAlike = (L M : Limits) → Wider L M → (G : Graph) → counts_judged L G ≡ Ok tt → graph_judged M G ≡ graph_judged L G

-- 'Row of a check: the graph's ..; 3, a check number not below m (that number)', where g is what is found of the graph.
unfoldable pub row_judgement : Judged → Graph → ℕ → Judged
row_judgement g G i = or_else g (unless (ltb i G.checks) (Range i))

-- 'The columns of one check are handed back as that part of the caller's list; where the graph or the check number is refused the
-- part is empty.' A column is `wide` bytes.
abbrev pub part_of : Judged → Graph → List ℕ → ℕ → List ℕ
part_of (Ok _) G columns i = take (wide * check_degree G i) (drop (wide * G.start i) columns)
part_of (Err r) G columns i = []

-- '15, a byte not 0 or 1 (first index).'
unfoldable pub bytes_judged : List ℕ → Judged
bytes_judged bits = each (λ v. unless (leb (get_or bits v 0) 1) (Bit v)) (length bits)

-- 'The graph's ..; 13, other than n bits; 15, a byte not 0 or 1 (first index)', where g is what is found of the graph.
unfoldable pub bits_judged : Judged → Graph → List ℕ → Judged
bits_judged g G bits =
    or_else g
    (or_else (unless (eqb (length bits) G.variables) (Length 0)) (bytes_judged bits))

-- The number of odd checks of given bits, or the refusal.
abbrev pub OddChecks : Type 0
OddChecks = Result ℕ Refusal

-- The count, or the refusal.
abbrev pub odd_answer : Judged → Graph → List ℕ → OddChecks
odd_answer (Ok _) G bits = Ok (unsatisfied G (bit_of_byte bits))
odd_answer (Err r) G bits = Err r

-- ---- the calls, each with the list of degrees before and after

-- What is refused of row i.
pub record JudgesRow (G : Graph) (i : ℕ) (r : Judged) (old now : List ℕ) : Type 0 where
  pub answer : r ≡ row_judgement (graph_judged_in limits G (length old)) G i
  pub degrees : now ≡ degrees_in (countable limits G (length old)) G old

-- Row i, a part of the columns.
pub record GivesRow (G : Graph) (columns : List ℕ) (i : ℕ) (r old now : List ℕ) : Type 0 where
  pub part : r ≡ part_of (row_judgement (graph_judged_in limits G (length old)) G i) G columns i
  pub degrees : now ≡ degrees_in (countable limits G (length old)) G old

-- The odd checks of given bits.
pub record CountsOdd (G : Graph) (bits : List ℕ) (r : OddChecks) (old now : List ℕ) : Type 0 where
  pub answer : r ≡ odd_answer (bits_judged (graph_judged_in limits G (length old)) G bits) G bits
  pub degrees : now ≡ degrees_in (countable limits G (length old)) G old

-- ---- the old limits

-- Document 02, item 9: 'graphs within the old limits ..', with a list of d bytes that 'is long enough'.
pub record Old (G : Graph) (d : ℕ) : Type 0 where
  pub counts : counts_judged program_limits G ≡ Ok tt
  pub enough : 4 * G.variables ≤ d

-- '.. get the same answers as before': before, the five alone were found of a graph, at the old limits.
pub record AsBefore : Type 0 where
  pub check : (G : Graph) (d : ℕ) → Old G d → graph_judged_in limits G d ≡ graph_judged program_limits G
  pub row : (G : Graph) (d i : ℕ) → Old G d → row_judgement (graph_judged_in limits G d) G i ≡ row_judgement (graph_judged program_limits G) G i
  pub bits : (G : Graph) (d : ℕ) (b : List ℕ) → Old G d → bits_judged (graph_judged_in limits G d) G b ≡ bits_judged (graph_judged program_limits G) G b
