-- Document 01, 'Trial values': the ★ cases of variable nodes, and the whole example with its variants, as one table, with the trial of
-- document 02, item 1. A check node and two ties stand there too, since neither 'the recipient's own message counted in a check's least' nor
-- 'a tied sum sent to bit 0' shows in the others; and variables with lifting before L, never, and with messages that are not of magnitude Nq.
use Rattle.std.specs.Prelude.{Bool, true, false, ◌&&◌, List, [], ◌∷◌, map, ℕ, suc, ◌-◌, eqb, length, get_or, ℤ, negsuc}
use Rattle.std.specs.Int.Signed.{le_z}
use Rattle.rules.specs.Tables.{AllPass, same_list}
use Rattle.rules.specs.Ranges.{one, tabulate}
use Rattle.rules.specs.Levels.{Level, byte}
use Rattle.rules.specs.Graphs.{Graph}
use Rattle.rules.specs.Nodes.{Offsets, Lifting, never, from_check, posterior, bit_of, outgoing_sum, from_variable}
use Rattle.rules.specs.Sequence.{Scheme, sign_preserving, level_at, final, report}
use Rattle.rules.specs.declared.Report.{Report}
use Rattle.rules.specs.declared.Verdict.{Verdict}
use Rattle.rules.specs.declared.Verdict.TheVariants.{Codeword, Stopped}

abbrev pub plus : ℕ → Level
plus n = record { minus = false; magnitude = n }

abbrev pub minus : ℕ → Level
minus n = record { minus = true; magnitude = n }

-- Offsets 1, 1, 0.
abbrev pub offsets : Offsets
offsets = record { phi_s = 1; phi_a = 1; phi_0 = 0 }

-- L and W.
abbrev pub lifting : ℕ → ℕ → Lifting
lifting from to = record { from = from; to = to }

pub data Trial : Type 0 where
  -- a variable of this level, with these others, has the outgoing sum U
  sums : Level → List Level → ℤ → Trial
  -- it sends this message (Nq 3)
  sends : Level → List Level → Level → Trial
  -- under this lifting, in this iteration, it sends this message (Nq 1)
  sends_in : Lifting → ℕ → Level → List Level → Level → Trial
  -- a variable of this level that takes in these messages has this bit
  decides : Level → List Level → Bool → Trial
  -- a check that takes in these messages sends these back
  answers : List Level → List Level → Trial
  -- the example's graph with these levels and this limit (Nq 3, nothing lifted): verdict, iterations, unsatisfied checks, bits
  runs : List Level → ℕ → Verdict → ℕ → ℕ → List Bool → Trial

-- One variable with as many entries as levels come in; entry 0 is the recipient's.
unfoldable pub star : ℕ → Graph
star d = record { variables = 1; checks = 1; entries = d; start = λ i. 0; column = λ e. 0 }

-- One check with as many entries as levels come in.
unfoldable pub fan : ℕ → Graph
fan d = record { variables = d; checks = 1; entries = d; start = λ i. get_or (0 ∷ d ∷ []) i 0; column = λ e. e }

-- Sheet lines `0 0`, `0 1`, `1 1`, `1 2`.
unfoldable pub example : Graph
example = record { variables = 3; checks = 2; entries = 4; start = λ i. get_or (0 ∷ 2 ∷ 4 ∷ []) i 0; column = λ e. get_or (0 ∷ 1 ∷ 1 ∷ 2 ∷ []) e 0 }

unfoldable pub trials : List Trial
trials =
    sums (plus 3) (minus 1 ∷ minus 2 ∷ []) (negsuc 0)
    ∷ sends (plus 3) (minus 1 ∷ minus 2 ∷ []) (minus 0)
    ∷ sends (plus 1) (minus 1 ∷ []) (minus 0)
    ∷ sums (minus 0) (plus 0 ∷ plus 0 ∷ minus 0 ∷ []) (negsuc 0)
    ∷ sends (plus 3) (plus 0 ∷ plus 0 ∷ []) (plus 3)
    ∷ sends (plus 3) (plus 0 ∷ minus 0 ∷ []) (plus 2)
    ∷ sends (plus 1) (plus 0 ∷ minus 0 ∷ []) (plus 1)
    ∷ sends_in (lifting 1 2) 1 (minus 3) (plus 1 ∷ plus 1 ∷ []) (plus 0)
    ∷ sends_in (lifting 2 2) 1 (minus 3) (plus 1 ∷ plus 1 ∷ []) (minus 0)
    ∷ sends_in (lifting never 2) 256 (minus 3) (plus 1 ∷ plus 1 ∷ []) (minus 0)
    ∷ sends_in (lifting 1 2) 1 (minus 3) (plus 1 ∷ plus 0 ∷ []) (minus 0)
    ∷ sends_in (lifting 1 2) 1 (minus 7) (plus 3 ∷ plus 3 ∷ []) (minus 0)
    ∷ decides (minus 1) (plus 0 ∷ plus 0 ∷ []) true
    ∷ decides (plus 1) (minus 0 ∷ minus 0 ∷ []) false
    ∷ answers (plus 0 ∷ minus 2 ∷ plus 3 ∷ []) (minus 2 ∷ plus 0 ∷ minus 0 ∷ [])
    ∷ runs (plus 2 ∷ minus 0 ∷ plus 1 ∷ []) 5 Codeword 1 0 (false ∷ false ∷ false ∷ [])
    ∷ runs (minus 2 ∷ plus 0 ∷ minus 1 ∷ []) 5 Codeword 1 0 (true ∷ true ∷ true ∷ [])
    ∷ runs (plus 2 ∷ minus 0 ∷ plus 1 ∷ []) 0 Stopped 0 2 (false ∷ true ∷ false ∷ [])
    ∷ runs (plus 0 ∷ plus 0 ∷ plus 0 ∷ []) 5 Codeword 0 0 (false ∷ false ∷ false ∷ [])
    ∷ []

-- ---- the test

abbrev pub same_sum : ℤ → ℤ → Bool
same_sum a b = le_z a b && le_z b a

-- A verdict as a number, and bits as numbers.
abbrev pub verdict_number : Verdict → ℕ
verdict_number Codeword = 0
verdict_number Stopped = 1

abbrev pub bit_numbers : List Bool → List ℕ
bit_numbers l = map one l

-- The message of entry k + 1 is that of the k-th other.
abbrev pub incoming : List Level → ℕ → Level
incoming l k = level_at l (k - 1)

unfoldable pub passes : Trial → Bool
passes (sums y l U) = same_sum (outgoing_sum (star (suc (length l))) (λ v. y) (incoming l) 0) U
passes (sends y l m) = eqb (byte (from_variable (star (suc (length l))) 3 offsets (λ v. y) (incoming l) 0)) (byte m)
passes (sends_in Λ t y l m) = eqb (byte ((sign_preserving (star (suc (length l))) 1 offsets Λ (λ v. y)).variable t (incoming l) 0)) (byte m)
passes (decides y l b) = eqb (one (bit_of (posterior (star (length l)) (λ v. y) (level_at l) 0) y.minus)) (one b)
passes (answers q C) = same_list (tabulate (λ e. byte (from_check (fan (length q)) (level_at q) e)) (length q)) (map byte C)
passes (runs y limit verdict t u b) =
    let R : Scheme = sign_preserving example 3 offsets (lifting never 15) (level_at y) in
    let r : Report = report example R limit in
    same_list (verdict_number r.verdict ∷ r.iterations ∷ r.unsatisfied ∷ bit_numbers (final example R limit).bits)
    (verdict_number verdict ∷ t ∷ u ∷ bit_numbers b)

abbrev pub TrialsPass : Type 0
TrialsPass = AllPass passes trials
