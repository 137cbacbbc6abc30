-- Document 02, item 6: the record of a run that pauses.
use Rattle.std.specs.Prelude.{Bool, true, false, cond, ◌&&◌, ℕ, eqb, leb, ltb}
use Rattle.rules.specs.Graphs.{Graph, unsatisfied}
use Rattle.rules.specs.Sequence.{State, bit_at}
use Rattle.rules.specs.declared.Report.{Report}
use Rattle.rules.specs.declared.Verdict.{Verdict}
use Rattle.rules.specs.declared.Verdict.TheVariants as Verdicts
use Rattle.pausing.specs.declared.Run.{Run}
use Rattle.pausing.specs.declared.Standing.{Standing}
use Rattle.pausing.specs.declared.Standing.TheVariants.{Open, Codeword, Stopped}

abbrev pub is_open : Standing → Bool
is_open Open = true
is_open Codeword = false
is_open Stopped = false

-- The record of iteration t with k odd checks: finished where the bits are a codeword, or at the limit. 'Halted before a verdict, the record says
-- open.'
abbrev pub record_at : ℕ → ℕ → ℕ → Run
record_at limit t k = record { standing = cond (eqb k 0) Codeword (cond (leb limit t) Stopped Open); iterations = t; unsatisfied = k }

-- The record of a state.
abbrev pub record_of : Graph → ℕ → State → Run
record_of G limit σ = record_at limit σ.iteration (unsatisfied G (bit_at σ.bits))

-- Whether a record can be advanced by k: 'a finished record, one at or past its limit, a count above the limit' cannot.
abbrev pub admits : ℕ → ℕ → Run → Bool
admits limit k p = is_open p.standing && (ltb p.iterations limit && leb k limit)

-- The record of a run that has its report.
abbrev pub standing_of : Verdict → Standing
standing_of Verdicts.Codeword = Codeword
standing_of Verdicts.Stopped = Stopped

abbrev pub reported : Report → Run
reported r = record { standing = standing_of r.verdict; iterations = r.iterations; unsatisfied = r.unsatisfied }
