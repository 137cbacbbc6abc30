-- What the parts of decoding a pair do.
use Rattle.std.specs.Prelude.{◌≡◌, cond, List, ℕ, ◌-◌}
use Rattle.rules.specs.Graphs.{Graph}
use Rattle.rules.specs.Sequence.{Scheme, stop, final, report}
use Rattle.rules.specs.Halting.{halted}
use Rattle.rules.specs.declared.Report.{Report}
use Rattle.rules.specs.declared.Verdict.{Verdict}
use Rattle.rules.specs.declared.Verdict.TheVariants as Verdicts
use Rattle.settings.specs.declared.Settings.{Settings}
use Rattle.steps.specs.Steps.{rules_under}
use Rattle.decoding.specs.Decoding.{Memory, filled}
use Rattle.decoder.specs.Runs.{levels_under}
use Rattle.pausing.specs.declared.Run.{Run}
use Rattle.pausing.specs.declared.Standing.{Standing}
use Rattle.pausing.specs.declared.Standing.TheVariants.{Open, Codeword, Stopped}
use Rattle.pausing.specs.Records.{is_open, record_of}
use Rattle.decoding.specs.Pairing.Grants.{grant}

-- The rules of a frame under checked settings.
abbrev pub rules_of : Settings → Graph → List ℕ → Scheme
rules_of s G values = rules_under s G (levels_under s values)

-- A frame's run is halted at k, with the record r; the memory, M before, is M'.
pub record HaltsAt (s : Settings) (G : Graph) (values : List ℕ) (k : ℕ) (r : Run) (M M' : Memory) : Type 0 where
  pub run : r ≡ record_of G s.limit (halted G (rules_of s G values) s.limit k)
  pub memory : M' ≡ filled G.variables G.entries (levels_under s values) (halted G (rules_of s G values) s.limit k) M

-- What the other head, halted at its own half with the record r, left of the allowance T beyond this head's half: all that it did not take, once it has
-- finished.
abbrev pub left_by : ℕ → ℕ → Run → ℕ
left_by T half r = cond (is_open r.standing) 0 (T - half - r.iterations)

-- 'A head cut short reports stopped.'
abbrev pub verdict_of : Standing → Verdict
verdict_of Codeword = Verdicts.Codeword
verdict_of Stopped = Verdicts.Stopped
verdict_of Open = Verdicts.Stopped

abbrev pub report_of : Run → Report
report_of r = record { verdict = verdict_of r.standing; iterations = r.iterations; unsatisfied = r.unsatisfied }

-- A head's run under its grant: its report r, and the memory, M before and M' after; `other` is what the other head takes alone.
pub record RunsGranted (s : Settings) (G : Graph) (values : List ℕ) (half T other : ℕ) (r : Report) (M M' : Memory) : Type 0 where
  pub report : r ≡ report G (rules_of s G values) (grant half T (stop G (rules_of s G values) s.limit) other)
  pub memory : M' ≡ filled G.variables G.entries (levels_under s values) (final G (rules_of s G values) (grant half T (stop G (rules_of s G values) s.limit) other)) M
