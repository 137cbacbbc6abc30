-- What the parts of decode do, on memory of exactly the right lengths.
use Rattle.std.specs.Prelude.{◌≡◌, cond, List, ℕ, ◌*◌, ◌/◌, ◌≤◌, eqb, length, Ok}
use Rattle.rules.specs.Ranges.{tabulate}
use Rattle.rules.specs.Levels.{Level, byte, largest}
use Rattle.rules.specs.Graphs.{Graph, Admitted}
use Rattle.rules.specs.Sequence.{Scheme, begun, stop, final, report}
use Rattle.rules.specs.declared.Report.{Report}
use Rattle.rules.specs.declared.Verdict.TheVariants.{Codeword, Stopped}
use Rattle.settings.specs.declared.Settings.{Settings}
use Rattle.settings.specs.Values.{values_judged, channel_level}
use Rattle.settings.specs.Theorems.{Admissible}
use Rattle.nodes.specs.Memory.{level_in}
use Rattle.steps.specs.Steps.{Holds, Sized, rules_under}
use Rattle.decoding.specs.declared.Room.{Room}
use Rattle.decoding.specs.Decoding.{Memory, filled}

-- The report of a run that stops at iteration t with k odd checks.
abbrev pub report_at : ℕ → ℕ → Report
report_at t k = record { verdict = cond (eqb k 0) Codeword Stopped; iterations = t; unsatisfied = k }

-- Memory of exactly the right lengths.
abbrev pub exact : Graph → Room → Type 0
exact G m =
    (m.levels ≡ G.variables) × (m.variable_messages ≡ G.entries) × (m.check_messages ≡ G.entries) × (m.sums ≡ 4 * G.variables) × (m.bits ≡ G.variables)

-- Memory that is long enough.
pub record Long (G : Graph) (M : Memory) : Type 0 where
  pub levels : G.variables ≤ length M.levels
  pub variable_messages : G.entries ≤ length M.variable_messages
  pub check_messages : G.entries ≤ length M.check_messages
  pub sums : 4 * G.variables ≤ length M.sums
  pub bits : G.variables ≤ length M.bits

-- Checked settings, on an admitted graph, with a finite value for each variable.
pub record Ready (s : Settings) (G : Graph) (values : List ℕ) : Type 0 where
  pub settings : Admissible s
  pub admitted : Admitted G
  pub count : length values / 4 ≡ G.variables
  pub finite : values_judged values ≡ Ok tt

-- The channel levels of values under checked settings.
abbrev pub levels_under : Settings → List ℕ → ℕ → Level
levels_under s values v = channel_level (largest s.channel) s.factor values v

-- The lists hold iteration 0 by the rules from the levels in y.
abbrev pub HoldsBegun : Settings → Graph → List ℕ → List ℕ → List ℕ → List ℕ → List ℕ → Type 0
HoldsBegun s G y q C S b = Holds G (begun G (rules_under s G (level_in y))) q C S b

-- Iteration 0 of a frame: the lists y, q, C, S and b afterwards.
pub record BeginsFrom (s : Settings) (G : Graph) (values : List ℕ) (y q C S b : List ℕ) : Type 0 where
  pub levels : y ≡ tabulate (λ v. byte (levels_under s values v)) G.variables
  pub holds : HoldsBegun s G y q C S b

-- Ready for the run: iteration 0 in memory of the right lengths.
pub record Begun (s : Settings) (G : Graph) (y d q C S b : List ℕ) : Type 0 where
  pub settings : Admissible s
  pub sized : Sized G y d q C S b
  pub holds : HoldsBegun s G y q C S b

-- The number of the iteration where the run stops, and the state that the lists then hold.
pub record RunsTo (G : Graph) (R : Scheme) (limit t : ℕ) (q C S b : List ℕ) : Type 0 where
  pub number : t ≡ stop G R limit
  pub holds : Holds G (final G R limit) q C S b

-- What the run of a frame reports, and the lists y, q, C, S and b afterwards.
pub record RunsFrom (s : Settings) (G : Graph) (values : List ℕ) (r : Report) (y q C S b : List ℕ) : Type 0 where
  pub levels : y ≡ tabulate (λ v. byte (levels_under s values v)) G.variables
  pub report : r ≡ report G (rules_under s G (levels_under s values)) s.limit
  pub holds : Holds G (final G (rules_under s G (levels_under s values)) s.limit) q C S b

-- The same in the front of memory that may be longer: M before, M' after.
pub record RunsInto (s : Settings) (G : Graph) (values : List ℕ) (r : Report) (M M' : Memory) : Type 0 where
  pub report : r ≡ report G (rules_under s G (levels_under s values)) s.limit
  pub memory : M' ≡ filled G.variables G.entries (levels_under s values) (final G (rules_under s G (levels_under s values)) s.limit) M
