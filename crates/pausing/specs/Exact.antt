-- What the parts of begin and advance do.
use Rattle.std.specs.Prelude.{◌≡◌, List, ℕ, length}
use Rattle.rules.specs.Ranges.{tabulate}
use Rattle.rules.specs.Levels.{byte}
use Rattle.rules.specs.Graphs.{Graph, limits}
use Rattle.rules.specs.Sequence.{Scheme, State, begun}
use Rattle.rules.specs.Halting.{resumed}
use Rattle.refusals.specs.Refusals.{unless, or_else, Judged}
use Rattle.refusals.specs.declared.Refusal.TheVariants as Refusals
use Rattle.graphs.specs.Judging.{countable, graph_judged_in}
use Rattle.graphs.specs.Degrees.{degrees_in}
use Rattle.settings.specs.declared.Settings.{Settings}
use Rattle.settings.specs.Settings.{Checked, settings, checked}
use Rattle.steps.specs.Steps.{Holds, rules_under}
use Rattle.decoding.specs.declared.Room.{Room}
use Rattle.decoding.specs.Decoding.{Memory, enough, filled}
use Rattle.decoder.specs.Runs.{levels_under}
use Rattle.pausing.specs.declared.Run.{Run}
use Rattle.pausing.specs.declared.Unscaled.{Unscaled}
use Rattle.pausing.specs.Records.{record_of}
use Rattle.pausing.specs.Pausing.{unscaled_judged, scaled, refilled}

-- What is refused before the record is looked at: the graph's, 8, 9, 16 and 6.
abbrev pub asked_finds : Graph → Unscaled → ℕ → Room → Judged
asked_finds G u d m =
    or_else (graph_judged_in limits G d)
    (or_else (unscaled_judged u) (unless (enough G.variables G.entries m) Refusals.Buffer))

pub record Accepts (G : Graph) (u : Unscaled) (m : Room) (r : Checked) (old now : List ℕ) : Type 0 where
  pub answer : r ≡ checked (asked_finds G u (length old) m) (settings (scaled u))
  pub degrees : now ≡ degrees_in (countable limits G (length old)) G old

-- The record of a frame's iteration 0, and the lists y, q, C, S and b afterwards; then the same in memory that may be longer.
pub record BeginsExactly (s : Settings) (G : Graph) (values : List ℕ) (r : Run) (y q C S b : List ℕ) : Type 0 where
  pub run : r ≡ record_of G s.limit (begun G (rules_under s G (levels_under s values)))
  pub levels : y ≡ tabulate (λ v. byte (levels_under s values v)) G.variables
  pub holds : Holds G (begun G (rules_under s G (levels_under s values))) q C S b

pub record BeginsInto (s : Settings) (G : Graph) (values : List ℕ) (r : Run) (M M' : Memory) : Type 0 where
  pub run : r ≡ record_of G s.limit (begun G (rules_under s G (levels_under s values)))
  pub memory : M' ≡ filled G.variables G.entries (levels_under s values) (begun G (rules_under s G (levels_under s values))) M

-- The record of what k iterations more, at most, make of a state, and the lists; then the same in memory that may be longer.
pub record AdvancesExactly (G : Graph) (R : Scheme) (limit k : ℕ) (σ : State) (r : Run) (q C S b : List ℕ) : Type 0 where
  pub run : r ≡ record_of G limit (resumed G R limit k σ)
  pub holds : Holds G (resumed G R limit k σ) q C S b

pub record AdvancesInto (G : Graph) (R : Scheme) (limit k : ℕ) (σ : State) (r : Run) (M M' : Memory) : Type 0 where
  pub run : r ≡ record_of G limit (resumed G R limit k σ)
  pub memory : M' ≡ refilled G.variables G.entries (resumed G R limit k σ) M
