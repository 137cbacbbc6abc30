-- What the steps of a run do, and its iterations from one halt to the next, on memory of exactly the right lengths.
use Rattle.std.specs.Prelude.{◌≡◌, List, map, ℕ, ◌*◌, ◌/◌, ◌≤◌, ◌<◌, Float, ℤ, pos, ◌+ℤ◌, ◌-ℤ◌, length, get_or}
use Rattle.rules.specs.Ranges.{fold, one, tabulate}
use Rattle.rules.specs.Levels.{Level, byte, largest}
use Rattle.rules.specs.Graphs.{Graph, Admitted, variable_degree}
use Rattle.rules.specs.Nodes.{Offsets, Lifting, first_message, first_bit, from_check, counted, contribution, channel_part, bit_of, outgoing}
use Rattle.rules.specs.Sequence.{Scheme, State, sign_preserving, level_at}
use Rattle.rules.specs.Halting.{resumed}
use Rattle.words.specs.Roles.{wide, degree_at, sum_table}
use Rattle.settings.specs.declared.Settings.{Settings}
use Rattle.settings.specs.Values.{channel_level}
use Rattle.nodes.specs.Memory.{level_in, on_columns}
use Rattle.nodes.specs.Lists.{up_to, part_in, share_in}

-- The lists q, C, S and b hold the state σ, in bytes.
pub record Holds (G : Graph) (σ : State) (q C S b : List ℕ) : Type 0 where
  pub variable_messages : q ≡ map byte σ.variable_messages
  pub check_messages : C ≡ map byte σ.check_messages
  pub sums : S ≡ sum_table (λ v. get_or σ.sums v (pos 0)) G.variables
  pub bits : b ≡ map one σ.bits

-- A list of bytes that holds the degree of each variable.
pub record Degrees (G : Graph) (d : List ℕ) : Type 0 where
  pub degrees : (v : ℕ) → v < G.variables → degree_at d v ≡ variable_degree G v
  pub enough : 4 * G.variables ≤ length d

-- Levels y, degrees d, check messages C and sums S of exactly the right lengths for the sums of G.
pub record Summed (G : Graph) (y d C S : List ℕ) : Type 0 where
  pub admitted : Admitted G
  pub levels : length y ≡ G.variables
  pub counted : Degrees G d
  pub check_messages : length C ≡ G.entries
  pub sums : length S ≡ 4 * G.variables

-- And variable messages q and bits b: all lists of an iteration.
pub record Sized (G : Graph) (y d q C S b : List ℕ) : Type 0 where
  pub summed : Summed G y d C S
  pub variable_messages : length q ≡ G.entries
  pub bits : length b ≡ G.variables

-- The posterior sum of variable v by a list of parts for the bytes of the check messages C.
abbrev pub sum_by : Graph → (ℕ → Level) → List ℤ → List ℕ → ℕ → ℤ
sum_by G y parts C v = channel_part G y v +ℤ fold ◌+ℤ◌ (pos 0) (share_in G.column (part_in parts C) v) 0 G.entries

-- The list of all these sums.
abbrev pub sums_by : Graph → (ℕ → Level) → List ℤ → List ℕ → List ℕ
sums_by G y parts C = sum_table (sum_by G y parts C) G.variables

-- C, S and b are what an iteration makes of the channel levels y and the variable messages q, by a list of parts.
pub record Iterates (G : Graph) (y q : ℕ → Level) (parts : List ℤ) (C S b : List ℕ) : Type 0 where
  pub check_messages : C ≡ tabulate (λ e. byte (from_check G q e)) G.entries
  pub sums : S ≡ sums_by G y parts C
  pub bits : b ≡ tabulate (λ v. one (bit_of (sum_by G y parts C v) (y v).minus)) G.variables

-- What iteration 0 makes of the values; E and s are the lengths of the lists of check messages and of sums.
pub record Begins (values : List ℕ) (factor : Float) (Nch Nq : ℕ) (columns : List ℕ) (E s : ℕ) (y q C S b : List ℕ) : Type 0 where
  pub levels : y ≡ tabulate (λ v. byte (channel_level Nch factor values v)) (length values / 4)
  pub variable_messages : q ≡ tabulate (λ e. byte (first_message (on_columns columns) Nq (level_in y) e)) (length columns / wide)
  pub check_messages : C ≡ tabulate (λ k. 0) E
  pub sums : S ≡ tabulate (λ k. 0) s
  pub bits : b ≡ tabulate (λ v. one (first_bit (level_in y) v)) (length y)

-- The rules of a run under checked settings, from the channel levels y.
abbrev pub offsets_in : Settings → Offsets
offsets_in s = record { phi_s = s.phi_s; phi_a = s.phi_a; phi_0 = s.phi_0 }

abbrev pub lifting_in : Settings → Lifting
lifting_in s = record { from = s.lift_from; to = s.lift_to }

abbrev pub rules_under : Settings → Graph → (ℕ → Level) → Scheme
rules_under s G y = sign_preserving G (largest s.message) (offsets_in s) (lifting_in s) y

-- The list of parts of iteration t: the contribution of every message of magnitude up to Nq, as it counts there.
abbrev pub parts_in : ℕ → Lifting → ℕ → List ℤ
parts_in Nq Λ t = tabulate (up_to Nq (λ l. contribution 1 (counted Nq Λ t l))) 256

abbrev pub parts_under : Settings → ℕ → List ℤ
parts_under s t = parts_in (largest s.message) (lifting_in s) t

-- The list of messages: those of the outgoing sums from -17 to 17.
abbrev pub messages_in : ℕ → Offsets → List ℕ
messages_in Nq φ = tabulate (λ k. byte (outgoing Nq φ (pos k -ℤ pos 17))) 35

abbrev pub messages_under : Settings → List ℕ
messages_under s = messages_in (largest s.message) (offsets_in s)

-- It is made after k iterations, from 1 on.
pub record MadeBy (s : Settings) (k : ℕ) (messages : List ℕ) : Type 0 where
  pub long : length messages ≡ 35
  pub made : 1 ≤ k → messages ≡ messages_under s

-- ---- from one halt to the next

-- The list of bytes q holds the messages l, of magnitudes up to N.
pub record InBytes (N : ℕ) (l : List Level) (q : List ℕ) : Type 0 where
  pub is : q ≡ map byte l
  pub within : (e : ℕ) → (level_at l e).magnitude ≤ N

-- The state σ, a run's or any other, is in iteration t, and the lists q and C hold its messages.
pub record Given (N : ℕ) (σ : State) (t : ℕ) (q C : List ℕ) : Type 0 where
  pub number : σ.iteration ≡ t
  pub variable_messages : InBytes N σ.variable_messages q
  pub check_messages : InBytes N σ.check_messages C

-- What up to k iterations more make of σ: the number t of the last, and the state that the lists then hold.
pub record Resumes (G : Graph) (R : Scheme) (limit k : ℕ) (σ : State) (t : ℕ) (q C S b : List ℕ) : Type 0 where
  pub number : t ≡ (resumed G R limit k σ).iteration
  pub holds : Holds G (resumed G R limit k σ) q C S b
