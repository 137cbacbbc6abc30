-- What else is promised of the rules, for any Nch and Nq. Each statement is a type; proofs/ has a proof of each.
use Rattle.std.specs.Prelude.{◌≡◌, true, false, cond, ◌↔◌, ◌≢◌, ℕ, ◌+◌, ◌*◌, ◌≤◌, ◌<◌, get_or, pos, ◌-ℤ◌, nat_abs}
use Rattle.rules.specs.Levels.{Level, byte, level_of}
use Rattle.rules.specs.Graphs.{Graph, Admitted, variable_degree, Codeword}
use Rattle.rules.specs.Nodes.{Offsets, Lifting, never, lifts, counted, contribution, extra, odd, from_check, posterior, outgoing_sum, outgoing}
use Rattle.rules.specs.Sequence.{Scheme, unlifted, counted_in, sign_preserving, level_at, bit_at, sent, state, stop, final, report}
use Rattle.rules.specs.declared.Verdict.TheVariants as Verdicts

-- A level's byte determines it, and each byte is one level's.
abbrev pub LevelBytes : Type 0
LevelBytes = ((l : Level) → l.magnitude < 128 → level_of (byte l) ≡ l) × ((b : ℕ) → b < 256 → byte (level_of b) ≡ b)

-- 'b bits allow magnitudes 0 to N': every message keeps within Nq, in every iteration; what counts as W was sent as Nq.
abbrev pub MessagesWithin : Type 0
MessagesWithin = (G : Graph) → Admitted G → (Nq : ℕ) (φ : Offsets) (Λ : Lifting) (y : ℕ → Level) (t e : ℕ) → e < G.entries
    → ((level_at (sent G (sign_preserving G Nq φ Λ y) (state G (sign_preserving G Nq φ Λ y) t)) e).magnitude ≤ Nq)
    × ((level_at (state G (sign_preserving G Nq φ Λ y) t).check_messages e).magnitude ≤ Nq)

-- 2Nch + e + d(2Nq + 1)
abbrev pub largest_sum : ℕ → ℕ → ℕ → ℕ
largest_sum Nch Nq d = 2 * Nch + extra d + d * (2 * Nq + 1)

-- 'The posterior bound then uses W in place of Nq': from L on, and Nq before.
abbrev pub heaviest : ℕ → Lifting → ℕ → ℕ
heaviest Nq Λ t = cond (lifts Λ t) Λ.to Nq

-- 'Its size is at most 2Nch + e + d(2Nq + 1).'
abbrev pub SumsBounded : Type 0
SumsBounded = (G : Graph) → Admitted G → (Nch Nq : ℕ) (φ : Offsets) (Λ : Lifting) → Nq ≤ Λ.to
    → (y : ℕ → Level) → ((v : ℕ) → v < G.variables → (y v).magnitude ≤ Nch) → (t v : ℕ) → v < G.variables
    → nat_abs (get_or (state G (sign_preserving G Nq φ Λ y) t).sums v (pos 0)) ≤ largest_sum Nch (heaviest Nq Λ t) (variable_degree G v)

-- That size is reached in every iteration: by the largest level and messages, all plus.
abbrev pub BoundReached : Type 0
BoundReached = (G : Graph) (Nch Nq : ℕ) (Λ : Lifting) (t v : ℕ)
    → posterior G (λ v. record { minus = false; magnitude = Nch }) (counted_in Nq Λ t (λ e. record { minus = false; magnitude = Nq })) v
    ≡ pos (largest_sum Nch (heaviest Nq Λ t) (variable_degree G v))

-- The outgoing sum is the posterior sum less the recipient's own part, whatever the messages.
abbrev pub OutgoingIsRest : Type 0
OutgoingIsRest = (G : Graph) (y C : ℕ → Level) (e : ℕ) → e < G.entries
    → outgoing_sum G y C e ≡ posterior G y C (G.column e) -ℤ contribution 1 (C e)

-- So a variable sends what comes of its posterior sum less the recipient's own part, as that counts in the iteration.
abbrev pub SentIsRest : Type 0
SentIsRest = (G : Graph) (Nq : ℕ) (φ : Offsets) (Λ : Lifting) (y C : ℕ → Level) (t e : ℕ) → e < G.entries
    → (sign_preserving G Nq φ Λ y).variable t C e
    ≡ outgoing Nq φ ((sign_preserving G Nq φ Λ y).sum t C (G.column e) -ℤ contribution 1 (counted Nq Λ t (C e)))

-- '256 means never': then the rules, and so every iteration and every run, are those without lifting, whatever W.
abbrev pub NeverLifted : Type 0
NeverLifted = (G : Graph) (Nq : ℕ) (φ : Offsets) (W : ℕ) (y : ℕ → Level) → sign_preserving G Nq φ (record { from = never; to = W }) y ≡ unlifted G Nq φ y

-- 'From iteration L on': the iterations before L are those of the rules without lifting.
abbrev pub UnliftedBefore : Type 0
UnliftedBefore = (G : Graph) (Nq : ℕ) (φ : Offsets) (Λ : Lifting) (y : ℕ → Level) (t : ℕ) → t < Λ.from
    → state G (sign_preserving G Nq φ Λ y) t ≡ state G (unlifted G Nq φ y) t

-- 'U is always odd', whatever the messages, and so however they count.
abbrev pub OutgoingOdd : Type 0
OutgoingOdd = (G : Graph) (y C : ℕ → Level) (e : ℕ) → e < G.entries → odd (nat_abs (outgoing_sum G y C e)) ≡ true

-- 'The other incoming', 'without the message from that check': what goes to entry e does not depend on what came from there.
pub record Extrinsic (G : Graph) (e : ℕ) (m m' : ℕ → Level) : Type 0 where
  pub check : from_check G m' e ≡ from_check G m e
  pub variable : (y : ℕ → Level) → outgoing_sum G y m' e ≡ outgoing_sum G y m e

abbrev pub OwnUncounted : Type 0
OwnUncounted = (G : Graph) (e : ℕ) (m m' : ℕ → Level) → ((k : ℕ) → k ≢ e → m' k ≡ m k) → Extrinsic G e m m'

-- 'The run stops after the bits of the first iteration, 0 included, that are a codeword, with verdict codeword; otherwise at the limit
-- with stopped.'
pub record Stopping (G : Graph) (R : Scheme) (limit : ℕ) : Type 0 where
  pub within : stop G R limit ≤ limit
  pub earlier : (t : ℕ) → t < stop G R limit → Codeword G (bit_at (state G R t).bits) → ⊥
  pub reached : stop G R limit < limit → Codeword G (bit_at (final G R limit).bits)
  pub verdict : ((report G R limit).verdict ≡ Verdicts.Codeword) ↔ Codeword G (bit_at (final G R limit).bits)

abbrev pub RunStops : Type 0
RunStops = (G : Graph) (R : Scheme) (limit : ℕ) → Stopping G R limit
