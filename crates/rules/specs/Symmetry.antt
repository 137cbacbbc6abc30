-- Demand 3 of document 01, with document 02, item 6: the codeword symmetry, as one claim about all iterations and both runs.
use Rattle.std.specs.Prelude.{◌≡◌, Bool, true, false, List, ◌↔◌, ◌≢◌, ℕ, ◌≤◌, ◌<◌, get_or, ℤ, pos, neg_ℤ}
use Rattle.std.specs.Bool.{xor}
use Rattle.rules.specs.Levels.{Level}
use Rattle.rules.specs.Graphs.{Graph, Admitted, Codeword, unsatisfied}
use Rattle.rules.specs.Nodes.{Offsets, Lifting, outgoing_sum}
use Rattle.rules.specs.Sequence.{Scheme, counted_in, sign_preserving, level_at, bit_at, sent, state, final, report}
use Rattle.rules.specs.Halting.{halted}

-- The level with its sign reversed where b, its magnitude kept.
unfoldable pub turned : Bool → Level → Level
turned b l = record { minus = xor b l.minus; magnitude = l.magnitude }

-- The sum negated where b.
abbrev pub opposite : Bool → ℤ → ℤ
opposite false s = s
opposite true s = neg_ℤ s

-- y' is y with the signs reversed exactly where c is 1.
abbrev pub Reversed : Graph → (ℕ → Bool) → (ℕ → Level) → (ℕ → Level) → Type 0
Reversed G c y y' = (v : ℕ) → v < G.variables → y' v ≡ turned (c v) (y v)

-- Of two lists of messages: those to or from a variable where c is 1 have their signs reversed, all others are equal.
abbrev pub Turned : Graph → (ℕ → Bool) → List Level → List Level → Type 0
Turned G c q q' = (e : ℕ) → e < G.entries → level_at q' e ≡ turned (c (G.column e)) (level_at q e)

-- Of two lists of sums: those where c is 1 are negated, all others are equal.
abbrev pub Negated : Graph → (ℕ → Bool) → List ℤ → List ℤ → Type 0
Negated G c S S' = (v : ℕ) → v < G.variables → get_or S' v (pos 0) ≡ opposite (c v) (get_or S v (pos 0))

-- Iteration t by the rules R' mirrors iteration t by the rules R. (Check messages and sums there are from iteration 1 on.)
pub record Mirrored (G : Graph) (c : ℕ → Bool) (R R' : Scheme) (t : ℕ) : Type 0 where
  pub variable_messages : Turned G c (sent G R (state G R t)) (sent G R' (state G R' t))
  pub check_messages : 1 ≤ t → Turned G c (state G R t).check_messages (state G R' t).check_messages
  pub sums : 1 ≤ t → Negated G c (state G R t).sums (state G R' t).sums

-- The two runs report the same verdict, iteration count and unsatisfied checks, and bits that differ exactly where c is 1.
pub record SameRun (G : Graph) (c : ℕ → Bool) (R R' : Scheme) (limit : ℕ) : Type 0 where
  pub report : report G R' limit ≡ report G R limit
  pub bits : (v : ℕ) → v < G.variables → bit_at (final G R' limit).bits v ≡ xor (c v) (bit_at (final G R limit).bits v)

-- The two runs halted at k are in the same iteration with as many unsatisfied checks, and have bits that differ exactly where c is 1.
pub record SameHalt (G : Graph) (c : ℕ → Bool) (R R' : Scheme) (limit k : ℕ) : Type 0 where
  pub iteration : (halted G R' limit k).iteration ≡ (halted G R limit k).iteration
  pub unsatisfied : unsatisfied G (bit_at (halted G R' limit k).bits) ≡ unsatisfied G (bit_at (halted G R limit k).bits)
  pub bits : (v : ℕ) → v < G.variables → bit_at (halted G R' limit k).bits v ≡ xor (c v) (bit_at (halted G R limit k).bits v)

-- In no iteration is an outgoing variable sum zero, with the check messages as they count there.
abbrev pub NeverZero : Graph → ℕ → Offsets → Lifting → (ℕ → Level) → Type 0
NeverZero G Nq φ Λ y =
    (t e : ℕ) → e < G.entries → outgoing_sum G y (counted_in Nq Λ t (level_at (state G (sign_preserving G Nq φ Λ y) t).check_messages)) e ≢ pos 0

pub record Symmetric (G : Graph) (Nq : ℕ) (φ : Offsets) (Λ : Lifting) (c : ℕ → Bool) (y y' : ℕ → Level) : Type 0 where
  pub exactly : Codeword G c ↔ ((t : ℕ) → Mirrored G c (sign_preserving G Nq φ Λ y) (sign_preserving G Nq φ Λ y') t)
  pub runs : Codeword G c → (limit : ℕ) → SameRun G c (sign_preserving G Nq φ Λ y) (sign_preserving G Nq φ Λ y') limit
  pub halts : Codeword G c → (limit k : ℕ) → SameHalt G c (sign_preserving G Nq φ Λ y) (sign_preserving G Nq φ Λ y') limit k
  pub nonzero : NeverZero G Nq φ Λ y × NeverZero G Nq φ Λ y'

-- Demand 3, over levels: for every admitted graph, every Nq, offsets and lifting, all channel levels and every c.
abbrev pub Symmetry : Type 0
Symmetry = (G : Graph) → Admitted G → (Nq : ℕ) (φ : Offsets) (Λ : Lifting) (c : ℕ → Bool) (y y' : ℕ → Level) → Reversed G c y y'
    → Symmetric G Nq φ Λ c y y'
