-- Document 02, item 7: what is promised of the two heads, over the very definitions in the contract of decoding a pair.
use Rattle.std.specs.Prelude.{◌≡◌, Bool, List, ℕ, ◌+◌, ◌≤◌, ◌<◌, Ok}
use Rattle.std.specs.Bool.{xor}
use Rattle.rules.specs.Graphs.{Codeword}
use Rattle.rules.specs.Sequence.{bit_at, final}
use Rattle.rules.specs.Symmetry.{Mirrored}
use Rattle.rules.specs.declared.Report.{Report}
use Rattle.settings.specs.Reversal.{Bytes, reversed}
use Rattle.decoding.specs.declared.Room.{Room}
use Rattle.decoding.specs.Decoding.{Frame, Memory, graph, scheme, decoded, memory_after}
use Rattle.decoding.specs.Symmetry.{reversed_by, Accepted}
use Rattle.decoding.specs.Pairing.Grants.{grant, half_up, half_down}
use Rattle.decoding.specs.Pairing.Pairs.{Heads, alone, head_report, head_memory, admitted, graph_of_both, first_frame, second_frame, pair_finds, first_report, second_report, first_after, second_after, DecodesPair}

-- 'A head's bits, messages and numbers depend on the other head only through the count that the other takes alone': of two calls that refuse nothing,
-- which agree on a head's own frame and memory, on T and on the other's count, both give that head the same report and leave it the same bytes.
pub record HeadsApart : Type 0 where
  pub first : (P P' : Heads) (M M₁ M₁' N N₁ N' N₁' : Memory) (d d₁ d' d₁' : List ℕ) (r r₂ r' r₂' : Report)
      → DecodesPair P M M₁ N N₁ d d₁ (Ok (r, r₂)) → DecodesPair P' M M₁' N' N₁' d' d₁' (Ok (r', r₂'))
      → first_frame P' ≡ first_frame P → P'.allowance ≡ P.allowance → alone (second_frame P') ≡ alone (second_frame P) → (r' ≡ r) × (M₁' ≡ M₁)
  pub second : (P P' : Heads) (M M₁ M' M₁' N N₁ N₁' : Memory) (d d₁ d' d₁' : List ℕ) (r r₂ r' r₂' : Report)
      → DecodesPair P M M₁ N N₁ d d₁ (Ok (r, r₂)) → DecodesPair P' M' M₁' N N₁' d' d₁' (Ok (r', r₂'))
      → second_frame P' ≡ second_frame P → P'.allowance ≡ P.allowance → alone (first_frame P') ≡ alone (first_frame P) → (r₂' ≡ r₂) × (N₁' ≡ N₁)

-- A head with the frame F and its `half` of T, beside a head with the frame O and `half'`, where the values of F are reversed by c.
pub record HeadTurned (half half' T : ℕ) (F O : Frame) (c : ℕ → Bool) : Type 0 where
  -- 'changes nothing of the other's'
  pub other_report : head_report half' T O (alone (reversed_by c F)) ≡ head_report half' T O (alone F)
  pub other_memory : (M : Memory) → head_memory half' T O (alone (reversed_by c F)) M ≡ head_memory half' T O (alone F) M
  -- of its own what demand 3 says: the same grant, the same report, bits that differ exactly where c is 1, and every iteration mirrored
  pub granted : grant half T (alone (reversed_by c F)) (alone O) ≡ grant half T (alone F) (alone O)
  pub report : head_report half T (reversed_by c F) (alone O) ≡ head_report half T F (alone O)
  pub bits : (v : ℕ) → v < F.variables
      → bit_at (final (graph F) (scheme (reversed_by c F)) (grant half T (alone (reversed_by c F)) (alone O))).bits v
      ≡ xor (c v) (bit_at (final (graph F) (scheme F) (grant half T (alone F) (alone O))).bits v)
  pub mirrored : (t : ℕ) → Mirrored (graph F) c (scheme F) (scheme (reversed_by c F)) t

-- The pair with the values of one head reversed by c.
abbrev pub first_turned : (ℕ → Bool) → Heads → Heads
first_turned c P = record {
  variables = P.variables;
  starts = P.starts;
  columns = P.columns;
  allowance = P.allowance;
  first = record { values = reversed c P.first.values; asked = P.first.asked };
  second = P.second;
}

abbrev pub second_turned : (ℕ → Bool) → Heads → Heads
second_turned c P = record {
  variables = P.variables;
  starts = P.starts;
  columns = P.columns;
  allowance = P.allowance;
  first = P.first;
  second = record { values = reversed c P.second.values; asked = P.second.asked };
}

-- 'Reversing one head's values by a codeword changes nothing of the other's.' By any c it changes nothing of what is refused.
pub record PairTwins (P : Heads) (c : ℕ → Bool) : Type 0 where
  pub first_found : Bytes P.first.values → (d : ℕ) (m m' : Room) → pair_finds (first_turned c P) d m m' ≡ pair_finds P d m m'
  pub second_found : Bytes P.second.values → (d : ℕ) (m m' : Room) → pair_finds (second_turned c P) d m m' ≡ pair_finds P d m m'
  pub first : Bytes P.first.values → Accepted (first_frame P) → Codeword (graph_of_both P) c
      → HeadTurned (half_up P.allowance) (half_down P.allowance) P.allowance (first_frame P) (second_frame P) c
  pub second : Bytes P.second.values → Accepted (second_frame P) → Codeword (graph_of_both P) c
      → HeadTurned (half_down P.allowance) (half_up P.allowance) P.allowance (second_frame P) (first_frame P) c

abbrev pub ReversedHeads : Type 0
ReversedHeads = (P : Heads) (c : ℕ → Bool) → PairTwins P c

-- Each head gets what decode gives it: report and every lent byte.
pub record AsAlone (P : Heads) : Type 0 where
  pub first_report : Ok (first_report P) ≡ decoded (first_frame P) (Ok tt)
  pub first_memory : (M : Memory) → first_after P admitted M ≡ memory_after (first_frame P) (Ok tt) M
  pub second_report : Ok (second_report P) ≡ decoded (second_frame P) (Ok tt)
  pub second_memory : (M : Memory) → second_after P admitted M ≡ memory_after (second_frame P) (Ok tt) M

-- It does where the allowance is enough for both, and so with T = 510.
abbrev pub EnoughForBoth : Type 0
EnoughForBoth = (P : Heads) → alone (first_frame P) + alone (second_frame P) ≤ P.allowance → AsAlone P

abbrev pub LargestAllowance : Type 0
LargestAllowance = (P : Heads) (d : ℕ) (m m' : Room) → pair_finds P d m m' ≡ admitted → P.allowance ≡ 510 → AsAlone P
