-- Document 02, item 6: what is promised of every list of advances, over the very definitions in the contracts of begin, advance and decode.
use Rattle.std.specs.Prelude.{◌≡◌, Bool, List, [], ◌∷◌, ℕ, ◌+◌, ◌<◌, length, Ok, Err}
use Rattle.std.specs.Bool.{xor}
use Rattle.rules.specs.Graphs.{limits, Codeword}
use Rattle.rules.specs.Sequence.{State, bit_at, begun, final, report}
use Rattle.rules.specs.Halting.{halted}
use Rattle.refusals.specs.Refusals.{Judged}
use Rattle.graphs.specs.Judging.{countable}
use Rattle.graphs.specs.Degrees.{degrees_in}
use Rattle.settings.specs.Reversal.{Bytes}
use Rattle.decoding.specs.Decoding.{Frame, Memory, room_of, graph, levels, scheme, decode_finds, filled}
use Rattle.decoding.specs.Symmetry.{reversed_by, Accepted}
use Rattle.pausing.specs.Records.{record_of, reported}
use Rattle.pausing.specs.Pausing.{Lent, lent, Asked, asked, advance_finds, lent_after}

-- All that the caller keeps of a run.
pub record Kept : Type 0 where
  pub lent : Lent
  pub degrees : List ℕ

module _ (F : Frame) where
  -- 'On its graph and settings', by k.
  abbrev pub asked_of : ℕ → Asked
  asked_of k = asked F.variables F.starts F.columns (record {
    channel = F.asked.channel;
    message = F.asked.message;
    phi_s = F.asked.phi_s;
    phi_a = F.asked.phi_a;
    phi_0 = F.asked.phi_0;
    limit = F.asked.limit;
    lift_from = F.asked.lift_from;
    lift_to = F.asked.lift_to;
  }) k

  -- The list of degrees that a call leaves.
  abbrev pub counted : List ℕ → List ℕ
  counted d = degrees_in (countable limits (graph F) (length d)) (graph F) d

  -- What an advance by k finds and leaves, by its contract.
  abbrev pub found : ℕ → Kept → Judged
  found k z = advance_finds (asked_of k) (length z.degrees) z.lent

  abbrev pub after : ℕ → Kept → Kept
  after k z = record { lent = lent_after (asked_of k) (found k z) z.lent; degrees = counted z.degrees }

  -- A list of advances, 'with record and buffers left alone between'; and the sum of the accepted counts.
  unfoldable pub after_all : List ℕ → Kept → Kept
  after_all [] z = z
  after_all (k ∷ ks) z = after_all ks (after k z)

  abbrev pub count_if : Judged → ℕ → ℕ
  count_if (Ok _) k = k
  count_if (Err r) k = 0

  unfoldable pub accepted : List ℕ → Kept → ℕ
  accepted [] z = 0
  accepted (k ∷ ks) z = count_if (found k z) k + accepted ks (after k z)

  -- The frame's run in a state σ, in memory that was M and d: the record, and every lent byte.
  unfoldable pub in_state : Memory → List ℕ → State → Kept
  in_state M d σ = record {
    lent = lent (record_of (graph F) F.asked.limit σ) (filled F.variables (graph F).entries (levels F) σ M);
    degrees = counted d;
  }

pub record Pauses (F : Frame) (M : Memory) (d : List ℕ) : Type 0 where
  -- 'For every list of advances from a begun run .. the state after it is that of one run halted at its verdict or at the sum of the accepted
  -- counts, whichever is earlier': record and every lent byte
  pub halts : (ks : List ℕ) → after_all F ks (in_state F M d (begun (graph F) (scheme F)))
      ≡ in_state F M d (halted (graph F) (scheme F) F.asked.limit (accepted F ks (in_state F M d (begun (graph F) (scheme F)))))
  -- decode is begin followed by one advance by the limit, which is refused, and so changes nothing, where begin is finished: its report, and every lent
  -- byte
  pub decodes : after F F.asked.limit (in_state F M d (begun (graph F) (scheme F)))
      ≡ record {
        lent = lent (reported (report (graph F) (scheme F) F.asked.limit)) (filled F.variables (graph F).entries (levels F) (final (graph F) (scheme F) F.asked.limit) M);
        degrees = counted F d;
      }

-- Of every frame that begin, lent this memory and this list, does not refuse.
abbrev pub RunPauses : Type 0
RunPauses = (F : Frame) (M : Memory) (d : List ℕ) → decode_finds F (length d) (room_of M) ≡ Ok tt → Pauses F M d

-- Demand 3 of halted runs: for a codeword both records are equal, and the bits differ exactly where it is 1.
pub record SameRecord (F : Frame) (c : ℕ → Bool) (k : ℕ) : Type 0 where
  pub run : record_of (graph F) F.asked.limit (halted (graph F) (scheme (reversed_by c F)) F.asked.limit k)
      ≡ record_of (graph F) F.asked.limit (halted (graph F) (scheme F) F.asked.limit k)
  pub bits : (v : ℕ) → v < F.variables
      → bit_at (halted (graph F) (scheme (reversed_by c F)) F.asked.limit k).bits v ≡ xor (c v) (bit_at (halted (graph F) (scheme F) F.asked.limit k).bits v)

abbrev pub HaltedTwins : Type 0
HaltedTwins = (F : Frame) → Bytes F.values → (c : ℕ → Bool) → Accepted F → Codeword (graph F) c → (k : ℕ) → SameRecord F c k
