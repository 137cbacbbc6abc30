-- The C entries for a run that pauses: the record packed into one number, and what the entries promise.
use Rattle.std.specs.Prelude.{◌≡◌, Bool, true, false, cond, ◌&&◌, List, ℕ, ◌+◌, ◌*◌, ◌/◌, ◌%◌, ◌≤◌, eqb, leb, length, Ok, Err}
use Rattle.rules.specs.Graphs.{limits}
use Rattle.refusals.specs.Refusals.{paper, Judged}
use Rattle.graphs.specs.Judging.{countable, graph_judged_in}
use Rattle.graphs.specs.Degrees.{degrees_in}
use Rattle.decoding.specs.declared.Room.{Room}
use Rattle.decoding.specs.Decoding.{Frame, Memory, room_of, graph, decode_finds}
use Rattle.pausing.specs.declared.Run.{Run}
use Rattle.pausing.specs.declared.Standing.{Standing}
use Rattle.pausing.specs.declared.Standing.TheVariants.{Open, Codeword, Stopped}
use Rattle.pausing.specs.Pausing.{Begun, begun_answer, begun_memory, Lent, lent, Asked, graph_asked, advance_finds, lent_after}
use Rattle.pausing.specs.declared.Unscaled.{Unscaled}
use Rattle.pausing.specs.Records.{is_open}
use Rattle.interface.specs.Packing.{decode_place, place_of}

-- 'The record is the packed answer itself, verdict byte 2 being open': a byte 0, a byte for how the run stands, two for the iteration, four for the
-- unsatisfied checks, as decode's.
abbrev pub standing_number : Standing → ℕ
standing_number Codeword = 0
standing_number Stopped = 1
standing_number Open = 2

abbrev pub pack_run : Run → ℕ
pack_run r = 256 * standing_number r.standing + 65536 * r.iterations + 4294967296 * r.unsatisfied

abbrev pub pack_begun : Begun → ℕ
pack_begun (Ok r) = pack_run r
pack_begun (Err r) = (paper r).number

abbrev pub pack_advanced : Judged → Run → ℕ
pack_advanced (Ok _) r = pack_run r
pack_advanced (Err e) r = (paper e).number

-- The numbers that a begin or an advance answers as open: an iteration below some limit, and some unsatisfied check, of as many as a graph may have.
unfoldable pub is_open_number : ℕ → Bool
is_open_number x = eqb (x % 65536) 512 && (leb (x / 65536 % 65536) 254 && (leb 1 (x / 4294967296) && leb (x / 4294967296) limits.checks))

-- The record of a number; 'a number that no begin or advance answers as open gets 21', as a finished record does.
unfoldable pub unpacked : ℕ → Run
unpacked x =
    cond (is_open_number x) (record { standing = Open; iterations = x / 65536 % 65536; unsatisfied = x / 4294967296 })
    (record { standing = Stopped; iterations = 0; unsatisfied = 0 })

-- What the entry for begin promises of its answer r, of the memory, M before and M' after, and of the list of degrees, d before and d' after.
pub record HostBegins (F : Frame) (M M' : Memory) (d d' : List ℕ) (r : ℕ) : Type 0 where
  pub answer : r ≡ pack_begun (begun_answer F (decode_finds F (length d) (room_of M)))
  pub memory : M' ≡ begun_memory F (decode_finds F (length d) (room_of M)) M
  pub degrees : d' ≡ degrees_in (countable limits (graph F) (length d)) (graph F) d

-- What the entry for advance promises, from any number and any bytes.
pub record HostAdvances (A : Asked) (record-number : ℕ) (M M' : Memory) (d d' : List ℕ) (r : ℕ) : Type 0 where
  pub answer : r ≡ pack_advanced (advance_finds A (length d) (lent (unpacked record-number) M))
      (lent_after A (advance_finds A (length d) (lent (unpacked record-number) M)) (lent (unpacked record-number) M)).run
  pub memory : M' ≡ (lent_after A (advance_finds A (length d) (lent (unpacked record-number) M)) (lent (unpacked record-number) M)).memory
  pub degrees : d' ≡ degrees_in (countable limits (graph_asked A) (length d)) (graph_asked A) d

abbrev pub unscaled_of : ℕ → ℕ → ℕ → ℕ → ℕ → ℕ → ℕ → ℕ → Unscaled
unscaled_of channel message phi_s phi_a phi_0 limit lift_from lift_to = record {
  channel = channel;
  message = message;
  phi_s = phi_s;
  phi_a = phi_a;
  phi_0 = phi_0;
  limit = limit;
  lift_from = lift_from;
  lift_to = lift_to;
}

-- Numbers that fit their places.
abbrev pub SmallRun : Run → Type 0
SmallRun r = (r.iterations ≤ 255) × (r.unsatisfied ≤ limits.checks)

abbrev pub SmallBegun : Begun → Type 0
SmallBegun (Ok r) = SmallRun r
SmallBegun (Err r) = 0 ≤ 0

abbrev pub SmallAdvanced : Judged → Run → Type 0
SmallAdvanced (Ok _) r = SmallRun r
SmallAdvanced (Err e) r = 0 ≤ 0

-- A number that is an open record packs it; and the record of an open number in its bounds is unpacked from its number.
pub record RecordsKept : Type 0 where
  pub numbers : (x : ℕ) → is_open (unpacked x).standing ≡ true → pack_run (unpacked x) ≡ x
  pub records : (r : Run) → is_open r.standing ≡ true → r.iterations ≤ 254 → 1 ≤ r.unsatisfied → r.unsatisfied ≤ limits.checks → unpacked (pack_run r) ≡ r
  -- no number of a finished record is an open one
  pub finished : (r : Run) → is_open r.standing ≡ false → is_open (unpacked (pack_run r)).standing ≡ false

-- The companions: begin's is decode's, and advance's gives the place of what advance refuses, whatever else was given.
abbrev pub BeginPlaces : Type 0
BeginPlaces = (F : Frame) (d : ℕ) (m : Room) → decode_place (graph F) F.values d (pack_begun (begun_answer F (decode_finds F d m)) % 256) ≡ place_of (decode_finds F d m)

abbrev pub AdvancePlaces : Type 0
AdvancePlaces = (A : Asked) (d : ℕ) (z : Lent) → place_of (graph_judged_in limits (graph_asked A) d) ≡ place_of (advance_finds A d z)
