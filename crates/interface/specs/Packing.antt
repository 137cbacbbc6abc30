-- The answers of the C entries, each packed into one number.
use Rattle.std.specs.Prelude.{◌≡◌, cond, List, ℕ, ◌+◌, ◌*◌, ◌/◌, ◌≤◌, eqb, Float, length, Ok, Err}
use Rattle.std.specs.Float.{binary32}
use Rattle.std.specs.Float.Ieee.{of_bits}
use Rattle.rules.specs.Graphs.{Graph, limits}
use Rattle.refusals.specs.Refusals.{paper, unless, or_else, Judged}
use Rattle.refusals.specs.declared.Refusal.TheVariants.{Length}
use Rattle.rules.specs.declared.Verdict.{Verdict}
use Rattle.rules.specs.declared.Verdict.TheVariants.{Codeword, Stopped}
use Rattle.graphs.specs.Judging.{countable, graph_judged_in}
use Rattle.graphs.specs.Degrees.{degrees_in}
use Rattle.settings.specs.Values.{values_judged}
use Rattle.settings.specs.declared.Parameters.{Parameters}
use Rattle.settings.specs.declared.Scaling.{Scaling}
use Rattle.settings.specs.declared.Scaling.TheVariants.{Plain, Noise}
use Rattle.decoding.specs.Decoding.{Decoded, Frame, Memory, room_of, graph, decode_finds, decoded, memory_after}
use Rattle.code_sheets.specs.Text.Reading.{sheet_lines}
use Rattle.code_sheets.specs.Reader.Reading.{sheet_read_in, read_judged, answer_of, starts_of, columns_of, degrees_of, Sheet}
use Rattle.code_sheets.specs.Writer.Writing.{write_finds, write_answer, written_in, Written}

-- 'Kind 0 is a plain gain (variance unread), 1 a gain with variance; another kind gets 10', in 10's place of the order, as a gain of zero does.
abbrev pub scaling_of : ℕ → Float → Float → Scaling
scaling_of kind gain variance = cond (eqb kind 0) (Plain gain) (cond (eqb kind 1) (Noise gain variance) (Plain (of_bits binary32 0)))

-- What is asked of the run, from the numbers of a call.
abbrev pub asked_of : Scaling → ℕ → ℕ → ℕ → ℕ → ℕ → ℕ → ℕ → ℕ → Parameters
asked_of scaling channel message phi_s phi_a phi_0 limit lift_from lift_to = record {
  scaling = scaling;
  channel = channel;
  message = message;
  phi_s = phi_s;
  phi_a = phi_a;
  phi_0 = phi_0;
  limit = limit;
  lift_from = lift_from;
  lift_to = lift_to;
}

-- The lowest byte is the refusal's number, 0 where nothing is refused; its place comes from a call of its own.
abbrev pub verdict_of : Verdict → ℕ
verdict_of Codeword = 0
verdict_of Stopped = 1

-- Decode: then a byte for the verdict (0 codeword, 1 stopped), two bytes for the iteration count, four for the unsatisfied checks.
abbrev pub pack_decoded : Decoded → ℕ
pack_decoded (Err r) = (paper r).number
pack_decoded (Ok r) = 256 * verdict_of r.verdict + 65536 * r.iterations + 4294967296 * r.unsatisfied

-- The place of a refusal, 0 where nothing is refused.
abbrev pub place_of : Judged → ℕ
place_of (Ok _) = 0
place_of (Err r) = (paper r).place

-- The number of a refusal, 0 where nothing is refused.
abbrev pub number_of : Judged → ℕ
number_of (Ok _) = 0
number_of (Err r) = (paper r).number

-- What decode refuses of the graph with a list of degrees of d bytes, and of the values, in its order: the graph's, 13, 12.
abbrev pub places_judged : Graph → List ℕ → ℕ → Judged
places_judged G values d =
    or_else (graph_judged_in limits G d) (or_else (unless (eqb (length values / 4) G.variables) (Length (length values / 4))) (values_judged values))

-- The place of decode's refusal of that number; all other refusals have place 0.
abbrev pub decode_place : Graph → List ℕ → ℕ → ℕ → ℕ
decode_place G values d number = cond (eqb (number_of (places_judged G values d)) number) (place_of (places_judged G values d)) 0

-- What the entry for decode promises of its answer r, of the memory, M before and M' after, and of the list of degrees, d before and d' after.
pub record HostDecodes (F : Frame) (M M' : Memory) (d d' : List ℕ) (r : ℕ) : Type 0 where
  pub answer : r ≡ pack_decoded (decoded F (decode_finds F (length d) (room_of M)))
  pub memory : M' ≡ memory_after F (decode_finds F (length d) (room_of M)) M
  pub degrees : d' ≡ degrees_in (countable limits (graph F) (length d)) (graph F) d

-- What a companion on the graph G promises of its answer r and of the list of degrees, which it leaves as its entry does.
pub record TellsPlace (G : Graph) (place : ℕ) (old now : List ℕ) (r : ℕ) : Type 0 where
  pub answer : r ≡ place
  pub degrees : now ≡ degrees_in (countable limits G (length old)) G old

-- ---- sheets

-- Read: a byte for the refusal's number, three bytes for n, three for m. E is the last of the starts that were read.
abbrev pub pack_read : Sheet → ℕ
pack_read (Err r) = (paper r).number
pack_read (Ok k) = 256 * k.variables + 4294967296 * k.checks

-- Write: a byte for the refusal's number, seven for the text's length.
abbrev pub pack_written : Written → ℕ
pack_written (Err r) = (paper r).number
pack_written (Ok size) = 256 * size

-- What the entry for reading promises of its answer r and of the three lists, before and after.
pub record HostReads (t d d' s s' c c' : List ℕ) (r : ℕ) : Type 0 where
  pub answer : r ≡ pack_read (answer_of (sheet_read_in limits t (length d) (length s) (length c)))
  pub degrees : d' ≡ degrees_of (sheet_lines limits t) d
  pub starts : s' ≡ starts_of (sheet_read_in limits t (length d) (length s) (length c)) s
  pub columns : c' ≡ columns_of (sheet_read_in limits t (length d) (length s) (length c)) c

-- What its companion promises where lists of s and c bytes are lent.
pub record TellsLine (t d d' : List ℕ) (s c r : ℕ) : Type 0 where
  pub answer : r ≡ place_of (read_judged (sheet_read_in limits t (length d) s c))
  pub degrees : d' ≡ degrees_of (sheet_lines limits t) d

-- What the entry for writing promises of its answer r, of the list of degrees and of the text, before and after.
pub record HostWrites (G : Graph) (d d' old now : List ℕ) (r : ℕ) : Type 0 where
  pub answer : r ≡ pack_written (write_answer (write_finds G (length d) (length old)) G)
  pub degrees : d' ≡ degrees_in (countable limits G (length d)) G d
  pub text : now ≡ written_in (write_finds G (length d) (length old)) G old

-- ---- numbers that fit their places

abbrev pub Small : Decoded → Type 0
Small (Err r) = 0 ≤ 0
Small (Ok r) = (r.iterations ≤ 255) × (r.unsatisfied ≤ limits.checks)

abbrev pub SmallRead : Sheet → Type 0
SmallRead (Err r) = 0 ≤ 0
SmallRead (Ok k) = (k.variables ≤ limits.variables) × (k.checks ≤ limits.checks)

-- As SheetsShort and BlocksShort have it.
abbrev pub SmallWritten : Written → Type 0
SmallWritten (Err r) = 0 ≤ 0
SmallWritten (Ok size) = size ≤ 59 + 21 * limits.entries
