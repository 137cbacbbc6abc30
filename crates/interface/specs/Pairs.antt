-- The C entry for two heads: its answer packed into one number, the reports in their list, and what entry and companion promise.
use Rattle.std.specs.Prelude.{◌≡◌, cond, List, ◌++◌, ℕ, ◌+◌, ◌*◌, ◌/◌, ◌%◌, eqb, leb, length, drop, Ok}
use Rattle.rules.specs.Graphs.{Graph, limits}
use Rattle.refusals.specs.Refusals.{paper, unless}
use Rattle.refusals.specs.declared.Refusal.{Refusal}
use Rattle.refusals.specs.declared.Refusal.TheVariants as Refusals
use Rattle.words.specs.Words.{bytes}
use Rattle.graphs.specs.Judging.{countable}
use Rattle.graphs.specs.Degrees.{degrees_in}
use Rattle.decoding.specs.declared.Room.{Room}
use Rattle.decoding.specs.Decoding.{Memory, room_of}
use Rattle.decoding.specs.declared.Party.{Party}
use Rattle.decoding.specs.declared.Party.TheVariants.{First, Second, Pair}
use Rattle.decoding.specs.Pairing.Pairs.{Heads, Found, admitted, refused, found_of, graph_of_both, pair_finds, first_report, second_report, first_after, second_after}
use Rattle.interface.specs.Packing.{pack_decoded, decode_place}

-- 'The answer the refusal's number and the head': a byte for the number, a byte for the head, 0 where it is neither's; 0 where nothing is refused.
abbrev pub party_number : Party → ℕ
party_number Pair = 0
party_number First = 1
party_number Second = 2

abbrev pub pack_refused : Party → Refusal → ℕ
pack_refused p r = (paper r).number + 256 * party_number p

abbrev pub pack_found : Found → ℕ
pack_found admitted = 0
pack_found (refused p r) = pack_refused p r

-- What is found first, else what is found then.
abbrev pub or_then : Found → Found → Found
or_then admitted f = f
or_then (refused p r) f = refused p r

-- What the entry finds where k bytes are lent for the reports: as the library, and last 6 where that is less than 16.
unfoldable pub entry_finds : Heads → ℕ → Room → Room → ℕ → Found
entry_finds P d m m' k = or_then (pair_finds P d m m') (found_of Pair (unless (leb 16 k) Refusals.Buffer) admitted)

-- 'Two packed reports', as decode's answer is packed, eight bytes each, at the front of their list.
abbrev pub reports_after : Heads → Found → List ℕ → List ℕ
reports_after P admitted l = bytes 8 (pack_decoded (Ok (first_report P))) ++ (bytes 8 (pack_decoded (Ok (second_report P))) ++ drop 16 l)
reports_after P (refused p r) l = l

-- The answer r, each head's memory, the list of degrees and that of reports, before and after, where f is found.
pub record Reported (P : Heads) (f : Found) (M M' N N' : Memory) (d d' l l' : List ℕ) (r : ℕ) : Type 0 where
  pub answer : r ≡ pack_found f
  pub first : M' ≡ first_after P f M
  pub second : N' ≡ second_after P f N
  pub reports : l' ≡ reports_after P f l
  pub degrees : d' ≡ degrees_in (countable limits (graph_of_both P) (length d)) (graph_of_both P) d

-- What the entry promises.
abbrev pub HostDecodesPair : Heads → Memory → Memory → Memory → Memory → List ℕ → List ℕ → List ℕ → List ℕ → ℕ → Type 0
HostDecodesPair P M M' N N' d d' l l' r = Reported P (entry_finds P (length d) (room_of M) (room_of N) (length l)) M M' N N' d d' l l' r

-- And its parts: with a list of reports that is long enough, and with one that is too short.
abbrev pub ReportsPair : Heads → Memory → Memory → Memory → Memory → List ℕ → List ℕ → List ℕ → List ℕ → ℕ → Type 0
ReportsPair P M M' N N' d d' l l' r = Reported P (pair_finds P (length d) (room_of M) (room_of N)) M M' N N' d d' l l' r

pub record RefusesShort (P : Heads) (m m' : Room) (d d' : List ℕ) (r : ℕ) : Type 0 where
  pub answer : r ≡ pack_found (or_then (pair_finds P (length d) m m') (refused Pair Refusals.Buffer))
  pub degrees : d' ≡ degrees_in (countable limits (graph_of_both P) (length d)) (graph_of_both P) d

-- The place of the pair's refusal, from the whole answer: decode's, of the values of the head that it names.
abbrev pub pair_place : Graph → List ℕ → List ℕ → ℕ → ℕ → ℕ
pair_place G values values' d x = decode_place G (cond (eqb (x / 256 % 256) 2) values' values) d (x % 256)

-- The place of what is found.
abbrev pub found_place : Found → ℕ
found_place admitted = 0
found_place (refused p r) = (paper r).place

-- Asked with the graph, both heads' values, a list of degrees of the same length and the entry's answer, the companion gives the place of what the entry
-- refuses, whatever else was given.
abbrev pub PairPlaces : Type 0
PairPlaces = (P : Heads) (d : ℕ) (m m' : Room) (k : ℕ)
    → pair_place (graph_of_both P) P.first.values P.second.values d (pack_found (entry_finds P d m m' k)) ≡ found_place (entry_finds P d m m' k)
