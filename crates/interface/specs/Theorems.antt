-- What the companions of decode and encode tell, and where a reader of either kind of sheet finds E.
use Rattle.std.specs.Prelude.{◌≡◌, List, ℕ, ◌%◌, length}
use Rattle.rules.specs.Graphs.{Graph, limits}
use Rattle.refusals.specs.Refusals.{Judged}
use Rattle.words.specs.Roles.{start_at}
use Rattle.codewords.specs.Encoding.{input_judged, Encodes}
use Rattle.decoding.specs.declared.Room.{Room}
use Rattle.decoding.specs.Decoding.{Frame, graph, decode_finds, decoded}
use Rattle.code_sheets.specs.Reader.Reading as Sheet
use Rattle.code_sheets.specs.Reader.Reading.{sheet_read_in, starts_of}
use Rattle.block_sheets.specs.Reader.Reading.{block_read_in}
use Rattle.interface.specs.Packing.{pack_decoded, place_of, decode_place}

-- Asked with the graph, the values, a list of degrees of the same length and the lowest byte of decode's answer, it gives the place of what decode
-- refuses, whatever else was given.
abbrev pub PlacesTold : Type 0
PlacesTold = (F : Frame) (d : ℕ) (m : Room) → decode_place (graph F) F.values d (pack_decoded (decoded F (decode_finds F d m)) % 256) ≡ place_of (decode_finds F d m)

-- Asked with the graph, the given bits and a list of degrees of the same length, encode's companion gives the place of what encode refuses.
abbrev pub EncodePlaces : Type 0
EncodePlaces = (G : Graph) (positions given : List ℕ) (j : Judged) (d d' c c' w w' : List ℕ) → Encodes G positions given j d d' c c' w w'
    → place_of (input_judged G positions given (length d)) ≡ place_of j

-- Where a sheet is read, start m of the lent list is E.
abbrev pub LastStart : Type 0
LastStart = (t : List ℕ) (d s c : ℕ) (G : Graph) → sheet_read_in limits t d s c ≡ Sheet.graph G → (old : List ℕ)
    → start_at (starts_of (Sheet.graph G) old) G.checks ≡ G.entries

-- So it is where a block sheet is read.
abbrev pub BlocksLastStart : Type 0
BlocksLastStart = (t : List ℕ) (d s c : ℕ) (G : Graph) → block_read_in t d s c ≡ Sheet.graph G → (old : List ℕ)
    → start_at (starts_of (Sheet.graph G) old) G.checks ≡ G.entries
