-- What the code's answers say.
use Rattle.std.specs.Prelude.{◌≡◌, List, ℕ, Ok, Err, Result}
use Rattle.texts.specs.Reading.{Lines, refused}
use Rattle.texts.specs.Scanning.{LinesAt}
use Rattle.texts.specs.Triples.{Triple, triple}
use Rattle.block_sheets.specs.Text.Reading.{block_entries, room_of}
use Rattle.block_sheets.specs.declared.Counts.{Counts}
use Rattle.refusals.specs.declared.Refusal.{Refusal}

abbrev pub counts_in : Counts → Triple
counts_in k = triple k.size k.rows k.columns

-- The counts and the place of the first entry's line, or the first refusal of the lines.
abbrev pub Scanned : Type 0
Scanned = Result (Counts × ℕ) Refusal

abbrev pub ScannedAs : List ℕ → Lines Triple Triple → Scanned → Type 0
ScannedAs s x (Err r) = x ≡ refused r
ScannedAs s x (Ok (k, at)) = LinesAt block_entries (room_of k.size) s x (counts_in k) k.entries at
