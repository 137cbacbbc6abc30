use Rattle.block_sheets.specs.Text.Reading.{block_entries, room_of}
use Rattle.texts.specs.Triples.{triple}
use Rattle.texts.proofs.Passes.{Scanning}
use Rattle.texts.specs.Lines.{pair}
use lib.ListN.{length}
use Prim.Native.Nat.{◌-◌, ◌≤◌}
use Rattle.block_text.proofs.scan_blocks.Given as goal

abbrev pub invariant-loop-at : goal.invariant-loop-at
invariant-loop-at l = (l.n ≤ room_of l.size) × Scanning block_entries (room_of l.size) (triple l.size l.rows l.columns) l.text l.from l.at l.n (pair l.i0 l.j0)

abbrev pub decreases-loop-at : goal.decreases-loop-at
decreases-loop-at l = length l.text - l.at
