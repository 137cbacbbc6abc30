-- The bytes taken so far are the text's first. A turn leaves less to write or fewer repeats.
use Rattle.std.proofs.Common.{length, ◌-◌, ◌≤◌, take, ◌+◌}
use Rattle.std.specs.Io.KnownBytes.{Appends}
use Rattle.files.proofs.write_whole.Given as goal

abbrev pub invariant-loop-written : goal.invariant-loop-written
invariant-loop-written g l = (l.written ≤ length l.text) × Appends (g.W.Write.contents l.initial.writer) (g.W.Write.contents l.writer) (take l.written l.text)

abbrev pub decreases-loop-written : goal.decreases-loop-written
decreases-loop-written g l = (length l.text - l.written) + l.repeats
