use native.Mathlib.Omega.{arith}
use Rattle.texts.proofs.Known.{known_first, known_second, line_read}
use Rattle.lines.proofs.known_line_at.Goals as goal

pub known_field_at-first-requires : goal.known_field_at-first-requires
known_field_at-first-requires c = (omega arith, known_first c.requires)

pub known_field_at-second-requires : goal.known_field_at-second-requires
known_field_at-second-requires c = (omega arith, known_second c.requires c.known_field_at-first.ensures)

pub returns : goal.returns
returns c = line_read c.known_field_at-first.ensures c.known_field_at-second.ensures
