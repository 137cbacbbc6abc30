use native.Mathlib.Omega.{arith}
use Rattle.texts.proofs.Triples.{known_number, known_pair, triple_read}
use Rattle.lines.proofs.known_three_at.Goals as goal

pub known_field_at-first-requires : goal.known_field_at-first-requires
known_field_at-first-requires c = (omega arith, known_number c.requires)

pub known_line_at-rest-requires : goal.known_line_at-rest-requires
known_line_at-rest-requires c = known_pair c.requires c.known_field_at-first.ensures

pub returns : goal.returns
returns c = triple_read c.known_field_at-first.ensures c.known_line_at-rest.ensures
