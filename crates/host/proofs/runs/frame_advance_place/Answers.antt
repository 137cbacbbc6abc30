use mathlib.Core.Path.{ap, ◌∙◌}
use Rattle.interface.specs.Packing.{place_of}
use Rattle.host.proofs.runs.frame_advance_place.Goals as goal

pub returns : goal.returns
returns c = record { answer = c.place_of.ensures ∙ ap place_of c.check.ensures.answer; degrees = c.check.ensures.degrees }
