-- Where L is 256 nothing is lifted.
use mathlib.Core.Path.{ap, ◌∙◌}
use Rattle.rules.specs.Levels.{largest}
use Rattle.rules.specs.Sequence.{sign_preserving}
use Rattle.rules.proofs.Lifts.{never_lifted}
use Rattle.settings.proofs.Accepted.{judged_as_before}
use Rattle.decoding.specs.Decoding.{graph, levels, offsets_of, UnliftedAsBefore}

pub unlifted_as_before : UnliftedAsBefore
unlifted_as_before F h = record {
  rules = ap (λ L. sign_preserving (graph F) (largest F.asked.message) (offsets_of F) (record { from = L; to = F.asked.lift_to }) (levels F)) h
      ∙ never_lifted (graph F) (largest F.asked.message) (offsets_of F) F.asked.lift_to (levels F);
  settings = judged_as_before F.asked h;
}
