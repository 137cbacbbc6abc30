use mathlib.Core.Path.{ap, sym, ◌∙◌}
use Rattle.interface.proofs.Places.{settled, of_its_number, of_another, of_none}
use Rattle.host.proofs.frame_decode_place.Goals as goal

pub returns-then-k-refusal : goal.returns-then-k-refusal
returns-then-k-refusal c = of_its_number _ c.accept.ensures settled c.in-Err.is (sym (ap (λ k. k.number) c.numbered-k.ensures) ∙ c.if-k-refusal.true) (ap (λ k. k.place) c.numbered-k.ensures)

pub returns-else-k-refusal : goal.returns-else-k-refusal
returns-else-k-refusal c = of_another _ c.accept.ensures settled c.in-Err.is (λ e. c.if-k-refusal.false (ap (λ k. k.number) c.numbered-k.ensures ∙ e))

pub returns-in_default : goal.returns-in_default
returns-in_default c = of_none _ c.accept.ensures settled c.args.refusal c.in_default.is
