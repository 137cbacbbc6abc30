use mathlib.Core.Path.{ap, ◌∙◌}
use Prim.Native.Nat.{◌+◌, ◌/◌}
use Rattle.words.specs.Words.{stored}
use Rattle.interface.proofs.PairAnswers.{stored_both}
use Rattle.reporting.proofs.put_number.Goals as goal

pub returns : goal.returns
returns c = let a = c.args in c.store32-2.ensures ∙ ap (λ l. stored 4 l (a.k + 4) (a.x / 4294967296)) c.store32.ensures ∙ stored_both a.list.now a.k a.x
