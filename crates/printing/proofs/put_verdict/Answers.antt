use mathlib.Core.List.{[], ◌∷◌, ◌++◌}
use Rattle.rules.specs.declared.Verdict.{Verdict}
use Rattle.texts.specs.Lines.{space}
use Rattle.program_texts.specs.Printing.Texts.{verdict_text}
use Rattle.texts.proofs.Putting.{put_same}
use mathlib.Core.Path.{sym, ap}
use Rattle.printing.proofs.put_verdict.Goals as goal

pub returns-in-Codeword : goal.returns-in-Codeword
returns-in-Codeword c = put_same c.put_fixed.ensures (ap (λ (v : Verdict). verdict_text v ++ (space ∷ [])) (sym c.in-Codeword.is))

pub returns-in-Stopped : goal.returns-in-Stopped
returns-in-Stopped c = put_same c.put_fixed-in-Stopped.ensures (ap (λ (v : Verdict). verdict_text v ++ (space ∷ [])) (sym c.in-Stopped.is))
