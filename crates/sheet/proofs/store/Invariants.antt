use Rattle.sheet.proofs.Storing.{Stage}
use Rattle.sheet.proofs.store.Given as goal

abbrev pub invariant-loop-k : goal.invariant-loop-k
invariant-loop-k l = Stage l.text l.counts l.at l.initial.starts l.starts l.initial.columns l.columns l.i l.k l.filled
