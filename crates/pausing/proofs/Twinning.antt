-- Demand 3 of halted runs, over the values.
use mathlib.Core.Path.{ap₂}
use Rattle.decoding.proofs.Twinning.{demand3}
use Rattle.pausing.specs.Records.{record_at}
use Rattle.pausing.specs.Theorems.{HaltedTwins}

pub halted_twins : HaltedTwins
halted_twins F bytes c accepted w k =
    let same = ((demand3 F bytes c).symmetric accepted).halts w F.asked.limit k in
    record { run = ap₂ (record_at F.asked.limit) same.iteration same.unsatisfied; bits = same.bits }
