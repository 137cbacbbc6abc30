use Prim.Native.Nat.{◌<◌, ℕ}
use lib.ListN.{get_or, take}
use Rattle.std.proofs.Common.{rules}
use Rattle.rules.specs.Levels.{largest}
use Rattle.words.specs.Roles.{graph_lent}
use Rattle.decoding.specs.Frames.{memory}
use Rattle.pausing.specs.Pausing.{handed}
use Rattle.pausing.proofs.Pausing.{given_handed, advance_into}
use Rattle.pausing.proofs.exact.advance_within.Goals as goal

pub returns : goal.returns
returns c =
    let a = c.args in
    let bytes : (k : ℕ) → get_or a.variable_messages.now k 0 < 256 = λ k. search rules in
    let bytes_2 : (k : ℕ) → get_or a.check_messages.now k 0 < 256 = λ k. search rules in
    let E : ℕ = (graph_lent a.graph).entries in
    rw c.entries-e.ensures
    (advance_into (memory a.levels.now a.variable_messages.now a.check_messages.now a.sums.now a.bits.now)
    (c.advance_exactly.ensures (handed a.run (take E a.variable_messages.now) (take E a.check_messages.now))
    (rw c.entries-e.ensures (given_handed (largest a.settings.message) E a.run a.variable_messages.now a.check_messages.now bytes bytes_2 c.requires.columns_value.0 c.requires.columns_value.1))))
