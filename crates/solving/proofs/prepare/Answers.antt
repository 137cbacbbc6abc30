use Rattle.words.specs.Roles.{graph_lent}
use Rattle.codewords.specs.Encoding.{given_of}
use Rattle.solving.proofs.Answering.{zeros_long, prepared}
use Rattle.solving.proofs.prepare.Goals as goal

pub returns : goal.returns
returns c =
    let asked = c.requires in
    let a = c.args in
    prepared (graph_lent a.graph) (given_of a.positions.now a.given.now) asked.0 asked.2.rising (zeros_long _ (c.fill.ensures.after (λ y h. h))) c.load.ensures (rw c.checks-m.ensures at c.replace_given.ensures) (rw c.checks-m.ensures at c.eliminate.ensures)
