use Rattle.solving.proofs.Answering.{solved_none, solved_found}
use Rattle.solving.proofs.solve.Goals as goal

pub returns-then-not-prepare : goal.returns-then-not-prepare
returns-then-not-prepare c = solved_none c.prepare.ensures c.if-not-prepare.true (c.fill.ensures.after (λ y h. h))

pub returns : goal.returns
returns c =
    let made = c.prepare in
    solved_found made.ensures (c.write_codeword.ensures _ (rw c.checks.ensures made.ensures.means)) (c.fill-2.ensures.after (λ y h. h))
