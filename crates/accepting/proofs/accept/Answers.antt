use borrow.Author.Rules.{rules}
use mathlib.Core.Path.{refl, sym}
use Rattle.graphs.proofs.Lending.{lent_admitted}
use Rattle.decoding.specs.Frames.{frame_lent}
use Rattle.decoding.proofs.Accepting.{graph_refused, accepts_as}
use Rattle.accepting.proofs.accept.Goals as goal

pub returns-in_err-check : goal.returns-in_err-check
returns-in_err-check c =
    let F = frame_lent c.args.frame in
    let k = c.in_err-check.ensures in
    search (rules, accepts_as F c.args.room k (graph_refused F _ c.args.room (sym k.answer)) refl)

pub accept_on-requires : goal.accept_on-requires
accept_on-requires c = (lent_admitted _ _ (sym c.in_ok-check.ensures.answer)).variables.1
