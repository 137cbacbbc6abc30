use mathlib.Core.Path.{sym, ◌∙◌}
use lib.ListN.{length}
use Rattle.settings.specs.Settings.{settings}
use Rattle.decoding.specs.Pairing.Pairs.{heads_lent, pair_finds}
use Rattle.pairing.proofs.Deciding.{found_good}
use Rattle.interface.proofs.PairAnswers.{short_refused, short_good}
use Rattle.reporting.proofs.refuse_short.Goals as goal

pub returns-in-Err : goal.returns-in-Err
returns-in-Err c = short_refused (heads_lent c.args.heads) c.args.first_room c.args.second_room c.accept.ensures c.in-Err.is c.pack_refused.ensures

pub returns-in-Ok : goal.returns-in-Ok
returns-in-Ok c =
    let a = c.args in
    short_good (heads_lent a.heads) a.first_room a.second_room c.accept.ensures
    (found_good (pair_finds (heads_lent a.heads) (length a.degrees.now) a.first_room a.second_room) (settings a.heads.first.asked) (settings a.heads.second.asked) (sym c.accept.ensures.answer ∙ c.in-Ok.is)).0
    c.pack_refused-in-Ok.ensures
