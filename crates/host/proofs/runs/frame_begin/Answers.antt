use mathlib.Core.Path.{sym, subst}
use lib.ListN.{length}
use Rattle.decoding.specs.Decoding.{Memory}
use Rattle.decoding.specs.Frames.{frame_lent, memory}
use Rattle.interface.specs.Runs.{SmallBegun}
use Rattle.interface.proofs.RunAnswers.{begun_small, host_begins}
use Rattle.host.proofs.runs.frame_begin.Goals as goal

pub pack_begun-requires : goal.pack_begun-requires
pack_begun-requires c =
    let M : Memory = let a = c.args in memory a.levels.now a.variable_messages.now a.check_messages.now a.sums.now a.bits.now in
    subst SmallBegun (sym c.begin-answer.ensures.answer) (begun_small (frame_lent c.args.frame) M (length c.args.degrees.now))

pub returns : goal.returns
returns c = host_begins c.begin-answer.ensures c.pack_begun.ensures
