use Rattle.pausing.specs.Pausing.{asked_lent}
use Rattle.interface.proofs.RunAnswers.{advanced_packs, host_advances}
use Rattle.host.proofs.runs.frame_advance.Goals as goal

pub pack_advanced-requires : goal.pack_advanced-requires
pack_advanced-requires c = advanced_packs (asked_lent c.args.graph c.args.settings c.args.count) c.args.«record» c.unpack.ensures c.advance-answer.ensures

pub returns : goal.returns
returns c = host_advances (asked_lent c.args.graph c.args.settings c.args.count) c.args.«record» c.unpack.ensures c.advance-answer.ensures c.pack_advanced.ensures
