use Rattle.decoding.specs.Decoding.{Memory}
use Rattle.decoding.specs.Frames.{frame_lent, memory}
use Rattle.decoder.proofs.Deciding.{decode_ready, decode_long}
use Rattle.pausing.proofs.begin.Goals as goal

pub begin_within-requires : goal.begin_within-requires
begin_within-requires c =
    let M : Memory = let a = c.args in memory a.levels.now a.variable_messages.now a.check_messages.now a.sums.now a.bits.now in
    record {
      ready = decode_ready (frame_lent c.args.frame) M c.accept.ensures c.in_ok-settings.was;
      long = decode_long (frame_lent c.args.frame) M c.accept.ensures c.in_ok-settings.was;
    }
