use Rattle.decoding.specs.Decoding.{Memory}
use Rattle.decoding.specs.Frames.{frame_lent, memory}
use Rattle.decoder.proofs.Deciding.{decode_ready, decode_long, decode_degrees}
use Rattle.decoder.proofs.decode.Goals as goal

pub decode_within-requires : goal.decode_within-requires
decode_within-requires c =
    let M : Memory = let a = c.args in memory a.levels.now a.variable_messages.now a.check_messages.now a.sums.now a.bits.now in
    let ready = decode_ready (frame_lent c.args.frame) M c.accept.ensures c.in_ok-settings.was in
    record {
      ready = ready;
      degrees = decode_degrees (frame_lent c.args.frame) M c.accept.ensures c.in_ok-settings.was;
      long = decode_long (frame_lent c.args.frame) M c.accept.ensures c.in_ok-settings.was;
    }
