use mathlib.Core.Path.{refl, sym, subst}
use lib.ListN.{length}
use Rattle.decoding.specs.Decoding.{Memory, room_of, decode_finds}
use Rattle.decoding.specs.Frames.{frame_lent, memory}
use Rattle.interface.specs.Packing.{Small}
use Rattle.interface.proofs.Smallness.{decoded_small, host_decodes}
use Rattle.host.proofs.frame_decode.Goals as goal

pub pack_decoded-requires : goal.pack_decoded-requires
pack_decoded-requires c =
    let f = frame_lent c.args.frame in
    let M : Memory = let a = c.args in memory a.levels.now a.variable_messages.now a.check_messages.now a.sums.now a.bits.now in
    let d = length c.args.degrees.now in
    subst Small (sym c.decode-answer.ensures.answer) (decoded_small f d (room_of M) (decode_finds f d (room_of M)) refl)

pub returns : goal.returns
returns c = host_decodes c.decode-answer.ensures c.pack_decoded.ensures
