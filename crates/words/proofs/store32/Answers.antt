use mathlib.Core.Path.{◌≡◌, sym, ◌∙◌}
use Prim.Native.Nat.{◌+◌, ◌-◌, ◌/◌}
use native.Mathlib.Omega.{arith}
use lib.Seq.{drop-drop}
use Rattle.words.specs.Words.{bytes}
use Rattle.words.proofs.Words.{stored_is}
use Rattle.words.proofs.store32.Goals as goal

pub returns : goal.returns
unfolding bytes
returns c =
    let x = c.args.x in
    let four : c.args.k + 4 - c.args.k ≡ 4 = omega arith in
    let third : x / 256 / 256 ≡ x / 65536 = omega arith in
    let fourth : x / 256 / 256 / 256 ≡ x / 16777216 = omega arith in
    let put : c.copy_from_slice.new.self ≡ bytes 4 x = c.copy_from_slice.ensures.after ∙ c.to_le_bytes.ensures ∙ rw (fourth, third) in
    rw (four, put, drop-drop) (sym (stored_is 4 c.args.b.now c.args.k x (omega arith)))
