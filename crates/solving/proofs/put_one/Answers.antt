use mathlib.Core.Path.{sym, ◌∙◌}
use Prim.Native.Nat.{◌*◌}
use native.Mathlib.Omega.{arith}
use Rattle.elimination.specs.Rows.{width, bit_in}
use Rattle.elimination.proofs.Systems.{top_is}
use Rattle.solving.proofs.Answering.{put_nothing, put_something, has_top}
use Rattle.solving.proofs.put_one.Goals as goal

pub returns-then-not-bit : goal.returns-then-not-bit
returns-then-not-bit c = put_nothing _ _ _ (sym c.bit.ensures ∙ c.if-not-bit.true)

pub bounds-codeword-h : goal.bounds-codeword-h
bounds-codeword-h c =
    let a = c.args in
    omega (arith, has_top _ c.requires.n_value (sym c.bit.ensures ∙ c.if-not-bit.false), c.highest-h.ensures, (top_is a.n (bit_in a.work.now (width a.n * a.i))).high)

pub returns : goal.returns
returns c = put_something _ _ _ (sym c.bit.ensures ∙ c.if-not-bit.false) c.highest-h.ensures
