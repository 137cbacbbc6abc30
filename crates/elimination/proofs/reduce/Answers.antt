use mathlib.Core.Path.{sym, ◌∙◌}
use Prim.Native.Nat.{ℕ, ◌*◌}
use lib.ListN.{length-append, length-take}
use native.Mathlib.Omega.{arith}
use borrow.Author.Rules.{rules}
use Rattle.elimination.specs.Rows.{width, bit_in}
use Rattle.elimination.proofs.Systems.{top_is}
use Rattle.elimination.proofs.Bytes.{row_fits, copied}
use Rattle.elimination.proofs.Steps.{reduce_none, reduce_more}
use Rattle.elimination.proofs.reduce.Goals as goal

pub returns-then-h-eq0 : goal.returns-then-h-eq0
returns-then-h-eq0 c = reduce_none (omega arith) (sym c.highest-h.ensures ∙ c.if-h-eq0.true) c.bit.ensures

pub clear_others-requires : goal.clear_others-requires
clear_others-requires c =
    let a = c.args in
    let t = top_is a.n (bit_in a.work.now (width a.n * a.i)) in
    let copy = copied a.n a.i _ a.work.now (omega (arith, row_fits (width a.n) a.i a.m (omega arith))) c.copy_from_slice.ensures.after in
    (search rules, omega (arith, length-append {A = ℕ}, length-take {A = ℕ}, c.copy_from_slice.ensures.len), omega (arith, c.highest-h.ensures, t.high), λ u p q. copy u (omega arith) ∙ t.above u (omega (arith, c.highest-h.ensures)) q, copy)

pub returns : goal.returns
returns c = reduce_more (omega arith) c.if-h-eq0.false c.highest-h.ensures c.clear_others.ensures
