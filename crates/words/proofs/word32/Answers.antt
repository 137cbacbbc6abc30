use mathlib.Core.Path.{ap}
use Prim.Native.Nat.{ℕ}
use native.Mathlib.Numerals.{add-one, add-two, add-three}
use native.Mathlib.Omega.{arith}
use lib.ListN.{get_or}
use Rattle.words.specs.Words.{word}
use Rattle.words.proofs.word32.Goals as goal

pub returns : goal.returns
unfolding word
returns c =
    let a = c.args in
    let at : ℕ → ℕ = λ j. get_or a.b.now j 0 in
    omega (arith, ap at (add-one a.k), ap at (add-two a.k), ap at (add-three a.k))
