use mathlib.Core.Path.{ap}
use Prim.Native.Nat.{ℕ, ◌*◌}
use native.Mathlib.Numerals.{add-one}
use native.Mathlib.Omega.{arith}
use lib.ListN.{get_or}
use Rattle.words.specs.Words.{word}
use Rattle.words.proofs.position.Goals as goal

pub returns : goal.returns
unfolding word
returns c = let a = c.args in omega (arith, c.from_le_bytes.ensures, ap (λ (j : ℕ). get_or a.positions.now j 0) (add-one (2 * a.k)))
