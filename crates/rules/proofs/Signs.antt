-- Signs: the product of signs is an exclusive or, and what reversing a sign does to levels, sums and bits.
use mathlib.Core.Path.{◌≡◌, refl, sym, ap, ◌∙◌}
use mathlib.Core.Bool.{Bool, true, false, not, xor}
use mathlib.Core.Logic.{◌≢◌}
use Prim.Native.Nat.{ℕ, zero, suc, ◌+◌, ◌*◌}
use lib.IntN.{ℤ, pos, negsuc, ◌+ℤ◌, neg_ℤ-+ℤ, neg_ℤ-neg_ℤ}
use Rattle.rules.specs.Levels.{Level}
use Rattle.rules.specs.Nodes.{signed, contribution, bit_of, negative, Offsets, outgoing}
use Rattle.rules.specs.Symmetry.{turned, opposite}
use Rattle.rules.proofs.Ranges.{Monoid}

-- ---- exclusive or

xor_comm : (a b : Bool) → xor a b ≡ xor b a
unfolding xor
xor_comm true true = refl
xor_comm true false = refl
xor_comm false true = refl
xor_comm false false = refl

xor_assoc : (a b c : Bool) → xor (xor a b) c ≡ xor a (xor b c)
unfolding xor
xor_assoc true true true = refl
xor_assoc true true false = refl
xor_assoc true false true = refl
xor_assoc true false false = refl
xor_assoc false true true = refl
xor_assoc false true false = refl
xor_assoc false false true = refl
xor_assoc false false false = refl

pub xor_false : (a : Bool) → xor a false ≡ a
unfolding xor
xor_false true = refl
xor_false false = refl

pub false_xor : (a : Bool) → xor false a ≡ a
false_xor a = xor_comm false a ∙ xor_false a

pub xor_self : (a : Bool) → xor a a ≡ false
unfolding xor
xor_self true = refl
xor_self false = refl

pub xor_not : (a b : Bool) → xor a (not b) ≡ not (xor a b)
unfolding xor
xor_not true true = refl
xor_not true false = refl
xor_not false true = refl
xor_not false false = refl

pub xor_zero : (a b : Bool) → xor a b ≡ false → a ≡ b
unfolding xor
xor_zero true true h = refl
xor_zero true false h = h
xor_zero false true h = sym h
xor_zero false false h = refl

pub xor_cancel : (a b c : Bool) → xor a c ≡ xor b c → a ≡ b
xor_cancel a b c h = sym (back a) ∙ ap (λ x. xor x c) h ∙ back b
  where
    back : (a : Bool) → xor (xor a c) c ≡ a
    back a = xor_assoc a c c ∙ ap (xor a) (xor_self c) ∙ xor_false a

pub xor_monoid : Monoid xor false
xor_monoid = record { assoc = xor_assoc; comm = xor_comm; idr = xor_false }

-- ---- reversed signs

pub opposite_sum : (b : Bool) (x y : ℤ) → opposite b (x +ℤ y) ≡ opposite b x +ℤ opposite b y
opposite_sum false x y = refl
opposite_sum true x y = neg_ℤ-+ℤ x y

pub opposite_zero : (b : Bool) → opposite b (pos 0) ≡ pos 0
opposite_zero false = refl
opposite_zero true = refl

pub contribution_turned : (b : Bool) (e : ℕ) (l : Level) → contribution e (turned b l) ≡ opposite b (contribution e l)
unfolding contribution turned xor
contribution_turned b e l = go b l.minus (2 * l.magnitude + e)
  where
    go : (b m : Bool) (n : ℕ) → signed (xor b m) n ≡ opposite b (signed m n)
    go false false n = refl
    go false true n = refl
    go true false n = refl
    go true true n = sym (neg_ℤ-neg_ℤ (pos n))

pub bit_turned : (b : Bool) (s : ℤ) (m : Bool) → bit_of (opposite b s) (xor b m) ≡ xor b (bit_of s m)
unfolding xor
bit_turned false s m = rw (false_xor m, false_xor (bit_of s m))
bit_turned true (pos zero) m = refl
bit_turned true (pos (suc n)) m = refl
bit_turned true (negsuc n) m = refl

pub outgoing_turned : (Nq : ℕ) (φ : Offsets) (b : Bool) (U : ℤ) → U ≢ pos 0 → outgoing Nq φ (opposite b U) ≡ turned b (outgoing Nq φ U)
unfolding outgoing turned xor
outgoing_turned Nq φ false U h = rw (false_xor (negative U))
outgoing_turned Nq φ true (pos zero) h = absurd (h refl)
outgoing_turned Nq φ true (pos (suc n)) h = refl
outgoing_turned Nq φ true (negsuc n) h = refl
