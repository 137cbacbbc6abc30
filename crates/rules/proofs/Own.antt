-- The recipient's own message is not counted; a level and its byte determine each other.
use mathlib.Core.Path.{◌≡◌, refl, sym, ap, ap₂, ◌∙◌}
use mathlib.Core.Bool.{Bool, true, false, cond, xor}
use mathlib.Core.Logic.{◌≢◌}
use Prim.Native.Nat.{ℕ, zero, suc, ◌+◌, ◌-◌, ◌%◌, ◌≤◌, ◌<◌, min}
use native.Mathlib.Decide.{ℕ_discrete}
use native.Mathlib.Omega.{arith}
use borrow.Author.Tests.{le-leb, lt-leb, leb-true, leb-false}
use lib.Dec.{eqb, leb, lit≤}
use lib.IntN.{pos, ◌+ℤ◌}
use lib.Pow.{pow_mono}
use Rattle.rules.specs.Ranges.{but}
use Rattle.rules.specs.Levels.{Level, byte, level_of, largest}
use Rattle.rules.specs.Graphs.{Graph, check_degree, check_of}
use Rattle.rules.specs.Nodes.{others, from_check, contribution, channel_part, share, outgoing_sum}
use Rattle.rules.specs.Theorems.{LevelBytes, OwnUncounted}
use Rattle.rules.proofs.Ranges.{but_same, but_other, fold_ext}

-- two functions that differ at e alone, with e left out
but_ext : {A : Type 0} (z : A) (e : ℕ) (f g : ℕ → A) → ((k : ℕ) → k ≢ e → f k ≡ g k) → (k : ℕ) → but z e f k ≡ but z e g k
but_ext z e f g h k = go (ℕ_discrete k e)
  where
    go : Dec (k ≡ e) → but z e f k ≡ but z e g k
    go (yes p) = rw p (but_same z e f ∙ sym (but_same z e g))
    go (no p) = but_other z e f k p ∙ h k p ∙ sym (but_other z e g k p)

others_ext : {A : Type 0} (G : Graph) (op : A → A → A) (z : A) (f g : ℕ → A) (e : ℕ) → ((k : ℕ) → k ≢ e → f k ≡ g k) → others G op z f e ≡ others G op z g e
unfolding others
others_ext G op z f g e h =
    fold_ext op z (but z e f) (but z e g) (G.start (check_of G e)) (check_degree G (check_of G e)) (λ k l u. but_ext z e f g h k)

pub own_uncounted : OwnUncounted
unfolding from_check outgoing_sum share
own_uncounted G e m m' h = record {
  check = ap₂ level (others_ext G xor false (λ k. (m' k).minus) (λ k. (m k).minus) e (λ k n. ap (λ l. l.minus) (h k n)))
      (others_ext G min 127 (λ k. (m' k).magnitude) (λ k. (m k).magnitude) e (λ k n. ap (λ l. l.magnitude) (h k n)));
  variable = λ y. ap (channel_part G y v +ℤ◌) (fold_ext ◌+ℤ◌ (pos 0) (but (pos 0) e (share G m' v)) (but (pos 0) e (share G m v)) 0 G.entries
      (λ k l u. but_ext (pos 0) e (share G m' v) (share G m v) (λ k n. ap (λ x. cond (eqb (G.column k) v) (contribution 1 x) (pos 0)) (h k n)) k));
}
  where
    v : ℕ
    v = G.column e

    level : Bool → ℕ → Level
    level b n = record { minus = b; magnitude = n }

pub level_bytes : LevelBytes
unfolding byte level_of
level_bytes = (there, back)
  where
    level : Bool → ℕ → Level
    level b n = record { minus = b; magnitude = n }

    go : (b : Bool) (n : ℕ) → n < 128 → level (leb 128 (n + cond b 128 0)) ((n + cond b 128 0) % 128) ≡ level b n
    go true n h = ap₂ level (le-leb 128 (n + 128) (omega arith)) (omega arith)
    go false n h = ap₂ level (lt-leb 128 (n + 0) (omega arith)) (omega arith)

    there : (l : Level) → l.magnitude < 128 → level_of (byte l) ≡ l
    there l h = go l.minus l.magnitude h

    back : (b : ℕ) → b < 256 → byte (level_of b) ≡ b
    back b h = by (leb 128 b) refl
      where
        by : (t : Bool) → leb 128 b ≡ t → b % 128 + cond t 128 0 ≡ b
        by true p = omega (arith, leb-true 128 b p)
        by false p = omega (arith, leb-false 128 b p)

-- the largest magnitude of a precision up to 4 bits
pub largest_within : (bits : ℕ) → bits ≤ 4 → largest bits ≤ 7
largest_within zero l = lit≤ tt
largest_within (suc zero) l = lit≤ tt
largest_within (suc (suc zero)) l = lit≤ tt
largest_within (suc (suc (suc zero))) l = lit≤ tt
largest_within (suc (suc (suc (suc zero)))) l = lit≤ tt
largest_within (suc (suc (suc (suc (suc n))))) l = absurd (omega arith)

-- and of one from 2 bits on
pub largest_some : (bits : ℕ) → 2 ≤ bits → 1 ≤ largest bits
largest_some bits l = omega (arith, pow_mono {i = 1} {j = bits - 1} (omega arith))
