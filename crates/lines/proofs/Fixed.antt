-- A fixed text against a text, one byte on.
use mathlib.Core.Path.{◌≡◌, ap}
use mathlib.Core.List.{List}
use Prim.Native.Nat.{ℕ, ◌+◌, ◌≤◌, ◌<◌}
use native.Mathlib.Omega.{arith}
use lib.ListN.{length, drop, get_or, drop_of_length-le}
use borrow.Author.Tests.{eq-eqb, ne_eqb}
use Rattle.texts.specs.Numbers.{other, value}
use Rattle.texts.specs.Lines.{fixed}
use Rattle.texts.proofs.Places.{here}

module _ (x s : List ℕ) (j i : ℕ) where
  pub fixed_end : length x ≤ j → fixed (drop j x) (drop i s) ≡ value tt (drop i s)
  unfolding fixed
  fixed_end h = rw (drop_of_length-le x h)

  pub fixed_short : j < length x → length s ≤ i → fixed (drop j x) (drop i s) ≡ other
  unfolding fixed
  fixed_short h k = rw (here x j h, drop_of_length-le s k)

  pub fixed_not : j < length x → i < length s → (get_or s i 0 ≡ get_or x j 0 → ⊥) → fixed (drop j x) (drop i s) ≡ other
  unfolding fixed
  fixed_not h k n = rw (here x j h, here s i k, ne_eqb (get_or s i 0) (get_or x j 0) n)

module _ (x s : List ℕ) (at : ℕ) where
  pub fixed_none : fixed x (drop at s) ≡ fixed (drop 0 x) (drop (at + 0) s)
  fixed_none = ap (λ k. fixed x (drop k s)) (omega arith)

  pub fixed_on : (j : ℕ) → j < length x → at + j < length s → get_or s (at + j) 0 ≡ get_or x j 0
      → fixed (drop j x) (drop (at + j) s) ≡ fixed (drop (j + 1) x) (drop (at + (j + 1)) s)
  unfolding fixed
  fixed_on j h k e =
      let next : at + j + 1 ≡ at + (j + 1) = omega arith in
      rw (here x j h, here s (at + j) k, eq-eqb (get_or s (at + j) 0) (get_or x j 0) e, next)
