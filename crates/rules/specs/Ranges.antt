-- Numbers in a range: combined, listed, and searched. Every sum, product, least, count and list of the rules is one of these.
use Rattle.std.specs.Prelude.{Bool, cond, List, [], ◌∷◌, ◌++◌, ℕ, zero, suc, ◌+◌, eqb}

module _ {A : Type 0} (op : A → A → A) (z : A) where
  -- f a, f (a + 1), .., f (a + n - 1) combined by op, beginning with z
  unfoldable pub fold : (ℕ → A) → ℕ → ℕ → A
  fold f a zero = z
  fold f a (suc n) = op (fold f a n) (f (a + n))

-- f, but z at e: a fold over it leaves the number e out
unfoldable pub but : {A : Type 0} → A → ℕ → (ℕ → A) → ℕ → A
but z e f k = cond (eqb k e) z (f k)

-- 1 where the test holds, else 0
abbrev pub one : Bool → ℕ
one b = cond b 1 0

-- how many of a, a + 1, .., a + n - 1 pass the test
unfoldable pub count : (ℕ → Bool) → ℕ → ℕ → ℕ
count test a n = fold ◌+◌ 0 (λ k. one (test k)) a n

-- the lists f 0, f 1, .., f (n - 1), one after the other
unfoldable pub joined : {A : Type 0} → (ℕ → List A) → ℕ → List A
joined f zero = []
joined f (suc n) = joined f n ++ f n

-- the list of f 0, f 1, .., f (n - 1)
unfoldable pub tabulate : {A : Type 0} → (ℕ → A) → ℕ → List A
tabulate f n = joined (λ k. f k ∷ []) n

-- the first of t, t + 1, .., t + n - 1 at which the test holds, else t + n
unfoldable pub first : (ℕ → Bool) → ℕ → ℕ → ℕ
first test t zero = t
first test t (suc n) = cond (test t) t (first test (suc t) n)
