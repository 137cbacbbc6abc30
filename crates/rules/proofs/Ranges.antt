-- Laws of folds, of `first`, and of lists made by `joined` and `tabulate`.
use mathlib.Core.Path.{◌≡◌, refl, sym, ap, ap₂, ◌∙◌, subst⁻¹}
use mathlib.Core.Bool.{Bool, true, false, cond}
use mathlib.Core.Logic.{◌≢◌, ⊎_elim}
use mathlib.Core.List.{List, [], ◌∷◌, ◌++◌, append_assoc, append-nil}
use Prim.Native.Nat.{ℕ, zero, suc, ◌+◌, ◌*◌, ◌≤◌, ◌<◌, min}
use native.Mathlib.Decide.{ℕ_discrete, dec_lt}
use native.Mathlib.Nat.{zero-add, mul-zero, eq-or-lt_of_le, le_of_suc-le-suc}
use native.Mathlib.Numerals.{add-one}
use native.Mathlib.Omega.{arith}
use borrow.Author.Tests.{eq-eqb, ne_eqb}
use lib.ListN.{length, get_or, drop, set, length-append, get_or-append}
use lib.Seq.{drop-cons, set_at, get_or-append-add}
use Rattle.rules.specs.Ranges.{fold, but, one, count, joined, tabulate, first}

-- ---- folds

module _ {A : Type 0} (op : A → A → A) (z : A) where
  pub fold_none : (f : ℕ → A) (a : ℕ) → fold op z f a 0 ≡ z
  unfolding fold
  fold_none f a = refl

  -- one number more, as a loop that counts from 0 passes it
  pub fold_next : (f : ℕ → A) (n : ℕ) → fold op z f 0 (n + 1) ≡ op (fold op z f 0 n) (f n)
  unfolding fold
  fold_next f n = rw (add-one n) (ap (λ k. op (fold op z f 0 n) (f k)) (zero-add n))

  pub fold_ext : (f g : ℕ → A) (a n : ℕ) → ((k : ℕ) → a ≤ k → k < a + n → f k ≡ g k) → fold op z f a n ≡ fold op z g a n
  unfolding fold
  fold_ext f g a zero h = refl
  fold_ext f g a (suc n) h = ap₂ op (fold_ext f g a n (λ k l u. h k l (omega arith))) (h (a + n) (omega arith) (omega arith))

-- a map that respects the operations goes under the fold
pub fold_map : {A B : Type 0} (op : A → A → A) (z : A) (op' : B → B → B) (z' : B) (h : A → B) → h z ≡ z'
    → ((x y : A) → h (op x y) ≡ op' (h x) (h y)) → (f : ℕ → A) (a n : ℕ) → h (fold op z f a n) ≡ fold op' z' (λ k. h (f k)) a n
unfolding fold
fold_map op z op' z' h hz hop f a zero = hz
fold_map op z op' z' h hz hop f a (suc n) =
    hop (fold op z f a n) (f (a + n)) ∙ ap (λ x. op' x (h (f (a + n)))) (fold_map op z op' z' h hz hop f a n)

pub but_same : {A : Type 0} (z : A) (e : ℕ) (f : ℕ → A) → but z e f e ≡ z
unfolding but
but_same z e f = rw (eq-eqb e e refl)

pub but_other : {A : Type 0} (z : A) (e : ℕ) (f : ℕ → A) (k : ℕ) → k ≢ e → but z e f k ≡ f k
unfolding but
but_other z e f k h = rw (ne_eqb k e h)

pub record Monoid {A : Type 0} (op : A → A → A) (z : A) : Type 0 where
  pub assoc : (x y w : A) → op (op x y) w ≡ op x (op y w)
  pub comm : (x y : A) → op x y ≡ op y x
  pub idr : (x : A) → op x z ≡ x

module _ {A : Type 0} (op : A → A → A) (z : A) (M : Monoid op z) where
  swap_mid : (x y u v : A) → op (op x y) (op u v) ≡ op (op x u) (op y v)
  swap_mid x y u v =
      M.assoc x y (op u v) ∙ ap (op x) (sym (M.assoc y u v) ∙ ap (λ w. op w v) (M.comm y u) ∙ M.assoc u y v)
      ∙ sym (M.assoc x u (op y v))

  -- the fold of two combined functions
  pub fold_both : (f g : ℕ → A) (a n : ℕ) → fold op z (λ k. op (f k) (g k)) a n ≡ op (fold op z f a n) (fold op z g a n)
  unfolding fold
  fold_both f g a zero = sym (M.idr z)
  fold_both f g a (suc n) =
      ap (λ x. op x (op (f (a + n)) (g (a + n)))) (fold_both f g a n)
      ∙ swap_mid (fold op z f a n) (fold op z g a n) (f (a + n)) (g (a + n))

  -- one number taken out and put back
  pub fold_but : (e : ℕ) (f : ℕ → A) (a n : ℕ) → a ≤ e → e < a + n → fold op z f a n ≡ op (fold op z (but z e f) a n) (f e)
  unfolding fold
  fold_but e f a zero l u = absurd (omega arith)
  fold_but e f a (suc n) l u = go (ℕ_discrete (a + n) e) (fold_but e f a n l)
    where
      go : Dec (a + n ≡ e) → (e < a + n → fold op z f a n ≡ op (fold op z (but z e f) a n) (f e))
          → op (fold op z f a n) (f (a + n)) ≡ op (op (fold op z (but z e f) a n) (but z e f (a + n))) (f e)
      go (yes q) ih =
          rw (q, but_same z e f, M.idr (fold op z (but z e f) a n), fold_ext op z (but z e f) f a n (λ k lo hi. but_other z e f k (omega arith)))
      go (no q) ih =
          rw (
            but_other z e f (a + n) q,
            ih (omega arith),
            M.assoc (fold op z (but z e f) a n) (f e) (f (a + n)),
            M.assoc (fold op z (but z e f) a n) (f (a + n)) (f e),
            M.comm (f e) (f (a + n)),
          )

-- numbered from a, or from 0
pub fold_shift : {A : Type 0} (op : A → A → A) (z : A) (f : ℕ → A) (a n : ℕ) → fold op z f a n ≡ fold op z (λ k. f (a + k)) 0 n
unfolding fold
fold_shift op z f a zero = refl
fold_shift op z f a (suc n) = ap₂ op (fold_shift op z f a n) (ap (λ k. f (a + k)) (sym (zero-add n)))

-- ---- the least

module _ (f : ℕ → ℕ) (z a : ℕ) where
  pub least_below : (n k : ℕ) → a ≤ k → k < a + n → fold min z f a n ≤ f k
  unfolding fold
  least_below zero k l u = absurd (omega arith)
  least_below (suc n) k l u = go (ℕ_discrete k (a + n)) (least_below n k l)
    where
      go : Dec (k ≡ a + n) → (k < a + n → fold min z f a n ≤ f k) → min (fold min z f a n) (f (a + n)) ≤ f k
      go (yes p) ih = rw p (omega arith)
      go (no p) ih = omega (arith, ih (omega arith))

-- ---- counts

pub count_none : (test : ℕ → Bool) → count test 0 0 ≡ 0
unfolding count
count_none test = fold_none ◌+◌ 0 (λ k. one (test k)) 0

pub count_next : (test : ℕ → Bool) (n : ℕ) → count test 0 (n + 1) ≡ count test 0 n + one (test n)
unfolding count
count_next test n = fold_next ◌+◌ 0 (λ k. one (test k)) n

pub count_ext : (f g : ℕ → Bool) (n : ℕ) → ((k : ℕ) → k < n → f k ≡ g k) → count f 0 n ≡ count g 0 n
unfolding count
count_ext f g n h = fold_ext ◌+◌ 0 (λ k. one (f k)) (λ k. one (g k)) 0 n (λ k l u. ap one (h k (omega arith)))

one_le : (b : Bool) → one b ≤ 1
one_le true = omega arith
one_le false = omega arith

pub count_le : (test : ℕ → Bool) (a n : ℕ) → count test a n ≤ n
unfolding count fold
count_le test a zero = omega arith
count_le test a (suc n) = omega (arith, count_le test a n, one_le (test (a + n)))

-- nothing is counted exactly when every test fails
pub count_zero : (test : ℕ → Bool) (n : ℕ) → ((k : ℕ) → k < n → test k ≡ false) → count test 0 n ≡ 0
unfolding count fold
count_zero test zero h = refl
count_zero test (suc n) h = omega (arith, count_zero test n (λ k l. h k (omega arith)), ap one (h (0 + n) (omega arith)))

pub zero_count : (test : ℕ → Bool) (n : ℕ) → count test 0 n ≡ 0 → (k : ℕ) → k < n → test k ≡ false
unfolding count fold
zero_count test zero e k l = absurd (omega arith)
zero_count test (suc n) e k l = go (ℕ_discrete k n) (zero_count test n (omega arith) k)
  where
    none : (b : Bool) → one b ≡ 0 → b ≡ false
    none true h = absurd (omega arith)
    none false h = refl

    go : Dec (k ≡ n) → (k < n → test k ≡ false) → test k ≡ false
    go (yes p) ih = none (test k) (ap (λ j. one (test j)) (p ∙ sym (zero-add n)) ∙ omega arith)
    go (no p) ih = ih (omega arith)

-- ---- the first number at which a test holds

pub record First (test : ℕ → Bool) (t n r : ℕ) : Type 0 where
  pub low : t ≤ r
  pub high : r ≤ t + n
  pub before : (k : ℕ) → t ≤ k → k < r → test k ≡ false
  pub found : r < t + n → test r ≡ true

pub first_is : (test : ℕ → Bool) (t n : ℕ) → First test t n (first test t n)
unfolding first
first_is test t zero = record { low = omega arith; high = omega arith; before = λ k l u. absurd (omega arith); found = λ u. absurd (omega arith) }
first_is test t (suc n) = go (test t) refl (first_is test (suc t) n)
  where
    go : (b : Bool) → test t ≡ b → First test (suc t) n (first test (suc t) n) → First test t (suc n) (cond b t (first test (suc t) n))
    go true p f = record { low = omega arith; high = omega arith; before = λ k l u. absurd (omega arith); found = λ u. p }
    go false p f = record {
      low = omega (arith, f.low);
      high = omega (arith, f.high);
      before = λ k l u. earlier k l u (ℕ_discrete k t);
      found = λ u. f.found (omega arith);
    }
      where
        earlier : (k : ℕ) → t ≤ k → k < first test (suc t) n → Dec (k ≡ t) → test k ≡ false
        earlier k l u (yes q) = ap test q ∙ p
        earlier k l u (no q) = f.before k (omega arith) u

-- two numbers that are first are equal
pub first_only : {test : ℕ → Bool} {t n r s : ℕ} → First test t n r → First test t n s → r ≡ s
first_only {test} {t} {n} {r} {s} a b = go (dec_lt r s) (dec_lt s r)
  where
    clash : (b : Bool) → b ≡ true → b ≡ false → ⊥
    clash b p q = let z : ◌≡◌ {A = Bool} true false = sym p ∙ q in let y : ◌≡◌ {A = ℕ} 0 1 = cc in absurd (omega arith)

    less : {r s : ℕ} → First test t n r → First test t n s → r < s → ⊥
    less {r} {s} a b l = clash (test r) (a.found (omega (arith, b.high))) (b.before r a.low l)

    go : Dec (r < s) → Dec (s < r) → r ≡ s
    go (yes p) q = absurd (less a b p)
    go (no p) (yes q) = absurd (less b a q)
    go (no p) (no q) = omega arith

pub first_ext : (f g : ℕ → Bool) → ((t : ℕ) → f t ≡ g t) → (t n : ℕ) → first f t n ≡ first g t n
unfolding first
first_ext f g h t zero = refl
first_ext f g h t (suc n) = rw (h t, first_ext f g h (suc t) n)

-- ---- lists

module _ {A : Type 0} where
  pub joined_none : (f : ℕ → List A) (l : List A) → l ≡ joined f 0 ++ l
  unfolding joined
  joined_none f l = refl

  pub joined_ext : (f g : ℕ → List A) (n : ℕ) → ((k : ℕ) → k < n → f k ≡ g k) → joined f n ≡ joined g n
  unfolding joined
  joined_ext f g zero h = refl
  joined_ext f g (suc n) h = ap₂ ◌++◌ (joined_ext f g n (λ k l. h k (omega arith))) (h n (omega arith))

  module _ (w : ℕ) (f : ℕ → List A) (wide : (k : ℕ) → length (f k) ≡ w) where
    pub length_joined : (n : ℕ) → length (joined f n) ≡ w * n
    unfolding joined
    length_joined zero = sym (mul-zero w)
    length_joined (suc n) = length-append (joined f n) (f n) ∙ omega (arith, length_joined n, wide n)

    -- element r of list j, whatever follows
    pub get_or_joined : (n : ℕ) (t : List A) (j r : ℕ) (d : A) → j < n → r < w → get_or (joined f n ++ t) (w * j + r) d ≡ get_or (f j) r d
    unfolding joined
    get_or_joined zero t j r d l h = absurd (omega arith)
    get_or_joined (suc n) t j r d l h = rw append_assoc (⊎_elim here (λ e. get_or_joined n (f n ++ t) j r d e h) (eq-or-lt_of_le (le_of_suc-le-suc l)))
      where
        here : j ≡ n → get_or (joined f n ++ (f n ++ t)) (w * j + r) d ≡ get_or (f j) r d
        here e = subst⁻¹ (λ (x : ℕ). get_or (joined f n ++ (f n ++ t)) (w * x + r) d ≡ get_or (f x) r d) e
            (rw (← length_joined n, get_or-append-add) (get_or-append (f n) t d r (omega (arith, wide n))))

  pub length_tabulate : (f : ℕ → A) (n : ℕ) → length (tabulate f n) ≡ n
  unfolding tabulate
  length_tabulate f n = length_joined 1 (λ k. f k ∷ []) (λ k. refl) n ∙ omega arith

  pub tabulate_none : (f : ℕ → A) (l : List A) → l ≡ tabulate f 0 ++ l
  unfolding tabulate
  tabulate_none f l = joined_none (λ k. f k ∷ []) l

  pub tabulate_ext : (f g : ℕ → A) (n : ℕ) → ((k : ℕ) → k < n → f k ≡ g k) → tabulate f n ≡ tabulate g n
  unfolding tabulate
  tabulate_ext f g n h = joined_ext (λ k. f k ∷ []) (λ k. g k ∷ []) n (λ k l. ap (λ x. x ∷ []) (h k l))

  pub get_d_front : (f : ℕ → A) (n : ℕ) (t : List A) (j : ℕ) (d : A) → j < n → get_or (tabulate f n ++ t) j d ≡ f j
  unfolding tabulate
  get_d_front f n t j d l =
      ap (λ (k : ℕ). get_or (joined (λ k. f k ∷ []) n ++ t) k d) (omega arith)
      ∙ get_or_joined 1 (λ k. f k ∷ []) (λ k. refl) n t j 0 d l (omega arith)

  pub get_d_tabulate : (f : ℕ → A) (n j : ℕ) (d : A) → j < n → get_or (tabulate f n) j d ≡ f j
  get_d_tabulate f n j d l = ap (λ x. get_or x j d) (sym (append-nil (tabulate f n))) ∙ get_d_front f n [] j d l

  -- a loop that fills a list: one place more
  pub tabulate_more : (f : ℕ → A) (old : List A) (i : ℕ) → i < length old
      → set (tabulate f i ++ drop i old) i (f i) ≡ tabulate f (i + 1) ++ drop (i + 1) old
  unfolding tabulate joined
  tabulate_more f old i l =
      rw (drop-cons old i (f i) l, set_at (tabulate f i) (get_or old i (f i)) (drop (suc i) old) (f i) i (length_tabulate f i), add-one i, append_assoc)
