-- The text of a number, by its last digit; and that what is read at the front of a text is what was written there.
use mathlib.Core.Path.{◌≡◌, refl, sym, ap, ◌∙◌, subst}
use mathlib.Core.Bool.{Bool, true, false, cond, ◌&&◌}
use mathlib.Core.List.{List, [], ◌∷◌, ◌++◌, append_assoc}
use Prim.Native.Nat.{ℕ, zero, suc, ◌+◌, ◌-◌, ◌*◌, ◌/◌, ◌%◌, ◌≤◌, ◌<◌}
use native.Mathlib.Nat.{not-suc-le-zero}
use native.Mathlib.Omega.{arith}
use lib.Dec.{T, leb, ltb, eqb}
use borrow.Author.Tests.{lt-ltb, le-ltb, le-leb, ne_eqb, leb-true, ltb-true, ltb-false, eqb-true, eqb-false}
use Rattle.texts.specs.Numbers.{digits, decimal, other, value, digit, more, number}

-- ---- the text of a number

digits_enough : (f g k : ℕ) → k < f → k < g → digits f k ≡ digits g k
unfolding digits
digits_enough zero g k h1 h2 = absurd (not-suc-le-zero h1)
digits_enough (suc f) zero k h1 h2 = absurd (not-suc-le-zero h2)
digits_enough (suc f) (suc g) k h1 h2 = go (digits_enough f g (k / 10)) (ltb k 10) refl
  where
    go : (k / 10 < f → k / 10 < g → digits f (k / 10) ≡ digits g (k / 10)) → (b : Bool) → ltb k 10 ≡ b → digits (suc f) k ≡ digits (suc g) k
    go ih true e = simp e
    go ih false e =
        let l : 10 ≤ k = ltb-false k 10 e in
        rw e (ap (λ (x : List ℕ). x ++ ((48 + k % 10) ∷ [])) (ih (omega arith) (omega arith)))

pub decimal_digit : (k : ℕ) → k < 10 → decimal k ≡ (48 + k) ∷ []
unfolding decimal digits
decimal_digit k h = simp (lt-ltb k 10 h)

pub decimal_push : (q d : ℕ) → 0 < q → d < 10 → decimal (q * 10 + d) ≡ decimal q ++ ((48 + d) ∷ [])
unfolding decimal digits
decimal_push q d hq hd =
    let e1 : (q * 10 + d) / 10 ≡ q = omega arith in
    let e2 : (q * 10 + d) % 10 ≡ d = omega arith in
    rw (le-ltb (q * 10 + d) 10 (omega arith), e1, e2)
    (ap (λ (x : List ℕ). x ++ ((48 + d) ∷ [])) (digits_enough (q * 10 + d) (suc q) q (omega arith) (omega arith)))

pub decimal_more : (k : ℕ) → 10 ≤ k → decimal k ≡ decimal (k / 10) ++ ((48 + k % 10) ∷ [])
decimal_more k h =
    let s : k / 10 * 10 + k % 10 ≡ k = omega arith in
    ap decimal (sym s) ∙ decimal_push (k / 10) (k % 10) (omega arith) (omega arith)

-- ---- digits

pub digit_true : (b : ℕ) → 48 ≤ b → b ≤ 57 → digit b ≡ true
digit_true b h1 h2 = rw (le-leb 48 b h1) (le-leb b 57 h2)

pub digit_told : (b : ℕ) → digit b ≡ true → (48 ≤ b) × (b ≤ 57)
digit_told b e = go (leb 48 b) refl e
  where
    go : (c : Bool) → leb 48 b ≡ c → c && leb b 57 ≡ true → (48 ≤ b) × (b ≤ 57)
    go true e1 e2 = (leb-true 48 b e1, leb-true b 57 e2)
    go false e1 e2 = absurd (subst T (sym e2) tt)

-- ---- reading what was written

more_digit : (v d : ℕ) (t : List ℕ) → d < 10 → more v ((48 + d) ∷ t) ≡ more (v * 10 + d) t
unfolding more
more_digit v d t h =
    let e : 48 + d - 48 ≡ d = omega arith in
    rw (digit_true (48 + d) (omega arith) (omega arith), e)

number_digit : (k : ℕ) (t : List ℕ) → 0 < k → k < 10 → number ((48 + k) ∷ t) ≡ more k t
unfolding number
number_digit k t h1 h2 =
    let e : 48 + k - 48 ≡ k = omega arith in
    rw (ne_eqb (48 + k) 48 (λ q. omega arith), digit_true (48 + k) (omega arith) (omega arith), e)

-- a text that begins with the digits of k
number_begun : (f k : ℕ) (t : List ℕ) → k < f → 0 < k → number (decimal k ++ t) ≡ more k t
number_begun zero k t h p = absurd (not-suc-le-zero h)
number_begun (suc f) k t h p = go (number_begun f (k / 10) ((48 + k % 10) ∷ t)) (ltb k 10) refl
  where
    go : (k / 10 < f → 0 < k / 10 → number (decimal (k / 10) ++ ((48 + k % 10) ∷ t)) ≡ more (k / 10) ((48 + k % 10) ∷ t))
        → (b : Bool) → ltb k 10 ≡ b → number (decimal k ++ t) ≡ more k t
    go ih true e = let l : k < 10 = ltb-true k 10 e in rw (decimal_digit k l) (number_digit k t p l)
    go ih false e =
        let l : 10 ≤ k = ltb-false k 10 e in
        let s : k / 10 * 10 + k % 10 ≡ k = omega arith in
        ap (λ (x : List ℕ). number (x ++ t)) (decimal_more k l)
        ∙ ap number (append_assoc (decimal (k / 10)) ((48 + k % 10) ∷ []) t)
        ∙ ih (omega arith) (omega arith)
        ∙ more_digit (k / 10) (k % 10) t (omega arith)
        ∙ ap (λ (j : ℕ). more j t) s

-- the text of k before a byte that is no digit is read as k
pub number_decimal : (k b : ℕ) (t : List ℕ) → digit b ≡ false → number (decimal k ++ (b ∷ t)) ≡ value k (b ∷ t)
unfolding number more decimal digits
number_decimal zero b t h = refl
number_decimal (suc k) b t h = number_begun (suc (suc k)) (suc k) (b ∷ t) (omega arith) (omega arith) ∙ rw h

-- ---- what is read was written

more_text : (v w : ℕ) (t r : List ℕ) → 0 < v → more v t ≡ value w r → decimal v ++ t ≡ decimal w ++ r
unfolding more
more_text v w [] r p e = cc
more_text v w (b ∷ t) r p e = go (more_text (v * 10 + (b - 48)) w t r) (digit b) refl e
  where
    go : (0 < v * 10 + (b - 48) → more (v * 10 + (b - 48)) t ≡ value w r → decimal (v * 10 + (b - 48)) ++ t ≡ decimal w ++ r)
        → (c : Bool) → digit b ≡ c → cond c (more (v * 10 + (b - 48)) t) (value v (b ∷ t)) ≡ value w r → decimal v ++ (b ∷ t) ≡ decimal w ++ r
    go ih true d q =
        let l = digit_told b d in
        let s : 48 + (b - 48) ≡ b = omega (arith, l.0) in
        ap (λ (j : ℕ). decimal v ++ (j ∷ t)) (sym s)
        ∙ sym (append_assoc (decimal v) ((48 + (b - 48)) ∷ []) t)
        ∙ ap (λ (x : List ℕ). x ++ t) (sym (decimal_push v (b - 48) p (omega (arith, l.1))))
        ∙ ih (omega arith) q
    go ih false d q = cc

-- a number that is read is written without leading zeros
pub number_text : (w : ℕ) (t r : List ℕ) → number t ≡ value w r → t ≡ decimal w ++ r
unfolding number decimal digits
number_text w [] r e = let z : ◌≡◌ {A = ℕ} 0 1 = cc in absurd (omega arith)
number_text w (b ∷ t) r e = go (eqb b 48) refl e
  where
    long : eqb b 48 ≡ false → (c : Bool) → digit b ≡ c → cond c (more (b - 48) t) other ≡ value w r → b ∷ t ≡ decimal w ++ r
    long n true d q =
        let l = digit_told b d in
        let s : 48 + (b - 48) ≡ b = omega (arith, l.0) in
        let p : 0 < b - 48 = omega (arith, eqb-false b 48 n, l.0) in
        ap (λ (j : ℕ). j ∷ t) (sym s)
        ∙ ap (λ (x : List ℕ). x ++ t) (sym (decimal_digit (b - 48) (omega (arith, l.1))))
        ∙ more_text (b - 48) w t r p q
    long n false d q = let z : ◌≡◌ {A = ℕ} 0 1 = cc in absurd (omega arith)

    go : (c : Bool) → eqb b 48 ≡ c → cond c (value 0 t) (cond (digit b) (more (b - 48) t) other) ≡ value w r → b ∷ t ≡ decimal w ++ r
    go true h q =
        let e1 : 0 ≡ w = cc in
        let e2 : t ≡ r = cc in
        let e3 : b ≡ 48 = eqb-true b 48 h in
        rw (e3, e2, ← e1)
    go false h q = long h (digit b) refl q
