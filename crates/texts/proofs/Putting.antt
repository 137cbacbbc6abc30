-- Texts that are put one after the other, and how long the text of a number is.
use mathlib.Core.Path.{◌≡◌, refl, sym, ap, ◌∙◌}
use mathlib.Core.List.{List, [], ◌∷◌, ◌++◌, append_assoc}
use Prim.Native.Nat.{ℕ, zero, suc, ◌+◌, ◌*◌, ◌/◌, ◌%◌, ◌^◌, ◌≤◌, ◌<◌}
use native.Mathlib.Decide.{dec_lt}
use native.Mathlib.Nat.{zero-add, add-zero, add-suc, suc-add, pow-zero, pow-suc}
use native.Mathlib.Numerals.{add-one}
use native.Mathlib.Omega.{arith}
use lib.ListN.{length, take, drop, get_or, set, length-append}
use lib.Seq.{sets, sets-eq, length-sets, take-suc, take_all}
use Rattle.texts.specs.Numbers.{decimal}
use Rattle.texts.specs.Putting.{Put, last_three}
use Rattle.texts.proofs.Numbers.{decimal_digit, decimal_more}

-- ---- lengths

pub one_digit : (k : ℕ) → k < 10 → length (decimal k) ≡ 1
one_digit k h = ap length (decimal_digit k h)

pub more_digits : (k : ℕ) → 10 ≤ k → length (decimal k) ≡ length (decimal (k / 10)) + 1
more_digits k h = ap length (decimal_more k h) ∙ length-append (decimal (k / 10)) _

-- a number below 10 ^ f has at most f digits
decimal_short : (f k : ℕ) → k < 10 ^ suc f → length (decimal k) ≤ suc f
decimal_short zero k h = omega (arith, one_digit k h)
decimal_short (suc f) k h = go (decimal_short f (k / 10)) (dec_lt k 10)
  where
    go : (k / 10 < 10 ^ suc f → length (decimal (k / 10)) ≤ suc f) → Dec (k < 10) → length (decimal k) ≤ suc (suc f)
    go ih (yes l) = omega (arith, one_digit k l)
    go ih (no l) =
        let e : 10 ^ suc (suc f) ≡ 10 ^ suc f * 10 = pow-suc 10 (suc f) in
        let q : k / 10 < 10 ^ suc f = omega arith in
        omega (arith, more_digits k (omega arith), ih q)

pow_pos : (f : ℕ) → 0 < 10 ^ f
pow_pos zero = omega (arith, pow-zero 10)
pow_pos (suc f) = omega (arith, pow-suc 10 f, pow_pos f)

-- a number from 10 ^ f on has more than f
pub decimal_long : (f k : ℕ) → 10 ^ f ≤ k → f < length (decimal k)
decimal_long zero k h = go (dec_lt k 10)
  where
    go : Dec (k < 10) → 0 < length (decimal k)
    go (yes l) = omega (arith, one_digit k l)
    go (no l) = omega (arith, more_digits k (omega arith))
decimal_long (suc f) k h =
    let e : 10 ^ suc f ≡ 10 ^ f * 10 = pow-suc 10 f in
    let q : 10 ^ f ≤ k / 10 = omega arith in
    omega (arith, more_digits k (omega (arith, pow_pos f)), decimal_long f (k / 10) q)

-- a number from 10 ^ f on and below the next power of ten
pub digits_are : (f k : ℕ) → 10 ^ f ≤ k → k < 10 ^ suc f → suc f ≡ length (decimal k)
digits_are f k h l = omega (arith, decimal_long f k h, decimal_short f k l)

-- a number of 64 bits has at most 20 digits
pub word_short : (k : ℕ) → k < 18446744073709551616 → length (decimal k) ≤ 20
word_short k h =
    let e : 18446744073709551616 ≤ 10 ^ 20 = omega arith in
    decimal_short 19 k (omega arith)

-- ---- texts

sets_append : (xs ys l : List ℕ) (i : ℕ) → sets l i (xs ++ ys) ≡ sets (sets l i xs) (i + length xs) ys
sets_append [] ys l i = ap (λ (n : ℕ). sets l n ys) (sym (add-zero i))
sets_append (x ∷ xs) ys l i =
    sets_append xs ys (set l i x) (suc i)
    ∙ ap (λ (n : ℕ). sets (sets (set l i x) (suc i) xs) n ys) (suc-add i (length xs) ∙ sym (add-suc i (length xs)))

pub put_byte : {b at : ℕ} {old : List ℕ} → Put (b ∷ []) old (set old at b) at (at + 1)
put_byte = record { text = refl; after = refl }

module _ {s t old mid now : List ℕ} {at i next : ℕ} where
  pub put_then : Put s old mid at i → Put t mid now i next → Put (s ++ t) old now at next
  put_then p q = record {
    text = q.text ∙ rw (p.text, p.after) (sym (sets_append s t old at));
    after = omega (arith, p.after, q.after, length-append s t);
  }

module _ {t old now : List ℕ} {at next : ℕ} (p : Put t old now at next) where
  pub put_same : {u : List ℕ} → t ≡ u → Put u old now at next
  put_same {u} e = record { text = p.text ∙ ap (sets old at) e; after = p.after ∙ ap (λ x. at + length x) e }

  pub put_long : length now ≡ length old
  put_long = ap length p.text ∙ length-sets old at t

-- ---- numbers and lines

-- a number of one digit, and the last digit after the others
pub put_only : {old now : List ℕ} {at next k : ℕ} → k < 10 → Put ((48 + k % 10) ∷ []) old now at next → Put (decimal k) old now at next
put_only {k = k} h p =
    let e : k % 10 ≡ k = omega arith in
    put_same p (ap (λ d. (48 + d) ∷ []) e ∙ sym (decimal_digit k h))

pub put_last : {old mid now : List ℕ} {at i next k : ℕ} → 10 ≤ k → Put (decimal (k / 10)) old mid at i → Put ((48 + k % 10) ∷ []) mid now i next → Put (decimal k) old now at next
put_last {k = k} h p q = put_same (put_then p q) (sym (decimal_more k h))

-- three digits alone, and the last three after the others
three_is : (k : ℕ) → 100 ≤ k → k < 1000 → last_three k ≡ decimal k
three_is k h l =
    let d : k / 10 / 10 % 10 ≡ k / 10 / 10 = omega arith in
    sym (decimal_more k (omega arith) ∙ ap (λ x. x ++ ((48 + k % 10) ∷ [])) (decimal_more (k / 10) (omega arith) ∙ ap (λ x. x ++ ((48 + k / 10 % 10) ∷ [])) (decimal_digit (k / 10 / 10) (omega arith)))
    ∙ ap (λ x. (48 + x) ∷ (48 + k / 10 % 10) ∷ (48 + k % 10) ∷ []) (sym d))

thousands_are : (k : ℕ) → 1000 ≤ k → decimal (k / 10 / 10 / 10) ++ last_three k ≡ decimal k
thousands_are k h =
    let high = decimal (k / 10 / 10 / 10) in
    let a = 48 + k / 10 / 10 % 10 in
    let b = 48 + k / 10 % 10 in
    let c = 48 + k % 10 in
    sym (decimal_more k (omega arith)
    ∙ ap (λ x. x ++ (c ∷ [])) (decimal_more (k / 10) (omega arith) ∙ ap (λ x. x ++ (b ∷ [])) (decimal_more (k / 10 / 10) (omega arith)))
    ∙ append_assoc (high ++ (a ∷ [])) (b ∷ []) (c ∷ []) ∙ append_assoc high (a ∷ []) (b ∷ c ∷ []))

pub put_three : {old now : List ℕ} {at next k : ℕ} → 100 ≤ k → k < 1000 → Put (last_three k) old now at next → Put (decimal k) old now at next
put_three {k = k} h l p = put_same p (three_is k h l)

pub put_thousands : {old mid now : List ℕ} {at i next k : ℕ} → 1000 ≤ k → Put (decimal (k / 10 / 10 / 10)) old mid at i → Put (last_three k) mid now i next → Put (decimal k) old now at next
put_thousands {k = k} h p q = put_same (put_then p q) (thousands_are k h)

pub thousands_long : (k : ℕ) → 1000 ≤ k → length (decimal k) ≡ length (decimal (k / 10 / 10 / 10)) + 3
thousands_long k h = ap length (sym (thousands_are k h)) ∙ length-append (decimal (k / 10 / 10 / 10)) (last_three k)

-- the first k bytes of a text, and one more
pub put_taken : (x : List ℕ) (k : ℕ) {old now : List ℕ} {at : ℕ} → k < length x → Put (take k x) old now at (at + k)
    → Put (take (k + 1) x) old (set now (at + k) (get_or x k 0)) at (at + (k + 1))
put_taken x k l p =
    let q = put_same (put_then p put_byte) (sym (take-suc x k 0 l) ∙ ap (λ j. take j x) (sym (add-one k))) in
    record { text = q.text; after = omega (arith, q.after) }

pub put_whole : (x : List ℕ) (k : ℕ) {old now : List ℕ} {at next : ℕ} → length x ≤ k → Put (take k x) old now at next → Put x old now at next
put_whole x k l p = put_same p (take_all k x l)

-- the whole lent list
pub put_front : {t old now : List ℕ} {next : ℕ} → length t ≤ length old → Put t old now 0 next → now ≡ t ++ drop (length t) old
put_front {t} {old} l p = p.text ∙ sets-eq t old 0 (omega arith) ∙ rw zero-add
