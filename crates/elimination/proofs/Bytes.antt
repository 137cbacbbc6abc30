-- Bits in bytes: one changed, and a row added to another.
use mathlib.Core.Path.{◌≡◌, refl, sym, ap, ap₂, ◌∙◌}
use mathlib.Core.Bool.{Bool, false, xor}
use mathlib.Core.Logic.{◌≢◌, ◌⊎◌, inl, inr, ⊎_elim}
use mathlib.Core.List.{List, ◌++◌}
use Prim.Native.Nat.{ℕ, zero, suc, ◌+◌, ◌*◌, ◌/◌, ◌%◌, ◌^◌, ◌≤◌, ◌<◌}
use native.Mathlib.Decide.{ℕ_discrete, dec_lt}
use native.Mathlib.Nat.{zero-div, pow-suc, div-one, div-eq_of_lt, mul-div-mul_right, mul-mod_left, mul-add-mod_self_right, mul-suc, mul-le-mul_left}
use native.Mathlib.Omega.{arith}
use borrow.Author.Tests.{eq-eqb, ne_eqb}
use lib.Bits.{bit_xor, differ, xor_shr, xor_step}
use lib.Dec.{eqb, eqb-zero-suc, eqb-suc-zero, eqb-suc-suc}
use lib.ListN.{length, get_or, set, length-set, get_or-append}
use lib.Pow.{pow_pos}
use lib.Seq.{get_or-set_same, get_or-set_other}
use Rattle.std.specs.List.{between}
use Rattle.std.proofs.lemmas.List.Edits.{length-between, get_or-between}
use Rattle.rules.proofs.Signs.{xor_false}
use Rattle.elimination.specs.Rows.{width, digit, bit_in, rows_in, flipped, row_in, Copied, Below, Added, Summed, Turned, Done}

-- ---- digits

digits_differ : (p q : ℕ) → p < 2 → q < 2 → eqb (differ p q % 2) 1 ≡ xor (eqb p 1) (eqb q 1)
unfolding xor
digits_differ zero zero a b = refl
digits_differ zero (suc zero) a b = refl
digits_differ zero (suc (suc q)) a b = absurd (omega arith)
digits_differ (suc zero) zero a b = refl
digits_differ (suc zero) (suc zero) a b = refl
digits_differ (suc zero) (suc (suc q)) a b = absurd (omega arith)
digits_differ (suc (suc p)) q a b = absurd (omega arith)

-- digit k of an exclusive or
digit_xor : (a b k : ℕ) → digit (bit_xor a b) k ≡ xor (digit a k) (digit b k)
unfolding digit
digit_xor a b k =
    ap (λ (x : ℕ). eqb (x % 2) 1) (xor_shr a b k ∙ xor_step x y) ∙ ap (λ (x : ℕ). eqb x 1) (mul-add-mod_self_right (bit_xor (x / 2) (y / 2)) 2 (differ (x % 2) (y % 2)))
    ∙ digits_differ (x % 2) (y % 2) (omega arith) (omega arith)
  where
    x : ℕ
    x = a / 2 ^ k

    y : ℕ
    y = b / 2 ^ k

-- digit k of a power of two
digit_power : (j k : ℕ) → digit (2 ^ j) k ≡ eqb j k
unfolding digit
digit_power zero zero = refl
digit_power zero (suc k) = ap (λ (x : ℕ). eqb (x % 2) 1) (div-eq_of_lt {n = 1} {m = 2 ^ suc k} (omega (arith, pow-suc 2 k, pow_pos k))) ∙ sym (eqb-zero-suc k)
digit_power (suc j) zero =
    ap (λ (x : ℕ). eqb (x % 2) 1) (div-one (2 ^ suc j)) ∙ ap (λ (x : ℕ). eqb x 1) (ap (λ (x : ℕ). x % 2) (pow-suc 2 j) ∙ mul-mod_left (2 ^ j) 2) ∙ sym (eqb-suc-zero j)
digit_power (suc j) (suc k) =
    ap (λ (x : ℕ). eqb (x % 2) 1) (ap₂ ◌/◌ (pow-suc 2 j) (pow-suc 2 k) ∙ mul-div-mul_right {m = 2} (2 ^ j) (2 ^ k) (omega arith)) ∙ digit_power j k ∙ sym (eqb-suc-suc j k)

-- ---- bytes of rows

-- bytes of two rows are not the same
apart : (w j k s t : ℕ) → j ≢ k → s < w → t < w → w * j + s ≢ w * k + t
apart w j k s t d a b e = go (dec_lt j k)
  where
    go : Dec (j < k) → ⊥
    go (yes l) = omega (arith, mul-suc w j, mul-le-mul_left {m = suc j} {n = k} w l)
    go (no l) = omega (arith, mul-suc w k, mul-le-mul_left {m = suc k} {n = j} w (omega arith))

-- rows stand apart
rows_apart : (w j k : ℕ) → j ≢ k → (w * j + w ≤ w * k) ⊎ (w * k + w ≤ w * j)
rows_apart w j k d = go (dec_lt j k)
  where
    go : Dec (j < k) → (w * j + w ≤ w * k) ⊎ (w * k + w ≤ w * j)
    go (yes l) = inl (omega (arith, mul-suc w j, mul-le-mul_left {m = suc j} {n = k} w l))
    go (no l) = inr (omega (arith, mul-suc w k, mul-le-mul_left {m = suc k} {n = j} w (omega arith)))

-- row j of m rows is among the bytes
pub row_fits : (w j m : ℕ) → j < m → w * j + w ≤ w * m
row_fits w j m l = omega (arith, mul-suc w j, mul-le-mul_left {m = suc j} {n = m} w l)

-- ---- a byte of zeros

pub zero_byte : (l : List ℕ) (b v u : ℕ) → get_or l (b + v / 8) 0 ≡ 0 → u / 8 ≡ v / 8 → bit_in l b u ≡ false
unfolding bit_in digit
zero_byte l b v u z e =
    ap (λ (x : ℕ). digit x (u % 8)) (ap (λ (k : ℕ). get_or l (b + k) 0) e ∙ z) ∙ ap (λ (x : ℕ). eqb (x % 2) 1) (zero-div (2 ^ (u % 8)))

-- ---- a bit changed

length_flipped : (l : List ℕ) (b v : ℕ) → length (flipped l b v) ≡ length l
unfolding flipped
length_flipped l b v = length-set l (b + v / 8) (bit_xor (get_or l (b + v / 8) 0) (2 ^ (v % 8)))

-- in its byte
flipped_here : (l : List ℕ) (b v u : ℕ) → b + v / 8 < length l → u / 8 ≡ v / 8 → bit_in (flipped l b v) b u ≡ xor (bit_in l b u) (eqb (v % 8) (u % 8))
unfolding flipped bit_in
flipped_here l b v u h e =
    ap (λ (k : ℕ). digit (get_or (set l (b + v / 8) y) (b + k) 0) (u % 8)) e
    ∙ ap (λ (x : ℕ). digit x (u % 8)) (get_or-set_same l (b + v / 8) y 0 h)
    ∙ digit_xor (get_or l (b + v / 8) 0) (2 ^ (v % 8)) (u % 8)
    ∙ ap₂ xor (ap (λ (k : ℕ). digit (get_or l (b + k) 0) (u % 8)) (sym e)) (digit_power (v % 8) (u % 8))
  where
    y : ℕ
    y = bit_xor (get_or l (b + v / 8) 0) (2 ^ (v % 8))

-- in any other
flipped_there : (l : List ℕ) (b v c u : ℕ) → c + u / 8 ≢ b + v / 8 → bit_in (flipped l b v) c u ≡ bit_in l c u
unfolding flipped bit_in
flipped_there l b v c u e =
    ap (λ (x : ℕ). digit x (u % 8)) (get_or-set_other l (b + v / 8) (c + u / 8) (bit_xor (get_or l (b + v / 8) 0) (2 ^ (v % 8))) 0 e)

-- in its row
flipped_row : (l : List ℕ) (b v u : ℕ) → b + v / 8 < length l → bit_in (flipped l b v) b u ≡ xor (bit_in l b u) (eqb u v)
flipped_row l b v u h = go (ℕ_discrete (u / 8) (v / 8)) (ℕ_discrete u v)
  where
    go : Dec (u / 8 ≡ v / 8) → Dec (u ≡ v) → bit_in (flipped l b v) b u ≡ xor (bit_in l b u) (eqb u v)
    go (yes p) (yes q) = flipped_here l b v u h p ∙ ap (xor (bit_in l b u)) (eq-eqb (v % 8) (u % 8) (omega arith) ∙ sym (eq-eqb u v q))
    go (yes p) (no q) = flipped_here l b v u h p ∙ ap (xor (bit_in l b u)) (ne_eqb (v % 8) (u % 8) (λ e. q (omega arith)) ∙ sym (ne_eqb u v q))
    go (no p) (yes q) = absurd (p (ap (λ (k : ℕ). k / 8) q))
    go (no p) (no q) = flipped_there l b v b u (λ e. p (omega arith)) ∙ sym (xor_false (bit_in l b u)) ∙ ap (xor (bit_in l b u)) (sym (ne_eqb u v q))

-- ---- rows changed

module _ {n j : ℕ} where
  pub turned_none : {r : ℕ → Bool} {l : List ℕ} → ((u : ℕ) → u ≤ n → rows_in n l j u ≡ r u) → Turned n j r l l
  turned_none h = record { long = refl; own = h; others = λ k u d l. refl }

  pub turned_same : {r s : ℕ → Bool} {old new : List ℕ} → ((u : ℕ) → u ≤ n → r u ≡ s u) → Turned n j r old new → Turned n j s old new
  turned_same h t = record { long = t.long; own = λ u l. t.own u l ∙ h u l; others = t.others }

  -- and one bit more
  pub turned_flip : {r : ℕ → Bool} {old now later : List ℕ} {v : ℕ} → v ≤ n → width n * j + width n ≤ length old → Turned n j r old now
      → later ≡ flipped now (width n * j) v → Turned n j (λ u. xor (r u) (eqb u v)) old later
  turned_flip {r} {old} {now} {later} {v} h f t e = record {
    long = ap length e ∙ length_flipped now (width n * j) v ∙ t.long;
    own = λ u l. ap (λ (x : List ℕ). rows_in n x j u) e ∙ flipped_row now (width n * j) v u (omega (arith, t.long)) ∙ ap (λ b. xor b (eqb u v)) (t.own u l);
    others = λ k u d l. ap (λ (x : List ℕ). rows_in n x k u) e
        ∙ flipped_there now (width n * j) v (width n * k) u (apart (width n) k j (u / 8) (v / 8) d (omega arith) (omega arith)) ∙ t.others k u d l;
  }

  module _ {row old : List ℕ} where
    -- a row added, all of its bytes
    pub turned_whole : {t : ℕ} {new : List ℕ} → t ≡ width n → Added row (width n * j) t old new → Summed n j row old new
    unfolding bit_in row_in
    turned_whole e a = record {
      long = a.long;
      own = λ u l. ap (λ (x : ℕ). digit x (u % 8)) (a.inside (u / 8) (omega arith)) ∙ digit_xor (get_or old (width n * j + u / 8) 0) (get_or row (u / 8) 0) (u % 8);
      others = λ k u d l. ap (λ (x : ℕ). digit x (u % 8)) (a.outside (width n * k + u / 8)
          (⊎_elim (λ p. inl (omega arith)) (λ p. inr (omega arith)) (rows_apart (width n) k j d)));
    }

    -- .. those below t and the last, where the row has no variable above h
    pub turned_part : (h : ℕ) {t : ℕ} {mid new : List ℕ} → h / 8 < t → t ≤ n / 8 → Below n h row → width n * j + width n ≤ length old → Added row (width n * j) t old mid
        → new ≡ set mid (width n * j + n / 8) (bit_xor (get_or mid (width n * j + n / 8) 0) (get_or row (n / 8) 0)) → Summed n j row old new
    unfolding bit_in row_in
    turned_part h {t} {mid} {new} p q z f a e = record {
      long = ap length e ∙ length-set mid last x ∙ a.long;
      own = λ u l. own u l (dec_lt (u / 8) t) (dec_lt (u / 8) (n / 8));
      others = λ k u d l. ap (λ (y : ℕ). digit y (u % 8))
          (there (width n * k + u / 8) (apart (width n) k j (u / 8) (n / 8) d (omega arith) (omega arith))
          ∙ a.outside (width n * k + u / 8) (⊎_elim (λ p. inl (omega arith)) (λ p. inr (omega arith)) (rows_apart (width n) k j d)));
    }
      where
        last : ℕ
        last = width n * j + n / 8

        x : ℕ
        x = bit_xor (get_or mid last 0) (get_or row (n / 8) 0)

        there : (k : ℕ) → k ≢ last → get_or new k 0 ≡ get_or mid k 0
        there k d = ap (λ (y : List ℕ). get_or y k 0) e ∙ get_or-set_other mid last k x 0 d

        sum : (u : ℕ) → get_or new (width n * j + u / 8) 0 ≡ bit_xor (get_or old (width n * j + u / 8) 0) (get_or row (u / 8) 0)
            → digit (get_or new (width n * j + u / 8) 0) (u % 8) ≡ xor (rows_in n old j u) (row_in row u)
        sum u g = ap (λ (y : ℕ). digit y (u % 8)) g ∙ digit_xor (get_or old (width n * j + u / 8) 0) (get_or row (u / 8) 0) (u % 8)

        own : (u : ℕ) → u ≤ n → Dec (u / 8 < t) → Dec (u / 8 < n / 8) → digit (get_or new (width n * j + u / 8) 0) (u % 8) ≡ xor (rows_in n old j u) (row_in row u)
        own u l (yes b) c = sum u (there (width n * j + u / 8) (λ d. omega arith) ∙ a.inside (u / 8) b)
        own u l (no b) (yes c) =
            ap (λ (y : ℕ). digit y (u % 8)) (there (width n * j + u / 8) (λ d. omega arith) ∙ a.outside (width n * j + u / 8) (inr (omega arith)))
            ∙ sym (xor_false (rows_in n old j u)) ∙ ap (xor (rows_in n old j u)) (sym (z u (omega arith) (omega arith)))
        own u l (no b) (no c) =
            let g : u / 8 ≡ n / 8 = omega arith in
            sum u
            (ap (λ (k : ℕ). get_or new (width n * j + k) 0) g ∙ ap (λ (y : List ℕ). get_or y last 0) e ∙ get_or-set_same mid last x 0 (omega (arith, a.long))
            ∙ ap (λ (y : ℕ). bit_xor y (get_or row (n / 8) 0)) (a.outside last (inr (omega arith)))
            ∙ ap (λ (k : ℕ). bit_xor (get_or old (width n * j + k) 0) (get_or row k 0)) (sym g))

-- a row copied, in front of other bytes
pub copied : (n i : ℕ) {row : List ℕ} (rest l : List ℕ) → width n * i + width n ≤ length l → row ≡ between (width n * i) (width n * i + width n) l → Copied n i (row ++ rest) l
unfolding bit_in row_in
copied n i {row} rest l f e u h = ap (λ (x : ℕ). digit x (u % 8)) (front ∙ ap (λ (x : List ℕ). get_or x (u / 8) 0) e ∙ get_or-between l (width n * i) _ (u / 8) 0 (omega arith))
  where
    long : length row ≡ width n
    long = ap length e ∙ length-between l _ _ f ∙ omega arith

    front : get_or (row ++ rest) (u / 8) 0 ≡ get_or row (u / 8) 0
    front = get_or-append row rest 0 (u / 8) (omega (arith, long))

module _ {n : ℕ} {F : ℕ → ℕ → Bool} where
  pub done_more : {j : ℕ} {r : ℕ → Bool} {old now later : List ℕ} → Done n j F old now → Turned n j r now later
      → ((u : ℕ) → u ≤ n → r u ≡ F j u) → Done n (j + 1) F old later
  done_more {j} {r} {old} {now} {later} d t e = record {
    long = t.long ∙ d.long;
    below = λ k u h l. go k u h l (ℕ_discrete k j);
    above = λ k u h l. t.others k u (λ q. omega arith) l ∙ d.above k u (omega arith) l;
  }
    where
      go : (k u : ℕ) → k < j + 1 → u ≤ n → Dec (k ≡ j) → rows_in n later k u ≡ F k u
      go k u h l (yes q) = ap (λ (a : ℕ). rows_in n later a u) q ∙ t.own u l ∙ e u l ∙ ap (λ (a : ℕ). F a u) (sym q)
      go k u h l (no q) = t.others k u q l ∙ d.below k u (omega arith) l
