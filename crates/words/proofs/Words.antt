-- Laws of the numbers in a byte list, each for every width w: what is read, what a store leaves, and tables of numbers.
use mathlib.Core.Path.{◌≡◌, refl, sym, ap, ap₂, ◌∙◌}
use mathlib.Core.Logic.{◌≢◌, ◌⊎◌, inl, inr, ⊎_elim}
use mathlib.Core.List.{List, [], ◌∷◌, ◌++◌, append_assoc}
use Prim.Native.Nat.{ℕ, zero, suc, ◌+◌, ◌*◌, ◌/◌, ◌%◌, ◌^◌, ◌≤◌, ◌<◌}
use native.Mathlib.Decide.{dec_lt}
use native.Mathlib.Nat.{add-zero, mul-zero, mul-suc, pow-suc, pow-succ', mul_assoc, mul-le-mul_left, eq-or-lt_of_le, le_of_suc-le-suc}
use native.Mathlib.Numerals.{add-one}
use native.Mathlib.Omega.{arith}
use lib.ListN.{length, get_or, set, take, drop, length-set, length-append, length-drop, take-append-drop, get_or-append}
use lib.Seq.{length-take-le, append_snoc, set_at, get_or_at, get_or-set_other, get_or-append-add, drop-set-lt, drop-drop, drop-cons, take-add}
use Rattle.rules.specs.Ranges.{joined}
use Rattle.rules.proofs.Ranges.{joined_none, joined_ext, length_joined}
use Rattle.words.specs.Words.{word, stored, bytes, table}

-- ---- one number

pub length_bytes : (w x : ℕ) → length (bytes w x) ≡ w
unfolding bytes
length_bytes zero x = refl
length_bytes (suc w) x = ap suc (length_bytes w (x / 256))

pub length_stored : (w : ℕ) (b : List ℕ) (k x : ℕ) → length (stored w b k x) ≡ length b
unfolding stored
length_stored zero b k x = refl
length_stored (suc w) b k x = length_stored w (set b k (x % 256)) (suc k) (x / 256) ∙ length-set b k (x % 256)

-- a store over the part q of a list
pub stored_over : (w : ℕ) (p q t : List ℕ) (k x : ℕ) → length p ≡ k → length q ≡ w → stored w (p ++ (q ++ t)) k x ≡ p ++ (bytes w x ++ t)
unfolding stored bytes
stored_over zero p [] t k x e h = refl
stored_over zero p (a ∷ q) t k x e h = absurd (omega arith)
stored_over (suc w) p [] t k x e h = absurd (omega arith)
stored_over (suc w) p (a ∷ q) t k x e h =
    ap (λ l. stored w l (suc k) (x / 256)) (set_at p a (q ++ t) (x % 256) k e ∙ sym (append_snoc p (x % 256) (q ++ t)))
    ∙ stored_over w (p ++ (x % 256 ∷ [])) q t (suc k) (x / 256) (length-append p (x % 256 ∷ []) ∙ omega arith) (omega arith)
    ∙ append_snoc p (x % 256) (bytes w (x / 256) ++ t)

-- the number in the bytes of a number
pub word_bytes : (w : ℕ) (p t : List ℕ) (k x : ℕ) → length p ≡ k → x < 256 ^ w → word w (p ++ (bytes w x ++ t)) k ≡ x
unfolding word bytes
word_bytes zero p t k x e h = omega arith
word_bytes (suc w) p t k x e h =
    ap₂ (λ a b. a + 256 * b) (get_or_at p (x % 256) (bytes w (x / 256) ++ t) 0 k e)
    (ap (λ l. word w l (suc k)) (sym (append_snoc p (x % 256) (bytes w (x / 256) ++ t)))
    ∙ word_bytes w (p ++ (x % 256 ∷ [])) t (suc k) (x / 256) (length-append p (x % 256 ∷ []) ∙ omega arith) (omega (arith, pow-suc 256 w)))
    ∙ omega arith

-- the list before, in and after the w bytes from byte k on
parts : (w : ℕ) (b : List ℕ) (k : ℕ) → b ≡ take k b ++ (take w (drop k b) ++ drop w (drop k b))
parts w b k = sym (take-append-drop k b) ∙ ap (λ l. take k b ++ l) (sym (take-append-drop w (drop k b)))

-- a store changes its own bytes and no other
pub stored_is : (w : ℕ) (b : List ℕ) (k x : ℕ) → k + w ≤ length b → stored w b k x ≡ take k b ++ (bytes w x ++ drop (k + w) b)
stored_is w b k x l =
    ap (λ c. stored w c k x) (parts w b k)
    ∙ stored_over w (take k b) (take w (drop k b)) (drop w (drop k b)) k x (length-take-le k b (omega arith))
    (length-take-le w (drop k b) (omega (arith, length-drop k b)))
    ∙ ap (λ t. take k b ++ (bytes w x ++ t)) (drop-drop w k b)

pub word_same : (w : ℕ) (b : List ℕ) (k x : ℕ) → k + w ≤ length b → x < 256 ^ w → word w (stored w b k x) k ≡ x
word_same w b k x l h =
    ap (λ c. word w c k) (stored_is w b k x l) ∙ word_bytes w (take k b) (drop (k + w) b) k x (length-take-le k b (omega arith)) h

-- byte r of a number's bytes in a list
byte_at : (w : ℕ) (p t : List ℕ) (k x r : ℕ) → length p ≡ k → r < w → get_or (p ++ (bytes w x ++ t)) (k + r) 0 ≡ get_or (bytes w x) r 0
byte_at w p t k x r e h =
    ap (λ j. get_or (p ++ (bytes w x ++ t)) (j + r) 0) (sym e) ∙ get_or-append-add p (bytes w x ++ t) r 0
    ∙ get_or-append (bytes w x) t 0 r (omega (arith, length_bytes w x))

-- a byte outside a stored number
pub byte_other : (w : ℕ) (b : List ℕ) (k x j : ℕ) → (j < k) ⊎ (k + w ≤ j) → get_or (stored w b k x) j 0 ≡ get_or b j 0
unfolding stored
byte_other zero b k x j o = refl
byte_other (suc w) b k x j o =
    byte_other w (set b k (x % 256)) (suc k) (x / 256) j (⊎_elim (λ l. inl (omega arith)) (λ l. inr (omega arith)) o)
    ∙ get_or-set_other b k j (x % 256) 0 (⊎_elim (λ l e. omega arith) (λ l e. omega arith) o)

-- a number is that of its bytes
pub word_ext : (w : ℕ) (b c : List ℕ) (k : ℕ) → ((j : ℕ) → k ≤ j → j < k + w → get_or b j 0 ≡ get_or c j 0) → word w b k ≡ word w c k
unfolding word
word_ext zero b c k h = refl
word_ext (suc w) b c k h = ap₂ (λ x y. x + 256 * y) (h k (omega arith) (omega arith)) (word_ext w b c (suc k) (λ j l u. h j (omega arith) (omega arith)))

-- the number's highest byte
pub word_last : (w : ℕ) (b : List ℕ) (k : ℕ) → word (suc w) b k ≡ word w b k + 256 ^ w * get_or b (k + w) 0
unfolding word
word_last zero b k = rw (add-zero k) (omega arith)
word_last (suc w) b k =
    omega (arith, word_last w b (suc k), ap (λ j. 256 ^ w * get_or b j 0) next, ap (λ y. y * get_or b (k + suc w) 0) (pow-succ' 256 w) ∙ mul_assoc 256 (256 ^ w) (get_or b (k + suc w) 0))
  where
    next : suc k + w ≡ k + suc w
    next = omega arith

pub word_bound : (w : ℕ) (b : List ℕ) (k : ℕ) → ((j : ℕ) → k ≤ j → j < k + w → get_or b j 0 < 256) → word w b k < 256 ^ w
unfolding word
word_bound zero b k h = omega arith
word_bound (suc w) b k h = omega (arith, h k (omega arith) (omega arith), word_bound w b (suc k) (λ j l u. h j (omega arith) (omega arith)), pow-suc 256 w)

-- a number apart from a stored one
pub word_apart : (w : ℕ) (b : List ℕ) (k x v m : ℕ) → (m + v ≤ k) ⊎ (k + w ≤ m) → word v (stored w b k x) m ≡ word v b m
word_apart w b k x v m o =
    word_ext v (stored w b k x) b m (λ j l u. byte_other w b k x j (⊎_elim (λ a. inl (omega arith)) (λ a. inr (omega arith)) o))

-- a store to element i leaves element j
pub word_other : (w : ℕ) (b : List ℕ) (i x j : ℕ) → j ≢ i → word w (stored w b (w * i) x) (w * j) ≡ word w b (w * j)
word_other w b i x j n = word_apart w b (w * i) x w (w * j) (go (dec_lt j i))
  where
    go : Dec (j < i) → (w * j + w ≤ w * i) ⊎ (w * i + w ≤ w * j)
    go (yes l) = inl (omega (arith, mul-suc w j, mul-le-mul_left {m = suc j} {n = i} w l))
    go (no l) = inr (omega (arith, mul-suc w i, mul-le-mul_left {m = suc i} {n = j} w (omega arith)))

-- the bytes after a stored number
drop_after : (w : ℕ) (b : List ℕ) (k x m : ℕ) → k + w ≤ m → drop m (stored w b k x) ≡ drop m b
unfolding stored
drop_after zero b k x m l = refl
drop_after (suc w) b k x m l = drop_after w (set b k (x % 256)) (suc k) (x / 256) m (omega arith) ∙ drop-set-lt m b k (x % 256) (omega arith)

-- a store to an element before place n leaves the list from there on
pub drop_stored : (w : ℕ) (b : List ℕ) (i x n : ℕ) → i < n → drop (w * n) (stored w b (w * i) x) ≡ drop (w * n) b
drop_stored w b i x n l = drop_after w b (w * i) x (w * n) (omega (arith, mul-suc w i, mul-le-mul_left {m = suc i} {n = n} w l))

-- ---- tables

pub table_none : (w : ℕ) (f : ℕ → ℕ) (l : List ℕ) → l ≡ table w f 0 ++ l
unfolding table
table_none w f l = joined_none (λ k. bytes w (f k)) l

pub table_ext : (w : ℕ) (f g : ℕ → ℕ) (n : ℕ) → ((k : ℕ) → k < n → f k ≡ g k) → table w f n ≡ table w g n
unfolding table
table_ext w f g n h = joined_ext (λ k. bytes w (f k)) (λ k. bytes w (g k)) n (λ k l. ap (bytes w) (h k l))

pub length_table : (w : ℕ) (f : ℕ → ℕ) (n : ℕ) → length (table w f n) ≡ w * n
unfolding table
length_table w f n = length_joined w (λ k. bytes w (f k)) (λ k. length_bytes w (f k)) n

-- the number at a place of a table, whatever follows
pub at_table : (w : ℕ) (f : ℕ → ℕ) (n : ℕ) (t : List ℕ) (j : ℕ) → j < n → f j < 256 ^ w → word w (table w f n ++ t) (w * j) ≡ f j
unfolding table joined
at_table w f zero t j l h = absurd (omega arith)
at_table w f (suc n) t j l h =
    rw append_assoc (⊎_elim here (λ e. at_table w f n (bytes w (f n) ++ t) j e h) (eq-or-lt_of_le (le_of_suc-le-suc l)))
  where
    here : j ≡ n → word w (table w f n ++ (bytes w (f n) ++ t)) (w * j) ≡ f j
    here e =
        rw e (word_bytes w (table w f n) t (w * n) (f n) (length_table w f n) (rw e at h))

-- a store to place i of a table, whatever follows: g is f but at i
pub put_table : (w : ℕ) (f g : ℕ → ℕ) (n : ℕ) (t : List ℕ) (i x : ℕ) → i < n → g i ≡ x → ((j : ℕ) → j < n → j ≢ i → g j ≡ f j)
    → stored w (table w f n ++ t) (w * i) x ≡ table w g n ++ t
unfolding table joined
put_table w f g zero t i x l s o = absurd (omega arith)
put_table w f g (suc n) t i x l s o =
    simp append_assoc
    (⊎_elim here (λ e. put_table w f g n (bytes w (f n) ++ t) i x e s (λ j u. o j (omega arith)) ∙ there e) (eq-or-lt_of_le (le_of_suc-le-suc l)))
  where
    here : i ≡ n → stored w (table w f n ++ (bytes w (f n) ++ t)) (w * i) x ≡ table w g n ++ (bytes w (g n) ++ t)
    here e =
        stored_over w (table w f n) (bytes w (f n)) t (w * i) x (length_table w f n ∙ ap (λ k. w * k) (sym e)) (length_bytes w (f n))
        ∙ ap₂ (λ a b. a ++ (bytes w b ++ t)) (table_ext w f g n (λ k u. sym (o k (omega arith) (omega arith)))) (sym s ∙ ap g e)

    there : i < n → table w g n ++ (bytes w (f n) ++ t) ≡ table w g n ++ (bytes w (g n) ++ t)
    there e = ap (λ b. table w g n ++ (bytes w b ++ t)) (sym (o n (omega arith) (omega arith)))

-- a loop that fills a list: one number more
pub put_next : (w : ℕ) (f : ℕ → ℕ) (old : List ℕ) (i : ℕ) → w * (i + 1) ≤ length old
    → stored w (table w f i ++ drop (w * i) old) (w * i) (f i) ≡ table w f (i + 1) ++ drop (w * (i + 1)) old
unfolding table joined
put_next w f old i l = rw (add-one i, mul-suc w i, append_assoc)
    (ap (λ d. stored w (table w f i ++ d) (w * i) (f i)) (sym (take-append-drop w (drop (w * i) old)))
    ∙ stored_over w (table w f i) (take w (drop (w * i) old)) (drop w (drop (w * i) old)) (w * i) (f i) (length_table w f i)
    (length-take-le w (drop (w * i) old) (omega (arith, length-drop (w * i) old, more)))
    ∙ ap (λ d. table w f i ++ (bytes w (f i) ++ d)) (drop-drop w (w * i) old))
  where
    more : w * (i + 1) ≡ w * i + w
    more = ap (λ k. w * k) (add-one i) ∙ mul-suc w i

-- ---- a list as the table of its own numbers

pub bytes_word : (w : ℕ) (b : List ℕ) (k : ℕ) → k + w ≤ length b → ((j : ℕ) → get_or b j 0 < 256) → bytes w (word w b k) ≡ take w (drop k b)
unfolding bytes word
bytes_word zero b k l h = refl
bytes_word (suc w) b k l h =
    rw (drop-cons b k 0 (omega arith)) (ap₂ ◌∷◌ low (ap (bytes w) high ∙ bytes_word w b (suc k) (omega arith) h))
  where
    low : (get_or b k 0 + 256 * word w b (suc k)) % 256 ≡ get_or b k 0
    low = omega (arith, h k)

    high : (get_or b k 0 + 256 * word w b (suc k)) / 256 ≡ word w b (suc k)
    high = omega (arith, h k)

pub table_self : (w : ℕ) (b : List ℕ) (n : ℕ) → w * n ≤ length b → ((j : ℕ) → get_or b j 0 < 256) → table w (λ i. word w b (w * i)) n ≡ take (w * n) b
unfolding table joined
table_self w b zero l h = rw (mul-zero w)
table_self w b (suc n) l h =
    let e : w * suc n ≡ w * n + w = mul-suc w n in
    ap₂ ◌++◌ (table_self w b n (omega arith) h) (bytes_word w b (w * n) (omega arith) h) ∙ sym (take-add (w * n) w b) ∙ ap (λ k. take k b) (sym e)
