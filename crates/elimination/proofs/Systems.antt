-- Parity equations: what adding rows, replacing a variable and changing one bit do to them, and reduced rows.
use mathlib.Core.Path.{◌≡◌, refl, sym, ap, ap₂, ◌∙◌}
use mathlib.Core.Bool.{Bool, true, false, not, cond, xor, ◌&&◌, true≢false}
use mathlib.Core.Logic.{◌≢◌, ◌↔◌}
use Prim.Native.Nat.{ℕ, zero, suc, ◌≤◌, ◌<◌}
use native.Mathlib.Decide.{ℕ_discrete, dec_lt}
use native.Mathlib.Omega.{arith}
use borrow.Author.Tests.{eq-eqb, ne_eqb}
use lib.Dec.{eqb}
use Rattle.rules.specs.Ranges.{fold, but}
use Rattle.rules.proofs.Ranges.{fold_ext, fold_both, fold_but, but_same, but_other}
use Rattle.rules.proofs.Signs.{xor_monoid, xor_false, false_xor, xor_self, xor_zero}
use Rattle.elimination.specs.Systems.{broken, Solves, top, cleared, replaced, Reduced}

-- ---- exclusive or

mid : (a b c d : Bool) → xor (xor a b) (xor c d) ≡ xor (xor a c) (xor b d)
mid a b c d =
    let M = xor_monoid in
    M.assoc a b (xor c d) ∙ ap (xor a) (sym (M.assoc b c d) ∙ ap (λ w. xor w d) (M.comm b c) ∙ M.assoc c b d) ∙ sym (M.assoc a c (xor b d))

over : (a b c : Bool) → xor (xor a b) (xor a c) ≡ xor b c
over a b c = mid a b a c ∙ ap (λ w. xor w (xor b c)) (xor_self a) ∙ false_xor (xor b c)

pub clash : {A : Type 0} (b : Bool) → b ≡ true → b ≡ false → A
clash b p q = absurd (true≢false (sym p ∙ q))

-- ---- one row

module _ (n : ℕ) where
  broken_ext : (r s x y : ℕ → Bool) → ((v : ℕ) → v < n → (r v && x v) ≡ (s v && y v)) → r n ≡ s n → broken n r x ≡ broken n s y
  unfolding broken
  broken_ext r s x y h e = ap₂ xor (fold_ext xor false (λ v. r v && x v) (λ v. s v && y v) 0 n (λ k l u. h k (omega arith))) e

  -- rows that agree
  pub broken_same : (r s x : ℕ → Bool) → ((v : ℕ) → v ≤ n → r v ≡ s v) → broken n r x ≡ broken n s x
  broken_same r s x h = broken_ext r s x x (λ v l. ap (λ b. b && x v) (h v (omega arith))) (h n (omega arith))

  -- no variable of the row is 1
  pub broken_none : (r x : ℕ → Bool) → ((v : ℕ) → v < n → (r v && x v) ≡ false) → broken n r x ≡ r n
  unfolding broken fold
  broken_none r x h =
      ap (λ b. xor b (r n)) (fold_ext xor false (λ v. r v && x v) (λ v. false) 0 n (λ k l u. h k (omega arith)) ∙ nothing n) ∙ false_xor (r n)
    where
      nothing : (n : ℕ) → fold xor false (λ v. false) 0 n ≡ false
      nothing zero = refl
      nothing (suc n) = ap (λ b. xor b false) (nothing n) ∙ xor_false false

  -- the sum of two rows
  pub broken_sum : (r s x : ℕ → Bool) → broken n (λ u. xor (r u) (s u)) x ≡ xor (broken n r x) (broken n s x)
  unfolding broken xor
  broken_sum r s x =
      ap (λ b. xor b (xor (r n) (s n)))
      (fold_ext xor false (λ v. xor (r v) (s v) && x v) (λ v. xor (r v && x v) (s v && x v)) 0 n (λ k l u. both (r k) (s k) (x k))
      ∙ fold_both xor false xor_monoid (λ v. r v && x v) (λ v. s v && x v) 0 n)
      ∙ mid (fold xor false (λ v. r v && x v) 0 n) (fold xor false (λ v. s v && x v) 0 n) (r n) (s n)
    where
      both : (a b c : Bool) → (xor a b && c) ≡ xor (a && c) (b && c)
      both true true c = sym (xor_self c)
      both true false c = sym (xor_false c)
      both false true c = sym (false_xor c)
      both false false c = refl

  -- rows and bits that agree at every variable but v
  pub one_place : (r s x y : ℕ → Bool) (v : ℕ) → v < n → ((u : ℕ) → u < n → u ≢ v → (r u && x u) ≡ (s u && y u))
      → xor (broken n r x) (broken n s y) ≡ xor (xor (r v && x v) (s v && y v)) (xor (r n) (s n))
  unfolding broken
  one_place r s x y v l h =
      mid (fold xor false f 0 n) (r n) (fold xor false g 0 n) (s n)
      ∙ ap (λ b. xor b (xor (r n) (s n)))
      (ap₂ xor (fold_but xor false xor_monoid v f 0 n (omega arith) (omega arith)) (fold_but xor false xor_monoid v g 0 n (omega arith) (omega arith))
      ∙ ap (λ b. xor (xor (fold xor false (but false v f) 0 n) (f v)) (xor b (g v))) (sym rest)
      ∙ over (fold xor false (but false v f) 0 n) (f v) (g v))
    where
      f : ℕ → Bool
      f u = r u && x u

      g : ℕ → Bool
      g u = s u && y u

      rest : fold xor false (but false v f) 0 n ≡ fold xor false (but false v g) 0 n
      rest = fold_ext xor false (but false v f) (but false v g) 0 n (λ k lo hi. at k (omega arith) (ℕ_discrete k v))
        where
          at : (k : ℕ) → k < n → Dec (k ≡ v) → but false v f k ≡ but false v g k
          at k u (yes e) = ap (but false v f) e ∙ but_same false v f ∙ sym (but_same false v g) ∙ ap (but false v g) (sym e)
          at k u (no e) = but_other false v f k e ∙ h k u e ∙ sym (but_other false v g k e)

  -- variable v set to 1
  pub broken_set : (r x y : ℕ → Bool) (v : ℕ) → v < n → x v ≡ false → y v ≡ true → ((u : ℕ) → u < n → u ≢ v → y u ≡ x u)
      → broken n r y ≡ xor (broken n r x) (r v)
  unfolding xor
  broken_set r x y v l p q h =
      move (broken n r y) (broken n r x) (r v)
      (one_place r r y x v l (λ u m e. ap (λ b. r u && b) (h u m e)) ∙ ap₂ xor (ap₂ (λ a b. xor (r v && a) (r v && b)) q p ∙ only (r v)) (xor_self (r n)) ∙ xor_false (r v))
    where
      only : (a : Bool) → xor (a && true) (a && false) ≡ a
      only true = refl
      only false = refl

      move : (a b c : Bool) → xor a b ≡ c → a ≡ xor b c
      move a b c e = sym (xor_false a) ∙ ap (xor a) (sym (xor_self b)) ∙ sym (xor_monoid.assoc a b b) ∙ ap (λ w. xor w b) e ∙ xor_monoid.comm c b

  -- a row's highest variable is settled by those below
  pub settled : (r y z : ℕ → Bool) (v : ℕ) → v < n → r v ≡ true → ((u : ℕ) → v < u → u < n → r u ≡ false)
      → broken n r y ≡ false → broken n r z ≡ false → ((u : ℕ) → u < v → y u ≡ z u) → y v ≡ z v
  settled r y z v l p h a b e =
      xor_zero (y v) (z v)
      (sym (xor_false (xor (y v) (z v))) ∙ ap₂ xor (sym (ap (λ t. xor (t && y v) (t && z v)) p)) (sym (xor_self (r n)))
      ∙ sym (one_place r r y z v l (λ u m d. at u m d (dec_lt u v))) ∙ ap₂ xor a b ∙ xor_self false)
    where
      at : (u : ℕ) → u < n → u ≢ v → Dec (u < v) → (r u && y u) ≡ (r u && z u)
      at u m d (yes q) = ap (λ t. r u && t) (e u q)
      at u m d (no q) = ap (λ t. t && y u) (h u (omega arith) m) ∙ sym (ap (λ t. t && z u) (h u (omega arith) m))

-- ---- a variable replaced by its value

module _ (n v : ℕ) (b : Bool) (R : ℕ → ℕ → Bool) (l : v < n) where
  pub replaced_column : (j : ℕ) → replaced n v b R j v ≡ false
  unfolding replaced xor
  replaced_column j = rw (eq-eqb v v refl) (go (R j v))
    where
      go : (t : Bool) → cond t (xor t true) t ≡ false
      go true = refl
      go false = refl

  pub replaced_other : (j u : ℕ) → u < n → u ≢ v → replaced n v b R j u ≡ R j u
  unfolding replaced
  replaced_other j u m d = rw (ne_eqb u v d, ne_eqb u n (λ e. omega arith)) (go (R j v))
    where
      go : (t : Bool) → cond t (xor (R j u) false) (R j u) ≡ R j u
      go true = xor_false (R j u)
      go false = refl

  right : (j : ℕ) → replaced n v b R j n ≡ xor (R j n) (R j v && b)
  unfolding replaced
  right j = rw (ne_eqb n v (λ e. omega arith), eq-eqb n n refl) (go (R j v))
    where
      go : (t : Bool) → cond t (xor (R j n) b) (R j n) ≡ xor (R j n) (t && b)
      go true = refl
      go false = sym (xor_false (R j n))

  -- rows are broken as before by bits that have the value there
  pub replaced_broken : (x : ℕ → Bool) (j : ℕ) → x v ≡ b → broken n (replaced n v b R j) x ≡ broken n (R j) x
  replaced_broken x j e =
      xor_zero (broken n (replaced n v b R j) x) (broken n (R j) x)
      (one_place n (replaced n v b R j) (R j) x x v l (λ u m d. ap (λ t. t && x u) (replaced_other j u m d))
      ∙ ap₂ xor (ap (λ t. xor (t && x v) (R j v && x v)) (replaced_column j) ∙ false_xor (R j v && x v) ∙ ap (λ t. R j v && t) e)
      (ap (λ t. xor t (R j n)) (right j) ∙ back (R j n) (R j v && b))
      ∙ xor_self (R j v && b))
    where
      back : (a c : Bool) → xor (xor a c) a ≡ c
      back a c = ap (λ t. xor t a) (xor_monoid.comm a c) ∙ xor_monoid.assoc c a a ∙ ap (xor c) (xor_self a) ∙ xor_false c

-- ---- the highest variable

pub record Top (n : ℕ) (r : ℕ → Bool) (t : ℕ) : Type 0 where
  pub high : t ≤ n
  pub above : (u : ℕ) → t ≤ u → u < n → r u ≡ false
  pub at : (h : ℕ) → t ≡ suc h → r h ≡ true

pub top_is : (n : ℕ) (r : ℕ → Bool) → Top n r (top n r)
unfolding top
top_is zero r = record { high = omega arith; above = λ u l h. absurd (omega arith); at = λ h e. absurd (omega arith) }
top_is (suc n) r = go (r n) refl (top_is n r)
  where
    go : (b : Bool) → r n ≡ b → Top n r (top n r) → Top (suc n) r (cond b (suc n) (top n r))
    go true p t = record { high = omega arith; above = λ u l h. absurd (omega arith); at = λ h e. ap r (omega arith) ∙ p }
    go false p t = record { high = omega (arith, t.high); above = λ u l h. last u l h (ℕ_discrete u n); at = t.at }
      where
        last : (u : ℕ) → top n r ≤ u → u < suc n → Dec (u ≡ n) → r u ≡ false
        last u l h (yes e) = ap r e ∙ p
        last u l h (no e) = t.above u l (omega arith)

top_only : {n : ℕ} {r s : ℕ → Bool} {t t' : ℕ} → ((u : ℕ) → u < n → r u ≡ s u) → Top n r t → Top n s t' → t ≡ t'
top_only {n} {r} {s} {t} {t'} e a b = go (dec_lt t t') (dec_lt t' t)
  where
    less : (r s : ℕ → Bool) (t t' : ℕ) → ((u : ℕ) → u < n → r u ≡ s u) → Top n r t → Top n s t' → t < t' → ⊥
    less r s t zero e a b l = omega arith
    less r s t (suc h) e a b l = clash (s h) (b.at h refl) (sym (e h (omega (arith, b.high))) ∙ a.above h (omega arith) (omega (arith, b.high)))

    go : Dec (t < t') → Dec (t' < t) → t ≡ t'
    go (yes p) q = absurd (less r s t t' e a b p)
    go (no p) (yes q) = absurd (less s r t' t (λ u l. sym (e u l)) b a q)
    go (no p) (no q) = omega arith

-- a row without variables
pub no_variable : (n : ℕ) (r x : ℕ → Bool) → top n r ≡ 0 → broken n r x ≡ r n
no_variable n r x t = broken_none n r x (λ v u. ap (λ a. a && x v) ((top_is n r).above v (omega arith) u))

-- ---- rows cleared by one

cond_same : (b x y z : Bool) → x ≡ z → y ≡ z → cond b x y ≡ z
cond_same true x y z p q = p
cond_same false x y z p q = q

module _ (i h : ℕ) (R : ℕ → ℕ → Bool) where
  -- where row i has 0 nothing changes
  pub cleared_zero : (j u : ℕ) → R i u ≡ false → cleared i h R j u ≡ R j u
  unfolding cleared
  cleared_zero j u e =
      cond_same (not (eqb j i) && R j h) (xor (R j u) (R i u)) (R j u) (R j u) (ap (xor (R j u)) e ∙ xor_false (R j u)) refl

  -- a row without variable h stays
  pub cleared_idle : (j u : ℕ) → R j h ≡ false → cleared i h R j u ≡ R j u
  unfolding cleared
  cleared_idle j u e = go (eqb j i)
    where
      go : (b : Bool) → cond (not b && R j h) (xor (R j u) (R i u)) (R j u) ≡ R j u
      go true = refl
      go false = ap (λ t. cond t (xor (R j u) (R i u)) (R j u)) e

  pub cleared_own : (u : ℕ) → cleared i h R i u ≡ R i u
  unfolding cleared
  cleared_own u = rw (eq-eqb i i refl)

  cleared_column : (j : ℕ) → j ≢ i → R i h ≡ true → cleared i h R j h ≡ false
  unfolding cleared xor
  cleared_column j d e = rw (ne_eqb j i d, e) (go (R j h))
    where
      go : (b : Bool) → cond b (xor b true) b ≡ false
      go true = refl
      go false = refl

  -- rows are broken as before where row i is not
  cleared_broken : (n : ℕ) (x : ℕ → Bool) (j : ℕ) → broken n (R i) x ≡ false → broken n (cleared i h R j) x ≡ broken n (R j) x
  unfolding cleared
  cleared_broken n x j e = go (not (eqb j i) && R j h)
    where
      go : (b : Bool) → broken n (λ u. cond b (xor (R j u) (R i u)) (R j u)) x ≡ broken n (R j) x
      go true = broken_sum n (R j) (R i) x ∙ ap (xor (broken n (R j) x)) e ∙ xor_false (broken n (R j) x)
      go false = refl

  -- the same solutions
  pub cleared_solves : (m n : ℕ) (x : ℕ → Bool) → i < m → Solves m n R x ↔ Solves m n (cleared i h R) x
  cleared_solves m n x l = (
    λ s j u. cleared_broken n x j (s i l) ∙ s j u,
    λ s j u. sym (cleared_broken n x j (sym (broken_same n (cleared i h R i) (R i) x (λ v _. cleared_own v)) ∙ s i l)) ∙ s j u,
  )

pub reduced_none : {m n : ℕ} {R : ℕ → ℕ → Bool} → Reduced m n 0 R
reduced_none = record { alone = λ k j h l. absurd (omega arith); even = λ k l. absurd (omega arith) }

module _ {m n i : ℕ} {R : ℕ → ℕ → Bool} where
  -- a row without variables
  pub reduced_skip : Reduced m n i R → top n (R i) ≡ 0 → R i n ≡ false → Reduced m n (suc i) R
  reduced_skip ok t e = record { alone = λ k j h l. alone k j h l (ℕ_discrete k i); even = λ k l. even k l (ℕ_discrete k i) }
    where
      alone : (k j h : ℕ) → k < suc i → Dec (k ≡ i) → j < m → j ≢ k → top n (R k) ≡ suc h → R j h ≡ false
      alone k j h l (yes p) u d q = absurd (omega (arith, ap (λ a. top n (R a)) p))
      alone k j h l (no p) u d q = ok.alone k j h (omega arith) u d q

      even : (k : ℕ) → k < suc i → Dec (k ≡ i) → top n (R k) ≡ 0 → R k n ≡ false
      even k l (yes p) q = ap (λ a. R a n) p ∙ e
      even k l (no p) q = ok.even k (omega arith) q

  -- a row with the highest variable h, added to the others that have it
  pub reduced_more : (h : ℕ) → Reduced m n i R → i < m → top n (R i) ≡ suc h → Reduced m n (suc i) (cleared i h R)
  reduced_more h ok l t = record { alone = λ k j g u. alone k j g u (ℕ_discrete k i); even = λ k u. even k u (ℕ_discrete k i) }
    where
      C : ℕ → ℕ → Bool
      C = cleared i h R

      T : Top n (R i) (top n (R i))
      T = top_is n (R i)

      K : (k : ℕ) → Top n (R k) (top n (R k))
      K k = top_is n (R k)

      zero_above : (k u : ℕ) → top n (R k) ≤ u → u < n → Dec (h < u) → C k u ≡ false
      zero_above k u a b (yes p) = cleared_zero i h R k u (T.above u (omega arith) b) ∙ (K k).above u a b
      zero_above k u a b (no p) = cleared_idle i h R k u ((K k).above h (omega arith) (omega (arith, T.high))) ∙ (K k).above u a b

      same : (k : ℕ) → k < i → top n (C k) ≡ top n (R k)
      same k u = top_only (λ _ _. refl) (top_is n (C k)) (record {
        high = (K k).high;
        above = λ v a b. zero_above k v a b (dec_lt h v);
        at = λ g e. cleared_zero i h R k g (ok.alone k i g u l (omega arith) e) ∙ (K k).at g e;
      })

      alone : (k j g : ℕ) → k < suc i → Dec (k ≡ i) → j < m → j ≢ k → top n (C k) ≡ suc g → C j g ≡ false
      alone k j g u (yes p) w d e =
          ap (C j) (omega (arith, ap (λ a. top n (C a)) p, top_only (λ v _. cleared_own i h R v) (top_is n (C i)) T))
          ∙ cleared_column i h R j (omega arith) (T.at h t)
      alone k j g u (no p) w d e =
          let q : top n (R k) ≡ suc g = sym (same k (omega arith)) ∙ e in
          cleared_zero i h R j g (ok.alone k i g (omega arith) l (omega arith) q) ∙ ok.alone k j g (omega arith) w d q

      even : (k : ℕ) → k < suc i → Dec (k ≡ i) → top n (C k) ≡ 0 → C k n ≡ false
      even k u (yes p) e = absurd (omega (arith, ap (λ a. top n (C a)) p, top_only (λ v _. cleared_own i h R v) (top_is n (C i)) T))
      even k u (no p) e =
          let q : top n (R k) ≡ 0 = sym (same k (omega arith)) ∙ e in
          cleared_idle i h R k n ((K k).above h (omega arith) (omega (arith, T.high))) ∙ ok.even k (omega arith) q

  -- rows that agree up to bit n
  pub reduced_same : {R' : ℕ → ℕ → Bool} → i ≤ m → ((j u : ℕ) → j < m → u ≤ n → R' j u ≡ R j u) → Reduced m n i R → Reduced m n i R'
  reduced_same {R'} l e ok = record {
    alone = λ k j h u w d q. e j h w (omega (arith, (top_is n (R' k)).high)) ∙ ok.alone k j h u w d (sym (same k u) ∙ q);
    even = λ k u q. e k n (omega arith) (omega arith) ∙ ok.even k u (sym (same k u) ∙ q);
  }
    where
      same : (k : ℕ) → k < i → top n (R' k) ≡ top n (R k)
      same k u = top_only (λ v w. e k v (omega arith) (omega arith)) (top_is n (R' k)) (top_is n (R k))
