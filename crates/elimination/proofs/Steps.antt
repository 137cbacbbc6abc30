-- What the functions over rows tell of the rows, and so of what solves them.
use mathlib.Core.Path.{◌≡◌, refl, sym, ap, ap₂, subst, ◌∙◌}
use mathlib.Core.Bool.{Bool, true, false, not, cond, xor, ◌&&◌, true≢false}
use mathlib.Core.Logic.{◌≢◌}
use mathlib.Core.List.{List}
use Prim.Native.Nat.{ℕ, ◌+◌, ◌-◌, ◌*◌, ◌≤◌, ◌<◌}
use native.Mathlib.Decide.{ℕ_discrete, dec_lt}
use native.Mathlib.Omega.{arith}
use native.Mathlib.Numerals.{add-one}
use borrow.Author.Tests.{eq-eqb, ne_eqb, not-true, not-false}
use lib.Dec.{eqb}
use lib.ListN.{length}
use Rattle.rules.proofs.Signs.{xor_false, xor_monoid, false_xor}
use Rattle.elimination.specs.Systems.{Solves, top, cleared, replaced, Reduced}
use Rattle.elimination.specs.Rows.{width, rows_in, flipped, Copied, Summed, Turned, Done}
use Rattle.elimination.specs.Eliminating.{Eliminated}
use Rattle.elimination.proofs.Systems.{clash, broken_same, no_variable, cleared_own, cleared_idle, cleared_zero, cleared_solves, reduced_skip, reduced_more, reduced_same}
use Rattle.elimination.proofs.Bytes.{turned_none, turned_same, turned_flip, done_more}

-- ---- a row added to the others

pub clear_self : {n j : ℕ} {l : List ℕ} (i h : ℕ) → i ≡ j → Turned n j (cleared i h (rows_in n l) j) l l
clear_self {n} {j} {l} i h e =
    turned_none (λ u _. sym (ap (λ (a : ℕ). cleared i h (rows_in n l) a u) (sym e) ∙ cleared_own i h (rows_in n l) u ∙ ap (λ (a : ℕ). rows_in n l a u) e))

pub clear_idle : {n j : ℕ} {l : List ℕ} (i h : ℕ) → rows_in n l j h ≡ false → Turned n j (cleared i h (rows_in n l) j) l l
clear_idle {n} {j} {l} i h e = turned_none (λ u _. sym (cleared_idle i h (rows_in n l) j u e))

pub clear_adds : {n j : ℕ} {old new : List ℕ} (row : List ℕ) (i h : ℕ) → i ≢ j → rows_in n old j h ≡ true → Copied n i row old → Summed n j row old new
    → Turned n j (cleared i h (rows_in n old) j) old new
unfolding cleared
clear_adds {n} {j} {old} {new} row i h d e copy a = turned_same (λ u l. ap (xor (rows_in n old j u)) (copy u l) ∙ sym (chosen u)) a
  where
    chosen : (u : ℕ) → cond (not (eqb j i) && rows_in n old j h) (xor (rows_in n old j u) (rows_in n old i u)) (rows_in n old j u) ≡ xor (rows_in n old j u) (rows_in n old i u)
    chosen u = ap₂ (λ s t. cond (not s && t) (xor (rows_in n old j u) (rows_in n old i u)) (rows_in n old j u)) (ne_eqb j i (λ q. d (sym q))) e

-- row i itself stays
pub clear_row : {n j : ℕ} {old now : List ℕ} (i h : ℕ) → Done n j (cleared i h (rows_in n old)) old now → (u : ℕ) → u ≤ n → rows_in n now i u ≡ rows_in n old i u
clear_row {n} {j} {old} {now} i h d u m = go (dec_lt i j)
  where
    go : Dec (i < j) → rows_in n now i u ≡ rows_in n old i u
    go (yes p) = d.below i u p m ∙ cleared_own i h (rows_in n old) u
    go (no p) = d.above i u (omega arith) m

pub clear_more : {n j : ℕ} {old now later : List ℕ} (i h : ℕ) → h < n → Done n j (cleared i h (rows_in n old)) old now
    → Turned n j (cleared i h (rows_in n now) j) now later → Done n (j + 1) (cleared i h (rows_in n old)) old later
unfolding cleared
clear_more {n} {j} {old} {now} {later} i h l d t =
    done_more d t (λ u m. rw (d.above j h (omega arith) (omega arith), d.above j u (omega arith) m, clear_row i h d u m))

-- ---- all rows done

-- rows that agree up to bit n
solves_same : {m n : ℕ} {R R' : ℕ → ℕ → Bool} → ((j u : ℕ) → j < m → u ≤ n → R j u ≡ R' j u) → (x : ℕ → Bool) → Solves m n R' x → Solves m n R x
solves_same {m} {n} {R} {R'} e x s j l = broken_same n (R j) (R' j) x (λ u h. e j u l h) ∙ s j l

module _ {m n i : ℕ} where
  pub reduce_none : {b : Bool} {l : List ℕ} → i < m → top n (rows_in n l i) ≡ 0 → b ≡ rows_in n l i n → Eliminated m n i (i + 1) (not b) l l
  reduce_none {b} {l} u t e = record {
    long = refl;
    reduced = λ r ok. subst (λ (k : ℕ). Reduced m n k (rows_in n l)) (sym (add-one i)) (reduced_skip ok t (sym e ∙ not-true b r));
    same = λ x. (λ s. s, λ s. s);
    absent = λ v h a. a;
    none = λ r x s. clash (rows_in n l i n) (sym e ∙ not-false b r) (sym (no_variable n (rows_in n l i) x t) ∙ s i u);
  }

  pub reduce_more : {t : ℕ} {old new : List ℕ} → i < m → (t ≡ 0 → ⊥) → t ≡ top n (rows_in n old i)
      → Done n m (cleared i (t - 1) (rows_in n old)) old new → Eliminated m n i (i + 1) true old new
  reduce_more {t} {old} {new} u z p d = record {
    long = d.long;
    reduced = λ r ok. subst (λ (k : ℕ). Reduced m n k (rows_in n new)) (sym (add-one i))
        (reduced_same (omega arith) (λ j v a b. d.below j v a b) (reduced_more (t - 1) ok u (omega arith)));
    same = λ x. (
      λ s. solves_same (λ j v a b. d.below j v a b) x ((cleared_solves i (t - 1) R m n x u).0 s),
      λ s. (cleared_solves i (t - 1) R m n x u).1 (solves_same (λ j v a b. sym (d.below j v a b)) x s),
    );
    absent = λ v h a j l. d.below j v l (omega arith) ∙ cleared_zero i (t - 1) R j v (a i u) ∙ a j l;
    none = λ r. absurd (true≢false r);
  }
    where
      R : ℕ → ℕ → Bool
      R = rows_in n old

  pub eliminated_more : {r : Bool} {old now later : List ℕ} → Eliminated m n 0 i true old now → Eliminated m n i (i + 1) r now later
      → Eliminated m n 0 (i + 1) r old later
  eliminated_more a b = record {
    long = b.long ∙ a.long;
    reduced = λ r ok. b.reduced r (a.reduced refl ok);
    same = λ x. (λ s. (b.same x).0 ((a.same x).0 s), λ s. (a.same x).1 ((b.same x).1 s));
    absent = λ v h z. b.absent v h (a.absent v h z);
    none = λ r x s. b.none r x ((a.same x).0 s);
  }

pub eliminated_fail : {m n e : ℕ} {r : Bool} {old new : List ℕ} → r ≡ false → Eliminated m n 0 e r old new → Eliminated m n 0 m false old new
eliminated_fail {r = r} p a = record {
  long = a.long;
  reduced = λ q. absurd (true≢false (sym q));
  same = a.same;
  absent = a.absent;
  none = λ q. a.none p;
}

pub eliminated_next : {m n i : ℕ} {r : Bool} {old new : List ℕ} → r ≡ true → Eliminated m n 0 i r old new → Eliminated m n 0 i true old new
eliminated_next {m} {n} {i} {r} {old} {new} e a = subst (λ (r : Bool). Eliminated m n 0 i r old new) e a

-- ---- a variable replaced by its value

module _ {n j : ℕ} {l : List ℕ} (v : ℕ) (b : Bool) where
  pub replace_idle : rows_in n l j v ≡ false → Turned n j (replaced n v b (rows_in n l) j) l l
  unfolding replaced
  replace_idle e = turned_none (λ u _. sym (ap (λ t. cond t (xor (rows_in n l j u) (cond (eqb u v) true (eqb u n && b))) (rows_in n l j u)) e))

  pub replace_zero : {new : List ℕ} → v < n → width n * j + width n ≤ length l → rows_in n l j v ≡ true → b ≡ false
      → new ≡ flipped l (width n * j) v → Turned n j (replaced n v b (rows_in n l) j) l new
  unfolding replaced
  replace_zero {new} a f e z q =
      turned_same (λ u _. sym (rw (e, z) (ap (xor (rows_in n l j u)) (go (eqb u v) (eqb u n))))) (turned_flip (omega arith) f (turned_none (λ u _. refl)) q)
    where
      go : (s t : Bool) → cond s true (t && false) ≡ s
      go true t = refl
      go false true = refl
      go false false = refl

  pub replace_one_lem : {mid new : List ℕ} → v < n → width n * j + width n ≤ length l → rows_in n l j v ≡ true → b ≡ true
      → mid ≡ flipped l (width n * j) v → new ≡ flipped mid (width n * j) n → Turned n j (replaced n v b (rows_in n l) j) l new
  unfolding replaced
  replace_one_lem {mid} {new} a f e z p q =
      turned_same (λ u _. sym (rw (e, z) (ap (xor (rows_in n l j u)) (go u (ℕ_discrete u v)) ∙ sym (xor_monoid.assoc (rows_in n l j u) (eqb u v) (eqb u n)))))
      (turned_flip (omega arith) f (turned_flip (omega arith) f (turned_none (λ u _. refl)) p) q)
    where
      both : (t : Bool) → (t && true) ≡ xor false t
      both true = sym (false_xor true)
      both false = sym (false_xor false)

      go : (u : ℕ) → Dec (u ≡ v) → cond (eqb u v) true (eqb u n && true) ≡ xor (eqb u v) (eqb u n)
      go u (yes d) = rw (eq-eqb u v d, ne_eqb u n (λ k. omega arith)) (sym (xor_false true))
      go u (no d) = rw (ne_eqb u v d) (both (eqb u n))

pub replace_more : {n j : ℕ} {old now later : List ℕ} (v : ℕ) (b : Bool) → v < n → Done n j (replaced n v b (rows_in n old)) old now
    → Turned n j (replaced n v b (rows_in n now) j) now later → Done n (j + 1) (replaced n v b (rows_in n old)) old later
unfolding replaced
replace_more {n} {j} {old} {now} {later} v b l d t =
    done_more d t (λ u m. rw (d.above j v (omega arith) (omega arith), d.above j u (omega arith) m))
