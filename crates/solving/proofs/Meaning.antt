-- From a graph and given bits to the least codeword that holds them: rows that mean the checks, given variables replaced by their bits,
-- and the ones of the codeword put in row by row.
use mathlib.Core.Path.{◌≡◌, refl, sym, ap, ap₂, ◌∙◌}
use mathlib.Core.Bool.{Bool, true, false, xor, ◌&&◌}
use mathlib.Core.Logic.{◌≢◌}
use mathlib.Core.List.{List}
use Prim.Native.Nat.{ℕ, zero, suc, ◌+◌, ◌≤◌, ◌<◌}
use native.Mathlib.Decide.{ℕ_discrete}
use native.Mathlib.Omega.{arith}
use borrow.Author.Tests.{eq-eqb, ne_eqb}
use lib.Dec.{eqb}
use Rattle.rules.specs.Graphs.{Graph, Admitted, check_degree, odd_check}
use Rattle.rules.specs.Ranges.{fold}
use Rattle.rules.proofs.Rows.{rowed, row_entries_lem}
use Rattle.rules.proofs.Tests.{and_no}
use Rattle.rules.proofs.Signs.{xor_false, xor_self}
use Rattle.elimination.specs.Systems.{broken, Solves, top, replaced, Reduced}
use Rattle.elimination.specs.Rows.{rows_in}
use Rattle.elimination.specs.Eliminating.{Absent, Eliminated}
use Rattle.elimination.proofs.Systems.{clash, broken_same, broken_none, broken_sum, one_place, broken_set, settled, Top, top_is, replaced_column, replaced_other, replaced_broken}
use Rattle.codewords.specs.Choosing.{Given, Fitting, Least}
use Rattle.solving.specs.Solving.{Forced, Rising, upto, Means, Filling, entries_row, check_rows}

-- a member whose ones are all forced is the least
pub least_forced : (n : ℕ) (S : (ℕ → Bool) → Type 0) (x : ℕ → Bool) → S x → ((v : ℕ) → v < n → x v ≡ true → Forced S v) → Least n S x
least_forced n S x s f = record { member = s; first = λ y t v l a d. go y t v l a d (x v) refl }
  where
    go : (y : ℕ → Bool) → S y → (v : ℕ) → v < n → ((u : ℕ) → u < v → x u ≡ y u) → x v ≢ y v → (b : Bool) → x v ≡ b → x v ≡ false
    go y t v l a d true e = absurd (d (f v l e x y s t a))
    go y t v l a d false e = e

-- ---- the ones put in

module _ {S : (ℕ → Bool) → Type 0} {g : Given} {m n i : ℕ} {R : ℕ → ℕ → Bool} {x : ℕ → Bool} (l : i < m) (F : Filling S g m n i R x) where
  right_side : broken n (R i) x ≡ R i n
  right_side = broken_none n (R i) x (λ v u. go v u (x v) refl)
    where
      go : (v : ℕ) → v < n → (b : Bool) → x v ≡ b → (R i v && b) ≡ false
      go v u true e = ap (λ t. t && true) (F.later i v (omega arith) l u e)
      go v u false e = and_no (R i v)

  pub filling_skip : R i n ≡ false → Filling S g m n (suc i) R x
  filling_skip e = record {
    done = λ k u. go k u (ℕ_discrete k i);
    later = λ k v a b. F.later k v (omega arith) b;
    ones = F.ones;
    holds = F.holds;
  }
    where
      go : (k : ℕ) → k < suc i → Dec (k ≡ i) → broken n (R k) x ≡ false
      go k u (yes p) = ap (λ a. broken n (R a) x) p ∙ right_side ∙ e
      go k u (no p) = F.done k (omega arith)

  -- the highest variable of row i set to 1
  module _ {y : ℕ → Bool} (ok : Reduced m n m R) (clear : (k : ℕ) → k < g.count → Absent m R (g.position k))
      (sound : (z : ℕ → Bool) → S z → Solves m n R z) where
    pub filling_more : (h : ℕ) → top n (R i) ≡ suc h → R i n ≡ true → y h ≡ true → ((u : ℕ) → u ≢ h → y u ≡ x u) → Filling S g m n (suc i) R y
    filling_more h t e p q = record {
      done = λ k u. done k u (ℕ_discrete k i);
      later = λ k v a b c d. later k v a b c d (ℕ_discrete v h);
      ones = λ v u d. ones v u d (ℕ_discrete v h);
      holds = λ k u. q (g.position k) (λ d. clash (R i h) own (sym (ap (R i) d) ∙ clear k u i l)) ∙ F.holds k u;
    }
      where
        T : Top n (R i) (top n (R i))
        T = top_is n (R i)

        own : R i h ≡ true
        own = T.at h t

        inside : h < n
        inside = omega (arith, T.high)

        was : (b : Bool) → x h ≡ b → x h ≡ false
        was true d = clash (R i h) own (F.later i h (omega arith) l inside d)
        was false d = d

        now_broken : (k : ℕ) → broken n (R k) y ≡ xor (broken n (R k) x) (R k h)
        now_broken k = broken_set n (R k) x y h inside (was (x h) refl) p (λ u _ d. q u d)

        done : (k : ℕ) → k < suc i → Dec (k ≡ i) → broken n (R k) y ≡ false
        done k u (yes d) = ap (λ a. broken n (R a) y) d ∙ now_broken i ∙ ap₂ xor (right_side ∙ e) own ∙ xor_self true
        done k u (no d) = now_broken k ∙ ap₂ xor (F.done k (omega arith)) (ok.alone i k h l (omega arith) d t) ∙ xor_self false

        later : (k v : ℕ) → suc i ≤ k → k < m → v < n → y v ≡ true → Dec (v ≡ h) → R k v ≡ false
        later k v a b c d (yes f) = ap (R k) f ∙ ok.alone i k h l b (omega arith) t
        later k v a b c d (no f) = F.later k v (omega arith) b c (sym (q v f) ∙ d)

        ones : (v : ℕ) → v < n → y v ≡ true → Dec (v ≡ h) → Forced S v
        ones v u d (yes f) = λ a b s r same.
            settled n (R i) a b v u (ap (R i) f ∙ own) (λ w c. T.above w (omega arith)) (sound a s i l) (sound b r i l) same
        ones v u d (no f) = F.ones v u (sym (q v f) ∙ d)

-- ---- the given bits put in

pub rises : {n : ℕ} {g : Given} → Rising n g → (j k : ℕ) → j < k → k < g.count → g.position j < g.position k
rises r j zero l u = absurd (omega arith)
rises {n} {g} r j (suc k) l u = go (ℕ_discrete j k) (rises r j k)
  where
    go : Dec (j ≡ k) → (j < k → k < g.count → g.position j < g.position k) → g.position j < g.position (suc k)
    go (yes e) ih = omega (arith, r.rising k u, ap g.position e)
    go (no e) ih = omega (arith, r.rising k u, ih (omega arith) (omega arith))

module _ {G : Graph} {g : Given} {m n : ℕ} {R : ℕ → ℕ → Bool} where
  pub filling_none : {x : ℕ → Bool} → ((v : ℕ) → v < n → x v ≡ false) → Filling (Fitting G g) (upto 0 g) m n 0 R x
  filling_none {x} z = record {
    done = λ k u. absurd (omega arith);
    later = λ k v a b c d. clash (x v) d (z v c);
    ones = λ v u d. clash (x v) d (z v u);
    holds = λ k u. absurd (omega arith);
  }

  pub filling_given : {x y : ℕ → Bool} {k : ℕ} → Rising n g → Means G g m n R → k < g.count → Filling (Fitting G g) (upto k g) m n 0 R x
      → y (g.position k) ≡ g.bit k → ((u : ℕ) → u ≢ g.position k → y u ≡ x u) → Filling (Fitting G g) (upto (suc k) g) m n 0 R y
  filling_given {x} {y} {k} r M l F p q = record {
    done = λ j u. absurd (omega arith);
    later = λ j v a b c d. later j v b c d (ℕ_discrete v (g.position k));
    ones = λ v u d. ones v u d (ℕ_discrete v (g.position k));
    holds = λ j u. holds j u (ℕ_discrete j k);
  }
    where
      later : (j v : ℕ) → j < m → v < n → y v ≡ true → Dec (v ≡ g.position k) → R j v ≡ false
      later j v b c d (yes e) = ap (R j) e ∙ M.clear k l j b
      later j v b c d (no e) = F.later j v (omega arith) b c (sym (q v e) ∙ d)

      ones : (v : ℕ) → v < n → y v ≡ true → Dec (v ≡ g.position k) → Forced (Fitting G g) v
      ones v u d (yes e) = λ a b s t same. ap a e ∙ s.holds k l ∙ sym (t.holds k l) ∙ ap b (sym e)
      ones v u d (no e) = F.ones v u (sym (q v e) ∙ d)

      holds : (j : ℕ) → j < suc k → Dec (j ≡ k) → y (g.position j) ≡ g.bit j
      holds j u (yes e) = ap (λ a. y (g.position a)) e ∙ p ∙ ap g.bit (sym e)
      holds j u (no e) = q (g.position j) (λ d. omega (arith, rises r j k (omega arith) l)) ∙ F.holds j (omega arith)

  -- ---- the end

  pub least_found : {x : ℕ → Bool} → Means G g m n R → Filling (Fitting G g) g m n m R x → Least n (Fitting G g) x
  least_found {x} M F = least_forced n (Fitting G g) x (record { codeword = (M.says x F.holds).1 F.done; holds = F.holds }) F.ones

-- ---- what the steps do to the meaning

module _ {G : Graph} {g : Given} {m n : ℕ} {R : ℕ → ℕ → Bool} where
  -- rows that agree up to bit n
  pub means_same : {R' : ℕ → ℕ → Bool} → Rising n g → ((j u : ℕ) → j < m → u ≤ n → R' j u ≡ R j u) → Means G g m n R → Means G g m n R'
  means_same {R'} r e M = record {
    says = λ x h. (
      λ c j l. broken_same n (R' j) (R j) x (λ v u. e j v l u) ∙ (M.says x h).0 c j l,
      λ s. (M.says x h).1 (λ j l. sym (broken_same n (R' j) (R j) x (λ v u. e j v l u)) ∙ s j l),
    );
    clear = λ k u j l. e j (g.position k) l (omega (arith, r.within k u)) ∙ M.clear k u j l;
  }

  -- one more given variable replaced
  pub means_replaced : {k : ℕ} → Rising n g → k < g.count → Means G (upto k g) m n R
      → Means G (upto (suc k) g) m n (replaced n (g.position k) (g.bit k) R)
  means_replaced {k} r l M = record {
    says = λ x h. (
      λ c j u. replaced_broken n (g.position k) (g.bit k) R (r.within k l) x j (h k (omega arith)) ∙ (M.says x (λ a b. h a (omega arith))).0 c j u,
      λ s. (M.says x (λ a b. h a (omega arith))).1
          (λ j u. sym (replaced_broken n (g.position k) (g.bit k) R (r.within k l) x j (h k (omega arith))) ∙ s j u),
    );
    clear = λ a u j b. go a j u b (ℕ_discrete a k);
  }
    where
      go : (a j : ℕ) → a < suc k → j < m → Dec (a ≡ k) → replaced n (g.position k) (g.bit k) R j (g.position a) ≡ false
      go a j u b (yes e) =
          ap (λ w. replaced n (g.position k) (g.bit k) R j (g.position w)) e ∙ replaced_column n (g.position k) (g.bit k) R (r.within k l) j
      go a j u b (no e) =
          replaced_other n (g.position k) (g.bit k) R (r.within k l) j (g.position a) (r.within a (omega arith))
          (λ d. omega (arith, rises r a k (omega arith) l))
          ∙ M.clear a (omega arith) j b

-- the rows eliminated
pub means_eliminated : {G : Graph} {g : Given} {m n : ℕ} {r : Bool} {old new : List ℕ} → Rising n g → Eliminated m n 0 m r old new → Means G g m n (rows_in n old)
    → Means G g m n (rows_in n new)
means_eliminated up e M = record {
  says = λ x h. (λ c. (e.same x).0 ((M.says x h).0 c), λ s. (M.says x h).1 ((e.same x).1 s));
  clear = λ k u. e.absent _ (up.within k u) (M.clear k u);
}

-- ---- the rows of the checks

module _ (n : ℕ) (x : ℕ → Bool) where
  broken_unit : (v : ℕ) → v < n → broken n (λ u. eqb u v) x ≡ x v
  broken_unit v l =
      sym (xor_false (broken n (λ u. eqb u v) x)) ∙ ap (xor (broken n (λ u. eqb u v) x)) (sym nothing)
      ∙ one_place n (λ u. eqb u v) (λ u. false) x x v l (λ u m d. ap (λ b. b && x u) (ne_eqb u v d))
      ∙ ap₂ (λ a b. xor (xor (a && x v) false) (xor b false)) (eq-eqb v v refl) (ne_eqb n v (λ e. omega arith))
      ∙ ap (λ b. xor b (xor false false)) (xor_false (x v)) ∙ ap (xor (x v)) (xor_self false) ∙ xor_false (x v)
    where
      nothing : broken n (λ u. false) x ≡ false
      nothing = broken_none n (λ u. false) x (λ v l. refl)

  broken_fold : (column : ℕ → ℕ) (a t : ℕ) → ((e : ℕ) → e < a + t → column e < n)
      → broken n (entries_row column a t) x ≡ fold xor false (λ e. x (column e)) a t
  unfolding fold entries_row
  broken_fold column a zero h = broken_none n (λ u. false) x (λ v l. refl)
  broken_fold column a (suc t) h =
      broken_sum n (entries_row column a t) (λ u. eqb u (column (a + t))) x
      ∙ ap₂ xor (broken_fold column a t (λ e l. h e (omega arith))) (broken_unit (column (a + t)) (h (a + t) (omega arith)))

pub checks_mean : (G : Graph) (g : Given) → Admitted G → Means G (upto 0 g) G.checks G.variables (check_rows G)
unfolding odd_check
checks_mean G g ok = record {
  says = λ x h. (λ c j l. same x j l ∙ c j l, λ s j l. sym (same x j l) ∙ s j l);
  clear = λ k u. absurd (omega arith);
}
  where
    same : (x : ℕ → Bool) (j : ℕ) → j < G.checks → broken G.variables (check_rows G j) x ≡ odd_check G x j
    same x j l = broken_fold G.variables x G.column (G.start j) (check_degree G j) (λ e u. ok.within e (row_entries_lem G (rowed ok) j e l u))
