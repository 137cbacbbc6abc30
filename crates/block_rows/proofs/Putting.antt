-- The pass that stores: the checks of a block row, put entry by entry.
use mathlib.Core.Path.{◌≡◌, refl, sym, ap, ap₂, ◌∙◌, subst}
use mathlib.Core.Bool.{cond}
use mathlib.Core.Logic.{◌≢◌}
use mathlib.Core.List.{List, ◌++◌}
use Prim.Native.Nat.{ℕ, suc, ◌+◌, ◌-◌, ◌*◌, ◌%◌, ◌≤◌, ◌<◌}
use native.Mathlib.Decide.{dec_lt}
use native.Mathlib.Nat.{add-mul, suc-mul, mul-le-mul_right, mod-eq_of_lt, mod-eq-sub-mod}
use native.Mathlib.Omega.{arith}
use borrow.Author.Tests.{eq-eqb, ne_eqb}
use lib.Dec.{eqb}
use lib.ListN.{length, get_or, drop, take-append-drop}
use Rattle.words.specs.Words.{stored}
use Rattle.words.specs.Roles.{wide, column_at}
use Rattle.words.proofs.Words.{length_stored, put_table, table_self}
use Rattle.block_sheets.proofs.Text.Rows.{part_mod, part_below}
use Rattle.block_sheets.specs.Reader.Storing.{Holds, Along, PutsAlong, one_of, RowPut, PutsRow}

-- ---- a list that holds numbers

-- any list holds its own
pub holds_self : (M : ℕ) (c : List ℕ) → wide * M ≤ length c → ((k : ℕ) → get_or c k 0 < 256) → Holds M (column_at c) c c
holds_self M c l h = record { long = refl; is = sym (take-append-drop (wide * M) c) ∙ ap (λ (t : List ℕ). t ++ drop (wide * M) c) (sym (table_self wide c M l h)) }

-- one number put
holds_put : {M : ℕ} {g : ℕ → ℕ} {old now later : List ℕ} (i x : ℕ) → Holds M g old now → i < M → later ≡ stored wide now (wide * i) x
    → Holds M (λ k. cond (eqb k i) x (g k)) old later
holds_put {M} {g} {old} {now} {later} i x h l e = record {
  long = ap length e ∙ length_stored wide now (wide * i) x ∙ h.long;
  is = e ∙ ap (λ (b : List ℕ). stored wide b (wide * i) x) h.is
      ∙ put_table wide g (λ k. cond (eqb k i) x (g k)) M (drop (wide * M) old) i x l (rw (eq-eqb i i refl)) (λ j u n. rw (ne_eqb j i n));
}

-- ---- numbers put d apart

-- no two places are the same
apart : (d : ℕ) → 0 < d → (r s : ℕ) → r < s → r * d < s * d
apart d h r s l = omega (arith, suc-mul r d, mul-le-mul_right {m = suc r} {n = s} d l)

pub record Going (e d : ℕ) (f : ℕ → ℕ) (c c' : List ℕ) (r : ℕ) : Type 0 where
  pub long : length c' ≡ length c
  pub puts : PutsAlong e d r f c c'

pub along_none : (e d : ℕ) (f : ℕ → ℕ) (c : List ℕ) → Going e d f c c 0
along_none e d f c = record {
  long = refl;
  puts = λ M g old h room. record { then = g; holds = h; at = λ r l. absurd (omega arith); else_same = λ i n. refl };
}

pub along_more : {e d : ℕ} {f : ℕ → ℕ} {c c' : List ℕ} {r : ℕ} → Going e d f c c' r → 0 < d → {later : List ℕ} {x : ℕ} → later ≡ stored wide c' (wide * (e + r * d)) x
    → x ≡ f r → Going e d f c later (r + 1)
along_more {e} {d} {f} {c} {c'} {r} q h {later} {x} s v = record {
  long = ap length s ∙ length_stored wide c' (wide * (e + r * d)) x ∙ q.long;
  puts = λ M g old k room. more M g old (q.puts M g old k (λ t l. room t (omega arith))) (room r (omega arith));
}
  where
    more : (M : ℕ) (g : ℕ → ℕ) (old : List ℕ) → Along M g old c' e d r f → e + r * d < M → Along M g old later e d (r + 1) f
    more M g old a l = record {
      then = λ k. cond (eqb k (e + r * d)) x (a.then k);
      holds = holds_put (e + r * d) x a.holds l s;
      at = λ t u. go t u (dec_lt t r);
      else_same = λ i n. rw (ne_eqb i (e + r * d) (n r (omega arith))) (a.else_same i (λ t u. n t (omega arith)));
    }
      where
        go : (t : ℕ) → t < r + 1 → Dec (t < r) → cond (eqb (e + t * d) (e + r * d)) x (a.then (e + t * d)) ≡ f t
        go t u (yes y) = rw (ne_eqb (e + t * d) (e + r * d) (λ z. absurd (omega (arith, apart d h t r y)))) (a.at t y)
        go t u (no n) = let same : t ≡ r = omega arith in rw (same, eq-eqb (e + r * d) (e + r * d) refl) v

pub along_all : {e d : ℕ} {f : ℕ → ℕ} {c c' : List ℕ} {r count : ℕ} → Going e d f c c' r → r ≡ count → PutsAlong e d count f c c'
along_all {e} {d} {f} {c} {c'} q t = subst (λ (n : ℕ). PutsAlong e d n f c c') t q.puts

-- ---- the ones of an entry

-- first those from the shift on, then those from the beginning of the block column
module _ (e d base shift size first : ℕ) (h : 0 < d) (u : shift < size) (is-first : first ≡ size - shift) where
  turned : (r : ℕ) → r < size → (r < first → base + shift + r ≡ one_of base shift size r) × (first ≤ r → base + (r - first) ≡ one_of base shift size r)
  turned r l = (
    λ y. ap (λ (n : ℕ). n) (omega (arith, mod-eq_of_lt {n = r + shift} {m = size} (omega arith))),
    λ y. omega (arith, mod-eq-sub-mod {n = r + shift} {m = size} (omega arith), mod-eq_of_lt {n = r + shift - size} {m = size} (omega arith)),
  )

  shifted : (r : ℕ) → e + first * d + r * d ≡ e + (first + r) * d
  shifted r = omega (arith, add-mul first r d)

  pub entry_puts : {c c₁ c₂ : List ℕ} → PutsAlong e d first (λ r. base + shift + r) c c₁ → PutsAlong (e + first * d) d shift (λ r. base + r) c₁ c₂
      → PutsAlong e d size (one_of base shift size) c c₂
  entry_puts {c} {c₁} {c₂} p q M g old k room =
      let a = p M g old k (λ r l. room r (omega arith)) in
      let b = q M a.then old a.holds (λ r l. omega (arith, shifted r, room (first + r) (omega arith))) in
      record {
        then = b.then;
        holds = b.holds;
        at = λ r l. go r l a b (dec_lt r first);
        else_same = λ i n.
            b.else_same i (λ r l z. n (first + r) (omega arith) (z ∙ shifted r)) ∙ a.else_same i (λ r l. n r (omega arith));
      }
    where
      go : (r : ℕ) → r < size → (a : Along M g old c₁ e d first (λ t. base + shift + t)) (b : Along M a.then old c₂ (e + first * d) d shift (λ t. base + t))
          → Dec (r < first) → b.then (e + r * d) ≡ one_of base shift size r
      go r l a b (yes y) =
          b.else_same (e + r * d) (λ t v z. absurd (omega (arith, shifted t, apart d h r (first + t) (omega arith)))) ∙ a.at r y ∙ (turned r l).0 y
      go r l a b (no n) =
          let s : r - first < shift = omega arith in
          let w : e + r * d ≡ e + first * d + (r - first) * d = ap (λ (t : ℕ). e + t * d) (omega arith) ∙ sym (shifted (r - first)) in
          ap b.then w ∙ b.at (r - first) s ∙ (turned r l).1 (omega arith)

-- ---- the checks of a block row

pub record Rowing (bases shifts : List ℕ) (d size e : ℕ) (c c' : List ℕ) (q : ℕ) : Type 0 where
  pub long : length c' ≡ length c
  pub puts : (M : ℕ) (g : ℕ → ℕ) (old : List ℕ) → Holds M g old c → e + size * d ≤ M → RowPut M g old c' bases shifts d size e q

pub row_none : (bases shifts : List ℕ) (d size e : ℕ) (c : List ℕ) → Rowing bases shifts d size e c c 0
row_none bases shifts d size e c = record {
  long = refl;
  puts = λ M g old h l. record { then = g; holds = h; at = λ r p u v. absurd (omega arith); above = λ i u. refl };
}

-- the places of entry p
module _ (d size e p : ℕ) (l : p < d) where
  pub place_below : (r : ℕ) → r < size → e + p + r * d < e + size * d
  place_below r u = omega (arith, part_below d r p l size u)

  -- are those of no other entry
  others : (r s k : ℕ) → k < d → k ≢ p → e + r * d + k ≢ e + p + s * d
  others r s k u n z =
      n (sym (part_mod d r k u) ∙ ap (λ (x : ℕ). x % d) (let w : r * d + k ≡ s * d + p = omega arith in w) ∙ part_mod d s p l)

pub row_more : {bases shifts : List ℕ} {d size e : ℕ} {c c' : List ℕ} {p : ℕ} → Rowing bases shifts d size e c c' p → p < d → {later : List ℕ} {base shift : ℕ}
    → length later ≡ length c → base ≡ column_at bases p → shift ≡ column_at shifts p → PutsAlong (e + p) d size (one_of base shift size) c' later
    → Rowing bases shifts d size e c later (p + 1)
row_more {bases} {shifts} {d} {size} {e} {c} {c'} {p} q l {later} {base} {shift} long eb es puts = record {
  long = long;
  puts = λ M g old h u. more M g old u (q.puts M g old h u);
}
  where
    more : (M : ℕ) (g : ℕ → ℕ) (old : List ℕ) → e + size * d ≤ M → RowPut M g old c' bases shifts d size e p → RowPut M g old later bases shifts d size e (p + 1)
    more M g old u w =
        let a = puts M w.then old w.holds (λ r v. omega (arith, place_below d size e p l r v)) in
        record {
          then = a.then;
          holds = a.holds;
          at = λ r k v y. go r k v y a (dec_lt k p);
          above = λ i v. a.else_same i (λ r y. λ z. absurd (omega arith)) ∙ w.above i v;
        }
      where
        go : (r k : ℕ) → r < size → k < p + 1 → (a : Along M w.then old later (e + p) d size (one_of base shift size)) → Dec (k < p)
            → a.then (e + r * d + k) ≡ one_of (column_at bases k) (column_at shifts k) size r
        go r k v y a (yes z) = a.else_same (e + r * d + k) (λ s t. others d size e p l r s k (omega arith) (λ x. absurd (omega arith))) ∙ w.at r k v z
        go r k v y a (no n) =
            let same : k ≡ p = omega arith in
            let at : e + r * d + k ≡ e + p + r * d = omega arith in
            ap a.then at ∙ a.at r v ∙ ap₂ (λ (x t : ℕ). one_of x t size r) eb es ∙ ap (λ (n : ℕ). one_of (column_at bases n) (column_at shifts n) size r) (sym same)

pub row_all : {bases shifts : List ℕ} {d size e : ℕ} {c c' : List ℕ} {p : ℕ} → Rowing bases shifts d size e c c' p → p ≡ d → PutsRow bases shifts d size e c c'
row_all {bases} {shifts} {d} {size} {e} {c} {c'} q t M g old h u = subst (RowPut M g old c' bases shifts d size e) t (q.puts M g old h u)
