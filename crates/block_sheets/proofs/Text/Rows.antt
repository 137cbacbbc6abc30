-- A graph given by its rows: its starts, and its entries by check and place.
use mathlib.Core.Path.{◌≡◌, refl, ap, ap₂, ◌∙◌}
use Prim.Native.Nat.{ℕ, zero, suc, ◌+◌, ◌-◌, ◌*◌, ◌/◌, ◌%◌, ◌≤◌, ◌<◌}
use native.Mathlib.Decide.{ℕ_discrete}
use native.Mathlib.Nat.{zero-add, zero-mul, mul-zero, suc-mul, mul-add, mul-le-mul_right, mul-add-div_right, div-eq_of_lt, mul-add-mod_self_right, mod-eq_of_lt}
use native.Mathlib.Omega.{arith}
use borrow.Author.Tests.{ltb-true, ltb-false, lt-ltb, le-ltb}
use lib.Dec.{ltb}
use Rattle.rules.specs.Ranges.{fold}
use Rattle.rules.proofs.Ranges.{First, first_is, first_only}
use Rattle.block_sheets.specs.Text.Expansion.{row_start, row_of}

module _ (degree : ℕ → ℕ) where
  pub start_none : row_start degree 0 ≡ 0
  unfolding row_start fold
  start_none = refl

  pub start_next : (c : ℕ) → row_start degree (suc c) ≡ row_start degree c + degree c
  unfolding row_start fold
  start_next c = ap (λ (x : ℕ). row_start degree c + degree x) (zero-add c)

  pub starts_rise : (c d : ℕ) → c ≤ d → row_start degree c ≤ row_start degree d
  starts_rise c zero l = let p : c ≡ 0 = omega arith in rw p (omega arith)
  starts_rise c (suc d) l = go (ℕ_discrete c (suc d)) (starts_rise c d)
    where
      go : Dec (c ≡ suc d) → (c ≤ d → row_start degree c ≤ row_start degree d) → row_start degree c ≤ row_start degree (suc d)
      go (yes p) ih = rw p (omega arith)
      go (no p) ih = omega (arith, ih (omega arith), start_next d)

  module _ (m e : ℕ) where
    -- an entry stands in its row
    pub row_within : e < row_start degree m
        → (row_of degree m e < m) × (row_start degree (row_of degree m e) ≤ e) × (e < row_start degree (row_of degree m e) + degree (row_of degree m e))
    unfolding row_of
    row_within h = (inside, from c refl, omega (arith, ltb-true e (row_start degree (suc c)) (f.found (omega (arith, inside))), start_next c))
      where
        c : ℕ
        c = row_of degree m e

        f : First (λ c. ltb e (row_start degree (suc c))) 0 m c
        f = first_is (λ c. ltb e (row_start degree (suc c))) 0 m

        from : (j : ℕ) → j ≡ c → row_start degree j ≤ e
        from zero p = omega (arith, start_none)
        from (suc j) p = ltb-false e (row_start degree (suc j)) (f.before j (omega arith) (omega arith))

        inside : c < m
        inside = go (ℕ_discrete c m)
          where
            go : Dec (c ≡ m) → c < m
            go (yes p) = absurd (omega (arith, from c refl, ap (row_start degree) p))
            go (no p) = omega (arith, f.high)

    -- and in no other
    pub row_is : (c : ℕ) → c < m → row_start degree c ≤ e → e < row_start degree c + degree c → row_of degree m e ≡ c
    unfolding row_of
    row_is c h l u = first_only (first_is (λ c. ltb e (row_start degree (suc c))) 0 m) (record {
      low = omega arith;
      high = omega arith;
      before = λ k _ n. le-ltb e (row_start degree (suc k)) (omega (arith, starts_rise (suc k) c n));
      found = λ _. lt-ltb e (row_start degree (suc c)) (omega (arith, start_next c));
    })

  -- entry p of row c
  pub column_at_lem : (m : ℕ) (at : ℕ → ℕ → ℕ) (c p : ℕ) → c < m → p < degree c
      → at (row_of degree m (row_start degree c + p)) (row_start degree c + p - row_start degree (row_of degree m (row_start degree c + p))) ≡ at c p
  column_at_lem m at c p h l =
      let q = row_is m (row_start degree c + p) c h (omega arith) (omega arith) in
      rw q (ap (at c) (omega arith))

-- ---- a number below n, and one below Z within it: jZ + x

module _ (Z j x : ℕ) (l : x < Z) where
  pub part_div : (j * Z + x) / Z ≡ j
  part_div = omega (arith, mul-add-div_right {m = Z} (omega arith) j x, div-eq_of_lt {n = x} {m = Z} l)

  pub part_mod : (j * Z + x) % Z ≡ x
  part_mod = mul-add-mod_self_right j Z x ∙ mod-eq_of_lt {n = x} {m = Z} l

  pub part_below : (n : ℕ) → j < n → j * Z + x < n * Z
  part_below n h = omega (arith, mul-le-mul_right {m = suc j} {n = n} Z h, suc-mul j Z)

-- rows that come Z at a time: where the starts s of the Z-fold rows rise from 0
module _ (Z : ℕ) (s : ℕ → ℕ) (begins : s 0 ≡ 0) (rise : (i : ℕ) → s i ≤ s (suc i)) where
  abbrev times : ℕ → ℕ
  times c = s (suc (c / Z)) - s (c / Z)

  abbrev Starts : ℕ → ℕ → Type 0
  Starts i r = row_start times (i * Z + r) ≡ Z * s i + r * (s (suc i) - s i)

  along : (i r : ℕ) → r ≤ Z → Starts i 0 → Starts i r
  along i zero h b = b
  along i (suc r) h b =
      let d = s (suc i) - s i in
      ap (row_start times) (omega arith) ∙ start_next times (i * Z + r) ∙ ap₂ ◌+◌ (along i r (omega arith) b) (ap (λ (x : ℕ). s (suc x) - s x) (part_div Z i r h))
      ∙ omega (arith, suc-mul r d)

  blocks : (i : ℕ) → Starts i 0
  blocks zero = ap (row_start times) (omega (arith, zero-mul Z)) ∙ start_none times ∙ omega (arith, ap (λ (x : ℕ). Z * x) begins, mul-zero Z)
  blocks (suc i) =
      let d = s (suc i) - s i in
      let sum : s i + d ≡ s (suc i) = omega (arith, rise i) in
      ap (row_start times) (omega (arith, suc-mul i Z)) ∙ along i Z (omega arith) (blocks i) ∙ omega (arith, mul-add Z (s i) d, ap (λ (x : ℕ). Z * x) sum)

  -- where row iZ + r starts
  pub start_times : (i r : ℕ) → r ≤ Z → row_start times (i * Z + r) ≡ Z * s i + r * (s (suc i) - s i)
  start_times i r h = along i r h (blocks i)
