-- The starts and columns of entries: what they are for entries in order.
use mathlib.Core.Path.{◌≡◌, refl, sym}
use mathlib.Core.Bool.{Bool, true, false}
use mathlib.Core.List.{List, [], ◌∷◌, ◌++◌}
use Prim.Native.Nat.{ℕ, zero, suc, ◌+◌, ◌≤◌, ◌<◌}
use native.Mathlib.Decide.{dec_lt}
use native.Mathlib.Nat.{zero-add, not-suc-le-zero}
use native.Mathlib.Omega.{arith}
use borrow.Author.Tests.{lt-ltb, le-ltb, ltb-true, ltb-false}
use lib.Dec.{ltb}
use lib.ListN.{length, get_or}
use Rattle.rules.specs.Ranges.{one}
use Rattle.texts.specs.Lines.{Pair, pair}
use Rattle.code_sheets.specs.Text.Reading.{after, start_in, column_in}
use Rattle.code_sheets.proofs.Text.Order.{Fits, Rising}

-- the check of entry e
abbrev pub check_in : List Pair → ℕ → ℕ
check_in ps e = (get_or ps e (pair 0 0)).first

-- ---- starts

pub start_append : (ps qs : List Pair) (i : ℕ) → start_in (ps ++ qs) i ≡ start_in ps i + start_in qs i
unfolding start_in
start_append [] qs i = sym (zero-add (start_in qs i))
start_append (p ∷ ps) qs i = omega (arith, start_append ps qs i)

pub start_zero : (ps : List Pair) → start_in ps 0 ≡ 0
unfolding start_in
start_zero [] = refl
start_zero (p ∷ ps) = rw (le-ltb p.first 0 (omega arith), start_zero ps)

pub start_most : (ps : List Pair) (i : ℕ) → start_in ps i ≤ length ps
unfolding start_in
start_most [] i = omega arith
start_most (p ∷ ps) i = go (start_most ps i) (ltb p.first i)
  where
    go : start_in ps i ≤ length ps → (b : Bool) → one b + start_in ps i ≤ suc (length ps)
    go ih true = omega arith
    go ih false = omega arith

pub start_up : (ps : List Pair) (i : ℕ) → start_in ps i ≤ start_in ps (suc i)
unfolding start_in
start_up [] i = omega arith
start_up (p ∷ ps) i = go (start_up ps i) (ltb p.first i) (ltb p.first (suc i)) refl refl
  where
    go : start_in ps i ≤ start_in ps (suc i) → (a b : Bool) → ltb p.first i ≡ a → ltb p.first (suc i) ≡ b → one a + start_in ps i ≤ one b + start_in ps (suc i)
    go ih true true e1 e2 = omega arith
    go ih true false e1 e2 = absurd (omega (arith, ltb-true p.first i e1, ltb-false p.first (suc i) e2))
    go ih false true e1 e2 = omega arith
    go ih false false e1 e2 = omega arith

-- a number that parts the entries by their checks is a start
pub start_is : (ps : List Pair) (i s : ℕ) → s ≤ length ps → ((e : ℕ) → e < s → check_in ps e < i)
    → ((e : ℕ) → s ≤ e → e < length ps → i ≤ check_in ps e) → start_in ps i ≡ s
unfolding start_in
start_is [] i s l lo hi = omega arith
start_is (p ∷ ps) i zero l lo hi =
    rw (le-ltb p.first i (hi 0 (omega arith) (omega arith)), start_is ps i 0 (omega arith) (λ e u. absurd (not-suc-le-zero u)) (λ e a u. hi (suc e) (omega arith) (omega arith)))
start_is (p ∷ ps) i (suc s) l lo hi =
    rw (lt-ltb p.first i (lo 0 (omega arith)), start_is ps i s (omega arith) (λ e u. lo (suc e) (omega arith)) (λ e a u. hi (suc e) (omega arith) (omega arith)))
    (omega arith)

-- ---- entries in order

module _ (c : Pair) where
  pub start_none : (low : Pair) (ps : List Pair) (i : ℕ) → Rising c low ps → i ≤ low.first → start_in ps i ≡ 0
  unfolding start_in
  start_none low [] i r h = refl
  start_none low (p ∷ ps) i r h =
      let l = r.0.from in
      rw (le-ltb p.first i (omega arith), start_none (after p) ps i r.1 (omega arith))

  pub start_end : (low : Pair) (ps : List Pair) → Rising c low ps → start_in ps c.second ≡ length ps
  unfolding start_in
  start_end low [] r = refl
  start_end low (p ∷ ps) r = rw (lt-ltb p.first c.second r.0.check, start_end (after p) ps r.1) (omega arith)

  pub column_within : (low : Pair) (ps : List Pair) → Rising c low ps → (e : ℕ) → e < length ps → column_in ps e < c.first
  unfolding column_in
  column_within low [] r e h = absurd (not-suc-le-zero h)
  column_within low (p ∷ ps) r zero h = r.0.variable
  column_within low (p ∷ ps) r (suc e) h = column_within (after p) ps r.1 e (omega arith)

  pub check_within_lem : (low : Pair) (ps : List Pair) → Rising c low ps → (e : ℕ) → e < length ps → check_in ps e < c.second
  check_within_lem low [] r e h = absurd (not-suc-le-zero h)
  check_within_lem low (p ∷ ps) r zero h = r.0.check
  check_within_lem low (p ∷ ps) r (suc e) h = check_within_lem (after p) ps r.1 e (omega arith)

  -- the entries before start i are of checks below i, and those from there on are not
  pub check_below : (low : Pair) (ps : List Pair) → Rising c low ps → (i e : ℕ) → e < start_in ps i → check_in ps e < i
  unfolding start_in
  check_below low [] r i e h = absurd (not-suc-le-zero h)
  check_below low (p ∷ ps) r i zero h = go (ltb p.first i) refl h
    where
      go : (b : Bool) → ltb p.first i ≡ b → 0 < one b + start_in ps i → p.first < i
      go true e l = ltb-true p.first i e
      go false e l = absurd (omega (arith, start_none (after p) ps i r.1 (ltb-false p.first i e)))
  check_below low (p ∷ ps) r i (suc e) h = go (check_below (after p) ps r.1 i e) (ltb p.first i) h
    where
      go : (e < start_in ps i → check_in ps e < i) → (b : Bool) → suc e < one b + start_in ps i → check_in ps e < i
      go ih true l = ih (omega arith)
      go ih false l = ih (omega arith)

  pub check_above : (low : Pair) (ps : List Pair) → Rising c low ps → (i e : ℕ) → start_in ps i ≤ e → e < length ps → i ≤ check_in ps e
  unfolding start_in
  check_above low [] r i e h l = absurd (not-suc-le-zero l)
  check_above low (p ∷ ps) r i zero h l = go (ltb p.first i) refl h
    where
      go : (b : Bool) → ltb p.first i ≡ b → one b + start_in ps i ≤ 0 → i ≤ p.first
      go true e q = absurd (omega arith)
      go false e q = ltb-false p.first i e
  check_above low (p ∷ ps) r i (suc e) h l = go (check_above (after p) ps r.1 i e) (ltb p.first i) refl h
    where
      go : (start_in ps i ≤ e → e < length ps → i ≤ check_in ps e) → (b : Bool) → ltb p.first i ≡ b → one b + start_in ps i ≤ suc e → i ≤ check_in ps e
      go ih true q k = ih (omega arith) (omega arith)
      go ih false q k = ih (omega (arith, start_none (after p) ps i r.1 (ltb-false p.first i q))) (omega arith)

  same_rise : (low : Pair) (ps : List Pair) → Rising c low ps → (e : ℕ) → suc e < length ps → check_in ps e ≡ check_in ps (suc e) → column_in ps e < column_in ps (suc e)
  unfolding column_in
  same_rise low [] r e h q = absurd (not-suc-le-zero h)
  same_rise low (p ∷ []) r zero h q = absurd (omega arith)
  same_rise low (p ∷ (x ∷ ps)) r zero h q = r.1.0.same q
  same_rise low (p ∷ ps) r (suc e) h q = same_rise (after p) ps r.1 e (omega arith) q

  module _ (low : Pair) (ps : List Pair) (r : Rising c low ps) where
    -- the columns of a row rise
    pub column_rise : (i e : ℕ) → start_in ps i ≤ e → suc e < start_in ps (suc i) → column_in ps e < column_in ps (suc e)
    column_rise i e l u =
        let t = start_most ps (suc i) in
        let b1 = check_below low ps r (suc i) e (omega arith) in
        let b2 = check_below low ps r (suc i) (suc e) u in
        let a1 = check_above low ps r i e l (omega arith) in
        let a2 = check_above low ps r i (suc e) (omega arith) (omega arith) in
        same_rise low ps r e (omega arith) (omega arith)

    -- an entry stands in the row of its check
    pub entry_row : (e : ℕ) → e < length ps → (start_in ps (check_in ps e) ≤ e) × (e < start_in ps (suc (check_in ps e)))
    entry_row e h = (from (dec_lt e (start_in ps i)), to (dec_lt e (start_in ps (suc i))))
      where
        i : ℕ
        i = check_in ps e

        from : Dec (e < start_in ps i) → start_in ps i ≤ e
        from (yes l) = absurd (omega (arith, check_below low ps r i e l))
        from (no l) = omega arith

        to : Dec (e < start_in ps (suc i)) → e < start_in ps (suc i)
        to (yes l) = l
        to (no l) = absurd (omega (arith, check_above low ps r (suc i) e (omega arith) h))

  -- entries that fit one by one are in order
  pub rising_at : (low : Pair) (ps : List Pair) → (0 < length ps → Fits c low (get_or ps 0 (pair 0 0)))
      → ((e : ℕ) → suc e < length ps → Fits c (after (get_or ps e (pair 0 0))) (get_or ps (suc e) (pair 0 0))) → Rising c low ps
  rising_at low [] first next = tt
  rising_at low (p ∷ ps) first next = (first (omega arith), rising_at (after p) ps (λ h. next 0 (omega arith)) (λ e h. next (suc e) (omega arith)))
