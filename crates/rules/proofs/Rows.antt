-- Entries and their checks, on a graph whose starts make rows.
use mathlib.Core.Path.{◌≡◌, refl, ap}
use Prim.Native.Nat.{ℕ, zero, suc, ◌+◌, ◌≤◌, ◌<◌}
use native.Mathlib.Decide.{ℕ_discrete}
use native.Mathlib.Numerals.{add-one}
use native.Mathlib.Omega.{arith}
use borrow.Author.Tests.{ltb-true, ltb-false, lt-ltb, le-ltb}
use lib.Dec.{ltb}
use Rattle.rules.specs.Graphs.{Graph, Limits, least_check_degree, AdmittedWithin, Rowed, check_degree, check_of}
use Rattle.rules.proofs.Ranges.{First, first_is, first_only}

pub rowed : {L : Limits} {G : Graph} → AdmittedWithin L G → Rowed G
rowed ok = record { begins = ok.begins; ends = ok.ends; rises = λ i h. (ok.check_degrees i h).0 }

module _ (G : Graph) (ok : Rowed G) where
  pub starts_rise : (i j : ℕ) → i ≤ j → j ≤ G.checks → G.start i ≤ G.start j
  starts_rise i zero l u = let p : i ≡ 0 = omega arith in rw p (omega arith)
  starts_rise i (suc j) l u = go (ℕ_discrete i (suc j)) (starts_rise i j)
    where
      go : Dec (i ≡ suc j) → (i ≤ j → j ≤ G.checks → G.start i ≤ G.start j) → G.start i ≤ G.start (suc j)
      go (yes p) ih = rw p (omega arith)
      go (no p) ih = omega (arith, ih (omega arith) (omega arith), ok.rises j u)

  -- the entries of check i are entries of the graph
  pub row_entries_lem : (i e : ℕ) → i < G.checks → e < G.start i + check_degree G i → e < G.entries
  row_entries_lem i e h u = omega (arith, ok.rises i h, starts_rise (suc i) G.checks h (omega arith), ok.ends)

  -- entry e stands in the row of its check
  pub row_within : (e : ℕ) → e < G.entries → (check_of G e < G.checks) × (G.start (check_of G e) ≤ e) × (e < G.start (suc (check_of G e)))
  unfolding check_of
  row_within e h = (inside, from i refl, ltb-true e (G.start (suc i)) (f.found (omega (arith, inside))))
    where
      i : ℕ
      i = check_of G e

      f : First (λ i. ltb e (G.start (suc i))) 0 G.checks i
      f = first_is (λ i. ltb e (G.start (suc i))) 0 G.checks

      from : (j : ℕ) → j ≡ i → G.start j ≤ e
      from zero p = omega (arith, ok.begins)
      from (suc j) p = ltb-false e (G.start (suc j)) (f.before j (omega arith) (omega arith))

      inside : i < G.checks
      inside = go (ℕ_discrete i G.checks)
        where
          go : Dec (i ≡ G.checks) → i < G.checks
          go (yes p) = absurd (omega (arith, from i refl, ap G.start p, ok.ends))
          go (no p) = omega (arith, f.high)

  -- and in that of no other
  pub row_is : (e i : ℕ) → i < G.checks → G.start i ≤ e → e < G.start (suc i) → check_of G e ≡ i
  unfolding check_of
  row_is e i h l u = first_only (first_is (λ i. ltb e (G.start (suc i))) 0 G.checks) (record {
    low = omega arith;
    high = omega arith;
    before = λ k _ m. le-ltb e (G.start (suc k)) (omega (arith, starts_rise (suc k) i m (omega arith)));
    found = λ _. lt-ltb e (G.start (suc i)) u;
  })

-- where row i begins and ends, as read: entries of the graph, as many as a check may have
pub admitted_row : {L : Limits} (G : Graph) → AdmittedWithin L G → (i : ℕ) {a b : ℕ} → i < G.checks → a ≡ G.start i → b ≡ G.start (i + 1)
    → (a + least_check_degree ≤ b) × (b ≤ a + L.check_degree) × (b ≤ G.entries)
admitted_row G ok i l p q =
    let d = ok.check_degrees i l in
    let r : G.start (i + 1) ≡ G.start (suc i) = ap G.start (add-one i) in
    (omega (arith, d.0), omega (arith, d.1), omega (arith, starts_rise G (rowed ok) (suc i) G.checks l (omega arith), ok.ends))
