-- What each part of the check of a graph means where it refuses nothing: what it tells, and what it needs.
use Rattle.std.specs.Prelude.{Ok}
use mathlib.Core.Path.{◌≡◌, refl, ap, ◌∙◌}
use mathlib.Core.Bool.{Bool, true, false, not, ◌&&◌, ◌||◌}
use Prim.Native.Nat.{ℕ, zero, suc, ◌+◌, ◌-◌, ◌≤◌, ◌<◌}
use native.Mathlib.Numerals.{add-one, unary_clauses}
use native.Mathlib.Omega.{arith}
use borrow.Author.Tests.{ltb-true, leb-true, eqb-true, lt-ltb, le-leb, eq-eqb}
use lib.Dec.{eqb, leb, ltb}
use Rattle.rules.specs.Graphs.{Graph, Limits, fewest_variables, fewest_checks, least_check_degree, least_variable_degree, check_degree, variable_degree, between}
use Rattle.refusals.specs.Refusals.{unless, or_else, Judged}
use Rattle.refusals.specs.declared.Refusal.TheVariants.{Count, Range, Order, Degree, Start}
use Rattle.refusals.proofs.Judging.{or_else_left, or_else_right, unless_true, each_is, each_all, all_true, true_all}
use Rattle.rules.proofs.Tests.{and_left, and_right, and_both}
use Rattle.graphs.specs.Judging.{start_is_fit, span_judged, counts_judged, starts_judged, columns_judged, rows_judged, check_degrees_judged, variable_degrees_judged}

-- ---- tests

pub between_told : (low x high : ℕ) → between low x high ≡ true → (low ≤ x) × (x ≤ high)
between_told low x high h = (leb-true low x (and_left (leb low x) (leb x high) h), leb-true x high (and_right (leb low x) (leb x high) h))

pub between_true : {low x high : ℕ} → (low ≤ x) × (x ≤ high) → between low x high ≡ true
between_true {low} {x} {high} h = and_both (le-leb low x h.0) (le-leb x high h.1)

-- a test that is asked at one index alone
at_told : (i j : ℕ) (t : Bool) → not (eqb i j) || t ≡ true → i ≡ j → t ≡ true
at_told i j t h p = rw (eq-eqb i j p) at h

at_true : (i j : ℕ) (t : Bool) → (i ≡ j → t ≡ true) → not (eqb i j) || t ≡ true
at_true i j t h = go (eqb i j) refl
  where
    go : (b : Bool) → eqb i j ≡ b → not b || t ≡ true
    go true p = h (eqb-true i j p)
    go false p = refl

-- ---- the counts

pub record Counts (L : Limits) (G : Graph) : Type 0 where
  pub variables : (fewest_variables ≤ G.variables) × (G.variables ≤ L.variables)
  pub checks : (fewest_checks ≤ G.checks) × (G.checks ≤ L.checks)
  pub entries : G.entries ≤ L.entries

module _ {L : Limits} (G : Graph) where
  pub counts_told : counts_judged L G ≡ Ok tt → Counts L G
  unfolding counts_judged
  counts_told h =
      let n = between fewest_variables G.variables L.variables in
      let m = between fewest_checks G.checks L.checks in
      let E = leb G.entries L.entries in
      let rest = or_else_right (unless n (Count 0)) (or_else (unless m (Count 0)) (unless E (Count 0))) h in
      record {
        variables = between_told fewest_variables G.variables L.variables (unless_true n (Count 0) (or_else_left (unless n (Count 0)) _ h));
        checks = between_told fewest_checks G.checks L.checks (unless_true m (Count 0) (or_else_left (unless m (Count 0)) _ rest));
        entries = leb-true G.entries L.entries (unless_true E (Count 0) (or_else_right (unless m (Count 0)) _ rest));
      }

  pub counts_admitted : Counts L G → counts_judged L G ≡ Ok tt
  unfolding counts_judged
  counts_admitted k = rw (between_true k.variables, between_true k.checks, le-leb G.entries L.entries k.entries)

-- ---- the starts

pub record Starts (G : Graph) : Type 0 where
  pub begins : G.start 0 ≡ 0
  pub ends : G.start G.checks ≡ G.entries
  pub rises : (i : ℕ) → i < G.checks → G.start i ≤ G.start (suc i)

-- what the test of a start asks
pub record Fits (i m E last s : ℕ) : Type 0 where
  pub front : i ≡ 0 → s ≡ 0
  pub above : last ≤ s
  pub end : i ≡ m → s ≡ E

fits_told : (i m E last s : ℕ) → start_is_fit i m E last s ≡ true → Fits i m E last s
fits_told i m E last s h =
    let a = not (eqb i 0) || eqb s 0 in
    let z = not (eqb i m) || eqb s E in
    let rest = and_right a (leb last s && z) h in
    record {
      front = λ p. eqb-true s 0 (at_told i 0 (eqb s 0) (and_left a (leb last s && z) h) p);
      above = leb-true last s (and_left (leb last s) z rest);
      end = λ p. eqb-true s E (at_told i m (eqb s E) (and_right (leb last s) z rest) p);
    }

fits_true : (i m E last s : ℕ) → Fits i m E last s → start_is_fit i m E last s ≡ true
fits_true i m E last s f =
    and_both (at_true i 0 (eqb s 0) (λ p. eq-eqb s 0 (f.front p)))
    (and_both (le-leb last s f.above) (at_true i m (eqb s E) (λ p. eq-eqb s E (f.end p))))

-- the test of start i
abbrev pub test_of_start : Graph → ℕ → Bool
test_of_start G i = start_is_fit i G.checks G.entries (G.start (i - 1)) (G.start i)

module _ (G : Graph) where
  start_fits : starts_judged G ≡ Ok tt → (i : ℕ) → i < suc G.checks → Fits i G.checks G.entries (G.start (i - 1)) (G.start i)
  unfolding starts_judged
  start_fits h i l =
      fits_told i G.checks G.entries (G.start (i - 1)) (G.start i)
      (all_true (test_of_start G) (λ i. Start i) (suc G.checks) h i l)

  pub starts_told : starts_judged G ≡ Ok tt → Starts G
  starts_told h = record {
    begins = (start_fits h 0 (omega arith)).front refl;
    ends = (start_fits h G.checks (omega arith)).end refl;
    rises = λ i l. simp unary_clauses at (start_fits h (suc i) (omega arith)).above;
  }

  pub starts_admitted : Starts G → starts_judged G ≡ Ok tt
  unfolding starts_judged
  starts_admitted s =
      true_all (test_of_start G) (λ i. Start i) (suc G.checks)
      (λ i l. fits_true i G.checks G.entries (G.start (i - 1)) (G.start i) (record {
        front = λ p. ap G.start p ∙ s.begins;
        above = above i l;
        end = λ p. ap G.start p ∙ s.ends;
      }))
    where
      above : (i : ℕ) → i < suc G.checks → G.start (i - 1) ≤ G.start i
      above zero l = omega arith
      above (suc i) l = simp unary_clauses (s.rises i (omega arith))

  -- no start is above E
  start_down : Starts G → (k i : ℕ) → i + k ≡ G.checks → G.start i ≤ G.entries
  start_down s zero i e = let p : G.start i ≡ G.start G.checks = ap G.start (omega arith) in omega (arith, s.ends)
  start_down s (suc k) i e = omega (arith, start_down s k (suc i) (omega arith), s.rises i (omega arith))

  pub start_below : Starts G → (i : ℕ) → i ≤ G.checks → G.start i ≤ G.entries
  start_below s i l = start_down s (G.checks - i) i (omega arith)

  -- where row i begins and ends, as read
  pub row_ends : Starts G → (i : ℕ) {a b : ℕ} → i < G.checks → a ≡ G.start i → b ≡ G.start (i + 1) → (a ≤ b) × (b ≤ G.entries)
  row_ends s i l p q =
      let r : G.start (i + 1) ≡ G.start (suc i) = ap G.start (add-one i) in
      (omega (arith, s.rises i l), omega (arith, start_below s (suc i) (omega arith)))

  -- ---- the columns and their order

  pub columns_told : columns_judged G ≡ Ok tt → (e : ℕ) → e < G.entries → G.column e < G.variables
  unfolding columns_judged
  columns_told h e l =
      ltb-true (G.column e) G.variables (all_true (λ e. ltb (G.column e) G.variables) (λ e. Range e) G.entries h e l)

  pub columns_admitted : ((e : ℕ) → e < G.entries → G.column e < G.variables) → columns_judged G ≡ Ok tt
  unfolding columns_judged
  columns_admitted h =
      true_all (λ e. ltb (G.column e) G.variables) (λ e. Range e) G.entries (λ e l. lt-ltb (G.column e) G.variables (h e l))

module _ (column : ℕ → ℕ) (a b : ℕ) where
  pub span_told : span_judged column a b ≡ Ok tt → (e : ℕ) → a ≤ e → suc e < b → column e < column (suc e)
  unfolding span_judged
  span_told h e l u =
      let k = e - a in
      let test = all_true (λ k. ltb (column (a + k)) (column (a + k + 1))) (λ k. Order (a + k + 1)) (b - a - 1) h k (omega arith) in
      let p : column (a + k) ≡ column e = ap column (omega arith) in
      let q : column (a + k + 1) ≡ column (suc e) = ap column (omega arith) in
      omega (arith, ltb-true (column (a + k)) (column (a + k + 1)) test)

  pub span_admitted : ((e : ℕ) → a ≤ e → suc e < b → column e < column (suc e)) → span_judged column a b ≡ Ok tt
  unfolding span_judged
  span_admitted h =
      true_all (λ k. ltb (column (a + k)) (column (a + k + 1))) (λ k. Order (a + k + 1)) (b - a - 1)
      (λ k l.
      let q : column (a + k + 1) ≡ column (suc (a + k)) = ap column (omega arith) in
      lt-ltb (column (a + k)) (column (a + k + 1)) (omega (arith, h (a + k) (omega arith) (omega arith))))

-- the order of row i
abbrev pub row_judged : Graph → ℕ → Judged
row_judged G i = span_judged G.column (G.start i) (G.start (suc i))

module _ (G : Graph) where
  pub rows_told : rows_judged G ≡ Ok tt
      → (i e : ℕ) → i < G.checks → G.start i ≤ e → suc e < G.start (suc i) → G.column e < G.column (suc e)
  unfolding rows_judged
  rows_told h i e l =
      span_told G.column (G.start i) (G.start (suc i))
      (each_is (row_judged G) G.checks h i l)
      e

  pub rows_admitted : ((i e : ℕ) → i < G.checks → G.start i ≤ e → suc e < G.start (suc i) → G.column e < G.column (suc e))
      → rows_judged G ≡ Ok tt
  unfolding rows_judged
  rows_admitted h =
      each_all (row_judged G) G.checks
      (λ i l. span_admitted G.column (G.start i) (G.start (suc i)) (λ e. h i e l))

-- ---- the degrees

-- the test of check i, and of variable v
abbrev pub check_test : Limits → Graph → ℕ → Bool
check_test L G i = between least_check_degree (check_degree G i) L.check_degree

abbrev pub variable_test : Limits → Graph → ℕ → Bool
variable_test L G v = between least_variable_degree (variable_degree G v) L.variable_degree

module _ (L : Limits) (G : Graph) where
  pub check_degrees_told : check_degrees_judged L G ≡ Ok tt
      → (i : ℕ) → i < G.checks → (G.start i + least_check_degree ≤ G.start (suc i)) × (G.start (suc i) ≤ G.start i + L.check_degree)
  unfolding check_degrees_judged
  check_degrees_told h i l =
      let d = between_told least_check_degree (check_degree G i) L.check_degree (all_true (check_test L G) (λ i. Degree i) G.checks h i l) in
      (omega (arith, d.0), omega (arith, d.1))

  pub check_degrees_admitted : ((i : ℕ) → i < G.checks → (G.start i + least_check_degree ≤ G.start (suc i)) × (G.start (suc i) ≤ G.start i + L.check_degree))
      → check_degrees_judged L G ≡ Ok tt
  unfolding check_degrees_judged
  check_degrees_admitted h =
      true_all (check_test L G) (λ i. Degree i) G.checks
      (λ i l.
      between_true {low = least_check_degree} {x = check_degree G i} {high = L.check_degree}
      (omega (arith, (h i l).0), omega (arith, (h i l).1)))

  pub variable_degrees_told : variable_degrees_judged L G ≡ Ok tt
      → (v : ℕ) → v < G.variables → (least_variable_degree ≤ variable_degree G v) × (variable_degree G v ≤ L.variable_degree)
  unfolding variable_degrees_judged
  variable_degrees_told h v l =
      between_told least_variable_degree (variable_degree G v) L.variable_degree
      (all_true (variable_test L G) (λ v. Degree (G.checks + v)) G.variables h v l)

  pub variable_degrees_admitted : ((v : ℕ) → v < G.variables → (least_variable_degree ≤ variable_degree G v) × (variable_degree G v ≤ L.variable_degree))
      → variable_degrees_judged L G ≡ Ok tt
  unfolding variable_degrees_judged
  variable_degrees_admitted h =
      true_all (variable_test L G) (λ v. Degree (G.checks + v)) G.variables
      (λ v l. between_true (h v l))
