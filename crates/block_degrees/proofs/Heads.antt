-- Numbers at the first variables of block columns: the loop that makes them 0, and one of them put.
use mathlib.Core.Path.{◌≡◌, refl, sym, ap, ◌∙◌}
use mathlib.Core.Logic.{◌≢◌, ⊎_elim}
use mathlib.Core.List.{List}
use Prim.Native.Nat.{ℕ, zero, suc, ◌+◌, ◌*◌, ◌^◌, ◌≤◌, ◌<◌}
use native.Mathlib.Decide.{ℕ_discrete, dec_lt}
use native.Mathlib.Nat.{zero-mul, suc-mul, mul-le-mul_right, eq-or-lt_of_le, le_of_suc-le-suc}
use native.Mathlib.Numerals.{add-one}
use native.Mathlib.Omega.{arith}
use lib.ListN.{length, drop}
use Rattle.words.specs.Words.{stored}
use Rattle.words.specs.Roles.{degree_at}
use Rattle.words.proofs.Words.{length_stored, word_same, word_other, drop_stored}
use Rattle.block_sheets.proofs.Text.Rows.{part_below}
use Rattle.block_degrees.specs.Counting.{cleared, Heads}

-- ---- made 0, one block column on

pub length_cleared : (j size : ℕ) (old : List ℕ) → length (cleared j size old) ≡ length old
unfolding cleared
length_cleared zero size old = refl
length_cleared (suc j) size old = length_stored 4 (cleared j size old) (4 * (j * size)) 0 ∙ length_cleared j size old

-- before block column j, whose first variable is v
pub record Clearing (columns size : ℕ) (old now : List ℕ) (j v : ℕ) : Type 0 where
  pub up : j ≤ columns
  pub at : v ≡ j * size
  pub is : now ≡ cleared j size old

pub clearing_none : (columns size : ℕ) (old : List ℕ) → Clearing columns size old old 0 0
unfolding cleared
clearing_none columns size old = record { up = omega arith; at = sym (zero-mul size); is = refl }

module _ {columns size : ℕ} {old now : List ℕ} {j v : ℕ} (q : Clearing columns size old now j v) where
  pub clearing_long : length now ≡ length old
  clearing_long = ap length q.is ∙ length_cleared j size old

  pub clearing_room : j < columns → v + size ≤ columns * size
  clearing_room l = omega (arith, q.at, suc-mul j size, mul-le-mul_right {m = suc j} {n = columns} size l)

  pub clearing_more : {later : List ℕ} → j < columns → later ≡ stored 4 now (4 * v) 0 → Clearing columns size old later (j + 1) (v + size)
  unfolding cleared
  clearing_more {later} l e = record {
    up = omega arith;
    at = ap (λ (k : ℕ). k + size) q.at ∙ sym (suc-mul j size) ∙ ap (λ (k : ℕ). k * size) (sym (add-one j));
    is =
        e ∙ ap (λ (k : ℕ). stored 4 now (4 * k) 0) q.at ∙ ap (λ (b : List ℕ). stored 4 b (4 * (j * size)) 0) q.is
        ∙ ap (λ (k : ℕ). cleared k size old) (sym (add-one j));
  }

  pub clearing_all : columns ≤ j → now ≡ cleared columns size old
  clearing_all l = q.is ∙ ap (λ (k : ℕ). cleared k size old) (omega (arith, q.up))

-- the first variables of two block columns are two
apart : {size i j : ℕ} → 0 < size → i ≢ j → i * size ≢ j * size
apart {size} {i} {j} some n e = go (dec_lt i j)
  where
    go : Dec (i < j) → ⊥
    go (yes l) = omega (arith, part_below size i 0 some j l)
    go (no l) = let u : j < i = omega arith in omega (arith, part_below size j 0 some i u)

module _ (columns : ℕ) {size : ℕ} (some : 0 < size) (old : List ℕ) (room : 4 * (columns * size) ≤ length old) where
  inside : {j : ℕ} → j < columns → 4 * (j * size) + 4 ≤ length old
  inside {j} l = omega (arith, part_below size j 0 some columns l)

  -- ---- after the last

  zero_at : (n : ℕ) → n ≤ columns → (j : ℕ) → j < n → degree_at (cleared n size old) (j * size) ≡ 0
  unfolding cleared
  zero_at zero u j l = absurd (omega arith)
  zero_at (suc n) u j l = ⊎_elim here (λ k. word_other 4 (cleared n size old) (n * size) 0 (j * size) (apart some (λ e. omega arith)) ∙ zero_at n (omega arith) j k) (eq-or-lt_of_le (le_of_suc-le-suc l))
    where
      here : j ≡ n → degree_at (stored 4 (cleared n size old) (4 * (n * size)) 0) (j * size) ≡ 0
      here e =
          ap (λ (k : ℕ). degree_at (stored 4 (cleared n size old) (4 * (n * size)) 0) (k * size)) e
          ∙ word_same 4 (cleared n size old) (4 * (n * size)) 0 (omega (arith, inside {j = n} (omega arith), length_cleared n size old)) (omega arith)

  rest_kept : (n : ℕ) → n ≤ columns → drop (4 * (columns * size)) (cleared n size old) ≡ drop (4 * (columns * size)) old
  unfolding cleared
  rest_kept zero u = refl
  rest_kept (suc n) u =
      drop_stored 4 (cleared n size old) (n * size) 0 (columns * size) (omega (arith, part_below size n 0 some columns (omega arith))) ∙ rest_kept n (omega arith)

  pub heads_cleared : Heads columns size (λ _. 0) old (cleared columns size old)
  heads_cleared = record { long = length_cleared columns size old; heads = zero_at columns (omega arith); rest = rest_kept columns (omega arith) }

  -- ---- the number of block column j put: h is g but at j

  pub heads_put : {now later : List ℕ} {g h : ℕ → ℕ} {j x : ℕ} → Heads columns size g old now → j < columns → x < 2 ^ 32
      → later ≡ stored 4 now (4 * (j * size)) x → h j ≡ x → ((i : ℕ) → i ≢ j → h i ≡ g i) → Heads columns size h old later
  heads_put {now} {later} {g} {h} {j} {x} c l s e here there = record {
    long = ap length e ∙ length_stored 4 now (4 * (j * size)) x ∙ c.long;
    heads = λ i u. ap (λ (b : List ℕ). degree_at b (i * size)) e ∙ go i u (ℕ_discrete i j);
    rest = ap (drop (4 * (columns * size))) e ∙ drop_stored 4 now (j * size) x (columns * size) (omega (arith, part_below size j 0 some columns l)) ∙ c.rest;
  }
    where
      go : (i : ℕ) → i < columns → Dec (i ≡ j) → degree_at (stored 4 now (4 * (j * size)) x) (i * size) ≡ h i
      go i u (yes k) =
          ap (λ (k : ℕ). degree_at (stored 4 now (4 * (j * size)) x) (k * size)) k
          ∙ word_same 4 now (4 * (j * size)) x (omega (arith, inside l, c.long)) s ∙ sym here ∙ ap h (sym k)
      go i u (no k) = word_other 4 now (j * size) x (i * size) (apart some k) ∙ c.heads i u ∙ sym (there i k)
