-- A loop that counts in a list: number v of the list is how many entries so far have column v.
use mathlib.Core.Path.{◌≡◌, refl, sym, ap, ap₂, ◌∙◌}
use mathlib.Core.Logic.{◌≢◌}
use mathlib.Core.List.{List, ◌++◌}
use Prim.Native.Nat.{ℕ, ◌+◌, ◌*◌, ◌^◌, ◌≤◌, ◌<◌}
use native.Mathlib.Nat.{add-zero}
use native.Mathlib.Omega.{arith}
use borrow.Author.Tests.{eq-eqb, ne_eqb}
use lib.Dec.{eqb}
use lib.ListN.{length, drop, length-append}
use lib.Seq.{drop_at}
use Rattle.rules.specs.Ranges.{one}
use Rattle.rules.proofs.Ranges.{count_none, count_next, count_le}
use Rattle.words.specs.Words.{word, stored, table}
use Rattle.graphs.specs.Counting.{tally}
use Rattle.words.proofs.Words.{length_stored, table_ext, length_table, at_table, put_table}

pub record Tallies (w n : ℕ) (column : ℕ → ℕ) (old now : List ℕ) (k : ℕ) : Type 0 where
  pub long : length now ≡ length old
  pub is : now ≡ table w (tally column k) n ++ drop (w * n) old

-- a list whose first n numbers are 0
abbrev pub Cleared : ℕ → ℕ → List ℕ → List ℕ → Type 0
Cleared w n older old = old ≡ table w (λ _. 0) n ++ drop (w * n) older

rest_kept : (w n : ℕ) (older : List ℕ) {old : List ℕ} → Cleared w n older old → drop (w * n) old ≡ drop (w * n) older
rest_kept w n older e = ap (drop (w * n)) e ∙ drop_at (table w (λ _. 0) n) (drop (w * n) older) (w * n) (length_table w (λ _. 0) n)

pub tallies_none : (w n : ℕ) (column : ℕ → ℕ) (older : List ℕ) {old : List ℕ} → Cleared w n older old → Tallies w n column old old 0
tallies_none w n column older e = record {
  long = refl;
  is = e ∙ ap₂ ◌++◌ (table_ext w (λ _. 0) (tally column 0) n (λ v l. sym (count_none (λ e. eqb (column e) v)))) (sym (rest_kept w n older e));
}

module _ {w n : ℕ} {column : ℕ → ℕ} {old now : List ℕ} {k : ℕ} (h : Tallies w n column old now k) where
  -- the number of a column, which is at most k
  pub tallies_at : {v : ℕ} → v < n → k < 256 ^ w → word w now (w * v) ≡ tally column k v
  tallies_at {v} l b =
      ap (λ x. word w x (w * v)) h.is
      ∙ at_table w (tally column k) n (drop (w * n) old) v l (omega (arith, count_le (λ e. eqb (column e) v) 0 k))

  pub tallies_small : {v : ℕ} → v < n → k < 256 ^ w → word w now (w * v) ≤ k
  tallies_small {v} l b = omega (arith, tallies_at l b, count_le (λ e. eqb (column e) v) 0 k)

  -- entry k is counted
  pub tallies_more : {v : ℕ} {later : List ℕ} → v < n → k < 256 ^ w → v ≡ column k → later ≡ stored w now (w * v) (word w now (w * v) + 1)
      → Tallies w n column old later (k + 1)
  tallies_more {v} {later} l b q e = record {
    long = ap length e ∙ length_stored w now (w * v) (word w now (w * v) + 1) ∙ h.long;
    is =
        e ∙ ap (stored w now (w * v)) (ap (λ x. x + 1) (tallies_at l b)) ∙ ap (λ x. stored w x (w * v) (tally column k v + 1)) h.is
        ∙ put_table w (tally column k) (tally column (k + 1)) n (drop (w * n) old) v (tally column k v + 1) l here there;
  }
    where
      here : tally column (k + 1) v ≡ tally column k v + 1
      here = count_next (λ e. eqb (column e) v) k ∙ ap (λ b. tally column k v + one b) (eq-eqb (column k) v (sym q))

      there : (j : ℕ) → j < n → j ≢ v → tally column (k + 1) j ≡ tally column k j
      there j u d = count_next (λ e. eqb (column e) j) k ∙ ap (λ b. tally column k j + one b) (ne_eqb (column k) j (λ x. d (sym x ∙ sym q))) ∙ add-zero (tally column k j)

  pub tallies_long : w * n ≤ length now
  tallies_long = omega (arith, ap length h.is ∙ length-append (table w (tally column k) n) (drop (w * n) old), length_table w (tally column k) n)

  -- the list before it was cleared
  pub tallies_from : (older : List ℕ) → Cleared w n older old → now ≡ table w (tally column k) n ++ drop (w * n) older
  tallies_from older e = h.is ∙ ap (λ x. table w (tally column k) n ++ x) (rest_kept w n older e)
