-- The rows of the checks, and given bits put for their variables: what the loops tell.
use mathlib.Core.Path.{◌≡◌, refl, sym, ap, ap₂, subst, ◌∙◌}
use mathlib.Core.Bool.{Bool, false, xor}
use mathlib.Core.List.{List}
use Prim.Native.Nat.{ℕ, suc, ◌+◌, ◌-◌, ◌*◌, ◌/◌, ◌≤◌, ◌<◌}
use native.Mathlib.Omega.{arith}
use native.Mathlib.Numerals.{add-one}
use lib.Dec.{eqb}
use lib.ListN.{length}
use Rattle.rules.specs.Ranges.{fold}
use Rattle.rules.specs.Graphs.{Graph}
use Rattle.rules.proofs.Signs.{xor_false, xor_monoid, false_xor}
use Rattle.elimination.specs.Systems.{replaced}
use Rattle.elimination.specs.Rows.{width, rows_in, flipped, Turned, Done}
use Rattle.elimination.proofs.Bytes.{zero_byte, turned_none, turned_same, turned_flip, done_more}
use Rattle.codewords.specs.Choosing.{Given}
use Rattle.solving.specs.Solving.{Zeros, Rising, upto, Means, entries_row, check_rows, Replaced}
use Rattle.solving.proofs.Meaning.{means_same, means_replaced}

-- ---- the rows of the checks

-- row j of the list, with the entries of check j before entry e
abbrev pub with_entries : Graph → ℕ → List ℕ → ℕ → ℕ → ℕ → Bool
with_entries G n l j e u = xor (rows_in n l j u) (entries_row G.column (G.start j) (e - G.start j) u)

module _ (G : Graph) (n j : ℕ) {old : List ℕ} where
  pub load_none : {e : ℕ} → e ≡ G.start j → Turned n j (with_entries G n old j e) old old
  unfolding fold entries_row
  load_none {e} p =
      let none : e - G.start j ≡ 0 = omega arith in
      turned_none (λ u _. sym (ap (λ (t : ℕ). xor (rows_in n old j u) (entries_row G.column (G.start j) t u)) none ∙ xor_false (rows_in n old j u)))

  pub load_more : {now later : List ℕ} {e v : ℕ} → G.start j ≤ e → v ≤ n → width n * j + width n ≤ length old → v ≡ G.column e
      → Turned n j (with_entries G n old j e) old now → later ≡ flipped now (width n * j) v → Turned n j (with_entries G n old j (e + 1)) old later
  unfolding fold entries_row
  load_more {e = e} {v = v} l h f p t q =
      let a : ℕ = G.start j in
      let here : e ≡ a + (e - a) = omega arith in
      let more : suc (e - a) ≡ e + 1 - a = omega arith in
      turned_same
      (λ u _. xor_monoid.assoc (rows_in n old j u) (entries_row G.column a (e - a) u) (eqb u v)
      ∙ ap (λ w. xor (rows_in n old j u) (xor (entries_row G.column a (e - a) u) (eqb u w))) (p ∙ ap G.column here)
      ∙ ap (λ (i : ℕ). xor (rows_in n old j u) (entries_row G.column a i u)) more)
      (turned_flip h f t q)

  pub load_all : {now : List ℕ} {e : ℕ} → e ≡ G.start (j + 1) → Turned n j (with_entries G n old j e) old now
      → Turned n j (λ u. xor (rows_in n old j u) (check_rows G j u)) old now
  load_all {e = e} p t =
      let all : e ≡ G.start (suc j) = p ∙ ap G.start (add-one j) in
      turned_same (λ u _. ap (λ (y : ℕ). xor (rows_in n old j u) (entries_row G.column (G.start j) (y - G.start j) u)) all) t

zero_bits : (n : ℕ) (l : List ℕ) → Zeros l → (j u : ℕ) → rows_in n l j u ≡ false
zero_bits n l z j u = zero_byte l (width n * j) u u (z (width n * j + u / 8)) refl

pub loads_more : {n j : ℕ} {old now later : List ℕ} (G : Graph) → Zeros old → Done n j (check_rows G) old now
    → Turned n j (λ u. xor (rows_in n now j u) (check_rows G j u)) now later → Done n (j + 1) (check_rows G) old later
loads_more {n} {j} {old} G z d t =
    done_more d t (λ u m. ap (λ b. xor b (check_rows G j u)) (d.above j u (omega arith) m ∙ zero_bits n old z j u) ∙ false_xor (check_rows G j u))

-- ---- given bits put for their variables

pub replaced_next : {m n k v : ℕ} {b : Bool} {g : Given} {old now later : List ℕ} → Rising n g → k < g.count → v ≡ g.position k → b ≡ g.bit k
    → Replaced m n k g old now → Done n m (replaced n v b (rows_in n now)) now later → Replaced m n (k + 1) g old later
replaced_next {m} {n} {k} {v} {b} {g} {old} {now} {later} r l p q a d = record {
  long = d.long ∙ a.long;
  means = λ G M. subst (λ (k : ℕ). Means G (upto k g) m n (rows_in n later)) (sym (add-one k))
      (means_same (record { within = λ i u. r.within i (omega arith); rising = λ i u. r.rising i (omega arith) }) (λ i u x y. d.below i u x y ∙ ap₂ (λ v b. replaced n v b (rows_in n now) i u) p q)
      (means_replaced r l (a.means G M)));
}
