-- A loop that fills a list from its beginning: its invariant, with its start, its step and its end.
use mathlib.Core.Path.{◌≡◌, refl, sym, ap, ◌∙◌}
use mathlib.Core.List.{List, ◌++◌, append-nil}
use Prim.Native.Nat.{ℕ, ◌+◌, ◌-◌, ◌*◌, ◌≤◌, ◌<◌}
use native.Mathlib.Nat.{mul-zero, mul-le-mul_left}
use native.Mathlib.Omega.{arith}
use lib.ListN.{length, get_or, drop, drop_of_length-le}
use lib.Seq.{get_or-append-add, get_or-drop}
use Rattle.words.specs.Words.{word, stored, table}
use Rattle.words.proofs.Words.{length_stored, word_ext, table_none, length_table, put_next}

-- the first i numbers are those of f, and the rest is as it was
pub record Filled (w : ℕ) (f : ℕ → ℕ) (old now : List ℕ) (i : ℕ) : Type 0 where
  pub long : length now ≡ length old
  pub is : now ≡ table w f i ++ drop (w * i) old

pub filled_none : (w : ℕ) (f : ℕ → ℕ) (old : List ℕ) → Filled w f old old 0
filled_none w f old = record { long = refl; is = rw (mul-zero w) (table_none w f old) }

pub filled_more : {w : ℕ} {f : ℕ → ℕ} {old now later : List ℕ} {i x : ℕ}
    → w * (i + 1) ≤ length old → Filled w f old now i → later ≡ stored w now (w * i) x → x ≡ f i → Filled w f old later (i + 1)
filled_more {w} {f} {old} {now} {later} {i} {x} l h e q = record {
  long = ap length e ∙ length_stored w now (w * i) x ∙ h.long;
  is = e ∙ ap (λ b. stored w b (w * i) x) h.is ∙ ap (stored w (table w f i ++ drop (w * i) old) (w * i)) q ∙ put_next w f old i l;
}

-- the numbers from place i on are still the old ones
pub filled_rest : {w : ℕ} {f : ℕ → ℕ} {old now : List ℕ} {i j : ℕ} → i ≤ j → Filled w f old now i → word w now (w * j) ≡ word w old (w * j)
filled_rest {w} {f} {old} {now} {i} {j} l h = ap (λ b. word w b (w * j)) h.is ∙ word_ext w (table w f i ++ drop (w * i) old) old (w * j) at
  where
    at : (k : ℕ) → w * j ≤ k → k < w * j + w → get_or (table w f i ++ drop (w * i) old) k 0 ≡ get_or old k 0
    at k m u =
        let e : k ≡ w * i + (k - w * i) = omega (arith, mul-le-mul_left {m = i} {n = j} w l) in
        ap (λ y. get_or (table w f i ++ drop (w * i) old) y 0) (e ∙ ap (λ y. y + (k - w * i)) (sym (length_table w f i)))
        ∙ get_or-append-add (table w f i) (drop (w * i) old) (k - w * i) 0 ∙ get_or-drop (w * i) old (k - w * i) 0 ∙ ap (λ y. get_or old y 0) (sym e)

pub filled_end : {w : ℕ} {f : ℕ → ℕ} {old now : List ℕ} {i n : ℕ} → i ≡ n → Filled w f old now i → now ≡ table w f n ++ drop (w * n) old
filled_end {w} {f} {old} {now} {i} {n} e h = h.is ∙ ap (λ k. table w f k ++ drop (w * k) old) e

-- where the list has no more places
pub filled_all : {w : ℕ} {f : ℕ → ℕ} {old now : List ℕ} {i n : ℕ} → i ≡ n → length old ≡ w * n → Filled w f old now i → now ≡ table w f n
filled_all {w} {f} {old} {now} {i} {n} e l h =
    filled_end e h ∙ ap (λ (t : List ℕ). table w f n ++ t) (drop_of_length-le old {i = w * n} (omega arith)) ∙ append-nil (table w f n)
