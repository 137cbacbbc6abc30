-- A loop that fills a list from the front: what it has made of the old list at place i, its first state, its step and its end.
use mathlib.Core.Path.{◌≡◌, refl, sym, ap, ◌∙◌}
use mathlib.Core.List.{List, [], ◌∷◌, ◌++◌, append_assoc, append-nil, map, map-append}
use Prim.Native.Nat.{ℕ, zero, suc, ◌+◌, ◌-◌, ◌≤◌, ◌<◌}
use native.Mathlib.Nat.{add-zero, add-suc}
use native.Mathlib.Numerals.{add-one}
use native.Mathlib.Omega.{arith}
use lib.ListN.{length, get_or, take, drop, set, replicate, replicate-append-replicate, length-set, length-append, length-drop, drop_of_length-le}
use lib.Seq.{take_at, drop_at, drop-drop, get_or-append-add, get_or-drop}
use borrow.Rule.Slice.PartMut.{put_mid}
use Rattle.rules.specs.Ranges.{joined, tabulate}
use Rattle.rules.proofs.Ranges.{length_tabulate, tabulate_none, tabulate_more}

module _ {A : Type 0} where
  pub record Filled (f : ℕ → A) (old now : List A) (i : ℕ) : Type 0 where
    pub long : length now ≡ length old
    pub is : now ≡ tabulate f i ++ drop i old

  pub filled_none : (f : ℕ → A) (old : List A) → Filled f old old 0
  filled_none f old = record { long = refl; is = tabulate_none f old }

  pub filled_more : {f : ℕ → A} {old now : List A} {i : ℕ} {x : A} → i < length old → Filled f old now i → x ≡ f i → Filled f old (set now i x) (i + 1)
  filled_more {f} {old} {now} {i} {x} l h e = record {
    long = length-set now i x ∙ h.long;
    is = ap (λ (o : List A). set o i x) h.is ∙ ap (λ (y : A). set (tabulate f i ++ drop i old) i y) e ∙ tabulate_more f old i l;
  }

  -- past place i the list is as it was
  pub filled_rest : (d : A) {f : ℕ → A} {old now : List A} {i k : ℕ} → Filled f old now i → i ≤ k → get_or now k d ≡ get_or old k d
  filled_rest d {f} {old} {now} {i} {k} h l =
      ap (λ (t : List A). get_or t k d) h.is ∙ ap (λ (n : ℕ). get_or (tabulate f i ++ drop i old) n d) place
      ∙ get_or-append-add (tabulate f i) (drop i old) (k - i) d ∙ get_or-drop i old (k - i) d ∙ ap (λ (n : ℕ). get_or old n d) back
    where
      place : k ≡ length (tabulate f i) + (k - i)
      place = omega (arith, length_tabulate f i)

      back : i + (k - i) ≡ k
      back = omega arith

  pub filled_end : {f : ℕ → A} {old now : List A} {i n : ℕ} → i ≡ n → Filled f old now i → now ≡ tabulate f n ++ drop n old
  filled_end {f} {old} {now} {i} {n} e h = h.is ∙ ap (λ (k : ℕ). tabulate f k ++ drop k old) e

  -- where the list has no more places
  pub filled_all : {f : ℕ → A} {old now : List A} {i n : ℕ} → i ≡ n → length old ≡ n → Filled f old now i → now ≡ tabulate f n
  filled_all {f} {old} {now} {i} {n} e l h =
      filled_end e h ∙ ap (λ (t : List A). tabulate f n ++ t) (drop_of_length-le old {i = n} (omega arith)) ∙ append-nil (tabulate f n)

  -- two lists made one after the other
  pub tabulate_add : (f : ℕ → A) (a n : ℕ) → tabulate f a ++ tabulate (λ (k : ℕ). f (a + k)) n ≡ tabulate f (a + n)
  unfolding tabulate joined
  tabulate_add f a zero = append-nil (tabulate f a) ∙ ap (tabulate f) (sym (add-zero a))
  tabulate_add f a (suc n) =
      sym (append_assoc (tabulate f a) (tabulate (λ (k : ℕ). f (a + k)) n) (f (a + n) ∷ []))
      ∙ ap (λ (t : List A). t ++ (f (a + n) ∷ [])) (tabulate_add f a n) ∙ ap (tabulate f) (sym (add-suc a n))

  -- one value at every place
  pub tabulate_same : (x : A) (n : ℕ) → tabulate (λ (k : ℕ). x) n ≡ replicate n x
  unfolding tabulate joined
  tabulate_same x zero = refl
  tabulate_same x (suc n) = ap (λ (t : List A). t ++ (x ∷ [])) (tabulate_same x n) ∙ replicate-append-replicate n 1 x ∙ ap (λ (k : ℕ). replicate k x) (add-one n)

  -- the part from a to b, lent to a call that fills it, and put back
  pub filled_part : {f : ℕ → A} {old now part : List A} {a b : ℕ} → a ≤ b → b ≤ length old → Filled f old now a
      → part ≡ tabulate (λ (k : ℕ). f (a + k)) (b - a) → Filled f old (put_mid a (b - a) now part) b
  filled_part {f} {old} {now} {part} {a} {b} l r h e = record { long = ap length whole ∙ size; is = whole }
    where
      n_is : a + (b - a) ≡ b
      n_is = omega arith

      before : take a now ≡ tabulate f a
      before = ap (take a) h.is ∙ take_at (tabulate f a) (drop a old) a (length_tabulate f a)

      after : drop (b - a) (drop a now) ≡ drop b old
      after =
          ap (λ (t : List A). drop (b - a) (drop a t)) h.is ∙ ap (drop (b - a)) (drop_at (tabulate f a) (drop a old) a (length_tabulate f a))
          ∙ drop-drop (b - a) a old ∙ ap (λ (k : ℕ). drop k old) n_is

      whole : put_mid a (b - a) now part ≡ tabulate f b ++ drop b old
      whole =
          rw (before, after, e) (sym (append_assoc (tabulate f a) (tabulate (λ (k : ℕ). f (a + k)) (b - a)) (drop b old))
          ∙ ap (λ (t : List A). t ++ drop b old) (tabulate_add f a (b - a) ∙ ap (tabulate f) n_is))

      size : length (tabulate f b ++ drop b old) ≡ length old
      size = simp (length-append, length_tabulate f b, length-drop) (omega arith)

pub map_tabulate : {A B : Type 0} (g : A → B) (f : ℕ → A) (n : ℕ) → map g (tabulate f n) ≡ tabulate (λ k. g (f k)) n
unfolding tabulate joined
map_tabulate g f zero = refl
map_tabulate g f (suc n) = map-append g (tabulate f n) (f n ∷ []) ∙ ap (λ t. t ++ (g (f n) ∷ [])) (map_tabulate g f n)
