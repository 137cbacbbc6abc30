-- Laws of refusals in order: `unless`, `or_else` and `each`.
use Rattle.std.specs.Prelude.{Ok, Err}
use mathlib.Core.Path.{◌≡◌, refl, sym, ap, ◌∙◌}
use mathlib.Core.Bool.{Bool, true, false}
use mathlib.Core.Logic.{⊎_elim}
use Prim.Native.Nat.{ℕ, zero, suc, ◌+◌, ◌<◌}
use native.Mathlib.Nat.{eq-or-lt_of_le, le_of_suc-le-suc}
use native.Mathlib.Numerals.{add-one}
use native.Mathlib.Omega.{arith}
use Rattle.refusals.specs.Refusals.{unless, or_else, each, Judged}
use Rattle.refusals.specs.declared.Refusal.{Refusal}
use Rattle.rules.proofs.Ranges.{fold_none, fold_next, fold_ext}

-- ---- one after the other

pub refused_not : {r : Refusal} → ◌≡◌ {A = Judged} (Err r) (Ok tt) → ⊥
refused_not {r} h = let z : ◌≡◌ {A = ℕ} 0 1 = cc in absurd (omega arith)

pub or_else_left : (a b : Judged) → or_else a b ≡ Ok tt → a ≡ Ok tt
or_else_left (Ok _) b h = refl
or_else_left (Err r) b h = h

pub or_else_right : (a b : Judged) → or_else a b ≡ Ok tt → b ≡ Ok tt
or_else_right (Ok _) b h = h
or_else_right (Err r) b h = absurd (refused_not h)

pub or_else_none : (a : Judged) → or_else a (Ok tt) ≡ a
or_else_none (Ok _) = refl
or_else_none (Err r) = refl

pub or_else_both : {a b : Judged} → a ≡ Ok tt → b ≡ Ok tt → or_else a b ≡ Ok tt
or_else_both {a} {b} p q = rw (p, q)

pub unless_true : (b : Bool) (r : Refusal) → unless b r ≡ Ok tt → b ≡ true
unless_true true r h = refl
unless_true false r h = absurd (refused_not h)

-- ---- the lowest index

pub each_none : (j : ℕ → Judged) → each j 0 ≡ Ok tt
unfolding each
each_none j = fold_none or_else (Ok tt) j 0

pub each_next : (j : ℕ → Judged) (k : ℕ) → each j (k + 1) ≡ or_else (each j k) (j k)
unfolding each
each_next j k = fold_next or_else (Ok tt) j k

pub each_more : (j : ℕ → Judged) (k : ℕ) → each j k ≡ Ok tt → j k ≡ Ok tt → each j (k + 1) ≡ Ok tt
each_more j k h n = each_next j k ∙ or_else_both h n

-- nothing refused below k, and k refused: the answer for every longer range
pub each_at : (j : ℕ → Judged) (k n : ℕ) (r : Refusal) → each j k ≡ Ok tt → j k ≡ Err r → k < n → each j n ≡ Err r
each_at j k zero r h y l = absurd (omega arith)
each_at j k (suc n) r h y l =
    ap (each j) (sym (add-one n)) ∙ each_next j n ∙ ⊎_elim here (λ e. ap (λ x. or_else x (j n)) (each_at j k n r h y e)) (eq-or-lt_of_le (le_of_suc-le-suc l))
  where
    here : k ≡ n → or_else (each j n) (j n) ≡ Err r
    here e = rw (← e, h, y)

-- all are admitted exactly where each is
pub each_is : (j : ℕ → Judged) (n : ℕ) → each j n ≡ Ok tt → (k : ℕ) → k < n → j k ≡ Ok tt
each_is j zero h k l = absurd (omega arith)
each_is j (suc n) h k l =
    let both : or_else (each j n) (j n) ≡ (Ok tt) = sym (each_next j n) ∙ ap (each j) (add-one n) ∙ h in
    ⊎_elim (λ e. ap j e ∙ or_else_right (each j n) (j n) both) (λ e. each_is j n (or_else_left (each j n) (j n) both) k e) (eq-or-lt_of_le (le_of_suc-le-suc l))

pub each_all : (j : ℕ → Judged) (n : ℕ) → ((k : ℕ) → k < n → j k ≡ Ok tt) → each j n ≡ Ok tt
each_all j zero h = each_none j
each_all j (suc n) h = ap (each j) (sym (add-one n)) ∙ each_more j n (each_all j n (λ k l. h k (omega arith))) (h n (omega arith))

-- the same at every index
pub each_same : (j k : ℕ → Judged) (n : ℕ) → ((i : ℕ) → i < n → j i ≡ k i) → each j n ≡ each k n
unfolding each
each_same j k n h = fold_ext or_else (Ok tt) j k 0 n (λ i _ l. h i (omega arith))

-- what holds of every refusal that some index gives holds of the first
pub each_from : (P : Refusal → Type 0) (j : ℕ → Judged) (n : ℕ) → ((k : ℕ) (r : Refusal) → j k ≡ Err r → P r)
    → (r : Refusal) → each j n ≡ Err r → P r
each_from P j zero h r e = absurd (refused_not (sym e ∙ each_none j))
each_from P j (suc n) h r e = go (each j n) refl (sym (each_next j n) ∙ ap (each j) (add-one n) ∙ e) (each_from P j n h r)
  where
    go : (a : Judged) → each j n ≡ a → or_else (each j n) (j n) ≡ Err r → (each j n ≡ Err r → P r) → P r
    go (Ok _) q d below = h n r (sym (ap (λ x. or_else x (j n)) q) ∙ d)
    go (Err s) q d below = below (q ∙ sym (ap (λ x. or_else x (j n)) q) ∙ d)

-- ---- a loop over tests, each with its refusal

-- none of the tests below k fails
pub record Passed (test : ℕ → Bool) (refusal : ℕ → Refusal) (k : ℕ) : Type 0 where
  pub admitted : each (λ i. unless (test i) (refusal i)) k ≡ Ok tt

module _ {test : ℕ → Bool} {refusal : ℕ → Refusal} where
  pub passed_none : Passed test refusal 0
  passed_none = record { admitted = each_none (λ i. unless (test i) (refusal i)) }

  pub passed_more : {k : ℕ} → Passed test refusal k → test k ≡ true → Passed test refusal (k + 1)
  passed_more {k} q t = record { admitted = each_more (λ i. unless (test i) (refusal i)) k q.admitted (ap (λ b. unless b (refusal k)) t) }

  pub passed_all : {k n : ℕ} → Passed test refusal k → k ≡ n → each (λ i. unless (test i) (refusal i)) n ≡ Ok tt
  passed_all q e = ap (each (λ i. unless (test i) (refusal i))) (sym e) ∙ q.admitted

  pub failed_at : {k n : ℕ} → Passed test refusal k → test k ≡ false → k < n → each (λ i. unless (test i) (refusal i)) n ≡ Err (refusal k)
  failed_at {k} {n} q t l = each_at (λ i. unless (test i) (refusal i)) k n (refusal k) q.admitted (ap (λ b. unless b (refusal k)) t) l

-- what an admitted range tells of each test, and back
module _ (test : ℕ → Bool) (refusal : ℕ → Refusal) (n : ℕ) where
  pub all_true : each (λ i. unless (test i) (refusal i)) n ≡ Ok tt → (k : ℕ) → k < n → test k ≡ true
  all_true h k l = unless_true (test k) (refusal k) (each_is (λ i. unless (test i) (refusal i)) n h k l)

  pub true_all : ((k : ℕ) → k < n → test k ≡ true) → each (λ i. unless (test i) (refusal i)) n ≡ Ok tt
  true_all h = each_all (λ i. unless (test i) (refusal i)) n (λ k l. ap (λ b. unless b (refusal k)) (h k l))

-- ---- tests
