-- What the loops and the calls in them tell, over plain values: the tests from what was read.
use Rattle.std.specs.Prelude.{Ok, Err}
use mathlib.Core.Path.{◌≡◌, sym, ap, ap₂, ◌∙◌}
use mathlib.Core.Bool.{Bool, true, false}
use mathlib.Core.List.{List}
use Prim.Native.Nat.{ℕ, ◌+◌, ◌*◌, ◌-◌, ◌≤◌, ◌<◌}
use native.Mathlib.Decide.{dec_lt}
use native.Mathlib.Numerals.{add-one}
use native.Mathlib.Omega.{arith}
use borrow.Author.Tests.{lt-ltb, le-ltb}
use lib.Dec.{ltb}
use lib.ListN.{take, drop}
use Rattle.words.specs.Roles.{wide}
use Rattle.rules.specs.Graphs.{Graph, Limits, least_check_degree, between}
use Rattle.refusals.specs.Refusals.{Judged}
use Rattle.refusals.specs.declared.Refusal.TheVariants.{Order}
use Rattle.refusals.proofs.Judging.{Passed, passed_none, passed_more, passed_all, failed_at}
use Rattle.graphs.specs.Judging.{span_judged}
use Rattle.graphs.specs.Calls.{part_of}
use Rattle.graphs.proofs.Parts.{row_judged, check_test}

-- ---- tests, from what was read

pub less_true : {a b x y : ℕ} → x ≡ a → y ≡ b → x < y → ltb a b ≡ true
less_true {a} {b} p q l = lt-ltb a b (omega arith)

pub less_false : {a b x y : ℕ} → x ≡ a → y ≡ b → y ≤ x → ltb a b ≡ false
less_false {a} {b} p q l = le-ltb a b (omega arith)

-- ---- the order of a row

-- the columns rise from entry a to entry a + k
abbrev pub Rises : (ℕ → ℕ) → ℕ → ℕ → Type 0
Rises column a k = Passed (λ k. ltb (column (a + k)) (column (a + k + 1))) (λ k. Order (a + k + 1)) k

pub rises_none : (column : ℕ → ℕ) (a : ℕ) → Rises column a (a + 1 - a - 1)
rises_none column a =
    let k : a + 1 - a - 1 ≡ 0 = omega arith in
    rw k passed_none

pub rises_more : (column : ℕ → ℕ) (a e : ℕ) → a < e → Rises column a (e - a - 1) → ltb (column (e - 1)) (column e) ≡ true
    → Rises column a (e + 1 - a - 1)
rises_more column a e l h q =
    let k : e + 1 - a - 1 ≡ e - a - 1 + 1 = omega arith in
    let p : a + (e - a - 1) ≡ e - 1 = omega arith in
    let r : e - 1 + 1 ≡ e = omega arith in
    rw k (passed_more h (rw (p, r, q)))

pub falls_at : (column : ℕ → ℕ) (a b e : ℕ) → a < e → e < b → Rises column a (e - a - 1) → ltb (column (e - 1)) (column e) ≡ false
    → span_judged column a b ≡ Err (Order e)
unfolding span_judged
falls_at column a b e l u h q =
    let p : a + (e - a - 1) ≡ e - 1 = omega arith in
    let r : e - 1 + 1 ≡ e = omega arith in
    failed_at h (rw (p, r, q)) (omega arith) ∙ rw (p, r)

pub rises_all : (column : ℕ → ℕ) (a b e : ℕ) → b ≤ e → (a + 1 ≤ b → e ≤ b) → Rises column a (e - a - 1) → span_judged column a b ≡ Ok tt
unfolding span_judged
rises_all column a b e l u h = go (dec_lt a b)
  where
    go : Dec (a < b) → span_judged column a b ≡ Ok tt
    go (yes some) = passed_all h (omega (arith, u (omega arith)))
    go (no none) = passed_all passed_none (omega arith)

pub check_test_lem : (L : Limits) (G : Graph) (i : ℕ) {x y : ℕ} {s t : Bool} → x ≡ G.start i → y ≡ G.start (i + 1)
    → s ≡ between least_check_degree (y - x) L.check_degree → s ≡ t → check_test L G i ≡ t
check_test_lem L G i p q r e = sym (sym e ∙ r ∙ ap₂ (λ x y. between least_check_degree (y - x) L.check_degree) p (q ∙ ap G.start (add-one i)))

pub row_test : (G : Graph) (i : ℕ) {a b : ℕ} {j : Judged} → a ≡ G.start i → b ≡ G.start (i + 1) → j ≡ span_judged G.column a b
    → row_judged G i ≡ j
row_test G i p q r = sym (r ∙ ap₂ (span_judged G.column) p (q ∙ ap G.start (add-one i)))

-- the part that row i is
pub part_is : (G : Graph) (columns : List ℕ) (i x y : ℕ) → x ≡ G.start i → y ≡ G.start (i + 1)
    → take (wide * y - wide * x) (drop (wide * x) columns) ≡ part_of (Ok tt) G columns i
part_is G columns i x y p q =
    let apart : wide * y - wide * x ≡ wide * (y - x) = omega arith in
    ap (λ k. take k (drop (wide * x) columns)) apart ∙ ap₂ (λ x y. take (wide * (y - x)) (drop (wide * x) columns)) p (q ∙ ap G.start (add-one i))
