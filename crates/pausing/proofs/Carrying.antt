-- A run's state in lent memory, and what is carried on from it.
use Rattle.std.specs.Prelude.{Ok}
use mathlib.Core.Path.{◌≡◌, refl, ap, ap₂, ◌∙◌}
use mathlib.Core.Bool.{Bool, true, false, not, cond, ◌||◌, true≢false}
use mathlib.Core.List.{List, [], ◌∷◌, ◌++◌, map}
use Prim.Native.Nat.{ℕ, zero, suc, ◌*◌, ◌≤◌, ◌<◌}
use native.Mathlib.Omega.{arith}
use borrow.Author.Tests.{le-leb, leb-false}
use lib.Dec.{eqb, leb}
use lib.IntN.{pos}
use lib.ListN.{length, get_or, take, drop, length-append, length-drop, length-map, get_or-append}
use lib.Seq.{take_at, drop_at}
use mir.Syntax.{w32}
use mir.Val.{of_z}
use Rattle.rules.specs.Ranges.{one, tabulate}
use Rattle.rules.specs.Levels.{Level, byte, level_of, plus_zero}
use Rattle.rules.specs.Graphs.{Graph, Admitted, unsatisfied}
use Rattle.rules.specs.Nodes.{Offsets, Lifting}
use Rattle.rules.specs.Sequence.{Scheme, State, sign_preserving, level_at, bit_at, begun, sent_in, sent, iterated, next, state}
use Rattle.rules.specs.Halting.{ends, onward, onward_by, resumed}
use Rattle.refusals.specs.declared.Refusal.TheVariants as Refusals
use Rattle.rules.proofs.Ranges.{length_tabulate, get_d_tabulate, get_d_front}
use Rattle.refusals.proofs.Judging.{true_all}
use Rattle.rules.proofs.Own.{level_bytes}
use Rattle.rules.proofs.Bounds.{messages_within}
use Rattle.rules.proofs.Same.{next_same}
use Rattle.rules.proofs.Halting.{resumed_reads}
use Rattle.words.specs.Roles.{sum_table}
use Rattle.words.proofs.Words.{length_table}
use Rattle.nodes.specs.Memory.{level_in}
use Rattle.steps.proofs.Running.{levels_of}
use Rattle.decoding.specs.Decoding.{Memory, filled}
use Rattle.pausing.specs.declared.Run.{Run}
use Rattle.pausing.specs.declared.Standing.TheVariants.{Open, Codeword, Stopped}
use Rattle.pausing.specs.Records.{is_open, record_of}
use Rattle.pausing.specs.Pausing.{handed, within_judged, refilled}

-- ---- lists that fill the front of longer ones

pub kept : {A : Type 0} (l rest : List A) (n : ℕ) → length l ≡ n → n ≤ length rest → length (l ++ drop n rest) ≡ length rest
kept l rest n e h = length-append l (drop n rest) ∙ omega (arith, length-drop n rest)

pub within_all : (N : ℕ) (l : List ℕ) (n : ℕ) → ((k : ℕ) → k < n → (level_in l k).magnitude ≤ N) → within_judged N l n ≡ Ok tt
unfolding within_judged
within_all N l n h = true_all (λ k. leb (level_in l k).magnitude N) (λ k. Refusals.Advance) n (λ k u. le-leb (level_in l k).magnitude N (h k u))

pub levels_within : (N : ℕ) → N < 128 → (y : ℕ → Level) (n : ℕ) (rest : List ℕ) → ((v : ℕ) → v < n → (y v).magnitude ≤ N) → within_judged N (tabulate (λ v. byte (y v)) n ++ rest) n ≡ Ok tt
levels_within N s y n rest h = within_all N (tabulate (λ v. byte (y v)) n ++ rest) n
    (λ k u. rw (ap level_of (get_d_front (λ v. byte (y v)) n rest k 0 u) ∙ level_bytes.0 (y k) (omega (arith, h k u))) (h k u))

pub messages_small : (N : ℕ) → N < 128 → (l : List Level) (n : ℕ) (rest : List ℕ) → length l ≡ n → ((e : ℕ) → e < n → (level_at l e).magnitude ≤ N) → within_judged N (map byte l ++ rest) n ≡ Ok tt
messages_small N s l n rest e h = within_all N (map byte l ++ rest) n (λ k u. rw (read k u) (h k u))
  where
    read : (k : ℕ) → k < n → level_in (map byte l ++ rest) k ≡ level_at l k
    read k u = ap level_of (get_or-append (map byte l) rest 0 k (simp length-map (omega arith))) ∙ ap (λ f. f k) (levels_of l (λ j v. omega (arith, h j (omega arith))))

-- messages that were written are read back
pub levels_back : (l : List Level) → ((e : ℕ) → e < length l → (level_at l e).magnitude < 128) → map level_of (map byte l) ≡ l
levels_back [] h = refl
levels_back (x ∷ l) h = ap₂ ◌∷◌ (level_bytes.0 x (h 0 (omega arith))) (levels_back l (λ e u. h (suc e) (omega arith)))

-- ---- runs by rules that do the same to every state

pub resumed_same : (G : Graph) (R R' : Scheme) (limit : ℕ) → ((σ : State) → next G R σ ≡ next G R' σ) → (k : ℕ) (σ : State) → resumed G R limit k σ ≡ resumed G R' limit k σ
unfolding resumed onward_by onward ends
resumed_same G R R' limit h zero σ = refl
resumed_same G R R' limit h (suc k) σ = ap (onward_by G R limit k) (h σ) ∙ on k (next G R' σ)
  where
    on : (k : ℕ) (τ : State) → onward_by G R limit k τ ≡ onward_by G R' limit k τ
    on zero τ = refl
    on (suc k) τ = ap (onward G R limit) (on k τ) ∙ ap (λ ρ. cond (ends G R limit (onward_by G R' limit k τ)) (onward_by G R' limit k τ) ρ) (h (onward_by G R' limit k τ))

-- ---- the lists of a state

pub list_lengths : (G : Graph) (R : Scheme) (t : ℕ) → (length (state G R t).variable_messages ≡ G.entries) × (length (state G R t).check_messages ≡ G.entries) × (length (state G R t).bits ≡ G.variables)
unfolding state begun next iterated sent sent_in
list_lengths G R zero = (length_tabulate R.first_message G.entries, length_tabulate (λ e. plus_zero) G.entries, length_tabulate R.first_bit G.variables)
list_lengths G R (suc zero) = ((list_lengths G R zero).0, length_tabulate (R.check (level_at (state G R 1).variable_messages)) G.entries, length_tabulate (λ v. R.bit (get_or (state G R 1).sums v (pos 0)) v) G.variables)
list_lengths G R (suc (suc t)) = (
  length_tabulate (R.variable (suc (state G R t).iteration) (level_at (state G R (suc t)).check_messages)) G.entries,
  length_tabulate (R.check (level_at (state G R (suc (suc t))).variable_messages)) G.entries,
  length_tabulate (λ v. R.bit (get_or (state G R (suc (suc t))).sums v (pos 0)) v) G.variables,
)

pub taken_within : (G : Graph) → Admitted G → (Nq : ℕ) (φ : Offsets) (Λ : Lifting) (y : ℕ → Level) (t e : ℕ) → e < G.entries → (level_at (state G (sign_preserving G Nq φ Λ y) t).variable_messages e).magnitude ≤ Nq
unfolding state begun next iterated sent sent_in
taken_within G ok Nq φ Λ y zero e u = (messages_within G ok Nq φ Λ y 0 e u).0
taken_within G ok Nq φ Λ y (suc t) e u = (messages_within G ok Nq φ Λ y t e u).0

-- ---- records

-- open exactly where the run has not ended, and then below the limit
pub open_is : (G : Graph) (R : Scheme) (limit : ℕ) (σ : State) → is_open (record_of G limit σ).standing ≡ not (ends G R limit σ)
unfolding ends
open_is G R limit σ = go (eqb (unsatisfied G (bit_at σ.bits)) 0) (leb limit σ.iteration)
  where
    go : (a b : Bool) → is_open (cond a Codeword (cond b Stopped Open)) ≡ not (a || b)
    go true b = refl
    go false true = refl
    go false false = refl

pub open_below : (G : Graph) (R : Scheme) (limit : ℕ) (σ : State) → ends G R limit σ ≡ false → σ.iteration < limit
unfolding ends
open_below G R limit σ = go (eqb (unsatisfied G (bit_at σ.bits)) 0)
  where
    go : (a : Bool) → a || leb limit σ.iteration ≡ false → σ.iteration < limit
    go true h = absurd (true≢false h)
    go false h = leb-false limit σ.iteration h

-- ---- what goes on from the memory that holds a run's state

module _ (G : Graph) (ok : Admitted G) (Nq : ℕ) (small : Nq < 128) (φ : Offsets) (Λ : Lifting) (y : ℕ → Level) (low : (v : ℕ) → v < G.variables → (y v).magnitude < 128) (M : Memory) (t : ℕ) where
  abbrev R : Scheme
  R = sign_preserving G Nq φ Λ y

  abbrev n : ℕ
  n = G.variables

  abbrev E : ℕ
  E = G.entries

  abbrev σ : State
  σ = state G R t

  abbrev held : Memory
  held = filled n E y σ M

  -- the levels in bytes are the channel levels
  agree : (v : ℕ) → v < n → level_in (take n held.levels) v ≡ y v
  agree v u =
      ap (λ l. level_in l v) (take_at (tabulate (λ v. byte (y v)) n) (drop n M.levels) n (length_tabulate (λ v. byte (y v)) n))
      ∙ ap level_of (get_d_tabulate (λ v. byte (y v)) n v 0 u) ∙ level_bytes.0 (y v) (low v u)

  -- what the bytes hold is carried on as the state itself
  pub carried : (limit k : ℕ) (p : Run) → p.iterations ≡ σ.iteration
      → resumed G (sign_preserving G Nq φ Λ (level_in (take n held.levels))) limit (suc k) (handed p (take E held.variable_messages) (take E held.check_messages)) ≡ resumed G R limit (suc k) σ
  carried limit k p number =
      ap₂ (λ q C. resumed G S limit (suc k) (handed p q C))
      (take_at (map byte σ.variable_messages) (drop E M.variable_messages) E (simp length-map (list_lengths G R t).0))
      (take_at (map byte σ.check_messages) (drop E M.check_messages) E (simp length-map (list_lengths G R t).1))
      ∙ resumed_same G S R limit (next_same G ok Nq φ Λ (level_in (take n held.levels)) y agree) (suc k) (handed p (map byte σ.variable_messages) (map byte σ.check_messages))
      ∙ resumed_reads G R limit σ (handed p (map byte σ.variable_messages) (map byte σ.check_messages)) number
      (levels_back σ.variable_messages (λ e u. omega (arith, taken_within G ok Nq φ Λ y t e (omega (arith, (list_lengths G R t).0)))))
      (levels_back σ.check_messages (λ e u. omega (arith, (messages_within G ok Nq φ Λ y t e (omega (arith, (list_lengths G R t).1))).1))) k
    where
      S : Scheme
      S = sign_preserving G Nq φ Λ (level_in (take n held.levels))

  -- and fills the memory as the run would have
  pub refilled_is : (τ : State) → refilled n E τ held ≡ filled n E y τ M
  refilled_is τ = rw (
    drop_at (map byte σ.variable_messages) (drop E M.variable_messages) E (simp length-map (list_lengths G R t).0),
    drop_at (map byte σ.check_messages) (drop E M.check_messages) E (simp length-map (list_lengths G R t).1),
    drop_at (sum_table (λ v. get_or σ.sums v (pos 0)) n) (drop (4 * n) M.sums) (4 * n) (length_table 4 (λ v. of_z w32 (get_or σ.sums v (pos 0))) n),
    drop_at (map one σ.bits) (drop n M.bits) n (simp length-map (list_lengths G R t).2),
  ) refl
