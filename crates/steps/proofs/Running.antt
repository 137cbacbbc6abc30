-- The lists hold the state of the iteration, from one iteration to the next and from one halt to the next, whatever state the run goes on from.
use mathlib.Core.Path.{◌≡◌, refl, sym, ap, ap₂, ◌∙◌, fun_ext, subst}
use mathlib.Core.Bool.{Bool, true, false, cond}
use mathlib.Core.List.{List, map}
use Prim.Native.Nat.{ℕ, suc, ◌+◌, ◌-◌, ◌/◌, ◌≤◌, ◌<◌}
use native.Mathlib.Decide.{dec_lt}
use native.Mathlib.Numerals.{add-one}
use native.Mathlib.Omega.{arith}
use lib.Dec.{eqb}
use lib.IntN.{ℤ, pos, nat_abs, ◌+ℤ◌, ◌-ℤ◌}
use lib.ListN.{length, get_or, get_or-map, get_or-eq_default}
use mir.Syntax.{w32}
use mir.Val.{of_z}
use Rattle.rules.specs.Ranges.{fold, one, tabulate}
use Rattle.rules.specs.Levels.{Level, byte, level_of, plus_zero, largest}
use Rattle.rules.specs.Graphs.{Graph, Admitted}
use Rattle.rules.specs.Nodes.{Offsets, Lifting, from_check, counted, contribution, channel_part, share, posterior, bit_of, outgoing_sum, outgoing, from_variable}
use Rattle.rules.specs.Sequence.{Scheme, State, unlifted, counted_in, sign_preserving, level_at, bit_at, sent_in, sent, iterated, next}
use Rattle.rules.proofs.Ranges.{tabulate_ext, get_d_tabulate, length_tabulate}
use Rattle.rules.proofs.Filling.{map_tabulate}
use Rattle.rules.proofs.Own.{level_bytes}
use Rattle.rules.proofs.Bounds.{check_within_lem, magnitude_within}
use Rattle.rules.proofs.Lifts.{sent_is_rest}
use Rattle.words.specs.Roles.{bit_of_byte, graph_of}
use Rattle.words.proofs.Words.{table_ext}
use Rattle.settings.specs.declared.Settings.{Settings}
use Rattle.nodes.specs.Memory.{level_in}
use Rattle.nodes.specs.Lists.{Parts, up_to, share_in, sent_by}
use Rattle.nodes.proofs.SumLaws.{parts_are}
use Rattle.nodes.proofs.Halves.{up_to_within}
use Rattle.nodes.proofs.Outgoing.{outgoing_saturates, sent_by_lem}
use Rattle.steps.specs.Steps.{Holds, sum_by, sums_by, Iterates, offsets_in, parts_in, messages_in, messages_under, MadeBy, InBytes, Given}
use Rattle.steps.proofs.Stepping.{sum_of}

-- ---- lists in bytes

-- the levels of a list of bytes are those that were written
pub levels_of : (l : List Level) → ((e : ℕ) → e < length l → (level_at l e).magnitude < 128) → level_in (map byte l) ≡ level_at l
unfolding byte
levels_of l h = fun_ext (λ e. ap level_of (get_or-map byte l e plus_zero) ∙ level_bytes.0 (level_at l e) (go e (dec_lt e (length l))))
  where
    go : (e : ℕ) → Dec (e < length l) → (level_at l e).magnitude < 128
    go e (yes p) = h e p
    go e (no p) = rw (get_or-eq_default l plus_zero {n = e} (omega arith)) (omega arith)

pub bits_of : (l : List Bool) → bit_of_byte (map one l) ≡ bit_at l
bits_of l = fun_ext (λ v. ap (λ k. eqb k 1) (get_or-map one l v false) ∙ go (bit_at l v))
  where
    go : (b : Bool) → eqb (one b) 1 ≡ b
    go true = refl
    go false = refl

module _ {N : ℕ} (small : N < 128) {l : List Level} {q : List ℕ} (h : InBytes N l q) where
  pub held_levels : level_in q ≡ level_at l
  held_levels = ap level_in h.is ∙ levels_of l (λ e _. omega (arith, h.within e))

  held_byte : (e : ℕ) → get_or q e 0 < 256
  unfolding byte
  held_byte e = rw h.is (rw (get_or-map byte l e plus_zero) (byte_small (level_at l e).minus (level_at l e).magnitude (omega (arith, h.within e))))
    where
      byte_small : (b : Bool) (m : ℕ) → m < 128 → m + cond b 128 0 < 256
      byte_small true m l = omega arith
      byte_small false m l = omega arith

-- messages by a rule
pub in_bytes : (N : ℕ) (f : ℕ → Level) (E : ℕ) {q : List ℕ} → ((e : ℕ) → e < E → (f e).magnitude ≤ N) → q ≡ tabulate (λ e. byte (f e)) E → InBytes N (tabulate f E) q
in_bytes N f E h e = record { is = e ∙ sym (map_tabulate byte f E); within = λ k. go k (dec_lt k E) }
  where
    go : (k : ℕ) → Dec (k < E) → (level_at (tabulate f E) k).magnitude ≤ N
    go k (yes u) = rw (get_d_tabulate f E k plus_zero u) (h k u)
    go k (no u) = rw (get_or-eq_default (tabulate f E) plus_zero {n = k} (omega (arith, length_tabulate f E))) (omega arith)

module _ (n : ℕ) (starts columns : List ℕ) (ok : Admitted (graph_of n starts columns)) (Nq : ℕ) (φ : Offsets) (Λ : Lifting) (small : Nq < 8) (y : List ℕ) where
  abbrev G : Graph
  G = graph_of n starts columns

  abbrev R : Scheme
  R = sign_preserving G Nq φ Λ (level_in y)

  -- ---- sums and messages by the lists of a run

  module _ (t : ℕ) {parts : List ℤ} (p : parts ≡ parts_in Nq Λ t) {l : List Level} {C : List ℕ} (h : InBytes Nq l C) where
    -- every check message is within Nq, so the list of parts has its contribution
    part_is : (k : ℕ) → up_to Nq (λ l. contribution 1 (counted Nq Λ t l)) (get_or C k 0) ≡ contribution 1 (counted Nq Λ t (level_at l k))
    part_is k =
        let here : level_of (get_or C k 0) ≡ level_at l k = ap (λ f. f k) (held_levels (omega arith) h) in
        up_to_within Nq (λ l. contribution 1 (counted Nq Λ t l)) (get_or C k 0) (rw here (h.within k)) ∙ ap (λ m. contribution 1 (counted Nq Λ t m)) here

    pub sum_rule : (v : ℕ) → sum_by G (level_in y) parts C v ≡ R.sum t (level_at l) v
    unfolding sign_preserving unlifted posterior share
    sum_rule v =
        ap (λ f. channel_part G (level_in y) v +ℤ fold ◌+ℤ◌ (pos 0) (share_in G.column f v) 0 G.entries)
        (parts_are (up_to Nq (λ l. contribution 1 (counted Nq Λ t l))) C p (held_byte (omega arith) h) ∙ fun_ext part_is)

    -- what is sent at an entry, from these sums
    sent_rule : {messages S : List ℕ} → Parts parts → messages ≡ messages_in Nq φ → S ≡ sums_by G (level_in y) parts C → (e : ℕ) → e < G.entries
        → sent_by parts messages G.column S C e ≡ byte (R.variable t (level_at l) e)
    sent_rule {messages} {S} w m s e u =
        sent_by_lem (outgoing Nq φ) (up_to Nq (λ l. contribution 1 (counted Nq Λ t l))) m (outgoing_saturates Nq φ small) p G.column S C e (held_byte (omega arith) h e)
        ∙ ap₂ (λ a b. byte (outgoing Nq φ (a -ℤ b))) (sum_of n starts columns ok y w C s (G.column e) (ok.within e u) ∙ sum_rule (G.column e)) (part_is e)
        ∙ ap byte (sym (sent_is_rest G Nq φ Λ (level_in y) (level_at l) t e u))

    -- the last step, from iteration 1 on
    pub sent_holds : {messages S q : List ℕ} → Parts parts → messages ≡ messages_in Nq φ → S ≡ sums_by G (level_in y) parts C
        → q ≡ tabulate (sent_by parts messages G.column S C) G.entries → InBytes Nq (tabulate (R.variable t (level_at l)) G.entries) q
    unfolding sign_preserving unlifted from_variable outgoing
    sent_holds {messages} {S} w m s e =
        in_bytes Nq (R.variable t (level_at l)) G.entries (λ k u. magnitude_within Nq φ ((nat_abs (outgoing_sum G (level_in y) (counted_in Nq Λ t (level_at l)) k) - 1) / 2))
        (e ∙ tabulate_ext (sent_by parts messages G.column S C) (λ e. byte (R.variable t (level_at l) e)) G.entries (sent_rule w m s))

  -- ---- one iteration

  module _ (σ : State) {t : ℕ} (number : σ.iteration ≡ t) {q : List ℕ} (sends : InBytes Nq (sent G R σ) q) {parts : List ℤ} (p : parts ≡ parts_in Nq Λ (t + 1)) {C S b : List ℕ}
      (it : Iterates G (level_in y) (level_in q) parts C S b) where
    pub received : InBytes Nq (next G R σ).check_messages C
    unfolding sign_preserving unlifted next iterated
    received = in_bytes Nq (from_check G (level_at (sent G R σ))) G.entries (check_within_lem G ok Nq (level_at (sent G R σ)) (λ e _. sends.within e))
        (it.check_messages ∙ ap (λ f. tabulate (λ e. byte (from_check G f e)) G.entries) (held_levels (omega arith) sends))

    next_number : (next G R σ).iteration ≡ t + 1
    unfolding next iterated
    next_number = ap suc number ∙ sym (add-one t)

    sum_at_lem : (v : ℕ) → v < n → sum_by G (level_in y) parts C v ≡ get_or (next G R σ).sums v (pos 0)
    unfolding next iterated
    sum_at_lem v u =
        sum_rule (t + 1) p received v ∙ ap (λ (k : ℕ). R.sum k (level_at (next G R σ).check_messages) v) (sym next_number)
        ∙ sym (get_d_tabulate (R.sum (suc σ.iteration) (level_at (next G R σ).check_messages)) n v (pos 0) u)

    pub next_holds : Holds G (next G R σ) q C S b
    unfolding sign_preserving unlifted next iterated
    next_holds = record {
      variable_messages = sends.is;
      check_messages = received.is;
      sums = it.sums ∙ table_ext 4 (λ v. of_z w32 (sum_by G (level_in y) parts C v)) (λ v. of_z w32 (get_or (next G R σ).sums v (pos 0))) n (λ v u. ap (of_z w32) (sum_at_lem v u));
      bits = it.bits
          ∙ tabulate_ext (λ v. one (bit_of (sum_by G (level_in y) parts C v) (level_in y v).minus)) (λ v. one (bit_of (get_or (next G R σ).sums v (pos 0)) (level_in y v).minus)) n
          (λ v u. ap (λ s. one (bit_of s (level_in y v).minus)) (sum_at_lem v u))
          ∙ sym (map_tabulate one (λ v. bit_of (get_or (next G R σ).sums v (pos 0)) (level_in y v).minus) n);
    }

    -- and its last step
    pub next_sends : {messages q₁ : List ℕ} → Parts parts → messages ≡ messages_in Nq φ → q₁ ≡ tabulate (sent_by parts messages G.column S C) G.entries → InBytes Nq (sent G R (next G R σ)) q₁
    unfolding next iterated sent sent_in
    next_sends {messages} {q₁} w m e =
        subst (λ (k : ℕ). InBytes Nq (tabulate (R.variable k (level_at (next G R σ).check_messages)) G.entries) q₁) (sym next_number)
        (sent_holds (t + 1) p received w m it.sums e)

  -- what is sent where a run is resumed: at iteration 0 what it has, from 1 on what the last step makes
  pub resumed_none : {σ : State} {t : ℕ} {q C : List ℕ} → Given Nq σ t q C → t ≡ 0 → InBytes Nq (sent G R σ) q
  unfolding sent sent_in
  resumed_none {σ} {t} {q} given e = subst (λ (k : ℕ). InBytes Nq (sent_in G R k σ.variable_messages σ.check_messages) q) (sym (given.number ∙ e)) given.variable_messages

  pub resumed_sends : {σ : State} {t : ℕ} {q C : List ℕ} → Given Nq σ t q C → (t ≡ 0 → ⊥) → {parts : List ℤ} → parts ≡ parts_in Nq Λ t → Parts parts → {messages S q₁ : List ℕ} → messages ≡ messages_in Nq φ
      → S ≡ sums_by G (level_in y) parts C → q₁ ≡ tabulate (sent_by parts messages G.column S C) G.entries → InBytes Nq (sent G R σ) q₁
  unfolding sent sent_in
  resumed_sends {σ} {t} {q} {C} given d {parts} p w {messages} {S} {q₁} m s e =
      let n : σ.iteration ≡ suc (t - 1) = omega (arith, given.number, d) in
      let same : t ≡ suc (t - 1) = omega (arith, d) in
      subst (λ (k : ℕ). InBytes Nq (sent_in G R k σ.variable_messages σ.check_messages) q₁) (sym n)
      (sent_holds (suc (t - 1)) (p ∙ ap (parts_in Nq Λ) same) given.check_messages w m s e)

-- ---- the list of messages

pub made_none : {s : Settings} {messages : List ℕ} → length messages ≡ 35 → MadeBy s 0 messages
made_none l = record { long = l; made = λ u. absurd (omega arith) }

pub made_by : {s : Settings} {messages : List ℕ} (k : ℕ) → messages ≡ messages_under s → MadeBy s k messages
made_by {s} k e = record { long = ap length e ∙ length_tabulate (λ k. byte (outgoing (largest s.message) (offsets_in s) (pos k -ℤ pos 17))) 35; made = λ _. e }

pub made_as : {s : Settings} {messages : List ℕ} (j k : ℕ) → j ≡ k → MadeBy s j messages → MadeBy s k messages
made_as {s} {messages} j k e m = subst (λ (i : ℕ). MadeBy s i messages) e m
