-- Record and lent bytes of a list of advances are those of one run halted.
use Rattle.std.specs.Prelude.{Ok, Err}
use mathlib.Core.Path.{◌≡◌, refl, sym, ap, ap₂, ◌∙◌}
use mathlib.Core.Bool.{Bool, true, false, not, cond, ◌&&◌, ◌||◌}
use mathlib.Core.List.{List, [], ◌∷◌, ◌++◌, map}
use Prim.Native.Nat.{ℕ, zero, suc, ◌+◌, ◌*◌, ◌≤◌, ◌<◌, min}
use native.Mathlib.Decide.{dec_lt}
use native.Mathlib.Nat.{add-zero, add_assoc, zero-add}
use native.Mathlib.Omega.{arith}
use borrow.Author.Tests.{le-leb, ne_eqb, not-true, lt-ltb, leb-true}
use lib.Dec.{eqb, leb}
use lib.IntN.{pos}
use lib.ListN.{length, get_or, drop, length-map}
use lib.Seq.{drop_at}
use mir.Syntax.{w32}
use mir.Val.{of_z}
use Rattle.rules.specs.Ranges.{one, tabulate}
use Rattle.rules.specs.Levels.{byte, largest}
use Rattle.rules.specs.Graphs.{Graph, limits, Admitted, variable_degree}
use Rattle.rules.specs.Sequence.{Scheme, State, begun, state, unsatisfied_in, stop, final, report}
use Rattle.rules.specs.Halting.{ends, onward_by, resumed, halted}
use Rattle.refusals.specs.Refusals.{unless, or_else, Judged}
use Rattle.refusals.specs.declared.Refusal.TheVariants as Refusals
use Rattle.rules.specs.declared.Verdict.TheVariants as Verdicts
use Rattle.rules.proofs.Ranges.{length_tabulate}
use Rattle.refusals.proofs.Judging.{or_else_left, or_else_right, or_else_none, unless_true}
use Rattle.rules.proofs.Tests.{and_left}
use Rattle.rules.proofs.Own.{largest_within}
use Rattle.rules.proofs.Bounds.{messages_within}
use Rattle.rules.proofs.Simulation.{state_number}
use Rattle.rules.proofs.Stops.{run_stops}
use Rattle.rules.proofs.Halting.{run_halts}
use Rattle.words.specs.Words.{table}
use Rattle.words.specs.Roles.{value_at, sum_table}
use Rattle.words.proofs.Words.{length_table}
use Rattle.graphs.specs.Judging.{shape_judged, degrees_judged, countable, graph_judged_in}
use Rattle.graphs.proofs.Lending.{lent_admitted, lent_counted}
use Rattle.settings.specs.Scaling.{factor_of}
use Rattle.settings.specs.Settings.{settings, settings_judged, precisions_admitted, options_admitted, lifting_admitted, checked, settings_of}
use Rattle.settings.specs.Theorems.{Admissible}
use Rattle.settings.proofs.Accepted.{good_settings}
use Rattle.settings.proofs.Magnitudes.{magnitudes_within}
use Rattle.decoding.specs.Decoding.{Frame, Memory, room_of, enough, filled, graph, levels, offsets_of, lifting_of, scheme, asked_judged, frame_judged, decode_finds}
use Rattle.decoding.proofs.Accepting.{enough_told, frame_passed, memory_told, asked_told}
use Rattle.pausing.specs.declared.Standing.TheVariants.{Open, Codeword, Stopped}
use Rattle.pausing.specs.Records.{is_open, record_at, record_of, admits, standing_of, reported}
use Rattle.pausing.specs.Pausing.{Lent, lent, refilled, resume_judged, advance_judged, advance_finds, state_after, lent_after}
use Rattle.pausing.specs.Theorems.{Kept, asked_of, counted, found, after, after_all, count_if, accepted, in_state, RunPauses}
use Rattle.pausing.proofs.Carrying.{kept, levels_within, messages_small, list_lengths, taken_within, open_is, open_below, carried, refilled_is}

-- the record of the run that has ended is its report
ended_record : (G : Graph) (R : Scheme) (limit : ℕ) → record_of G limit (final G R limit) ≡ reported (report G R limit)
unfolding final report unsatisfied_in ends
ended_record G R limit =
    ap (λ (t : ℕ). record_at limit t (unsatisfied_in G R (stop G R limit))) (state_number G R (stop G R limit))
    ∙ ap (λ s. record { standing = s; iterations = stop G R limit; unsatisfied = unsatisfied_in G R (stop G R limit) }) (go (eqb (unsatisfied_in G R (stop G R limit)) 0) over)
  where
    over : eqb (unsatisfied_in G R (stop G R limit)) 0 || leb limit (stop G R limit) ≡ true
    over =
        let h = (run_halts G R limit).over (stop G R limit) (omega arith) in
        ap (λ (t : ℕ). eqb (unsatisfied_in G R (stop G R limit)) 0 || leb limit t) (sym (state_number G R (stop G R limit))) ∙ ap (ends G R limit) (sym h.0) ∙ h.1

    go : (b : Bool) → b || leb limit (stop G R limit) ≡ true → cond b Codeword (cond (leb limit (stop G R limit)) Stopped Open) ≡ standing_of (cond b Verdicts.Codeword Verdicts.Stopped)
    go true e = refl
    go false e = ap (λ b. cond b Stopped Open) e

-- ---- a frame's runs in lent memory

module _ (F : Frame) (M : Memory) (d : List ℕ) (h : decode_finds F (length d) (room_of M) ≡ Ok tt) where
  abbrev G : Graph
  G = graph F

  abbrev R : Scheme
  R = scheme F

  abbrev n : ℕ
  n = F.variables

  abbrev E : ℕ
  E = (graph F).entries

  abbrev limit : ℕ
  limit = F.asked.limit

  abbrev g : Judged
  g = graph_judged_in limits G (length d)

  told : (frame_judged F g ≡ Ok tt) × (enough n E (room_of M) ≡ true)
  told = memory_told F g (room_of M) h

  passed : (g ≡ Ok tt) × (asked_judged F ≡ Ok tt)
  passed = frame_passed F g told.0

  ok : Admitted G
  ok = lent_admitted G (length d) passed.0

  settled : settings_judged F.asked ≡ Ok tt
  settled = (asked_told F passed.1).1

  good : Admissible (settings F.asked)
  unfolding settings_of
  good = (good_settings F.asked (settings F.asked) (ap (λ j. checked j (settings F.asked)) settled)).1

  long : (n ≤ length M.levels) × (E ≤ length M.variable_messages) × (E ≤ length M.check_messages) × (4 * n ≤ length M.sums) × (n ≤ length M.bits)
  long = enough_told n E (room_of M) told.1

  small : largest F.asked.message < 8
  small = omega (arith, largest_within F.asked.message (omega (arith, good.message, good.channel)))

  small_channel : largest F.asked.channel < 8
  small_channel = omega (arith, largest_within F.asked.channel (omega (arith, good.channel)))

  -- the list of degrees is as long as it was, and counted again it stays
  counted_is : (e : List ℕ) → length e ≡ length d → counted F e ≡ table 4 (variable_degree G) n ++ drop (4 * n) e
  counted_is e l = lent_counted limits G (length e) e (ap (graph_judged_in limits G) l ∙ passed.0) refl

  room : 4 * n ≤ length d
  unfolding graph_judged_in countable
  room = leb-true (4 * n) (length d) (unless_true (leb (4 * n) (length d)) Refusals.Buffer
      (or_else_right (shape_judged limits G) (unless (leb (4 * n) (length d)) Refusals.Buffer) (or_else_left (countable limits G (length d)) (degrees_judged limits G) passed.0)))

  counted_length : length (counted F d) ≡ length d
  counted_length = ap length (counted_is d refl) ∙ kept (table 4 (variable_degree G) n) d (4 * n) (length_table 4 (variable_degree G) n) room

  counted_again : counted F (counted F d) ≡ counted F d
  counted_again =
      counted_is (counted F d) counted_length ∙ ap (λ l. table 4 (variable_degree G) n ++ drop (4 * n) l) (counted_is d refl)
      ∙ ap (λ l. table 4 (variable_degree G) n ++ l) (drop_at (table 4 (variable_degree G) n) (drop (4 * n) d) (4 * n) (length_table 4 (variable_degree G) n)) ∙ sym (counted_is d refl)

  module _ (t : ℕ) where
    abbrev σ : State
    σ = state G R t

    abbrev held : Memory
    held = filled n E (levels F) σ M

    abbrev here : Lent
    here = lent (record_of G limit σ) held

    room_same : room_of held ≡ room_of M
    room_same = rw (
      kept (tabulate (λ v. byte (levels F v)) n) M.levels n (length_tabulate (λ v. byte (levels F v)) n) long.0,
      kept (map byte σ.variable_messages) M.variable_messages E (simp length-map (list_lengths G R t).0) long.1,
      kept (map byte σ.check_messages) M.check_messages E (simp length-map (list_lengths G R t).1) long.2,
      kept (sum_table (λ v. get_or σ.sums v (pos 0)) n) M.sums (4 * n) (length_table 4 (λ v. of_z w32 (get_or σ.sums v (pos 0))) n) long.3,
      kept (map one σ.bits) M.bits n (simp length-map (list_lengths G R t).2) long.4,
    )

    -- of an advance on the frame's graph and settings, only the record and the count are in question
    judged : (k : ℕ) → advance_finds (asked_of F k) (length (counted F d)) here ≡ unless (admits limit k (record_of G limit σ)) Refusals.Advance
    unfolding advance_judged resume_judged
    judged k = rw (
      ap (graph_judged_in limits G) counted_length ∙ passed.0,
      unscaled,
      ap (enough n E) room_same ∙ told.1,
      levels_within (largest F.asked.channel) (omega (arith, small_channel)) (levels F) n (drop n M.levels) (λ v _. magnitudes_within (largest F.asked.channel) (factor_of F.asked.scaling) (value_at F.values v)),
      messages_small (largest F.asked.message) (omega (arith, small)) σ.variable_messages E (drop E M.variable_messages) (list_lengths G R t).0 (taken_within G ok (largest F.asked.message) (offsets_of F) (lifting_of F) (levels F) t),
      messages_small (largest F.asked.message) (omega (arith, small)) σ.check_messages E (drop E M.check_messages) (list_lengths G R t).1 (λ e u. (messages_within G ok (largest F.asked.message) (offsets_of F) (lifting_of F) (levels F) t e u).1),
    ) (or_else_none (unless (admits limit k (record_of G limit σ)) Refusals.Advance))
      where
        P : Judged
        P = unless (precisions_admitted F.asked.channel F.asked.message) Refusals.Precision

        O : Judged
        O = unless (options_admitted F.asked) Refusals.Option

        L : Judged
        L = unless (lifting_admitted F.asked) Refusals.Lifting

        unscaled : or_else P (or_else O L) ≡ Ok tt
        unscaled = rw (or_else_left P _ settled, or_else_left O _ (or_else_right P _ settled), or_else_left L _ (or_else_right O _ (or_else_right P _ settled))) refl

    low : (v : ℕ) → v < n → (levels F v).magnitude < 128
    low v _ = omega (arith, small_channel, magnitudes_within (largest F.asked.channel) (factor_of F.asked.scaling) (value_at F.values v))

    -- what the bytes hold is carried on as the state itself
    carried_on : (k : ℕ) → state_after (asked_of F (suc k)) here ≡ resumed G R limit (suc k) σ
    carried_on k = carried G ok (largest F.asked.message) (omega (arith, small)) (offsets_of F) (lifting_of F) (levels F) low M t limit k (record_of G limit σ) refl

    refilled_as : (τ : State) → refilled n E τ held ≡ filled n E (levels F) τ M
    refilled_as = refilled_is G ok (largest F.asked.message) (omega (arith, small)) (offsets_of F) (lifting_of F) (levels F) low M t

    -- one advance
    advanced_lent : (k : ℕ) → lent_after (asked_of F k) (Ok tt) here ≡ lent (record_of G limit (resumed G R limit k σ)) (filled n E (levels F) (resumed G R limit k σ) M)
    unfolding resumed
    advanced_lent zero = refl
    advanced_lent (suc k) =
        ap (λ b. cond b here (lent (record_of G limit (state_after (asked_of F (suc k)) here)) (refilled n E (state_after (asked_of F (suc k)) here) held))) (ne_eqb (suc k) 0 (λ h. omega arith))
        ∙ ap (λ τ. lent (record_of G limit τ) (refilled n E τ held)) (carried_on k) ∙ ap (lent (record_of G limit (resumed G R limit (suc k) σ))) (refilled_as (resumed G R limit (suc k) σ))

  -- an advance of the run halted at j
  module _ (j k : ℕ) where
    abbrev at : Kept
    at = in_state F M d (halted G R limit j)

    found_is : found F k at ≡ unless (admits limit k (record_of G limit (halted G R limit j))) Refusals.Advance
    unfolding in_state halted
    found_is = judged (min j (stop G R limit)) k

    advanced_at : after F k at ≡ in_state F M d (halted G R limit (j + count_if F (found F k at) k))
    unfolding in_state halted
    advanced_at = ap₂ (λ z e. record { lent = z; degrees = e }) (go (admits limit k (record_of G limit (halted G R limit j))) refl) counted_again
      where
        sum : ℕ → State
        sum c = halted G R limit (j + c)

        lent_at : State → Lent
        lent_at τ = lent (record_of G limit τ) (filled n E (levels F) τ M)

        go : (b : Bool) → admits limit k (record_of G limit (halted G R limit j)) ≡ b → lent_after (asked_of F k) (found F k at) at.lent ≡ lent_at (sum (count_if F (found F k at) k))
        go true e =
            let f : found F k at ≡ (Ok tt) = found_is ∙ ap (λ b. unless b Refusals.Advance) e in
            let l : j < stop G R limit = running (dec_lt j (stop G R limit)) in
            ap (λ i. lent_after (asked_of F k) i at.lent) f ∙ advanced_lent (min j (stop G R limit)) k
            ∙ ap lent_at ((run_halts G R limit).resumes j k l) ∙ ap (λ i. lent_at (sum (count_if F i k))) (sym f)
          where
            running : Dec (j < stop G R limit) → j < stop G R limit
            running (yes l) = l
            running (no l) =
                let o = and_left (is_open (record_of G limit (halted G R limit j)).standing) _ e in
                let c : ◌≡◌ {A = ℕ} 0 1 = cc (((run_halts G R limit).over j (omega arith)).1, not-true (ends G R limit (halted G R limit j)) (sym (open_is G R limit (halted G R limit j)) ∙ o)) in absurd (omega arith)
        go false e =
            let f : found F k at ≡ Err Refusals.Advance = found_is ∙ ap (λ b. unless b Refusals.Advance) e in
            ap (λ i. lent_after (asked_of F k) i at.lent) f ∙ ap (λ c. lent_at (halted G R limit c)) (sym (add-zero j)) ∙ ap (λ i. lent_at (sum (count_if F i k))) (sym f)

  -- all of a list
  all : (ks : List ℕ) (j : ℕ) → after_all F ks (in_state F M d (halted G R limit j)) ≡ in_state F M d (halted G R limit (j + accepted F ks (in_state F M d (halted G R limit j))))
  unfolding after_all accepted
  all [] j = ap (λ c. in_state F M d (halted G R limit c)) (sym (add-zero j))
  all (k ∷ ks) j =
      let c : ℕ = count_if F (found F k (in_state F M d (halted G R limit j))) k in
      ap (after_all F ks) (advanced_at j k) ∙ all ks (j + c)
      ∙ ap (λ (i : ℕ). in_state F M d (halted G R limit i)) (add_assoc j c (accepted F ks (in_state F M d (halted G R limit (j + c)))))
      ∙ ap (λ z. in_state F M d (halted G R limit (j + (c + accepted F ks z)))) (sym (advanced_at j k))

  begun_at : begun G R ≡ halted G R limit 0
  unfolding onward_by
  begun_at = (run_halts G R limit).begins 0

  halts : (ks : List ℕ) → after_all F ks (in_state F M d (begun G R)) ≡ in_state F M d (halted G R limit (accepted F ks (in_state F M d (begun G R))))
  halts ks = ap (λ σ. after_all F ks (in_state F M d σ)) begun_at ∙ all ks 0
      ∙ ap (λ (i : ℕ). in_state F M d (halted G R limit i)) (zero-add (accepted F ks (in_state F M d (halted G R limit 0))))
      ∙ ap (λ σ. in_state F M d (halted G R limit (accepted F ks (in_state F M d σ)))) (sym begun_at)

  -- by the limit at once
  to_the_end : halted G R limit (0 + count_if F (found F limit (in_state F M d (halted G R limit 0))) limit) ≡ final G R limit
  to_the_end = go (dec_lt 0 (stop G R limit))
    where
      H : (c : ℕ) → stop G R limit ≤ c → halted G R limit c ≡ final G R limit
      H c l = ((run_halts G R limit).over c l).0

      go : Dec (0 < stop G R limit) → halted G R limit (0 + count_if F (found F limit (in_state F M d (halted G R limit 0))) limit) ≡ final G R limit
      go (yes l) =
          let e = ((run_halts G R limit).early 0 l).1 in
          let a : admits limit limit (record_of G limit (halted G R limit 0)) ≡ true = ap₂ (λ x y. x && y) (open_is G R limit (halted G R limit 0) ∙ ap not e) (ap₂ (λ x y. x && y) (lt-ltb (halted G R limit 0).iteration limit (open_below G R limit (halted G R limit 0) e)) (le-leb limit limit (omega arith))) in
          ap (λ i. halted G R limit (0 + count_if F i limit)) (found_is 0 limit ∙ ap (λ b. unless b Refusals.Advance) a) ∙ H (0 + limit) (omega (arith, within))
        where
          within : stop G R limit ≤ limit
          within = (run_stops G R limit).within
      go (no l) = H (0 + count_if F (found F limit (in_state F M d (halted G R limit 0))) limit) (omega arith)

  decodes : after F limit (in_state F M d (begun G R)) ≡ record { lent = lent (reported (report G R limit)) (filled n E (levels F) (final G R limit) M); degrees = counted F d }
  unfolding in_state
  decodes =
      ap (λ σ. after F limit (in_state F M d σ)) begun_at ∙ advanced_at 0 limit ∙ ap (in_state F M d) to_the_end
      ∙ ap (λ r. record { lent = lent r (filled n E (levels F) (final G R limit) M); degrees = counted F d }) (ended_record G R limit)

pub run_pauses : RunPauses
run_pauses F M d h = record { halts = halts F M d h; decodes = decodes F M d h }
