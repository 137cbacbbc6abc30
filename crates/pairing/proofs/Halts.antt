-- A frame's run in its memory, halted and carried on, and what it is under its grant.
use Rattle.std.specs.Prelude.{Ok}
use mathlib.Core.Path.{◌≡◌, refl, sym, ap, ◌∙◌, subst}
use mathlib.Core.Bool.{Bool, true, false, not, cond}
use mathlib.Core.List.{List, map}
use Prim.Native.Nat.{ℕ, zero, suc, ◌+◌, ◌-◌, ◌*◌, ◌≤◌, ◌<◌, min}
use native.Mathlib.Decide.{dec_lt}
use native.Mathlib.Nat.{zero-add}
use native.Mathlib.Omega.{arith}
use lib.Dec.{eqb, leb}
use lib.IntN.{pos}
use lib.ListN.{get_or, take, drop, length-map}
use lib.Seq.{drop_at}
use mir.Syntax.{w32}
use mir.Val.{of_z}
use Rattle.rules.specs.Ranges.{one, tabulate}
use Rattle.rules.specs.Levels.{byte, largest}
use Rattle.rules.specs.Graphs.{Graph}
use Rattle.rules.specs.Sequence.{Scheme, State, begun, state, unsatisfied_in, stop, final, report}
use Rattle.rules.specs.Halting.{onward_by, resumed, halted}
use Rattle.rules.specs.declared.Report.{Report}
use Rattle.rules.specs.declared.Verdict.TheVariants as Verdicts
use Rattle.rules.proofs.Own.{largest_within}
use Rattle.rules.proofs.Ranges.{length_tabulate}
use Rattle.rules.proofs.Bounds.{messages_within}
use Rattle.rules.proofs.Simulation.{state_number}
use Rattle.rules.proofs.Halting.{run_halts}
use Rattle.words.specs.Roles.{value_at, sum_table}
use Rattle.words.proofs.Words.{length_table}
use Rattle.settings.specs.declared.Settings.{Settings}
use Rattle.settings.proofs.Magnitudes.{magnitudes_within}
use Rattle.nodes.specs.Memory.{level_in}
use Rattle.steps.specs.Steps.{offsets_in, lifting_in, rules_under}
use Rattle.decoding.specs.Decoding.{Memory, filled}
use Rattle.decoder.specs.Runs.{report_at, levels_under, Long, Ready}
use Rattle.pausing.specs.declared.Run.{Run}
use Rattle.pausing.specs.declared.Standing.TheVariants.{Open, Codeword, Stopped}
use Rattle.pausing.specs.Records.{is_open, record_at, record_of}
use Rattle.pausing.specs.Pausing.{handed, within_judged, refilled}
use Rattle.pausing.specs.Exact.{BeginsInto, AdvancesInto}
use Rattle.pausing.proofs.Carrying.{kept, messages_small, list_lengths, taken_within, open_is, open_below, carried, refilled_is}
use Rattle.decoding.specs.Pairing.Grants.{grant}
use Rattle.pairing.specs.Exact.{rules_of, HaltsAt, left_by, verdict_of, report_of, RunsGranted}
use Rattle.decoding.proofs.Pairing.Alone.{final_at, stop_at}
use Rattle.pairing.proofs.Granting.{beyond, not_beyond}

-- ---- the run halted

module _ (G : Graph) (R : Scheme) (limit : ℕ) where
  abbrev record_at_halt : ℕ → Run
  record_at_halt k = record_of G limit (halted G R limit k)

  number_at : (k : ℕ) → (halted G R limit k).iteration ≡ min k (stop G R limit)
  unfolding halted
  number_at k = state_number G R (min k (stop G R limit))

  same_halt : (j k : ℕ) → min j (stop G R limit) ≡ min k (stop G R limit) → halted G R limit j ≡ halted G R limit k
  unfolding halted
  same_halt j k e = ap (state G R) e

  open_early : (k : ℕ) → is_open (record_at_halt k).standing ≡ true → k < stop G R limit
  open_early k o = go (dec_lt k (stop G R limit))
    where
      go : Dec (k < stop G R limit) → k < stop G R limit
      go (yes l) = l
      go (no l) =
          let c : ◌≡◌ {A = ℕ} 0 1 = cc (o, open_is G R limit (halted G R limit k), ap not ((run_halts G R limit).over k (omega arith)).1) in absurd (omega arith)

  finished_over : (k : ℕ) → is_open (record_at_halt k).standing ≡ false → stop G R limit ≤ k
  finished_over k o = go (dec_lt k (stop G R limit))
    where
      go : Dec (k < stop G R limit) → stop G R limit ≤ k
      go (yes l) =
          let c : ◌≡◌ {A = ℕ} 0 1 = cc (o, open_is G R limit (halted G R limit k), ap not ((run_halts G R limit).early k l).1) in absurd (omega arith)
      go (no l) = omega arith

  below_limit : (k : ℕ) → is_open (record_at_halt k).standing ≡ true → (halted G R limit k).iteration < limit
  below_limit k o = open_below G R limit (halted G R limit k) ((run_halts G R limit).early k (open_early k o)).1

  -- what the other left, halted at its half with the record r
  pub left_is : (half half' T own : ℕ) → half + half' ≡ T → {r : Run} → r ≡ record_at_halt half' → min (half + left_by T half r) own ≡ grant half T own (stop G R limit)
  left_is half half' T own e {r} f = go (is_open r.standing) refl
    where
      number : r.iterations ≡ min half' (stop G R limit)
      number = ap (λ (r : Run). r.iterations) f ∙ number_at half'

      standing : (b : Bool) → is_open r.standing ≡ b → is_open (record_at_halt half').standing ≡ b
      standing b o = ap (λ (r : Run). is_open r.standing) (sym f) ∙ o

      go : (b : Bool) → is_open r.standing ≡ b → min (half + left_by T half r) own ≡ grant half T own (stop G R limit)
      go true o = ap (λ b. min (half + cond b 0 (T - half - r.iterations)) own) o ∙ not_beyond half half' T own (stop G R limit) e (open_early half' (standing true o))
      go false o =
          let l = finished_over half' (standing false o) in
          let n : r.iterations ≡ stop G R limit = omega (arith, number) in
          ap (λ b. min (half + cond b 0 (T - half - r.iterations)) own) o ∙ ap (λ (t : ℕ). min (half + (T - half - t)) own) n ∙ beyond half half' T own (stop G R limit) e l

  -- and what it took fits beside this head's half
  pub left_fits : (half half' T : ℕ) → half + half' ≡ T → {r : Run} → r ≡ record_at_halt half' → half + r.iterations ≤ T
  left_fits half half' T e {r} f = omega (arith, ap (λ (r : Run). r.iterations) f ∙ number_at half')

  -- ---- under a limit g that it does not outlast

  module _ (g : ℕ) (l : g ≤ stop G R limit) where
    -- halted there, it is the run of that limit
    pub halted_final : (k : ℕ) → min k (stop G R limit) ≡ g → halted G R limit k ≡ final G R g
    unfolding halted
    halted_final k e = ap (state G R) e ∙ sym (final_at G R limit g l)

    pub halted_report : (k : ℕ) → min k (stop G R limit) ≡ g → report_of (record_at_halt k) ≡ report G R g
    unfolding report unsatisfied_in
    halted_report k e =
        ap (λ (σ : State). report_of (record_of G limit σ)) (halted_final k e ∙ final_at G R limit g l) ∙ ap (λ (t : ℕ). report_of (record_at limit t (unsatisfied_in G R g))) (state_number G R g)
        ∙ ap (λ v. record { verdict = v; iterations = g; unsatisfied = unsatisfied_in G R g }) (says (eqb (unsatisfied_in G R g) 0) (leb limit g))
        ∙ sym (ap (λ (t : ℕ). report_at t (unsatisfied_in G R t)) (stop_at G R limit g l))
      where
        says : (a b : Bool) → verdict_of (cond a Codeword (cond b Stopped Open)) ≡ cond a Verdicts.Codeword Verdicts.Stopped
        says true b = refl
        says false true = refl
        says false false = refl

-- ---- in memory

module _ {s : Settings} (G : Graph) (values : List ℕ) (ready : Ready s G values) where
  abbrev R : Scheme
  R = rules_of s G values

  abbrev limit : ℕ
  limit = s.limit

  small : largest s.message < 128
  small = omega (arith, largest_within s.message (omega (arith, ready.settings.message, ready.settings.channel)))

  low : (v : ℕ) → v < G.variables → (levels_under s values v).magnitude < 128
  low v _ = omega (arith, magnitudes_within (largest s.channel) s.factor (value_at values v), largest_within s.channel ready.settings.channel.1)

  abbrev at : ℕ → State
  at k = state G R (min k (stop G R limit))

  -- what fills the memory a second time hides the first
  filled_over : (k : ℕ) (τ : State) (M : Memory)
      → filled G.variables G.entries (levels_under s values) τ (filled G.variables G.entries (levels_under s values) (halted G R limit k) M) ≡ filled G.variables G.entries (levels_under s values) τ M
  unfolding halted
  filled_over k τ M = let t : ℕ = min k (stop G R limit) in let σ = state G R t in rw (
    drop_at (tabulate (λ v. byte (levels_under s values v)) G.variables) (drop G.variables M.levels) G.variables (length_tabulate (λ v. byte (levels_under s values v)) G.variables),
    drop_at (map byte σ.variable_messages) (drop G.entries M.variable_messages) G.entries (simp length-map (list_lengths G R t).0),
    drop_at (map byte σ.check_messages) (drop G.entries M.check_messages) G.entries (simp length-map (list_lengths G R t).1),
    drop_at (sum_table (λ v. get_or σ.sums v (pos 0)) G.variables) (drop (4 * G.variables) M.sums) (4 * G.variables) (length_table 4 (λ v. of_z w32 (get_or σ.sums v (pos 0))) G.variables),
    drop_at (map one σ.bits) (drop G.variables M.bits) G.variables (simp length-map (list_lengths G R t).2),
  ) refl

  halts_as : (j k : ℕ) {r : Run} {M M' : Memory} → halted G R limit j ≡ halted G R limit k → HaltsAt s G values j r M M' → HaltsAt s G values k r M M'
  halts_as j k {r} {M} {M'} e w = record {
    run = w.run ∙ ap (record_of G limit) e;
    memory = w.memory ∙ ap (λ σ. filled G.variables G.entries (levels_under s values) σ M) e;
  }

  -- begun
  pub begun_halts : {r : Run} {M M' : Memory} → BeginsInto s G values r M M' → HaltsAt s G values 0 r M M'
  unfolding onward_by
  begun_halts {r} {M} {M'} w = record {
    run = w.run ∙ ap (record_of G limit) begins;
    memory = w.memory ∙ ap (λ σ. filled G.variables G.entries (levels_under s values) σ M) begins;
  }
    where
      begins : begun G R ≡ halted G R limit 0
      begins = (run_halts G R limit).begins 0

  -- the record says where it is halted, and the memory holds that
  pub halts_here : (k : ℕ) {r : Run} {M M' : Memory} → HaltsAt s G values k r M M' → HaltsAt s G values r.iterations r M' M'
  halts_here k {r} {M} {M'} w = record {
    run = w.run ∙ ap (record_of G limit) here;
    memory = sym (ap (filled G.variables G.entries (levels_under s values) (halted G R limit r.iterations)) w.memory
        ∙ filled_over k (halted G R limit r.iterations) M ∙ ap (λ σ. filled G.variables G.entries (levels_under s values) σ M) (sym here) ∙ sym w.memory);
  }
    where
      here : halted G R limit k ≡ halted G R limit r.iterations
      here = same_halt G R limit k r.iterations (omega (arith, ap (λ (r : Run). r.iterations) w.run ∙ number_at G R limit k))

  -- carried on from there
  pub halts_on : (k m : ℕ) {r r' : Run} {M M' M'' : Memory} → HaltsAt s G values k r M M' → HaltsAt s G values (r.iterations + m) r' M' M'' → HaltsAt s G values (k + m) r' M M''
  halts_on k m {r} {r'} {M} {M'} {M''} w w' = halts_as (r.iterations + m) (k + m)
      (same_halt G R limit (r.iterations + m) (k + m) (omega (arith, ap (λ (r : Run). r.iterations) w.run ∙ number_at G R limit k))) (record {
        run = w'.run;
        memory = w'.memory ∙ ap (filled G.variables G.entries (levels_under s values) (halted G R limit (r.iterations + m))) w.memory ∙ filled_over k (halted G R limit (r.iterations + m)) M;
      })

  -- and from the beginning
  pub halts_begun : (m : ℕ) {r r' : Run} {M M' M'' : Memory} → BeginsInto s G values r M M' → HaltsAt s G values (r.iterations + m) r' M' M'' → HaltsAt s G values m r' M M''
  halts_begun m w w' = halts_as (0 + m) m (ap (halted G R limit) (zero-add m)) (halts_on 0 m (begun_halts w) w')

  -- the memory is as long as it was
  pub halts_long : (k : ℕ) {r : Run} {M M' : Memory} → HaltsAt s G values k r M M' → Long G M → Long G M'
  unfolding halted
  halts_long k {r} {M} {M'} w l = subst (Long G) (sym w.memory) (record {
    levels = omega (arith, l.levels, kept (tabulate (λ v. byte (levels_under s values v)) G.variables) M.levels G.variables (length_tabulate (λ v. byte (levels_under s values v)) G.variables) l.levels);
    variable_messages = omega (arith, l.variable_messages, kept (map byte (at k).variable_messages) M.variable_messages G.entries (simp length-map (list_lengths G R (min k (stop G R limit))).0) l.variable_messages);
    check_messages = omega (arith, l.check_messages, kept (map byte (at k).check_messages) M.check_messages G.entries (simp length-map (list_lengths G R (min k (stop G R limit))).1) l.check_messages);
    sums = omega (arith, l.sums, kept (sum_table (λ v. get_or (at k).sums v (pos 0)) G.variables) M.sums (4 * G.variables) (length_table 4 (λ v. of_z w32 (get_or (at k).sums v (pos 0))) G.variables) l.sums);
    bits = omega (arith, l.bits, kept (map one (at k).bits) M.bits G.variables (simp length-map (list_lengths G R (min k (stop G R limit))).2) l.bits);
  })

  -- ---- what going further does

  module _ (p : Run) (M : Memory) (w : HaltsAt s G values p.iterations p M M) where
    pub stays_finished : (m : ℕ) → is_open p.standing ≡ false → HaltsAt s G values (p.iterations + m) p M M
    stays_finished m o = halts_as p.iterations (p.iterations + m)
        (same_halt G R limit p.iterations (p.iterations + m) (omega (arith, finished_over G R limit p.iterations (ap (λ (r : Run). is_open r.standing) (sym w.run) ∙ o)))) w

    pub stays_none : (m : ℕ) → m ≡ 0 → HaltsAt s G values (p.iterations + m) p M M
    stays_none m e = halts_as p.iterations (p.iterations + m) (same_halt G R limit p.iterations (p.iterations + m) (omega arith)) w

    opened : is_open p.standing ≡ true → is_open (record_at_halt G R limit p.iterations).standing ≡ true
    opened o = ap (λ (r : Run). is_open r.standing) (sym w.run) ∙ o

    pub room_to_advance : is_open p.standing ≡ true → p.iterations < limit
    room_to_advance o = omega (arith, ap (λ (r : Run). r.iterations) w.run, below_limit G R limit p.iterations (opened o))

    abbrev t : ℕ
    t = min p.iterations (stop G R limit)

    pub variable_within : within_judged (largest s.message) M.variable_messages G.entries ≡ Ok tt
    unfolding halted
    variable_within = ap (λ (X : Memory). within_judged (largest s.message) X.variable_messages G.entries) w.memory
        ∙ messages_small (largest s.message) small (state G R t).variable_messages G.entries (drop G.entries M.variable_messages) (list_lengths G R t).0
        (taken_within G ready.admitted (largest s.message) (offsets_in s) (lifting_in s) (levels_under s values) t)

    pub check_within_lem : within_judged (largest s.message) M.check_messages G.entries ≡ Ok tt
    unfolding halted
    check_within_lem = ap (λ (X : Memory). within_judged (largest s.message) X.check_messages G.entries) w.memory
        ∙ messages_small (largest s.message) small (state G R t).check_messages G.entries (drop G.entries M.check_messages) (list_lengths G R t).1
        (λ e u. (messages_within G ready.admitted (largest s.message) (offsets_in s) (lifting_in s) (levels_under s values) t e u).1)

    pub advances : (m : ℕ) → 1 ≤ m → is_open p.standing ≡ true → {r : Run} {M' : Memory}
        → AdvancesInto G (rules_under s G (level_in (take G.variables M.levels))) limit m (handed p (take G.entries M.variable_messages) (take G.entries M.check_messages)) r M M'
        → HaltsAt s G values (p.iterations + m) r M M'
    unfolding halted
    advances zero l o a = absurd (omega arith)
    advances (suc m) l o {r} {M'} a = record {
      run = b.run ∙ ap (record_of G limit) to;
      memory = b.memory ∙ ap (λ σ. refilled G.variables G.entries σ held) to
          ∙ refilled_is G ready.admitted (largest s.message) small (offsets_in s) (lifting_in s) (levels_under s values) low M t (halted G R limit (p.iterations + suc m));
    }
      where
        held : Memory
        held = filled G.variables G.entries (levels_under s values) (state G R t) M

        b : AdvancesInto G (rules_under s G (level_in (take G.variables held.levels))) limit (suc m) (handed p (take G.entries held.variable_messages) (take G.entries held.check_messages)) r held M'
        b = subst (λ (X : Memory). AdvancesInto G (rules_under s G (level_in (take G.variables X.levels))) limit (suc m) (handed p (take G.entries X.variable_messages) (take G.entries X.check_messages)) r X M') w.memory a

        to : resumed G (rules_under s G (level_in (take G.variables held.levels))) limit (suc m) (handed p (take G.entries held.variable_messages) (take G.entries held.check_messages))
            ≡ halted G R limit (p.iterations + suc m)
        to =
            carried G ready.admitted (largest s.message) small (offsets_in s) (lifting_in s) (levels_under s values) low M t limit m p (ap (λ (r : Run). r.iterations) w.run)
            ∙ (run_halts G R limit).resumes p.iterations (suc m) (open_early G R limit p.iterations (opened o))

  -- ---- under its grant

  pub runs_granted : (half T other k : ℕ) {r : Run} {ρ : Report} {M M' : Memory} → min k (stop G R limit) ≡ grant half T (stop G R limit) other → HaltsAt s G values k r M M' → ρ ≡ report_of r
      → RunsGranted s G values half T other ρ M M'
  runs_granted half T other k {r} {ρ} {M} {M'} e w f = record {
    report = f ∙ ap report_of w.run ∙ halted_report G R limit g l k e;
    memory = w.memory ∙ ap (λ σ. filled G.variables G.entries (levels_under s values) σ M) (halted_final G R limit g l k e);
  }
    where
      g : ℕ
      g = grant half T (stop G R limit) other

      l : g ≤ stop G R limit
      l = omega arith
