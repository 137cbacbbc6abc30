-- A run that pauses: what fits one number, and what the entries promise.
use Rattle.std.specs.Prelude.{Ok, Err}
use mathlib.Core.Path.{◌≡◌, refl, sym, ap, ap₂, ◌∙◌, subst}
use mathlib.Core.Bool.{Bool, true, false, cond}
use mathlib.Core.List.{List}
use Prim.Native.Nat.{ℕ, ◌+◌, ◌*◌, ◌/◌, ◌%◌, ◌≤◌, ◌<◌}
use native.Mathlib.Omega.{arith}
use borrow.Author.Tests.{eq-eqb, ne_eqb, eqb-true, le-leb, leb-true, ltb-true}
use lib.Dec.{eqb, leb, ltb}
use lib.ListN.{length, take}
use Rattle.rules.specs.Levels.{largest}
use Rattle.rules.specs.Graphs.{Graph, limits, Admitted, odd_check, unsatisfied}
use Rattle.rules.specs.Sequence.{bit_at, begun}
use Rattle.refusals.specs.Refusals.{paper, unless, or_else, Judged}
use Rattle.refusals.specs.declared.Refusal.{Refusal}
use Rattle.refusals.specs.declared.Refusal.TheVariants as R
use Rattle.rules.proofs.Ranges.{count_le}
use Rattle.refusals.proofs.Judging.{or_else_left, or_else_right, unless_true, each_from, refused_not}
use Rattle.rules.proofs.Tests.{and_left, and_right}
use Rattle.graphs.specs.Judging.{graph_judged_in}
use Rattle.graphs.proofs.Lending.{lent_admitted}
use Rattle.settings.specs.declared.Scaling.{Scaling}
use Rattle.settings.specs.Settings.{precisions_admitted, options_admitted, lifting_admitted}
use Rattle.settings.proofs.Accepted.{option_bounds}
use Rattle.nodes.specs.Memory.{level_in}
use Rattle.decoding.specs.Decoding.{Frame, Memory, room_of, enough, graph, scheme, decode_finds, decoded}
use Rattle.decoding.proofs.Accepting.{frame_passed, memory_told}
use Rattle.pausing.specs.declared.Run.{Run}
use Rattle.pausing.specs.declared.Standing.{Standing}
use Rattle.pausing.specs.declared.Standing.TheVariants.{Open, Codeword, Stopped}
use Rattle.pausing.specs.Pausing.{Begun, begun_answer, Begins, Lent, lent, Asked, scaled, unscaled_judged, handed, within_judged, refilled, graph_asked, limit_asked, scheme_asked, resume_judged, advance_judged, advance_finds, state_after, lent_after, Advances}
use Rattle.pausing.specs.Records.{is_open, record_of, admits}
use Rattle.pausing.proofs.Pausing.{resumed_within}
use Rattle.interface.specs.Packing.{pack_decoded, place_of, decode_place}
use Rattle.interface.specs.Runs.{standing_number, pack_run, pack_begun, pack_advanced, is_open_number, unpacked, HostBegins, HostAdvances, SmallRun, SmallBegun, SmallAdvanced, RecordsKept, BeginPlaces, AdvancePlaces}
use Rattle.interface.proofs.Places.{places_told}

-- ---- what fits

pub standing_small : (s : Standing) → standing_number s ≤ 2
standing_small Codeword = omega arith
standing_small Stopped = omega arith
standing_small Open = omega arith

odd_small : (G : Graph) → Admitted G → (b : ℕ → Bool) → unsatisfied G b ≤ limits.checks
unfolding unsatisfied
odd_small G ok b = omega (arith, count_le (odd_check G b) 0 G.checks, ok.checks)

pub begun_small : (F : Frame) (M : Memory) (d : ℕ) → SmallBegun (begun_answer F (decode_finds F d (room_of M)))
unfolding begun
begun_small F M d = go (decode_finds F d (room_of M)) refl
  where
    go : (j : Judged) → decode_finds F d (room_of M) ≡ j → SmallBegun (begun_answer F j)
    go (Err r) h = omega arith
    go (Ok _) h =
        let g = graph_judged_in limits (graph F) d in
        (omega arith, odd_small (graph F) (lent_admitted (graph F) d (frame_passed F g (memory_told F g (room_of M) h).0).0) (bit_at (begun (graph F) (scheme F)).bits))

-- the record of a number is small
unpacked_small : (x : ℕ) → SmallRun (unpacked x)
unfolding unpacked is_open_number
unpacked_small x = go (is_open_number x) refl
  where
    go : (b : Bool) → is_open_number x ≡ b → SmallRun (cond b (record { standing = Open; iterations = x / 65536 % 65536; unsatisfied = x / 4294967296 }) (record { standing = Stopped; iterations = 0; unsatisfied = 0 }))
    go false e = (omega arith, omega arith)
    go true e =
        let h = and_right (eqb (x % 65536) 512) _ e in
        let k = and_right (leb (x / 65536 % 65536) 254) _ h in
        (omega (arith, leb-true (x / 65536 % 65536) 254 (and_left (leb (x / 65536 % 65536) 254) _ h)), leb-true (x / 4294967296) limits.checks (and_right (leb 1 (x / 4294967296)) _ k))

-- and so is that of an accepted advance
pub advanced_small : (A : Asked) (x : ℕ) (M : Memory) (d : ℕ) → advance_finds A d (lent (unpacked x) M) ≡ Ok tt → SmallRun (lent_after A (Ok tt) (lent (unpacked x) M)).run
unfolding advance_judged resume_judged
advanced_small A x M d h = go (eqb A.count 0)
  where
    z : Lent
    z = lent (unpacked x) M

    g : Judged
    g = graph_judged_in limits (graph_asked A) d

    rest : unscaled_judged A.settings ≡ Ok tt
    rest = or_else_left (unscaled_judged A.settings) _ (or_else_right g _ h)

    resumable : resume_judged A z ≡ Ok tt
    resumable = or_else_right (unless (enough A.variables (graph_asked A).entries (room_of M)) R.Buffer) _ (or_else_right (unscaled_judged A.settings) _ (or_else_right g _ h))

    low : limit_asked A ≤ 255
    low = (option_bounds (scaled A.settings) (unless_true (options_admitted (scaled A.settings)) R.Option
        (or_else_left (unless (options_admitted (scaled A.settings)) R.Option) _ (or_else_right (unless (precisions_admitted A.settings.channel A.settings.message) R.Precision) _ rest)))).1

    below : (unpacked x).iterations < limit_asked A
    below =
        let a = unless_true (admits (limit_asked A) A.count (unpacked x)) R.Advance (or_else_left (unless (admits (limit_asked A) A.count (unpacked x)) R.Advance) _ resumable) in
        ltb-true (unpacked x).iterations (limit_asked A) (and_left (ltb (unpacked x).iterations (limit_asked A)) _ (and_right (is_open (unpacked x).standing) _ a))

    after : Lent
    after = lent (record_of (graph_asked A) (limit_asked A) (state_after A z)) (refilled A.variables (graph_asked A).entries (state_after A z) M)

    go : (b : Bool) → SmallRun (cond b z after).run
    go true = unpacked_small x
    go false = (
      omega (arith, low, resumed_within (graph_asked A) (scheme_asked A M.levels) (limit_asked A) A.count (handed (unpacked x) (take (graph_asked A).entries M.variable_messages) (take (graph_asked A).entries M.check_messages)) below),
      odd_small (graph_asked A) (lent_admitted (graph_asked A) d (or_else_left g _ h)) (bit_at (state_after A z).bits),
    )

-- ---- the entries

pub host_begins : {F : Frame} {M M' : Memory} {d d' : List ℕ} {x : Begun} {r : ℕ} → Begins F M M' d d' x → r ≡ pack_begun x → HostBegins F M M' d d' r
host_begins w e = record { answer = e ∙ ap pack_begun w.answer; memory = w.memory; degrees = w.degrees }

pub begins_under : (F : Scaling → Frame) {s s' : Scaling} {M M' : Memory} {d d' : List ℕ} {r : ℕ} → s ≡ s' → HostBegins (F s) M M' d d' r → HostBegins (F s') M M' d d' r
begins_under F {s} {s'} {M} {M'} {d} {d'} {r} e w = subst (λ t. HostBegins (F t) M M' d d' r) e w

-- u is the record of the number x
module _ (A : Asked) (x : ℕ) {u : Run} (is : u ≡ unpacked x) {M M' : Memory} {d d' : List ℕ} {p : Run} {j : Judged} (w : Advances A (lent u M) (lent p M') d d' j) where
  same : Advances A (lent (unpacked x) M) (lent p M') d d' j
  same = subst (λ u. Advances A (lent u M) (lent p M') d d' j) is w

  packed_small : j ≡ Ok tt → SmallRun p
  packed_small h =
      let f : advance_finds A (length d) (lent (unpacked x) M) ≡ (Ok tt) = sym same.answer ∙ h in
      subst SmallRun (sym (ap (λ (z : Lent). z.run) (same.lent ∙ ap (λ j. lent_after A j (lent (unpacked x) M)) f))) (advanced_small A x M (length d) f)

  pub advanced_packs : SmallAdvanced j p
  advanced_packs = go j refl
    where
      go : (i : Judged) → j ≡ i → SmallAdvanced i p
      go (Ok _) h = packed_small h
      go (Err r) h = omega arith

  pub host_advances : {r : ℕ} → r ≡ pack_advanced j p → HostAdvances A x M M' d d' r
  host_advances e = record {
    answer = e ∙ ap₂ pack_advanced same.answer (ap (λ (z : Lent). z.run) same.lent);
    memory = ap (λ (z : Lent). z.memory) same.lent;
    degrees = same.degrees;
  }

-- ---- the packing

pub records_kept : RecordsKept
unfolding unpacked is_open_number
records_kept = record {
  numbers = λ x. known x (is_open_number x) refl;
  records = λ r o t k m. kept r.standing r.iterations r.unsatisfied o t k m;
  finished = λ r o. ended r.standing r.iterations r.unsatisfied o;
}
  where
    told : ℕ → Run
    told x = record { standing = Open; iterations = x / 65536 % 65536; unsatisfied = x / 4294967296 }

    over : Run
    over = record { standing = Stopped; iterations = 0; unsatisfied = 0 }

    known : (x : ℕ) (b : Bool) → is_open_number x ≡ b → is_open (cond b (told x) over).standing ≡ true → pack_run (cond b (told x) over) ≡ x
    known x true e o = let upper : x / 65536 ≡ x / 65536 % 65536 + 65536 * (x / 65536 / 65536) = omega arith in let top : x / 65536 / 65536 ≡ x / 4294967296 = omega arith in omega (arith, eqb-true (x % 65536) 512 (and_left (eqb (x % 65536) 512) _ e))
    known x false e o = let z : ◌≡◌ {A = ℕ} 0 1 = cc in absurd (omega arith)

    kept : (s : Standing) (t k : ℕ) → is_open s ≡ true → t ≤ 254 → 1 ≤ k → k ≤ limits.checks
        → unpacked (pack_run (record { standing = s; iterations = t; unsatisfied = k })) ≡ record { standing = s; iterations = t; unsatisfied = k }
    kept Codeword t k o l a b = let z : ◌≡◌ {A = ℕ} 0 1 = cc in absurd (omega arith)
    kept Stopped t k o l a b = let z : ◌≡◌ {A = ℕ} 0 1 = cc in absurd (omega arith)
    kept Open t k o l a b =
        let x : ℕ = 256 * 2 + 65536 * t + 4294967296 * k in
        let low : x % 65536 ≡ 512 = omega arith in
        let upper : x / 65536 ≡ t + 65536 * k = omega arith in
        let number : x / 65536 % 65536 ≡ t = rw upper (omega arith) in
        let odd : x / 4294967296 ≡ k = omega arith in
        rw (eq-eqb (x % 65536) 512 low, number, odd, le-leb t 254 l, le-leb 1 k a, le-leb k limits.checks b) refl

    closed : (x : ℕ) → (x % 65536 ≡ 512 → ⊥) → is_open (unpacked x).standing ≡ false
    closed x n = rw (ne_eqb (x % 65536) 512 n) refl

    ended : (s : Standing) (t k : ℕ) → is_open s ≡ false → is_open (unpacked (pack_run (record { standing = s; iterations = t; unsatisfied = k }))).standing ≡ false
    ended Codeword t k o = closed (256 * 0 + 65536 * t + 4294967296 * k) (λ h. omega arith)
    ended Stopped t k o = closed (256 * 1 + 65536 * t + 4294967296 * k) (λ h. omega arith)
    ended Open t k o = let z : ◌≡◌ {A = ℕ} 0 1 = cc in absurd (omega arith)

-- ---- the companions

pub begin_places : BeginPlaces
begin_places F d m = ap (λ n. decode_place (graph F) F.values d n) (go (decode_finds F d m)) ∙ places_told F d m
  where
    go : (j : Judged) → pack_begun (begun_answer F j) % 256 ≡ pack_decoded (decoded F j) % 256
    go (Err r) = refl
    go (Ok _) = omega arith

-- what is judged after the graph has place 0
module _ (N n : ℕ) (l : List ℕ) where
  within_placeless : (r : Refusal) → within_judged N l n ≡ Err r → (paper r).place ≡ 0
  unfolding within_judged
  within_placeless r e = each_from (λ s. (paper s).place ≡ 0) (λ k. unless (leb (level_in l k).magnitude N) R.Advance) n (λ k s. one s (leb (level_in l k).magnitude N)) r e
    where
      one : (s : Refusal) (b : Bool) → unless b R.Advance ≡ Err s → (paper s).place ≡ 0
      one s true d = absurd (refused_not (sym d))
      one s false d = ap (λ j. place_of j) (sym d)

in_order : (g : Judged) (p o l e a : Bool) (x y z : Judged) → ((r : Refusal) → x ≡ Err r → (paper r).place ≡ 0) → ((r : Refusal) → y ≡ Err r → (paper r).place ≡ 0)
    → ((r : Refusal) → z ≡ Err r → (paper r).place ≡ 0)
    → place_of g ≡ place_of (or_else g (or_else (or_else (unless p R.Precision) (or_else (unless o R.Option) (unless l R.Lifting))) (or_else (unless e R.Buffer) (or_else (unless a R.Advance) (or_else x (or_else y z))))))
in_order (Err r) p o l e a x y z hx hy hz = refl
in_order (Ok _) false o l e a x y z hx hy hz = refl
in_order (Ok _) true false l e a x y z hx hy hz = refl
in_order (Ok _) true true false e a x y z hx hy hz = refl
in_order (Ok _) true true true false a x y z hx hy hz = refl
in_order (Ok _) true true true true false x y z hx hy hz = refl
in_order (Ok _) true true true true true (Err r) y z hx hy hz = sym (hx r refl)
in_order (Ok _) true true true true true (Ok _) (Err r) z hx hy hz = sym (hy r refl)
in_order (Ok _) true true true true true (Ok _) (Ok _) (Err r) hx hy hz = sym (hz r refl)
in_order (Ok _) true true true true true (Ok _) (Ok _) (Ok _) hx hy hz = refl

pub advance_places : AdvancePlaces
unfolding advance_judged resume_judged
advance_places A d z =
    let E = (graph_asked A).entries in
    in_order (graph_judged_in limits (graph_asked A) d) (precisions_admitted A.settings.channel A.settings.message) (options_admitted (scaled A.settings)) (lifting_admitted (scaled A.settings))
    (enough A.variables E (room_of z.memory)) (admits (limit_asked A) A.count z.run) _ _ _
    (within_placeless (largest A.settings.channel) A.variables z.memory.levels) (within_placeless (largest A.settings.message) E z.memory.variable_messages) (within_placeless (largest A.settings.message) E z.memory.check_messages)
