-- What is promised of the two heads.
use Rattle.std.specs.Prelude.{Ok, Err}
use mathlib.Core.Path.{◌≡◌, refl, sym, ap, ◌∙◌}
use mathlib.Core.Bool.{Bool}
use mathlib.Core.List.{List}
use Prim.Native.Nat.{ℕ, ◌+◌, ◌≤◌}
use native.Mathlib.Omega.{arith}
use lib.ListN.{length}
use Rattle.rules.specs.Graphs.{limits, Codeword}
use Rattle.rules.specs.Sequence.{bit_at, final, report}
use Rattle.rules.specs.Symmetry.{Symmetric}
use Rattle.refusals.specs.Refusals.{unless, or_else}
use Rattle.rules.specs.Levels.{largest}
use Rattle.refusals.specs.declared.Refusal.{Refusal}
use Rattle.refusals.specs.declared.Refusal.TheVariants as Refusals
use Rattle.rules.specs.declared.Report.{Report}
use Rattle.rules.proofs.Stops.{run_stops}
use Rattle.graphs.specs.Judging.{graph_judged_in}
use Rattle.settings.specs.Reversal.{Bytes}
use Rattle.decoding.specs.declared.Room.{Room}
use Rattle.decoding.specs.Decoding.{Frame, Memory, room_of, enough, filled, graph, levels, scheme, offsets_of, lifting_of, decode_judged, decode_finds}
use Rattle.decoding.specs.Symmetry.{reversed_by, Accepted}
use Rattle.decoding.proofs.Accepting.{frame_passed, asked_told, limit_small, memory_told}
use Rattle.decoding.proofs.Twinning.{judged_kept, demand3}
use Rattle.decoding.specs.declared.Party.{Party}
use Rattle.decoding.specs.declared.Party.TheVariants.{First, Second, Pair}
use Rattle.decoding.specs.Pairing.Grants.{grant, half_up, half_down}
use Rattle.decoding.specs.Pairing.Pairs.{Heads, alone, report_with, memory_with, head_report, head_memory, Found, admitted, refused, found_of, allowance_judged, first_frame, second_frame, pair_finds, first_report, second_report, pair_answer, first_after, second_after, DecodesPair}
use Rattle.decoding.specs.Pairing.Theorems.{HeadsApart, HeadTurned, ReversedHeads, EnoughForBoth, LargestAllowance}
use Rattle.decoding.proofs.Pairing.Granting.{granted_all}
use Rattle.decoding.proofs.Pairing.Alone.{alone_final, alone_report}
use Rattle.decoding.proofs.Pairing.Finding.{all_told}

-- ---- a head depends on the other only through its count

pub ran_told : (P : Heads) (f : Found) {r r₂ : Report} → Ok (r, r₂) ≡ pair_answer P f → (f ≡ admitted) × (r ≡ first_report P) × (r₂ ≡ second_report P)
ran_told P admitted {r} {r₂} h =
    let both : (r, r₂) ≡ (first_report P, second_report P) = cc in
    (refl, ap (λ (z : Report × Report). z.0) both, ap (λ (z : Report × Report). z.1) both)
ran_told P (refused p x) h = let z : ◌≡◌ {A = ℕ} 0 1 = cc in absurd (omega arith)

pub refused_told : (P : Heads) (f : Found) {p : Party} {r : Refusal} → Err (p, r) ≡ pair_answer P f → f ≡ refused p r
refused_told P admitted h = let z : ◌≡◌ {A = ℕ} 0 1 = cc in absurd (omega arith)
refused_told P (refused q x) {p} {r} h =
    let both : (q, x) ≡ (p, r) = cc in
    ap (λ (z : Party × Refusal). refused z.0 z.1) both

-- what is made of T, the head's own frame and the other's count
agreeing : {A : Type 0} (make : ℕ → Frame → ℕ → A) {T T' : ℕ} {F F' : Frame} {o o' : ℕ} → F' ≡ F → T' ≡ T → o' ≡ o → make T' F' o' ≡ make T F o
agreeing make {T} {T'} {F} {F'} {o} {o'} f t e = ap (λ (k : ℕ). make k F' o') t ∙ ap (λ (x : Frame). make T x o') f ∙ ap (make T F) e

-- what a call that refuses nothing gives
call_told : (P : Heads) (M N : Memory) (d : List ℕ) {M₁ N₁ : Memory} {d₁ : List ℕ} {r r₂ : Report} → DecodesPair P M M₁ N N₁ d d₁ (Ok (r, r₂))
    → (r ≡ first_report P) × (r₂ ≡ second_report P) × (M₁ ≡ first_after P admitted M) × (N₁ ≡ second_after P admitted N)
call_told P M N d w =
    let a = ran_told P (pair_finds P (length d) (room_of M) (room_of N)) w.answer in
    (a.1, a.2, w.first ∙ ap (λ x. first_after P x M) a.0, w.second ∙ ap (λ x. second_after P x N) a.0)

pub heads_apart : HeadsApart
heads_apart = record {
  first = λ P P' M M₁ M₁' N N₁ N' N₁' d d₁ d' d₁' r r₂ r' r₂' w w' f t o.
      let a = call_told P M N d w in
      let a' = call_told P' M N' d' w' in
      (a'.0 ∙ agreeing (λ T F o. head_report (half_up T) T F o) f t o ∙ sym a.0, a'.2 ∙ agreeing (λ T F o. head_memory (half_up T) T F o M) f t o ∙ sym a.2);
  second = λ P P' M M₁ M' M₁' N N₁ N₁' d d₁ d' d₁' r r₂ r' r₂' w w' f t o.
      let a = call_told P M N d w in
      let a' = call_told P' M' N d' w' in
      (a'.1 ∙ agreeing (λ T F o. head_report (half_down T) T F o) f t o ∙ sym a.1, a'.3 ∙ agreeing (λ T F o. head_memory (half_down T) T F o N) f t o ∙ sym a.3);
}

-- ---- values reversed by a codeword

found_kept : (F : Frame) → Bytes F.values → (c : ℕ → Bool) (d : ℕ) (m : Room) → decode_finds (reversed_by c F) d m ≡ decode_finds F d m
unfolding decode_judged
found_kept F bytes c d m = ap (λ j. or_else j (unless (enough F.variables (graph F).entries m) Refusals.Buffer)) (judged_kept F bytes c (graph_judged_in limits (graph F) d))

head_turned : (half half' T : ℕ) (F O : Frame) (c : ℕ → Bool) → Bytes F.values → Accepted F → Codeword (graph F) c → HeadTurned half half' T F O c
unfolding report
head_turned half half' T F O c bytes accepted w = record {
  other_report = ap (head_report half' T O) same;
  other_memory = λ M. ap (λ a. head_memory half' T O a M) same;
  granted = granted;
  report = ap (report_with (reversed_by c F)) granted ∙ (twins.runs w (grant half T (alone F) (alone O))).report;
  bits = λ v u. ap (λ g. bit_at (final (graph F) (scheme (reversed_by c F)) g).bits v) granted ∙ (twins.runs w (grant half T (alone F) (alone O))).bits v u;
  mirrored = twins.exactly.0 w;
}
  where
    twins : Symmetric (graph F) (largest F.asked.message) (offsets_of F) (lifting_of F) c (levels F) (levels (reversed_by c F))
    twins = (demand3 F bytes c).symmetric accepted

    same : alone (reversed_by c F) ≡ alone F
    same = ap (λ (r : Report). r.iterations) (twins.runs w F.asked.limit).report

    granted : grant half T (alone (reversed_by c F)) (alone O) ≡ grant half T (alone F) (alone O)
    granted = ap (λ (a : ℕ). grant half T a (alone O)) same

pub reversed_heads : ReversedHeads
unfolding pair_finds
reversed_heads P c = record {
  first_found = λ bytes d m m'. ap (λ j. found_of First j (found_of Second (decode_finds (second_frame P) d m') (found_of Pair (allowance_judged P.allowance) admitted))) (found_kept (first_frame P) bytes c d m);
  second_found = λ bytes d m m'. ap (λ j. found_of First (decode_finds (first_frame P) d m) (found_of Second j (found_of Pair (allowance_judged P.allowance) admitted))) (found_kept (second_frame P) bytes c d m');
  first = head_turned (half_up P.allowance) (half_down P.allowance) P.allowance (first_frame P) (second_frame P) c;
  second = head_turned (half_down P.allowance) (half_up P.allowance) P.allowance (second_frame P) (first_frame P) c;
}

-- ---- an allowance that is enough for both

module _ (half T : ℕ) (F : Frame) (other : ℕ) (l : alone F + other ≤ T) where
  all_granted : grant half T (alone F) other ≡ alone F
  all_granted = granted_all half T (alone F) other l

  decoded_alone : head_report half T F other ≡ report_with F F.asked.limit
  decoded_alone = ap (report_with F) all_granted ∙ alone_report (graph F) (scheme F) F.asked.limit

  filled_alone : (M : Memory) → head_memory half T F other M ≡ memory_with F F.asked.limit M
  filled_alone M = ap (λ g. memory_with F g M) all_granted ∙ ap (λ σ. filled F.variables (graph F).entries (levels F) σ M) (alone_final (graph F) (scheme F) F.asked.limit)

pub enough_for_both : EnoughForBoth
enough_for_both P l = record {
  first_report = ap Ok (decoded_alone (half_up P.allowance) P.allowance (first_frame P) (alone (second_frame P)) l);
  first_memory = filled_alone (half_up P.allowance) P.allowance (first_frame P) (alone (second_frame P)) l;
  second_report = ap Ok (decoded_alone (half_down P.allowance) P.allowance (second_frame P) (alone (first_frame P)) (omega arith));
  second_memory = filled_alone (half_down P.allowance) P.allowance (second_frame P) (alone (first_frame P)) (omega arith);
}

pub taken_small : (F : Frame) (d : ℕ) (m : Room) → decode_finds F d m ≡ Ok tt → alone F ≤ 255
taken_small F d m h =
    let g = graph_judged_in limits (graph F) d in
    omega (arith, (run_stops (graph F) (scheme F) F.asked.limit).within, limit_small F (asked_told F (frame_passed F g (memory_told F g m h).0).1).1)

pub largest_allowance : LargestAllowance
largest_allowance P d m m' h e =
    let told = all_told P d m m' h in
    enough_for_both P (omega (arith, taken_small (first_frame P) d m told.0, taken_small (second_frame P) d m' told.1))
