-- The answers of the entry for two heads, and the place that its companion gives.
use Rattle.std.specs.Prelude.{Ok, Err}
use mathlib.Core.Path.{◌≡◌, refl, sym, ap, ap₂, ◌∙◌, subst}
use mathlib.Core.Bool.{Bool, true, false, cond}
use mathlib.Core.List.{List, ◌++◌}
use Prim.Native.Nat.{ℕ, ◌+◌, ◌/◌, ◌%◌, ◌≤◌, ◌<◌}
use native.Mathlib.Numerals.{add-four}
use native.Mathlib.Omega.{arith}
use borrow.Author.Tests.{eq-eqb, le-leb, lt-leb}
use lib.Dec.{eqb, leb}
use lib.ListN.{length, take, drop}
use lib.Seq.{take_at, drop_at, drop-drop}
use Rattle.rules.specs.Graphs as Graphs
use Rattle.rules.specs.Graphs.{limits, between}
use Rattle.rules.specs.Sequence.{stop, report}
use Rattle.refusals.specs.Refusals.{paper, unless, Judged}
use Rattle.refusals.specs.declared.Refusal.{Refusal}
use Rattle.refusals.specs.declared.Refusal.TheVariants as Refusals
use Rattle.rules.specs.declared.Report.{Report}
use Rattle.rules.proofs.Stops.{run_stops}
use Rattle.words.specs.Words.{stored, bytes}
use Rattle.words.proofs.Words.{length_bytes, length_stored, stored_is}
use Rattle.graphs.specs.Judging.{graph_judged_in}
use Rattle.graphs.proofs.Lending.{lent_admitted}
use Rattle.settings.specs.declared.Scaling.{Scaling}
use Rattle.decoding.specs.declared.Room.{Room}
use Rattle.decoding.specs.Decoding.{Frame, Memory, room_of, graph, scheme, decode_finds, decoded}
use Rattle.decoding.proofs.Accepting.{frame_passed, asked_told, memory_told}
use Rattle.decoding.specs.declared.Party.{Party}
use Rattle.decoding.specs.declared.Party.TheVariants.{First, Second, Pair}
use Rattle.decoding.specs.Pairing.Pairs.{Paired, CheckedPair, Heads, alone, report_with, Found, admitted, refused, found_of, allowance_judged, graph_of_both, first_frame, second_frame, pair_finds, first_report, second_report, AcceptsPair, DecodesPair}
use Rattle.decoding.specs.Pairing.Grants.{grant, half_up, half_down}
use Rattle.decoding.proofs.Pairing.Finding.{all_told, found_refused}
use Rattle.decoding.proofs.Pairing.Promises.{ran_told, refused_told, taken_small}
use Rattle.settings.specs.Settings.{settings}
use Rattle.interface.specs.Packing.{Small, pack_decoded, number_of, place_of, places_judged, decode_place, TellsPlace}
use Rattle.interface.specs.Pairs.{party_number, pack_refused, pack_found, or_then, entry_finds, reports_after, Reported, HostDecodesPair, ReportsPair, RefusesShort, found_place, PairPlaces}
use Rattle.interface.proofs.Smallness.{unsatisfied_small}
use Rattle.interface.proofs.Places.{none_placed, number_small, places_told}

-- ---- the list of reports

-- eight bytes are four and four
pub stored_both : (b : List ℕ) (k x : ℕ) → stored 4 (stored 4 b k (x % 4294967296)) (k + 4) (x / 4294967296) ≡ stored 8 b k x
unfolding stored
stored_both b k x = rw (first, second, third, fourth, rest, add-four k)
  where
    first : x % 4294967296 % 256 ≡ x % 256
    first = omega arith

    second : x % 4294967296 / 256 % 256 ≡ x / 256 % 256
    second = omega arith

    third : x % 4294967296 / 256 / 256 % 256 ≡ x / 256 / 256 % 256
    third = omega arith

    fourth : x % 4294967296 / 256 / 256 / 256 % 256 ≡ x / 256 / 256 / 256 % 256
    fourth = omega arith

    rest : x / 4294967296 ≡ x / 256 / 256 / 256 / 256
    rest = omega arith

pub two_numbers : (l : List ℕ) (x y : ℕ) → 16 ≤ length l → stored 8 (stored 8 l 0 x) 8 y ≡ bytes 8 x ++ (bytes 8 y ++ drop 16 l)
two_numbers l x y h =
    stored_is 8 (stored 8 l 0 x) 8 y (omega (arith, length_stored 8 l 0 x)) ∙ ap (λ b. take 8 b ++ (bytes 8 y ++ drop 16 b)) (stored_is 8 l 0 x (omega arith))
    ∙ ap₂ (λ a b. a ++ (bytes 8 y ++ b)) (take_at (bytes 8 x) (drop 8 l) 8 (length_bytes 8 x)) (sym (drop-drop 8 8 (bytes 8 x ++ drop 8 l)) ∙ ap (drop 8) (drop_at (bytes 8 x) (drop 8 l) 8 (length_bytes 8 x)) ∙ drop-drop 8 8 l)

-- ---- numbers that fit their places

report_small : (F : Frame) (g : ℕ) → Graphs.Admitted (graph F) → g ≤ 255 → Small (Ok (report_with F g))
unfolding report
report_small F g ok l = (omega (arith, (run_stops (graph F) (scheme F) g).within), unsatisfied_small F (stop (graph F) (scheme F) g) ok)

pub both_small : (P : Heads) (M N : Memory) (d : List ℕ) {M' N' : Memory} {d' : List ℕ} {r r₂ : Report} → DecodesPair P M M' N N' d d' (Ok (r, r₂)) → Small (Ok r) × Small (Ok r₂)
both_small P M N d {r = r} {r₂ = r₂} w = (
  subst (λ (x : Report). Small (Ok x)) (sym ran.1) (report_small (first_frame P) (grant (half_up T) T a b) ok (omega (arith, la))),
  subst (λ (x : Report). Small (Ok x)) (sym ran.2) (report_small (second_frame P) (grant (half_down T) T b a) ok (omega (arith, lb))),
)
  where
    T : ℕ
    T = P.allowance

    a : ℕ
    a = alone (first_frame P)

    b : ℕ
    b = alone (second_frame P)

    ran : (pair_finds P (length d) (room_of M) (room_of N) ≡ admitted) × (r ≡ first_report P) × (r₂ ≡ second_report P)
    ran = ran_told P (pair_finds P (length d) (room_of M) (room_of N)) w.answer

    told : (decode_finds (first_frame P) (length d) (room_of M) ≡ Ok tt) × (decode_finds (second_frame P) (length d) (room_of N) ≡ Ok tt) × (allowance_judged P.allowance ≡ Ok tt)
    told = all_told P (length d) (room_of M) (room_of N) ran.0

    ok : Graphs.Admitted (graph_of_both P)
    ok = let g = graph_judged_in limits (graph_of_both P) (length d) in lent_admitted (graph_of_both P) (length d) (frame_passed (first_frame P) g (memory_told (first_frame P) g (room_of M) told.0).0).0

    la : a ≤ 255
    la = taken_small (first_frame P) (length d) (room_of M) told.0

    lb : b ≤ 255
    lb = taken_small (second_frame P) (length d) (room_of N) told.1

-- ---- the parts of the entry

pub party_small : (p : Party) → party_number p ≤ 2
party_small First = omega arith
party_small Second = omega arith
party_small Pair = omega arith

-- once the answer is known
pub as_answer : {P : Heads} {M M' N N' : Memory} {d d' : List ℕ} {x y : Paired} → x ≡ y → DecodesPair P M M' N N' d d' x → DecodesPair P M M' N N' d d' y
as_answer {P} {M} {M'} {N} {N'} {d} {d'} e w = subst (DecodesPair P M M' N N' d d') e w

pub short_refused : (P : Heads) (m m' : Room) {d d' : List ℕ} {a : CheckedPair} {p : Party} {r : Refusal} {x : ℕ} → AcceptsPair P m m' d d' a → a ≡ Err (p, r) → x ≡ pack_refused p r
    → RefusesShort P m m' d d' x
short_refused P m m' {d} w e q = record {
  answer = q ∙ sym (ap (λ f. pack_found (or_then f (refused Pair Refusals.Buffer))) (found_refused (pair_finds P (length d) m m') (settings P.first.asked) (settings P.second.asked) (sym w.answer ∙ e)));
  degrees = w.degrees;
}

pub short_good : (P : Heads) (m m' : Room) {d d' : List ℕ} {a : CheckedPair} {x : ℕ} → AcceptsPair P m m' d d' a → pair_finds P (length d) m m' ≡ admitted → x ≡ pack_refused Pair Refusals.Buffer
    → RefusesShort P m m' d d' x
short_good P m m' w e q = record { answer = q ∙ sym (ap (λ f. pack_found (or_then f (refused Pair Refusals.Buffer))) e); degrees = w.degrees }

module _ (P : Heads) (M N : Memory) (d l : List ℕ) where
  abbrev finds : Found
  finds = pair_finds P (length d) (room_of M) (room_of N)

  pub reported_refused : {M' N' : Memory} {d' : List ℕ} {p : Party} {r : Refusal} {x : ℕ} → DecodesPair P M M' N N' d d' (Err (p, r)) → x ≡ pack_refused p r
      → ReportsPair P M M' N N' d d' l l x
  reported_refused w q =
      let h = refused_told P finds w.answer in
      record { answer = q ∙ sym (ap pack_found h); first = w.first; second = w.second; reports = sym (ap (λ f. reports_after P f l) h); degrees = w.degrees }

  pub reported_ran : {M' N' : Memory} {d' l' : List ℕ} {r r₂ : Report} → DecodesPair P M M' N N' d d' (Ok (r, r₂)) → l' ≡ bytes 8 (pack_decoded (Ok r)) ++ (bytes 8 (pack_decoded (Ok r₂)) ++ drop 16 l)
      → ReportsPair P M M' N N' d d' l l' 0
  reported_ran w q =
      let h = ran_told P finds w.answer in
      record {
        answer = sym (ap pack_found h.0);
        first = w.first;
        second = w.second;
        reports = q ∙ ap₂ (λ (a b : Report). bytes 8 (pack_decoded (Ok a)) ++ (bytes 8 (pack_decoded (Ok b)) ++ drop 16 l)) h.1 h.2 ∙ sym (ap (λ f. reports_after P f l) h.0);
        degrees = w.degrees;
      }

  -- the whole of it
  then_none : (f : Found) → or_then f admitted ≡ f
  then_none admitted = refl
  then_none (refused p r) = refl

  pub entry_long : {M' N' : Memory} {d' l' : List ℕ} {r : ℕ} → 16 ≤ length l → ReportsPair P M M' N N' d d' l l' r → HostDecodesPair P M M' N N' d d' l l' r
  unfolding entry_finds
  entry_long {M'} {N'} {d'} {l'} {r} h w = subst (λ f. Reported P f M M' N N' d d' l l' r)
      (sym (ap (λ b. or_then finds (found_of Pair (unless b Refusals.Buffer) admitted)) (le-leb 16 (length l) h) ∙ then_none finds)) w

  pub entry_short : {d' : List ℕ} {r : ℕ} → length l < 16 → RefusesShort P (room_of M) (room_of N) d d' r → HostDecodesPair P M M N N d d' l l r
  unfolding entry_finds
  entry_short {d'} {r} h w = subst (λ f. Reported P f M M N N d d' l l r)
      (sym (ap (λ b. or_then finds (found_of Pair (unless b Refusals.Buffer) admitted)) (lt-leb 16 (length l) h))) (go finds w.answer)
    where
      go : (f : Found) → r ≡ pack_found (or_then f (refused Pair Refusals.Buffer)) → Reported P (or_then f (refused Pair Refusals.Buffer)) M M N N d d' l l r
      go admitted e = record { answer = e; first = refl; second = refl; reports = refl; degrees = w.degrees }
      go (refused p x) e = record { answer = e; first = refl; second = refl; reports = refl; degrees = w.degrees }

-- under the scalings of the kinds
pub pair_under : (P : Scaling → Scaling → Heads) {s s' t t' : Scaling} {M M' N N' : Memory} {d d' l l' : List ℕ} {r : ℕ} → s ≡ s' → t ≡ t'
    → HostDecodesPair (P s t) M M' N N' d d' l l' r → HostDecodesPair (P s' t') M M' N N' d d' l l' r
pair_under P {s} {s'} {t} {t'} {M} {M'} {N} {N'} {d} {d'} {l} {l'} {r} e f w =
    subst (λ x. HostDecodesPair (P s' x) M M' N N' d d' l l' r) f (subst (λ x. HostDecodesPair (P x t) M M' N N' d d' l l' r) e w)

-- ---- the companion

pub place_as : {G : Graphs.Graph} {x y : ℕ} {old now : List ℕ} {r : ℕ} → x ≡ y → TellsPlace G x old now r → TellsPlace G y old now r
place_as {G} {x} {y} {old} {now} {r} e w = subst (λ (k : ℕ). TellsPlace G k old now r) e w

number_below : (r : Refusal) → (paper r).number < 256
number_below r = omega (arith, number_small r)

head_of : (p : Party) (r : Refusal) → pack_refused p r / 256 % 256 ≡ party_number p
head_of First r = omega (arith, number_below r)
head_of Second r = omega (arith, number_below r)
head_of Pair r = omega (arith, number_below r)

number_of_lem : (p : Party) (r : Refusal) → pack_refused p r % 256 ≡ (paper r).number
number_of_lem First r = omega (arith, number_below r)
number_of_lem Second r = omega (arith, number_below r)
number_of_lem Pair r = omega (arith, number_below r)

module _ (F : Frame) (d : ℕ) (m : Room) where
  -- a refusal has its place
  refused_placed : {r : Refusal} → decode_finds F d m ≡ Err r → decode_place (graph F) F.values d (paper r).number ≡ (paper r).place
  refused_placed {r} h =
      ap (decode_place (graph F) F.values d) (sym (number_small r)) ∙ ap (λ j. decode_place (graph F) F.values d (number_of j % 256)) (sym h)
      ∙ same ∙ places_told F d m ∙ ap place_of h
    where
      same : decode_place (graph F) F.values d (number_of (decode_finds F d m) % 256) ≡ decode_place (graph F) F.values d (pack_decoded (decoded F (decode_finds F d m)) % 256)
      same = rw h refl

  -- and where nothing is refused there is none, whatever number is asked for
  none_refused : decode_finds F d m ≡ Ok tt → (x : ℕ) → decode_place (graph F) F.values d x ≡ 0
  none_refused h x = rw none (none_placed (eqb 0 x))
    where
      g : Judged
      g = graph_judged_in limits (graph F) d

      none : places_judged (graph F) F.values d ≡ Ok tt
      none =
          let passed = frame_passed F g (memory_told F g m h).0 in
          let asked = asked_told F passed.1 in
          rw (passed.0, eq-eqb (length F.values / 4) F.variables asked.0, asked.2) refl

pub pair_places : PairPlaces
unfolding entry_finds pair_finds
pair_places P d m m' k = go (decode_finds (first_frame P) d m) refl (decode_finds (second_frame P) d m') refl
  where
    placed : (x : ℕ) → ℕ
    placed x = decode_place (graph_of_both P) (cond (eqb (x / 256 % 256) 2) P.second.values P.first.values) d (x % 256)

    last : Found
    last = or_then (found_of Pair (allowance_judged P.allowance) admitted) (found_of Pair (unless (leb 16 k) Refusals.Buffer) admitted)

    -- neither head's
    none : decode_finds (first_frame P) d m ≡ Ok tt → (r : Refusal) → (paper r).place ≡ 0 → placed (pack_refused Pair r) ≡ (paper r).place
    none h r e = ap (λ y. decode_place (graph_of_both P) (cond (eqb y 2) P.second.values P.first.values) d (pack_refused Pair r % 256)) (head_of Pair r) ∙ none_refused (first_frame P) d m h (pack_refused Pair r % 256) ∙ sym e

    after : decode_finds (first_frame P) d m ≡ Ok tt → (f : Found) → ((p : Party) (r : Refusal) → f ≡ refused p r → (p ≡ Pair) × ((paper r).place ≡ 0)) → placed (pack_found f) ≡ found_place f
    after h admitted q = none_refused (first_frame P) d m h 0
    after h (refused p r) q = let s = q p r refl in ap (λ (p : Party). placed (pack_refused p r)) s.0 ∙ none h r s.1

    of_last : (a b : Bool) (p : Party) (r : Refusal) → or_then (found_of Pair (unless a Refusals.Allowance) admitted) (found_of Pair (unless b Refusals.Buffer) admitted) ≡ refused p r → (p ≡ Pair) × ((paper r).place ≡ 0)
    of_last true true p r e = let z : ◌≡◌ {A = ℕ} 0 1 = cc in absurd (omega arith)
    of_last true false p r e = let q : Refusals.Buffer ≡ r = cc in (cc, sym (ap (λ (x : Refusal). (paper x).place) q))
    of_last false b p r e = let q : Refusals.Allowance ≡ r = cc in (cc, sym (ap (λ (x : Refusal). (paper x).place) q))

    go : (j : Judged) → decode_finds (first_frame P) d m ≡ j → (j' : Judged) → decode_finds (second_frame P) d m' ≡ j'
        → placed (pack_found (or_then (found_of First j (found_of Second j' (found_of Pair (allowance_judged P.allowance) admitted))) (found_of Pair (unless (leb 16 k) Refusals.Buffer) admitted)))
        ≡ found_place (or_then (found_of First j (found_of Second j' (found_of Pair (allowance_judged P.allowance) admitted))) (found_of Pair (unless (leb 16 k) Refusals.Buffer) admitted))
    go (Err r) h j' h' =
        ap₂ (λ y n. decode_place (graph_of_both P) (cond (eqb y 2) P.second.values P.first.values) d n) (head_of First r) (number_of_lem First r) ∙ refused_placed (first_frame P) d m h
    go (Ok _) h (Err r) h' =
        ap₂ (λ y n. decode_place (graph_of_both P) (cond (eqb y 2) P.second.values P.first.values) d n) (head_of Second r) (number_of_lem Second r) ∙ refused_placed (second_frame P) d m' h'
    go (Ok _) h (Ok _) h' = after h last (of_last (between 2 P.allowance 510) (leb 16 k))
