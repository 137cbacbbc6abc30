-- The refusals of a pair in their order, and its answers.
use Rattle.std.specs.Prelude.{Ok, Err, Result}
use Rattle.std.specs.Result.{IsErrAnd, MatchResult}
use Rattle.std.proofs.lemmas.Result.{err_from_is_err_and}
use mathlib.Core.Path.{◌≡◌, refl, sym, ap, ap₂, ◌∙◌, subst}
use mathlib.Core.Bool.{Bool, true, false}
use mathlib.Core.List.{List}
use Prim.Native.Nat.{ℕ, ◌≤◌}
use native.Mathlib.Omega.{arith}
use borrow.Author.Tests.{leb-true}
use lib.Dec.{leb}
use lib.ListN.{length}
use Rattle.rules.specs.Graphs.{Admitted, between}
use Rattle.rules.specs.Sequence.{stop}
use Rattle.refusals.specs.Refusals.{unless}
use Rattle.rules.proofs.Tests.{and_right}
use Rattle.refusals.proofs.Judging.{unless_true}
use Rattle.refusals.specs.declared.Refusal.{Refusal}
use Rattle.refusals.specs.declared.Refusal.TheVariants as Refusals
use Rattle.rules.specs.declared.Report.{Report}
use Rattle.graphs.proofs.Lending.{lent_admitted}
use Rattle.settings.specs.declared.Settings.{Settings}
use Rattle.settings.specs.Settings.{Checked, settings, checked}
use Rattle.steps.specs.Steps.{Degrees}
use Rattle.decoding.specs.declared.Room.{Room}
use Rattle.decoding.specs.Decoding as Decoding
use Rattle.decoding.specs.Decoding.{Memory, room_of, decode_judged, decode_finds}
use Rattle.decoder.specs.Runs.{Long, Ready}
use Rattle.decoding.proofs.Accepting.{checked_refused, checked_good, checked_same}
use Rattle.decoder.proofs.Deciding.{decode_ready, decode_long, decode_degrees}
use Rattle.decoding.specs.declared.Party.{Party}
use Rattle.decoding.specs.declared.Party.TheVariants.{First, Second, Pair}
use Rattle.decoding.specs.Pairing.Pairs.{CheckedPair, Heads, Found, admitted, refused, found_of, allowance_judged, checked_pair, graph_of_both, first_frame, second_frame, pair_finds, pair_answer, first_after, second_after, AcceptsPair, DecodesPair}
use Rattle.decoding.specs.Pairing.Grants.{half_up, half_down}
use Rattle.pairing.specs.Exact.{rules_of, RunsGranted}
use Rattle.decoding.proofs.Pairing.Finding.{found_refused, all_told, first_refused, second_judged, graph_good, second_only}

-- ---- a refusal with whose it is

module _ {T : Type 0} (Q : Refusal → Party × Refusal → Type 0) (r : Result T Refusal) {r' : Result T (Party × Refusal)} where
  pub mapped_ok : MatchResult r (λ x. r' ≡ Ok x) (λ e. IsErrAnd r' (Q e)) → {x : T} → r' ≡ Ok x → r ≡ Ok x
  mapped_ok h {x} e = go r h
    where
      go : (a : Result T Refusal) → MatchResult a (λ x. r' ≡ Ok x) (λ e. IsErrAnd r' (Q e)) → a ≡ Ok x
      go (Ok y) h = let same = sym h ∙ e in cc
      go (Err y) h = let w = err_from_is_err_and r' h in let k = w.1 in let z : ◌≡◌ {A = ℕ} 0 1 = cc in absurd (omega arith)

  pub mapped_err : {p : Party} → ((e : Refusal) (y : Party × Refusal) → Q e y → y ≡ (p, e)) → MatchResult r (λ x. r' ≡ Ok x) (λ e. IsErrAnd r' (Q e)) → {y : Party × Refusal} → r' ≡ Err y
      → (r ≡ Err y.1) × (y ≡ (p, y.1))
  mapped_err {p} says h {y} e = go r h
    where
      go : (a : Result T Refusal) → MatchResult a (λ x. r' ≡ Ok x) (λ e. IsErrAnd r' (Q e)) → (a ≡ Err y.1) × (y ≡ (p, y.1))
      go (Ok x) h = let z : ◌≡◌ {A = ℕ} 0 1 = cc in absurd (omega arith)
      go (Err x) h =
          let w = err_from_is_err_and r' h in
          let k = w.1 in
          let same : w.0 ≡ y = cc in
          let is : y ≡ (p, x) = sym same ∙ says x w.0 w.2 in
          let own : y.1 ≡ x = ap (λ (z : Party × Refusal). z.1) is in
          (ap Err (sym own), is ∙ ap (λ (x : Refusal). (p, x)) (sym own))

-- ---- the answer of `accept`

module _ (P : Heads) (m m' : Room) {d d' : List ℕ} {a : Checked} (first : Decoding.Accepts (first_frame P) m a d d') where
  accepts_as : {f : Found} {r : CheckedPair} → pair_finds P (length d) m m' ≡ f → r ≡ checked_pair f (settings P.first.asked) (settings P.second.asked) → AcceptsPair P m m' d d' r
  accepts_as h q = record { answer = q ∙ ap (λ f. checked_pair f (settings P.first.asked) (settings P.second.asked)) (sym h); degrees = first.degrees }

  pub refused_first : {r : Refusal} → a ≡ Err r → AcceptsPair P m m' d d' (Err (First, r))
  refused_first {r} e =
      accepts_as {f = refused First r} (first_refused P (length d) m m' (checked_refused (decode_finds (first_frame P) (length d) m) (settings P.first.asked) (sym first.answer ∙ e))) refl

  module _ {s : Settings} (e : a ≡ Ok s) where
    good : decode_finds (first_frame P) (length d) m ≡ Ok tt
    good = checked_good (decode_finds (first_frame P) (length d) m) (settings P.first.asked) (sym first.answer ∙ e)

    pub graph_admitted : Admitted (graph_of_both P)
    graph_admitted = lent_admitted (graph_of_both P) (length d) (graph_good P (length d) m m' good)

    module _ {b : Checked} (second : b ≡ checked (decode_judged (second_frame P) (Ok tt) m') (settings P.second.asked)) where
      pub refused_second : {r : Refusal} → b ≡ Err r → AcceptsPair P m m' d d' (Err (Second, r))
      refused_second {r} f =
          accepts_as {f = refused Second r} (second_judged P (length d) m m' good (second_only P (length d) m m' good
          ∙ checked_refused (decode_judged (second_frame P) (Ok tt) m') (settings P.second.asked) (sym second ∙ f))) refl

      module _ {s' : Settings} (f : b ≡ Ok s') {t : Bool} (g : t ≡ between 2 P.allowance 510) where
        judged : pair_finds P (length d) m m' ≡ found_of Pair (unless t Refusals.Allowance) admitted
        judged =
            second_judged P (length d) m m' good (second_only P (length d) m m' good
            ∙ checked_good (decode_judged (second_frame P) (Ok tt) m') (settings P.second.asked) (sym second ∙ f))
            ∙ ap (λ t. found_of Pair (unless t Refusals.Allowance) admitted) (sym g)

        pub refused_pair : t ≡ false → AcceptsPair P m m' d d' (Err (Pair, Refusals.Allowance))
        refused_pair h = accepts_as {f = refused Pair Refusals.Allowance} (judged ∙ ap (λ t. found_of Pair (unless t Refusals.Allowance) admitted) h) refl

        pub accepted_both : t ≡ true → AcceptsPair P m m' d d' (Ok (s, s'))
        accepted_both h = accepts_as {f = admitted} (judged ∙ ap (λ t. found_of Pair (unless t Refusals.Allowance) admitted) h)
            (sym (ap₂ (λ (x y : Settings). Ok (x, y)) (checked_same (decode_finds (first_frame P) (length d) m) (settings P.first.asked) (sym first.answer ∙ e))
            (checked_same (decode_judged (second_frame P) (Ok tt) m') (settings P.second.asked) (sym second ∙ f))))

-- ---- the answers of `decode`, from what `accept` answers

pub found_good : (f : Found) (s s' : Settings) {t t' : Settings} → checked_pair f s s' ≡ Ok (t, t') → (f ≡ admitted) × (s ≡ t) × (s' ≡ t')
found_good admitted s s' {t} {t'} h =
    let both : (s, s') ≡ (t, t') = cc in
    (refl, ap (λ (p : Settings × Settings). p.0) both, ap (λ (p : Settings × Settings). p.1) both)
found_good (refused q x) s s' h = let z : ◌≡◌ {A = ℕ} 0 1 = cc in absurd (omega arith)

module _ (P : Heads) (M N : Memory) {d d' : List ℕ} {a : CheckedPair} (accepts : AcceptsPair P (room_of M) (room_of N) d d' a) where
  abbrev finds : Found
  finds = pair_finds P (length d) (room_of M) (room_of N)

  pub pair_refused : {p : Party} {r : Refusal} → a ≡ Err (p, r) → DecodesPair P M M N N d d' (Err (p, r))
  pair_refused {p} {r} e = record {
    answer = sym (ap (pair_answer P) h);
    first = sym (ap (λ f. first_after P f M) h);
    second = sym (ap (λ f. second_after P f N) h);
    degrees = accepts.degrees;
  }
    where
      h : finds ≡ refused p r
      h = found_refused finds (settings P.first.asked) (settings P.second.asked) (sym accepts.answer ∙ e)

  module _ {s s' : Settings} (e : a ≡ Ok (s, s')) where
    told : (finds ≡ admitted) × (settings P.first.asked ≡ s) × (settings P.second.asked ≡ s')
    told = found_good finds (settings P.first.asked) (settings P.second.asked) (sym accepts.answer ∙ e)

    heads_told : (decode_finds (first_frame P) (length d) (room_of M) ≡ Ok tt) × (decode_finds (second_frame P) (length d) (room_of N) ≡ Ok tt) × (allowance_judged P.allowance ≡ Ok tt)
    heads_told = all_told P (length d) (room_of M) (room_of N) told.0

    first_accepts : Decoding.Accepts (first_frame P) (room_of M) (Ok s) d d'
    first_accepts = record { answer = sym (ap (λ j. checked j (settings P.first.asked)) heads_told.0 ∙ ap Ok told.1); degrees = accepts.degrees }

    second_accepts : Decoding.Accepts (second_frame P) (room_of N) (Ok s') d d'
    second_accepts = record { answer = sym (ap (λ j. checked j (settings P.second.asked)) heads_told.1 ∙ ap Ok told.2); degrees = accepts.degrees }

    -- what the runs ask
    pub both_ready : Ready s (graph_of_both P) P.first.values × Ready s' (graph_of_both P) P.second.values × Degrees (graph_of_both P) d'
    both_ready = (decode_ready (first_frame P) M first_accepts refl, decode_ready (second_frame P) N second_accepts refl, decode_degrees (first_frame P) M first_accepts refl)

    pub both_long : Long (graph_of_both P) M × Long (graph_of_both P) N
    both_long = (decode_long (first_frame P) M first_accepts refl, decode_long (second_frame P) N second_accepts refl)

    pub allowed : P.allowance ≤ 510
    allowed = leb-true P.allowance 510 (and_right (leb 2 P.allowance) (leb P.allowance 510) (unless_true (between 2 P.allowance 510) Refusals.Allowance heads_told.2))

    pub pair_ran : {M' N' : Memory} {r r' : Report}
        → RunsGranted s (graph_of_both P) P.first.values (half_up P.allowance) P.allowance (stop (graph_of_both P) (rules_of s' (graph_of_both P) P.second.values) s'.limit) r M M'
        → RunsGranted s' (graph_of_both P) P.second.values (half_down P.allowance) P.allowance (stop (graph_of_both P) (rules_of s (graph_of_both P) P.first.values) s.limit) r' N N'
        → DecodesPair P M M' N N' d d' (Ok (r, r'))
    pair_ran {M'} {N'} {r} {r'} w w' = record {
      answer = ap₂ (λ (x y : Report). Ok (x, y)) v.report v'.report ∙ sym (ap (pair_answer P) told.0);
      first = v.memory ∙ sym (ap (λ f. first_after P f M) told.0);
      second = v'.memory ∙ sym (ap (λ f. second_after P f N) told.0);
      degrees = accepts.degrees;
    }
      where
        Own : Settings → Settings → Type 0
        Own t t' = RunsGranted t (graph_of_both P) P.first.values (half_up P.allowance) P.allowance (stop (graph_of_both P) (rules_of t' (graph_of_both P) P.second.values) t'.limit) r M M'

        Other : Settings → Settings → Type 0
        Other t t' = RunsGranted t' (graph_of_both P) P.second.values (half_down P.allowance) P.allowance (stop (graph_of_both P) (rules_of t (graph_of_both P) P.first.values) t.limit) r' N N'

        v : Own (settings P.first.asked) (settings P.second.asked)
        v = subst (λ t. Own t (settings P.second.asked)) (sym told.1) (subst (Own s) (sym told.2) w)

        v' : Other (settings P.first.asked) (settings P.second.asked)
        v' = subst (λ t. Other t (settings P.second.asked)) (sym told.1) (subst (Other s) (sym told.2) w')
