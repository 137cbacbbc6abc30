-- The answers of decode, from what `accept` answers.
use Rattle.std.specs.Prelude.{Ok, Err}
use mathlib.Core.Path.{◌≡◌, sym, ap, ◌∙◌, subst}
use mathlib.Core.Bool.{true}
use mathlib.Core.List.{List}
use Prim.Native.Nat.{ℕ}
use lib.ListN.{length}
use Rattle.rules.specs.Graphs.{limits}
use Rattle.refusals.specs.Refusals.{Judged}
use Rattle.refusals.specs.declared.Refusal.{Refusal}
use Rattle.rules.specs.declared.Report.{Report}
use Rattle.graphs.specs.Judging.{graph_judged_in}
use Rattle.graphs.proofs.Lending.{lent_admitted, lent_counted}
use Rattle.settings.specs.declared.Settings.{Settings}
use Rattle.settings.specs.Settings.{Checked, settings, checked, settings_of}
use Rattle.settings.proofs.Accepted.{good_settings}
use Rattle.decoding.specs.Decoding.{Frame, Memory, room_of, graph, enough, asked_judged, frame_judged, decode_finds, decoded, memory_after, Accepts, Decodes}
use Rattle.steps.specs.Steps.{Degrees}
use Rattle.decoder.specs.Runs.{Long, Ready, RunsInto}
use Rattle.decoder.proofs.Beginning.{counted_degrees}
use Rattle.decoding.proofs.Accepting.{enough_told, checked_refused, checked_good, checked_same, frame_passed, asked_told, memory_told}

module _ (F : Frame) (M : Memory) {d d' : List ℕ} {a : Checked} (accepts : Accepts F (room_of M) a d d') where
  abbrev judgement : Judged
  judgement = decode_finds F (length d) (room_of M)

  pub decodes_refused : {r : Refusal} → a ≡ Err r → Decodes F M M d d' (Err r)
  decodes_refused {r} e = record { answer = sym (ap (decoded F) h); memory = sym (ap (λ j. memory_after F j M) h); degrees = accepts.degrees }
    where
      h : judgement ≡ Err r
      h = checked_refused judgement (settings F.asked) (sym accepts.answer ∙ e)

  module _ {s : Settings} (e : a ≡ Ok s) where
    admitted : judgement ≡ Ok tt
    admitted = checked_good judgement (settings F.asked) (sym accepts.answer ∙ e)

    same : settings F.asked ≡ s
    same = checked_same judgement (settings F.asked) (sym accepts.answer ∙ e)

    told : (frame_judged F (graph_judged_in limits (graph F) (length d)) ≡ Ok tt) × (enough F.variables (graph F).entries (room_of M) ≡ true)
    told = memory_told F (graph_judged_in limits (graph F) (length d)) (room_of M) admitted

    passed : (graph_judged_in limits (graph F) (length d) ≡ Ok tt) × (asked_judged F ≡ Ok tt)
    passed = frame_passed F (graph_judged_in limits (graph F) (length d)) told.0

    -- what the run asks
    pub decode_ready : Ready s (graph F) F.values
    unfolding settings_of
    decode_ready =
        let asked = asked_told F passed.1 in
        subst (λ t. Ready t (graph F) F.values) same (record {
          settings = (good_settings F.asked (settings F.asked) (ap (λ j. checked j (settings F.asked)) asked.1)).1;
          admitted = lent_admitted (graph F) (length d) passed.0;
          count = asked.0;
          finite = asked.2;
        })

    pub decode_long : Long (graph F) M
    decode_long =
        let long = enough_told F.variables (graph F).entries (room_of M) told.1 in
        record { levels = long.0; variable_messages = long.1; check_messages = long.2; sums = long.3; bits = long.4 }

    pub decode_degrees : Degrees (graph F) d'
    decode_degrees =
        counted_degrees (graph F) _ (lent_admitted (graph F) (length d) passed.0) (lent_counted limits (graph F) (length d) d passed.0 accepts.degrees)

    pub decodes_ran : {M' : Memory} {r : Report} → RunsInto s (graph F) F.values r M M' → Decodes F M M' d d' (Ok r)
    decodes_ran {M'} {r} w = record {
      answer = ap Ok run.report ∙ sym (ap (decoded F) admitted);
      memory = run.memory ∙ sym (ap (λ j. memory_after F j M) admitted);
      degrees = accepts.degrees;
    }
      where
        run : RunsInto (settings F.asked) (graph F) F.values r M M'
        run = subst (λ t. RunsInto t (graph F) F.values r M M') (sym same) w
