-- The numbers of an answer fit their places.
use Rattle.std.specs.Prelude.{Ok, Err}
use mathlib.Core.Path.{◌≡◌, ap, ◌∙◌, subst}
use mathlib.Core.List.{List}
use Prim.Native.Nat.{ℕ, ◌≤◌}
use native.Mathlib.Omega.{arith}
use Rattle.rules.specs.Graphs as Graphs
use Rattle.rules.specs.Graphs.{limits, unsatisfied, odd_check}
use Rattle.rules.specs.Sequence.{bit_at, state, unsatisfied_in, stop, report}
use Rattle.refusals.specs.Refusals.{Judged}
use Rattle.rules.proofs.Ranges.{count_le}
use Rattle.rules.proofs.Stops.{run_stops}
use Rattle.graphs.specs.Judging.{graph_judged_in}
use Rattle.graphs.proofs.Lending.{lent_admitted}
use Rattle.settings.specs.declared.Scaling.{Scaling}
use Rattle.rules.specs.declared.Verdict.{Verdict}
use Rattle.rules.specs.declared.Verdict.TheVariants.{Codeword, Stopped}
use Rattle.decoding.specs.Decoding.{Decoded, Frame, Memory, Decodes, graph, scheme, decode_finds, decoded}
use Rattle.decoding.specs.declared.Room.{Room}
use Rattle.decoding.proofs.Accepting.{frame_passed, asked_told, limit_small, memory_told}
use Rattle.interface.specs.Packing.{Small, verdict_of, pack_decoded, HostDecodes}

pub unsatisfied_small : (F : Frame) (t : ℕ) → Graphs.Admitted (graph F) → unsatisfied_in (graph F) (scheme F) t ≤ limits.checks
unfolding unsatisfied_in unsatisfied
unsatisfied_small F t a =
    omega (arith, count_le (odd_check (graph F) (bit_at (state (graph F) (scheme F) t).bits)) 0 (graph F).checks, a.checks)

pub decoded_small : (F : Frame) (d : ℕ) (m : Room) (j : Judged) → decode_finds F d m ≡ j → Small (decoded F j)
unfolding report
decoded_small F d m (Err r) h = omega arith
decoded_small F d m (Ok _) h =
    let g = graph_judged_in limits (graph F) d in
    let passed = frame_passed F g (memory_told F g m h).0 in (
      omega (arith, (run_stops (graph F) (scheme F) F.asked.limit).within, limit_small F (asked_told F passed.1).1),
      unsatisfied_small F (stop (graph F) (scheme F) F.asked.limit) (lent_admitted (graph F) d passed.0),
    )

pub verdict_small : (v : Verdict) → verdict_of v ≤ 1
verdict_small Codeword = omega arith
verdict_small Stopped = omega arith

-- decode's promise, with its answer packed
pub host_decodes : {F : Frame} {M M' : Memory} {d d' : List ℕ} {x : Decoded} {r : ℕ} → Decodes F M M' d d' x → r ≡ pack_decoded x → HostDecodes F M M' d d' r
host_decodes w e = record { answer = e ∙ ap pack_decoded w.answer; memory = w.memory; degrees = w.degrees }

pub host_under : (F : Scaling → Frame) {s s' : Scaling} {M M' : Memory} {d d' : List ℕ} {r : ℕ} → s ≡ s' → HostDecodes (F s) M M' d d' r
    → HostDecodes (F s') M M' d d' r
host_under F {s} {s'} {M} {M'} {d} {d'} {r} e w = subst (λ t. HostDecodes (F t) M M' d d' r) e w
