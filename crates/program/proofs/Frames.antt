-- What decode gives of a graph within the program's limits, lent enough memory, as the printed text.
use Rattle.std.specs.Prelude.{Ok, Err}
use mathlib.Core.Path.{◌≡◌, sym, ap, ap₂, ◌∙◌}
use mathlib.Core.Bool.{true}
use mathlib.Core.List.{List, map}
use Prim.Native.Nat.{ℕ, zero, suc, ◌*◌, ◌≤◌}
use native.Mathlib.Omega.{arith}
use borrow.Author.Tests.{le-leb}
use lib.ListN.{length, take, drop, length-map}
use lib.Seq.{take_at}
use Rattle.rules.specs.Ranges.{one}
use Rattle.rules.specs.Graphs.{Graph, program_limits}
use Rattle.rules.specs.Sequence.{Scheme, state, begun, next, iterated, stop, final, report}
use Rattle.refusals.specs.declared.Refusal.{Refusal}
use Rattle.rules.specs.declared.Report.{Report}
use Rattle.refusals.specs.Refusals.{Judged}
use Rattle.rules.proofs.Ranges.{length_tabulate}
use Rattle.refusals.proofs.Judging.{or_else_none}
use Rattle.decoding.specs.Decoding.{Decoded, Frame, Memory, room_of, enough, graph, scheme, frame_judged, decode_judged, decode_finds, decoded, memory_after, Decodes}
use Rattle.decoding.specs.declared.Room.{Room}
use Rattle.graphs.specs.Judging.{graph_judged}
use Rattle.graphs.specs.Calls.{Old}
use Rattle.decoding.proofs.Accepting.{as_before}
use Rattle.program_texts.specs.Printing.Texts.{report_text, refusal_text, longest, Prints}
use Rattle.program_texts.specs.Answering.{judged_text, frame_text}
use Rattle.printing.proofs.Parts.{prints_as}

-- as many bits as variables
state_bits : (G : Graph) (R : Scheme) (t : ℕ) → length (state G R t).bits ≡ G.variables
unfolding state begun next iterated
state_bits G R zero = length_tabulate R.first_bit G.variables
state_bits G R (suc t) = length_tabulate _ G.variables

final_bits : (G : Graph) (R : Scheme) (limit : ℕ) → length (final G R limit).bits ≡ G.variables
unfolding final
final_bits G R limit = state_bits G R (stop G R limit)

pub record Lent (F : Frame) (d : ℕ) (m : Room) : Type 0 where
  pub old : Old (graph F) d
  pub levels : F.variables ≤ m.levels
  pub variable_messages : (graph F).entries ≤ m.variable_messages
  pub check_messages : (graph F).entries ≤ m.check_messages
  pub sums : 4 * F.variables ≤ m.sums
  pub bits : F.variables ≤ m.bits

-- what the definitions of before find, at the program's limits
abbrev found : Frame → Judged
found F = frame_judged F (graph_judged program_limits (graph F))

lent_judged : (F : Frame) (d : ℕ) (m : Room) → Lent F d m → decode_finds F d m ≡ found F
unfolding decode_judged
lent_judged F d m l =
    as_before F d m l.old ∙
    (let e : enough F.variables (graph F).entries m ≡ true
    = rw (le-leb _ _ l.levels, le-leb _ _ l.variable_messages, le-leb _ _ l.check_messages, le-leb _ _ l.sums, le-leb _ _ l.bits) in
    rw e (or_else_none (found F)))

module _ {F : Frame} {M M' : Memory} {x x' : List ℕ} {d : Decoded} (w : Decodes F M M' x x' d) (l : Lent F (length x) (room_of M)) where
  answer_is : d ≡ decoded F (found F)
  answer_is = w.answer ∙ ap (decoded F) (lent_judged F (length x) (room_of M) l)

  memory_is : M' ≡ memory_after F (found F) M
  memory_is = w.memory ∙ ap (λ (j : Judged). memory_after F j M) (lent_judged F (length x) (room_of M) l)

  frame_refused : {r : Refusal} → d ≡ Err r → frame_text F ≡ refusal_text r
  unfolding frame_text
  frame_refused {r} e = go (found F) (sym answer_is ∙ e)
    where
      go : (j : Judged) → decoded F j ≡ Err r → judged_text F j ≡ refusal_text r
      go (Ok _) q = let z : ◌≡◌ {A = ℕ} 0 1 = cc in absurd (omega arith)
      go (Err s) q = let u : s ≡ r = cc in ap refusal_text u

  frame_ran : {r : Report} → d ≡ Ok r → frame_text F ≡ report_text r (take F.variables M'.bits)
  unfolding frame_text
  frame_ran {r} e = go (found F) (sym answer_is ∙ e) memory_is
    where
      go : (j : Judged) → decoded F j ≡ Ok r → M' ≡ memory_after F j M → judged_text F j ≡ report_text r (take F.variables M'.bits)
      go (Ok _) q m =
          let b : List ℕ = map one (final (graph F) (scheme F) F.asked.limit).bits in
          let u : report (graph F) (scheme F) F.asked.limit ≡ r = cc in
          let n : length b ≡ F.variables = length-map (final (graph F) (scheme F) F.asked.limit).bits one ∙ final_bits (graph F) (scheme F) F.asked.limit in
          let v : take F.variables M'.bits ≡ b = ap (λ (x : Memory). take F.variables x.bits) m ∙ take_at b (drop F.variables M.bits) F.variables n in
          ap₂ report_text u (sym v)
      go (Err s) q m = let z : ◌≡◌ {A = ℕ} 0 1 = cc in absurd (omega arith)

  module _ {n : ℕ} {old now : List ℕ} where
    pub refused_prints : {r : Refusal} → d ≡ Err r → Prints longest (refusal_text r) old now n → Prints longest (frame_text F) old now n
    refused_prints e p = prints_as (sym (frame_refused e)) p

    pub ran_prints : {r : Report} → d ≡ Ok r → Prints longest (report_text r (take F.variables M'.bits)) old now n → Prints longest (frame_text F) old now n
    ran_prints e p = prints_as (sym (frame_ran e)) p
