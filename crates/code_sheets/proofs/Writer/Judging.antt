-- What is refused, and what is known of a graph and a buffer that are not.
use Rattle.std.specs.Prelude.{Ok, Err}
use mathlib.Core.Path.{◌≡◌, sym, ap, ◌∙◌}
use mathlib.Core.List.{List}
use Prim.Native.Nat.{ℕ, ◌≤◌, ◌<◌}
use native.Mathlib.Nat.{zero-add}
use native.Mathlib.Omega.{arith}
use borrow.Author.Tests.{le-leb, lt-leb, leb-true}
use lib.Dec.{leb}
use lib.ListN.{length}
use Rattle.rules.specs.Graphs.{Graph, limits, Admitted}
use Rattle.refusals.specs.Refusals.{unless, Judged}
use Rattle.refusals.specs.declared.Refusal.{Refusal}
use Rattle.refusals.specs.declared.Refusal.TheVariants.{Buffer}
use Rattle.refusals.proofs.Judging.{or_else_left, or_else_right, unless_true}
use Rattle.graphs.specs.Judging.{graph_judged_in}
use Rattle.graphs.specs.Degrees.{Checks}
use Rattle.graphs.proofs.Lending.{lent_admitted}
use Rattle.graphs.proofs.Wider.{found_before}
use Rattle.code_sheets.specs.Text.Texts.{sheet_text}
use Rattle.code_sheets.specs.Writer.Writing.{write_judged, write_finds, write_answer, written_in, JudgesWrite, WritesInto}
use Rattle.code_sheets.specs.Writer.Theorems.{WritesAsBefore}
use Rattle.texts.specs.Putting.{Put}
use Rattle.texts.proofs.Putting.{put_front}

-- ---- what is refused, where the check of the graph found j

module _ (G : Graph) (room : ℕ) {j : Judged} {d d' : List ℕ} (k : Checks limits G j d d') where
  pub graph_turned : {r : Refusal} → j ≡ Err r → JudgesWrite G room (Err r) d d'
  unfolding write_judged
  graph_turned e = record { answer = sym (rw (sym k.answer ∙ e)); degrees = k.degrees }

  module _ (e : j ≡ Ok tt) where
    pub graph_good : Admitted G
    graph_good = lent_admitted G (length d) (sym k.answer ∙ e)

    module _ {size : ℕ} (q : size ≡ length (sheet_text G)) where
      pub buffer_turned : room < size → JudgesWrite G room (Err Buffer) d d'
      unfolding write_judged
      buffer_turned l = record { answer = sym (rw (sym k.answer ∙ e, lt-leb (length (sheet_text G)) room (omega arith))); degrees = k.degrees }

      pub none_turned : size ≤ room → JudgesWrite G room (Ok tt) d d'
      unfolding write_judged
      none_turned l = record { answer = sym (rw (sym k.answer ∙ e, le-leb (length (sheet_text G)) room (omega arith))); degrees = k.degrees }

-- on graphs within the old limits nothing else is found than before
pub writes_as_before : WritesAsBefore
writes_as_before G d room o = ap (λ g. write_judged g G room) (found_before G d o)

-- ---- the answer, and the lent bytes

pub write_admitted : (G : Graph) (d room : ℕ) → write_finds G d room ≡ Ok tt → Admitted G × (length (sheet_text G) ≤ room)
unfolding write_judged
write_admitted G d room h =
    let buffer = unless (leb (length (sheet_text G)) room) Buffer in (
      lent_admitted G d (or_else_left (graph_judged_in limits G d) buffer h),
      leb-true (length (sheet_text G)) room (unless_true (leb (length (sheet_text G)) room) Buffer (or_else_right (graph_judged_in limits G d) buffer h)),
    )

module _ (G : Graph) (old : List ℕ) {j : Judged} {d d' : List ℕ} (k : JudgesWrite G (length old) j d d') where
  pub none_written : {r : Refusal} → j ≡ Err r → WritesInto G (Err r) d d' old old
  none_written e = let h = sym k.answer ∙ e in record {
    answer = sym (ap (λ x. write_answer x G) h);
    degrees = k.degrees;
    text = sym (ap (λ x. written_in x G old) h);
  }

  module _ (e : j ≡ Ok tt) where
    pub put_good : Admitted G × (length (sheet_text G) ≤ length old)
    put_good = write_admitted G (length d) (length old) (sym k.answer ∙ e)

    pub all_written : {now : List ℕ} {size : ℕ} → Put (sheet_text G) old now 0 size → WritesInto G (Ok size) d d' old now
    all_written p = let h = sym k.answer ∙ e in record {
      answer = ap Ok (p.after ∙ zero-add (length (sheet_text G))) ∙ sym (ap (λ x. write_answer x G) h);
      degrees = k.degrees;
      text = put_front put_good.1 p ∙ sym (ap (λ x. written_in x G old) h);
    }
