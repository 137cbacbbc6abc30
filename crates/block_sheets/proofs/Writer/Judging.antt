-- What is refused, and what is known of blocks and a buffer that are not.
use Rattle.std.specs.Prelude.{Ok, Err}
use mathlib.Core.Path.{◌≡◌, refl, sym, ap, ◌∙◌}
use mathlib.Core.List.{List}
use Prim.Native.Nat.{ℕ, ◌*◌, ◌/◌, ◌≤◌, ◌<◌}
use native.Mathlib.Nat.{zero-add}
use native.Mathlib.Omega.{arith}
use borrow.Author.Tests.{le-leb, lt-leb, leb-true}
use lib.Dec.{leb}
use lib.ListN.{length}
use Rattle.rules.specs.Graphs.{limits}
use Rattle.refusals.specs.Refusals.{unless, or_else, Judged}
use Rattle.refusals.specs.declared.Refusal.{Refusal}
use Rattle.refusals.specs.declared.Refusal.TheVariants.{Buffer}
use Rattle.refusals.proofs.Judging.{refused_not, or_else_right, unless_true}
use Rattle.graphs.specs.Judging.{degrees_judged}
use Rattle.graphs.specs.Degrees.{Judges}
use Rattle.texts.specs.Triples.{Triple}
use Rattle.texts.specs.Putting.{Put}
use Rattle.texts.proofs.Putting.{put_front}
use Rattle.texts.specs.Reading.{Lines, refused, lines, given}
use Rattle.texts.proofs.Sheets.{given_told}
use Rattle.code_sheets.specs.Reader.Reading.{room_for_degrees}
use Rattle.block_sheets.specs.Text.Blocks.{Blocks}
use Rattle.block_sheets.specs.Text.Expansion.{expansion}
use Rattle.block_sheets.specs.Text.Reading.{counted, block_layout, block_text}
use Rattle.block_sheets.specs.Text.Theorems.{BlockFits, Valid}
use Rattle.block_sheets.proofs.Text.Texts.{readable, judging, lined_valid}
use Rattle.block_sheets.specs.Degrees.Lending.{block_degrees_of}
use Rattle.block_sheets.specs.Writer.Writing.{lines_judged, blocks_write_finds, blocks_write_answer, blocks_written_in, JudgesBlocksWrite, WritesBlocksInto}
use Rattle.block_sheets.specs.Writer.Judging.{JudgesDegrees}

-- ---- 6 for the list of degrees, and 5

module _ (b : Blocks) {d : List ℕ} where
  pub list_short : length d / 4 < b.columns * b.size → JudgesDegrees b (Err Buffer) d d
  list_short l = record {
    answer = sym (rw (lt-leb (4 * (b.columns * b.size)) (length d) (omega arith)));
    degrees = sym (rw (lt-leb (4 * (b.columns * b.size)) (length d) (omega arith)));
  }

  pub list_judged : {d' : List ℕ} {r : Judged} → b.columns * b.size ≤ length d / 4 → Judges limits (expansion b) r d d' → JudgesDegrees b r d d'
  list_judged l j = record {
    answer = j.answer ∙ sym (rw (le-leb (4 * (b.columns * b.size)) (length d) (omega arith)));
    degrees = j.degrees ∙ sym (rw (le-leb (4 * (b.columns * b.size)) (length d) (omega arith)));
  }

-- ---- what is refused, where x is found of the lines

or_else_assoc : (a b c : Judged) → or_else (or_else a b) c ≡ or_else a (or_else b c)
or_else_assoc (Ok _) b c = refl
or_else_assoc (Err r) b c = refl

module _ (b : Blocks) where
  abbrev pub found : Lines Triple Triple
  found = given block_layout (counted b) b.entries

  -- blocks of which no line is refused
  pub lines_are : lines_judged found ≡ Ok tt → (found ≡ lines (counted b) b.entries) × Valid b
  lines_are h = go found refl h
    where
      go : (x : Lines Triple Triple) → found ≡ x → lines_judged x ≡ Ok tt → (found ≡ lines (counted b) b.entries) × Valid b
      go (refused r) e h = absurd (refused_not h)
      go (lines d qs) e h =
          let w = given_told block_layout readable BlockFits judging (counted b) b.entries d qs e in
          (w.0, lined_valid (counted b) b.entries w.1)

  degrees_kept : {r : Refusal} → lines_judged found ≡ Err r → (d : List ℕ) → d ≡ block_degrees_of found d
  degrees_kept {r} h d = go found h
    where
      go : (x : Lines Triple Triple) → lines_judged x ≡ Err r → d ≡ block_degrees_of x d
      go (refused s) h = refl
      go (lines c qs) h = absurd (refused_not (sym h))

  module _ (room : ℕ) {x : Judged} (e : x ≡ lines_judged found) where
    pub lines_turned : {r : Refusal} → x ≡ Err r → (d : List ℕ) → JudgesBlocksWrite b room (Err r) d d
    lines_turned p d = record { answer = sym (rw (sym e ∙ p)); degrees = degrees_kept (sym e ∙ p) d }

    module _ (p : x ≡ Ok tt) where
      pub lines_good : Valid b
      lines_good = (lines_are (sym e ∙ p)).1

      module _ {y : Judged} {d d' : List ℕ} (k : JudgesDegrees b y d d') where
        abbrev buffer : Judged
        buffer = unless (leb (length (block_text b)) room) Buffer

        after_lines_lem : blocks_write_finds b (length d) room ≡ or_else y buffer
        after_lines_lem =
            ap (λ (z : Judged). or_else z (or_else (unless (room_for_degrees (expansion b) (length d)) Buffer) (or_else (degrees_judged limits (expansion b)) buffer))) (sym e ∙ p)
            ∙ sym (or_else_assoc (unless (room_for_degrees (expansion b) (length d)) Buffer) (degrees_judged limits (expansion b)) buffer)
            ∙ ap (λ (z : Judged). or_else z buffer) (sym k.answer)

        counted_in_lem : d' ≡ block_degrees_of found d
        counted_in_lem = k.degrees ∙ sym (ap (λ (z : Lines Triple Triple). block_degrees_of z d) (lines_are (sym e ∙ p)).0)

        pub degrees_turned : {r : Refusal} → y ≡ Err r → JudgesBlocksWrite b room (Err r) d d'
        degrees_turned q = record { answer = sym (after_lines_lem ∙ ap (λ (z : Judged). or_else z buffer) q); degrees = counted_in_lem }

        module _ (q : y ≡ Ok tt) {size : ℕ} (s : size ≡ length (block_text b)) where
          pub buffer_turned : room < size → JudgesBlocksWrite b room (Err Buffer) d d'
          buffer_turned l = record {
            answer = sym (after_lines_lem ∙ rw (q, lt-leb (length (block_text b)) room (omega arith)));
            degrees = counted_in_lem;
          }

          pub none_turned : size ≤ room → JudgesBlocksWrite b room (Ok tt) d d'
          none_turned l = record {
            answer = sym (after_lines_lem ∙ rw (q, le-leb (length (block_text b)) room (omega arith)));
            degrees = counted_in_lem;
          }

-- ---- the answer, and the lent bytes

module _ (b : Blocks) (old : List ℕ) {j : Judged} {d d' : List ℕ} (k : JudgesBlocksWrite b (length old) j d d') where
  pub none_written : {r : Refusal} → j ≡ Err r → WritesBlocksInto b (Err r) d d' old old
  none_written e = let h = sym k.answer ∙ e in record {
    answer = sym (ap (λ x. blocks_write_answer x b) h);
    degrees = k.degrees;
    text = sym (ap (λ x. blocks_written_in x b old) h);
  }

  module _ (e : j ≡ Ok tt) where
    pub put_good : length (block_text b) ≤ length old
    put_good =
        let buffer = unless (leb (length (block_text b)) (length old)) Buffer in
        let last = or_else (degrees_judged limits (expansion b)) buffer in
        let list = unless (room_for_degrees (expansion b) (length d)) Buffer in
        leb-true (length (block_text b)) (length old) (unless_true (leb (length (block_text b)) (length old)) Buffer
        (or_else_right (degrees_judged limits (expansion b)) buffer (or_else_right list last (or_else_right (lines_judged (given block_layout (counted b) b.entries)) (or_else list last) (sym k.answer ∙ e)))))

    pub all_written : {now : List ℕ} {size : ℕ} → Put (block_text b) old now 0 size → WritesBlocksInto b (Ok size) d d' old now
    all_written p = let h = sym k.answer ∙ e in record {
      answer = ap Ok (p.after ∙ zero-add (length (block_text b))) ∙ sym (ap (λ x. blocks_write_answer x b) h);
      degrees = k.degrees;
      text = put_front put_good p ∙ sym (ap (λ x. blocks_written_in x b old) h);
    }
