-- What is written is read back, and what the writer refuses the reader refuses.
use Rattle.std.specs.Prelude.{Ok}
use mathlib.Core.Path.{◌≡◌, refl, sym, ap, ◌∙◌}
use mathlib.Core.Bool.{Bool, true}
use Prim.Native.Nat.{ℕ, suc, ◌*◌, ◌≤◌}
use borrow.Author.Tests.{le-leb}
use lib.Dec.{leb}
use lib.ListN.{length}
use Rattle.rules.specs.Graphs.{Graph, limits}
use Rattle.refusals.specs.Refusals.{unless, or_else, Judged}
use Rattle.refusals.specs.declared.Refusal.TheVariants.{Buffer}
use Rattle.refusals.proofs.Judging.{or_else_left, or_else_right, or_else_both}
use Rattle.rules.proofs.Tests.{and_both}
use Rattle.words.specs.Roles.{wide}
use Rattle.graphs.specs.Judging.{degrees_judged}
use Rattle.texts.specs.Triples.{Triple}
use Rattle.texts.specs.Reading.{Lines, refused, lines}
use Rattle.code_sheets.specs.Reader.Reading.{graph, room_for, room_for_degrees, after_lines_in, unless_refused, read_judged}
use Rattle.code_sheets.specs.Reader.Theorems.{Suffice}
use Rattle.block_sheets.specs.Text.Blocks.{Blocks}
use Rattle.block_sheets.specs.Text.Expansion.{expansion}
use Rattle.block_sheets.specs.Text.Reading.{counted, block_text}
use Rattle.block_sheets.proofs.Text.Texts.{texts_and_blocks}
use Rattle.block_sheets.specs.Reader.Reading.{read_blocks, block_read_in}
use Rattle.block_sheets.proofs.Reader.Calls.{judged_back}
use Rattle.block_sheets.specs.Writer.Writing.{lines_judged, blocks_write_finds}
use Rattle.block_sheets.specs.Writer.Theorems.{WrittenAndRead}
use Rattle.block_sheets.proofs.Writer.Judging.{found, lines_are}

module _ (b : Blocks) where
  abbrev G : Graph
  G = expansion b

  -- what both find after the lines
  abbrev after : ℕ → Judged
  after d = or_else (unless (room_for_degrees G d) Buffer) (or_else (degrees_judged limits G) (Ok tt))

  alike : (d room s c : ℕ) → length (block_text b) ≤ room → room_for G s c ≡ true → blocks_write_finds b d room ≡ read_judged (block_read_in (block_text b) d s c)
  unfolding block_read_in
  alike d room s c l r = rw (texts_and_blocks.refused_alike b) (go (found b) refl)
    where
      both : or_else (unless (room_for_degrees G d) Buffer) (or_else (degrees_judged limits G) (unless (leb (length (block_text b)) room) Buffer))
          ≡ read_judged (unless_refused (after_lines_in limits G d s c) G)
      both = rw (le-leb (length (block_text b)) room l, r) (sym (judged_back (after d) G))

      go : (x : Lines Triple Triple) → found b ≡ x
          → or_else (lines_judged x) (or_else (unless (room_for_degrees G d) Buffer) (or_else (degrees_judged limits G) (unless (leb (length (block_text b)) room) Buffer)))
          ≡ read_judged (read_blocks (λ H. after_lines_in limits H d s c) x)
      go (refused x) e = refl
      go (lines k ps) e =
          let same : lines k ps ≡ lines (counted b) b.entries = sym e ∙ (lines_are b (ap lines_judged e)).0 in
          both ∙ ap (λ (x : Lines Triple Triple). read_judged (read_blocks (λ H. after_lines_in limits H d s c) x)) (sym same)

  room_is : (s c d : ℕ) → Suffice G d s c → room_for G s c ≡ true
  room_is s c d h = and_both (le-leb (wide * suc G.checks) s h.starts) (le-leb (wide * G.entries) c h.columns)

  -- nothing is refused of the text
  reads : (d room : ℕ) → blocks_write_finds b d room ≡ Ok tt → (s c : ℕ) → Suffice G d s c → block_read_in (block_text b) d s c ≡ graph G
  unfolding block_read_in
  reads d room e s c h =
      ap (read_blocks (λ H. after_lines_in limits H d s c)) (texts_and_blocks.refused_alike b ∙ (lines_are b (or_else_left (lines_judged (found b)) rest e)).0)
      ∙ ap (λ (j : Judged). unless_refused j G) after_lines_lem
    where
      text : Judged
      text = unless (leb (length (block_text b)) room) Buffer

      list : Judged
      list = unless (room_for_degrees G d) Buffer

      rest : Judged
      rest = or_else list (or_else (degrees_judged limits G) text)

      good : degrees_judged limits G ≡ Ok tt
      good =
          or_else_left (degrees_judged limits G) text
          (or_else_right list (or_else (degrees_judged limits G) text) (or_else_right (lines_judged (found b)) rest e))

      after_lines_lem : after_lines_in limits G d s c ≡ Ok tt
      after_lines_lem =
          or_else_both (ap (λ (t : Bool). unless t Buffer) (le-leb (4 * G.variables) d h.degrees))
          (or_else_both good (ap (λ (t : Bool). unless t Buffer) (room_is s c d h)))

pub written_and_read : WrittenAndRead
written_and_read = record {
  only = λ b t e. (texts_and_blocks.accepted t (counted b) b.entries e).1;
  reads = reads;
  alike = alike;
}
