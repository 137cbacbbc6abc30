-- Texts whose lines are right and blocks in range and order determine each other.
use mathlib.Core.Path.{◌≡◌, refl, sym, ap, ap₂, ◌∙◌}
use mathlib.Core.List.{List}
use native.Mathlib.Nat.{le-div_iff_mul-le, mul_comm}
use native.Mathlib.Omega.{arith}
use lib.ListN.{length}
use Rattle.rules.specs.Graphs.{limits}
use Rattle.texts.specs.Lines.{fixed}
use Rattle.texts.specs.Layouts as Layouts
use Rattle.texts.specs.Reading as Listing
use Rattle.texts.specs.Reading.{lines}
use Rattle.texts.specs.Order.{Lined}
use Rattle.texts.proofs.Order.{ReadableEntries, Readable, Judging}
use Rattle.texts.proofs.Sheets.{sheet_given_lem, sheet_read_lem, sheet_told}
use Rattle.texts.specs.Triples.{Triple}
use Rattle.block_sheets.specs.Text.Blocks.{Blocks}
use Rattle.block_sheets.specs.Text.Reading.{counted, blocks_of, block_entries, block_layout, block_text, block_lines}
use Rattle.block_sheets.specs.Text.Theorems.{BlockFits, Valid, NoSheet, TextsAndBlocks}
use Rattle.texts.proofs.Triples.{triple_reads, triple_text_lem, triple_empty}
use Rattle.block_sheets.proofs.Text.Judging.{fits_judged, judged_fits, within_judged_lem, judged_within}

pub readable_entries : ReadableEntries block_entries
readable_entries = record { entry_reads = triple_reads; entry_text_lem = triple_text_lem; entry_empty = triple_empty }

pub readable : Readable block_layout
readable = record { counts_reads = triple_reads; counts_text_lem = triple_text_lem; entries = readable_entries }

pub judging : Judging block_entries BlockFits
judging = record { fits_judged = fits_judged; judged_fits = judged_fits }

-- valid blocks are those that a sheet may have
pub valid_lined : (b : Blocks) → Valid b → Lined block_layout BlockFits (counted b) b.entries
valid_lined b v = record {
  counts = within_judged_lem (counted b) v.ordered.some (v.variables, v.checks);
  rising = v.ordered.rising;
  few = (le-div_iff_mul-le {k = b.size} {x = length b.entries} {y = limits.entries} v.ordered.some).1 (omega (arith, v.few, mul_comm b.size (length b.entries)));
}

pub lined_valid : (c : Triple) (ps : List Triple) → Lined block_layout BlockFits c ps → Valid (blocks_of c ps)
lined_valid c ps h =
    let w = judged_within c h.counts in
    record {
      ordered = record { some = w.0; rising = h.rising };
      variables = w.1.0;
      checks = w.1.1;
      few = omega (arith, (le-div_iff_mul-le {k = c.first} {x = length ps} {y = limits.entries} w.0).0 h.few, mul_comm c.first (length ps));
    }

back : (b : Blocks) → Valid b → block_lines (block_text b) ≡ lines (counted b) b.entries
back b v = sheet_read_lem block_layout readable BlockFits judging (counted b) b.entries (valid_lined b v)

pub texts_and_blocks : TextsAndBlocks
texts_and_blocks = record {
  accepted = λ t c ps e. let w = sheet_told block_layout readable BlockFits judging t c ps e in (lined_valid c ps w.1, w.0);
  back = back;
  refused_alike = λ b. sheet_given_lem block_layout readable BlockFits judging (counted b) b.entries;
  one_blocks = λ a b u v e. same a b (sym (back a u) ∙ ap block_lines e ∙ back b v);
}
  where
    same : (a b : Blocks) → lines (counted a) a.entries ≡ lines (counted b) b.entries → a ≡ b
    same a b e =
        let q : counted a ≡ counted b = cc in
        let r : a.entries ≡ b.entries = cc in
        ap₂ blocks_of q r

pub no_sheet : NoSheet
unfolding Listing.sheet_lines Layouts.sheet_of fixed
no_sheet L b = refl
