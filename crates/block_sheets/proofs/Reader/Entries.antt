-- The entries' lines, read again.
use mathlib.Core.Path.{◌≡◌, sym, ap, ◌∙◌, subst}
use mathlib.Core.List.{List, [], ◌∷◌}
use Prim.Native.Nat.{ℕ, suc, ◌+◌, ◌*◌, ◌≤◌, ◌<◌}
use native.Mathlib.Nat.{suc-mul, mul-le-mul_right}
use native.Mathlib.Numerals.{add-one}
use native.Mathlib.Omega.{arith}
use lib.ListN.{length, drop}
use lib.Seq.{drop-cons}
use Rattle.rules.specs.Graphs.{limits}
use Rattle.texts.specs.Numbers.{value}
use Rattle.texts.specs.Lines.{pair}
use Rattle.texts.specs.Triples.{Triple, triple, triple_line, TripleRead, KnownTriple}
use Rattle.texts.proofs.Triples.{triple_reads}
use Rattle.texts.specs.Layouts.{entries_text}
use Rattle.texts.specs.Reading.{Lines, lines}
use Rattle.texts.specs.Scanning.{LinesAt}
use Rattle.texts.proofs.Sheets.{rows_told, sheet_told}
use Rattle.block_sheets.specs.Text.Blocks.{Blocks, block_at}
use Rattle.block_sheets.specs.Text.Reading.{blocks_of, block_entries, room_of, block_layout, block_lines}
use Rattle.block_sheets.specs.Text.Scanning.{counts_in}
use Rattle.block_sheets.specs.Text.Theorems.{BlockFits, Valid}
use Rattle.block_sheets.specs.declared.Counts.{Counts}
use Rattle.block_sheets.proofs.Text.Texts.{readable, readable_entries, judging, lined_valid}
use Rattle.block_sheets.proofs.Text.Judging.{factor}
use Rattle.block_sheets.proofs.Text.Expanding.{entry_within}
use Rattle.block_sheets.specs.Reader.Storing.{lines_entries, blocks_from, EntriesAt, BlocksAt}

-- its numbers are those of entry q
pub record EntryRead (b : Blocks) (s : List ℕ) (q x y z next : ℕ) : Type 0 where
  pub first : x ≡ (block_at b q).first
  pub second : y ≡ (block_at b q).second
  pub third : z ≡ (block_at b q).third
  pub shift : z < b.size
  pub base : y * b.size + b.size ≤ limits.variables
  pub rest : EntriesAt b s next (q + 1)

module _ {b : Blocks} {s : List ℕ} {at q : ℕ} (v : Valid b) (h : EntriesAt b s at q) (l : q < length b.entries) where
  here : triple_line (drop at s) ≡ value (block_at b q) (entries_text block_entries (drop (q + 1) b.entries))
  unfolding entries_text
  here =
      ap triple_line (h.text ∙ ap (entries_text block_entries) (drop-cons b.entries q (triple 0 0 0) l ∙ ap (λ (n : ℕ). block_at b q ∷ drop n b.entries) (sym (add-one q))))
      ∙ triple_reads (block_at b q) (entries_text block_entries (drop (q + 1) b.entries))

  small : ((block_at b q).first < limits.checks) × ((block_at b q).second < limits.variables) × ((block_at b q).third < limits.variables)
  small =
      let w = entry_within b v.ordered q l in
      let m = factor b.rows b.size limits.checks v.checks.0 v.checks.1 in
      let n = factor b.columns b.size limits.variables (omega (arith, v.variables.0)) v.variables.1 in
      (omega (arith, w.0, m.0), omega (arith, w.1, n.0), omega (arith, w.2, n.1))

  pub entry_known : KnownTriple s at
  entry_known = record {
    numbers = block_at b q;
    rest = entries_text block_entries (drop (q + 1) b.entries);
    reads = here;
    first = omega (arith, small.0);
    second = omega (arith, small.1);
    third = omega (arith, small.2);
  }

  pub entry_read : {x y z next : ℕ} → TripleRead (triple_line (drop at s)) s at x y z next → EntryRead b s q x y z next
  entry_read {x} {y} {z} {next} r =
      let e : value r.numbers (drop next s) ≡ value (block_at b q) (entries_text block_entries (drop (q + 1) b.entries)) = sym r.reads ∙ here in
      let n : r.numbers ≡ block_at b q = cc in
      let t : drop next s ≡ entries_text block_entries (drop (q + 1) b.entries) = cc in
      let w = entry_within b v.ordered q l in
      let j : y ≡ (block_at b q).second = omega (arith, r.second, ap (λ (p : Triple). p.second) n, small.1) in
      record {
        first = omega (arith, r.first, ap (λ (p : Triple). p.first) n, small.0);
        second = j;
        third = omega (arith, r.third, ap (λ (p : Triple). p.third) n, small.2);
        shift = omega (arith, r.third, ap (λ (p : Triple). p.third) n, small.2, w.2);
        base = omega (arith, suc-mul y b.size, mul-le-mul_right {m = suc y} {n = b.columns} b.size (omega (arith, w.1)), v.variables.1);
        rest = record { few = omega arith; text = t };
      }

-- ---- what the first pass left

module _ {s : List ℕ} {k : Counts} {at : ℕ} (h : LinesAt block_entries (room_of k.size) s (block_lines s) (counts_in k) k.entries at) where
  found : blocks_from s k at ≡ blocks_of (counts_in k) h.entries
  found = ap (λ (x : Lines Triple Triple). blocks_of (counts_in k) (lines_entries x)) h.rest

  -- the lines of the text are those of these blocks
  pub lines_are : block_lines s ≡ lines (counts_in k) (blocks_from s k at).entries
  lines_are = h.are ∙ ap (λ (b : Blocks). lines (counts_in k) b.entries) (sym found)

  pub blocks_at : BlocksAt s k at
  blocks_at =
      let t = sheet_told block_layout readable BlockFits judging s (counts_in k) h.entries h.are in
      let w = rows_told block_entries readable_entries BlockFits judging (counts_in k) (room_of k.size) 4 (pair 0 0) [] (drop at s) (counts_in k) h.entries h.rest in
      record {
        valid = subst Valid (sym found) (lined_valid (counts_in k) h.entries t.1);
        many = ap (λ (b : Blocks). length b.entries) found ∙ h.many;
        lines_are = record {
          few = omega arith;
          text = w.text ∙ ap (entries_text block_entries) (sym w.all ∙ ap (λ (b : Blocks). b.entries) (sym found));
        };
      }
