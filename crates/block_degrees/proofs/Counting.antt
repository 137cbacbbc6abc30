-- A pass over entries of blocks in order: what is counted after some of them, one entry on, and after the last.
use mathlib.Core.Path.{◌≡◌, refl, sym, ap, ap₂, ◌∙◌, subst}
use mathlib.Core.Logic.{◌≢◌}
use mathlib.Core.Bool.{Bool}
use mathlib.Core.List.{List, map}
use Prim.Native.Nat.{ℕ, ◌+◌, ◌*◌, ◌/◌, ◌^◌, ◌≤◌, ◌<◌}
use native.Mathlib.Decide.{dec_lt}
use native.Mathlib.Nat.{add-zero, mul-le-mul_right}
use native.Mathlib.Omega.{arith}
use borrow.Author.Tests.{eq-eqb, ne_eqb}
use lib.ListN.{length, length-map}
use Rattle.rules.specs.Ranges.{one}
use Rattle.rules.specs.Graphs.{limits}
use Rattle.rules.proofs.Ranges.{count_none, count_next, count_le}
use Rattle.refusals.proofs.Judging.{each_none}
use Rattle.words.specs.Words.{stored}
use Rattle.words.specs.Roles.{degree_at}
use Rattle.texts.specs.Lines.{pair}
use Rattle.code_sheets.proofs.Text.Entries.{check_in, start_zero, start_is, check_above, entry_row}
use Rattle.code_sheets.specs.Reader.Storing.{row_judged, RowsTo, GoesOn}
use Rattle.code_sheets.specs.declared.Rows.{Rows}
use Rattle.block_sheets.specs.Text.Blocks.{Blocks, place, block_at, start_of_block}
use Rattle.block_sheets.specs.Text.Theorems.{Valid}
use Rattle.block_sheets.proofs.Text.Rows.{part_below}
use Rattle.block_sheets.proofs.Text.Judging.{factor}
use Rattle.block_sheets.proofs.Text.Expanding.{risen, row_at, entry_within}
use Rattle.block_degrees.specs.Counting.{cleared, Heads, in_column, BlocksCounted}
use Rattle.block_degrees.proofs.Heads.{heads_cleared, heads_put}

-- the variable at which entry q is counted: the first of its block column
abbrev pub first_of : Blocks → ℕ → ℕ
first_of b q = (block_at b q).second * b.size

-- the first q entries are counted, and the block rows above that of the last one are judged
pub record Counting (b : Blocks) (old now : List ℕ) (rows : Rows) (q : ℕ) : Type 0 where
  pub room : 4 * (b.columns * b.size) ≤ length old
  pub counts : Heads b.columns b.size (in_column b q) old now
  pub rows_are : RowsTo (start_of_block b) rows
  pub first : rows.first ≤ q
  pub high : rows.check ≤ b.rows
  pub behind : (e : ℕ) → e < q → (block_at b e).first ≤ rows.check
  pub ahead : (e : ℕ) → q ≤ e → e < length b.entries → rows.check ≤ (block_at b e).first

module _ {b : Blocks} (v : Valid b) where
  module _ (older : List ℕ) (room : 4 * (b.columns * b.size) ≤ length older) {old : List ℕ} (z : old ≡ cleared b.columns b.size older) where
    -- nothing is counted
    none_yet : Heads b.columns b.size (λ _. 0) older old
    none_yet = subst (Heads b.columns b.size (λ _. 0) older) (sym z) (heads_cleared b.columns v.ordered.some older room)

    pub counting_none : Counting b old old (record { low = 0; check = 0; first = 0 }) 0
    counting_none = record {
      room = omega (arith, none_yet.long);
      counts = record { long = refl; heads = λ j l. none_yet.heads j l ∙ sym (count_none _); rest = refl };
      rows_are = record { judged = each_none (row_judged (start_of_block b)); first = sym (start_zero (map place b.entries)) };
      first = omega arith;
      high = omega arith;
      behind = λ e l. absurd (omega arith);
      ahead = λ e l u. omega arith;
    }

  -- rows do not fall
  rows_rise : (q e : ℕ) → q ≤ e → e < length b.entries → (block_at b q).first ≤ (block_at b e).first
  rows_rise q e l u =
      let ps = map place b.entries in
      let many = length-map b.entries place in
      let r = entry_row (pair b.columns b.rows) (pair 0 0) ps (risen b v.ordered) q (omega (arith, many)) in
      omega (arith, row_at b v.ordered q, row_at b v.ordered e, check_above (pair b.columns b.rows) (pair 0 0) ps (risen b v.ordered) (check_in ps q) e (omega (arith, r.0)) (omega (arith, many)))

  -- no entry is beyond 2^32
  small : length b.entries < 2 ^ 32
  small = omega (arith, v.few, mul-le-mul_right {m = 1} {n = b.size} (length b.entries) v.ordered.some)

  module _ {old now : List ℕ} {rows : Rows} {q : ℕ} (c : Counting b old now rows q) where
    -- a number that parts the entries by their rows is a start
    starts_at : (i : ℕ) → rows.check < i → ((e : ℕ) → q ≤ e → e < length b.entries → i ≤ (block_at b e).first) → q ≤ length b.entries → q ≡ start_of_block b i
    starts_at i l h u =
        let ps = map place b.entries in
        let many = length-map b.entries place in
        sym (start_is ps i q (omega (arith, many)) (λ e k. omega (arith, row_at b v.ordered e, c.behind e k))
        (λ e k m. omega (arith, row_at b v.ordered e, h e k (omega (arith, many)))))

    module _ (l : q < length b.entries) where
      pub counting_row : (rows.check ≤ (block_at b q).first) × ((block_at b q).first ≤ limits.checks) × (rows.first ≤ q)
      counting_row = (
        c.ahead q (omega arith) l,
        omega (arith, (entry_within b v.ordered q l).0, (factor b.rows b.size limits.checks v.checks.0 v.checks.1).0),
        c.first,
      )

      within : first_of b q < b.columns * b.size
      within = let z = part_below b.size (block_at b q).second 0 v.ordered.some b.columns (entry_within b v.ordered q l).1 in omega arith

      -- its block column's number
      number : degree_at now (first_of b q) ≡ in_column b q (block_at b q).second
      number = c.counts.heads (block_at b q).second (entry_within b v.ordered q l).1

      few : in_column b q (block_at b q).second ≤ q
      few = count_le _ 0 q

      fits : degree_at now (first_of b q) + 1 < 2 ^ 32
      fits = omega (arith, number, few, small)

      pub counting_room : (first_of b q < length now / 4) × (degree_at now (first_of b q) + 1 < 2 ^ 32)
      counting_room = (omega (arith, within, c.room, c.counts.long), fits)

      pub counting_more : {rows' : Rows} {later : List ℕ} → GoesOn rows (block_at b q).first q rows'
          → later ≡ stored 4 now (4 * first_of b q) (degree_at now (first_of b q) + 1) → Counting b old later rows' (q + 1)
      counting_more {rows'} g e = record {
        room = c.room;
        counts = heads_put b.columns v.ordered.some old c.room c.counts (entry_within b v.ordered q l).1 fits e here there;
        rows_are = g.holds (start_of_block b) c.rows_are (λ i a u. starts_at i a (λ e k m. omega (arith, rows_rise q e k m)) (omega arith));
        first = omega (arith, g.first);
        high = omega (arith, g.check, (entry_within b v.ordered q l).0);
        behind = λ e k. go e k (dec_lt e q);
        ahead = λ e k m. omega (arith, g.check, rows_rise q e (omega arith) m);
      }
        where
          here : in_column b (q + 1) (block_at b q).second ≡ degree_at now (first_of b q) + 1
          here =
              count_next _ q
              ∙ ap₂ (λ (n : ℕ) (t : Bool). n + one t) (sym number) (eq-eqb (block_at b q).second (block_at b q).second refl)

          there : (j : ℕ) → j ≢ (block_at b q).second → in_column b (q + 1) j ≡ in_column b q j
          there j d =
              count_next _ q ∙ ap (λ (t : Bool). in_column b q j + one t) (ne_eqb (block_at b q).second j (λ x. d (sym x)))
              ∙ add-zero (in_column b q j)

          go : (e : ℕ) → e < q + 1 → Dec (e < q) → (block_at b e).first ≤ rows'.check
          go e k (yes u) = omega (arith, g.check, c.behind e u, c.ahead q (omega arith) l)
          go e k (no u) = let same : e ≡ q = omega arith in omega (arith, g.check, ap (λ (x : ℕ). (block_at b x).first) same)

    -- after the last
    module _ (l : q ≡ length b.entries) where
      pub counting_all : {rows' : Rows} → GoesOn rows b.rows q rows' → (older : List ℕ) → 4 * (b.columns * b.size) ≤ length older
          → old ≡ cleared b.columns b.size older → BlocksCounted b rows' older now
      counting_all {rows'} g older room z = let none = none_yet older room z in record {
        counts = record {
          long = c.counts.long ∙ none.long;
          heads = λ j u. c.counts.heads j u ∙ ap (λ (n : ℕ). in_column b n j) l;
          rest = c.counts.rest ∙ none.rest;
        };
        to = g.check;
        rows_are = g.holds (start_of_block b) c.rows_are (λ i a u. starts_at i a (λ e k m. absurd (omega arith)) (omega arith));
      }
