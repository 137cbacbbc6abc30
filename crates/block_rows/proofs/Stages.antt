-- The pass that stores, one block row on: what the two lists hold after some block rows, and after the last.
use mathlib.Core.Path.{◌≡◌, refl, sym, ap, ap₂, ◌∙◌, subst}
use mathlib.Core.List.{List, map, ◌++◌}
use Prim.Native.Nat.{ℕ, zero, suc, ◌+◌, ◌-◌, ◌*◌, ◌/◌, ◌%◌, ◌≤◌, ◌<◌}
use native.Mathlib.Decide.{dec_lt}
use native.Mathlib.Nat.{zero-mul, mul-zero, suc-mul, mul-add, mul-le-mul_left, mul-le-mul_right, mod-lt, div-add-mod', div-lt_iff_lt-mul}
use native.Mathlib.Omega.{arith}
use lib.ListN.{length, get_or, drop, length-map}
use Rattle.rules.specs.Graphs.{limits}
use Rattle.words.specs.Words.{stored, word, table}
use Rattle.words.specs.Roles.{wide, column_at}
use Rattle.words.proofs.Words.{at_table, table_ext}
use Rattle.words.proofs.Filling.{Filled, filled_none, filled_more, filled_end}
use Rattle.texts.specs.Lines.{pair}
use Rattle.code_sheets.specs.Reader.Storing.{Stores}
use Rattle.code_sheets.proofs.Text.Entries.{start_zero, start_up, start_end}
use Rattle.block_sheets.specs.Text.Blocks.{Blocks, place, block_at, start_of_block, block_degree}
use Rattle.block_sheets.specs.Text.Expansion.{expansion}
use Rattle.block_sheets.specs.Text.Theorems.{Valid}
use Rattle.block_sheets.specs.declared.Counts.{Counts}
use Rattle.block_sheets.proofs.Text.Expanding.{many, ends, block_start, block_column, risen, entry_within}
use Rattle.block_sheets.specs.Reader.Storing.{blocks_from, EntriesAt, BlocksAt, base_of, shift_of, RowAt, RowAhead, RowRead, Holds, Ones, one_of, RowPut, PutsRow}
use Rattle.block_sheets.specs.declared.Row.{Row}
use Rattle.block_rows.proofs.Putting.{holds_self}

-- of M columns, those below e are the numbers of f
pub record ColumnsTo (f : ℕ → ℕ) (M : ℕ) (old now : List ℕ) (e : ℕ) : Type 0 where
  pub held : ℕ → ℕ
  pub holds : Holds M held old now
  pub upto : (x : ℕ) → x < e → held x ≡ f x

-- before block row i, whose entries' lines begin at `from`, of `left` entries that are left; its checks are those from c on, its columns those from e on
pub record Storing (s : List ℕ) (k : Counts) (at : ℕ) (starts₀ starts columns₀ columns : List ℕ) (from left i c e : ℕ) : Type 0 where
  pub up : i ≤ k.rows
  pub entries_at : EntriesAt (blocks_from s k at) s from (start_of_block (blocks_from s k at) i)
  pub left_is : left + start_of_block (blocks_from s k at) i ≡ length (blocks_from s k at).entries
  pub check : c ≡ i * k.size
  pub place_is : e ≡ k.size * start_of_block (blocks_from s k at) i
  pub starts_are : Filled wide (expansion (blocks_from s k at)).start starts₀ starts c
  pub columns_are : ColumnsTo (expansion (blocks_from s k at)).column (k.size * k.entries) columns₀ columns e

pub storing_none : {s : List ℕ} {k : Counts} {at : ℕ} → BlocksAt s k at → (starts columns : List ℕ) → wide * (k.size * k.entries) ≤ length columns
    → ((x : ℕ) → get_or columns x 0 < 256) → Storing s k at starts starts columns columns at k.entries 0 0 0
storing_none {s} {k} {at} h starts columns room bytes =
    let b = blocks_from s k at in
    let first = start_zero (map place b.entries) in
    record {
      up = omega arith;
      entries_at = subst (EntriesAt b s at) (sym first) h.lines_are;
      left_is = omega (arith, first, h.many);
      check = sym (zero-mul k.size);
      place_is = sym (ap (λ (n : ℕ). k.size * n) first ∙ mul-zero k.size);
      starts_are = filled_none wide (expansion b).start starts;
      columns_are = record { held = column_at columns; holds = holds_self (k.size * k.entries) columns room bytes; upto = λ x l. absurd (omega arith) };
    }

-- entry p of a block row, off the lists
module _ {b : Blocks} (v : Valid b) {s : List ℕ} {i : ℕ} {row : Row} {bases₀ bases shifts₀ shifts : List ℕ} (r : RowRead b s i row bases₀ bases shifts₀ shifts) where
  module _ (p : ℕ) (l : p < row.degree) where
    number : start_of_block b i + p < length b.entries
    number = omega (arith, r.degree, many b v.ordered (suc i))

    base_small : base_of b i p + b.size ≤ limits.variables
    base_small =
        let j = (block_at b (start_of_block b i + p)).second in
        omega (arith, suc-mul j b.size, mul-le-mul_right {m = suc j} {n = b.columns} b.size (entry_within b v.ordered (start_of_block b i + p) number).1, v.variables.1)

    shift_small : shift_of b i p < b.size
    shift_small = (entry_within b v.ordered (start_of_block b i + p) number).2

    base_at : column_at bases p ≡ base_of b i p
    base_at = ap (λ (x : List ℕ). word wide x (wide * p)) r.bases_are.is ∙ at_table wide (base_of b i) row.degree (drop (wide * row.degree) bases₀) p l (omega (arith, base_small))

    shift_at : column_at shifts p ≡ shift_of b i p
    shift_at = ap (λ (x : List ℕ). word wide x (wide * p)) r.shifts_are.is ∙ at_table wide (shift_of b i) row.degree (drop (wide * row.degree) shifts₀) p l (omega (arith, shift_small, base_small))

  row_ones : wide * row.degree ≤ length bases → wide * row.degree ≤ length shifts → Ones bases shifts row.degree b.size
  row_ones hb hs = record {
    room_bases = hb;
    room_shifts = hs;
    small = λ p l. omega (arith, base_at p l, base_small p l);
    shift = λ p l. omega (arith, shift_at p l, shift_small p l);
  }

  -- the ones of check iZ + t
  row_one : i < b.rows → (t p : ℕ) → t < b.size → p < row.degree
      → one_of (column_at bases p) (column_at shifts p) b.size t ≡ (expansion b).column (b.size * start_of_block b i + t * row.degree + p)
  row_one u t p h l =
      ap₂ (λ (x y : ℕ). one_of x y b.size t) (base_at p l) (shift_at p l)
      ∙ sym (block_column b v.ordered i u t p h (omega (arith, r.degree)))
      ∙ ap (λ (d : ℕ). (expansion b).column (b.size * start_of_block b i + t * d + p)) (sym r.degree)

module _ {s : List ℕ} {k : Counts} {at : ℕ} (h : BlocksAt s k at) {starts₀ starts columns₀ columns : List ℕ} {from left i c e : ℕ}
    (q : Storing s k at starts₀ starts columns₀ columns from left i c e) where
  abbrev b : Blocks
  b = blocks_from s k at

  module _ (u : i < k.rows) where
    -- the row ahead
    pub stage_at : {bases shifts : ℕ} → wide * block_degree b i ≤ bases → wide * block_degree b i ≤ shifts → RowAt b s from left i bases shifts
    stage_at hb hs = record { valid = h.valid; at = q.entries_at; left_is = q.left_is; row = u; room_bases = hb; room_shifts = hs }

    pub stage_ahead : {bases shifts : ℕ} → wide * block_degree b i ≤ bases → wide * block_degree b i ≤ shifts → RowAhead s from left i k.size bases shifts
    stage_ahead hb hs = record { blocks = b; size_is = refl; row_at = stage_at hb hs }

    -- the columns of block row i end where those of the next begin
    whole : k.size * start_of_block b (suc i) ≡ e + k.size * block_degree b i
    whole =
        ap (λ (n : ℕ). k.size * n) (omega (arith, start_up (map place b.entries) i)) ∙ mul-add k.size (start_of_block b i) (block_degree b i)
        ∙ omega (arith, q.place_is)

    pub stage_checks : c + k.size ≤ k.rows * k.size
    stage_checks = omega (arith, q.check, mul-le-mul_right {m = suc i} {n = k.rows} k.size u, suc-mul i k.size)

    module _ {row : Row} {bases₀ bases shifts₀ shifts : List ℕ} (r : RowRead b s i row bases₀ bases shifts₀ shifts) where
      degree : k.size * row.degree ≡ k.size * block_degree b i
      degree = ap (λ (n : ℕ). k.size * n) r.degree

      pub stage_columns : (e + k.size * row.degree ≤ k.size * k.entries) × (k.size * k.entries ≤ limits.entries)
      stage_columns = (
        omega (arith, degree, whole, mul-le-mul_left {m = start_of_block b (suc i)} {n = length b.entries} k.size (many b h.valid.ordered (suc i)), ap (λ (n : ℕ). k.size * n) h.many),
        omega (arith, h.valid.few, ap (λ (n : ℕ). k.size * n) h.many),
      )

      pub stage_left : row.degree ≤ left
      stage_left = omega (arith, r.degree, q.left_is, many b h.valid.ordered (suc i))

      pub stage_ones : wide * block_degree b i ≤ length bases → wide * block_degree b i ≤ length shifts → Ones bases shifts row.degree k.size
      stage_ones hb hs = row_ones h.valid r (omega (arith, r.degree)) (omega (arith, r.degree))

      pub start_at_lem : (t : ℕ) → t < k.size → e + t * row.degree ≡ (expansion b).start (c + t)
      start_at_lem t l =
          omega (arith, q.place_is, ap (λ (n : ℕ). t * n) r.degree, block_start b h.valid.ordered i t (omega arith))
          ∙ ap (λ (n : ℕ). (expansion b).start (n + t)) (sym q.check)

      column_at_lem : (t p : ℕ) → t < k.size → p < row.degree
          → one_of (column_at bases p) (column_at shifts p) k.size t ≡ (expansion b).column (e + t * row.degree + p)
      column_at_lem t p l m = row_one h.valid r u t p l m ∙ ap (λ (n : ℕ). (expansion b).column (n + t * row.degree + p)) (sym q.place_is)

      columns_more : {columns₁ : List ℕ} → PutsRow bases shifts row.degree k.size e columns columns₁
          → ColumnsTo (expansion b).column (k.size * k.entries) columns₀ columns₁ (e + k.size * row.degree)
      columns_more {columns₁} puts =
          let w = puts (k.size * k.entries) q.columns_are.held columns₀ q.columns_are.holds stage_columns.0 in
          record { held = w.then; holds = w.holds; upto = λ x l. go x l w (dec_lt x e) }
        where
          go : (x : ℕ) → x < e + k.size * row.degree
              → (w : RowPut (k.size * k.entries) q.columns_are.held columns₀ columns₁ bases shifts row.degree k.size e row.degree)
              → Dec (x < e) → w.then x ≡ (expansion b).column x
          go x l w (yes y) = w.above x y ∙ q.columns_are.upto x y
          go x l w (no n) =
              let d = row.degree in
              let y : ℕ = x - e in
              let some : 0 < d = positive d (omega arith) in
              let split : y / d * d + y % d ≡ y = div-add-mod' y d in
              let t : y / d < k.size = (div-lt_iff_lt-mul {k = d} {x = y} {y = k.size} some).1 (omega arith) in
              let p : y % d < d = mod-lt y some in
              let at : x ≡ e + y / d * d + y % d = omega arith in
              ap w.then at ∙ w.at (y / d) (y % d) t p ∙ column_at_lem (y / d) (y % d) t p ∙ ap (expansion b).column (sym at)
            where
              positive : (n : ℕ) → 0 < k.size * n → 0 < n
              positive zero l = absurd (omega (arith, mul-zero k.size))
              positive (suc n) l = omega arith

      pub stage_more : {starts₁ columns₁ : List ℕ} → Filled wide (expansion b).start starts₀ starts₁ (c + k.size)
          → PutsRow bases shifts row.degree k.size e columns columns₁
          → Storing s k at starts₀ starts₁ columns₀ columns₁ row.next (left - row.degree) (i + 1) (c + k.size) (e + k.size * row.degree)
      stage_more {starts₁} {columns₁} f puts =
          let n : suc i ≡ i + 1 = omega arith in
          record {
            up = omega arith;
            entries_at = subst (λ (j : ℕ). EntriesAt b s row.next (start_of_block b j)) n r.next;
            left_is = omega (arith, r.degree, q.left_is, stage_left, start_up (map place b.entries) i, ap (start_of_block b) n);
            check = omega (arith, q.check, suc-mul i k.size, ap (λ (j : ℕ). j * k.size) n);
            place_is = omega (arith, degree, whole, ap (λ (j : ℕ). k.size * start_of_block b j) n);
            starts_are = f;
            columns_are = columns_more puts;
          }

  module _ (u : k.rows ≤ i) where
    done : i ≡ k.rows
    done = omega (arith, q.up)

    total : e ≡ k.size * length b.entries
    total =
        q.place_is
        ∙ ap (λ (n : ℕ). k.size * n)
        (ap (start_of_block b) done ∙ start_end (pair b.columns b.rows) (pair 0 0) (map place b.entries) (risen b h.valid.ordered) ∙ length-map b.entries place)

    pub stage_last : (c ≡ k.rows * k.size) × (e ≤ limits.entries)
    stage_last = (q.check ∙ ap (λ (n : ℕ). n * k.size) done, omega (arith, total, h.valid.few))

    all : (expansion b).entries ≡ k.size * k.entries
    all = ap (λ (n : ℕ). k.size * n) h.many

    pub stage_all : wide * suc (k.rows * k.size) ≤ length starts₀ → {starts₁ : List ℕ} → starts₁ ≡ stored wide starts (wide * c) e
        → Stores (expansion b) starts₀ starts₁ columns₀ columns
    stage_all room st = record {
      starts =
          filled_end (omega (arith, stage_last.0))
          (filled_more (omega (arith, stage_last.0)) q.starts_are st (total ∙ sym (ends b h.valid.ordered) ∙ ap (expansion b).start (sym stage_last.0)));
      columns =
          q.columns_are.holds.is
          ∙ ap (λ (n : ℕ). table wide q.columns_are.held n ++ drop (wide * n) columns₀) (sym all)
          ∙ ap (λ (t : List ℕ). t ++ drop (wide * (expansion b).entries) columns₀)
          (table_ext wide q.columns_are.held (expansion b).column (expansion b).entries (λ x l. q.columns_are.upto x (omega (arith, total))));
    }
