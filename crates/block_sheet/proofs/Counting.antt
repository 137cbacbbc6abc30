-- The pass that counts, one line on.
use mathlib.Core.Path.{◌≡◌, sym, ap, subst}
use mathlib.Core.List.{List}
use Prim.Native.Nat.{ℕ, ◌+◌, ◌*◌, ◌/◌, ◌^◌, ◌≤◌, ◌<◌}
use native.Mathlib.Omega.{arith}
use lib.ListN.{length, drop}
use Rattle.rules.specs.Graphs.{limits}
use Rattle.words.specs.Words.{stored}
use Rattle.words.specs.Roles.{degree_at}
use Rattle.texts.specs.Triples.{triple_line, TripleRead, KnownTriple}
use Rattle.code_sheets.specs.Reader.Storing.{GoesOn}
use Rattle.code_sheets.specs.declared.Rows.{Rows}
use Rattle.block_sheets.specs.declared.Counts.{Counts}
use Rattle.block_sheets.proofs.Text.Judging.{factor}
use Rattle.block_degrees.specs.Counting.{cleared, BlocksCounted}
use Rattle.block_degrees.proofs.Counting.{first_of, Counting, counting_none, counting_row, counting_room, counting_more, counting_all}
use Rattle.block_sheets.specs.Reader.Storing.{blocks_from, EntriesAt, BlocksAt}
use Rattle.block_sheets.proofs.Reader.Entries.{EntryRead, entry_known, entry_read}

-- after q entries, at place i
pub record CountingLines (s : List ℕ) (k : Counts) (at : ℕ) (old now : List ℕ) (rows : Rows) (i q : ℕ) : Type 0 where
  pub counting : Counting (blocks_from s k at) old now rows q
  pub entries_at : EntriesAt (blocks_from s k at) s i q

pub lines_none : {s : List ℕ} {k : Counts} {at : ℕ} (older : List ℕ) {old : List ℕ} → BlocksAt s k at → 4 * (k.columns * k.size) ≤ length older
    → old ≡ cleared k.columns k.size older → CountingLines s k at old old (record { low = 0; check = 0; first = 0 }) at 0
lines_none older h room z = record { counting = counting_none h.valid older room z; entries_at = h.lines_are }

module _ {s : List ℕ} {k : Counts} {at : ℕ} (h : BlocksAt s k at) {old now : List ℕ} {rows : Rows} {i q : ℕ} (c : CountingLines s k at old now rows i q) where
  module _ (l : q < k.entries) where
    pub lines_known : KnownTriple s i
    lines_known = entry_known h.valid c.entries_at (omega (arith, h.many))

    module _ {x y z next : ℕ} (r : TripleRead (triple_line (drop i s)) s i x y z next) where
      read : EntryRead (blocks_from s k at) s q x y z next
      read = entry_read h.valid c.entries_at (omega (arith, h.many)) r

      pub lines_row : (rows.check ≤ x) × (x ≤ limits.checks) × (rows.first ≤ q)
      lines_row = let a = counting_row h.valid c.counting (omega (arith, h.many)) in (omega (arith, a.0, read.first), omega (arith, a.1, read.first), a.2)

      pub lines_place : y * k.size < limits.variables
      lines_place = omega (arith, read.base, h.valid.ordered.some)

      first_is : y * k.size ≡ first_of (blocks_from s k at) q
      first_is = ap (λ (n : ℕ). n * k.size) read.second

      pub lines_room : (y * k.size < length now / 4) × (degree_at now (y * k.size) + 1 < 2 ^ 32)
      lines_room = subst (λ (n : ℕ). (n < length now / 4) × (degree_at now n + 1 < 2 ^ 32)) (sym first_is) (counting_room h.valid c.counting (omega (arith, h.many)))

      pub lines_more : {rows' : Rows} {later : List ℕ} → GoesOn rows x q rows' → later ≡ stored 4 now (4 * (y * k.size)) (degree_at now (y * k.size) + 1)
          → CountingLines s k at old later rows' next (q + 1)
      lines_more {rows'} {later} g e = record {
        counting =
            counting_more h.valid c.counting (omega (arith, h.many)) (subst (λ (n : ℕ). GoesOn rows n q rows') read.first g)
            (subst (λ (n : ℕ). later ≡ stored 4 now (4 * n) (degree_at now n + 1)) first_is e);
        entries_at = read.rest;
      }

  module _ (e : k.entries ≤ q) where
    pub lines_last : (rows.check ≤ k.rows) × (k.rows ≤ limits.checks) × (rows.first ≤ q)
    lines_last = (c.counting.high, (factor k.rows k.size limits.checks h.valid.checks.0 h.valid.checks.1).0, c.counting.first)

    pub lines_all : {rows' : Rows} → GoesOn rows k.rows q rows' → (older : List ℕ) → 4 * (k.columns * k.size) ≤ length older
        → old ≡ cleared k.columns k.size older → BlocksCounted (blocks_from s k at) rows' older now
    lines_all g older room z = counting_all h.valid c.counting (omega (arith, h.many, c.entries_at.few)) g older room z
