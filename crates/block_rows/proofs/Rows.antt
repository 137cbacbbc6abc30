-- The pass that stores: the entries of a block row, read.
use mathlib.Core.Path.{◌≡◌, refl, sym, ap, ◌∙◌, subst}
use mathlib.Core.List.{List, map}
use Prim.Native.Nat.{ℕ, suc, ◌+◌, ◌*◌, ◌/◌, ◌≤◌, ◌<◌}
use native.Mathlib.Decide.{dec_lt}
use native.Mathlib.Omega.{arith}
use lib.ListN.{length, drop}
use Rattle.rules.specs.Graphs.{limits}
use Rattle.words.specs.Words.{stored}
use Rattle.words.specs.Roles.{wide}
use Rattle.words.proofs.Filling.{Filled, filled_none, filled_more}
use Rattle.texts.specs.Triples.{triple_line, TripleRead, KnownTriple}
use Rattle.code_sheets.proofs.Text.Entries.{start_up}
use Rattle.block_sheets.specs.Text.Blocks.{Blocks, place, start_of_block, block_degree}
use Rattle.block_sheets.proofs.Text.Expanding.{many, row_is, row_before}
use Rattle.block_sheets.specs.declared.Row.{Row}
use Rattle.block_sheets.specs.Reader.Storing.{EntriesAt, base_of, shift_of, RowAt, RowRead}
use Rattle.block_sheets.proofs.Reader.Entries.{EntryRead, entry_known, entry_read}

-- d entries of block row i are read, the next line begins at `at`
pub record Going (b : Blocks) (s : List ℕ) (i : ℕ) (bases₀ bases shifts₀ shifts : List ℕ) (at d : ℕ) : Type 0 where
  pub upto : start_of_block b i + d ≤ start_of_block b (suc i)
  pub at_entry : EntriesAt b s at (start_of_block b i + d)
  pub bases_are : Filled wide (base_of b i) bases₀ bases d
  pub shifts_are : Filled wide (shift_of b i) shifts₀ shifts d

module _ {b : Blocks} {s : List ℕ} {from left i : ℕ} {bases₀ shifts₀ : List ℕ} (h : RowAt b s from left i (length bases₀) (length shifts₀)) where
  pub going_none : Going b s i bases₀ bases₀ shifts₀ shifts₀ from 0
  going_none = record {
    upto = omega (arith, start_up (map place b.entries) i);
    at_entry = subst (EntriesAt b s from) (omega arith) h.at;
    bases_are = filled_none wide (base_of b i) bases₀;
    shifts_are = filled_none wide (shift_of b i) shifts₀;
  }

  module _ {bases shifts : List ℕ} {at d : ℕ} (g : Going b s i bases₀ bases shifts₀ shifts at d) where
    -- the row is at its end
    ended : start_of_block b (suc i) ≤ start_of_block b i + d → {r : Row} → r.degree ≡ d → r.next ≡ at → RowRead b s i r bases₀ bases shifts₀ shifts
    ended u {r} e n =
        let same : start_of_block b i + d ≡ start_of_block b (suc i) = omega (arith, g.upto) in
        record {
          degree = omega (arith, e);
          next = subst (λ (x : ℕ). EntriesAt b s x (start_of_block b (suc i))) (sym n) (subst (EntriesAt b s at) same g.at_entry);
          bases_are = subst (Filled wide (base_of b i) bases₀ bases) (sym e) g.bases_are;
          shifts_are = subst (Filled wide (shift_of b i) shifts₀ shifts) (sym e) g.shifts_are;
        }

    pub going_all : left ≡ d → RowRead b s i (record { degree = left; next = at }) bases₀ bases shifts₀ shifts
    going_all l = ended (omega (arith, h.left_is, many b h.valid.ordered (suc i))) l refl

    module _ (l : d < left) where
      going_few : start_of_block b i + d < length b.entries
      going_few = omega (arith, h.left_is)

      pub going_known : KnownTriple s at
      going_known = entry_known h.valid g.at_entry going_few

      module _ {x y z next : ℕ} (r : TripleRead (triple_line (drop at s)) s at x y z next) where
        read : EntryRead b s (start_of_block b i + d) x y z next
        read = entry_read h.valid g.at_entry going_few r

        -- an entry of another row: all of this one are read
        pub going_end : (x ≡ i → ⊥) → RowRead b s i (record { degree = d; next = at }) bases₀ bases shifts₀ shifts
        going_end n = go (dec_lt (start_of_block b i + d) (start_of_block b (suc i)))
          where
            go : Dec (start_of_block b i + d < start_of_block b (suc i)) → RowRead b s i (record { degree = d; next = at }) bases₀ bases shifts₀ shifts
            go (yes u) = absurd (n (read.first ∙ row_is b h.valid.ordered i (start_of_block b i + d) (omega arith) u))
            go (no u) = ended (omega arith) refl refl

        pub going_small : {size : ℕ} → b.size ≡ size → (y * size < limits.variables) × (z < limits.variables)
        going_small {size} e = (omega (arith, read.base, read.shift, ap (λ (n : ℕ). y * n) e), omega (arith, read.base, read.shift))

        module _ (m : x ≡ i) where
          going_row : d < block_degree b i
          going_row = omega (arith, row_before b h.valid.ordered i (start_of_block b i + d) going_few (sym read.first ∙ m))

          pub going_room : (d < length bases / wide) × (d < length shifts / wide)
          going_room = (omega (arith, going_row, h.room_bases, g.bases_are.long), omega (arith, going_row, h.room_shifts, g.shifts_are.long))

          pub going_more : {size : ℕ} → b.size ≡ size → {bases₁ shifts₁ : List ℕ} → bases₁ ≡ stored wide bases (wide * d) (y * size)
              → shifts₁ ≡ stored wide shifts (wide * d) z → Going b s i bases₀ bases₁ shifts₀ shifts₁ next (d + 1)
          going_more {size} e p q = record {
            upto = omega (arith, going_row);
            at_entry = subst (EntriesAt b s next) (omega arith) read.rest;
            bases_are = filled_more (omega (arith, going_row, h.room_bases)) g.bases_are p (ap (λ (n : ℕ). y * n) (sym e) ∙ ap (λ (n : ℕ). n * b.size) read.second);
            shifts_are = filled_more (omega (arith, going_row, h.room_shifts)) g.shifts_are q read.third;
          }
