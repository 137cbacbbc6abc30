-- The parts of a block sheet's text, how long they are, and how they are put.
use mathlib.Core.Path.{◌≡◌, refl, sym, ap, ap₂, ◌∙◌}
use mathlib.Core.List.{List, [], ◌∷◌, ◌++◌, append_assoc, append-nil}
use Prim.Native.Nat.{ℕ, zero, suc, ◌+◌, ◌/◌, ◌≤◌, ◌<◌}
use native.Mathlib.Numerals.{add-one}
use native.Mathlib.Omega.{arith}
use lib.ListN.{length, drop, get_or, length-append}
use lib.Seq.{drop-cons}
use Rattle.rules.specs.Ranges.{joined, tabulate}
use Rattle.rules.proofs.Ranges.{length_tabulate, get_d_tabulate}
use Rattle.texts.specs.Numbers.{decimal}
use Rattle.texts.specs.Lines.{space, pair, line_text}
use Rattle.texts.specs.Triples.{Triple, triple, triple_text}
use Rattle.texts.specs.Putting.{Put}
use Rattle.texts.proofs.Putting.{put_then, put_same, put_long}
use Rattle.texts.specs.Layouts.{EntryLines, entries_text, sheet_of}
use Rattle.block_sheets.specs.Text.Blocks.{Blocks}
use Rattle.block_sheets.specs.Text.Reading.{counted, block_entries, block_layout, block_text}
use Rattle.block_sheets.specs.Writer.Writing.{entry_in, entries_in}

-- ---- a line of three numbers

pub line_long : (a b c : ℕ) → length (triple_text (triple a b c)) ≡ length (decimal a) + 1 + length (line_text (pair b c))
unfolding triple_text
line_long a b c = length-append (decimal a) (space ∷ line_text (pair b c)) ∙ omega arith

-- after the first number there is room for the others
pub put_rest : (a b c : ℕ) {old mid : List ℕ} {at i : ℕ} → at + length (triple_text (triple a b c)) ≤ length old → Put (decimal a ++ (space ∷ [])) old mid at i
    → i + length (line_text (pair b c)) ≤ length mid
put_rest a b c h p = omega (arith, line_long a b c, length-append (decimal a) (space ∷ []), p.after, put_long p)

pub put_fields : (a b c : ℕ) {old mid now : List ℕ} {at i next : ℕ} → Put (decimal a ++ (space ∷ [])) old mid at i → Put (line_text (pair b c)) mid now i next
    → Put (triple_text (triple a b c)) old now at next
unfolding triple_text
put_fields a b c p q = put_same (put_then p q) (append_assoc (decimal a) (space ∷ []) (line_text (pair b c)))

-- ---- the entries

module _ {C A L : Type 0} (E : EntryLines C A L) where
  entries_append : (ps qs : List A) → entries_text E (ps ++ qs) ≡ entries_text E ps ++ entries_text E qs
  unfolding entries_text
  entries_append [] qs = refl
  entries_append (p ∷ ps) qs = ap (λ (t : List ℕ). E.entry_text p ++ t) (entries_append ps qs) ∙ sym (append_assoc (E.entry_text p) (entries_text E ps) (entries_text E qs))

  entries_joined : (f : ℕ → A) (n : ℕ) → entries_text E (tabulate f n) ≡ joined (λ k. E.entry_text (f k)) n
  unfolding tabulate joined entries_text
  entries_joined f zero = refl
  entries_joined f (suc n) = entries_append (tabulate f n) (f n ∷ []) ∙ ap₂ ◌++◌ (entries_joined f n) (append-nil (E.entry_text (f n)))

-- the line of entry q
abbrev pub entry_line : List ℕ → ℕ → List ℕ
entry_line list q = triple_text (entry_in list q)

module _ (list : List ℕ) where
  pub many : length (entries_in list) ≡ length list / 12
  many = length_tabulate (entry_in list) (length list / 12)

  pub entry_at : (q : ℕ) (d : Triple) → q < length list / 12 → get_or (entries_in list) q d ≡ entry_in list q
  entry_at q d l = get_d_tabulate (entry_in list) (length list / 12) q d l

  -- the entries from entry q on
  pub entries_from : (q : ℕ) → q < length list / 12 → drop q (entries_in list) ≡ entry_in list q ∷ drop (q + 1) (entries_in list)
  entries_from q l =
      drop-cons (entries_in list) q (entry_in list q) (omega (arith, many))
      ∙ ap₂ (λ (p : Triple) (n : ℕ). p ∷ drop n (entries_in list)) (entry_at q (entry_in list q) l) (sym (add-one q))

  pub all_lines : entries_text block_entries (entries_in list) ≡ joined (entry_line list) (length list / 12)
  all_lines = entries_joined block_entries (entry_in list) (length list / 12)

-- ---- the sheet

module _ (b : Blocks) where
  pub sheet_long : length (block_text b) ≡ 18 + length (triple_text (counted b)) + 17 + length (entries_text block_entries b.entries)
  unfolding sheet_of
  sheet_long = simp length-append (omega arith)

  pub put_lines : {old one two three now : List ℕ} {i j k next : ℕ} → Put block_layout.heading old one 0 i → Put (triple_text (counted b)) one two i j
      → Put block_layout.titles two three j k → Put (entries_text block_entries b.entries) three now k next → Put (block_text b) old now 0 next
  unfolding sheet_of
  put_lines p q r s = put_then p (put_then q (put_then r s))
