-- The list of entries, judged and counted one entry on.
use Rattle.std.specs.Prelude.{Ok, Err}
use mathlib.Core.Path.{◌≡◌, sym, ap, ◌∙◌, subst}
use mathlib.Core.List.{List}
use Prim.Native.Nat.{ℕ, ◌+◌, ◌*◌, ◌/◌, ◌^◌, ◌≤◌, ◌<◌, min}
use native.Mathlib.Nat.{mul-le-mul_right}
use native.Mathlib.Numerals.{add-one}
use native.Mathlib.Omega.{arith}
use lib.ListN.{length}
use Rattle.rules.specs.Graphs.{limits}
use Rattle.refusals.specs.declared.Refusal.{Refusal}
use Rattle.refusals.specs.declared.Refusal.TheVariants.{Count}
use Rattle.refusals.specs.Refusals.{Judged}
use Rattle.words.specs.Words.{stored}
use Rattle.words.specs.Roles.{degree_at}
use Rattle.texts.specs.Lines.{pair}
use Rattle.texts.specs.Places.{cap}
use Rattle.texts.specs.Triples.{Triple, triple, triple_text}
use Rattle.texts.specs.Reading.{below, given}
use Rattle.code_sheets.specs.Reader.Storing.{GoesOn}
use Rattle.code_sheets.specs.declared.Rows.{Rows}
use Rattle.block_sheets.specs.Text.Blocks.{block_at}
use Rattle.block_sheets.specs.Text.Reading.{size_judged, block_judged, block_entries, room_of, block_layout}
use Rattle.block_sheets.specs.Text.Theorems.{Valid}
use Rattle.block_sheets.proofs.Text.Judging.{capped_size, judged_within, factor}
use Rattle.block_degrees.specs.Counting.{cleared, BlocksCounted}
use Rattle.block_degrees.proofs.Counting.{Counting, counting_row, counting_room, counting_more, counting_all}
use Rattle.block_sheets.specs.Writer.Writing.{entry_in, entries_in, blocks_given, lines_judged}
use Rattle.block_sheets.specs.Writer.Judging.{entries_given}
use Rattle.texts.proofs.Walking.{Walking, walking_end, walking_many, walking_refused, walking_more}
use Rattle.block_sheets.proofs.Writer.Texts.{entry_line, many, entry_at, entries_from}

-- the numbers of entry q, as the code has them
pub record Entry (list : List ℕ) (q i j k : ℕ) : Type 0 where
  pub first : i ≡ (entry_in list q).first
  pub second : j ≡ (entry_in list q).second
  pub third : k ≡ (entry_in list q).third

entry_is : {list : List ℕ} {q i j k : ℕ} → Entry list q i j k → triple i j k ≡ entry_in list q
entry_is e = rw (e.first, e.second, e.third)

pub entry_line_lem : {list : List ℕ} {q i j k : ℕ} → Entry list q i j k → triple_text (triple i j k) ≡ entry_line list q
entry_line_lem e = ap triple_text (entry_is e)

-- ---- judged, under size and counts c

module _ {c : Triple} (list : List ℕ) {q i0 j0 : ℕ} (w : Walking block_entries (room_of c.first) c (entries_in list) q (pair i0 j0)) where
  pub judged_all : q ≡ length list / 12 → (Ok tt) ≡ lines_judged (entries_given c (entries_in list))
  judged_all e = sym (ap lines_judged (walking_end w (omega (arith, many list))))

  module _ (l : q < length list / 12) where
    pub judged_many : room_of c.first ≤ q → Err (Count (q + 4)) ≡ lines_judged (entries_given c (entries_in list))
    judged_many u = sym (ap lines_judged (walking_many w (entries_from list q l) u))

    module _ {i j k : ℕ} (u : q < room_of c.first) (n : Entry list q i j k) {x : Judged} (e : x ≡ block_judged c (q + 4) (pair i0 j0) (triple i j k)) where
      found : block_judged c (q + 4) (pair i0 j0) (entry_in list q) ≡ x
      found = sym (e ∙ ap (block_judged c (q + 4) (pair i0 j0)) (entry_is n))

      pub judged_refused : {r : Refusal} → x ≡ Err r → Err r ≡ lines_judged (entries_given c (entries_in list))
      judged_refused p = sym (ap lines_judged (walking_refused w (entries_from list q l) u (found ∙ p)))

      pub judged_more : x ≡ Ok tt → Walking block_entries (room_of c.first) c (entries_in list) (q + 1) (pair i (j + 1))
      judged_more p =
          subst (Walking block_entries (room_of c.first) c (entries_in list) (q + 1)) (ap block_entries.after (sym (entry_is n)) ∙ ap (pair i) (sym (add-one j)))
          (walking_more w (entries_from list q l) u (found ∙ p))

-- ---- size and counts, where the code's judgement of them is x

module _ (c : Triple) (ps : List Triple) {a b d : ℕ} (ea : a ≡ min c.first cap) (eb : b ≡ min c.second cap) (ed : d ≡ min c.third cap)
    {x : Judged} (e : x ≡ size_judged (triple a b d)) where
  size_found : size_judged c ≡ x
  size_found = sym (e ∙ capped_size c a b d ea eb ed)

  pub size_refused : {r : Refusal} → x ≡ Err r → Err r ≡ lines_judged (given block_layout c ps)
  size_refused p = sym (ap (λ (y : Judged). lines_judged (below y (entries_given c ps))) (size_found ∙ p))

  module _ (p : x ≡ Ok tt) where
    pub size_some : 0 < c.first
    size_some = (judged_within c (size_found ∙ p)).0

    pub size_then : {y : Judged} → y ≡ lines_judged (entries_given c ps) → y ≡ lines_judged (given block_layout c ps)
    size_then q = q ∙ sym (ap (λ (y : Judged). lines_judged (below y (entries_given c ps))) (size_found ∙ p))

-- ---- counted

module _ {Z m n : ℕ} (list : List ℕ) (v : Valid (blocks_given Z m n list)) where
  pub few : length list / 12 ≤ limits.entries
  few = omega (arith, v.few, many list, mul-le-mul_right {m = 1} {n = Z} (length (entries_in list)) v.ordered.some)

  module _ {old now : List ℕ} {rows : Rows} {q : ℕ} (c : Counting (blocks_given Z m n list) old now rows q) where
    module _ (l : q < length list / 12) where
      within : q < length (entries_in list)
      within = omega (arith, many list)

      row_is : {i : ℕ} → i ≡ (entry_in list q).first → (block_at (blocks_given Z m n list) q).first ≡ i
      row_is e = ap (λ (p : Triple). p.first) (entry_at list q (triple 0 0 0) l) ∙ sym e

      column_is : {j : ℕ} → j ≡ (entry_in list q).second → (block_at (blocks_given Z m n list) q).second ≡ j
      column_is e = ap (λ (p : Triple). p.second) (entry_at list q (triple 0 0 0) l) ∙ sym e

      pub count_row : {i : ℕ} → i ≡ (entry_in list q).first → (rows.check ≤ i) × (i ≤ limits.checks) × (rows.first ≤ q)
      count_row e = subst (λ (x : ℕ). (rows.check ≤ x) × (x ≤ limits.checks) × (rows.first ≤ q)) (row_is e) (counting_row v c within)

      pub count_room : {j : ℕ} → j ≡ (entry_in list q).second → (j * Z < length now / 4) × (degree_at now (j * Z) + 1 < 2 ^ 32)
      count_room e = subst (λ (x : ℕ). (x * Z < length now / 4) × (degree_at now (x * Z) + 1 < 2 ^ 32)) (column_is e) (counting_room v c within)

      pub count_more : {i j : ℕ} → i ≡ (entry_in list q).first → j ≡ (entry_in list q).second → {rows' : Rows} {later : List ℕ} → GoesOn rows i q rows'
          → later ≡ stored 4 now (4 * (j * Z)) (degree_at now (j * Z) + 1) → Counting (blocks_given Z m n list) old later rows' (q + 1)
      count_more ei ej {rows'} {later} g e =
          counting_more v c within (subst (λ (x : ℕ). GoesOn rows x q rows') (sym (row_is ei)) g)
          (subst (λ (x : ℕ). later ≡ stored 4 now (4 * (x * Z)) (degree_at now (x * Z) + 1)) (sym (column_is ej)) e)

    pub count_last : (rows.check ≤ m) × (m ≤ limits.checks) × (rows.first ≤ q)
    count_last = (c.high, (factor m Z limits.checks v.checks.0 v.checks.1).0, c.first)

    pub count_all : q ≡ length list / 12 → {rows' : Rows} → GoesOn rows m q rows' → (older : List ℕ) → 4 * (n * Z) ≤ length older → old ≡ cleared n Z older
        → BlocksCounted (blocks_given Z m n list) rows' older now
    count_all l g older room z = counting_all v c (l ∙ sym (many list)) g older room z
