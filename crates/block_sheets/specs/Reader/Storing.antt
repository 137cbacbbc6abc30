-- What the passes over the entries' lines, judged before, owe.
use Rattle.std.specs.Prelude.{◌≡◌, ◌≢◌, List, [], ◌++◌, ℕ, suc, ◌+◌, ◌*◌, ◌%◌, ◌^◌, ◌≤◌, ◌<◌, length, drop}
use Rattle.words.specs.Words.{table}
use Rattle.words.specs.Roles.{wide, column_at}
use Rattle.words.proofs.Filling.{Filled}
use Rattle.texts.specs.Lines.{pair}
use Rattle.texts.specs.Triples.{Triple}
use Rattle.texts.specs.Layouts.{entries_text}
use Rattle.texts.specs.Reading.{Lines, refused, lines, rows}
use Rattle.block_sheets.specs.Text.Blocks.{Blocks, block_at, start_of_block, block_degree}
use Rattle.block_sheets.specs.Text.Reading.{blocks_of, block_entries, room_of}
use Rattle.block_sheets.specs.Text.Scanning.{counts_in}
use Rattle.block_sheets.specs.Text.Theorems.{Valid}
use Rattle.block_sheets.specs.declared.Counts.{Counts}
use Rattle.block_sheets.specs.declared.Row.{Row}

abbrev pub lines_entries : Lines Triple Triple → List Triple
lines_entries (refused r) = []
lines_entries (lines c ps) = ps

-- The blocks of these counts whose entries' lines are the text from place `at` on.
abbrev pub blocks_from : List ℕ → Counts → ℕ → Blocks
blocks_from s k at = blocks_of (counts_in k) (lines_entries (rows block_entries (counts_in k) (room_of k.size) 4 (pair 0 0) [] (drop at s)))

-- The lines of the entries from number q on begin at `at`.
pub record EntriesAt (b : Blocks) (s : List ℕ) (at q : ℕ) : Type 0 where
  pub few : q ≤ length b.entries
  pub text : drop at s ≡ entries_text block_entries (drop q b.entries)

-- They were judged before, and are as many as the counts say.
pub record BlocksAt (s : List ℕ) (k : Counts) (at : ℕ) : Type 0 where
  pub valid : Valid (blocks_from s k at)
  pub many : length (blocks_from s k at).entries ≡ k.entries
  pub lines_are : EntriesAt (blocks_from s k at) s at 0

-- ---- the entries of a block row

-- Of entry p of block row i the first variable of its block column, and its shift.
abbrev pub base_of : Blocks → ℕ → ℕ → ℕ
base_of b i p = (block_at b (start_of_block b i + p)).second * b.size

abbrev pub shift_of : Blocks → ℕ → ℕ → ℕ
shift_of b i p = (block_at b (start_of_block b i + p)).third

-- The lines of block row i begin at `from`, and `left` entries are left; the row has room in lists of so many bytes.
pub record RowAt (b : Blocks) (s : List ℕ) (from left i bases shifts : ℕ) : Type 0 where
  pub valid : Valid b
  pub at : EntriesAt b s from (start_of_block b i)
  pub left_is : left + start_of_block b i ≡ length b.entries
  pub row : i < b.rows
  pub room_bases : wide * block_degree b i ≤ bases
  pub room_shifts : wide * block_degree b i ≤ shifts

-- Any blocks of this size may be those of the text.
pub record RowAhead (s : List ℕ) (from left i size bases shifts : ℕ) : Type 0 where
  pub blocks : Blocks
  pub size_is : blocks.size ≡ size
  pub row_at : RowAt blocks s from left i bases shifts

-- The row was read.
pub record RowRead (b : Blocks) (s : List ℕ) (i : ℕ) (r : Row) (bases₀ bases shifts₀ shifts : List ℕ) : Type 0 where
  pub degree : r.degree ≡ block_degree b i
  pub next : EntriesAt b s r.next (start_of_block b (suc i))
  pub bases_are : Filled wide (base_of b i) bases₀ bases r.degree
  pub shifts_are : Filled wide (shift_of b i) shifts₀ shifts r.degree

-- ---- the checks of a block row

-- The first M numbers of a list are those of g, and the rest is as it was.
pub record Holds (M : ℕ) (g : ℕ → ℕ) (old now : List ℕ) : Type 0 where
  pub long : length now ≡ length old
  pub is : now ≡ table wide g M ++ drop (wide * M) old

-- So many numbers, those of f, were put from place e on, d apart; all others are those of g.
pub record Along (M : ℕ) (g : ℕ → ℕ) (old now : List ℕ) (e d count : ℕ) (f : ℕ → ℕ) : Type 0 where
  pub then : ℕ → ℕ
  pub holds : Holds M then old now
  pub at : (r : ℕ) → r < count → then (e + r * d) ≡ f r
  pub else_same : (i : ℕ) → ((r : ℕ) → r < count → i ≢ e + r * d) → then i ≡ g i

-- Whatever the list held before.
abbrev pub PutsAlong : ℕ → ℕ → ℕ → (ℕ → ℕ) → List ℕ → List ℕ → Type 0
PutsAlong e d count f c c' =
    (M : ℕ) (g : ℕ → ℕ) (old : List ℕ) → Holds M g old c → ((r : ℕ) → r < count → e + r * d < M) → Along M g old c' e d count f

-- 'Variable jZ + ((r + k) mod Z)', with jZ and k given.
abbrev pub one_of : ℕ → ℕ → ℕ → ℕ → ℕ
one_of base shift size r = base + (r + shift) % size

-- The d ones of a check: bases and shifts below the size.
pub record Ones (bases shifts : List ℕ) (d size : ℕ) : Type 0 where
  pub room_bases : wide * d ≤ length bases
  pub room_shifts : wide * d ≤ length shifts
  pub small : (p : ℕ) → p < d → column_at bases p + size ≤ 256 ^ wide
  pub shift : (p : ℕ) → p < d → column_at shifts p < size

-- The ones of the first q entries of a block row were put, in its checks from place e on; what stands before e is that of g.
pub record RowPut (M : ℕ) (g : ℕ → ℕ) (old now : List ℕ) (bases shifts : List ℕ) (d size e q : ℕ) : Type 0 where
  pub then : ℕ → ℕ
  pub holds : Holds M then old now
  pub at : (r p : ℕ) → r < size → p < q → then (e + r * d + p) ≡ one_of (column_at bases p) (column_at shifts p) size r
  pub above : (i : ℕ) → i < e → then i ≡ g i

abbrev pub PutsRow : List ℕ → List ℕ → ℕ → ℕ → ℕ → List ℕ → List ℕ → Type 0
PutsRow bases shifts d size e c c' = (M : ℕ) (g : ℕ → ℕ) (old : List ℕ) → Holds M g old c → e + size * d ≤ M → RowPut M g old c' bases shifts d size e d
