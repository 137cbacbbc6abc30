-- The same for block sheets.
use Rattle.std.specs.Prelude.{Ok, Err}
use mathlib.Core.Path.{◌≡◌, refl, ap, ◌∙◌}
use mathlib.Core.List.{List}
use Prim.Native.Nat.{ℕ}
use native.Mathlib.Nat.{mul-le-mul_right}
use native.Mathlib.Omega.{arith}
use lib.ListN.{length}
use Rattle.refusals.specs.Refusals.{Judged}
use Rattle.refusals.proofs.Judging.{or_else_left}
use Rattle.code_sheets.specs.Reader.Reading.{Reading, turned, graph, answer_of, Sheet}
use Rattle.code_sheets.specs.Writer.Writing.{Written}
use Rattle.block_sheets.specs.Text.Blocks.{Blocks}
use Rattle.block_sheets.specs.Reader.Reading.{block_read_in, BlocksReadInto, BlocksJudgedInto}
use Rattle.block_sheets.proofs.Reader.Accepting.{blocks_accepted}
use Rattle.block_sheets.specs.Writer.Writing.{lines_judged, blocks_write_finds, blocks_write_answer, JudgesBlocksWrite, WritesBlocksInto}
use Rattle.block_sheets.proofs.Writer.Judging.{found, lines_are}
use Rattle.block_sheets.proofs.Writer.Sizes.{blocks_short}
use Rattle.interface.specs.Packing.{pack_read, pack_written, place_of, SmallRead, SmallWritten}
use Rattle.interface.specs.Theorems.{BlocksLastStart}
use Rattle.interface.proofs.SheetAnswers.{starts_end}
use Rattle.interface.specs.Blocks.{HostReadsBlocks, TellsBlocksLine, HostWritesBlocks, TellsBlocksPlace}

-- a text that is accepted gives an admitted graph
pub blocks_small : (t : List ℕ) (d s c : ℕ) → SmallRead (answer_of (block_read_in t d s c))
blocks_small t d s c = go (block_read_in t d s c) refl
  where
    go : (x : Reading) → block_read_in t d s c ≡ x → SmallRead (answer_of x)
    go (turned r) e = omega arith
    go (graph G) e = let a = (blocks_accepted.only t d s c G e).admitted in (a.variables.1, a.checks.1)

pub blocks_last_start : BlocksLastStart
blocks_last_start t d s c G e old = starts_end G (blocks_accepted.only t d s c G e).admitted old

pub host_reads_blocks : {t : List ℕ} {x : Sheet} {d d' s s' c c' : List ℕ} {r : ℕ} → BlocksReadInto t x d d' s s' c c' → r ≡ pack_read x
    → HostReadsBlocks t d d' s s' c c' r
host_reads_blocks w e = record { answer = e ∙ ap pack_read w.read.answer; degrees = w.degrees; starts = w.read.starts; columns = w.read.columns }

pub tells_blocks_line : {t : List ℕ} {j : Judged} {d d' : List ℕ} {s c r : ℕ} → BlocksJudgedInto t j d d' s c → r ≡ place_of j → TellsBlocksLine t d d' s c r
tells_blocks_line w e = record { answer = e ∙ ap place_of w.judged; degrees = w.degrees }

-- the text of blocks that are written is short
pub blocks_written_small : (b : Blocks) (d room : ℕ) → SmallWritten (blocks_write_answer (blocks_write_finds b d room) b)
blocks_written_small b d room = go (blocks_write_finds b d room) refl
  where
    go : (j : Judged) → blocks_write_finds b d room ≡ j → SmallWritten (blocks_write_answer j b)
    go (Err r) e = omega arith
    go (Ok _) e =
        let v = (lines_are b (or_else_left (lines_judged (found b)) _ e)).1 in
        omega (arith, blocks_short b v, v.few, mul-le-mul_right {m = 1} {n = b.size} (length b.entries) v.ordered.some)

pub host_writes_blocks : {b : Blocks} {x : Written} {d d' old now : List ℕ} {r : ℕ} → WritesBlocksInto b x d d' old now → r ≡ pack_written x
    → HostWritesBlocks b d d' old now r
host_writes_blocks w e = record { answer = e ∙ ap pack_written w.answer; degrees = w.degrees; text = w.text }

pub tells_blocks_place : {b : Blocks} {j : Judged} {d d' : List ℕ} {room r : ℕ} → JudgesBlocksWrite b room j d d' → r ≡ place_of j → TellsBlocksPlace b d d' room r
tells_blocks_place w e = record { answer = e ∙ ap place_of w.answer; degrees = w.degrees }
