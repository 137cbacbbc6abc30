-- The numbers of the answers for sheets fit their places, and the library's promises hold with the answers packed.
use Rattle.std.specs.Prelude.{Ok, Err}
use mathlib.Core.Path.{◌≡◌, refl, ap, ◌∙◌}
use mathlib.Core.List.{List}
use Prim.Native.Nat.{ℕ, suc, ◌*◌}
use native.Mathlib.Omega.{arith}
use lib.ListN.{length, drop}
use Rattle.rules.specs.Graphs as Graphs
use Rattle.rules.specs.Graphs.{Graph, limits}
use Rattle.refusals.specs.Refusals.{Judged}
use Rattle.words.specs.Roles.{wide, start_at}
use Rattle.words.proofs.Words.{at_table}
use Rattle.code_sheets.specs.Reader.Reading.{Reading, turned, graph, sheet_read_in, answer_of, starts_of, ReadInto, JudgedInto, Sheet}
use Rattle.code_sheets.proofs.Reader.Texts.{texts_and_graphs}
use Rattle.code_sheets.specs.Writer.Writing.{write_finds, write_answer, JudgesWrite, WritesInto, Written}
use Rattle.code_sheets.proofs.Writer.Judging.{write_admitted}
use Rattle.code_sheets.proofs.Writer.Sizes.{sheets_short}
use Rattle.interface.specs.Packing.{pack_read, pack_written, place_of, HostReads, HostWrites, TellsPlace, TellsLine, SmallRead, SmallWritten}
use Rattle.interface.specs.Theorems.{LastStart}

-- a text that is accepted gives an admitted graph
pub read_small : (t : List ℕ) (d s c : ℕ) → SmallRead (answer_of (sheet_read_in limits t d s c))
read_small t d s c = go (sheet_read_in limits t d s c) refl
  where
    go : (x : Reading) → sheet_read_in limits t d s c ≡ x → SmallRead (answer_of x)
    go (turned r) e = omega arith
    go (graph G) e = let a = (texts_and_graphs.accepted limits t d s c G e).0 in (a.variables.1, a.checks.1)

-- .. whose starts end at E
pub starts_end : (G : Graph) → Graphs.Admitted G → (old : List ℕ) → start_at (starts_of (graph G) old) G.checks ≡ G.entries
starts_end G a old =
    at_table wide G.start (suc G.checks) (drop (wide * suc G.checks) old) G.checks (omega arith) (omega (arith, a.ends, a.entries)) ∙ a.ends

pub last_start : LastStart
last_start t d s c G e old = starts_end G (texts_and_graphs.accepted limits t d s c G e).0 old

-- the text of an admitted graph is short
pub written_small : (G : Graph) (d room : ℕ) → SmallWritten (write_answer (write_finds G d room) G)
written_small G d room = go (write_finds G d room) refl
  where
    go : (j : Judged) → write_finds G d room ≡ j → SmallWritten (write_answer j G)
    go (Err r) e = omega arith
    go (Ok _) e =
        let a = (write_admitted G d room e).0 in
        omega (arith, sheets_short G a, a.entries)

pub host_reads : {t : List ℕ} {x : Sheet} {d d' s s' c c' : List ℕ} {r : ℕ} → ReadInto limits t x d d' s s' c c' → r ≡ pack_read x → HostReads t d d' s s' c c' r
host_reads w e = record { answer = e ∙ ap pack_read w.answer; degrees = w.degrees; starts = w.starts; columns = w.columns }

pub tells_line : {t : List ℕ} {j : Judged} {d d' : List ℕ} {s c r : ℕ} → JudgedInto limits t j d d' s c → r ≡ place_of j → TellsLine t d d' s c r
tells_line w e = record { answer = e ∙ ap place_of w.judged; degrees = w.degrees }

pub host_writes : {G : Graph} {x : Written} {d d' old now : List ℕ} {r : ℕ} → WritesInto G x d d' old now → r ≡ pack_written x → HostWrites G d d' old now r
host_writes w e = record { answer = e ∙ ap pack_written w.answer; degrees = w.degrees; text = w.text }

pub tells_place : {G : Graph} {j : Judged} {d d' : List ℕ} {room r : ℕ} → JudgesWrite G room j d d' → r ≡ place_of j → TellsPlace G (place_of (write_finds G (length d) room)) d d' r
tells_place w e = record { answer = e ∙ ap place_of w.answer; degrees = w.degrees }
