-- The whole call: from the lines of a block sheet to what follows them.
use Rattle.std.specs.Prelude.{Ok, Err}
use mathlib.Core.Path.{◌≡◌, refl, sym, ap, ◌∙◌, subst}
use mathlib.Core.List.{List}
use Prim.Native.Nat.{ℕ}
use lib.ListN.{length}
use Rattle.rules.specs.Graphs.{Graph, limits}
use Rattle.refusals.specs.declared.Refusal.{Refusal}
use Rattle.refusals.specs.Refusals.{Judged}
use Rattle.texts.specs.Triples.{Triple}
use Rattle.texts.specs.Reading.{Lines, refused}
use Rattle.texts.specs.Scanning.{LinesAt}
use Rattle.code_sheets.specs.Reader.Reading.{Reading, after_lines_in, unless_refused, read_judged, degrees_in, ReadAs, Sheet}
use Rattle.code_sheets.specs.Reader.Storing.{AfterLines, Finished}
use Rattle.block_sheets.specs.Text.Expansion.{expansion}
use Rattle.block_sheets.specs.Text.Reading.{block_entries, room_of, block_lines}
use Rattle.block_sheets.specs.Text.Scanning.{counts_in}
use Rattle.block_sheets.specs.declared.Counts.{Counts}
use Rattle.block_sheets.specs.Degrees.Lending.{block_degrees_of}
use Rattle.block_sheets.specs.Reader.Reading.{read_blocks, block_read_in, BlocksReadInto, BlocksJudgedInto}
use Rattle.block_sheets.specs.Reader.Storing.{blocks_from}
use Rattle.block_sheets.proofs.Reader.Entries.{lines_are}

-- ---- the lines are refused

module _ {t : List ℕ} {r : Refusal} (e : block_lines t ≡ refused r) where
  pub lines_refused : {d s c : List ℕ} → BlocksReadInto t (Err r) d d s s c c
  unfolding block_read_in
  lines_refused = record { read = rw e (record { answer = refl; starts = refl; columns = refl }); degrees = rw e }

  pub lines_judged_lem : {d : List ℕ} {s c : ℕ} → BlocksJudgedInto t (Err r) d d s c
  unfolding block_read_in
  lines_judged_lem = record { judged = rw e; degrees = rw e }

-- ---- the lines are not refused

pub judged_back : (j : Judged) (G : Graph) → read_judged (unless_refused j G) ≡ j
judged_back (Ok _) G = refl
judged_back (Err r) G = refl

module _ {t : List ℕ} {k : Counts} {at : ℕ} (h : LinesAt block_entries (room_of k.size) t (block_lines t) (counts_in k) k.entries at) where
  abbrev G : Graph
  G = expansion (blocks_from t k at)

  reading : (d s c : ℕ) → block_read_in t d s c ≡ unless_refused (after_lines_in limits G d s c) G
  unfolding block_read_in
  reading d s c = ap (read_blocks (λ G. after_lines_in limits G d s c)) (lines_are h)

  degrees_same : (d : List ℕ) → block_degrees_of (block_lines t) d ≡ degrees_in G d
  degrees_same d = ap (λ (x : Lines Triple Triple). block_degrees_of x d) (lines_are h)

  pub read_into : {r : Sheet} {d d' s s' c c' : List ℕ} → Finished G r d d' s s' c c' → BlocksReadInto t r d d' s s' c c'
  read_into {r} {d} {d'} {s} {s'} {c} {c'} f = record {
    read = subst (λ (x : Reading). ReadAs x r s s' c c') (sym (reading (length d) (length s) (length c))) f.read;
    degrees = f.degrees ∙ sym (degrees_same d);
  }

  pub judged_into : {r : Judged} {d d' : List ℕ} {s c : ℕ} → AfterLines G r d d' s c → BlocksJudgedInto t r d d' s c
  judged_into {d = d} {s = s} {c = c} f = record {
    judged = f.judged ∙ sym (ap read_judged (reading (length d) s c) ∙ judged_back (after_lines_in limits G (length d) s c) G);
    degrees = f.degrees ∙ sym (degrees_same d);
  }
