-- A block sheet is accepted exactly when it is the text of blocks in range and order, their expansion is admitted, and the lists suffice.
use Rattle.std.specs.Prelude.{Ok, Err}
use mathlib.Core.Path.{◌≡◌, refl, sym, ap, ◌∙◌, subst}
use mathlib.Core.List.{List}
use Prim.Native.Nat.{ℕ, suc, ◌*◌}
use borrow.Author.Tests.{le-leb}
use Rattle.rules.specs.Graphs.{Graph, limits, Admitted}
use Rattle.refusals.specs.Refusals.{unless, Judged}
use Rattle.refusals.specs.declared.Refusal.TheVariants.{Buffer}
use Rattle.refusals.proofs.Judging.{or_else_left, or_else_right}
use Rattle.words.specs.Roles.{wide}
use Rattle.graphs.specs.Judging.{check_degrees_judged, variable_degrees_judged, degrees_judged}
use Rattle.graphs.proofs.Parts.{check_degrees_told, check_degrees_admitted, variable_degrees_told, variable_degrees_admitted}
use Rattle.texts.specs.Triples.{Triple}
use Rattle.texts.specs.Reading.{Lines, refused, lines}
use Rattle.code_sheets.specs.Reader.Reading.{graph, room_for, room_for_degrees, after_lines, after_lines_in, unless_refused}
use Rattle.code_sheets.specs.Reader.Theorems.{Suffice}
use Rattle.code_sheets.proofs.Reader.Texts.{turned_not, suffice}
use Rattle.block_sheets.specs.Text.Blocks.{Blocks}
use Rattle.block_sheets.specs.Text.Expansion.{expansion}
use Rattle.block_sheets.specs.Text.Reading.{blocks_of, block_lines}
use Rattle.block_sheets.specs.Text.Theorems.{Ordered, Valid}
use Rattle.block_sheets.proofs.Text.Expanding.{expanding}
use Rattle.block_sheets.proofs.Text.Texts.{texts_and_blocks}
use Rattle.block_sheets.specs.Reader.Reading.{read_blocks, block_read_in}
use Rattle.block_sheets.specs.Reader.Theorems.{ReadFrom, BlocksAccepted}

-- valid blocks whose expansion has good degrees
pub expansion_admitted : (b : Blocks) → Valid b → degrees_judged limits (expansion b) ≡ Ok tt → Admitted (expansion b)
expansion_admitted b v e =
    let x = expanding b v.ordered in
    let G = expansion b in
    record {
      variables = v.variables;
      checks = v.checks;
      entries = v.few;
      begins = x.begins;
      ends = x.ends;
      within = x.within;
      rising = x.rising;
      check_degrees = check_degrees_told limits G (or_else_left (check_degrees_judged limits G) (variable_degrees_judged limits G) e);
      variable_degrees = variable_degrees_told limits G (or_else_right (check_degrees_judged limits G) (variable_degrees_judged limits G) e);
    }

pub admitted_valid : (b : Blocks) → Ordered b → Admitted (expansion b) → Valid b
admitted_valid b o a = record { ordered = o; variables = a.variables; checks = a.checks; few = a.entries }

only : (t : List ℕ) (d s c : ℕ) (G : Graph) → block_read_in t d s c ≡ graph G → ReadFrom t d s c G
unfolding block_read_in
only t d s c G e = go (block_lines t) refl e
  where
    end : (k : Triple) (ps : List Triple) → block_lines t ≡ lines k ps → (j : Judged) → after_lines_in limits (expansion (blocks_of k ps)) d s c ≡ j
        → unless_refused j (expansion (blocks_of k ps)) ≡ graph G → ReadFrom t d s c G
    end k ps x (Err r) p q = absurd (turned_not q)
    end k ps x (Ok _) p q =
        let b = blocks_of k ps in
        let H : Graph = expansion b in
        let told = texts_and_blocks.accepted t k ps x in
        let lists = or_else_right (unless (room_for_degrees H d) Buffer) (after_lines limits H s c) p in
        let same : H ≡ G = cc in
        subst (ReadFrom t d s c) same
        (record {
          blocks = b;
          ordered = told.0.ordered;
          text = told.1;
          gives = refl;
          admitted = expansion_admitted b told.0 (or_else_left (degrees_judged limits H) (unless (room_for H s c) Buffer) lists);
          suffice = suffice limits H d s c p;
        })

    go : (x : Lines Triple Triple) → block_lines t ≡ x → read_blocks (λ H. after_lines_in limits H d s c) x ≡ graph G → ReadFrom t d s c G
    go (refused r) x q = absurd (turned_not q)
    go (lines k ps) x q = end k ps x (after_lines_in limits (expansion (blocks_of k ps)) d s c) refl q

all : (t : List ℕ) (d s c : ℕ) (G : Graph) → ReadFrom t d s c G → block_read_in t d s c ≡ graph G
unfolding block_read_in
all t d s c G r =
    let b = r.blocks in
    let a : Admitted (expansion b) = subst Admitted r.gives r.admitted in
    let room : Suffice (expansion b) d s c = subst (λ (F : Graph). Suffice F d s c) r.gives r.suffice in
    ap (λ (u : List ℕ). read_blocks (λ F. after_lines_in limits F d s c) (block_lines u)) r.text
    ∙ rw (
      texts_and_blocks.back b (admitted_valid b r.ordered a),
      le-leb (4 * (expansion b).variables) d room.degrees,
      check_degrees_admitted limits (expansion b) a.check_degrees,
      variable_degrees_admitted limits (expansion b) a.variable_degrees,
      le-leb (wide * suc (expansion b).checks) s room.starts,
      le-leb (wide * (expansion b).entries) c room.columns,
    )
    (ap graph (sym r.gives))

pub blocks_accepted : BlocksAccepted
blocks_accepted = record {
  only = only;
  all = all;
  one_text = λ x y ox oy ax ay e. texts_and_blocks.one_blocks x y (admitted_valid x ox ax) (admitted_valid y oy ay) e;
}
