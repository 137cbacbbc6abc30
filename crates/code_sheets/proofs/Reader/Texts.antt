-- Texts and admitted graphs determine each other, under any limits.
use Rattle.std.specs.Prelude.{Ok, Err}
use mathlib.Core.Path.{◌≡◌, refl, sym, ap, ap₂, ◌∙◌, subst}
use mathlib.Core.List.{List}
use Prim.Native.Nat.{ℕ, suc, ◌+◌, ◌*◌, ◌<◌}
use native.Mathlib.Omega.{arith}
use borrow.Author.Tests.{le-leb, leb-true}
use lib.Dec.{leb}
use Rattle.words.specs.Roles.{wide}
use Rattle.rules.specs.Ranges.{joined, tabulate}
use Rattle.rules.specs.Graphs.{Graph, Limits, AdmittedWithin, check_degree}
use Rattle.refusals.specs.Refusals.{unless, Judged}
use Rattle.refusals.specs.declared.Refusal.{Refusal}
use Rattle.refusals.specs.declared.Refusal.TheVariants.{Buffer}
use Rattle.rules.proofs.Ranges.{joined_ext, tabulate_ext}
use Rattle.refusals.proofs.Judging.{or_else_left, or_else_right, unless_true}
use Rattle.rules.proofs.Tests.{and_left, and_right}
use Rattle.rules.proofs.Rows.{rowed, row_entries_lem}
use Rattle.graphs.specs.Judging.{check_degrees_judged, variable_degrees_judged, degrees_judged}
use Rattle.graphs.proofs.Parts.{check_degrees_admitted, variable_degrees_admitted}
use Rattle.texts.specs.Lines.{Pair, pair}
use Rattle.code_sheets.specs.Text.Texts.{sheet_of, row_entries, entries_of, sheet_text}
use Rattle.code_sheets.specs.Text.Reading.{Lines, refused, lines, sheet_lines, start_in, column_in, graph_in}
use Rattle.code_sheets.proofs.Text.Sheets.{sheet_read_lem, sheet_told}
use Rattle.code_sheets.proofs.Text.Graphs.{entries_length_lem, starts_back, columns_back, entries_lined, entries_back}
use Rattle.code_sheets.specs.Reader.Reading.{turned, graph, room_for, room_for_degrees, after_lines, after_lines_in, unless_refused, read_lines, sheet_read_in}
use Rattle.code_sheets.specs.Reader.Theorems.{Same, Suffice, TextsAndGraphs}
use Rattle.code_sheets.proofs.Reader.Degrees.{same_check_degree, same_check_degrees, same_variable_degrees, sheet_admitted}

pub turned_not : {r : Refusal} {G : Graph} → turned r ≡ graph G → ⊥
turned_not {r} {G} e = let z : ◌≡◌ {A = ℕ} 0 1 = cc in absurd (omega arith)

-- ---- a text that is accepted

-- the buffers suffice where none is refused
pub suffice : (L : Limits) (G : Graph) (d s c : ℕ) → after_lines_in L G d s c ≡ Ok tt → Suffice G d s c
suffice L G d s c h =
    let a = leb (wide * suc G.checks) s in
    let b = leb (wide * G.entries) c in
    let list = unless (room_for_degrees G d) Buffer in
    let lists = unless (room_for G s c) Buffer in
    let room = unless_true (room_for G s c) Buffer (or_else_right (degrees_judged L G) lists (or_else_right list (after_lines L G s c) h)) in
    record {
      degrees = leb-true (4 * G.variables) d (unless_true (room_for_degrees G d) Buffer (or_else_left list (after_lines L G s c) h));
      starts = leb-true (wide * suc G.checks) s (and_left a b room);
      columns = leb-true (wide * G.entries) c (and_right a b room);
    }

accepted : (L : Limits) (t : List ℕ) (d s c : ℕ) (G : Graph) → sheet_read_in L t d s c ≡ graph G → AdmittedWithin L G × (t ≡ sheet_text G) × Suffice G d s c
unfolding sheet_read_in sheet_text
accepted L t d s c G e = go (sheet_lines L t) refl e
  where
    end : (k : Pair) (ps : List Pair) → sheet_lines L t ≡ lines k ps → (j : Judged) → after_lines_in L (graph_in k ps) d s c ≡ j
        → unless_refused j (graph_in k ps) ≡ graph G → AdmittedWithin L G × (t ≡ sheet_text G) × Suffice G d s c
    end k ps x (Err r) p q = absurd (turned_not q)
    end k ps x (Ok _) p q =
        let H : Graph = graph_in k ps in
        let told = sheet_told L t k ps x in
        let degrees = or_else_left (degrees_judged L H) (unless (room_for H s c) Buffer) (or_else_right (unless (room_for_degrees H d) Buffer) (after_lines L H s c) p) in
        let a = sheet_admitted k ps told.1 (or_else_left (check_degrees_judged L H) (variable_degrees_judged L H) degrees)
        (or_else_right (check_degrees_judged L H) (variable_degrees_judged L H) degrees) in
        let same : H ≡ G = cc in
        subst (λ (F : Graph). AdmittedWithin L F × (t ≡ sheet_text F) × Suffice F d s c) same
        (a, told.0 ∙ ap (sheet_of k) (sym (entries_back k ps told.1.rising (rowed a))), suffice L H d s c p)

    go : (x : Lines) → sheet_lines L t ≡ x → read_lines (λ H. after_lines_in L H d s c) x ≡ graph G → AdmittedWithin L G × (t ≡ sheet_text G) × Suffice G d s c
    go (refused r) x q = absurd (turned_not q)
    go (lines k ps) x q = end k ps x (after_lines_in L (graph_in k ps) d s c) refl q

-- ---- the text of an admitted graph

module _ (L : Limits) (G : Graph) (a : AdmittedWithin L G) where
  abbrev counts : Pair
  counts = pair G.variables G.checks

  lines_back : sheet_lines L (sheet_text G) ≡ lines counts (entries_of G)
  unfolding sheet_text
  lines_back = sheet_read_lem L counts (entries_of G) (entries_lined G a)

  same_back : Same (graph_in counts (entries_of G)) G
  same_back = record {
    variables = refl;
    checks = refl;
    entries = entries_length_lem G (rowed a);
    starts = starts_back G (rowed a);
    columns = columns_back G (rowed a);
  }

  back : (d s c : ℕ) → Suffice G d s c → (H : Graph) × (sheet_read_in L (sheet_text G) d s c ≡ graph H) × Same H G
  unfolding sheet_read_in
  back d s c room =
      let H : Graph = graph_in counts (entries_of G) in (
        H,
        rw (
          lines_back,
          le-leb (4 * G.variables) d room.degrees,
          same_check_degrees L H G same_back ∙ check_degrees_admitted L G a.check_degrees,
          same_variable_degrees L H G same_back ∙ variable_degrees_admitted L G a.variable_degrees,
          le-leb (wide * suc G.checks) s room.starts,
          le-leb (wide * H.entries) c (omega (arith, same_back.entries, room.columns)),
        ),
        same_back,
      )

-- ---- the same text, the same graph

one_graph_lem : (L : Limits) (G H : Graph) → AdmittedWithin L G → AdmittedWithin L H → sheet_text G ≡ sheet_text H → Same G H
one_graph_lem L G H a b e =
    let x : lines (counts L G a) (entries_of G) ≡ lines (counts L H b) (entries_of H) = sym (lines_back L G a) ∙ ap (sheet_lines L) e ∙ lines_back L H b in
    let k : counts L G a ≡ counts L H b = cc in
    let p : entries_of G ≡ entries_of H = cc in
    let g = same_back L G a in
    let h = same_back L H b in
    let m : G.checks ≡ H.checks = ap (λ (q : Pair). q.second) k in
    let E : G.entries ≡ H.entries = sym g.entries ∙ ap (λ (q : List Pair). (graph_in (counts L G a) q).entries) p ∙ h.entries in
    record {
      variables = ap (λ (q : Pair). q.first) k;
      checks = m;
      entries = E;
      starts = λ i l. sym (g.starts i (omega arith)) ∙ ap (λ (q : List Pair). start_in q i) p ∙ h.starts i l;
      columns = λ e l. sym (g.columns e (omega arith)) ∙ ap (λ (q : List Pair). column_in q e) p ∙ h.columns e l;
    }

one_text_lem : (L : Limits) (G H : Graph) → AdmittedWithin L G → Same G H → sheet_text G ≡ sheet_text H
unfolding sheet_text entries_of row_entries
one_text_lem L G H a s =
    ap₂ sheet_of (ap₂ pair s.variables s.checks)
    (ap (joined (row_entries G)) s.checks ∙ joined_ext (row_entries G) (row_entries H) H.checks row)
  where
    row : (i : ℕ) → i < H.checks → row_entries G i ≡ row_entries H i
    row i l =
        let d = same_check_degree G H s i l in
        let b = s.starts i (omega arith) in
        let f : ℕ → Pair = λ k. pair i (G.column (G.start i + k)) in
        let g : ℕ → Pair = λ k. pair i (H.column (H.start i + k)) in
        ap (tabulate f) d
        ∙ tabulate_ext f g (check_degree H i)
        (λ k u. ap (pair i) (s.columns (G.start i + k) (omega (arith, s.entries, row_entries_lem G (rowed a) i (G.start i + k) (omega (arith, s.checks)) (omega arith)))
        ∙ ap (λ (x : ℕ). H.column (x + k)) b))

pub texts_and_graphs : TextsAndGraphs
texts_and_graphs = record { accepted = accepted; back = back; one_graph = one_graph_lem; one_text = one_text_lem }
