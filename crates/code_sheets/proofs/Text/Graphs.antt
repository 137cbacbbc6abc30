-- The entries of a graph and the graph of entries: each gives the other back.
use mathlib.Core.Path.{◌≡◌, sym, ap, ap₂, ◌∙◌}
use mathlib.Core.List.{List, ◌++◌}
use Prim.Native.Nat.{ℕ, zero, suc, ◌+◌, ◌-◌, ◌≤◌, ◌<◌}
use native.Mathlib.Decide.{dec_lt}
use native.Mathlib.Omega.{arith}
use lib.ListN.{length, get_or, length-append, get_or-append}
use lib.Seq.{get_or-append-add, ext_get_or}
use Rattle.rules.specs.Ranges.{joined, tabulate}
use Rattle.rules.specs.Graphs.{Graph, Limits, AdmittedWithin, Rowed, check_degree, check_of}
use Rattle.rules.proofs.Ranges.{length_tabulate, get_d_tabulate}
use Rattle.rules.proofs.Rows.{rowed, starts_rise, row_within, row_is}
use Rattle.texts.specs.Lines.{Pair, pair}
use Rattle.code_sheets.specs.Text.Texts.{row_entries, entries_of}
use Rattle.code_sheets.specs.Text.Reading.{after, start_in, column_in, graph_in}
use Rattle.code_sheets.proofs.Text.Order.{Fits, Rising}
use Rattle.code_sheets.proofs.Text.Sheets.{Lined, counts_fit_lem}
use Rattle.code_sheets.proofs.Text.Entries.{check_in, start_is, check_within_lem, rising_at, entry_row}

abbrev nowhere : Pair
nowhere = pair 0 0

module _ (G : Graph) (ok : Rowed G) where
  rows_length_lem : (k : ℕ) → k ≤ G.checks → length (joined (row_entries G) k) ≡ G.start k
  unfolding joined row_entries
  rows_length_lem zero h = sym ok.begins
  rows_length_lem (suc k) h =
      length-append (joined (row_entries G) k) (row_entries G k)
      ∙ omega (arith, rows_length_lem k (omega arith), length_tabulate (λ j. pair k (G.column (G.start k + j))) (check_degree G k), ok.rises k h)

  pub entries_length_lem : length (entries_of G) ≡ G.entries
  unfolding entries_of
  entries_length_lem = rows_length_lem G.checks (omega arith) ∙ ok.ends

  rows_at : (k : ℕ) → k ≤ G.checks → (e : ℕ) → e < G.start k → get_or (joined (row_entries G) k) e nowhere ≡ pair (check_of G e) (G.column e)
  unfolding joined row_entries
  rows_at zero h e l = absurd (omega (arith, ok.begins))
  rows_at (suc k) h e l = go (dec_lt e (G.start k)) (rows_at k (omega arith) e)
    where
      front : List Pair
      front = joined (row_entries G) k

      row : ℕ → Pair
      row j = pair k (G.column (G.start k + j))

      long : length front ≡ G.start k
      long = rows_length_lem k (omega arith)

      go : Dec (e < G.start k) → (e < G.start k → get_or front e nowhere ≡ pair (check_of G e) (G.column e))
          → get_or (front ++ tabulate row (check_degree G k)) e nowhere ≡ pair (check_of G e) (G.column e)
      go (yes u) ih = get_or-append front (tabulate row (check_degree G k)) nowhere e (omega (arith, long)) ∙ ih u
      go (no u) ih =
          let j : ℕ = e - G.start k in
          let at : e ≡ length front + j = omega (arith, long) in
          let back : G.start k + j ≡ e = omega arith in
          ap (λ (x : ℕ). get_or (front ++ tabulate row (check_degree G k)) x nowhere) at
          ∙ get_or-append-add front (tabulate row (check_degree G k)) j nowhere
          ∙ get_d_tabulate row (check_degree G k) j nowhere (omega arith)
          ∙ ap₂ (λ (i x : ℕ). pair i (G.column x)) (sym (row_is G ok e k h (omega arith) l)) back

  -- entry e of a graph, as a pair
  pub entry_at : (e : ℕ) → e < G.entries → get_or (entries_of G) e nowhere ≡ pair (check_of G e) (G.column e)
  unfolding entries_of
  entry_at e l = rows_at G.checks (omega arith) e (omega (arith, ok.ends))

  check_at : (e : ℕ) → e < G.entries → check_in (entries_of G) e ≡ check_of G e
  check_at e l = ap (λ (p : Pair). p.first) (entry_at e l)

  pub columns_back : (e : ℕ) → e < G.entries → column_in (entries_of G) e ≡ G.column e
  unfolding column_in
  columns_back e l = ap (λ (p : Pair). p.second) (entry_at e l)

  pub starts_back : (i : ℕ) → i ≤ G.checks → start_in (entries_of G) i ≡ G.start i
  starts_back i h =
      start_is (entries_of G) i (G.start i) (omega (arith, entries_length_lem, most))
      (λ e l. omega (arith, check_at e (omega (arith, most)), below e l (dec_lt (check_of G e) i)))
      (λ e l u. omega (arith, check_at e (omega (arith, entries_length_lem)), above e l (omega (arith, entries_length_lem)) (dec_lt (check_of G e) i)))
    where
      most : G.start i ≤ G.entries
      most = omega (arith, starts_rise G ok i G.checks h (omega arith), ok.ends)

      below : (e : ℕ) → e < G.start i → Dec (check_of G e < i) → check_of G e < i
      below e l (yes u) = u
      below e l (no u) =
          let w = row_within G ok e (omega (arith, most)) in
          absurd (omega (arith, w.1, starts_rise G ok i (check_of G e) (omega arith) (omega (arith, w.0))))

      above : (e : ℕ) → G.start i ≤ e → e < G.entries → Dec (check_of G e < i) → i ≤ check_of G e
      above e l b (yes u) =
          let w = row_within G ok e b in
          absurd (omega (arith, w.2, starts_rise G ok (suc (check_of G e)) i u h))
      above e l b (no u) = omega arith

-- an admitted graph's entries are those of a sheet
pub entries_lined : {L : Limits} (G : Graph) → AdmittedWithin L G → Lined L (pair G.variables G.checks) (entries_of G)
entries_lined {L} G a = record {
  counts = counts_fit_lem L c a.variables a.checks;
  rising = rising_at (pair G.variables G.checks) nowhere (entries_of G) (λ h. first (omega (arith, long))) (λ e h. next e (omega (arith, long)));
  few = omega (arith, long, a.entries);
}
  where
    ok : Rowed G
    ok = rowed a

    long : length (entries_of G) ≡ G.entries
    long = entries_length_lem G ok

    c : Pair
    c = pair G.variables G.checks

    first : 0 < G.entries → Fits c nowhere (get_or (entries_of G) 0 nowhere)
    first h = rw (entry_at G ok 0 h) (record { check = (row_within G ok 0 h).0; variable = a.within 0 h; from = omega arith; same = λ q. omega arith })

    next : (e : ℕ) → suc e < G.entries → Fits c (after (get_or (entries_of G) e nowhere)) (get_or (entries_of G) (suc e) nowhere)
    next e h =
        let w = row_within G ok e (omega arith) in
        let v = row_within G ok (suc e) h in
        rw (entry_at G ok e (omega arith), entry_at G ok (suc e) h)
        (record {
          check = v.0;
          variable = a.within (suc e) h;
          from = up e h (dec_lt (check_of G (suc e)) (check_of G e));
          same = λ q. a.rising (check_of G e) e w.0 w.1 (rw (← q) at v.2);
        })
      where
        up : (e : ℕ) → suc e < G.entries → Dec (check_of G (suc e) < check_of G e) → check_of G e ≤ check_of G (suc e)
        up e h (yes l) =
            let w = row_within G ok e (omega arith) in
            let v = row_within G ok (suc e) h in
            absurd (omega (arith, w.1, v.2, starts_rise G ok (suc (check_of G (suc e))) (check_of G e) l (omega (arith, w.0))))
        up e h (no l) = omega arith

-- the entries of the graph of entries in order
pub entries_back : (c : Pair) (ps : List Pair) → Rising c nowhere ps → Rowed (graph_in c ps) → entries_of (graph_in c ps) ≡ ps
unfolding column_in
entries_back c ps r ok =
    let long = entries_length_lem (graph_in c ps) ok in
    ext_get_or nowhere (entries_of (graph_in c ps)) ps long (λ e l. same e (omega (arith, long)))
  where
    same : (e : ℕ) → e < length ps → get_or (entries_of (graph_in c ps)) e nowhere ≡ get_or ps e nowhere
    same e l =
        let w = entry_row c nowhere ps r e l in
        entry_at (graph_in c ps) ok e l ∙ ap (λ (i : ℕ). pair i (column_in ps e)) (row_is (graph_in c ps) ok e (check_in ps e) (check_within_lem c nowhere ps r e l) w.0 w.1)
