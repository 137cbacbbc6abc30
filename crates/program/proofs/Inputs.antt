-- What the sheet and the run text give, as the printed text.
use Rattle.std.specs.Prelude.{Ok, Err}
use mathlib.Core.Path.{◌≡◌, refl, sym, ap, ap₂, ◌∙◌, subst}
use mathlib.Core.List.{List, [], ◌++◌}
use Prim.Native.Nat.{ℕ, suc, ◌+◌, ◌*◌, ◌≤◌, ◌<◌}
use native.Mathlib.Omega.{arith}
use borrow.Author.Tests.{le-leb, lt-leb}
use lib.ListN.{length, take, drop}
use lib.Seq.{take_at}
use Rattle.words.specs.Roles.{wide}
use Rattle.rules.specs.Graphs.{Graph, program_limits, fewest_variables, fewest_checks}
use Rattle.refusals.specs.declared.Refusal.{Refusal}
use Rattle.refusals.specs.declared.Refusal.TheVariants as Refusals
use Rattle.words.specs.Words.{table}
use Rattle.words.proofs.Words.{length_table}
use Rattle.texts.proofs.Putting.{put_front}
use Rattle.code_sheets.specs.declared.Counts.{Counts}
use Rattle.code_sheets.specs.Reader.Reading.{Sheet, Reading, sheet_read}
use Rattle.code_sheets.specs.Reader.Reading as Sheet
use Rattle.code_sheets.proofs.Reader.Texts.{texts_and_graphs}
use Rattle.code_sheets.proofs.Reader.Calls as Calls
use Rattle.settings.specs.declared.Parameters.{Parameters}
use Rattle.decoding.specs.Frames.{frame}
use Rattle.program_texts.specs.RunText.Reading as Run
use Rattle.program_texts.specs.RunText.Reading.{Run, RunText, largest_input, run_text}
use Rattle.run_text.proofs.Lengths.{run_long}
use Rattle.program_texts.specs.Printing.Texts.{refusal_text, longest, Prints}
use Rattle.program_texts.specs.Answering.{frame_text, after_run, after_sheet, sheet_given, program_text, Answers}

-- ---- the run text

module _ (n : ℕ) (s starts columns : List ℕ) {r : Run} {old now : List ℕ} (w : Run.ReadAs (run_text n s) r old now) where
  pub run_refused : {l : ℕ} → r ≡ Err l → refusal_text (Refusals.RunText l) ≡ after_run n starts columns (run_text n s)
  run_refused {l} e = go (run_text n s) (sym w.answer ∙ e)
    where
      go : (x : RunText) → Run.answer_of x ≡ Err l → refusal_text (Refusals.RunText l) ≡ after_run n starts columns x
      go (Run.refused k) q = let u : l ≡ k = cc in ap (λ (j : ℕ). refusal_text (Refusals.RunText j)) u
      go (Run.read g v) q = let z : ◌≡◌ {A = ℕ} 0 1 = cc in absurd (omega arith)

  pub run_given : {g : Parameters} → r ≡ Ok g → frame_text (frame n starts columns (take (4 * n) now) g) ≡ after_run n starts columns (run_text n s)
  run_given {g} e = go (run_text n s) refl (sym w.answer ∙ e) w.values
    where
      go : (x : RunText) → run_text n s ≡ x → Run.answer_of x ≡ Ok g → now ≡ Run.values_in x old
          → frame_text (frame n starts columns (take (4 * n) now) g) ≡ after_run n starts columns x
      go (Run.refused k) f q h = let z : ◌≡◌ {A = ℕ} 0 1 = cc in absurd (omega arith)
      go (Run.read k v) f q h =
          let u : g ≡ k = cc in
          let m : take (4 * n) now ≡ v = ap (take (4 * n)) h ∙ take_at v (drop (length v) old) (4 * n) (run_long n s k v f) in
          ap₂ (λ (x : Parameters) (y : List ℕ). frame_text (frame n starts columns y x)) u m

-- ---- the sheet

-- the counts and the lists of the graph that was read
pub record GraphIn (t : List ℕ) (k : Counts) (starts columns : List ℕ) : Type 0 where
  pub variables : (fewest_variables ≤ k.variables) × (k.variables ≤ program_limits.variables)
  pub checks : (fewest_checks ≤ k.checks) × (k.checks ≤ program_limits.checks)
  pub entries : k.entries ≤ program_limits.entries
  pub text : (run : List ℕ) → after_run k.variables (take (wide * (k.checks + 1)) starts) (take (wide * k.entries) columns) (run_text k.variables run)
      ≡ after_sheet (sheet_given t) run

graph_in_lem : (t : List ℕ) (G : Graph) (st co : List ℕ) → sheet_given t ≡ Sheet.graph G
    → GraphIn t (record { variables = G.variables; checks = G.checks; entries = G.entries }) (Sheet.starts_of (Sheet.graph G) st) (Sheet.columns_of (Sheet.graph G) co)
graph_in_lem t G st co e =
    let s : ℕ = wide * suc program_limits.checks in
    let c : ℕ = wide * program_limits.entries in
    let a = (texts_and_graphs.accepted program_limits t (4 * program_limits.variables) s c G
    (Calls.same_reading program_limits t (4 * program_limits.variables) s c (Calls.most_enough program_limits t (omega arith)) ∙ e)).0 in
    let st' : take (wide * (G.checks + 1)) (table wide G.start (suc G.checks) ++ drop (wide * suc G.checks) st) ≡ table wide G.start (suc G.checks)
    = take_at (table wide G.start (suc G.checks)) (drop (wide * suc G.checks) st) (wide * (G.checks + 1)) (length_table wide G.start (suc G.checks) ∙ omega arith) in
    let co' : take (wide * G.entries) (table wide G.column G.entries ++ drop (wide * G.entries) co) ≡ table wide G.column G.entries
    = take_at (table wide G.column G.entries) (drop (wide * G.entries) co) (wide * G.entries) (length_table wide G.column G.entries) in
    record {
      variables = a.variables;
      checks = a.checks;
      entries = a.entries;
      text =
          λ run. ap₂ (λ (x y : List ℕ). after_run G.variables x y (run_text G.variables run)) st' co'
          ∙ sym (ap (λ (x : Reading). after_sheet x run) e);
    }

module _ (t : List ℕ) {r : Sheet} {d d' st st' co co' : List ℕ} (w : Sheet.ReadInto program_limits t r d d' st st' co co')
    (ld : length d ≡ 4 * program_limits.variables) (ls : length st ≡ wide * suc program_limits.checks) (lc : length co ≡ wide * program_limits.entries) where
  read_as : Sheet.ReadAs (sheet_given t) r st st' co co'
  read_as = subst (λ (x : Reading). Sheet.ReadAs x r st st' co co') (ap₂ (sheet_read program_limits t) ls lc) (Calls.read_as {L = program_limits} {t = t} (omega arith) w)

  pub sheet_refused : {x : Refusal} → r ≡ Err x → (run : List ℕ) → refusal_text x ≡ after_sheet (sheet_given t) run
  sheet_refused {x} e run = go (sheet_given t) (sym read_as.answer ∙ e)
    where
      go : (y : Reading) → Sheet.answer_of y ≡ Err x → refusal_text x ≡ after_sheet y run
      go (Sheet.turned s) q = let u : x ≡ s = cc in ap refusal_text u
      go (Sheet.graph G) q = let z : ◌≡◌ {A = ℕ} 0 1 = cc in absurd (omega arith)

  pub sheet_graph : {k : Counts} → r ≡ Ok k → GraphIn t k st' co'
  sheet_graph {k} e = go (sheet_given t) refl (sym read_as.answer ∙ e) read_as.starts read_as.columns
    where
      go : (y : Reading) → sheet_given t ≡ y → Sheet.answer_of y ≡ Ok k → st' ≡ Sheet.starts_of y st → co' ≡ Sheet.columns_of y co
          → GraphIn t k st' co'
      go (Sheet.turned s) f q a b = let z : ◌≡◌ {A = ℕ} 0 1 = cc in absurd (omega arith)
      go (Sheet.graph G) f q a b =
          let u : record { variables = G.variables; checks = G.checks; entries = G.entries } ≡ k = cc in
          subst (λ (x : Counts). GraphIn t x st' co') u
          (subst (λ (x : List ℕ). GraphIn t (record { variables = G.variables; checks = G.checks; entries = G.entries }) x co') (sym a)
          (subst (λ (x : List ℕ). GraphIn t (record { variables = G.variables; checks = G.checks; entries = G.entries }) (Sheet.starts_of (Sheet.graph G) st) x) (sym b)
          (graph_in_lem t G st co f)))

-- ---- the whole answer

module _ (sheet run : List ℕ) where
  pub program_large : largest_input < length sheet → refusal_text (Refusals.Count 0) ≡ program_text sheet run
  unfolding program_text
  program_large h = sym (rw (lt-leb (length sheet) largest_input h))

  pub program_small : length sheet ≤ largest_input → after_sheet (sheet_given sheet) run ≡ program_text sheet run
  unfolding program_text
  program_small h = sym (rw (le-leb (length sheet) largest_input h))

  pub answer_none : {old : List ℕ} → length old < longest → Answers sheet run old old 0
  answer_none {old} h = record { text = []; is = sym (rw (lt-leb longest (length old) h)); holds = refl; long = refl }

  pub answer_put : {t old now : List ℕ} {r : ℕ} → longest ≤ length old → t ≡ program_text sheet run → Prints longest t old now r → Answers sheet run old now r
  answer_put {t} {old} {now} {r} h e p = record {
    text = t;
    is = e ∙ sym (rw (le-leb longest (length old) h));
    holds = put_front (omega (arith, p.put.after, p.short)) p.put;
    long = omega (arith, p.put.after);
  }
