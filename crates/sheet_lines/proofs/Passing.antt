-- A pass over the entries' lines: what is known after some of them, one line on, and after the last.
use mathlib.Core.Path.{◌≡◌, refl, sym, ap, ◌∙◌, subst}
use mathlib.Core.List.{List, [], ◌∷◌, ◌++◌, append_assoc, append-nil}
use Prim.Native.Nat.{ℕ, ◌+◌, ◌≤◌, ◌<◌}
use native.Mathlib.Omega.{arith}
use borrow.Author.Tests.{lt-ltb, le-ltb}
use lib.ListN.{length, drop, length-append}
use lib.Seq.{get_or_at}
use Rattle.texts.specs.Numbers.{value}
use Rattle.texts.specs.Lines.{Pair, pair, lines_text, line}
use Rattle.texts.specs.Places.{LineRead, KnownLine}
use Rattle.texts.proofs.Lines.{line_reads}
use Rattle.code_sheets.specs.Text.Reading.{after, start_in, column_in}
use Rattle.code_sheets.specs.Text.Scanning.{counted}
use Rattle.code_sheets.specs.declared.Counts.{Counts}
use Rattle.code_sheets.proofs.Text.Order.{Fits, Rising}
use Rattle.code_sheets.proofs.Text.Sheets.{rows_told}
use Rattle.code_sheets.proofs.Text.Entries.{start_append, start_none}
use Rattle.code_sheets.specs.Reader.Storing.{EntriesAt}
use Rattle.sheet_lines.specs.Passing.{At, Pass}

-- the entries rise
pub entries_rising : {s : List ℕ} {k : Counts} {from : ℕ} (h : EntriesAt s k from) → Rising (counted k) (pair 0 0) h.entries
entries_rising {s} {k} {from} h = (rows_told (counted k) k.entries 4 (pair 0 0) (drop from s) (counted k) h.entries h.are).1

pub pass_none : {s : List ℕ} {k : Counts} {from filled : ℕ} (h : EntriesAt s k from) → filled ≤ 1 → At (counted k) h.entries s from 0 filled
unfolding start_in
pass_none {s} {k} {from} {filled} h l = record {
  done = [];
  rest = h.entries;
  low = pair 0 0;
  all = refl;
  text = (rows_told (counted k) k.entries 4 (pair 0 0) (drop from s) (counted k) h.entries h.are).0;
  got = refl;
  rising = entries_rising h;
  near = omega arith;
  high = omega arith;
  past = λ d l. refl;
}

-- the next of the lines that are left
left_lines : (rest : List Pair) (u : List ℕ) → u ≡ lines_text rest → 0 < length rest → (p : Pair) × (tail : List Pair) × (rest ≡ p ∷ tail) × (line u ≡ value p (lines_text tail))
unfolding lines_text
left_lines [] u e h = absurd (omega arith)
left_lines (p ∷ tail) u e h = (p, tail, refl, ap line e ∙ line_reads p (lines_text tail))

module _ {c : Pair} {ps : List Pair} {s : List ℕ} {i k filled : ℕ} (q : At c ps s i k filled) where
  total : length ps ≡ k + length q.rest
  total = ap length q.all ∙ length-append q.done q.rest ∙ omega (arith, q.got)

  module _ (h : k < length ps) where
    next_line : (p : Pair) × (tail : List Pair) × (q.rest ≡ p ∷ tail) × (line (drop i s) ≡ value p (lines_text tail))
    next_line = left_lines q.rest (drop i s) q.text (omega (arith, total))

    module _ (p : Pair) (t : List ℕ) (e : line (drop i s) ≡ value p t) where
      abbrev tail : List Pair
      tail = next_line.1

      rest_is : q.rest ≡ p ∷ tail
      rest_is =
          let f : value next_line.0 (lines_text tail) ≡ value p t = sym next_line.3 ∙ e in
          let g : next_line.0 ≡ p = cc in
          next_line.2 ∙ ap (λ (x : Pair). x ∷ tail) g

      tail_is : t ≡ lines_text tail
      tail_is = let f : value next_line.0 (lines_text tail) ≡ value p t = sym next_line.3 ∙ e in cc

      all_is : ps ≡ q.done ++ (p ∷ tail)
      all_is = q.all ∙ ap (λ (x : List Pair). q.done ++ x) rest_is

      rising_is : Rising c q.low (p ∷ tail)
      rising_is = subst (Rising c q.low) rest_is q.rising

      at_fits : Fits c q.low p
      at_fits = rising_is.0

      -- the rows that start at entry k
      at_starts : (j : ℕ) → filled ≤ j → j < p.first + 1 → k ≡ start_in ps j
      unfolding start_in
      at_starts j l u =
          sym (ap (λ (x : List Pair). start_in x j) all_is ∙ start_append q.done (p ∷ tail) j
          ∙ rw (q.past j l, le-ltb p.first j (omega arith), start_none c (after p) tail j rising_is.1 (omega arith)) (omega arith))

      at_column : p.second ≡ column_in ps k
      unfolding column_in
      at_column = sym (ap (λ (x : List Pair). column_in x k) all_is ∙ ap (λ (x : Pair). x.second) (get_or_at q.done p tail (pair 0 0) k q.got))

      at_more : (next : ℕ) → t ≡ drop next s → At c ps s next (k + 1) (p.first + 1)
      unfolding start_in
      at_more next n = record {
        done = q.done ++ (p ∷ []);
        rest = tail;
        low = after p;
        all = all_is ∙ sym (append_assoc q.done (p ∷ []) tail);
        text = sym n ∙ tail_is;
        got = length-append q.done (p ∷ []) ∙ omega (arith, q.got);
        rising = rising_is.1;
        near = omega arith;
        high = omega (arith, at_fits.check);
        past = λ d l. start_append q.done (p ∷ []) d ∙ rw (q.past d (omega (arith, q.near, at_fits.from)), lt-ltb p.first d (omega arith));
      }

  -- after the last line
  at_ends : length ps ≤ k → (j : ℕ) → filled ≤ j → k ≡ start_in ps j
  at_ends h j l = sym (ap (λ (x : List Pair). start_in x j) over ∙ q.past j l)
    where
      none : (x : List Pair) → length x ≡ 0 → x ≡ []
      none [] e = refl
      none (p ∷ x) e = absurd (omega arith)

      over : ps ≡ q.done
      over = q.all ∙ ap (λ (x : List Pair). q.done ++ x) (none q.rest (omega (arith, total))) ∙ append-nil q.done

-- ---- the same at the numbers of the code

module _ {s : List ℕ} {counts : Counts} {from i k filled : ℕ} (q : Pass s counts from i k filled) where
  abbrev ps : List Pair
  ps = q.held.entries

  module _ (h : k < counts.entries) where
    short : k < length ps
    short = omega (arith, q.held.many)

    -- the next line is known to stand there
    pub pass_known : KnownLine s i
    pass_known =
        let l = next_line q.at short in
        let f = at_fits q.at short l.0 (lines_text l.1) l.3 in
        record {
          pair = l.0;
          rest = lines_text l.1;
          reads = l.3;
          first = omega (arith, f.check, q.held.small.checks);
          second = omega (arith, f.variable, q.held.small.variables);
        }

    module _ {a b next : ℕ} (r : LineRead (line (drop i s)) s i a b next) where
      fits : Fits (counted counts) q.at.low r.pair
      fits = at_fits q.at short r.pair (drop next s) r.reads

      first_is : a ≡ r.pair.first
      first_is = omega (arith, r.first, fits.check, q.held.small.checks)

      second_is : b ≡ r.pair.second
      second_is = omega (arith, r.second, fits.variable, q.held.small.variables)

      pub pass_numbers : (a < counts.checks) × (b < counts.variables) × (filled ≤ a + 1)
      pass_numbers = (
        omega (arith, first_is, fits.check),
        omega (arith, second_is, fits.variable),
        omega (arith, first_is, fits.from, q.at.near),
      )

      pub pass_starts : (j : ℕ) → filled ≤ j → j < a + 1 → k ≡ start_in ps j
      pass_starts j l u = at_starts q.at short r.pair (drop next s) r.reads j l (omega (arith, first_is))

      pub pass_column : b ≡ column_in ps k
      pass_column = second_is ∙ at_column q.at short r.pair (drop next s) r.reads

      pub pass_more : At (counted counts) ps s next (k + 1) (a + 1)
      pass_more =
          subst (λ (x : ℕ). At (counted counts) ps s next (k + 1) (x + 1)) (sym first_is)
          (at_more q.at short r.pair (drop next s) r.reads next refl)

  pub pass_ends : counts.entries ≤ k → (j : ℕ) → filled ≤ j → k ≡ start_in ps j
  pass_ends h j l = at_ends q.at (omega (arith, q.held.many)) j l
