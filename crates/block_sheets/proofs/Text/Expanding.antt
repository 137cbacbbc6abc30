-- Blocks in order expand to the ordinary graph of their ones.
use mathlib.Core.Path.{◌≡◌, sym, ap, ap₂, ◌∙◌, subst}
use mathlib.Core.List.{List, [], ◌∷◌, map}
use Prim.Native.Nat.{ℕ, zero, suc, ◌+◌, ◌-◌, ◌*◌, ◌/◌, ◌%◌, ◌≤◌, ◌<◌}
use native.Mathlib.Decide.{dec_lt}
use native.Mathlib.Nat.{not-suc-le-zero, mod-lt, div-add-mod'}
use native.Mathlib.Omega.{arith}
use lib.ListN.{length, get_or, length-map, get_or-map}
use Rattle.rules.specs.Graphs.{Graph}
use Rattle.texts.specs.Lines.{Pair, pair}
use Rattle.code_sheets.specs.Text.Reading.{after, start_in, column_in}
use Rattle.code_sheets.proofs.Text.Order as Sheet
use Rattle.code_sheets.proofs.Text.Entries.{check_in, start_zero, start_up, start_most, start_end, column_within, check_within_lem, check_below, check_above, column_rise, entry_row}
use Rattle.texts.specs.Order.{Rising}
use Rattle.texts.specs.Triples.{Triple, triple}
use Rattle.block_sheets.specs.Text.Blocks.{Blocks, place, block_at, start_of_block, block_degree}
use Rattle.block_sheets.specs.Text.Reading.{counted, block_entries}
use Rattle.block_sheets.specs.Text.Expansion.{row_start, row_of, one_at, degree_of, column_of, expansion}
use Rattle.block_sheets.specs.Text.Theorems.{BlockFits, Ordered, Puts, HasOne, Expanding}
use Rattle.block_sheets.proofs.Text.Rows.{start_none, start_next, row_within, column_at_lem, part_div, part_mod, part_below, start_times}

-- the places of entries in order are those of a sheet
pub places_rising : (c : Triple) (low : Pair) (ps : List Triple) → Rising block_entries BlockFits c low ps → Sheet.Rising (pair c.third c.second) low (map place ps)
places_rising c low [] r = tt
places_rising c low (p ∷ ps) r = (r.0.place_fits, places_rising c (after (place p)) ps r.1)

shift_at : (c : Triple) (low : Pair) (ps : List Triple) → Rising block_entries BlockFits c low ps → (q : ℕ) → q < length ps → (get_or ps q (triple 0 0 0)).third < c.first
shift_at c low [] r q h = absurd (not-suc-le-zero h)
shift_at c low (p ∷ ps) r zero h = r.0.shift
shift_at c low (p ∷ ps) r (suc q) h = shift_at c (after (place p)) ps r.1 q (omega arith)

module _ (b : Blocks) (ok : Ordered b) where
  abbrev Z : ℕ
  Z = b.size

  abbrev counts : Pair
  counts = pair b.columns b.rows

  abbrev ps : List Pair
  ps = map place b.entries

  abbrev s : ℕ → ℕ
  s = start_in ps

  abbrev G : Graph
  G = expansion b

  pub risen : Sheet.Rising counts (pair 0 0) ps
  risen = places_rising (counted b) (pair 0 0) b.entries ok.rising

  -- ---- the entries of block row i are those from s i to before s (i + 1)

  pub row_at : (q : ℕ) → check_in ps q ≡ (block_at b q).first
  row_at q = ap (λ (p : Pair). p.first) (get_or-map place b.entries q (triple 0 0 0))

  pub column_of_lem : (q : ℕ) → column_in ps q ≡ (block_at b q).second
  unfolding column_in
  column_of_lem q = ap (λ (p : Pair). p.second) (get_or-map place b.entries q (triple 0 0 0))

  -- row, column and shift of an entry are in range
  pub entry_within : (q : ℕ) → q < length b.entries → ((block_at b q).first < b.rows) × ((block_at b q).second < b.columns) × ((block_at b q).third < b.size)
  entry_within q h = (
    omega (arith, row_at q, check_within_lem counts (pair 0 0) ps risen q (omega (arith, length-map b.entries place))),
    omega (arith, column_of_lem q, column_within counts (pair 0 0) ps risen q (omega (arith, length-map b.entries place))),
    shift_at (counted b) (pair 0 0) b.entries ok.rising q h,
  )

  pub many : (i : ℕ) → s i ≤ length b.entries
  many i = omega (arith, start_most ps i, length-map b.entries place)

  pub row_is : (i q : ℕ) → s i ≤ q → q < s (suc i) → (block_at b q).first ≡ i
  row_is i q l u =
      omega (arith, row_at q, check_below counts (pair 0 0) ps risen (suc i) q u, check_above counts (pair 0 0) ps risen i q l (omega (arith, many (suc i), length-map b.entries place)))

  pub row_before : (i q : ℕ) → q < length b.entries → (block_at b q).first ≡ i → q < s (suc i)
  row_before i q h e = go (dec_lt q (s (suc i)))
    where
      go : Dec (q < s (suc i)) → q < s (suc i)
      go (yes l) = l
      go (no l) = absurd (omega (arith, row_at q, check_above counts (pair 0 0) ps risen (suc i) q (omega arith) (omega (arith, length-map b.entries place))))

  -- ---- starts

  pub block_start : (i r : ℕ) → r ≤ Z → G.start (i * Z + r) ≡ Z * s i + r * (s (suc i) - s i)
  block_start i r h = start_times Z s (start_zero ps) (start_up ps) i r h

  pub ends : G.start G.checks ≡ G.entries
  ends =
      ap (row_start (degree_of b)) (omega arith) ∙ block_start b.rows 0 (omega arith)
      ∙ omega (arith, ap (λ (x : ℕ). Z * x) (start_end counts (pair 0 0) ps risen ∙ length-map b.entries place))

  -- ---- columns

  -- the entry p of check c is at the one that the entry p of its block row puts
  pub one_at_lem : (c p : ℕ) → c < G.checks → p < degree_of b c → G.column (G.start c + p) ≡ column_of b c p
  one_at_lem c p h l = column_at_lem (degree_of b) G.checks (column_of b) c p h l

  one_within : (q r : ℕ) → q < length b.entries → one_at Z (block_at b q) r < G.variables
  one_within q r h =
      part_below Z (block_at b q).second ((r + (block_at b q).third) % Z) (mod-lt (r + (block_at b q).third) ok.some) b.columns (entry_within q h).1

  pub within : (e : ℕ) → e < G.entries → G.column e < G.variables
  within e h =
      let c : ℕ = row_of (degree_of b) G.checks e in
      let w = row_within (degree_of b) G.checks e (omega (arith, ends)) in
      one_within (s (c / Z) + (e - G.start c)) (c % Z) (omega (arith, w.1, w.2, many (suc (c / Z))))

  pub rising : (c e : ℕ) → c < G.checks → G.start c ≤ e → suc e < G.start (suc c) → G.column e < G.column (suc e)
  rising c e h l u =
      let i : ℕ = c / Z in
      let p : ℕ = e - G.start c in
      let q : ℕ = s i + p in
      let next = start_next (degree_of b) c in
      let here : G.column e ≡ column_of b c p = ap G.column (omega arith) ∙ one_at_lem c p h (omega arith) in
      let then : G.column (suc e) ≡ column_of b c (suc p) = ap G.column (omega arith) ∙ one_at_lem c (suc p) h (omega arith) in
      let up : s i + suc p ≡ suc q = omega arith in
      let j : (block_at b q).second < (block_at b (s i + suc p)).second =
      omega (arith, column_of_lem q, column_of_lem (suc q), ap (λ (x : ℕ). (block_at b x).second) up, column_rise counts (pair 0 0) ps risen i q (omega arith) (omega arith)) in
      omega (arith, here, then, part_below Z (block_at b q).second ((c % Z + (block_at b q).third) % Z) (mod-lt (c % Z + (block_at b q).third) ok.some) (block_at b (s i + suc p)).second j)

  -- ---- the ones

  pub only : (c v : ℕ) → c < G.checks → HasOne G c v → Puts b c v
  only c v h o =
      let i : ℕ = c / Z in
      let p : ℕ = o.entry - G.start c in
      let q : ℕ = s i + p in
      let next = start_next (degree_of b) c in
      let row : (block_at b q).first ≡ i = row_is i q (omega arith) (omega (arith, o.from, o.to)) in
      record {
        entry = q;
        r = c % Z;
        is_entry = omega (arith, o.from, o.to, many (suc i));
        is_turn = mod-lt c ok.some;
        check = sym (ap (λ (x : ℕ). x * Z + c % Z) row ∙ div-add-mod' c Z);
        variable = sym o.column ∙ ap G.column (omega (arith, o.from)) ∙ one_at_lem c p h (omega (arith, o.from, o.to));
      }

  pub all : (c v : ℕ) → Puts b c v → (c < G.checks) × HasOne G c v
  all c v o = (
    inside,
    record {
      entry = G.start c + p;
      from = omega arith;
      to = omega (arith, next, few);
      column = one_at_lem c p inside few ∙ ap₂ (λ (k r : ℕ). one_at Z (block_at b (s k + p)) r) quotient rest ∙ ap (λ (x : ℕ). one_at Z (block_at b x) o.r) back ∙ sym o.variable;
    },
  )
    where
      q : ℕ
      q = o.entry

      i : ℕ
      i = (block_at b q).first

      row : (s i ≤ q) × (q < s (suc i))
      row = subst (λ (k : ℕ). (s k ≤ q) × (q < s (suc k))) (row_at q) (entry_row counts (pair 0 0) ps risen q (omega (arith, o.is_entry, length-map b.entries place)))

      p : ℕ
      p = q - s i

      back : s i + p ≡ q
      back = omega (arith, row.0)

      quotient : c / Z ≡ i
      quotient = ap (λ (x : ℕ). x / Z) o.check ∙ part_div Z i o.r o.is_turn

      rest : c % Z ≡ o.r
      rest = ap (λ (x : ℕ). x % Z) o.check ∙ part_mod Z i o.r o.is_turn

      inside : c < G.checks
      inside =
          omega (arith, o.check, part_below Z i o.r o.is_turn b.rows (entry_within q o.is_entry).0)

      few : p < degree_of b c
      few = omega (arith, row.0, row.1, ap (λ (x : ℕ). s (suc x) - s x) quotient)

      next : G.start (suc c) ≡ G.start c + degree_of b c
      next = start_next (degree_of b) c

-- ---- by block row

module _ (b : Blocks) (ok : Ordered b) (i : ℕ) (row : i < b.rows) where
  -- entry p of check iZ + r
  pub block_column : (r p : ℕ) → r < b.size → p < block_degree b i
      → (expansion b).column (b.size * start_of_block b i + r * block_degree b i + p) ≡ one_at b.size (block_at b (start_of_block b i + p)) r
  block_column r p h l =
      let c : ℕ = i * b.size + r in
      let quotient = part_div b.size i r h in
      let few : p < degree_of b c = omega (arith, ap (block_degree b) quotient) in
      ap (λ (x : ℕ). (expansion b).column (x + p)) (sym (block_start b ok i r (omega arith)))
      ∙ one_at_lem b ok c p (part_below b.size i r h b.rows row) few
      ∙ ap₂ (λ (k x : ℕ). one_at b.size (block_at b (start_of_block b k + p)) x) quotient (part_mod b.size i r h)

pub expanding : Expanding
expanding b ok = record {
  begins = start_none (degree_of b);
  ends = ends b ok;
  rises = λ c. omega (arith, start_next (degree_of b) c);
  within = within b ok;
  rising = rising b ok;
  only = only b ok;
  all = all b ok;
}
