-- A line of a block sheet has at most 21 bytes, that of size and counts 24.
use mathlib.Core.List.{List, [], ◌∷◌}
use Prim.Native.Nat.{ℕ, ◌+◌, ◌*◌, ◌^◌, ◌≤◌, ◌<◌}
use native.Mathlib.Omega.{arith}
use lib.ListN.{length, length-append}
use Rattle.rules.specs.Graphs.{limits}
use Rattle.texts.specs.Lines.{Pair, pair}
use Rattle.texts.specs.Triples.{Triple, triple, triple_text}
use Rattle.texts.specs.Layouts.{entries_text}
use Rattle.texts.specs.Order.{Rising}
use Rattle.code_sheets.proofs.Writer.Sizes.{digits_within, line_short}
use Rattle.block_sheets.specs.Text.Reading.{counted, block_entries}
use Rattle.block_sheets.specs.Text.Theorems.{BlockFits}
use Rattle.block_sheets.proofs.Text.Judging.{factor}
use Rattle.block_sheets.specs.Writer.Theorems.{BlocksShort}
use Rattle.block_sheets.proofs.Writer.Texts.{line_long, sheet_long}

three_short : (d a b c : ℕ) → a < 10 * 10 ^ d → b < 10 * 10 ^ d → c < 10 * 10 ^ d → length (triple_text (triple a b c)) ≤ 3 * d + 6
three_short d a b c h k l = omega (arith, line_long a b c, digits_within d a h, line_short d b c k l)

-- entries in range, where no number is above 1,000,000
entries_short : (c : Triple) → c.first ≤ 1000000 → c.second ≤ 1000000 → c.third ≤ 1000000 → (low : Pair) (ps : List Triple)
    → Rising block_entries BlockFits c low ps → length (entries_text block_entries ps) ≤ 21 * length ps
unfolding entries_text
entries_short c hz hm hn low [] r = omega arith
entries_short c hz hm hn low (p ∷ ps) r =
    let f = r.0.place_fits in
    let one = three_short 5 p.first p.second p.third (omega (arith, f.check)) (omega (arith, f.variable)) (omega (arith, r.0.shift)) in
    rw length-append (omega (arith, one, entries_short c hz hm hn (block_entries.after p) ps r.1))

pub blocks_short : BlocksShort
blocks_short b v =
    let n = factor b.columns b.size limits.variables (omega (arith, v.variables.0)) v.variables.1 in
    let m = factor b.rows b.size limits.checks v.checks.0 v.checks.1 in
    omega (
      arith,
      sheet_long b,
      three_short 6 b.size b.rows b.columns (omega (arith, n.1)) (omega (arith, m.0)) (omega (arith, n.0)),
      entries_short (counted b) (omega (arith, n.1)) (omega (arith, m.0)) (omega (arith, n.0)) (pair 0 0) b.entries v.ordered.rising,
    )
