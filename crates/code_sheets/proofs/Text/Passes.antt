-- The first pass: numbers kept up to the cap are judged as they are.
use Rattle.std.specs.Prelude.{Ok}
use mathlib.Core.Path.{◌≡◌, ap₂}
use mathlib.Core.Bool.{◌&&◌}
use Prim.Native.Nat.{ℕ, ◌+◌, ◌≤◌, ◌<◌, min}
use native.Mathlib.Decide.{dec_lt}
use native.Mathlib.Omega.{arith}
use borrow.Author.Tests.{le-ltb, lt-leb}
use lib.Dec.{leb, ltb}
use Rattle.rules.specs.Graphs.{Limits, fewest_variables, fewest_checks}
use Rattle.rules.proofs.Tests.{and_no}
use Rattle.texts.specs.Lines.{Pair, pair}
use Rattle.texts.specs.Places.{cap}
use Rattle.code_sheets.specs.Text.Reading.{counts_fit, after, entry_judged}
use Rattle.code_sheets.proofs.Text.Order.{judged_fits}

-- a number above every limit is refused as the number itself is
pub capped_entry : (c low : Pair) (l : ℕ) (p : Pair) (a b : ℕ) → c.first ≤ cap → c.second ≤ cap → a ≡ min p.first cap → b ≡ min p.second cap
    → entry_judged c l low (pair a b) ≡ entry_judged c l low p
capped_entry c low l p a b hn hm ea eb = go (dec_lt p.first cap) (dec_lt p.second cap)
  where
    go : Dec (p.first < cap) → Dec (p.second < cap) → entry_judged c l low (pair a b) ≡ entry_judged c l low p
    go (yes x) (yes y) = ap₂ (λ (i j : ℕ). entry_judged c l low (pair i j)) (omega arith) (omega arith)
    go (no x) y = rw (le-ltb a c.second (omega arith), le-ltb p.first c.second (omega arith))
    go (yes x) (no y) =
        rw (le-ltb b c.first (omega arith), le-ltb p.second c.first (omega arith), and_no (ltb a c.second), and_no (ltb p.first c.second))

pub capped_counts : (L : Limits) → L.variables < cap → L.checks < cap → (p : Pair) (a b : ℕ) → a ≡ min p.first cap → b ≡ min p.second cap
    → counts_fit L (pair a b) ≡ counts_fit L p
capped_counts L hn hm p a b ea eb = go (dec_lt p.first cap) (dec_lt p.second cap)
  where
    go : Dec (p.first < cap) → Dec (p.second < cap) → counts_fit L (pair a b) ≡ counts_fit L p
    go (yes x) (yes y) =
        let i : a ≡ p.first = omega arith in
        let j : b ≡ p.second = omega arith in
        ap₂ (λ (i j : ℕ). counts_fit L (pair i j)) i j
    go (no x) y =
        rw (
          lt-leb a L.variables (omega arith),
          lt-leb p.first L.variables (omega arith),
          and_no (leb fewest_variables a),
          and_no (leb fewest_variables p.first),
        )
    go (yes x) (no y) =
        rw (
          lt-leb b L.checks (omega arith),
          lt-leb p.second L.checks (omega arith),
          and_no (leb fewest_checks b),
          and_no (leb fewest_checks p.second),
          and_no (leb fewest_variables a && leb a L.variables),
          and_no (leb fewest_variables p.first && leb p.first L.variables),
        )

-- the place after an entry that was not refused, as the code keeps it
pub after_capped : (c low : Pair) (l : ℕ) (p : Pair) (a b : ℕ) → c.first ≤ cap → c.second ≤ cap → a ≡ min p.first cap → b ≡ min p.second cap
    → entry_judged c l low p ≡ Ok tt → after p ≡ pair a (b + 1)
after_capped c low l p a b hn hm ea eb j =
    let f = judged_fits c low p l j in
    ap₂ pair (omega (arith, f.check)) (omega (arith, f.variable))
