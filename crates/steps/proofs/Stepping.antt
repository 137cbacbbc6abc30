-- One iteration: what its calls do is what the rules say.
use mathlib.Core.Path.{◌≡◌, refl, sym, ap, ap₂, ◌∙◌}
use mathlib.Core.Bool.{Bool, true, false, cond}
use mathlib.Core.List.{List, [], ◌++◌, append-nil}
use Prim.Native.Nat.{ℕ, ◌*◌, ◌/◌, ◌^◌, ◌≤◌, ◌<◌}
use native.Mathlib.Omega.{arith}
use lib.Dec.{eqb}
use lib.IntN.{ℤ, pos, nat_abs, ◌+ℤ◌}
use lib.ListN.{length, get_or, drop, drop_of_length-le}
use mir.Syntax.{w32}
use mir.Val.{of_z}
use Rattle.rules.specs.Ranges.{fold, one, tabulate}
use Rattle.rules.specs.Levels.{Level, byte}
use Rattle.rules.specs.Graphs.{Graph, Admitted, variable_degree, check_of}
use Rattle.rules.specs.Nodes.{others, from_check, contribution, odd, extra, channel_part, bit_of}
use Rattle.rules.proofs.Ranges.{tabulate_ext}
use Rattle.rules.proofs.Bounds.{abs_contribution}
use Rattle.words.specs.Roles.{column_at, degree_at, sum_at, sum_table, graph_of}
use Rattle.words.proofs.Words.{table_ext, length_table}
use Rattle.words.proofs.Signed.{sum_at_table}
use Rattle.nodes.specs.Memory.{level_in, on_starts}
use Rattle.nodes.specs.Lists.{Parts, part_in, share_in}
use Rattle.nodes.specs.Rows.{Rows}
use Rattle.nodes.proofs.Leaves.{magnitude_small}
use Rattle.nodes.proofs.Signed.{fits_abs}
use Rattle.nodes.proofs.SumLaws.{total_is, total_bound}
use Rattle.steps.specs.Steps.{Summed, Sized, sum_by, sums_by, Iterates}

-- a sum in a list of sums
pub sum_in : (f : ℕ → ℤ) (n v : ℕ) → v < n → nat_abs (f v) < 2 ^ 31 → sum_at (sum_table f n) v ≡ f v
sum_in f n v l h = ap (λ b. sum_at b v) (sym (append-nil (sum_table f n))) ∙ sum_at_table f n [] v l (fits_abs h)

pub extra_small : (d : ℕ) → extra d ≤ 2
unfolding extra
extra_small d = go (eqb d 2) (odd d)
  where
    go : (a b : Bool) → cond a 0 (cond b 1 2) ≤ 2
    go true b = omega arith
    go false true = omega arith
    go false false = omega arith

module _ (n : ℕ) (starts columns : List ℕ) (ok : Admitted (graph_of n starts columns)) where
  -- what the check nodes ask
  pub rows_of : (E : ℕ) → E ≡ (graph_of n starts columns).entries → Rows starts E
  rows_of E h = record {
    some = omega (arith, ok.checks);
    rowed = record { begins = ok.begins; ends = refl; rises = λ i l. (ok.check_degrees i l).0 };
    all = ok.ends ∙ sym h;
  }

  -- every part of the channel is small, and so is every sum
  part_abs : (y : List ℕ) (v : ℕ) → nat_abs (channel_part (graph_of n starts columns) (level_in y) v) ≤ 1024
  unfolding channel_part
  part_abs y v =
      omega (
        arith,
        abs_contribution (extra (variable_degree (graph_of n starts columns) v)) (level_in y v),
        magnitude_small (get_or y v 0),
        extra_small (variable_degree (graph_of n starts columns) v),
      )

  module _ (y : List ℕ) {parts : List ℤ} (p : Parts parts) (C : List ℕ) where
    pub sum_bound : (v : ℕ) → v < n → nat_abs (sum_by (graph_of n starts columns) (level_in y) parts C v) < 2 ^ 30
    sum_bound v u =
        let f : ℕ → ℤ = channel_part (graph_of n starts columns) (level_in y) in
        let at : sum_at (sum_table f n) v ≡ f v = sum_in f n v u (omega (arith, part_abs y v)) in
        let E : ℕ = (graph_of n starts columns).entries in
        omega (
          arith,
          ap nat_abs (total_is columns (part_in parts C) (sum_table f n) E v ∙ ap (λ s. s +ℤ fold ◌+ℤ◌ (pos 0) (share_in (column_at columns) (part_in parts C) v) 0 E) at),
          total_bound columns (part_in parts C) (sum_table f n) (λ e. p.small (get_or C e 0)) E v (omega (arith, ap nat_abs at, part_abs y v)),
          ok.entries,
        )

    module _ {S : List ℕ} (e : S ≡ sums_by (graph_of n starts columns) (level_in y) parts C) where
      pub sum_of : (v : ℕ) → v < n → sum_at S v ≡ sum_by (graph_of n starts columns) (level_in y) parts C v
      sum_of v u = ap (λ s. sum_at s v) e ∙ sum_in (sum_by (graph_of n starts columns) (level_in y) parts C) n v u (omega (arith, sum_bound v u))

      pub sum_small : (v : ℕ) → v < n → nat_abs (sum_at S v) < 2 ^ 30
      sum_small v u = omega (arith, ap nat_abs (sum_of v u), sum_bound v u)

  -- the channel's parts, as they stand in the list of sums
  module _ {y d C S : List ℕ} (z : Summed (graph_of n starts columns) y d C S) {S₁ : List ℕ}
      (e₁ : S₁ ≡ sum_table (λ v. contribution (extra (degree_at d v)) (level_in y v)) (length y)) where
    part_at : (v : ℕ) → v < n → sum_at S₁ v ≡ channel_part (graph_of n starts columns) (level_in y) v
    unfolding channel_part
    part_at v l =
        ap (λ s. sum_at s v) e₁
        ∙ sum_in (λ v. contribution (extra (degree_at d v)) (level_in y v)) (length y) v (omega (arith, z.levels))
        (omega (arith, abs_contribution (extra (degree_at d v)) (level_in y v), magnitude_small (get_or y v 0), extra_small (degree_at d v)))
        ∙ ap (λ k. contribution (extra k) (level_in y v)) (z.counted.degrees v l)

    pub part_small : (v : ℕ) → v < n → nat_abs (sum_at S₁ v) ≤ 1024
    part_small v l = omega (arith, ap nat_abs (part_at v l), part_abs y v)

    pub part_length : length S₁ ≡ 4 * n
    part_length = ap length e₁ ∙ length_table 4 (λ v. of_z w32 (contribution (extra (degree_at d v)) (level_in y v))) (length y) ∙ ap (4 *◌) z.levels

    -- and the messages added to them
    pub summed_is : (parts : List ℤ) {S₂ : List ℕ}
        → S₂ ≡ sum_table (λ v. sum_at S₁ v +ℤ fold ◌+ℤ◌ (pos 0) (share_in (column_at columns) (part_in parts C) v) 0 (length C)) (length S₁ / 4) ++ drop (4 * (length S₁ / 4)) S₁
        → S₂ ≡ sums_by (graph_of n starts columns) (level_in y) parts C
    summed_is parts e₂ =
        e₂ ∙ ap₂ (λ (m : ℕ) t. sum_table (λ v. sum_at S₁ v +ℤ fold ◌+ℤ◌ (pos 0) (share_in (column_at columns) f v) 0 (length C)) m ++ t) count rest
        ∙ append-nil (sum_table (λ v. sum_at S₁ v +ℤ fold ◌+ℤ◌ (pos 0) (share_in (column_at columns) f v) 0 (length C)) n)
        ∙ table_ext 4 (λ v. of_z w32 (sum_at S₁ v +ℤ fold ◌+ℤ◌ (pos 0) (share_in (column_at columns) f v) 0 (length C)))
        (λ v. of_z w32 (sum_by (graph_of n starts columns) (level_in y) parts C v)) n
        (λ v u. ap (of_z w32) (ap₂ (λ s k. s +ℤ fold ◌+ℤ◌ (pos 0) (share_in (column_at columns) f v) 0 k) (part_at v u) z.check_messages))
      where
        f : ℕ → ℤ
        f = part_in parts C

        count : length S₁ / 4 ≡ n
        count = omega (arith, part_length)

        rest : drop (4 * (length S₁ / 4)) S₁ ≡ []
        rest = drop_of_length-le S₁ {i = 4 * (length S₁ / 4)} (omega (arith, part_length))

  -- an iteration: check messages, sums and bits
  pub iterated_is : {y d q C S b : List ℕ} → Sized (graph_of n starts columns) y d q C S b → {parts : List ℤ} → Parts parts → {C₁ S₁ b₁ : List ℕ}
      → C₁ ≡ tabulate (λ e. byte (from_check (on_starts starts) (level_in q) e)) (length q)
      → S₁ ≡ sums_by (graph_of n starts columns) (level_in y) parts C₁
      → b₁ ≡ tabulate (λ v. one (bit_of (sum_at S₁ v) (level_in y v).minus)) (length y)
      → Iterates (graph_of n starts columns) (level_in y) (level_in q) parts C₁ S₁ b₁
  unfolding from_check others check_of
  iterated_is {y} {d} {q} z {parts} p {C₁} {S₁} {b₁} e₁ e₂ e₃ = record {
    check_messages = e₁ ∙ ap (tabulate (λ e. byte (from_check (graph_of n starts columns) (level_in q) e))) z.variable_messages;
    sums = e₂;
    bits = e₃ ∙ ap (tabulate (λ v. one (bit_of (sum_at S₁ v) (level_in y v).minus))) z.summed.levels
        ∙ tabulate_ext (λ v. one (bit_of (sum_at S₁ v) (level_in y v).minus)) (λ v. one (bit_of (sum_by (graph_of n starts columns) (level_in y) parts C₁ v) (level_in y v).minus)) n
        (λ v u. ap (λ s. one (bit_of s (level_in y v).minus)) (sum_of y p C₁ e₂ v u));
  }

-- the sums of an iteration are small
pub iterated_small : (n : ℕ) (starts columns : List ℕ) → Admitted (graph_of n starts columns) → (y : List ℕ) {q : ℕ → Level} {parts : List ℤ} {C S b : List ℕ} → Iterates (graph_of n starts columns) (level_in y) q parts C S b
    → Parts parts → (v : ℕ) → v < n → nat_abs (sum_at S v) < 2 ^ 30
iterated_small n starts columns ok y {q} {parts} {C} it p v u = sum_small n starts columns ok y p C it.sums v u

-- with other check messages
pub summed_with : {G : Graph} {y d C C₁ S : List ℕ} → Summed G y d C S → length C₁ ≡ length C → Summed G y d C₁ S
summed_with z l = record { admitted = z.admitted; levels = z.levels; counted = z.counted; check_messages = l ∙ z.check_messages; sums = z.sums }
