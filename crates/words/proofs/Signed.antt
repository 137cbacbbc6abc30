-- An i32 and its bits: how the code turns one into the other, and tables of sums.
use mathlib.Core.Path.{◌≡◌, ap, ◌∙◌}
use mathlib.Core.Logic.{◌≢◌}
use mathlib.Core.List.{List, ◌++◌}
use Prim.Native.Nat.{ℕ, ◌*◌, ◌≤◌, ◌<◌}
use lib.IntN.{ℤ}
use lib.ListN.{length, get_or, take}
use mir.Syntax.{w32}
use mir.Val.{to_z, of_z, SFits}
use mir.ValLaws.{to_z-of_z, of_z_fits, of_z-to_z}
use Rattle.words.specs.Words.{word, stored}
use Rattle.words.specs.Roles.{sum_at, sum_table}
use Rattle.words.proofs.Words.{word_bound, table_ext, at_table, put_table, table_self}

-- ---- tables of sums

pub sum_at_table : (g : ℕ → ℤ) (n : ℕ) (t : List ℕ) (v : ℕ) → v < n → SFits w32 (g v) → sum_at (sum_table g n ++ t) v ≡ g v
sum_at_table g n t v l f = ap (to_z w32) (at_table 4 (λ k. of_z w32 (g k)) n t v l (of_z_fits w32 (g v) f).fits) ∙ to_z-of_z w32 (g v) f

pub sum_put_table : (g h : ℕ → ℤ) (n : ℕ) (t : List ℕ) (v : ℕ) (x : ℤ) → v < n → h v ≡ x → ((j : ℕ) → j < n → j ≢ v → h j ≡ g j)
    → stored 4 (sum_table g n ++ t) (4 * v) (of_z w32 x) ≡ sum_table h n ++ t
sum_put_table g h n t v x l s o =
    put_table 4 (λ k. of_z w32 (g k)) (λ k. of_z w32 (h k)) n t v (of_z w32 x) l (ap (of_z w32) s) (λ j u d. ap (of_z w32) (o j u d))

-- a list of sums as the table of its own numbers
pub sum_self : (b : List ℕ) (n : ℕ) → 4 * n ≤ length b → ((j : ℕ) → get_or b j 0 < 256) → sum_table (sum_at b) n ≡ take (4 * n) b
sum_self b n l h =
    table_ext 4 (λ v. of_z w32 (sum_at b v)) (λ v. word 4 b (4 * v)) n
    (λ v u. of_z-to_z w32 (word 4 b (4 * v)) (record { fits = word_bound 4 b (4 * v) (λ j _ _. h j) }))
    ∙ table_self 4 b n l h
