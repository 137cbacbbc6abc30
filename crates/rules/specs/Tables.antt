-- Tables of trials, for any type of row and its test: every row passes, by computation.
use Rattle.std.specs.Prelude.{◌≡◌, Bool, true, false, cond, ◌&&◌, List, [], ◌∷◌, ℕ, suc, eqb}

module _ {Row : Type 0} (passes : Row → Bool) where
  -- The rows of a table that fail, counted from k.
  unfoldable pub failures : ℕ → List Row → List ℕ
  failures k [] = []
  failures k (r ∷ rs) = cond (passes r) (failures (suc k) rs) (k ∷ failures (suc k) rs)

  -- Every row passes.
  abbrev pub AllPass : List Row → Type 0
  AllPass rows = failures 1 rows ≡ []

-- What tests compare: two lists of numbers.
abbrev pub same_list : List ℕ → List ℕ → Bool
same_list [] [] = true
same_list [] (b ∷ bs) = false
same_list (a ∷ l) [] = false
same_list (a ∷ l) (b ∷ bs) = eqb a b && same_list l bs
