-- A text that was put at a place of lent bytes, and parts of a number's text.
use Rattle.std.specs.Prelude.{◌≡◌, List, [], ◌∷◌, ℕ, ◌+◌, ◌/◌, ◌%◌, length}
use Rattle.std.proofs.lemmas.List.Edits.{sets}

-- The bytes then, and the place after the text t.
pub record Put (t old now : List ℕ) (at next : ℕ) : Type 0 where
  pub text : now ≡ sets old at t
  pub after : next ≡ at + length t

-- The last three digits of a number.
abbrev pub last_three : ℕ → List ℕ
last_three k = (48 + k / 10 / 10 % 10) ∷ (48 + k / 10 % 10) ∷ (48 + k % 10) ∷ []
