-- A run text that is read asks for no lifting.
use mathlib.Core.Path.{◌≡◌, refl, sym, ap, ◌∙◌}
use mathlib.Core.Bool.{Bool, true, false, cond}
use mathlib.Core.List.{List, [], ◌∷◌, ◌++◌}
use Prim.Native.Nat.{ℕ, zero, suc}
use native.Mathlib.Omega.{arith}
use lib.Dec.{leb}
use lib.ListN.{length}
use Rattle.rules.specs.Nodes.{never}
use Rattle.texts.specs.Numbers.{Front, other, value}
use Rattle.texts.specs.Lines.{space, lf, and_then, fixed}
use Rattle.words.specs.Words.{bytes}
use Rattle.settings.specs.declared.Parameters.{Parameters}
use Rattle.settings.specs.Settings.{largest_lift}
use Rattle.program_texts.specs.RunText.Texts.{titles, settings_line, scaling, settings, given, value_title, pattern}
use Rattle.program_texts.specs.RunText.Reading.{RunText, refused, read, formed, value_lines, run_lines, largest_input, run_text, NeverLifts}

-- what was read of a line that is not refused, and of a form that stands after another
formed_told : {A P : Type 0} (l : ℕ) (x : Front A) (k : A → List ℕ → RunText) {g : Parameters} {v : List ℕ} → formed l x k ≡ read g v
    → ((a : A) (t : List ℕ) → x ≡ value a t → k a t ≡ read g v → P) → P
formed_told l other k e f = let z : ◌≡◌ {A = ℕ} 0 1 = cc in absurd (omega arith)
formed_told l (value a t) k e f = f a t refl e

then_told : {A B P : Type 0} (x : Front A) (k : A → List ℕ → Front B) {b : B} {r : List ℕ} → and_then x k ≡ value b r
    → ((a : A) (t : List ℕ) → x ≡ value a t → k a t ≡ value b r → P) → P
then_told other k e f = let z : ◌≡◌ {A = ℕ} 0 1 = cc in absurd (omega arith)
then_told (value a t) k e f = f a t refl e

-- the values' lines leave the settings as they are
values_told : (g : Parameters) (k l : ℕ) (done t : List ℕ) {g' : Parameters} {v : List ℕ} → value_lines g k l done t ≡ read g' v → g ≡ g'
unfolding value_lines
values_told g zero l done [] e = cc
values_told g zero l done (b ∷ t) e = let z : ◌≡◌ {A = ℕ} 0 1 = cc in absurd (omega arith)
values_told g (suc k) l done t e = formed_told l (pattern lf t) (λ v r. value_lines g k (suc l) (done ++ bytes 4 v) r) e (λ v r _ d. values_told g k (suc l) (done ++ bytes 4 v) r d)

abbrev Unlifted : Parameters → Type 0
Unlifted g = (g.lift_from ≡ never) × (g.lift_to ≡ largest_lift)

line_told : (noise : Bool) (t : List ℕ) {g : Parameters} {r : List ℕ} → settings_line noise t ≡ value g r → Unlifted g
unfolding settings_line
line_told noise t {g} {r} e =
    then_told (scaling noise t) (λ s t₁. and_then (settings space t₁) (λ a t₂. and_then (settings lf t₂) (λ b t₃. value (given s a b) t₃))) e
    (λ s t₁ _ e₁. then_told (settings space t₁) (λ a t₂. and_then (settings lf t₂) (λ b t₃. value (given s a b) t₃)) e₁
    (λ a t₂ _ e₂. then_told (settings lf t₂) (λ b t₃. value (given s a b) t₃) e₂
    (λ b t₃ _ e₃. let same : given s a b ≡ g = cc in (ap (λ p. p.lift_from) (sym same), ap (λ p. p.lift_to) (sym same)))))

lines_told : (n : ℕ) (t : List ℕ) {g : Parameters} {v : List ℕ} → run_lines n t ≡ read g v → Unlifted g
unfolding run_lines
lines_told n t e =
    formed_told 1 (titles t) (λ noise t₁. formed 2 (settings_line noise t₁) (λ g t₂. formed 3 (fixed value_title t₂) (λ u t₃. value_lines g n 4 [] t₃))) e
    (λ noise t₁ _ e₁. formed_told 2 (settings_line noise t₁) (λ g t₂. formed 3 (fixed value_title t₂) (λ u t₃. value_lines g n 4 [] t₃)) e₁
    (λ g t₂ line e₂. formed_told 3 (fixed value_title t₂) (λ u t₃. value_lines g n 4 [] t₃) e₂
    (λ u t₃ _ e₃. let same = values_told g n 4 [] t₃ e₃ in
    let asked = line_told noise t₁ line in (ap (λ p. p.lift_from) (sym same) ∙ asked.0, ap (λ p. p.lift_to) (sym same) ∙ asked.1))))

pub never_lifts : NeverLifts
unfolding run_text
never_lifts n t g values e = go (leb (length t) largest_input) e
  where
    go : (b : Bool) → cond b (run_lines n t) (refused 0) ≡ read g values → Unlifted g
    go true d = lines_told n t d
    go false d = let z : ◌≡◌ {A = ℕ} 0 1 = cc in absurd (omega arith)
