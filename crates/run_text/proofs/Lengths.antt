-- The values that a run text gives are n.
use mathlib.Core.Path.{◌≡◌, sym, ap, ◌∙◌}
use mathlib.Core.Bool.{Bool, true, false, cond}
use mathlib.Core.List.{List, [], ◌∷◌, ◌++◌}
use Prim.Native.Nat.{ℕ, zero, suc, ◌+◌, ◌*◌}
use native.Mathlib.Omega.{arith}
use lib.Dec.{leb}
use lib.ListN.{length, length-append}
use Rattle.texts.specs.Numbers.{Front, other, value}
use Rattle.texts.specs.Lines.{lf, fixed}
use Rattle.words.specs.Words.{bytes}
use Rattle.words.proofs.Words.{length_bytes}
use Rattle.settings.specs.declared.Parameters.{Parameters}
use Rattle.program_texts.specs.RunText.Texts.{titles, settings_line, value_title, pattern}
use Rattle.program_texts.specs.RunText.Reading.{RunText, refused, read, formed, value_lines, run_lines, largest_input, run_text}

not_read : {l : ℕ} {g : Parameters} {v : List ℕ} → refused l ≡ read g v → ⊥
not_read e = let z : ◌≡◌ {A = ℕ} 0 1 = cc in omega arith

-- a property of what is read, through a line
module _ (P : Parameters → List ℕ → Type 0) where
  formed_read : {A : Type 0} (l : ℕ) (x : Front A) (k : A → List ℕ → RunText) → ((a : A) (t : List ℕ) (g : Parameters) (v : List ℕ) → k a t ≡ read g v → P g v)
      → (g : Parameters) (v : List ℕ) → formed l x k ≡ read g v → P g v
  formed_read l other k h g v e = absurd (not_read e)
  formed_read l (value a t) k h g v e = h a t g v e

lines_long : (g : Parameters) (k l : ℕ) (done t : List ℕ) (h : Parameters) (v : List ℕ) → value_lines g k l done t ≡ read h v → length v ≡ length done + 4 * k
unfolding value_lines
lines_long g zero l done [] h v e = let q : done ≡ v = cc in ap length (sym q) ∙ omega arith
lines_long g zero l done (b ∷ t) h v e = absurd (not_read e)
lines_long g (suc k) l done t h v e =
    formed_read (λ (_ : Parameters) (v : List ℕ). length v ≡ length done + 4 * suc k) l (pattern lf t) (λ x r. value_lines g k (suc l) (done ++ bytes 4 x) r)
    (λ x r h v q. lines_long g k (suc l) (done ++ bytes 4 x) r h v q ∙ omega (arith, length-append done (bytes 4 x), length_bytes 4 x)) h v e

pub run_long : (n : ℕ) (t : List ℕ) (g : Parameters) (v : List ℕ) → run_text n t ≡ read g v → length v ≡ 4 * n
unfolding run_text run_lines
run_long n t g v e = go (leb (length t) largest_input) e
  where
    P : Parameters → List ℕ → Type 0
    P g v = length v ≡ 4 * n

    all : run_lines n t ≡ read g v → length v ≡ 4 * n
    all =
        formed_read P 1 (titles t) _ (λ noise t₁.
        formed_read P 2 (settings_line noise t₁) _ (λ g t₂.
        formed_read P 3 (fixed value_title t₂) _ (λ u t₃ h w q. lines_long g n 4 [] t₃ h w q ∙ omega arith))) g v

    go : (b : Bool) → cond b (run_lines n t) (refused 0) ≡ read g v → length v ≡ 4 * n
    go true q = all q
    go false q = absurd (not_read q)
