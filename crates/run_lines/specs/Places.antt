-- What the parts of the reader find at a place of the text: the definitions on the rest of the text, said of the code's answers.
use Rattle.std.specs.Prelude.{◌≡◌, List, [], ◌++◌, Option, Some, None, Result, Ok, Err, ℕ, ◌*◌, ◌≤◌, ◌<◌, length, drop}
use Rattle.texts.specs.Numbers.{Front, other, value}
use Rattle.program_texts.specs.RunText.Texts.{hex_digit, Three, three}
use Rattle.program_texts.specs.RunText.Reading.{RunText, refused, read, value_lines, run_lines}
use Rattle.settings.specs.declared.Parameters.{Parameters}
use Rattle.texts.specs.declared.Parsed.{Parsed}

-- The value a was read, up to the place `next`.
pub record Reads {A : Type 0} (x : Front A) (s : List ℕ) (a : A) (next : ℕ) : Type 0 where
  pub reads : x ≡ value a (drop next s)
  pub within : next ≤ length s

abbrev pub ReadAt : {A : Type 0} → (List ℕ → Front A) → List ℕ → ℕ → Option (Parsed A) → Type 0
ReadAt form s at None = form (drop at s) ≡ other
ReadAt form s at (Some p) = Reads (form (drop at s)) s p.value p.next

abbrev pub ThreeAt : (List ℕ → Front Three) → List ℕ → ℕ → Option (Parsed (ℕ × ℕ × ℕ)) → Type 0
ThreeAt form s at None = form (drop at s) ≡ other
ThreeAt form s at (Some p) = Reads (form (drop at s)) s (three p.value.0 p.value.1 p.value.2) p.next

-- The value of the hexadecimal digit b, or none.
abbrev pub HexDigit : ℕ → Option ℕ → Type 0
HexDigit b None = hex_digit b ≡ 16
HexDigit b (Some d) = (d < 16) × (hex_digit b ≡ d)

-- The three lines above the values: refused, or the settings and the place of the first value's line.
pub record ValuesFrom (s : List ℕ) (g : Parameters) (at : ℕ) : Type 0 where
  pub same : (n : ℕ) → run_lines n s ≡ value_lines g n 4 [] (drop at s)
  pub within : at ≤ length s

abbrev pub AboveAt : List ℕ → Result (Parsed Parameters) ℕ → Type 0
AboveAt s (Err l) = (n : ℕ) → run_lines n s ≡ refused l
AboveAt s (Ok p) = ValuesFrom s p.value p.next

-- The values' lines: refused, or the values in memory.
pub record Stores (x : RunText) (g : Parameters) (n : ℕ) (old now : List ℕ) : Type 0 where
  pub done : List ℕ
  pub is : x ≡ read g done
  pub long : length done ≡ 4 * n
  pub holds : now ≡ done ++ drop (4 * n) old

abbrev pub Stored : Type 0
Stored = Result (Unit {0}) ℕ

abbrev pub StoresAs : (Parameters → RunText) → ℕ → List ℕ → List ℕ → Stored → Type 0
StoresAs x n old now (Err l) = (g : Parameters) → x g ≡ refused l
StoresAs x n old now (Ok u) = (g : Parameters) → Stores (x g) g n old now
