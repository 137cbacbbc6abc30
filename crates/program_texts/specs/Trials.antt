-- What the program prints: the document's whole example with its variants, and a refusal of each kind, as one table.
use Rattle.std.specs.Prelude.{Bool, List, [], ◌∷◌, ℕ, zero, suc}
use Prim.Native.String.{String, ◌++◌}
use Rattle.rules.specs.Tables.{AllPass, same_list}
use Rattle.texts.specs.Quoted.{ascii}
use Rattle.program_texts.specs.Answering.{program_text}

pub data Trial : Type 0 where
  -- a sheet and a run text, and what is printed
  prints : List ℕ → List ℕ → String → Trial

-- 'Sheet lines: `variables checks`, `3 2`, `check variable`, `0 0`, `0 1`, `1 1`, `1 2`.'
abbrev pub sheet : List ℕ
sheet = ascii "variables checks\n3 2\ncheck variable\n0 0\n0 1\n1 1\n1 2\n"

-- A run text with these lines below its titles.
abbrev pub plain : String → List ℕ
plain lines = ascii ("gain channel message phi_s phi_a phi_0 limit\n" ++ lines)

abbrev pub noise : String → List ℕ
noise lines = ascii ("gain variance channel message phi_s phi_a phi_0 limit\n" ++ lines)

-- k bytes.
unfoldable pub many : ℕ → List ℕ
many zero = []
many (suc k) = 48 ∷ many k

unfoldable pub trials : List Trial
trials =
    prints sheet (plain "3f800000 3 3 1 1 0 5\nvalue\n40200000\nbf000000\n3fc00000\n") "verdict iterations unsatisfied\ncodeword 1 0\nbits\n000\n"
    -- 'The example negated throughout: `codeword 1 0`, `111`. Limit 0: `stopped 0 2`, `010`.'
    ∷ prints sheet (plain "3f800000 3 3 1 1 0 5\nvalue\nc0200000\n3f000000\nbfc00000\n") "verdict iterations unsatisfied\ncodeword 1 0\nbits\n111\n"
    ∷ prints sheet (plain "3f800000 3 3 1 1 0 0\nvalue\n40200000\nbf000000\n3fc00000\n") "verdict iterations unsatisfied\nstopped 0 2\nbits\n010\n"
    -- all +0.0, all -0.0, all at the first threshold; one magnitude of 1
    ∷ prints sheet (plain "3f800000 3 3 1 1 0 5\nvalue\n00000000\n00000000\n00000000\n") "refusal place\n20 0\n"
    ∷ prints sheet (plain "3f800000 3 3 1 1 0 5\nvalue\n80000000\n80000000\n80000000\n") "refusal place\n20 0\n"
    ∷ prints sheet (plain "3f800000 3 3 1 1 0 5\nvalue\n3f800000\nbf800000\n3f800000\n") "refusal place\n20 0\n"
    ∷ prints sheet (plain "3f800000 3 3 1 1 0 5\nvalue\nbf800001\n00000000\n00000000\n") "verdict iterations unsatisfied\ncodeword 2 0\nbits\n111\n"
    -- 'Limit 255 passes, 256 gives 9; a check of degree 1 gives 5.'
    ∷ prints sheet (plain "3f800000 3 3 1 1 0 255\nvalue\n40200000\nbf000000\n3fc00000\n") "verdict iterations unsatisfied\ncodeword 1 0\nbits\n000\n"
    ∷ prints sheet (plain "3f800000 3 3 1 1 0 256\nvalue\n40200000\nbf000000\n3fc00000\n") "refusal place\n9 0\n"
    ∷ prints (ascii "variables checks\n3 2\ncheck variable\n0 0\n0 1\n1 2\n") [] "refusal place\n5 1\n"
    -- a gain of 1 with a variance of 2
    ∷ prints sheet (noise "3f800000 40000000 3 3 1 1 0 5\nvalue\n40200000\nbf000000\n3fc00000\n") "verdict iterations unsatisfied\ncodeword 1 0\nbits\n000\n"
    -- the order: an oversized file, the sheet's, an oversized run text, its lines, decode's
    ∷ prints (many 65537) (many 65537) "refusal place\n2 0\n"
    ∷ prints [] (many 65537) "refusal place\n1 1\n"
    -- 'a block sheet, read by a call of its own and never by `frame`'
    ∷ prints (ascii "size rows columns\n3 1 2\nrow column shift\n0 0 1\n0 1 2\n") [] "refusal place\n1 1\n"
    ∷ prints sheet (many 65537) "refusal place\n14 0\n"
    ∷ prints sheet [] "refusal place\n14 1\n"
    ∷ prints sheet (plain "3f800000 3 3 1 1 0 256\nvalue\n40200000\nbf000000\n") "refusal place\n14 6\n"
    ∷ prints sheet (plain "3f800000 3 3 1 1 0 256\nvalue\n40200000\nbf000000\n3fc00000\n0") "refusal place\n14 7\n"
    ∷ prints sheet (plain "00000000 2 3 2 1 0 5\nvalue\n40200000\nbf000000\n3fc00000\n") "refusal place\n8 0\n"
    ∷ prints sheet (plain "ff800000 3 3 1 1 0 5\nvalue\n40200000\nbf000000\n3fc00000\n") "refusal place\n10 0\n"
    ∷ prints sheet (noise "7f000000 00800000 3 3 1 1 0 5\nvalue\n40200000\nbf000000\n3fc00000\n") "refusal place\n11 0\n"
    ∷ prints sheet (plain "3f800000 3 3 1 1 0 5\nvalue\n40200000\n7f800000\n7fc00000\n") "refusal place\n12 1\n"
    ∷ prints sheet (plain "3f800000 3 3 1 1 0 5\nvalue\n00000000\n00000000\n7f800000\n") "refusal place\n12 2\n"
    ∷ []

unfoldable pub passes : Trial → Bool
passes (prints s r text) = same_list (program_text s r) (ascii text)

abbrev pub TrialsPass : Type 0
TrialsPass = AllPass passes trials
