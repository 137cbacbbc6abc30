-- The run text of the document's example, and that text with one line damaged in each way, as one table.
use Rattle.std.specs.Prelude.{Bool, List, [], ◌∷◌, ◌++◌, ℕ}
use Prim.Native.String.{String}
use Rattle.std.specs.Float.{binary32}
use Rattle.std.specs.Float.Ieee.{to_bits}
use Rattle.rules.specs.Tables.{AllPass, same_list}
use Rattle.texts.specs.Quoted.{ascii}
use Rattle.settings.specs.declared.Scaling.{Scaling}
use Rattle.settings.specs.declared.Scaling.TheVariants.{Plain, Noise}
use Rattle.program_texts.specs.RunText.Texts.{plain_titles, noise_titles}
use Rattle.program_texts.specs.RunText.Reading.{RunText, refused, read, run_text}

pub data Trial : Type 0 where
  -- this text, for three values, gives these numbers: the bits of the gain (and the variance), the six settings, the values' bytes
  reads : List ℕ → List ℕ → Trial
  -- this text, for three values, is refused at this line
  refuses : List ℕ → ℕ → Trial

-- A text with these lines below its titles.
abbrev pub plain : String → List ℕ
plain lines = plain_titles ++ ascii lines

abbrev pub noise : String → List ℕ
noise lines = noise_titles ++ ascii lines

unfoldable pub trials : List Trial
trials =
    reads (plain "3f800000 3 3 1 1 0 5\nvalue\n40200000\nbf000000\n3fc00000\n")
    (0x3f80_0000 ∷ 3 ∷ 3 ∷ 1 ∷ 1 ∷ 0 ∷ 5 ∷ 0 ∷ 0 ∷ 0x20 ∷ 0x40 ∷ 0 ∷ 0 ∷ 0 ∷ 0xbf ∷ 0 ∷ 0 ∷ 0xc0 ∷ 0x3f ∷ [])
    ∷ reads (noise "3f800000 40000000 99999 0 10 7 65536 256\nvalue\nabcdef01\n23456789\n00000000\n")
    (0x3f80_0000 ∷ 0x4000_0000 ∷ 99999 ∷ 0 ∷ 10 ∷ 7 ∷ 65536 ∷ 256 ∷ 0x01 ∷ 0xef ∷ 0xcd ∷ 0xab ∷ 0x89 ∷ 0x67 ∷ 0x45 ∷ 0x23 ∷ 0 ∷ 0 ∷ 0 ∷ 0 ∷ [])
    -- line 1: missing, other titles, no LF
    ∷ refuses [] 1
    ∷ refuses (ascii "gain channel message phi_s phi_a limit\n3f800000 3 3 1 1 5\nvalue\n40200000\nbf000000\n3fc00000\n") 1
    ∷ refuses (ascii "variance gain channel message phi_s phi_a phi_0 limit\n") 1
    ∷ refuses (ascii "gain channel message phi_s phi_a phi_0 limit") 1
    -- line 2: missing; other digits, seven, nine; a leading zero, six digits, no digit
    ∷ refuses (plain "") 2
    ∷ refuses (plain "3F800000 3 3 1 1 0 5\nvalue\n40200000\nbf000000\n3fc00000\n") 2
    ∷ refuses (plain "3f80000 3 3 1 1 0 5\nvalue\n40200000\nbf000000\n3fc00000\n") 2
    ∷ refuses (plain "3f8000000 3 3 1 1 0 5\nvalue\n40200000\nbf000000\n3fc00000\n") 2
    ∷ refuses (plain "3f800000 3 3 1 1 0 05\nvalue\n40200000\nbf000000\n3fc00000\n") 2
    ∷ refuses (plain "3f800000 3 3 1 1 0 100000\nvalue\n40200000\nbf000000\n3fc00000\n") 2
    ∷ refuses (plain "3f800000 3  1 1 0 5\nvalue\n40200000\nbf000000\n3fc00000\n") 2
    -- line 2: two spaces, a space at the end, a number too few, one too many, a variance that line 1 has not, none where it has one, no LF
    ∷ refuses (plain "3f800000  3 3 1 1 0 5\nvalue\n40200000\nbf000000\n3fc00000\n") 2
    ∷ refuses (plain "3f800000 3 3 1 1 0 5 \nvalue\n40200000\nbf000000\n3fc00000\n") 2
    ∷ refuses (plain "3f800000 3 3 1 1 0\nvalue\n40200000\nbf000000\n3fc00000\n") 2
    ∷ refuses (plain "3f800000 3 3 1 1 0 5 5\nvalue\n40200000\nbf000000\n3fc00000\n") 2
    ∷ refuses (plain "3f800000 40000000 3 3 1 1 0 5\nvalue\n40200000\nbf000000\n3fc00000\n") 2
    ∷ refuses (noise "3f800000 3 3 1 1 0 5\nvalue\n40200000\nbf000000\n3fc00000\n") 2
    ∷ refuses (plain "3f800000 3 3 1 1 0 5") 2
    -- line 3: missing, another, no LF
    ∷ refuses (plain "3f800000 3 3 1 1 0 5\n") 3
    ∷ refuses (plain "3f800000 3 3 1 1 0 5\nvalues\n40200000\nbf000000\n3fc00000\n") 3
    ∷ refuses (plain "3f800000 3 3 1 1 0 5\nvalue") 3
    -- a value's line: of other form, empty, no LF, missing; extra: a value, a LF, a byte
    ∷ refuses (plain "3f800000 3 3 1 1 0 5\nvalue\n4020000g\nbf000000\n3fc00000\n") 4
    ∷ refuses (plain "3f800000 3 3 1 1 0 5\nvalue\n40200000\n\n3fc00000\n") 5
    ∷ refuses (plain "3f800000 3 3 1 1 0 5\nvalue\n40200000\nbf000000\n3fc00000") 6
    ∷ refuses (plain "3f800000 3 3 1 1 0 5\nvalue\n40200000\nbf000000\n") 6
    ∷ refuses (plain "3f800000 3 3 1 1 0 5\nvalue\n40200000\nbf000000\n3fc00000\n3fc00000\n") 7
    ∷ refuses (plain "3f800000 3 3 1 1 0 5\nvalue\n40200000\nbf000000\n3fc00000\n\n") 7
    ∷ refuses (plain "3f800000 3 3 1 1 0 5\nvalue\n40200000\nbf000000\n3fc00000\n0") 7
    ∷ []

-- ---- the test

abbrev pub scaling_bits : Scaling → List ℕ
scaling_bits (Plain g) = to_bits binary32 g ∷ []
scaling_bits (Noise g v) = to_bits binary32 g ∷ to_bits binary32 v ∷ []

-- What was read as numbers; or 0 and the line.
unfoldable pub told : RunText → List ℕ
told (refused l) = 0 ∷ l ∷ []
told (read g v) =
    scaling_bits g.scaling ++ (g.channel ∷ g.message ∷ g.phi_s ∷ g.phi_a ∷ g.phi_0 ∷ g.limit ∷ v)

unfoldable pub passes : Trial → Bool
passes (reads t numbers) = same_list (told (run_text 3 t)) numbers
passes (refuses t l) = same_list (told (run_text 3 t)) (0 ∷ l ∷ [])

abbrev pub TrialsPass : Type 0
TrialsPass = AllPass passes trials
