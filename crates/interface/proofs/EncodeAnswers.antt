-- What the companion of the entry for the writing side promises, and that it tells the place of what that refuses.
use Rattle.std.specs.Prelude.{Ok, Err}
use mathlib.Core.Path.{◌≡◌, refl, sym, ap, ◌∙◌}
use mathlib.Core.Bool.{Bool, true, false}
use mathlib.Core.List.{List}
use Prim.Native.Nat.{ℕ}
use lib.Dec.{leb}
use lib.ListN.{length}
use Rattle.rules.specs.Graphs.{Graph}
use Rattle.refusals.specs.Refusals.{paper, unless, or_else, Judged}
use Rattle.refusals.specs.declared.Refusal.{Refusal}
use Rattle.refusals.specs.declared.Refusal.TheVariants.{Buffer}
use Rattle.codewords.specs.Choosing.{Given}
use Rattle.codewords.specs.Encoding.{given_of, input_judged, work_bytes, room_judged, encode_judged, Answers, JudgesInput}
use Rattle.interface.specs.Packing.{place_of}
use Rattle.interface.specs.Encoding.{TellsEncodePlace}
use Rattle.interface.specs.Theorems.{EncodePlaces}

pub tells_encode_place : {G : Graph} {positions given : List ℕ} {j : Judged} {d d' : List ℕ} {r : ℕ} → JudgesInput G positions given j d d' → r ≡ place_of j
    → TellsEncodePlace G positions given d d' r
tells_encode_place k q = record { answer = q ∙ ap place_of k.answer; degrees = k.degrees }

-- too little memory has place 0
room_placeless : (G : Graph) (c w : ℕ) → place_of (room_judged G c w) ≡ 0
unfolding room_judged
room_placeless G c w = go (leb G.variables c) (leb (work_bytes G) w)
  where
    go : (a b : Bool) → place_of (or_else (unless a Buffer) (unless b Buffer)) ≡ 0
    go false b = refl
    go true false = refl
    go true true = refl

-- so has no codeword
answer_placeless : (j : Judged) (G : Graph) (g : Given) (c c' : List ℕ) → Answers j G g c c' → place_of j ≡ 0
answer_placeless (Ok _) G g c c' a = refl
answer_placeless (Err q) G g c c' a = ap (λ (x : Refusal). (paper x).place) a.0

in_order : (i r : Judged) → place_of r ≡ 0 → place_of (or_else i r) ≡ place_of i
in_order (Ok _) r h = h
in_order (Err q) r h = refl

pub encode_places : EncodePlaces
unfolding encode_judged
encode_places G positions given j d d' c c' w w' e =
    sym (in_order i r (room_placeless G (length c) (length w))) ∙ go (or_else i r) refl
  where
    i : Judged
    i = input_judged G positions given (length d)

    r : Judged
    r = room_judged G (length c) (length w)

    go : (k : Judged) → encode_judged G positions given (length d) (length c) (length w) ≡ k → place_of k ≡ place_of j
    go (Err q) h = sym (ap place_of (e.refused q h).0)
    go (Ok _) h = sym (answer_placeless j G (given_of positions given) c c' (e.accepted h).0)
