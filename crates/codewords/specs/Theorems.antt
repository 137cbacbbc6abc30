-- What follows from the promise of the call.
use Rattle.std.specs.Prelude.{◌≡◌, Bool, ◌↔◌, List, ℕ, length, take, Ok, Err}
use Rattle.rules.specs.Graphs.{Graph, limits}
use Rattle.refusals.specs.Refusals.{Judged}
use Rattle.refusals.specs.declared.Refusal.TheVariants.{NoCodeword}
use Rattle.graphs.specs.Judging.{graph_judged_in}
use Rattle.graphs.specs.Calls.{bits_judged, odd_answer}
use Rattle.codewords.specs.Choosing.{Given, Fitting}
use Rattle.codewords.specs.Encoding.{given_of, encode_judged, Found, Encodes}

-- The codeword's bytes are fixed by the graph and the given bits, whatever was in the lent memory.
abbrev pub OneAnswer : Type 0
OneAnswer = (G : Graph) (g : Given) (c c' d d' : List ℕ) → Found G g c c' → Found G g d d' → take G.variables c' ≡ take G.variables d'

-- Where nothing is refused before it, 19 is given exactly when no codeword holds the given bits.
abbrev pub NoneExactly : Type 0
NoneExactly = (G : Graph) (positions given : List ℕ) (r : Judged) (d d' c c' w w' : List ℕ) → Encodes G positions given r d d' c c' w w'
    → encode_judged G positions given (length d) (length c) (length w) ≡ Ok tt
    → (r ≡ Err NoCodeword) ↔ ((x : ℕ → Bool) → Fitting G (given_of positions given) x → ⊥)

-- Both sides: what the call gives is accepted by 'Count odd checks', on the same graph with a list of degrees as long, and it counts 0.
abbrev pub NoneOdd : Type 0
NoneOdd = (G : Graph) (positions given : List ℕ) (d d' c c' w w' : List ℕ) → Encodes G positions given (Ok tt) d d' c c' w w'
    → odd_answer (bits_judged (graph_judged_in limits G (length d)) G (take G.variables c')) G (take G.variables c') ≡ Ok 0
