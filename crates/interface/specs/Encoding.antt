-- What the C entry for the writing side promises.
use Rattle.std.specs.Prelude.{◌≡◌, List, ℕ, length}
use Rattle.rules.specs.Graphs.{Graph}
use Rattle.refusals.specs.Refusals.{Judged}
use Rattle.graphs.specs.Judging.{countable}
use Rattle.graphs.specs.Degrees.{degrees_in}
use Rattle.codewords.specs.Encoding.{encoder_limits, input_judged, Encodes}
use Rattle.interface.specs.Packing.{number_of, place_of}

-- Its answer r is the number of what encode answers, 0 for a codeword; and the lent memory, before and after.
pub record HostEncodes (G : Graph) (positions given d d' c c' w w' : List ℕ) (r : ℕ) : Type 0 where
  pub judged : Judged
  pub encodes : Encodes G positions given judged d d' c c' w w'
  pub answer : r ≡ number_of judged

-- Its companion.
pub record TellsEncodePlace (G : Graph) (positions given d d' : List ℕ) (r : ℕ) : Type 0 where
  pub answer : r ≡ place_of (input_judged G positions given (length d))
  pub degrees : d' ≡ degrees_in (countable encoder_limits G (length d)) G d
