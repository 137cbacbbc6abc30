-- Document 02, item 6, 'Pause a run': a run that halts between two iterations and goes on. By any rules, from any state.
use Rattle.std.specs.Prelude.{◌≡◌, Bool, true, false, cond, ◌||◌, ℕ, zero, suc, ◌+◌, ◌≤◌, ◌<◌, min, eqb, leb}
use Rattle.rules.specs.Graphs.{Graph, unsatisfied}
use Rattle.rules.specs.Sequence.{Scheme, State, bit_at, begun, next, state, stop, final}

module _ (G : Graph) (R : Scheme) (limit : ℕ) where
  -- Whether a run ends in this state: its bits are a codeword, or it is at the limit.
  unfoldable pub ends : State → Bool
  ends σ = eqb (unsatisfied G (bit_at σ.bits)) 0 || leb limit σ.iteration

  -- One iteration more, unless the run has ended.
  unfoldable pub onward : State → State
  onward σ = cond (ends σ) σ (next G R σ)

  -- Up to k iterations more, to the state where the run ends at most.
  unfoldable pub onward_by : ℕ → State → State
  onward_by zero σ = σ
  onward_by (suc k) σ = onward (onward_by k σ)

  -- Up to k iterations more from a state that is given as open, a run's or any other: the first of them is done whatever its bits are. 'Sums unread',
  -- and bits: `next` goes on from the iteration and the messages.
  unfoldable pub resumed : ℕ → State → State
  resumed zero σ = σ
  resumed (suc k) σ = onward_by k (next G R σ)

  -- The run 'halted at its verdict' or at iteration k, 'whichever is earlier'.
  unfoldable pub halted : ℕ → State
  halted k = state G R (min k (stop G R limit))

pub record Halting (G : Graph) (R : Scheme) (limit : ℕ) : Type 0 where
  -- up to k iterations from iteration 0 come to the run halted at k
  pub begins : (k : ℕ) → onward_by G R limit k (begun G R) ≡ halted G R limit k
  -- halted before its verdict, the run is in iteration k, and is open
  pub early : (k : ℕ) → k < stop G R limit → (halted G R limit k ≡ state G R k) × (ends G R limit (halted G R limit k) ≡ false)
  -- from its verdict on it is the run that has ended
  pub over : (k : ℕ) → stop G R limit ≤ k → (halted G R limit k ≡ final G R limit) × (ends G R limit (halted G R limit k) ≡ true)
  -- where it is open it can be resumed
  pub resumes : (j k : ℕ) → j < stop G R limit → resumed G R limit k (halted G R limit j) ≡ halted G R limit (j + k)
  -- halted at k it is where the run of the limit k, if that is the smaller, ends
  pub shorter : (k : ℕ) → halted G R limit k ≡ final G R (min k limit)

abbrev pub RunHalts : Type 0
RunHalts = (G : Graph) (R : Scheme) (limit : ℕ) → Halting G R limit
