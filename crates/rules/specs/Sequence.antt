-- Document 01, 'One iteration', and document 02, item 1: the iterations one after the other, without end, and the run that stops among them.
-- An iteration's state is lists, as the lent memory holds them.
use Rattle.std.specs.Prelude.{Bool, false, cond, List, ℕ, zero, suc, eqb, get_or, ℤ, pos}
use Rattle.rules.specs.Ranges.{tabulate, first}
use Rattle.rules.specs.Levels.{Level, plus_zero}
use Rattle.rules.specs.Graphs.{Graph, unsatisfied}
use Rattle.rules.specs.Nodes.{Offsets, Lifting, first_message, first_bit, from_check, counted, posterior, bit_of, from_variable}
use Rattle.rules.specs.declared.Report.{Report}
use Rattle.rules.specs.declared.Verdict.TheVariants.{Codeword, Stopped}

-- The rules of a decoder: what each step of an iteration makes of the messages before it.
pub record Scheme : Type 0 where
  pub first_message : ℕ → Level  -- iteration 0: what is sent at an entry
  pub first_bit : ℕ → Bool  -- iteration 0: the bit of a variable
  pub check : (ℕ → Level) → ℕ → Level  -- check to variable, from the variable messages
  pub sum : ℕ → (ℕ → Level) → ℕ → ℤ  -- the posterior sum of an iteration, from its check messages
  pub bit : ℤ → ℕ → Bool  -- the bit, from the posterior sum
  pub variable : ℕ → (ℕ → Level) → ℕ → Level  -- variable to check in an iteration, from its check messages

-- The rules of document 01, Sign-Preserving Min-Sum without lifting, from the channel levels y.
unfoldable pub unlifted : Graph → ℕ → Offsets → (ℕ → Level) → Scheme
unlifted G Nq φ y = record {
  first_message = first_message G Nq y;
  first_bit = first_bit y;
  check = from_check G;
  sum = λ t. posterior G y;
  bit = λ s v. bit_of s (y v).minus;
  variable = λ t. from_variable G Nq φ y;
}

-- The check messages C as they count in iteration t.
abbrev pub counted_in : ℕ → Lifting → ℕ → (ℕ → Level) → ℕ → Level
counted_in Nq Λ t C e = counted Nq Λ t (C e)

-- Document 02, item 1: 'in the variable's sum and in the posterior sum' of an iteration the check messages are taken as they count there.
unfoldable pub sign_preserving : Graph → ℕ → Offsets → Lifting → (ℕ → Level) → Scheme
sign_preserving G Nq φ Λ y =
    let R : Scheme = unlifted G Nq φ y in
    record {
      first_message = R.first_message;
      first_bit = R.first_bit;
      check = R.check;
      sum = λ t C. R.sum t (counted_in Nq Λ t C);
      bit = R.bit;
      variable = λ t C. R.variable t (counted_in Nq Λ t C);
    }

-- The lists of one iteration.
pub record State : Type 0 where
  pub iteration : ℕ
  pub variable_messages : List Level  -- those that its checks took in; at iteration 0 its own
  pub check_messages : List Level
  pub sums : List ℤ
  pub bits : List Bool

-- The level at a place of a list, and the bit.
abbrev pub level_at : List Level → ℕ → Level
level_at l e = get_or l e plus_zero

abbrev pub bit_at : List Bool → ℕ → Bool
bit_at l v = get_or l v false

module _ (G : Graph) (R : Scheme) where
  -- 'At iteration 0 check messages and sums are all 0.'
  unfoldable pub begun : State
  begun = record {
    iteration = 0;
    variable_messages = tabulate R.first_message G.entries;
    check_messages = tabulate (λ e. plus_zero) G.entries;
    sums = tabulate (λ v. pos 0) G.variables;
    bits = tabulate R.first_bit G.variables;
  }

  -- The variable messages sent in iteration t, whose checks took in q and sent C: the last step, from iteration 1 on.
  unfoldable pub sent_in : ℕ → List Level → List Level → List Level
  sent_in zero q C = q
  sent_in (suc t) q C = tabulate (R.variable (suc t) (level_at C)) G.entries

  unfoldable pub sent : State → List Level
  sent σ = sent_in σ.iteration σ.variable_messages σ.check_messages

  -- Iteration t up to its bits, from the variable messages q.
  unfoldable pub iterated : ℕ → List Level → State
  iterated t q =
      let C : List Level = tabulate (R.check (level_at q)) G.entries in
      let S : List ℤ = tabulate (R.sum t (level_at C)) G.variables in
      record { iteration = t; variable_messages = q; check_messages = C; sums = S; bits = tabulate (λ v. R.bit (get_or S v (pos 0)) v) G.variables }

  unfoldable pub next : State → State
  next σ = iterated (suc σ.iteration) (sent σ)

  -- 'The rules go on without end.' The state of iteration t.
  unfoldable pub state : ℕ → State
  state zero = begun
  state (suc t) = next (state t)

  -- 'How many checks have an odd number of ones in that iteration's bits.'
  unfoldable pub unsatisfied_in : ℕ → ℕ
  unsatisfied_in t = unsatisfied G (bit_at (state t).bits)

  -- 'The run stops after the bits of the first iteration, 0 included, that are a codeword, otherwise at the limit.'
  unfoldable pub stop : ℕ → ℕ
  stop limit = first (λ t. eqb (unsatisfied_in t) 0) 0 limit

  -- What the lent memory then holds.
  unfoldable pub final : ℕ → State
  final limit = state (stop limit)

  -- 'With verdict codeword; otherwise with stopped. The iteration count is the number of the iteration where it stops.'
  unfoldable pub report : ℕ → Report
  report limit = record {
    verdict = cond (eqb (unsatisfied_in (stop limit)) 0) Codeword Stopped;
    iterations = stop limit;
    unsatisfied = unsatisfied_in (stop limit);
  }
