-- What follows from the promise of the call.
use Rattle.std.specs.Prelude.{Ok, Err}
use mathlib.Core.Path.{◌≡◌, refl, sym, ap, ◌∙◌}
use mathlib.Core.Bool.{Bool, true, false, xor}
use mathlib.Core.List.{List}
use Prim.Native.Nat.{ℕ, ◌≤◌, ◌<◌}
use native.Mathlib.Omega.{arith}
use borrow.Author.Tests.{le-leb, eq-eqb}
use lib.Dec.{eqb, leb}
use lib.ListN.{length, get_or, take, drop}
use lib.Seq.{take_at}
use Rattle.rules.specs.Graphs.{Graph, limits, AdmittedWithin, check_degree, odd_check, Codeword}
use Rattle.rules.specs.Ranges.{one, tabulate}
use Rattle.refusals.specs.Refusals.{Judged}
use Rattle.refusals.specs.declared.Refusal.TheVariants.{Bit, NoCodeword}
use Rattle.refusals.proofs.Judging.{refused_not, or_else_left, true_all}
use Rattle.rules.proofs.Tests.{and_both}
use Rattle.rules.proofs.Ranges.{fold_ext, length_tabulate, tabulate_ext, get_d_tabulate}
use Rattle.rules.proofs.Rows.{rowed, row_entries_lem}
use Rattle.rules.proofs.Stops.{codeword_none}
use Rattle.words.specs.Roles.{bit_of_byte}
use Rattle.graphs.specs.Judging.{graph_judged_in}
use Rattle.graphs.specs.Calls.{bytes_judged, bits_judged}
use Rattle.graphs.proofs.Lending.{lent_admitted}
use Rattle.codewords.specs.Choosing.{Given, Fitting}
use Rattle.codewords.specs.Encoding.{encoder_limits, given_of, given_judged, input_judged, room_judged, encode_judged, Found, Answers}
use Rattle.codewords.specs.Theorems.{OneAnswer, NoneExactly, NoneOdd}
use Rattle.codewords.proofs.Choosing.{least_only}
use Rattle.codewords.proofs.Limits.{graph_alike}

-- the bytes of bits
bytes : (ℕ → Bool) → ℕ → List ℕ
bytes x n = tabulate (λ v. one (x v)) n

-- what is found stands in front
front : {G : Graph} {g : Given} {c c' : List ℕ} (f : Found G g c c') → take G.variables c' ≡ bytes f.codeword G.variables
unfolding bytes
front {G} {c = c} f =
    ap (take G.variables) f.written
    ∙ take_at (bytes f.codeword G.variables) (drop G.variables c) G.variables (length_tabulate (λ v. one (f.codeword v)) G.variables)

pub one_answer : OneAnswer
unfolding bytes
one_answer G g c c' d d' f h =
    front f
    ∙ tabulate_ext (λ v. one (f.codeword v)) (λ v. one (h.codeword v)) G.variables
    (λ v l. ap one (least_only G.variables (Fitting G g) f.codeword h.codeword f.least h.least v l))
    ∙ sym (front h)

pub none_exactly : NoneExactly
none_exactly G positions given r d d' c c' w w' e h = (told r (e.accepted h).0, tells r (e.accepted h).0)
  where
    told : (r : Judged) → Answers r G (given_of positions given) c c' → r ≡ Err NoCodeword → (x : ℕ → Bool) → Fitting G (given_of positions given) x → ⊥
    told (Ok _) a q = absurd (refused_not (sym q))
    told (Err q) a _ = a.1.none

    tells : (r : Judged) → Answers r G (given_of positions given) c c' → ((x : ℕ → Bool) → Fitting G (given_of positions given) x → ⊥) → r ≡ Err NoCodeword
    tells (Ok _) a none = absurd (none a.codeword a.least.member)
    tells (Err q) a none = ap Err a.0

-- ---- counting the odd checks of what was found

-- words that agree below n are codewords together
codeword_alike : (G : Graph) → AdmittedWithin encoder_limits G → (x y : ℕ → Bool) → ((v : ℕ) → v < G.variables → x v ≡ y v) → Codeword G y → Codeword G x
unfolding odd_check
codeword_alike G ok x y h w i l =
    fold_ext xor _ (λ e. x (G.column e)) (λ e. y (G.column e)) (G.start i) (check_degree G i)
    (λ e a b. h (G.column e) (ok.within e (row_entries_lem G (rowed ok) i e l b)))
    ∙ w i l

module _ (x : ℕ → Bool) (n : ℕ) where
  length_bytes : length (bytes x n) ≡ n
  unfolding bytes
  length_bytes = length_tabulate (λ v. one (x v)) n

  bit_at : (v : ℕ) → v < n → bit_of_byte (bytes x n) v ≡ x v
  unfolding bytes
  bit_at v l = ap (λ (b : ℕ). eqb b 1) (get_d_tabulate (λ v. one (x v)) n v 0 l) ∙ back (x v)
    where
      back : (b : Bool) → eqb (one b) 1 ≡ b
      back true = refl
      back false = refl

  bytes_admitted : bytes_judged (bytes x n) ≡ Ok tt
  unfolding bytes bytes_judged
  bytes_admitted =
      true_all (λ v. leb (get_or (bytes x n) v 0) 1) Bit (length (bytes x n))
      (λ v l. le-leb (get_or (bytes x n) v 0) 1 (small v (omega (arith, length_bytes))))
    where
      small : (v : ℕ) → v < n → get_or (bytes x n) v 0 ≤ 1
      small v l = go (x v) (get_d_tabulate (λ v. one (x v)) n v 0 l)
        where
          go : (b : Bool) → get_or (bytes x n) v 0 ≡ one b → get_or (bytes x n) v 0 ≤ 1
          go true e = omega (arith, e)
          go false e = omega (arith, e)

-- the graph is refused by none
graph_judged_lem : (G : Graph) (positions given : List ℕ) (d c w : ℕ) → encode_judged G positions given d c w ≡ Ok tt → graph_judged_in encoder_limits G d ≡ Ok tt
unfolding encode_judged input_judged
graph_judged_lem G positions given d c w h =
    or_else_left (graph_judged_in encoder_limits G d) (given_judged G.variables positions given)
    (or_else_left (input_judged G positions given d) (room_judged G c w) h)

pub none_odd : NoneOdd
unfolding bits_judged
none_odd G positions given d d' c c' w w' e = rw (front f, graph, long, bytes_admitted x n) (ap Ok (codeword_none G (bit_of_byte (bytes x n)) good))
  where
    n : ℕ
    n = G.variables

    found : encode_judged G positions given (length d) (length c) (length w) ≡ Ok tt
    found = go (encode_judged G positions given (length d) (length c) (length w)) refl
      where
        go : (j : Judged) → encode_judged G positions given (length d) (length c) (length w) ≡ j → j ≡ Ok tt
        go (Ok _) h = refl
        go (Err q) h = sym (e.refused q h).0

    f : Found G (given_of positions given) c c'
    f = (e.accepted found).0

    x : ℕ → Bool
    x = f.codeword

    judged : graph_judged_in encoder_limits G (length d) ≡ Ok tt
    judged = graph_judged_lem G positions given (length d) (length c) (length w) found

    ok : AdmittedWithin encoder_limits G
    ok = lent_admitted G (length d) judged

    graph : graph_judged_in limits G (length d) ≡ Ok tt
    graph = sym (graph_alike G (and_both (le-leb n 2048 ok.variables.1) (le-leb G.checks 512 ok.checks.1)) (length d)) ∙ judged

    long : eqb (length (bytes x n)) n ≡ true
    long = eq-eqb (length (bytes x n)) n (length_bytes x n)

    good : Codeword G (bit_of_byte (bytes x n))
    good = codeword_alike G ok (bit_of_byte (bytes x n)) x (bit_at x n) f.least.member.codeword
