-- What the refusals tell, and the whole call.
use Rattle.std.specs.Prelude.{Ok, Err}
use mathlib.Core.Path.{◌≡◌, refl, sym, ap, ◌∙◌}
use mathlib.Core.Bool.{Bool, true, false, ◌||◌, true≢false}
use mathlib.Core.List.{List, ◌++◌}
use Prim.Native.Nat.{ℕ, zero, suc, ◌-◌, ◌/◌, ◌≤◌, ◌<◌}
use native.Mathlib.Decide.{dec_lt}
use native.Mathlib.Omega.{arith}
use borrow.Author.Tests.{ltb-true, leb-true, eqb-true, ne_eqb}
use lib.Dec.{eqb, leb, ltb}
use lib.ListN.{length, get_or, take, drop, take-append-drop, get_or-eq_default}
use lib.Seq.{ext_get_or, length-take-le}
use Rattle.rules.specs.Graphs.{Graph, AdmittedWithin}
use Rattle.rules.specs.Ranges.{one, tabulate}
use Rattle.refusals.specs.Refusals.{unless, or_else, Judged}
use Rattle.refusals.specs.declared.Refusal.{Refusal}
use Rattle.refusals.specs.declared.Refusal.TheVariants.{Buffer, Positions, NoCodeword, Bit}
use Rattle.refusals.proofs.Judging.{refused_not, or_else_left, or_else_right, unless_true, all_true}
use Rattle.rules.proofs.Tests.{and_left, and_right}
use Rattle.rules.proofs.Ranges.{length_tabulate, get_d_tabulate}
use Rattle.words.specs.Roles.{position_at, bit_of_byte}
use Rattle.graphs.specs.Judging.{graph_judged_in}
use Rattle.graphs.specs.Calls.{bytes_judged}
use Rattle.graphs.proofs.Lending.{lent_admitted}
use Rattle.codewords.specs.Encoding.{encoder_limits, given_of, position_fits, positions_judged, given_judged, input_judged, work_bytes, room_judged, encode_judged, worked_in, JudgesInput, Encodes}
use Rattle.solving.specs.Solving.{Bits, Rising, Gives, Solved}

or_right : (a b : Bool) → a ≡ false → a || b ≡ true → b ≡ true
or_right true b p h = absurd (true≢false p)
or_right false b p h = h

-- ---- what is told where nothing is refused

module _ (n : ℕ) (positions given : List ℕ) (h : given_judged n positions given ≡ Ok tt) where
  same : Judged
  same = unless (eqb (length positions / 2) (length given)) Positions

  rest : or_else (positions_judged n positions) (bytes_judged given) ≡ Ok tt
  unfolding given_judged same
  rest = or_else_right same (or_else (positions_judged n positions) (bytes_judged given)) h

  given_many : length positions / 2 ≡ length given
  unfolding given_judged same
  given_many = eqb-true (length positions / 2) (length given) (unless_true (eqb (length positions / 2) (length given)) Positions (or_else_left same (or_else (positions_judged n positions) (bytes_judged given)) h))

  fits : (k : ℕ) → k < length positions / 2 → position_fits n (position_at positions) k ≡ true
  unfolding positions_judged
  fits = all_true (position_fits n (position_at positions)) (λ k. Positions) (length positions / 2) (or_else_left (positions_judged n positions) (bytes_judged given) rest)

  given_rising : Rising n (given_of positions given)
  given_rising = record {
    within = λ k l. ltb-true (position_at positions k) n (and_left (ltb (position_at positions k) n) (eqb k 0 || ltb (position_at positions (k - 1)) (position_at positions k)) (fits k l));
    rising = λ k l. ltb-true (position_at positions k) (position_at positions (suc k)) (above k l);
  }
    where
      above : (k : ℕ) → suc k < length positions / 2 → ltb (position_at positions k) (position_at positions (suc k)) ≡ true
      above k l =
          let e : suc k - 1 ≡ k = omega arith in
          ap (λ (j : ℕ). ltb (position_at positions j) (position_at positions (suc k))) (sym e)
          ∙ or_right (eqb (suc k) 0) (ltb (position_at positions (suc k - 1)) (position_at positions (suc k))) (ne_eqb (suc k) 0 (λ z. omega arith))
          (and_right (ltb (position_at positions (suc k)) n) (eqb (suc k) 0 || ltb (position_at positions (suc k - 1)) (position_at positions (suc k))) (fits (suc k) l))

  given_bits : Bits given
  unfolding bytes_judged
  given_bits k = at (dec_lt k (length given))
    where
      at : Dec (k < length given) → get_or given k 0 ≤ 1
      at (yes l) = leb-true (get_or given k 0) 1 (all_true (λ v. leb (get_or given v 0) 1) Bit (length given) (or_else_right (positions_judged n positions) (bytes_judged given) rest) k l)
      at (no l) = omega (arith, get_or-eq_default given 0 {n = k} (omega arith))

  given_gives : Gives n (given_of positions given) given
  given_gives = record { rising = given_rising; many = omega (arith, given_many); bits = given_bits }

-- of the input
pub record InputTold (G : Graph) (positions given : List ℕ) : Type 0 where
  pub graph : AdmittedWithin encoder_limits G
  pub gives : Gives G.variables (given_of positions given) given

input_told : (G : Graph) (positions given : List ℕ) (d : ℕ) → input_judged G positions given d ≡ Ok tt → InputTold G positions given
unfolding input_judged
input_told G positions given d h =
    let g = graph_judged_in encoder_limits G d in
    let r = given_judged G.variables positions given in
    record { graph = lent_admitted G d (or_else_left g r h); gives = given_gives G.variables positions given (or_else_right g r h) }

pub judged_input : {G : Graph} {positions given d d' : List ℕ} → JudgesInput G positions given (Ok tt) d d' → InputTold G positions given
judged_input {G} {positions} {given} {d} k = input_told G positions given (length d) (sym k.answer)

-- of the room
pub room_told : (G : Graph) (c w : ℕ) → Ok tt ≡ room_judged G c w → (G.variables ≤ c) × (work_bytes G ≤ w)
unfolding room_judged
room_told G c w h =
    let a = unless (leb G.variables c) Buffer in
    let b = unless (leb (work_bytes G) w) Buffer in (
      leb-true G.variables c (unless_true (leb G.variables c) Buffer (or_else_left a b (sym h))),
      leb-true (work_bytes G) w (unless_true (leb (work_bytes G) w) Buffer (or_else_right a b (sym h))),
    )

-- ---- the call, where it ends

bit_byte : (x : ℕ) → x ≤ 1 → one (eqb x 1) ≡ x
bit_byte zero h = refl
bit_byte (suc zero) h = refl
bit_byte (suc (suc x)) h = absurd (omega arith)

-- bytes that are bits
bytes_are : (l : List ℕ) (n : ℕ) → length l ≡ n → Bits l → l ≡ tabulate (λ v. one (bit_of_byte l v)) n
bytes_are l n e b =
    ext_get_or 0 l (tabulate f n) (e ∙ sym (length_tabulate f n)) (λ i u. sym (get_d_tabulate f n i 0 (omega arith) ∙ bit_byte (get_or l i 0) (b i)))
  where
    f : ℕ → ℕ
    f v = one (bit_of_byte l v)

module _ {G : Graph} {positions given d d' : List ℕ} (c w : List ℕ) where
  pub encodes_input : {q : Refusal} → JudgesInput G positions given (Err q) d d' → Encodes G positions given (Err q) d d' c c w w
  unfolding encode_judged
  encodes_input {q} k = record {
    degrees = k.degrees;
    refused = λ s f. (sym found ∙ f, refl, refl);
    accepted = λ f. absurd (refused_not (sym found ∙ f));
  }
    where
      found : encode_judged G positions given (length d) (length c) (length w) ≡ Err q
      found = rw (sym k.answer)

  module _ (k : JudgesInput G positions given (Ok tt) d d') where
    judged : {r : Judged} → r ≡ room_judged G (length c) (length w) → encode_judged G positions given (length d) (length c) (length w) ≡ r
    unfolding encode_judged
    judged e = rw (sym k.answer, ← e)

    pub encodes_room : {q : Refusal} → Err q ≡ room_judged G (length c) (length w) → Encodes G positions given (Err q) d d' c c w w
    encodes_room e = record {
      degrees = k.degrees;
      refused = λ s f. (sym (judged e) ∙ f, refl, refl);
      accepted = λ f. absurd (refused_not (sym (judged e) ∙ f));
    }

    -- a solution in the first n bytes of the codeword and in the work bytes, of which there are x
    module _ (room : Ok tt ≡ room_judged G (length c) (length w)) {x : ℕ} (few : x ≡ work_bytes G) {r : Bool} {front zeros c' w' : List ℕ}
        (s : Solved G (given_of positions given) G.variables r (take G.variables c) front (take x w) zeros)
        (at_front : c' ≡ front ++ drop G.variables c) (at_work : w' ≡ zeros ++ drop x w) where
      worked : w' ≡ worked_in G w
      worked =
          at_work
          ∙ ap (λ (y : List ℕ). y ++ drop x w)
          (s.cleared ∙ ap (tabulate (λ k. 0)) (length-take-le x w (omega (arith, (room_told G (length c) (length w) room).1))))
          ∙ ap (λ (y : ℕ). tabulate (λ k. 0) y ++ drop y w) few

      pub encodes_found : r ≡ true → Encodes G positions given (Ok tt) d d' c c' w w'
      encodes_found t = record {
        degrees = k.degrees;
        refused = λ q f. absurd (refused_not (sym f ∙ judged room));
        accepted = λ _. (
          record {
            codeword = bit_of_byte front;
            least = (s.found t).least;
            written = at_front ∙ ap (λ (y : List ℕ). y ++ drop G.variables c) (bytes_are front G.variables long (s.found t).bits);
          },
          worked,
        );
      }
        where
          long : length front ≡ G.variables
          long = (s.found t).long ∙ length-take-le G.variables c (room_told G (length c) (length w) room).0

      pub encodes_none : r ≡ false → Encodes G positions given (Err NoCodeword) d d' c c' w w'
      encodes_none t = record {
        degrees = k.degrees;
        refused = λ q f. absurd (refused_not (sym f ∙ judged room));
        accepted = λ _. (
          (
            refl,
            record {
              none = (s.none t).0;
              kept = at_front ∙ ap (λ (y : List ℕ). y ++ drop G.variables c) (s.none t).1 ∙ take-append-drop G.variables c;
            },
          ),
          worked,
        );
      }
