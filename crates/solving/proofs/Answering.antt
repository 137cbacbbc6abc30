-- The codeword's bytes: what the loops tell, and the whole.
use mathlib.Core.Path.{◌≡◌, refl, sym, ap, subst, ◌∙◌}
use mathlib.Core.Bool.{Bool, true, false, cond, true≢false}
use mathlib.Core.List.{List}
use Prim.Native.Nat.{ℕ, zero, suc, ◌+◌, ◌-◌, ◌≤◌, ◌<◌}
use native.Mathlib.Decide.{ℕ_discrete}
use native.Mathlib.Omega.{arith}
use native.Mathlib.Numerals.{add-one}
use lib.Dec.{eqb}
use lib.ListN.{length, get_or, set, replicate, length-set, length-replicate}
use lib.Seq.{get_or-set_same, get_or-set_other}
use Rattle.rules.specs.Graphs.{Graph, Admitted}
use Rattle.rules.specs.Ranges.{tabulate}
use Rattle.rules.proofs.Filling.{tabulate_same}
use Rattle.words.specs.Roles.{bit_of_byte}
use Rattle.elimination.specs.Systems.{top, Reduced}
use Rattle.elimination.specs.Rows.{rows_in, Done}
use Rattle.elimination.specs.Eliminating.{Eliminated}
use Rattle.elimination.proofs.Systems.{top_is, reduced_none}
use Rattle.codewords.specs.Choosing.{Given, Fitting}
use Rattle.solving.specs.Solving.{Bits, Rising, upto, Means, Filling, check_rows, Replaced, Prepared, Begun, one_put, Put, Written, Solved}
use Rattle.solving.proofs.Meaning.{filling_given, filling_skip, filling_more, least_found, means_same, means_eliminated, checks_mean}

-- ---- zeros

pub zeros_long : (n : ℕ) {l : List ℕ} → l ≡ replicate n 0 → length l ≡ n
zeros_long n e = ap length e ∙ length-replicate {A = ℕ} n 0

-- ---- bits

-- a bit put into a list of bits
bits_set : (l : List ℕ) {i x : ℕ} → i < length l → x ≤ 1 → Bits l → Bits (set l i x)
bits_set l {i} {x} h s b k = go (ℕ_discrete k i)
  where
    go : Dec (k ≡ i) → get_or (set l i x) k 0 ≤ 1
    go (yes e) = omega (arith, ap (λ (a : ℕ). get_or (set l i x) a 0) e, get_or-set_same l i x 0 h)
    go (no e) = omega (arith, get_or-set_other l i k x 0 e, b k)

-- ---- the given bits

pub begun_more : {n k v x : ℕ} {g : Given} {old now : List ℕ} → Rising n g → k < g.count → length old ≡ n → v ≡ g.position k → eqb x 1 ≡ g.bit k
    → x ≤ 1 → Begun n k g old now → Begun n (k + 1) g old (set now v x)
begun_more {n} {k} {v} {x} {g} {old} {now} r l f p q s b = record {
  long = length-set now v x ∙ b.long;
  bits = bits_set now inside s b.bits;
  fills = λ G m R M. subst (λ (k : ℕ). Filling (Fitting G g) (upto k g) m n 0 R (bit_of_byte (set now v x))) (sym (add-one k))
      (filling_given r M l (b.fills G m R M)
      (ap (λ (u : ℕ). bit_of_byte (set now v x) u) (sym p) ∙ ap (λ (y : ℕ). eqb y 1) (get_or-set_same now v x 0 inside) ∙ q)
      (λ u d. ap (λ (y : ℕ). eqb y 1) (get_or-set_other now v u x 0 (λ e. d (e ∙ p)))));
}
  where
    inside : v < length now
    inside = omega (arith, r.within k l, b.long)

-- ---- the ones of the rows

pub put_more : {m n i : ℕ} {R : ℕ → ℕ → Bool} {old now later : List ℕ} → Reduced m n m R → i < m → length old ≡ n → Put m n i R old now
    → later ≡ one_put (R i n) (top n (R i)) now → Put m n (i + 1) R old later
unfolding one_put
put_more {m} {n} {i} {R} {old} {now} {later} ok l f p e =
    subst (λ (k : ℕ). Put m n k R old later) (sym (add-one i)) (go (R i n) refl e)
  where
    put_top : (h : ℕ) → top n (R i) ≡ suc h → R i n ≡ true → later ≡ set now h 1 → Put m n (suc i) R old later
    put_top h t b q = record {
      long = ap length q ∙ length-set now h 1 ∙ p.long;
      bits = λ z. subst Bits (sym q) (bits_set now inside (omega arith) (p.bits z));
      fills = λ G g M F. filling_more l (p.fills G g M F) ok M.clear (λ z s. (M.says z s.holds).0 s.codeword) h t b
          (ap (λ (a : List ℕ). bit_of_byte a h) q ∙ ap (λ (y : ℕ). eqb y 1) (get_or-set_same now h 1 0 inside))
          (λ u d. ap (λ (a : List ℕ). bit_of_byte a u) q ∙ ap (λ (y : ℕ). eqb y 1) (get_or-set_other now h u 1 0 d));
    }
      where
        inside : h < length now
        inside = omega (arith, (top_is n (R i)).high, p.long)

    go : (b : Bool) → R i n ≡ b → later ≡ cond b (set now (top n (R i) - 1) 1) now → Put m n (suc i) R old later
    go true b q = some (top n (R i)) refl
      where
        some : (t : ℕ) → top n (R i) ≡ t → Put m n (suc i) R old later
        some zero z = absurd (true≢false (sym b ∙ ok.even i l z))
        some (suc h) z = put_top h z b (q ∙ ap (λ (k : ℕ). set now k 1) (omega arith))
    go false b q = record {
      long = ap length q ∙ p.long;
      bits = λ z. subst Bits (sym q) (p.bits z);
      fills = λ G g M F. filling_skip l (subst (λ (a : List ℕ). Filling (Fitting G g) g m n i R (bit_of_byte a)) (sym q) (p.fills G g M F)) b;
    }

-- ---- the whole

-- the codeword's bytes, from zeros, given bits and ones
pub written : {m n : ℕ} {g : Given} {R : ℕ → ℕ → Bool} {old zeros begun new : List ℕ} → length zeros ≡ length old → Begun n g.count g zeros begun
    → Put m n m R begun new → (G : Graph) → Means G g m n R → Written G g n old new
written {m} {n} {g} {R} z b p G M = record {
  long = p.long ∙ b.long ∙ z;
  bits = p.bits b.bits;
  least = least_found M (p.fills G g M (b.fills G m R M));
}

pub prepared : {r : Bool} {old zeros loaded replaced new : List ℕ} (G : Graph) (g : Given) → Admitted G → Rising G.variables g → length zeros ≡ length old
    → Done G.variables G.checks (check_rows G) zeros loaded → Replaced G.checks G.variables g.count g loaded replaced
    → Eliminated G.checks G.variables 0 G.checks r replaced new → Prepared G g G.checks G.variables r old new
prepared {r} {loaded = loaded} {replaced = replaced} G g ok up z d p e = record {
  long = e.long ∙ p.long ∙ d.long ∙ z;
  reduced = λ q. e.reduced q reduced_none;
  means = means_eliminated up e before_it;
  none = λ q x s. e.none q x ((before_it.says x s.holds).0 s.codeword);
}
  where
    before_it : Means G g G.checks G.variables (rows_in G.variables replaced)
    before_it = p.means G
        (means_same (record { within = λ k u. absurd (omega arith); rising = λ k u. absurd (omega arith) }) (λ j u a b. d.below j u a b) (checks_mean G g ok))

-- ---- one row

pub put_nothing : (b : Bool) (t : ℕ) (l : List ℕ) → b ≡ false → l ≡ one_put b t l
unfolding one_put
put_nothing b t l e = sym (ap (λ b. cond b (set l (t - 1) 1) l) e)

pub put_something : (b : Bool) (t : ℕ) (l : List ℕ) {h : ℕ} → b ≡ true → h ≡ t → set l (h - 1) 1 ≡ one_put b t l
unfolding one_put
put_something b t l e q = ap (λ (k : ℕ). set l (k - 1) 1) q ∙ sym (ap (λ b. cond b (set l (t - 1) 1) l) e)

pub has_top : {b : Bool} (t : ℕ) → (t ≡ 0 → b ≡ false) → b ≡ true → 0 < t
has_top zero h e = absurd (true≢false (sym e ∙ h refl))
has_top (suc t) h e = omega arith

-- ---- what comes back

pub solved_none : {G : Graph} {g : Given} {m n : ℕ} {r : Bool} {codeword old new zeros : List ℕ} → Prepared G g m n r old new → r ≡ false
    → zeros ≡ replicate (length new) 0 → Solved G g n false codeword codeword old zeros
solved_none {new = new} p e z = record {
  found = λ q. absurd (true≢false (sym q));
  none = λ _. (p.none e, refl);
  cleared = z ∙ sym (tabulate_same 0 (length new)) ∙ ap (tabulate (λ k. 0)) p.long;
}

pub solved_found : {G : Graph} {g : Given} {m n : ℕ} {r : Bool} {codeword codeword' old new zeros : List ℕ} → Prepared G g m n r old new
    → Written G g n codeword codeword' → zeros ≡ replicate (length new) 0 → Solved G g n true codeword codeword' old zeros
solved_found {new = new} p w z = record { found = λ _. w; none = λ q. absurd (true≢false q); cleared = z ∙ sym (tabulate_same 0 (length new)) ∙ ap (tabulate (λ k. 0)) p.long }
