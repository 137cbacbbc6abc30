-- The printed texts, put together from their parts.
use mathlib.Core.Path.{◌≡◌, refl, sym, ap, ◌∙◌, subst}
use mathlib.Core.List.{List, [], ◌∷◌, ◌++◌, append_assoc, map}
use Prim.Native.Nat.{ℕ, zero, suc, ◌+◌, ◌≤◌, ◌<◌}
use native.Mathlib.Omega.{arith}
use lib.ListN.{length, take, get_or, set, length-append, length-map}
use Rattle.rules.specs.Graphs.{program_limits}
use Rattle.refusals.specs.Refusals.{paper}
use Rattle.refusals.specs.declared.Refusal.{Refusal}
use Rattle.refusals.specs.declared.Numbered.{Numbered}
use Rattle.rules.specs.declared.Report.{Report}
use Rattle.rules.specs.declared.Verdict.{Verdict}
use Rattle.rules.specs.declared.Verdict.TheVariants.{Codeword, Stopped}
use Rattle.texts.specs.Numbers.{decimal}
use Rattle.texts.specs.Lines.{space, lf, pair, line_text}
use Rattle.texts.specs.Putting.{Put}
use Rattle.texts.proofs.Putting.{put_then, put_same, put_long, put_taken, put_whole}
use Rattle.program_texts.specs.Printing.Texts.{report_titles, verdict_text, verdict_lines, bits_title, bit_text, report_text, refusal_titles, refusal_text, longest, Prints}

pub prints_as : {m r : ℕ} {t u old now : List ℕ} → t ≡ u → Prints m t old now r → Prints m u old now r
prints_as {m} {r} {t} {u} {old} {now} e p = subst (λ (x : List ℕ). Prints m x old now r) e p

pub field_long : (k x : ℕ) → length (decimal k ++ (x ∷ [])) ≡ length (decimal k) + 1
field_long k x = length-append (decimal k) (x ∷ [])

-- two fields make a line
line_fields : (a b : ℕ) → (decimal a ++ (space ∷ [])) ++ (decimal b ++ (lf ∷ [])) ≡ line_text (pair a b)
unfolding line_text
line_fields a b = append_assoc (decimal a) (space ∷ []) (decimal b ++ (lf ∷ []))

pub refused_put : (n p : ℕ) {old one two now : List ℕ} {a b r : ℕ} → length (decimal n) ≤ 20 → length (decimal p) ≤ 20 → Put refusal_titles old one 0 a
    → Put (decimal n ++ (space ∷ [])) one two a b → Put (decimal p ++ (lf ∷ [])) two now b r → Prints longest (refusal_titles ++ line_text (pair n p)) old now r
refused_put n p hn hp x y z = record {
  put = put_same (put_then x (put_then y z)) (ap (λ (t : List ℕ). refusal_titles ++ t) (line_fields n p));
  short = omega (arith, x.after, y.after, z.after, field_long n space, field_long p lf);
}

verdict_long : (v : Verdict) → length (verdict_text v ++ (space ∷ [])) ≤ 9
verdict_long Codeword = omega arith
verdict_long Stopped = omega arith

pub verdict_room : (v : Verdict) {old now : List ℕ} {at r : ℕ} → Put (verdict_text v ++ (space ∷ [])) old now at r → r ≤ at + 9
verdict_room v p = omega (arith, p.after, verdict_long v)

verdict_lines_lem : (v : Verdict) (t u : ℕ)
    → report_titles ++ ((verdict_text v ++ (space ∷ [])) ++ ((decimal t ++ (space ∷ [])) ++ (decimal u ++ (lf ∷ [])))) ≡ verdict_lines v t u
unfolding verdict_lines
verdict_lines_lem v t u =
    ap (λ (x : List ℕ). report_titles ++ x)
    (append_assoc (verdict_text v) (space ∷ []) ((decimal t ++ (space ∷ [])) ++ (decimal u ++ (lf ∷ [])))
    ∙ ap (λ (x : List ℕ). verdict_text v ++ (space ∷ x)) (line_fields t u))

pub run_put : (v : Verdict) (t u : ℕ) {old one two three now : List ℕ} {a b c r : ℕ} → length (decimal t) ≤ 20 → length (decimal u) ≤ 20
    → Put report_titles old one 0 a → Put (verdict_text v ++ (space ∷ [])) one two a b → Put (decimal t ++ (space ∷ [])) two three b c
    → Put (decimal u ++ (lf ∷ [])) three now c r → Prints 100 (verdict_lines v t u) old now r
run_put v t u ht hu w x y z = record {
  put = put_same (put_then w (put_then x (put_then y z))) (verdict_lines_lem v t u);
  short = omega (arith, w.after, x.after, y.after, z.after, verdict_long v, field_long t space, field_long u lf);
}

-- ---- bits

-- a mapped list at a place within it
get_or_in : (f : ℕ → ℕ) (l : List ℕ) (k : ℕ) → k < length l → get_or (map f l) k 0 ≡ f (get_or l k 0)
get_or_in f [] k h = absurd (omega arith)
get_or_in f (x ∷ l) zero h = refl
get_or_in f (x ∷ l) (suc k) h = get_or_in f l k (omega arith)

-- the first k bits, and one more
pub record BitsPut (bits old now : List ℕ) (at k : ℕ) : Type 0 where
  pub put : Put (take k (map bit_text bits)) old now at (at + k)

pub bits_none : {bits old : List ℕ} {at : ℕ} → BitsPut bits old old at 0
bits_none = record { put = record { text = refl; after = refl } }

module _ {bits old now : List ℕ} {at k : ℕ} (p : BitsPut bits old now at k) where
  pub bits_long : length now ≡ length old
  bits_long = put_long p.put

  pub bits_more : {x : ℕ} → k < length bits → x ≡ bit_text (get_or bits k 0) → BitsPut bits old (set now (at + k) x) at (k + 1)
  bits_more {x} h e =
      let m : k < length (map bit_text bits) = omega (arith, length-map bits bit_text) in
      let q = put_taken (map bit_text bits) k m p.put in
      let f : set now (at + k) x ≡ set now (at + k) (get_or (map bit_text bits) k 0) = ap (set now (at + k)) (e ∙ sym (get_or_in bit_text bits k h)) in
      record { put = record { text = f ∙ q.text; after = q.after } }

  pub bits_all : length bits ≤ k → Put (map bit_text bits) old now at (at + k)
  bits_all h = put_whole (map bit_text bits) k (omega (arith, length-map bits bit_text)) p.put

pub bits_after : (bits : List ℕ) {old now : List ℕ} {at r : ℕ} → Put (map bit_text bits) old now at r → r ≡ at + length bits
bits_after bits p = omega (arith, p.after, length-map bits bit_text)

pub report_put : (r : Report) (bits : List ℕ) {old one' two three now : List ℕ} {a b c n : ℕ} → length bits ≤ program_limits.variables → Prints 100 (verdict_lines r.verdict r.iterations r.unsatisfied) old one' a
    → Put bits_title one' two a b → Put (map bit_text bits) two three b c → Put (lf ∷ []) three now c n
    → Prints longest (report_text r bits) old now n
unfolding report_text
report_put r bits h w x y z = record {
  put = put_then w.put (put_then x (put_then y z));
  short = omega (arith, w.short, x.after, bits_after bits y, z.after);
}

pub refusal_put : (r : Refusal) {k : Numbered} {old now : List ℕ} {n : ℕ} → k ≡ paper r
    → Prints longest (refusal_titles ++ line_text (pair k.number k.place)) old now n → Prints longest (refusal_text r) old now n
unfolding refusal_text
refusal_put r {k} {old} {now} {n} e p = subst (λ (x : Numbered). Prints longest (refusal_titles ++ line_text (pair x.number x.place)) old now n) e p
