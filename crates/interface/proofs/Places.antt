-- The place of decode's refusal, from its number, the graph with its list of degrees and the values alone.
use Rattle.std.specs.Prelude.{Ok, Err}
use mathlib.Core.Path.{◌≡◌, refl, sym, ap, ◌∙◌, subst}
use mathlib.Core.Bool.{Bool, true, false, cond, not}
use mathlib.Core.List.{List}
use Prim.Native.Nat.{ℕ, ◌*◌, ◌/◌, ◌%◌, ◌≤◌}
use native.Mathlib.Omega.{arith}
use borrow.Author.Tests.{eq-eqb, ne_eqb, le-leb}
use lib.Dec.{eqb}
use lib.Ieee.{binary32, lt, of_int, of_bits}
use lib.Ieee.Scale.{finite}
use lib.ListN.{length}
use Rattle.rules.specs.Graphs.{limits}
use Rattle.rules.specs.Nodes.{never}
use Rattle.refusals.specs.Refusals.{paper, unless, or_else, Judged}
use Rattle.refusals.specs.declared.Refusal.{Refusal}
use Rattle.refusals.specs.declared.Refusal.TheVariants as R
use Rattle.refusals.proofs.Judging.{refused_not, or_else_left, or_else_none, each_from}
use Rattle.words.specs.Roles.{value_at}
use Rattle.graphs.specs.Judging.{graph_judged_in}
use Rattle.graphs.proofs.Lending.{lent_admitted}
use Rattle.settings.specs.declared.Parameters.{Parameters}
use Rattle.settings.specs.declared.Scaling.TheVariants.{Plain}
use Rattle.settings.specs.declared.Settings.{Settings}
use Rattle.settings.specs.Settings.{Checked, largest_lift, precisions_admitted, options_admitted, lifting_admitted, settings, settings_judged}
use Rattle.settings.specs.Scaling.{factor_of, positive, scaling_admitted, infinite_or_zero}
use Rattle.settings.specs.Values.{values_judged}
use Rattle.decoding.specs.declared.Room.{Room}
use Rattle.decoding.specs.Decoding.{Frame, graph, enough, is_blank, frame_judged, decode_judged, decode_finds, decoded, Accepts}
use Rattle.decoding.proofs.Accepting.{checked_refused, checked_good}
use Rattle.interface.specs.Packing.{pack_decoded, number_of, place_of, places_judged, decode_place, TellsPlace, asked_of}
use Rattle.interface.specs.Theorems.{PlacesTold}

-- a refusal with place 0, other than 12
pub record Placeless (r : Refusal) : Type 0 where
  pub twelve : eqb 12 (paper r).number ≡ false
  pub place : (paper r).place ≡ 0

same : {r s : Refusal} → ◌≡◌ {A = Judged} (Err r) (Err s) → r ≡ s
same {r} {s} e = cc

settings_placeless : (p : Parameters) (r : Refusal) → settings_judged p ≡ Err r → Placeless r
settings_placeless p r e =
    go (precisions_admitted p.channel p.message) (options_admitted p) (lifting_admitted p) (scaling_admitted p.scaling) (not (infinite_or_zero (factor_of p.scaling))) e
  where
    is : (s : Refusal) → Placeless s → ◌≡◌ {A = Judged} (Err s) (Err r) → Placeless r
    is s h d = subst Placeless (same d) h

    go : (a b l c d : Bool) → or_else (unless a R.Precision) (or_else (unless b R.Option) (or_else (unless l R.Lifting) (or_else (unless c R.Scaling) (unless d R.Factor)))) ≡ Err r → Placeless r
    go false b l c d h = is R.Precision (record { twelve = refl; place = refl }) h
    go true false l c d h = is R.Option (record { twelve = refl; place = refl }) h
    go true true false c d h = is R.Lifting (record { twelve = refl; place = refl }) h
    go true true true false d h = is R.Scaling (record { twelve = refl; place = refl }) h
    go true true true true false h = is R.Factor (record { twelve = refl; place = refl }) h
    go true true true true true h = absurd (refused_not (sym h))

values_twelve : (values : List ℕ) (r : Refusal) → values_judged values ≡ Err r → (paper r).number ≡ 12
values_twelve values r e =
    each_from (λ s. (paper s).number ≡ 12) (λ v. unless (finite (value_at values v)) (R.Value v)) (length values / 4) (λ v s. one v s (finite (value_at values v))) r e
  where
    one : (v : ℕ) (s : Refusal) (b : Bool) → unless b (R.Value v) ≡ Err s → (paper s).number ≡ 12
    one v s true d = absurd (refused_not (sym d))
    one v s false d = ap (λ x. (paper x).number) (sym (same d))

-- a judgement told by its own number, and by another's
placed : (j : Judged) (n : ℕ) → n ≡ number_of j → cond (eqb (number_of j) n) (place_of j) 0 ≡ place_of j
placed j n e = rw (eq-eqb (number_of j) n (sym e))

pub none_placed : (t : Bool) → ◌≡◌ {A = ℕ} (cond t 0 0) 0
none_placed true = refl
none_placed false = refl

-- the graph's g, the count's test t, the settings' s, the values' v, the exposure's test b and the memory's test e, in decode's order
in_order : (k : ℕ) (g : Judged) (t : Bool) (s v : Judged) (b e : Bool) → ((r : Refusal) → s ≡ Err r → Placeless r) → ((r : Refusal) → v ≡ Err r → (paper r).number ≡ 12)
    → let j : Judged = or_else (or_else g (or_else (or_else (unless t (R.Length k)) (or_else s v)) (unless b R.Blank))) (unless e R.Buffer) in
    let i : Judged = or_else g (or_else (unless t (R.Length k)) v) in cond (eqb (number_of i) (number_of j)) (place_of i) 0 ≡ place_of j
in_order k (Err r) t s v b e p q = placed (Err r) (paper r).number refl
in_order k (Ok _) false s v b e p q = refl
in_order k (Ok _) true (Err r) (Ok _) b e p q = none_placed (eqb 0 (paper r).number) ∙ sym (p r refl).place
in_order k (Ok _) true (Err r) (Err x) b e p q = rw (q x refl, (p r refl).twelve) (sym (p r refl).place)
in_order k (Ok _) true (Ok _) (Err r) b e p q = placed (Err r) (paper r).number refl
in_order k (Ok _) true (Ok _) (Ok _) false e p q = refl
in_order k (Ok _) true (Ok _) (Ok _) true false p q = refl
in_order k (Ok _) true (Ok _) (Ok _) true true p q = refl

pub number_small : (r : Refusal) → (paper r).number % 256 ≡ (paper r).number
number_small (R.Form p) = refl
number_small (R.Count p) = refl
number_small (R.Range p) = refl
number_small (R.Order p) = refl
number_small (R.Degree p) = refl
number_small R.Buffer = refl
number_small (R.Start p) = refl
number_small R.Precision = refl
number_small R.Option = refl
number_small R.Scaling = refl
number_small R.Factor = refl
number_small (R.Value p) = refl
number_small (R.Length p) = refl
number_small (R.RunText p) = refl
number_small (R.Bit p) = refl
number_small R.Lifting = refl
number_small (R.Shift p) = refl
number_small R.Positions = refl
number_small R.NoCodeword = refl
number_small R.Blank = refl
number_small R.Advance = refl
number_small R.Allowance = refl

-- the lowest byte of the answer is the number
number_packed : (F : Frame) (j : Judged) → pack_decoded (decoded F j) % 256 ≡ number_of j
number_packed F (Err r) = number_small r
number_packed F (Ok _) = omega arith

pub places_told : PlacesTold
unfolding decode_judged frame_judged
places_told F d m =
    rw (number_packed F (decode_finds F d m))
    (in_order (length F.values / 4) (graph_judged_in limits (graph F) d) (eqb (length F.values / 4) F.variables) (settings_judged F.asked) (values_judged F.values)
    (not (is_blank F)) (enough F.variables (graph F).entries m) (settings_placeless F.asked) (values_twelve F.values))

-- ---- accepted with settings that are in order, and enough memory

-- settings that are in order
pub settled : settings_judged (asked_of (Plain (of_bits binary32 0x3f80_0000)) 3 3 0 0 0 0 never largest_lift) ≡ Ok tt
unfolding positive lt of_int of_bits
settled = refl

-- memory that is enough for every graph
abbrev pub ample : Room
ample = record {
  levels = limits.variables;
  variable_messages = limits.entries;
  check_messages = limits.entries;
  sums = 4 * limits.variables;
  bits = limits.variables;
}

ample_enough : (n E : ℕ) → n ≤ limits.variables → E ≤ limits.entries → enough n E ample ≡ true
ample_enough n E p q = rw (le-leb n limits.variables p, le-leb E limits.entries q, le-leb (4 * n) (4 * limits.variables) (omega arith))

-- then only a blank frame is refused beside what has a place
module _ (F : Frame) (d : ℕ) (good : settings_judged F.asked ≡ Ok tt) where
  only_places : decode_finds F d ample ≡ or_else (places_judged (graph F) F.values d) (unless (not (is_blank F)) R.Blank)
  unfolding decode_judged frame_judged
  only_places = rw good (go (graph_judged_in limits (graph F) d) refl)
    where
      given : Judged
      given = or_else (unless (eqb (length F.values / 4) F.variables) (R.Length (length F.values / 4))) (values_judged F.values)

      exposed : Judged
      exposed = unless (not (is_blank F)) R.Blank

      go : (g : Judged) → graph_judged_in limits (graph F) d ≡ g
          → or_else (or_else g (or_else given exposed)) (unless (enough F.variables (graph F).entries ample) R.Buffer) ≡ or_else (or_else g given) exposed
      go (Err r) h = refl
      go (Ok _) h =
          let a = lent_admitted (graph F) d h in
          rw (ample_enough F.variables (graph F).entries a.variables.1 a.entries) (or_else_none (or_else given exposed))

-- what is found of the places, by a refusal that may also be of a blank frame
module _ (b : Bool) {r : Refusal} where
  its_place : (f : Judged) → or_else f (unless b R.Blank) ≡ Err r → cond (eqb (number_of f) (paper r).number) (place_of f) 0 ≡ (paper r).place
  its_place (Err x) h = rw (same h, eq-eqb (paper r).number (paper r).number refl)
  its_place (Ok _) h = go b h
    where
      go : (t : Bool) → unless t R.Blank ≡ Err r → cond (eqb 0 (paper r).number) 0 0 ≡ (paper r).place
      go true q = absurd (refused_not (sym q))
      go false q = rw (← same q)

  another_place : (f : Judged) {number : ℕ} → or_else f (unless b R.Blank) ≡ Err r → ((paper r).number ≡ number → ⊥) → cond (eqb (number_of f) number) (place_of f) 0 ≡ 0
  another_place (Err x) {number} h n = rw (same h, ne_eqb (paper r).number number n)
  another_place (Ok _) {number} h n = none_placed (eqb 0 number)

-- what the companion promises, from what `accept` answers
module _ (F : Frame) {a : Checked} {old now : List ℕ} (accepts : Accepts F ample a old now) (good : settings_judged F.asked ≡ Ok tt) where
  abbrev found : Judged
  found = places_judged (graph F) F.values (length old)

  finds : {j : Judged} → decode_finds F (length old) ample ≡ j → or_else found (unless (not (is_blank F)) R.Blank) ≡ j
  finds h = sym (only_places F (length old) good) ∙ h

  refused : {r : Refusal} → a ≡ Err r → or_else found (unless (not (is_blank F)) R.Blank) ≡ Err r
  refused e = finds (checked_refused (decode_finds F (length old) ample) (settings F.asked) (sym accepts.answer ∙ e))

  abbrev Tells : ℕ → ℕ → Type 0
  Tells number r = TellsPlace (graph F) (decode_place (graph F) F.values (length old) number) old now r

  pub of_its_number : {r : Refusal} {number place : ℕ} → a ≡ Err r → (paper r).number ≡ number → place ≡ (paper r).place → Tells number place
  of_its_number {r} {number} e n q = record {
    answer = q ∙ sym (its_place (not (is_blank F)) found (refused e)) ∙ ap (λ k. cond (eqb (number_of found) k) (place_of found) 0) n;
    degrees = accepts.degrees;
  }

  pub of_another : {r : Refusal} {number : ℕ} → a ≡ Err r → ((paper r).number ≡ number → ⊥) → Tells number 0
  of_another e n = record { answer = sym (another_place (not (is_blank F)) found (refused e) n); degrees = accepts.degrees }

  pub of_none : {s : Settings} (number : ℕ) → a ≡ Ok s → Tells number 0
  of_none {s} number e = record {
    answer =
        let none : found ≡ (Ok tt) = or_else_left found _ (finds (checked_good (decode_finds F (length old) ample) (settings F.asked) (sym accepts.answer ∙ e))) in
        rw none (sym (none_placed (eqb 0 number)));
    degrees = accepts.degrees;
  }
