-- The values' lines: the loop over them, one line on, and the lent bytes.
use mathlib.Core.Path.{◌≡◌, refl, sym, ap, ap₂, ◌∙◌, subst}
use mathlib.Core.List.{List, [], ◌++◌, append_assoc}
use Prim.Native.Nat.{ℕ, zero, suc, ◌+◌, ◌*◌, ◌≤◌, ◌<◌}
use native.Mathlib.Omega.{arith}
use lib.ListN.{length, take, drop, length-append, length-drop, take-append-drop, drop_of_length-le}
use borrow.Author.Tests.{le-leb, lt-leb}
use lib.Seq.{length-take-le, drop-drop, take_at}
use Rattle.texts.specs.Numbers.{other, value}
use Rattle.texts.specs.Lines.{lf}
use Rattle.texts.proofs.Places.{here}
use Rattle.words.specs.Words.{bytes, stored}
use Rattle.words.proofs.Words.{length_bytes, stored_over}
use Rattle.settings.specs.declared.Parameters.{Parameters}
use Rattle.std.proofs.Common.{Option, Some, None, Ok, Err}
use Rattle.std.specs.Option.{ok_or}
use Rattle.texts.specs.declared.Parsed.{Parsed}
use Rattle.program_texts.specs.RunText.Texts.{pattern}
use Rattle.program_texts.specs.RunText.Reading.{RunText, refused, read, value_lines, run_lines, largest_input, run_text, answer_of, values_in, ReadAs}
use Rattle.run_lines.specs.Places.{Reads, ReadAt, Stores, StoresAs}

module _ (g : Parameters) (l : ℕ) (done : List ℕ) where
  line_other : (k : ℕ) (t : List ℕ) → 0 < k → pattern lf t ≡ other → value_lines g k l done t ≡ refused l
  unfolding value_lines
  line_other zero t h e = absurd (omega arith)
  line_other (suc k) t h e = rw e

  line_on : (k : ℕ) (t : List ℕ) {v : ℕ} {r : List ℕ} → pattern lf t ≡ value v r
      → value_lines g (suc k) l done t ≡ value_lines g k (suc l) (done ++ bytes 4 v) r
  unfolding value_lines
  line_on k t e = rw e

  line_none : value_lines g 0 l done [] ≡ read g done
  unfolding value_lines
  line_none = refl

  line_extra : (s : List ℕ) (i : ℕ) → i < length s → value_lines g 0 l done (drop i s) ≡ refused l
  unfolding value_lines
  line_extra s i h = rw (here s i h)

-- ---- the loop: at `at`, after k values

-- one more value in memory that holds the values `done`
next_stored : (done old : List ℕ) (k v : ℕ) → length done ≡ 4 * k → 4 * (k + 1) ≤ length old
    → stored 4 (done ++ drop (4 * k) old) (4 * k) v ≡ (done ++ bytes 4 v) ++ drop (4 * (k + 1)) old
next_stored done old k v e l =
    let u : 4 ≤ length (drop (4 * k) old) = omega (arith, length-drop (4 * k) old) in
    let n : 4 * k + 4 ≡ 4 * (k + 1) = omega arith in
    ap (λ (x : List ℕ). stored 4 (done ++ x) (4 * k) v) (sym (take-append-drop 4 (drop (4 * k) old)))
    ∙ stored_over 4 done (take 4 (drop (4 * k) old)) (drop 4 (drop (4 * k) old)) (4 * k) v e (length-take-le 4 (drop (4 * k) old) u)
    ∙ ap (λ (x : List ℕ). done ++ (bytes 4 v ++ x)) (drop-drop 4 (4 * k) old ∙ ap (λ (j : ℕ). drop j old) n)
    ∙ sym (append_assoc done (bytes 4 v) (drop (4 * (k + 1)) old))

pub record Storing (s : List ℕ) (n from at k : ℕ) (old now : List ℕ) : Type 0 where
  pub left : ℕ
  pub done : List ℕ
  pub total : left + k ≡ n
  pub within : at ≤ length s
  pub long : length done ≡ 4 * k
  pub holds : now ≡ done ++ drop (4 * k) old
  pub same : (g : Parameters) → value_lines g n 4 [] (drop from s) ≡ value_lines g left (k + 4) done (drop at s)

pub storing_none : (s : List ℕ) (n from : ℕ) (old : List ℕ) → from ≤ length s → Storing s n from from 0 old old
storing_none s n from old h = record { left = n; done = []; total = omega arith; within = h; long = refl; holds = refl; same = λ g. refl }

module _ {s : List ℕ} {n from at k : ℕ} {old now : List ℕ} (q : Storing s n from at k old now) where
  module _ (l : k < n) where
    pub storing_other : {o : Option (Parsed ℕ)} {line : ℕ} → ReadAt (pattern lf) s at o → o ≡ None → Err line ≡ ok_or o (k + 4)
        → StoresAs (λ g. value_lines g n 4 [] (drop from s)) n old now (Err line)
    storing_other {o} {line} a e f = λ g. q.same g ∙ line_other g (k + 4) q.done q.left (drop at s) (omega (arith, q.total)) none ∙ ap refused same
      where
        none : pattern lf (drop at s) ≡ other
        none = subst (ReadAt (pattern lf) s at) e a

        same : k + 4 ≡ line
        same = let z : Err line ≡ ok_or None (k + 4) = f ∙ ap (λ o. ok_or o (k + 4)) e in cc

    pub storing_more : {o : Option (Parsed ℕ)} {p : Parsed ℕ} {later : List ℕ} → 4 * n ≤ length old → ReadAt (pattern lf) s at o → o ≡ Some p
        → later ≡ stored 4 now (4 * k) p.value → Storing s n from p.next (k + 1) old later
    storing_more {o} {p} {later} h a f d = go q.left q.total q.same
      where
        r : Reads (pattern lf (drop at s)) s p.value p.next
        r = subst (ReadAt (pattern lf) s at) f a

        go : (left : ℕ) → left + k ≡ n → ((g : Parameters) → value_lines g n 4 [] (drop from s) ≡ value_lines g left (k + 4) q.done (drop at s))
            → Storing s n from p.next (k + 1) old later
        go zero t a = absurd (omega arith)
        go (suc left) t a = record {
          left = left;
          done = q.done ++ bytes 4 p.value;
          total = omega arith;
          within = r.within;
          long = length-append q.done (bytes 4 p.value) ∙ omega (arith, q.long, length_bytes 4 p.value);
          holds = d ∙ ap (λ (x : List ℕ). stored 4 x (4 * k) p.value) q.holds ∙ next_stored q.done old k p.value q.long (omega arith);
          same =
              λ g. a g ∙ line_on g (k + 4) q.done left (drop at s) r.reads
              ∙ ap (λ (l : ℕ). value_lines g left l (q.done ++ bytes 4 p.value) (drop p.next s)) (omega arith);
        }

  module _ (l : n ≤ k) where
    none_left : (g : Parameters) → value_lines g n 4 [] (drop from s) ≡ value_lines g 0 (n + 4) q.done (drop at s)
    none_left g =
        q.same g ∙ ap₂ (λ (j m : ℕ). value_lines g j m q.done (drop at s)) (omega (arith, q.total)) (omega (arith, q.total))

    pub storing_extra : at < length s → (g : Parameters) → value_lines g n 4 [] (drop from s) ≡ refused (n + 4)
    storing_extra h g = none_left g ∙ line_extra g (n + 4) q.done s at h

    pub storing_all : length s ≤ at → (g : Parameters) → Stores (value_lines g n 4 [] (drop from s)) g n old now
    storing_all h g =
        let e : k ≡ n = omega (arith, q.total) in
        record {
          done = q.done;
          is =
              none_left g ∙ ap (value_lines g 0 (n + 4) q.done) (drop_of_length-le s h) ∙ line_none g (n + 4) q.done;
          long = omega (arith, q.long);
          holds = q.holds ∙ ap (λ (j : ℕ). q.done ++ drop (4 * j) old) e;
        }

-- ---- the settings and the values, or the line that is refused

module _ (n : ℕ) (s : List ℕ) where
  pub oversized : largest_input < length s → run_text n s ≡ refused 0
  unfolding run_text
  oversized h = rw (lt-leb (length s) largest_input h)

  pub sized : length s ≤ largest_input → run_text n s ≡ run_lines n s
  unfolding run_text
  sized h = rw (le-leb (length s) largest_input h)

pub read_refused : {x : RunText} {l : ℕ} {old : List ℕ} → x ≡ refused l → ReadAs x (Err l) old old
read_refused {x} {l} {old} e = record { answer = sym (ap answer_of e); values = sym (ap (λ (y : RunText). values_in y old) e) }

pub read_stored : {x y : RunText} {g : Parameters} {n : ℕ} {own own' old front : List ℕ} → x ≡ y → Stores y g n own own' → front ≡ take (4 * n) own'
    → ReadAs x (Ok g) old (front ++ drop (4 * n) old)
read_stored {x} {y} {g} {n} {own} {own'} {old} {front} e s f = record {
  answer = sym (ap answer_of (e ∙ s.is));
  values =
      ap₂ (λ (t : List ℕ) (j : ℕ). t ++ drop j old) (f ∙ ap (take (4 * n)) s.holds ∙ take_at s.done (drop (4 * n) own) (4 * n) s.long) (sym s.long)
      ∙ sym (ap (λ (z : RunText). values_in z old) (e ∙ s.is));
}
