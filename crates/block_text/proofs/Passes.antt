-- The first pass: the loop over the entries' lines, one line on.
use Rattle.std.specs.Prelude.{Ok, Err}
use mathlib.Core.Path.{◌≡◌, sym, ap, ◌∙◌, subst}
use mathlib.Core.List.{List}
use Prim.Native.Nat.{ℕ, ◌+◌, ◌≤◌, ◌<◌}
use native.Mathlib.Omega.{arith}
use lib.ListN.{length, drop}
use Rattle.refusals.specs.declared.Refusal.{Refusal}
use Rattle.refusals.specs.declared.Refusal.TheVariants.{Form}
use Rattle.refusals.specs.Refusals.{Judged}
use Rattle.texts.specs.Numbers.{other}
use Rattle.texts.specs.Lines.{pair, fixed}
use Rattle.texts.specs.Places.{FixedRead}
use Rattle.rules.specs.Graphs.{limits}
use Rattle.texts.specs.Reading.{refused}
use Rattle.texts.proofs.Passes.{rows_from, Scanning, scanning_refused, scanning_more, bad_counts, no_titles, to_entries}
use Rattle.texts.specs.Triples.{Triple, triple, triple_line, TripleRead}
use Rattle.block_sheets.specs.Text.Reading.{size_judged, block_judged, block_entries, room_of, block_layout, block_lines}
use Rattle.block_sheets.proofs.Text.Judging.{capped_block, after_capped, capped_size, Exact, exact}

-- what an entry's line gives, where the code's judgement of its capped numbers is j
module _ {Z m n : ℕ} {s : List ℕ} {from at k i0 j0 : ℕ} (q : Scanning block_entries (room_of Z) (triple Z m n) s from at k (pair i0 j0))
    (hz : Z ≤ limits.variables) (hm : m ≤ limits.checks) (hn : n ≤ limits.variables) (h : at < length s) (u : k < room_of Z)
    {a b d next : ℕ} (r : TripleRead (triple_line (drop at s)) s at a b d next)
    {j : Judged} (e : j ≡ block_judged (triple Z m n) (k + 4) (pair i0 j0) (triple a b d)) where
  judged : {x : Judged} → j ≡ x → block_judged (triple Z m n) (k + 4) (pair i0 j0) r.numbers ≡ x
  judged {x} p = sym (capped_block (triple Z m n) (pair i0 j0) (k + 4) r.numbers a b d (omega arith) (omega arith) (omega arith) r.first r.second r.third) ∙ sym e ∙ p

  pub block_refused : {x : Refusal} → j ≡ Err x → rows_from block_entries (room_of Z) (triple Z m n) s from ≡ refused x
  block_refused {x} p = scanning_refused q h u r.numbers next r.reads (judged p)

  pub block_more : j ≡ Ok tt → Scanning block_entries (room_of Z) (triple Z m n) s from next (k + 1) (pair a (b + 1))
  block_more p =
      subst (Scanning block_entries (room_of Z) (triple Z m n) s from next (k + 1))
      (after_capped (triple Z m n) (pair i0 j0) (k + 4) r.numbers a b (omega arith) (omega arith) r.first r.second (judged p))
      (scanning_more q h u r.numbers next r.reads r.within (judged p))

-- ---- the lines above the entries, where the code's judgement of line 2 is j

module _ {s : List ℕ} {i : ℕ} (f : FixedRead (fixed block_layout.heading s) s i)
    {a b d next : ℕ} (r : TripleRead (triple_line (drop i s)) s i a b d next) {j : Judged} (e : j ≡ size_judged (triple a b d)) where
  size_judged_lem : {x : Judged} → j ≡ x → size_judged r.numbers ≡ x
  size_judged_lem {x} p = sym (capped_size r.numbers a b d r.first r.second r.third) ∙ sym e ∙ p

  pub size_refused : {x : Refusal} → j ≡ Err x → block_lines s ≡ refused x
  size_refused {x} p = bad_counts block_layout s f.reads r.reads (size_judged_lem p)

  module _ (p : j ≡ Ok tt) where
    pub size_exact : Exact r.numbers a b d
    size_exact = exact r.numbers a b d r.first r.second r.third (size_judged_lem p)

    pub titles_missing : fixed block_layout.titles (drop next s) ≡ other → block_lines s ≡ refused (Form 3)
    titles_missing t = no_titles block_layout s f.reads r.reads (size_judged_lem p) t

    pub to_blocks : {at : ℕ} → FixedRead (fixed block_layout.titles (drop next s)) s at → block_lines s ≡ rows_from block_entries (room_of a) (triple a b d) s at
    to_blocks {at} t =
        to_entries block_layout s f.reads r.reads (size_judged_lem p) t.reads ∙ ap (λ (c : Triple). rows_from block_entries (room_of c.first) c s at) size_exact.same
