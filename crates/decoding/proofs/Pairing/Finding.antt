-- What is found of a pair.
use Rattle.std.specs.Prelude.{Ok, Err}
use mathlib.Core.Path.{◌≡◌, refl, ap, ap₂}
use Prim.Native.Nat.{ℕ}
use native.Mathlib.Omega.{arith}
use Rattle.rules.specs.Graphs.{limits}
use Rattle.refusals.specs.Refusals.{Judged}
use Rattle.refusals.specs.declared.Refusal.{Refusal}
use Rattle.graphs.specs.Judging.{graph_judged_in}
use Rattle.settings.specs.declared.Settings.{Settings}
use Rattle.decoding.specs.declared.Room.{Room}
use Rattle.decoding.specs.Decoding.{Memory, decode_judged, decode_finds}
use Rattle.decoding.proofs.Accepting.{frame_passed, memory_told}
use Rattle.decoding.specs.declared.Party.{Party}
use Rattle.decoding.specs.declared.Party.TheVariants.{First, Second, Pair}
use Rattle.decoding.specs.Pairing.Pairs.{Heads, Found, admitted, refused, found_of, allowance_judged, checked_pair, graph_of_both, first_frame, second_frame, pair_finds, first_after, second_after}

found_told : (p : Party) (j : Judged) (rest : Found) → found_of p j rest ≡ admitted → (j ≡ Ok tt) × (rest ≡ admitted)
found_told p (Ok _) rest h = (refl, h)
found_told p (Err r) rest h = let z : ◌≡◌ {A = ℕ} 0 1 = cc in absurd (omega arith)

module _ (P : Heads) (d : ℕ) (m m' : Room) where
  abbrev pub last : Found
  last = found_of Pair (allowance_judged P.allowance) admitted

  pub all_told : pair_finds P d m m' ≡ admitted
      → (decode_finds (first_frame P) d m ≡ Ok tt) × (decode_finds (second_frame P) d m' ≡ Ok tt) × (allowance_judged P.allowance ≡ Ok tt)
  unfolding pair_finds
  all_told h =
      let a = found_told First (decode_finds (first_frame P) d m) (found_of Second (decode_finds (second_frame P) d m') last) h in
      let b = found_told Second (decode_finds (second_frame P) d m') last a.1 in
      (a.0, b.0, (found_told Pair (allowance_judged P.allowance) admitted b.1).0)

  pub first_refused : {r : Refusal} → decode_finds (first_frame P) d m ≡ Err r → pair_finds P d m m' ≡ refused First r
  unfolding pair_finds
  first_refused h = ap (λ j. found_of First j (found_of Second (decode_finds (second_frame P) d m') last)) h

  module _ (a : decode_finds (first_frame P) d m ≡ Ok tt) where
    pub second_judged : {j : Judged} → decode_finds (second_frame P) d m' ≡ j → pair_finds P d m m' ≡ found_of Second j last
    unfolding pair_finds
    second_judged h = ap₂ (λ i j. found_of First i (found_of Second j last)) a h

    pub graph_good : graph_judged_in limits (graph_of_both P) d ≡ Ok tt
    graph_good = let g = graph_judged_in limits (graph_of_both P) d in (frame_passed (first_frame P) g (memory_told (first_frame P) g m a).0).0

    -- the graph was judged with the first head
    pub second_only : decode_finds (second_frame P) d m' ≡ decode_judged (second_frame P) (Ok tt) m'
    second_only = ap (λ g. decode_judged (second_frame P) g m') graph_good

-- what the settings of both heads, or the refusal, tell of it
pub found_refused : (f : Found) (s s' : Settings) {p : Party} {r : Refusal} → checked_pair f s s' ≡ Err (p, r) → f ≡ refused p r
found_refused admitted s s' h = let z : ◌≡◌ {A = ℕ} 0 1 = cc in absurd (omega arith)
found_refused (refused q x) s s' {p} {r} h =
    let both : (q, x) ≡ (p, r) = cc in
    ap (λ (z : Party × Refusal). refused z.0 z.1) both

-- a refusal changes no byte of either head's memory
pub refused_kept : (P : Heads) (p : Party) (r : Refusal) (M N : Memory) → (first_after P (refused p r) M ≡ M) × (second_after P (refused p r) N ≡ N)
refused_kept P p r M N = (refl, refl)
