-- The sheet of counts within limits and entries in order is read as these, and only such a sheet is read.
use Rattle.std.specs.Prelude.{Ok, Err}
use mathlib.Core.Path.{◌≡◌, refl, sym, ap, ◌∙◌, subst}
use mathlib.Core.List.{List, [], ◌∷◌, ◌++◌, append_assoc, append-nil}
use Prim.Native.Nat.{ℕ, zero, suc, ◌≤◌}
use native.Mathlib.Nat.{not-suc-le-zero}
use native.Mathlib.Omega.{arith}
use lib.ListN.{length}
use Rattle.refusals.specs.declared.Refusal.{Refusal}
use Rattle.refusals.specs.declared.Refusal.TheVariants.{Count}
use Rattle.refusals.specs.Refusals.{Judged}
use Rattle.texts.specs.Numbers.{Front, other, value}
use Rattle.texts.specs.Lines.{fixed}
use Rattle.texts.proofs.Lines.{fixed_reads, fixed_text}
use Rattle.texts.specs.Layouts.{EntryLines, Layout, entries_text, sheet_of}
use Rattle.texts.specs.Reading.{Lines, refused, lines, formed, below, at_end, rows, sheet_lines, walked, given}
use Rattle.texts.specs.Order.{Rising, Lined}
use Rattle.texts.proofs.Order.{ReadableEntries, Readable, Judging}

module _ {C A : Type 0} where
  refused_not : {r : Refusal} {c : C} {ps : List A} → ◌≡◌ {A = Lines C A} (refused r) (lines c ps) → ⊥
  refused_not {r} {c} {ps} e = let z : ◌≡◌ {A = ℕ} 0 1 = cc in absurd (omega arith)

  -- ---- what a step that refuses nothing tells

  formed_told : {X : Type 0} (l : ℕ) (x : Front X) (k : X → List ℕ → Lines C A) (d : C) (qs : List A)
      → formed l x k ≡ lines d qs → (a : X) × (t : List ℕ) × (x ≡ value a t) × (k a t ≡ lines d qs)
  formed_told l other k d qs e = absurd (refused_not e)
  formed_told l (value a t) k d qs e = (a, t, refl, e)

  below_told : (j : Judged) (x : Lines C A) (d : C) (qs : List A) → below j x ≡ lines d qs → (j ≡ Ok tt) × (x ≡ lines d qs)
  below_told (Ok _) x d qs e = (refl, e)
  below_told (Err r) x d qs e = absurd (refused_not e)

module _ {C A L : Type 0} (E : EntryLines C A L) (T : ReadableEntries E) (Fits : C → L → A → Type 0) (J : Judging E Fits) where
  -- a line is not the end
  full : (p : A) (t : List ℕ) (x y : Lines C A) → at_end (E.entry_text p ++ t) x y ≡ y
  full p t x y = go (E.entry_text p ++ t) (T.entry_reads p t)
    where
      go : (s : List ℕ) → E.entry s ≡ value p t → at_end s x y ≡ y
      go [] e = absurd (T.entry_empty p t e)
      go (b ∷ s) e = refl

  -- ---- the entries' lines

  module _ (c : C) where
    -- whatever the entries, their lines are read as they are walked
    rows_walked : (ps : List A) (k l : ℕ) (low : L) (done : List A) → rows E c k l low done (entries_text E ps) ≡ walked E c k l low done ps
    unfolding rows walked entries_text
    rows_walked [] zero l low done = refl
    rows_walked [] (suc k) l low done = refl
    rows_walked (p ∷ ps) zero l low done = full p (entries_text E ps) _ _
    rows_walked (p ∷ ps) (suc k) l low done =
        full p (entries_text E ps) _ _
        ∙ rw (T.entry_reads p (entries_text E ps)) (ap (below (E.entry_judged c l low p)) (rows_walked ps k (suc l) (E.after p) (done ++ (p ∷ []))))

    walked_read : (ps : List A) (k l : ℕ) (low : L) (done : List A) → Rising E Fits c low ps → length ps ≤ k
        → walked E c k l low done ps ≡ lines c (done ++ ps)
    unfolding walked
    walked_read [] k l low done r h = rw (append-nil done)
    walked_read (p ∷ ps) zero l low done r h = absurd (not-suc-le-zero h)
    walked_read (p ∷ ps) (suc k) l low done r h =
        rw (J.fits_judged c low p l r.0)
        (walked_read ps k (suc l) (E.after p) (done ++ (p ∷ [])) r.1 (omega arith) ∙ ap (lines c) (append_assoc done (p ∷ []) ps))

    -- what entries of which none is refused tell
    walked_told : (ps : List A) (k l : ℕ) (low : L) (done : List A) (d : C) (qs : List A) → walked E c k l low done ps ≡ lines d qs
        → (lines d qs ≡ lines c (done ++ ps)) × Rising E Fits c low ps × (length ps ≤ k)
    unfolding walked
    walked_told [] k l low done d qs e = (sym e ∙ ap (lines c) (sym (append-nil done)), tt, omega arith)
    walked_told (p ∷ ps) zero l low done d qs e = absurd (refused_not e)
    walked_told (p ∷ ps) (suc k) l low done d qs e =
        let j = below_told (E.entry_judged c l low p) (walked E c k (suc l) (E.after p) (done ++ (p ∷ [])) ps) d qs e in
        let w = walked_told ps k (suc l) (E.after p) (done ++ (p ∷ [])) d qs j.1 in
        (w.0 ∙ ap (lines c) (append_assoc done (p ∷ []) ps), (J.judged_fits c low p l j.0, w.1), omega (arith, w.2))

    -- what was read of the text t after the entries `done`
    pub record Was (k : ℕ) (low : L) (done : List A) (t : List ℕ) (d : C) (qs : List A) : Type 0 where
      pub entries : List A
      pub all : qs ≡ done ++ entries
      pub text : t ≡ entries_text E entries
      pub rising : Rising E Fits c low entries
      pub few : length entries ≤ k
      pub counts : c ≡ d

    -- nothing is left, or what comes of the rest
    end_told : (k : ℕ) (low : L) (done : List A) (t : List ℕ) (d : C) (qs : List A) (x : Lines C A)
        → (x ≡ lines d qs → Was k low done t d qs) → at_end t (lines c done) x ≡ lines d qs → Was k low done t d qs
    unfolding entries_text
    end_told k low done [] d qs x go e =
        record { entries = []; all = (let q : done ≡ qs = cc in sym q ∙ sym (append-nil done)); text = refl; rising = tt; few = omega arith; counts = cc }
    end_told k low done (b ∷ t) d qs x go e = go e

    pub rows_told : (k l : ℕ) (low : L) (done : List A) (t : List ℕ) (d : C) (qs : List A)
        → rows E c k l low done t ≡ lines d qs → Was k low done t d qs
    unfolding rows entries_text
    rows_told zero l low done t d qs e = end_told 0 low done t d qs (refused (Count l)) (λ q. absurd (refused_not q)) e
    rows_told (suc k) l low done t d qs e =
        end_told (suc k) low done t d qs _ (one (λ p r. rows_told k (suc l) (E.after p) (done ++ (p ∷ [])) r d qs)) e
      where
        next : A → List ℕ → Lines C A
        next p r = rows E c k (suc l) (E.after p) (done ++ (p ∷ [])) r

        one : ((p : A) (r : List ℕ) → next p r ≡ lines d qs → Was k (E.after p) (done ++ (p ∷ [])) r d qs)
            → formed l (E.entry t) (λ p r. below (E.entry_judged c l low p) (next p r)) ≡ lines d qs → Was (suc k) low done t d qs
        one ih q =
            let f = formed_told l (E.entry t) (λ p r. below (E.entry_judged c l low p) (next p r)) d qs q in
            let p = f.0 in
            let j = below_told (E.entry_judged c l low p) (next p f.1) d qs f.3 in
            let w = ih p f.1 j.1 in
            record {
              entries = p ∷ w.entries;
              all = w.all ∙ append_assoc done (p ∷ []) w.entries;
              text = T.entry_text_lem p t f.1 f.2 ∙ ap (λ (x : List ℕ). E.entry_text p ++ x) w.text;
              rising = (J.judged_fits c low p l j.0, w.rising);
              few = omega (arith, w.few);
              counts = w.counts;
            }

    -- the same is read where no more entries are allowed than were read
    pub rows_enough : (k j l : ℕ) (low : L) (t : List ℕ) (ps : List A) → rows E c k l low [] t ≡ lines c ps → length ps ≤ j → rows E c j l low [] t ≡ lines c ps
    rows_enough k j l low t ps e h =
        let w = rows_told k l low [] t c ps e in
        ap (rows E c j l low []) w.text ∙ rows_walked w.entries j l low []
        ∙ walked_read w.entries j l low [] w.rising (omega (arith, h, ap length w.all)) ∙ ap (lines c) (sym w.all)

-- ---- the whole sheet

module _ {C A L : Type 0} (Y : Layout C A L) (T : Readable Y) (Fits : C → L → A → Type 0) (J : Judging Y.entries Fits) where
  abbrev lowest : L
  lowest = Y.entries.low

  -- the sheet of any counts and entries is refused as these are
  pub sheet_given_lem : (c : C) (ps : List A) → sheet_lines Y (sheet_of Y c ps) ≡ given Y c ps
  unfolding sheet_lines sheet_of
  sheet_given_lem c ps =
      rw (fixed_reads Y.heading (Y.counts_text c ++ (Y.titles ++ entries_text Y.entries ps)), T.counts_reads c (Y.titles ++ entries_text Y.entries ps), fixed_reads Y.titles (entries_text Y.entries ps))
      (ap (below (Y.counts_judged c)) (rows_walked Y.entries T.entries Fits J c ps (Y.room c) 4 lowest []))

  pub sheet_read_lem : (c : C) (ps : List A) → Lined Y Fits c ps → sheet_lines Y (sheet_of Y c ps) ≡ lines c ps
  sheet_read_lem c ps h = sheet_given_lem c ps ∙ rw h.counts (walked_read Y.entries T.entries Fits J c ps (Y.room c) 4 lowest [] h.rising h.few)

  -- counts and entries of which nothing is refused are such as a sheet may have
  pub given_told : (c : C) (ps : List A) (d : C) (qs : List A) → given Y c ps ≡ lines d qs → (given Y c ps ≡ lines c ps) × Lined Y Fits c ps
  given_told c ps d qs e =
      let j = below_told (Y.counts_judged c) (walked Y.entries c (Y.room c) 4 lowest [] ps) d qs e in
      let w = walked_told Y.entries T.entries Fits J c ps (Y.room c) 4 lowest [] d qs j.1 in
      (e ∙ w.0, record { counts = j.0; rising = w.1; few = w.2 })

  pub sheet_told : (t : List ℕ) (c : C) (ps : List A) → sheet_lines Y t ≡ lines c ps → (t ≡ sheet_of Y c ps) × Lined Y Fits c ps
  unfolding sheet_lines sheet_of
  sheet_told t c ps e =
      let a = formed_told 1 (fixed Y.heading t) _ c ps e in
      let b = formed_told 2 (Y.counts a.1) _ c ps a.3 in
      let k = b.0 in
      let j = below_told (Y.counts_judged k) _ c ps b.3 in
      let d = formed_told 3 (fixed Y.titles b.1) _ c ps j.1 in
      let w = rows_told Y.entries T.entries Fits J k (Y.room k) 4 lowest [] d.1 c ps d.3 in
      let text : t ≡ sheet_of Y k ps =
      fixed_text Y.heading t a.1 a.0 a.2 ∙ ap (λ (u : List ℕ). Y.heading ++ u) (T.counts_text_lem k a.1 b.1 b.2
      ∙ ap (λ (u : List ℕ). Y.counts_text k ++ u) (fixed_text Y.titles b.1 d.1 d.0 d.2
      ∙ ap (λ (u : List ℕ). Y.titles ++ u) (w.text ∙ ap (entries_text Y.entries) (sym w.all)))) in
      let lined : Lined Y Fits k ps = record {
        counts = j.0;
        rising = subst (Rising Y.entries Fits k lowest) (sym w.all) w.rising;
        few = omega (arith, w.few, ap length w.all);
      } in
      subst (λ (k : C). (t ≡ sheet_of Y k ps) × Lined Y Fits k ps) w.counts (text, lined)
