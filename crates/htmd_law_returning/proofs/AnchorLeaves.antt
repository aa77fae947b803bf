-- A leaf after anchors, at the place where a line goes on.
use Rattle.std.proofs.Common.{◌≡◌, ℕ, Bool, true, false, not, ◌&&◌, List, [], ◌∷◌, ◌++◌, map}
use Rattle.std.proofs.Common.{refl, sym, ap, ◌∙◌}
use Rattle.std.proofs.Common.{suc, cond}
use Rattle.std.specs.Prelude.{nat_le}
use Rattle.std.specs.List.{list_any}
use Rattle.std.proofs.lemmas.List.{append_assoc, append-nil}
use Rattle.htmd_document.specs.Documents.{Block, Inline, text, code, formatted, link, image, anchor, line_break, task}
use Rattle.htmd_document.specs.Documents.{Inlines, no_inlines, inline}
use Rattle.htmd_flow.specs.Contexts.{is_link}
use Rattle.htmd_flow.specs.Nesting.{Wrapper, of_format, of_link, wrapper_of, is_same, shared, before_link, wrapped}
use Rattle.htmd_flow.specs.Nesting.{one_inline, joined, behind, met}
use Rattle.htmd_flow.specs.Paragraphs.{Writing, after_leaf, anchored, fed_all, gap_before, parted, ended}
use Rattle.htmd_flow.specs.Parts as part
use Rattle.htmd_flow.specs.Parts.{Around, Part}
use Rattle.htmd_shown.specs.Spaces.{Gap, no_gap}
use Rattle.htmd_law_returning.proofs.NestLemmas.{appended, appended-assoc, appended-none, deep, shared-deep, take-deep}
use Rattle.htmd_law_returning.proofs.NestLemmas.{IsHole, joined-apart}
use Rattle.htmd_law_returning.proofs.PageLemmas.{and-false}
use Rattle.htmd_law_returning.proofs.RunLemmas.{in_line, after, spaced, gap_of, gap_past, past_break, map-both}
use Rattle.htmd_law_returning.proofs.RunLemmas.{hole-here}
use Rattle.htmd_law_returning.proofs.StartLemmas.{Mode, in_blocks, in_item, one_line, false-true}

-- ---- anchors one after another

abbrev pub anchors_of : List (List ℕ) → Inlines
anchors_of [] = no_inlines
anchors_of (id ∷ ids) = inline (anchor id) (anchors_of ids)

abbrev pub places : List (List ℕ) → List Part
places ids = map part.place ids

-- they wait for what shows next
abbrev pub waiting : Writing → List (List ℕ) → Writing
waiting w ids = record w { anchors = ids; breaks = 0; around = before_link w.around }

outside-twice : (ms : List Wrapper) → before_link (before_link ms) ≡ before_link ms
outside-twice [] = refl
outside-twice (of_format f ∷ ms) = ap (λ ns. of_format f ∷ ns) (outside-twice ms)
outside-twice (of_link n ∷ ms) = refl

stays-here : (w : Writing) (ids : List (List ℕ)) → parted (waiting w ids) ≡ waiting w ids
stays-here w ids = ap (λ b. cond b (ended (waiting w ids)) (waiting w ids)) (and-false (not w.is_flat))

more-fed : (w : Writing) (ids js : List (List ℕ)) → fed_all (waiting w ids) (places js) ≡ waiting w (ids ++ js)
more-fed w ids [] = ap (waiting w) (sym (append-nil ids))
more-fed w ids (j ∷ js) =
    ap (λ v. fed_all (record v { anchors = v.anchors ++ j ∷ []; breaks = 0; around = before_link v.around })
    (places js))
    (stays-here w ids)
    ∙ (ap (λ ms. fed_all (record w { anchors = ids ++ j ∷ []; breaks = 0; around = ms }) (places js))
    (outside-twice w.around)
    ∙ (more-fed w (ids ++ j ∷ []) js ∙ ap (waiting w) (append_assoc ids (j ∷ []) js)))

-- fewer than two breaks part no paragraphs
pub unparted : (w : Writing) → nat_le 2 w.breaks ≡ false → parted w ≡ w
unparted w h =
    ap (λ b. cond (not w.is_flat && b) (ended w) w) h ∙ ap (λ b. cond b (ended w) w) (and-false (not w.is_flat))

pub places-fed : (w : Writing) (id : List ℕ) (ids : List (List ℕ)) → parted w ≡ w → w.anchors ≡ []
    → fed_all w (places (id ∷ ids)) ≡ waiting w (id ∷ ids)
places-fed w id ids h e =
    ap (λ v. fed_all (record v { anchors = v.anchors ++ id ∷ []; breaks = 0; around = before_link v.around })
    (places ids))
    h
    ∙ (ap (λ js. fed_all (waiting w (js ++ id ∷ [])) (places ids)) e ∙ more-fed w (id ∷ []) ids)

-- ---- what is open

outside-around : (around : List Around) (ms : List Wrapper) → list_any is_link around ≡ false
    → before_link (map wrapper_of around ++ ms) ≡ map wrapper_of around ++ before_link ms
outside-around [] ms h = refl
outside-around (part.formatted f ∷ around) ms h = ap (λ ns. of_format f ∷ ns) (outside-around around ms h)
outside-around (part.linked n a t ∷ around) ms h = false-true (sym h)

outside-shared : (ms ns : List Wrapper) → shared ms ns ≡ 0 → shared (before_link ms) ns ≡ 0
outside-shared [] ns h = h
outside-shared (of_format f ∷ ms) [] h = refl
outside-shared (of_format f ∷ ms) (n ∷ ns) h = either (is_same (of_format f) n) h
  where
    either : (b : Bool) → cond b (suc (shared ms ns)) 0 ≡ 0 → cond b (suc (shared (before_link ms) ns)) 0 ≡ 0
    either true e = absurd (clash e)
      where
        clash : suc (shared ms ns) ≡ 0 → ⊥
        clash p = (cc)
    either false e = refl
outside-shared (of_link n ∷ ms) ns h = refl

-- ---- the leaf

joined-behind-anchors : (xs : Inlines) (id : List ℕ) (ids : List (List ℕ)) (y : Inline)
    → joined (appended xs (anchors_of (id ∷ ids))) y
    ≡ appended (appended xs (anchors_of (id ∷ ids))) (one_inline y)
joined-behind-anchors xs id [] y = joined-apart xs (anchor id) y refl
joined-behind-anchors xs id (j ∷ ids) y =
    let zs : Inlines = anchors_of (j ∷ ids) in
    ap (λ ys. joined ys y) (sym (appended-assoc xs (one_inline (anchor id)) zs))
    ∙ (joined-behind-anchors (appended xs (one_inline (anchor id))) j ids y
    ∙ ap (λ ys. appended ys (one_inline y)) (appended-assoc xs (one_inline (anchor id)) zs))

met-anchor : (x : Inline) (id : List ℕ) → met x (anchor id) ≡ inline x (one_inline (anchor id))
met-anchor (text s) id = refl
met-anchor (code s) id = refl
met-anchor (formatted f c) id = refl
met-anchor (link a t c) id = refl
met-anchor (image a t d) id = refl
met-anchor (anchor i) id = refl
met-anchor line_break id = refl
met-anchor (task d) id = refl

joined-anchor : (xs : Inlines) (id : List ℕ) → joined xs (anchor id) ≡ appended xs (one_inline (anchor id))
joined-anchor no_inlines id = refl
joined-anchor (inline x no_inlines) id = met-anchor x id
joined-anchor (inline x (inline y xs)) id = ap (inline x) (joined-anchor (inline y xs) id)

module _ (put : Inlines → Inlines) (around : List Around) (hole : IsHole put around) where
  pub anchored-here : (xs : Inlines) (more : List Around) (ids : List (List ℕ))
      → anchored (deep around 0) (put xs) (around ++ more) ids ≡ put (appended xs (anchors_of ids))
  anchored-here xs more [] = ap put (sym (appended-none xs))
  anchored-here xs more (id ∷ ids) =
      let n : ℕ = deep around 0 in
      ap (λ all. anchored n (behind n (put xs) all (anchor id)) (around ++ more) ids) (take-deep around more)
      ∙ (ap (λ ys. anchored n ys (around ++ more) ids) (hole-here in_blocks [] put around hole xs (anchor id)
      ∙ ap put (joined-anchor xs id))
      ∙ (anchored-here (appended xs (one_inline (anchor id))) more ids
      ∙ ap put (appended-assoc xs (one_inline (anchor id)) (anchors_of ids))))

  -- the anchors and the leaf, in what is shared
  pub leaf-behind : (xs : Inlines) (more : List Around) (id : List ℕ) (ids : List (List ℕ)) (y : Inline)
      → behind (deep around 0) (anchored (deep around 0) (put xs) (around ++ more) (id ∷ ids)) (around ++ more) y
      ≡ put (appended (appended xs (anchors_of (id ∷ ids))) (one_inline (wrapped more y)))
  leaf-behind xs more id ids y =
      ap (λ ys. behind (deep around 0) ys (around ++ more) y) (anchored-here xs more (id ∷ ids))
      ∙ (hole 0 (appended xs (anchors_of (id ∷ ids))) more y
      ∙ ap put (joined-behind-anchors xs id ids (wrapped more y)))

module _ (flat : Mode) (done : List Block) (put : Inlines → Inlines) (around : List Around)
    (hole : IsHole put around) where
  abbrev behind_anchors_at : Inlines → List Wrapper → Bool → Gap → List (List ℕ) → Writing
  behind_anchors_at xs ms k gap ids = record (in_line flat done (put xs) ms k gap) { anchors = ids }

  -- where the gap is zs
  leaf-waiting : (gap : Gap) (xs zs : Inlines) (inner : List Wrapper) (k : Bool) (id : List ℕ) (ids : List (List ℕ))
      (c : Bool) (more : List Around) (y : Inline) → list_any is_link around ≡ false
      → shared inner (map wrapper_of more) ≡ 0
      → (shared (map wrapper_of around ++ before_link inner) (map wrapper_of (around ++ more)) ≡ deep around 0
      → gap_before (behind_anchors_at xs (map wrapper_of around ++ before_link inner) k gap (id ∷ ids))
      (around ++ more) c ≡ put zs)
      → after_leaf (waiting (after flat done put around hole xs inner k gap) (id ∷ ids)) (around ++ more) c y
      ≡ in_line flat done (put (appended (appended zs (anchors_of (id ∷ ids))) (one_inline (wrapped more y))))
      (map wrapper_of (around ++ more)) c no_gap
  leaf-waiting gap xs zs inner k id ids c more y free h before =
      let all : List Around = around ++ more in
      let out : List Wrapper = map wrapper_of around ++ before_link inner in
      let n : ℕ = shared out (map wrapper_of all) in
      let e : n ≡ deep around 0 =
      ap (shared out) (map-both flat done put around hole around more)
      ∙ (shared-deep around (before_link inner) (map wrapper_of more)
      ∙ ap (deep around) (outside-shared inner (map wrapper_of more) h)) in
      ap (λ ms. after_leaf (behind_anchors_at xs ms k gap (id ∷ ids)) all c y) (outside-around around inner free)
      ∙ (whole flat k
      ∙ ap (λ x. in_line flat done x (map wrapper_of all) c no_gap)
      (ap (λ m. behind m (anchored m (gap_before (behind_anchors_at xs out k gap (id ∷ ids)) all c) all (id ∷ ids))
      all y) e
      ∙ (ap (λ x. behind (deep around 0) (anchored (deep around 0) x all (id ∷ ids)) all y) (before e)
      ∙ leaf-behind put around hole zs more id ids y)))
    where
      whole : (flat' : Mode) (k' : Bool)
          → after_leaf (record (in_line flat' done (put xs) (map wrapper_of around ++ before_link inner) k' gap)
          { anchors = id ∷ ids }) (around ++ more) c y
          ≡ in_line flat' done
          (behind (shared (map wrapper_of around ++ before_link inner) (map wrapper_of (around ++ more)))
          (anchored (shared (map wrapper_of around ++ before_link inner) (map wrapper_of (around ++ more)))
          (gap_before (record (in_line flat' done (put xs) (map wrapper_of around ++ before_link inner) k' gap)
          { anchors = id ∷ ids }) (around ++ more) c) (around ++ more) (id ∷ ids))
          (around ++ more) y)
          (map wrapper_of (around ++ more)) c no_gap
      whole in_blocks true = refl
      whole in_blocks false = refl
      whole in_item true = refl
      whole in_item false = refl
      whole one_line true = refl
      whole one_line false = refl

  -- behind a text, or what stands by itself
  pub leaf-after-places : (xs : Inlines) (inner : List Wrapper) (k : Bool) (g : List ℕ) (id : List ℕ)
      (ids : List (List ℕ)) (c : Bool) (more : List Around) (y : Inline) → list_any is_link around ≡ false
      → shared inner (map wrapper_of more) ≡ 0
      → after_leaf (fed_all (after flat done put around hole xs inner k (gap_of false g)) (places (id ∷ ids)))
      (around ++ more) c y
      ≡ in_line flat done
      (put (appended (appended (spaced false xs g) (anchors_of (id ∷ ids))) (one_inline (wrapped more y))))
      (map wrapper_of (around ++ more)) c no_gap
  leaf-after-places xs inner k g id ids c more y free h =
      let w : Writing = after flat done put around hole xs inner k (gap_of false g) in
      ap (λ v. after_leaf v (around ++ more) c y) (places-fed w id ids (unparted w refl) refl)
      ∙ leaf-waiting (gap_of false g) xs (spaced false xs g) inner k id ids c more y free h
      (λ e. white g k c e)
    where
      white : (g' : List ℕ) (k' c' : Bool)
          → shared (map wrapper_of around ++ before_link inner) (map wrapper_of (around ++ more)) ≡ deep around 0
          → gap_before (behind_anchors_at xs (map wrapper_of around ++ before_link inner) k' (gap_of false g')
          (id ∷ ids)) (around ++ more) c' ≡ put (spaced false xs g')
      white [] k' c' e = refl
      white (b ∷ g') true true e =
          rw e (ap (λ all. behind (deep around 0) (put xs) all (text (b ∷ g'))) (take-deep around more)
          ∙ hole-here flat done put around hole xs (text (b ∷ g')))
      white (b ∷ g') true false e =
          rw e (ap (λ all. behind (deep around 0) (put xs) all (text (b ∷ g'))) (take-deep around more)
          ∙ hole-here flat done put around hole xs (text (b ∷ g')))
      white (b ∷ g') false true e =
          rw e (ap (λ all. behind (deep around 0) (put xs) all (text (b ∷ g'))) (take-deep around more)
          ∙ hole-here flat done put around hole xs (text (b ∷ g')))
      white (b ∷ g') false false e =
          rw e (ap (λ all. behind (deep around 0) (put xs) all (text (b ∷ g'))) (take-deep around more)
          ∙ hole-here flat done put around hole xs (text (b ∷ g')))

  -- behind a break
  pub leaf-past-break-places : (ended : Bool) (xs : Inlines) (inner : List Wrapper) (k : Bool) (id : List ℕ)
      (ids : List (List ℕ)) (c : Bool) (more : List Around) (y : Inline) → list_any is_link around ≡ false
      → shared inner (map wrapper_of more) ≡ 0
      → after_leaf (fed_all (past_break flat done put around hole ended xs inner k) (places (id ∷ ids)))
      (around ++ more) c y
      ≡ in_line flat done
      (put (appended (appended (joined xs line_break) (anchors_of (id ∷ ids))) (one_inline (wrapped more y))))
      (map wrapper_of (around ++ more)) c no_gap
  leaf-past-break-places ended xs inner k id ids c more y free h =
      let w : Writing = past_break flat done put around hole ended xs inner k in
      ap (λ v. after_leaf v (around ++ more) c y) (places-fed w id ids (unparted w refl) refl)
      ∙ leaf-waiting (gap_past flat done put around hole ended) xs (joined xs line_break) inner k id ids c more y free
      h
      (λ e. broken ended e)
    where
      broken : (ended' : Bool)
          → shared (map wrapper_of around ++ before_link inner) (map wrapper_of (around ++ more)) ≡ deep around 0
          → gap_before (behind_anchors_at xs (map wrapper_of around ++ before_link inner) k
          (gap_past flat done put around hole ended') (id ∷ ids)) (around ++ more) c ≡ put (joined xs line_break)
      broken true e =
          rw e (ap (λ all. behind (deep around 0) (put xs) all line_break) (take-deep around more)
          ∙ hole-here flat done put around hole xs line_break)
      broken false e =
          rw e (ap (λ all. behind (deep around 0) (put xs) all line_break) (take-deep around more)
          ∙ hole-here flat done put around hole xs line_break)
