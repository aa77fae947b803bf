-- What shows stands in the same links when anchors come in, and when links end after their first pieces.
use Rattle.std.proofs.Common.{◌≡◌, ℕ, Bool, true, false, cond, not, ◌&&◌, List, [], ◌∷◌, ◌++◌, refl, sym, ap, ◌∙◌}
use Rattle.std.proofs.Common.{subst, Option, None}
use Rattle.std.specs.Prelude.{nat_lt}
use Rattle.std.specs.List.{list_any}
use Rattle.std.proofs.lemmas.List.{append-nil}
use Rattle.htmd_lexical.specs.AttributePairs.{AttributePair}
use Rattle.htmd_shown.specs.declared.facts.Facts.{Facts}
use Rattle.htmd_shown.specs.declared.role.Role.{Role}
use Rattle.htmd_shown.specs.declared.role.Role.TheVariants as role
use Rattle.htmd_shown.specs.AllTexts.{all_text, all_text_among, text_in, with_line_feeds}
use Rattle.htmd_shown.specs.Kinds.{has}
use Rattle.htmd_shown.specs.Marks.{is_usual_sign, letters_among}
use Rattle.htmd_shown.specs.Pieces.{Pieces, no_pieces, is_leaf, is_unseen, after_leaf, at_edge, pieces_after}
use Rattle.htmd_shown.specs.Roles.{is_caption, is_link, is_line_break, is_verbatim}
use Rattle.htmd_shown.specs.Shown.{followed_by}
use Rattle.htmd_shown.specs.Showings.{image_shows, code_shows}
use Rattle.htmd_shown.specs.SimpleTrees.{Simple, text, image, formula, embedded, anchor, element, Simples, none, more}
use Rattle.htmd_shown.specs.Spaces.{is_blank_text}
use Rattle.htmd_document_of_tree.specs.declared.anchors.Anchors.{Anchors}
use Rattle.htmd_document_of_tree.specs.declared.leadings.Layout.{Layout}
use Rattle.htmd_document_of_tree.specs.declared.leadings.Layout.TheVariants as layout
use Rattle.htmd_document_of_tree.specs.Anchors.{anchors, apart, before, stands_apart, is_embedded, with_ids}
use Rattle.htmd_document_of_tree.specs.Anchors.{after_anchors, Placing, ids_up_to, placed_before, placing_after}
use Rattle.htmd_document_of_tree.specs.Anchors.{placing_after_all, placed, all_placed, values_of, last_anchors, targets_by}
use Rattle.htmd_document_of_tree.specs.Anchors.{anchored}
use Rattle.htmd_document_of_tree.specs.FirstPieces.{most_linked, unlinked, cut_leaf, cut, cut_all, pieced, pieced_all}
use Rattle.htmd_document_of_tree.specs.Leadings.{is_flat, layout_in}
use Rattle.htmd_document_of_tree.specs.Targets.{Target}
use Rattle.htmd_flow.specs.Flows.{is_grid_of}
use Rattle.htmd_law_documents.proofs.ElementLemmas.{false-true, true-false}
use Rattle.htmd_law_anchors.proofs.LetterKeptLemmas.{all-placed-letters, all-cut-letters, all-pieced-letters}
use Rattle.htmd_law_anchors.proofs.LinkAroundLemmas.{to_part, title_link, link_in}
use Rattle.htmd_law_anchors.proofs.LinkTreeLemmas.{code_gives, Unless, Holds, Within, AllWithin}
use Rattle.htmd_law_anchors.proofs.TruthLemmas.{and-false}

-- ---- where a node stands

layout-same : (rich flat : Bool) (r : Role) (ts us : Simples) → is_grid_of ts ≡ is_grid_of us
    → layout_in rich flat r ts ≡ layout_in rich flat r us
layout-same rich true r ts us e = refl
layout-same rich false role.Table ts us e = ap (λ b. cond (not rich && b) layout.Cells layout.Blocks) e
layout-same rich false r ts us e = refl

title-same : (rich flat : Bool) (ts us : Simples) (link : Option (List ℕ)) → letters_among ts ≡ letters_among us
    → title_link rich flat ts link ≡ title_link rich flat us link
title-same rich flat ts us link e =
    ap (λ s. cond (rich && not flat && to_part link && list_any is_usual_sign s) None link) e

link-same : (rich flat : Bool) (r : Role) (facts : Facts) (attributes : List AttributePair) (ts us : Simples)
    (link : Option (List ℕ)) → letters_among ts ≡ letters_among us
    → link_in rich flat r facts attributes ts link ≡ link_in rich flat r facts attributes us link
link-same rich flat role.Term facts attributes ts us link e = title-same rich flat ts us link e
link-same rich flat role.Caption facts attributes ts us link e = title-same rich flat ts us link e
link-same rich flat role.FigureCaption facts attributes ts us link e = title-same rich flat ts us link e
link-same rich flat role.Summary facts attributes ts us link e = title-same rich flat ts us link e
link-same rich flat r facts attributes ts us link e = refl

flat-same : (beside : Layout) (t u : Simple) → has is_caption t ≡ has is_caption u
    → is_flat beside t ≡ is_flat beside u
flat-same layout.Blocks t u e = refl
flat-same layout.OneLine t u e = refl
flat-same layout.Cells t u e = ap not e

verbatim-no_caption : (r : Role) → is_verbatim r ≡ true → is_caption r ≡ false
verbatim-no_caption role.Preformatted e = refl
verbatim-no_caption role.Verbatim e = refl
verbatim-no_caption r e = false-true e

-- ---- all text stays

both-texts : (t u : Simple) (ts us : Simples) → all_text t ≡ all_text u → all_text_among ts ≡ all_text_among us
    → all_text t ++ all_text_among ts ≡ all_text u ++ all_text_among us
both-texts t u ts us e f = ap (λ s. s ++ all_text_among ts) e ∙ ap (λ s. all_text u ++ s) f

leaf-text : (p : Pieces) (t : Simple) → all_text (cut_leaf p t) ≡ all_text t
leaf-text p t = either (not (is_unseen t) && nat_lt most_linked (after_leaf p t).count)
  where
    either : (b : Bool) → all_text (cond b (unlinked t) t) ≡ all_text t
    either true = append-nil (all_text t)
    either false = refl

mutual
  cut-text : (p : Pieces) (t : Simple) → all_text (cut p t) ≡ all_text t
  cut-text p (text s) = leaf-text p (text s)
  cut-text p (image o attributes) = leaf-text p (image o attributes)
  cut-text p (formula tex is_alone attributes) = leaf-text p (formula tex is_alone attributes)
  cut-text p (embedded id place title attributes ids) = leaf-text p (embedded id place title attributes ids)
  cut-text p (anchor id) = refl
  cut-text p (element id r facts attributes content) =
      either (is_verbatim r) (is_line_break r) (all-cut-text (at_edge r p) content)
    where
      t : Simple
      t = element id r facts attributes content

      either : (b d : Bool) → all_text_among (cut_all (at_edge r p) content) ≡ all_text_among content
          → all_text (cond b (cut_leaf p t) (element id r facts attributes
          (cond d content (cut_all (at_edge r p) content)))) ≡ all_text t
      either true d e = leaf-text p t
      either false true e = refl
      either false false e = ap (text_in r) e

  all-cut-text : (p : Pieces) (ts : Simples) → all_text_among (cut_all p ts) ≡ all_text_among ts
  all-cut-text p none = refl
  all-cut-text p (more t ts) =
      both-texts (cut p t) t (cut_all (pieces_after p t) ts) ts (cut-text p t) (all-cut-text (pieces_after p t) ts)

mutual
  pieced-text : (t : Simple) → all_text (pieced t) ≡ all_text t
  pieced-text (text s) = refl
  pieced-text (image o attributes) = refl
  pieced-text (formula tex is_alone attributes) = refl
  pieced-text (embedded id place title attributes ids) = refl
  pieced-text (anchor id) = refl
  pieced-text (element id r facts attributes content) =
      ap (text_in r) (either (is_link r) (all-pieced-text content))
    where
      either : (b : Bool) → all_text_among (pieced_all content) ≡ all_text_among content
          → all_text_among (cond b (cut_all no_pieces content) (pieced_all content)) ≡ all_text_among content
      either true e = all-cut-text no_pieces content
      either false e = e

  pub all-pieced-text : (ts : Simples) → all_text_among (pieced_all ts) ≡ all_text_among ts
  all-pieced-text none = refl
  all-pieced-text (more t ts) =
      both-texts (pieced t) t (pieced_all ts) ts (pieced-text t) (all-pieced-text ts)

-- ---- with anchors

abbrev mutual
  -- tables are of rows and columns just as they are with anchors
  pub GridsPlaced : Placing → Simple → Type 0
  GridsPlaced p (text s) = Unit {0}
  GridsPlaced p (image address attributes) = Unit {0}
  GridsPlaced p (formula tex is_alone attributes) = Unit {0}
  GridsPlaced p (embedded id address title attributes found) = Unit {0}
  GridsPlaced p (anchor id) = Unit {0}
  GridsPlaced p (element id r facts attributes content) =
      (is_grid_of content ≡ is_grid_of (all_placed p content)) × AllGridsPlaced p content

  pub AllGridsPlaced : Placing → Simples → Type 0
  AllGridsPlaced p none = Unit {0}
  AllGridsPlaced p (more t ts) = GridsPlaced p t × AllGridsPlaced (placing_after p t) ts

-- what is in an element, changed but for its letters and its tables
content-kept : (Is : List ℕ → Type 0) (rich flat : Bool) (r : Role) (facts : Facts)
    (attributes : List AttributePair) (content us : Simples) (link : Option (List ℕ))
    → layout_in rich flat r content ≡ layout_in rich flat r us → letters_among us ≡ letters_among content
    → AllWithin Is rich (link_in rich flat r facts attributes content link) (layout_in rich flat r content) us
    → AllWithin Is rich (link_in rich flat r facts attributes us link) (layout_in rich flat r us) us
content-kept Is rich flat r facts attributes content us link e f h =
    subst (λ (l : Option (List ℕ)). AllWithin Is rich l (layout_in rich flat r us) us)
    (sym (link-same rich flat r facts attributes us content link f))
    (subst (λ (beside : Layout). AllWithin Is rich (link_in rich flat r facts attributes content link) beside us) e h)

module _ (Is : List ℕ → Type 0) (rich : Bool) where
  followed-within : (link : Option (List ℕ)) (beside : Layout) (ts us : Simples) → AllWithin Is rich link beside ts
      → AllWithin Is rich link beside us → AllWithin Is rich link beside (followed_by ts us)
  followed-within link beside none us g h = h
  followed-within link beside (more t ts) us g h = (g.0, followed-within link beside ts us g.1 h)

  anchors-within : (link : Option (List ℕ)) (beside : Layout) (ids : List (List ℕ))
      → AllWithin Is rich link beside (anchors ids)
  anchors-within link beside [] = tt
  anchors-within link beside (id ∷ ids) = (tt, anchors-within link beside ids)

  found-within : (link : Option (List ℕ)) (beside : Layout) (ids : List (List ℕ)) (b : Bool)
      → AllWithin Is rich link beside (cond b (more (apart (anchors ids)) none) (anchors ids))
  found-within link beside ids true = (anchors-within link _ ids, tt)
  found-within link beside ids false = anchors-within link beside ids

  -- a leaf after anchors
  before-within : (link : Option (List ℕ)) (flat : Bool) (found : Simples) (t : Simple)
      → ((beside : Layout) → AllWithin Is rich link beside found) → Within Is rich link flat t
      → Within Is rich link flat (before found t)
  before-within link true found t g h =
      followed-within link layout.OneLine found (more t none) (g layout.OneLine) (h, tt)
  before-within link false found t g h =
      subst (λ (b : Bool). AllWithin Is rich link (cond b layout.Cells layout.Blocks)
      (followed_by found (more t none)))
      (sym (and-false (not rich))) (followed-within link layout.Blocks found (more t none) (g layout.Blocks) (h, tt))

  after-within : (link : Option (List ℕ)) (flat : Bool) (ids : List (List ℕ)) (t : Simple)
      → Within Is rich link flat t
      → Within Is rich link flat (after_anchors ids t)
  after-within link flat [] t h = h
  after-within link flat (id ∷ ids) t h =
      before-within link flat (cond (stands_apart t) (more (apart (anchors (id ∷ ids))) none) (anchors (id ∷ ids)))
      t
      (λ beside. found-within link beside (id ∷ ids) (stands_apart t)) h

  ids-within : (link : Option (List ℕ)) (flat : Bool) (ids : List (List ℕ)) (t : Simple)
      → Within Is rich link flat t
      → Within Is rich link flat (with_ids ids t)
  ids-within link flat ids (embedded id address title attributes found) h = h
  ids-within link flat ids t h = h

  leaf-within : (link : Option (List ℕ)) (flat b : Bool) (p : Placing) (t : Simple) → Within Is rich link flat t
      → Within Is rich link flat (placed_before p b t)
  leaf-within link flat false p t h = h
  leaf-within link flat true p t h = either (is_embedded t)
    where
      ids : List (List ℕ)
      ids = ids_up_to p.seen p.targets

      either : (b : Bool) → Within Is rich link flat (cond b (with_ids ids t) (after_anchors ids t))
      either true = ids-within link flat ids t h
      either false = after-within link flat ids t h

  leaf-caption : (b : Bool) (p : Placing) (t : Simple) → has is_caption t ≡ false
      → has is_caption t ≡ has is_caption (placed_before p b t)
  leaf-caption false p t e = refl
  leaf-caption true p t e = either (is_embedded t)
    where
      ids : List (List ℕ)
      ids = ids_up_to p.seen p.targets

      with-ids : (t : Simple) → has is_caption t ≡ has is_caption (with_ids ids t)
      with-ids (embedded id address title attributes found) = refl
      with-ids t = refl

      with-anchors : (ids : List (List ℕ)) → has is_caption t ≡ has is_caption (after_anchors ids t)
      with-anchors [] = refl
      with-anchors (id ∷ ids) = e

      either : (b : Bool) → has is_caption t ≡ has is_caption (cond b (with_ids ids t) (after_anchors ids t))
      either true = with-ids t
      either false = with-anchors ids

  caption-placed : (p : Placing) (t : Simple) → has is_caption t ≡ has is_caption (placed p t)
  caption-placed p (text s) = leaf-caption (not (is_blank_text s)) p (text s) refl
  caption-placed p (image address attributes) =
      leaf-caption (image_shows address attributes) p (image address attributes) refl
  caption-placed p (formula tex is_alone attributes) = leaf-caption true p (formula tex is_alone attributes) refl
  caption-placed p (embedded id address title attributes found) =
      leaf-caption true p (embedded id address title attributes found) refl
  caption-placed p (anchor id) = refl
  caption-placed p (element id r facts attributes content) = either (is_verbatim r) refl
    where
      t : Simple
      t = element id r facts attributes content

      either : (b : Bool) → is_verbatim r ≡ b → has is_caption t
          ≡ has is_caption (cond b (placed_before p (code_shows content) t)
          (element id r facts attributes (all_placed p content)))
      either true e = leaf-caption (code_shows content) p t (verbatim-no_caption r e)
      either false e = refl

  mutual
    within-placed : (t : Simple) (p : Placing) (link : Option (List ℕ)) (flat : Bool) → GridsPlaced p t
        → Within Is rich link flat t → Within Is rich link flat (placed p t)
    within-placed (text s) p link flat g h = leaf-within link flat (not (is_blank_text s)) p (text s) h
    within-placed (image address attributes) p link flat g h =
        leaf-within link flat (image_shows address attributes) p (image address attributes) h
    within-placed (formula tex is_alone attributes) p link flat g h =
        leaf-within link flat true p (formula tex is_alone attributes) h
    within-placed (embedded id address title attributes found) p link flat g h =
        leaf-within link flat true p (embedded id address title attributes found) h
    within-placed (anchor id) p link flat g h = tt
    within-placed (element id r facts attributes content) p link flat g h =
        either (is_verbatim r) refl h (λ k beside x. all-within-placed content p k beside g.1 x)
      where
        t : Simple
        t = element id r facts attributes content

        inner : Option (List ℕ)
        inner = link_in rich flat r facts attributes content link

        either : (b : Bool) → is_verbatim r ≡ b
            → Unless b ((flat && code_gives content) ≡ true → Holds Is rich link)
            (AllWithin Is rich inner (layout_in rich flat r content) content)
            → ((k : Option (List ℕ)) (beside : Layout) → AllWithin Is rich k beside content
            → AllWithin Is rich k beside (all_placed p content))
            → Within Is rich link flat (cond b (placed_before p (code_shows content) t)
            (element id r facts attributes (all_placed p content)))
        either true e x next =
            leaf-within link flat (code_shows content) p t
            (subst (λ (b : Bool). Unless b ((flat && code_gives content) ≡ true → Holds Is rich link)
            (AllWithin Is rich inner (layout_in rich flat r content) content)) (sym e) x)
        either false e x next =
            subst (λ (b : Bool). Unless b ((flat && code_gives (all_placed p content)) ≡ true → Holds Is rich link)
            (AllWithin Is rich (link_in rich flat r facts attributes (all_placed p content) link)
            (layout_in rich flat r (all_placed p content)) (all_placed p content))) (sym e)
            (content-kept Is rich flat r facts attributes content (all_placed p content) link
            (layout-same rich flat r content (all_placed p content) g.0) (all-placed-letters p content)
            (next inner (layout_in rich flat r content) x))

    all-within-placed : (ts : Simples) (p : Placing) (link : Option (List ℕ)) (beside : Layout)
        → AllGridsPlaced p ts → AllWithin Is rich link beside ts → AllWithin Is rich link beside (all_placed p ts)
    all-within-placed none p link beside g h = tt
    all-within-placed (more t ts) p link beside g h = (
      subst (λ (b : Bool). Within Is rich link b (placed p t)) (flat-same beside t (placed p t) (caption-placed p t))
          (within-placed t p link (is_flat beside t) g.0 h.0),
      all-within-placed ts (placing_after p t) link beside g.1 h.1,
    )

  last-within : (targets : List Target) → AllWithin Is rich None layout.Blocks (last_anchors targets)
  last-within [] = tt
  last-within (t ∷ targets) = (anchors-within None _ (values_of (t ∷ targets)), tt)

  pub anchored-within : (which : Anchors) (ts : Simples)
      → AllGridsPlaced (record { seen = 0; targets = targets_by which rich ts }) ts
      → AllWithin Is rich None layout.Blocks ts → AllWithin Is rich None layout.Blocks (anchored which rich ts)
  anchored-within which ts g h =
      let p : Placing = record { seen = 0; targets = targets_by which rich ts } in
      followed-within None layout.Blocks (all_placed p ts) (last_anchors (placing_after_all p ts).targets)
      (all-within-placed ts p None layout.Blocks g h) (last-within (placing_after_all p ts).targets)

-- ---- the first pieces

abbrev mutual
  pub GridsCut : Pieces → Simple → Type 0
  GridsCut p (text s) = Unit {0}
  GridsCut p (image address attributes) = Unit {0}
  GridsCut p (formula tex is_alone attributes) = Unit {0}
  GridsCut p (embedded id address title attributes found) = Unit {0}
  GridsCut p (anchor id) = Unit {0}
  GridsCut p (element id r facts attributes content) =
      (is_grid_of content ≡ is_grid_of (cut_all (at_edge r p) content)) × AllGridsCut (at_edge r p) content

  pub AllGridsCut : Pieces → Simples → Type 0
  AllGridsCut p none = Unit {0}
  AllGridsCut p (more t ts) = GridsCut p t × AllGridsCut (pieces_after p t) ts

abbrev mutual
  -- tables are of rows and columns just as they are where links end after their first pieces
  pub GridsPieced : Simple → Type 0
  GridsPieced (text s) = Unit {0}
  GridsPieced (image address attributes) = Unit {0}
  GridsPieced (formula tex is_alone attributes) = Unit {0}
  GridsPieced (embedded id address title attributes found) = Unit {0}
  GridsPieced (anchor id) = Unit {0}
  GridsPieced (element id r facts attributes content) =
      (is_grid_of content ≡ is_grid_of (pieced_all content)) × AllGridsPieced content
      × AllGridsCut no_pieces content

  pub AllGridsPieced : Simples → Type 0
  AllGridsPieced none = Unit {0}
  AllGridsPieced (more t ts) = GridsPieced t × AllGridsPieced ts

module _ (Is : List ℕ → Type 0) (rich : Bool) where
  -- a leaf that isn't in the link
  free-leaf : (link : Option (List ℕ)) (flat : Bool) (t : Simple) → is_leaf t ≡ true
      → Within Is rich link flat t
      → Within Is rich None flat t
  free-leaf link flat (text s) e h = λ b. tt
  free-leaf link flat (image address attributes) e h = λ b. tt
  free-leaf link flat (formula tex is_alone attributes) e h = λ b. tt
  free-leaf link flat (embedded id address title attributes found) e h = (tt, h.1)
  free-leaf link flat (anchor id) e h = tt
  free-leaf link flat (element id role.Preformatted facts attributes content) e h = λ b. tt
  free-leaf link flat (element id role.Verbatim facts attributes content) e h = λ b. tt
  free-leaf link flat (element id r facts attributes content) e h = false-true e

  unlinked-within : (link : Option (List ℕ)) (flat : Bool) (t : Simple) → Within Is rich None flat t
      → Within Is rich link flat (unlinked t)
  unlinked-within link true t h = (h, tt)
  unlinked-within link false t h =
      subst (λ (b : Bool). AllWithin Is rich None (cond b layout.Cells layout.Blocks) (more t none))
      (sym (and-false (not rich))) (h, tt)

  cut-leaf-within : (link : Option (List ℕ)) (flat : Bool) (p : Pieces) (t : Simple) → is_leaf t ≡ true
      → Within Is rich link flat t → Within Is rich link flat (cut_leaf p t)
  cut-leaf-within link flat p t e h = either (not (is_unseen t) && nat_lt most_linked (after_leaf p t).count)
    where
      either : (b : Bool) → Within Is rich link flat (cond b (unlinked t) t)
      either true = unlinked-within link flat t (free-leaf link flat t e h)
      either false = h

  cut-caption : (p : Pieces) (t : Simple) → has is_caption t ≡ has is_caption (cut p t)
  cut-caption p (text s) = leaf (not (is_unseen (text s)) && nat_lt most_linked (after_leaf p (text s)).count)
    where
      leaf : (b : Bool) → false ≡ has is_caption (cond b (unlinked (text s)) (text s))
      leaf true = refl
      leaf false = refl
  cut-caption p (image address attributes) =
      leaf (not (is_unseen t) && nat_lt most_linked (after_leaf p t).count)
    where
      t : Simple
      t = image address attributes

      leaf : (b : Bool) → false ≡ has is_caption (cond b (unlinked t) t)
      leaf true = refl
      leaf false = refl
  cut-caption p (formula tex is_alone attributes) =
      leaf (not (is_unseen t) && nat_lt most_linked (after_leaf p t).count)
    where
      t : Simple
      t = formula tex is_alone attributes

      leaf : (b : Bool) → false ≡ has is_caption (cond b (unlinked t) t)
      leaf true = refl
      leaf false = refl
  cut-caption p (embedded id address title attributes found) =
      leaf (not (is_unseen t) && nat_lt most_linked (after_leaf p t).count)
    where
      t : Simple
      t = embedded id address title attributes found

      leaf : (b : Bool) → false ≡ has is_caption (cond b (unlinked t) t)
      leaf true = refl
      leaf false = refl
  cut-caption p (anchor id) = refl
  cut-caption p (element id r facts attributes content) = either (is_verbatim r) refl
    where
      t : Simple
      t = element id r facts attributes content

      leaf : (b : Bool) → is_verbatim r ≡ true → has is_caption t ≡ has is_caption (cond b (unlinked t) t)
      leaf true e = verbatim-no_caption r e
      leaf false e = refl

      either : (b : Bool) → is_verbatim r ≡ b → has is_caption t
          ≡ has is_caption (cond b (cut_leaf p t) (element id r facts attributes
          (cond (is_line_break r) content (cut_all (at_edge r p) content))))
      either true e = leaf (not (is_unseen t) && nat_lt most_linked (after_leaf p t).count) e
      either false e = refl

  mutual
    within-cut : (t : Simple) (p : Pieces) (link : Option (List ℕ)) (flat : Bool) → GridsCut p t
        → Within Is rich link flat t → Within Is rich link flat (cut p t)
    within-cut (text s) p link flat g h = cut-leaf-within link flat p (text s) refl h
    within-cut (image address attributes) p link flat g h =
        cut-leaf-within link flat p (image address attributes) refl h
    within-cut (formula tex is_alone attributes) p link flat g h =
        cut-leaf-within link flat p (formula tex is_alone attributes) refl h
    within-cut (embedded id address title attributes found) p link flat g h =
        cut-leaf-within link flat p (embedded id address title attributes found) refl h
    within-cut (anchor id) p link flat g h = tt
    within-cut (element id r facts attributes content) p link flat g h =
        either (is_verbatim r) (is_line_break r) refl h
        (λ k beside x. all-within-cut content (at_edge r p) k beside g.1 x)
      where
        t : Simple
        t = element id r facts attributes content

        inner : Option (List ℕ)
        inner = link_in rich flat r facts attributes content link

        either : (b d : Bool) → is_verbatim r ≡ b
            → Unless b ((flat && code_gives content) ≡ true → Holds Is rich link)
            (AllWithin Is rich inner (layout_in rich flat r content) content)
            → ((k : Option (List ℕ)) (beside : Layout) → AllWithin Is rich k beside content
            → AllWithin Is rich k beside (cut_all (at_edge r p) content))
            → Within Is rich link flat (cond b (cut_leaf p t)
            (element id r facts attributes (cond d content (cut_all (at_edge r p) content))))
        either true d e x next =
            cut-leaf-within link flat p t e
            (subst (λ (b : Bool). Unless b ((flat && code_gives content) ≡ true → Holds Is rich link)
            (AllWithin Is rich inner (layout_in rich flat r content) content)) (sym e) x)
        either false true e x next =
            subst (λ (b : Bool). Unless b ((flat && code_gives content) ≡ true → Holds Is rich link)
            (AllWithin Is rich inner (layout_in rich flat r content) content)) (sym e) x
        either false false e x next =
            subst (λ (b : Bool). Unless b ((flat && code_gives (cut_all (at_edge r p) content)) ≡ true
            → Holds Is rich link)
            (AllWithin Is rich (link_in rich flat r facts attributes (cut_all (at_edge r p) content) link)
            (layout_in rich flat r (cut_all (at_edge r p) content)) (cut_all (at_edge r p) content))) (sym e)
            (content-kept Is rich flat r facts attributes content (cut_all (at_edge r p) content) link
            (layout-same rich flat r content (cut_all (at_edge r p) content) g.0)
            (all-cut-letters (at_edge r p) content) (next inner (layout_in rich flat r content) x))

    all-within-cut : (ts : Simples) (p : Pieces) (link : Option (List ℕ)) (beside : Layout)
        → AllGridsCut p ts → AllWithin Is rich link beside ts → AllWithin Is rich link beside (cut_all p ts)
    all-within-cut none p link beside g h = tt
    all-within-cut (more t ts) p link beside g h = (
      subst (λ (b : Bool). Within Is rich link b (cut p t)) (flat-same beside t (cut p t) (cut-caption p t))
          (within-cut t p link (is_flat beside t) g.0 h.0),
      all-within-cut ts (pieces_after p t) link beside g.1 h.1,
    )

  pieced-caption : (t : Simple) → has is_caption t ≡ has is_caption (pieced t)
  pieced-caption (text s) = refl
  pieced-caption (image address attributes) = refl
  pieced-caption (formula tex is_alone attributes) = refl
  pieced-caption (embedded id address title attributes found) = refl
  pieced-caption (anchor id) = refl
  pieced-caption (element id r facts attributes content) = refl

  verbatim-no_link : (r : Role) → is_verbatim r ≡ true → is_link r ≡ false
  verbatim-no_link role.Preformatted e = refl
  verbatim-no_link role.Verbatim e = refl
  verbatim-no_link r e = false-true e

  link-layout : (flat : Bool) (r : Role) (ts us : Simples) → is_link r ≡ true
      → layout_in rich flat r ts ≡ layout_in rich flat r us
  link-layout true r ts us e = refl
  link-layout false role.Link ts us e = refl
  link-layout false r ts us e = false-true e

  mutual
    within-pieced : (t : Simple) (link : Option (List ℕ)) (flat : Bool) → GridsPieced t
        → Within Is rich link flat t → Within Is rich link flat (pieced t)
    within-pieced (text s) link flat g h = h
    within-pieced (image address attributes) link flat g h = h
    within-pieced (formula tex is_alone attributes) link flat g h = h
    within-pieced (embedded id address title attributes found) link flat g h = h
    within-pieced (anchor id) link flat g h = tt
    within-pieced (element id r facts attributes content) link flat g h =
        either (is_verbatim r) (is_link r) refl refl h
        (λ k beside x. all-within-pieced content k beside g.1 x)
      where
        inner : Option (List ℕ)
        inner = link_in rich flat r facts attributes content link

        either : (b d : Bool) → is_verbatim r ≡ b → is_link r ≡ d
            → Unless b ((flat && code_gives content) ≡ true → Holds Is rich link)
            (AllWithin Is rich inner (layout_in rich flat r content) content)
            → ((k : Option (List ℕ)) (beside : Layout) → AllWithin Is rich k beside content
            → AllWithin Is rich k beside (pieced_all content))
            → Within Is rich link flat (element id r facts attributes
            (cond d (cut_all no_pieces content) (pieced_all content)))
        either true true e f x next = true-false (sym f ∙ verbatim-no_link r e)
        either true false e f x next =
            subst (λ (b : Bool). Unless b ((flat && code_gives (pieced_all content)) ≡ true → Holds Is rich link)
            (AllWithin Is rich (link_in rich flat r facts attributes (pieced_all content) link)
            (layout_in rich flat r (pieced_all content)) (pieced_all content))) (sym e)
            (λ k. x (ap (λ s. flat && not (is_blank_text (with_line_feeds s))) (sym (all-pieced-text content)) ∙ k))
        either false true e f x next =
            subst (λ (b : Bool). Unless b ((flat && code_gives (cut_all no_pieces content)) ≡ true
            → Holds Is rich link)
            (AllWithin Is rich (link_in rich flat r facts attributes (cut_all no_pieces content) link)
            (layout_in rich flat r (cut_all no_pieces content)) (cut_all no_pieces content))) (sym e)
            (content-kept Is rich flat r facts attributes content (cut_all no_pieces content) link
            (link-layout flat r content (cut_all no_pieces content) f) (all-cut-letters no_pieces content)
            (all-within-cut content no_pieces inner (layout_in rich flat r content) g.2 x))
        either false false e f x next =
            subst (λ (b : Bool). Unless b ((flat && code_gives (pieced_all content)) ≡ true → Holds Is rich link)
            (AllWithin Is rich (link_in rich flat r facts attributes (pieced_all content) link)
            (layout_in rich flat r (pieced_all content)) (pieced_all content))) (sym e)
            (content-kept Is rich flat r facts attributes content (pieced_all content) link
            (layout-same rich flat r content (pieced_all content) g.0) (all-pieced-letters content)
            (next inner (layout_in rich flat r content) x))

    pub all-within-pieced : (ts : Simples) (link : Option (List ℕ)) (beside : Layout) → AllGridsPieced ts
        → AllWithin Is rich link beside ts → AllWithin Is rich link beside (pieced_all ts)
    all-within-pieced none link beside g h = tt
    all-within-pieced (more t ts) link beside g h = (
      subst (λ (b : Bool). Within Is rich link b (pieced t)) (flat-same beside t (pieced t) (pieced-caption t))
          (within-pieced t link (is_flat beside t) g.0 h.0),
      all-within-pieced ts link beside g.1 h.1,
    )
