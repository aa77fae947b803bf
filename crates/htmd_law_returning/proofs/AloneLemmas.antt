-- Paragraphs of anchors alone: before a code block, and at the end.
use Rattle.std.proofs.Common.{◌≡◌, ℕ, Bool, true, false, List, [], ◌∷◌, ◌++◌, refl, sym, ap}
use Rattle.std.proofs.Common.{◌∙◌}
use Rattle.std.proofs.Common.{append_assoc}
use Rattle.std.proofs.lemmas.List.{append-nil}
use Rattle.std.proofs.lemmas.List.Sums.{fold-append}
use Rattle.htmd_lexical.specs.AttributePairs.{AttributePair}
use Rattle.htmd_document.specs.AnchorIds.{ids_of_line}
use Rattle.htmd_document.specs.Documents.{Inlines, no_inlines, inline, Block, paragraph}
use Rattle.htmd_document.specs.Documents as documents
use Rattle.htmd_document.specs.NormalInlines.{are_anchors}
use Rattle.htmd_document_of_tree.specs.Anchors.{anchors, put_before}
use Rattle.htmd_document_of_tree.specs.Anchors as placed
use Rattle.htmd_flow.specs.Contexts.{apart}
use Rattle.htmd_flow.specs.Flows.{node_of, nodes_of, flow_all}
use Rattle.htmd_flow.specs.Paragraphs.{Writing, fed, fed_all, paragraph_of}
use Rattle.htmd_flow.specs.Parts.{Part, edge, whole}
use Rattle.htmd_shown.specs.declared.facts.Facts.{Facts}
use Rattle.htmd_shown.specs.declared.role.Role.{Role}
use Rattle.htmd_shown.specs.declared.role.Role.TheVariants as role
use Rattle.htmd_shown.specs.SimpleTrees.{Simples, element, none, more}
use Rattle.htmd_document.specs.Documents.{blocks_of}
use Rattle.htmd_flow.specs.Flows as flow
use Rattle.htmd_flow.specs.Paragraphs.{blocks_in}
use Rattle.htmd_law_returning.proofs.LocalAnchors.{last_of}
use Rattle.htmd_law_returning.proofs.StartLemmas.{in_blocks}
use Rattle.htmd_law_returning.proofs.AnchorLeaves.{anchors_of, places, waiting, places-fed, unparted, anchored-here}
use Rattle.htmd_law_returning.proofs.BareLemmas.{followed-none}
use Rattle.htmd_law_returning.proofs.FlowAnchors.{anchors-flow}
use Rattle.htmd_law_returning.proofs.NestLemmas.{whole-hole}
use Rattle.htmd_law_returning.proofs.ReadyLemmas.{here, parts_of, no-box, IsReady, edge-fed, clean-ready, ready-flat}
use Rattle.htmd_law_returning.proofs.ReadyLemmas.{apart-fed}
use Rattle.htmd_law_returning.proofs.StartLemmas.{Mode, is_flat_mode, clean, false-true}

-- ---- what they are in a document

-- none where there are none
abbrev pub alone : List (List ℕ) → List Block
alone [] = []
alone (id ∷ ids) = paragraph (anchors_of (id ∷ ids)) ∷ []

pub line-of-anchors : (xs : Inlines) → are_anchors xs ≡ true → anchors_of (ids_of_line xs) ≡ xs
line-of-anchors no_inlines h = refl
line-of-anchors (inline (documents.text s) xs) h = false-true h
line-of-anchors (inline (documents.code s) xs) h = false-true h
line-of-anchors (inline (documents.formatted f c) xs) h = false-true h
line-of-anchors (inline (documents.link a t c) xs) h = false-true h
line-of-anchors (inline (documents.image a t d) xs) h = false-true h
line-of-anchors (inline (documents.anchor id) xs) h = ap (inline (documents.anchor id)) (line-of-anchors xs h)
line-of-anchors (inline documents.line_break xs) h = false-true h
line-of-anchors (inline (documents.task d) xs) h = false-true h

-- ---- what is written

waiting-ready : (mode : Mode) (done : List Block) (id : List ℕ) (ids : List (List ℕ))
    → is_flat_mode mode ≡ false
    → IsReady mode (waiting (clean mode done) (id ∷ ids)) (done ++ alone (id ∷ ids))
waiting-ready mode done id ids h = record {
  flat = h;
  boxed = no-box (waiting (clean mode done) (id ∷ ids)) refl;
  end = ap (λ ys. clean mode (done ++ paragraph_of ys))
      (anchored-here (λ ys. ys) [] whole-hole no_inlines [] (id ∷ ids));
}

-- anchors between edges
pub alone-fed : (mode : Mode) (w : Writing) (done : List Block) (id : List ℕ) (ids : List (List ℕ))
    → IsReady mode w done → fed_all w (apart (places (id ∷ ids))) ≡ clean mode (done ++ alone (id ∷ ids))
alone-fed mode w done id ids h =
    let free : is_flat_mode mode ≡ false = ready-flat mode w done h in
    fold-append fed (fed w edge) (places (id ∷ ids)) (edge ∷ [])
    ∙ (ap (λ v. fed (fed_all v (places (id ∷ ids))) edge) (edge-fed mode w done h)
    ∙ (ap (λ v. fed v edge) (places-fed (clean mode done) id ids (unparted (clean mode done) refl) refl)
    ∙ edge-fed mode (waiting (clean mode done) (id ∷ ids)) (done ++ alone (id ∷ ids))
    (waiting-ready mode done id ids free)))

-- ---- what trees of them give

module _ (is_rich : Bool) (n : ℕ) where
  -- in a paragraph of their own
  pub apart-parts : (ids : List (List ℕ)) (ts : Simples)
      → parts_of is_rich n (more (placed.apart (anchors ids)) ts) ≡ apart (places ids) ++ parts_of is_rich n ts
  unfolding node_of
  apart-parts ids ts =
      ap (λ us. apart (flow_all (nodes_of us) (here is_rich n)) ++ parts_of is_rich n ts)
      (sym (followed-none (anchors ids)))
      ∙ ap (λ ps. apart ps ++ parts_of is_rich n ts)
      (anchors-flow ids none (here is_rich n) ∙ append-nil (places ids))

  -- right before a block
  pub put-parts : (ids : List (List ℕ)) (id : ℕ) (r : Role) (facts : Facts) (attributes : List AttributePair)
      (content ts : Simples)
      → parts_of is_rich n (more (put_before (anchors ids) (element id r facts attributes content)) ts)
      ≡ (apart (places ids) ++ parts_of is_rich n (more (element id r facts attributes content) none))
      ++ parts_of is_rich n ts
  unfolding node_of
  put-parts ids id r facts attributes content ts =
      ap (λ ps. ps ++ parts_of is_rich n ts) (apart-parts ids (more (element id r facts attributes content) none))

-- a block between edges, and anchors before it
pub led-fed : (mode : Mode) (w : Writing) (done : List Block) (id : List ℕ) (ids : List (List ℕ)) (b : Block)
    (ps : List Part) → IsReady mode w done
    → fed_all w ((apart (places (id ∷ ids)) ++ edge ∷ whole b ∷ edge ∷ []) ++ ps)
    ≡ fed_all (clean mode (done ++ (alone (id ∷ ids) ++ b ∷ []))) ps
led-fed mode w done id ids b ps h =
    let first : List Part = apart (places (id ∷ ids)) in
    let block : List Part = edge ∷ whole b ∷ edge ∷ [] in
    let after : List Block = done ++ alone (id ∷ ids) in
    fold-append fed w (first ++ block) ps
    ∙ ap (λ v. fed_all v ps)
    (fold-append fed w first block
    ∙ (ap (λ v. fed_all v block) (alone-fed mode w done id ids h)
    ∙ (apart-fed mode (clean mode after) after (clean-ready mode after (ready-flat mode w done h)) b
    ∙ ap (clean mode) (append_assoc done (alone (id ∷ ids)) (b ∷ [])))))

-- ---- the page

between-edges : (w : Writing) (ps : List Part)
    → fed_all w (edge ∷ ((edge ∷ ps ++ edge ∷ []) ++ []) ++ edge ∷ [])
    ≡ fed (fed (fed_all (fed (fed w edge) edge) ps) edge) edge
between-edges w ps =
    let v : Writing = fed (fed w edge) edge in
    (ap (λ qs. fed_all v (qs ++ edge ∷ [])) (append-nil (ps ++ edge ∷ []))
    ∙ (fold-append fed v (ps ++ edge ∷ []) (edge ∷ [])
    ∙ ap (λ x. fed x edge) (fold-append fed v ps (edge ∷ []))))

-- the elements around the blocks of a page, and anchors behind them
abbrev pub frame_by : (html head body : ℕ) → (outer nothing inner : Facts) → Simples → Simples → Simples
frame_by html head body outer nothing inner ts last =
    more (element html role.Block outer [] (more (element head role.Plain nothing [] none)
    (more (element body role.Block inner [] ts) none))) last

-- what stands at the end of the page
last-fed : (is_rich : Bool) (w : Writing) (done : List Block) (left : List (List ℕ)) → w ≡ clean in_blocks done
    → blocks_in (fed_all w (parts_of is_rich 0 (last_of left))) ≡ blocks_of (done ++ alone left)
unfolding node_of
last-fed is_rich w done [] e = ap blocks_in e
last-fed is_rich w done (id ∷ ids) e =
    let after : List Block = done ++ alone (id ∷ ids) in
    ap (λ ps. blocks_in (fed_all w ps))
    (apart-parts is_rich 0 (id ∷ ids) none ∙ append-nil (apart (places (id ∷ ids))))
    ∙ (ap (λ v. blocks_in (fed_all v (apart (places (id ∷ ids))))) e
    ∙ (ap blocks_in (alone-fed in_blocks (clean in_blocks done) done id ids (clean-ready in_blocks done refl))
    ∙ ap blocks_of (append-nil after)))

pub frame-blocks : (is_rich : Bool) (html head body : ℕ) (outer nothing inner : Facts) (ts : Simples)
    (left : List (List ℕ)) (done : List Block)
    → ((w : Writing) → IsReady in_blocks w [] → IsReady in_blocks (fed_all w (parts_of is_rich 0 ts)) done)
    → flow.document_of is_rich (frame_by html head body outer nothing inner ts (last_of left))
    ≡ blocks_of (done ++ alone left)
unfolding node_of
frame-blocks is_rich html head body outer nothing inner ts left done h =
    let start : Writing = fed (fed (clean in_blocks []) edge) edge in
    let inside : List Part = parts_of is_rich 0 ts in
    let ready : IsReady in_blocks (fed_all start inside) done = h start (clean-ready in_blocks [] refl) in
    let last : fed (fed (fed_all start inside) edge) edge ≡ clean in_blocks done =
    ap (λ v. fed v edge) (edge-fed in_blocks (fed_all start inside) done ready)
    ∙ edge-fed in_blocks (clean in_blocks done) done (clean-ready in_blocks done refl) in
    let body_parts : List Part = edge ∷ ((edge ∷ inside ++ edge ∷ []) ++ []) ++ edge ∷ [] in
    ap blocks_in (fold-append fed (clean in_blocks []) body_parts (parts_of is_rich 0 (last_of left)))
    ∙ last-fed is_rich (fed_all (clean in_blocks []) body_parts) done left
    (between-edges (clean in_blocks []) inside ∙ last)
