-- Tables are of rows and columns just as they are with anchors, and where links end after their first pieces.
use Rattle.std.proofs.Common.{◌≡◌, ℕ, Bool, true, false, cond, not, ◌&&◌, ◌||◌, List, [], ◌∷◌, ◌++◌, map, refl, sym, ap, ◌∙◌}
use Rattle.std.proofs.Common.{subst, Option, Some, None, arith}
use Rattle.std.specs.Prelude.{codes, nat_lt}
use Rattle.std.specs.List.{list_all}
use Rattle.std.specs.Str.{chars, IsUtf8}
use Rattle.std.proofs.lemmas.Bool.Decides.{nat_tests}
use Rattle.std.proofs.lemmas.List.{append-nil}
use Rattle.htmd_lexical.specs.AttributePairs.{AttributePair}
use Rattle.htmd_lexical.specs.Characters.{space}
use Rattle.htmd_lexical.specs.WhiteSpace.{is_ascii_white_space}
use Rattle.htmd_lexical.proofs.Cases.{test}
use Rattle.htmd_shown.specs.declared.facts.Facts.{Facts}
use Rattle.htmd_shown.specs.declared.role.Role.{Role}
use Rattle.htmd_shown.specs.declared.role.Role.TheVariants as role
use Rattle.htmd_shown.specs.AllTexts.{all_text_among, with_line_feeds, lines_of, without_last_line_feed, dollar_sign}
use Rattle.htmd_shown.specs.Attributes.{text_of, description_of, in_line, is_filled}
use Rattle.htmd_shown.specs.Facts.{inserted_facts}
use Rattle.htmd_shown.specs.Kinds.{has, is_blank}
use Rattle.htmd_shown.specs.Pieces.{Pieces, no_pieces, is_leaf, is_unseen, after_leaf, at_edge, pieces_after}
use Rattle.htmd_shown.specs.Roles as roles
use Rattle.htmd_shown.specs.Shown.{followed_by}
use Rattle.htmd_shown.specs.Showings.{image_shows, code_shows}
use Rattle.htmd_shown.specs.SimpleTrees.{Simple, text, image, formula, embedded, anchor, element, Simples, none, more}
use Rattle.htmd_shown.specs.Spaces.{is_blank_text}
use Rattle.htmd_document.specs.Documents.{code_block}
use Rattle.htmd_document_of_tree.specs.Anchors.{anchors, apart, before, stands_apart, after_anchors, preceded}
use Rattle.htmd_document_of_tree.specs.Anchors.{Placing, ids_up_to, placed_before, placing_after, placed, all_placed}
use Rattle.htmd_document_of_tree.specs.FirstPieces.{most_linked, unlinked, cut_leaf, cut, cut_all, pieced, pieced_all}
use Rattle.htmd_flow.specs.Contexts.{Context, in_code, inside_link, run_in}
use Rattle.htmd_flow.specs.Contexts as contexts
use Rattle.htmd_flow.specs.Flows.{node_of, nodes_of, flow_all, list_parts, is_spaces, image_parts}
use Rattle.htmd_flow.specs.Flows.{math_block, math_in_line, formula_parts, embed_edge, embed_parts, code_parts}
use Rattle.htmd_flow.specs.Flows.{text_in_lines, anchors_apart}
use Rattle.htmd_flow.specs.Languages.{language_of_block}
use Rattle.htmd_flow.specs.Levels.{list_of}
use Rattle.htmd_flow.specs.Parts.{Around, Part, picture, place, edge, whole}
use Rattle.htmd_law_documents.specs.SimpleForms.{IsMade, IsSound, AreSound}
use Rattle.htmd_law_documents.proofs.ElementLemmas.{false-true, true-false}
use Rattle.htmd_law_documents.proofs.NormalShownLemmas.{IsClear, AreClear, line-blank}
use Rattle.htmd_law_documents.proofs.NormalTextLemmas.{from-not}
use Rattle.htmd_law_anchors.proofs.LinkAroundLemmas.{node-tree}
use Rattle.htmd_law_anchors.proofs.CodeTextLemmas.{blank-code, code-black, code-fills, ascii-blank}
use Rattle.htmd_law_anchors.proofs.LinkKeptLemmas.{all-pieced-text, GridsPlaced, AllGridsPlaced, GridsCut, AllGridsCut}
use Rattle.htmd_law_anchors.proofs.LinkKeptLemmas.{GridsPieced, AllGridsPieced}
use Rattle.htmd_law_anchors.proofs.ShapeParagraphLemmas.{Shape, leaf, leaf-twice, shape_after}
use Rattle.htmd_law_anchors.proofs.ShapeWritingLemmas.{any_fills}
use Rattle.htmd_law_anchors.proofs.ShapeNodesLemmas.{Same, same-itself, any-append, shape-append, same-append}
use Rattle.htmd_law_anchors.proofs.ShapeNodesLemmas.{same-cons, same-cond, same-join, same-line, Twin, GivesSame}
use Rattle.htmd_law_anchors.proofs.ShapeTreeLemmas.{SameTree, SameTrees, none-same, more-same, grids-same, run-same}
use Rattle.htmd_law_anchors.proofs.ShapeTreeLemmas.{element-same, Plain, verbatim-plain, around-plain, unlinked-plain}
use Rattle.htmd_law_anchors.proofs.ShapeTreeLemmas.{leaf-plain, leaf-same}
use Rattle.htmd_law_anchors.proofs.TruthLemmas.{and-false, or-right}
use lib.Utf8.{encode}

-- ---- leaves in other contexts

picture-same : (flat : Bool) (a : List ℕ) (t : Option (List ℕ)) (s : List ℕ) (x y : List Around)
    → Same flat (picture a t s x ∷ []) (picture a t s y ∷ [])
picture-same true a t s x y = refl
picture-same false a t s x y = λ z. refl

image-gives : (o : Option (List ℕ)) (attributes : List AttributePair)
    → GivesSame (image_parts o attributes) (image_parts o attributes)
image-gives (Some s) attributes c d t = picture-same c.is_flat _ _ _ c.around d.around
image-gives None attributes c d t =
    same-cond c.is_flat (is_filled (description_of attributes)) (is_filled (description_of attributes))
    (run_in c (description_of attributes) ∷ []) [] (run_in d (description_of attributes) ∷ []) [] refl
    (λ e. run-same c.is_flat (description_of attributes) c d) (λ e. same-itself c.is_flat [])

math-same : (flat : Bool) (tex : List ℕ) (c d : Context) → Same flat (math_in_line tex c) (math_in_line tex d)
math-same true tex c d = refl
math-same false tex c d = λ z. refl

formula-gives : (tex : List ℕ) (is_alone : Bool)
    → GivesSame (formula_parts tex is_alone) (formula_parts tex is_alone)
formula-gives tex is_alone c d t =
    same-cond c.is_flat (is_alone && not c.is_flat) (is_alone && not d.is_flat)
    (contexts.apart (whole (math_block tex) ∷ [])) (math_in_line tex c)
    (contexts.apart (whole (math_block tex) ∷ []))
    (math_in_line tex d) (ap (λ b. is_alone && not b) t.flat)
    (λ e. same-itself c.is_flat (contexts.apart (whole (math_block tex) ∷ []))) (λ e. math-same c.is_flat tex c d)

code-same : (flat : Bool) (lines : List (List ℕ)) (x y : List Around)
    → Same flat (code_parts lines x) (code_parts lines y)
code-same true [] x y = refl
code-same true (s ∷ lines) x y = ap (λ b. not (is_blank_text s) || b) (code-same true lines x y)
code-same false [] x y = λ z. refl
code-same false (s ∷ lines) x y = λ z. code-same false lines x y _

block-same : (flat : Bool) (l m : Option (List ℕ)) (s : List ℕ)
    → Same flat (contexts.apart (whole (code_block l s) ∷ [])) (contexts.apart (whole (code_block m s) ∷ []))
block-same true l m s = refl
block-same false l m s = λ z. refl

verbatim-gives : (attributes : List AttributePair) (ts us : Simples) (s : List ℕ)
    → GivesSame (text_in_lines attributes ts s) (text_in_lines attributes us s)
verbatim-gives attributes ts us s c d t =
    let body : Simples → Context → List Part =
    λ xs x. contexts.apart (whole (code_block (language_of_block attributes (list_of xs) x.near)
    (without_last_line_feed s)) ∷ []) in
    same-cond c.is_flat (is_blank_text s) (is_blank_text s) (edge ∷ [])
    (cond c.is_flat (edge ∷ code_parts (lines_of s) c.around) (body ts c)) (edge ∷ [])
    (cond d.is_flat (edge ∷ code_parts (lines_of s) d.around) (body us d)) refl
    (λ e. same-itself c.is_flat (edge ∷ []))
    (λ e. same-cond c.is_flat c.is_flat d.is_flat (edge ∷ code_parts (lines_of s) c.around) (body ts c)
    (edge ∷ code_parts (lines_of s) d.around) (body us d) t.flat
    (λ f. same-cons c.is_flat edge (code_parts (lines_of s) c.around) (code_parts (lines_of s) d.around)
    (code-same c.is_flat (lines_of s) c.around d.around))
    (λ f. block-same c.is_flat _ _ (without_last_line_feed s)))

space-edge : (flat b d : Bool) (c x : Context) → b ≡ d
    → Same flat (cond b (run_in c (space ∷ [])) edge ∷ []) (cond d (run_in x (space ∷ [])) edge ∷ [])
space-edge flat b d c x e =
    subst (λ (z : Bool). Same flat (cond b (run_in c (space ∷ [])) edge ∷ [])
    (cond z (run_in x (space ∷ [])) edge ∷ [])) e (either b)
  where
    either : (b : Bool) → Same flat (cond b (run_in c (space ∷ [])) edge ∷ [])
        (cond b (run_in x (space ∷ [])) edge ∷ [])
    either true = run-same flat (space ∷ []) c x
    either false = same-itself flat (edge ∷ [])

-- ---- anchors before what shows

same-back : (flat : Bool) (ps qs : List Part) → Same flat ps qs → Same flat qs ps
same-back true ps qs h = sym h
same-back false ps qs h = λ s. sym (h s)

-- a leaf before it counts for nothing
abbrev Absorbs : List Part → Type 0
Absorbs ps = (s : Shape) → shape_after (leaf s) ps ≡ shape_after s ps

places-absorbed : (ids : List (List ℕ)) (ps : List Part) → Absorbs ps → (s : Shape)
    → shape_after s (map place ids ++ ps) ≡ shape_after s ps
places-absorbed [] ps h s = refl
places-absorbed (id ∷ ids) ps h s = places-absorbed ids ps h (leaf s) ∙ h s

places-filled : (ids : List (List ℕ)) (ps : List Part) → any_fills true ps ≡ true
    → any_fills true (map place ids ++ ps) ≡ true
places-filled ids ps e = any-append true (map place ids) ps
    ∙ or-right (any_fills true (map place ids)) (any_fills true ps) e

places-gone : (flat : Bool) (ids : List (List ℕ)) (ps : List Part) → (flat ≡ true → any_fills true ps ≡ true)
    → (flat ≡ false → Absorbs ps) → Same flat (map place ids ++ ps) ps
places-gone true ids ps g h = places-filled ids ps (g refl) ∙ sym (g refl)
places-gone false ids ps g h = λ s. places-absorbed ids ps (h refl) s

-- a text that shows is a leaf
run-absorbs : (s : List ℕ) (c : Context) (ps : List Part) → is_blank_text s ≡ false
    → Absorbs (run_in c s ∷ ps)
run-absorbs s c ps e z =
    ap (λ b. shape_after (cond b (leaf z) (leaf (leaf z))) ps) e
    ∙ (ap (λ x. shape_after x ps) (leaf-twice z) ∙ sym (ap (λ b. shape_after (cond b z (leaf z)) ps) e))

run-filled : (s : List ℕ) (c : Context) (ps : List Part) → is_blank_text s ≡ false
    → any_fills true (run_in c s ∷ ps) ≡ true
run-filled s c ps e = ap (λ b. not b || any_fills true ps) e

-- what is embedded, with other anchors
module _ (title : List ℕ) (id : ℕ) (s : List ℕ) where
  abbrev tail : Context → List Part
  tail c = run_in (inside_link id s None c) title ∷ embed_edge c ∷ []

  tail-same : (c d : Context) → Twin c d → Same c.is_flat (tail c) (tail d)
  tail-same c d t =
      same-append c.is_flat (run_in (inside_link id s None c) title ∷ [])
      (run_in (inside_link id s None d) title ∷ [])
      (embed_edge c ∷ []) (embed_edge d ∷ [])
      (run-same c.is_flat title (inside_link id s None c) (inside_link id s None d))
      (space-edge c.is_flat c.is_flat d.is_flat c d t.flat)

  embed-with : (ids ids' : List (List ℕ))
      → ((c d : Context) → Twin c d → Same c.is_flat (map place ids ++ tail c) (map place ids' ++ tail d))
      → GivesSame (embed_parts id s title ids) (embed_parts id s title ids')
  embed-with ids ids' h c d t =
      same-append c.is_flat (embed_edge c ∷ []) (embed_edge d ∷ []) (map place ids ++ tail c)
      (map place ids' ++ tail d) (space-edge c.is_flat c.is_flat d.is_flat c d t.flat) (h c d t)

  embed-gives : (ids : List (List ℕ)) → GivesSame (embed_parts id s title ids) (embed_parts id s title ids)
  embed-gives ids =
      embed-with ids ids
      (λ c d t. same-append c.is_flat (map place ids) (map place ids) (tail c) (tail d)
      (same-itself c.is_flat (map place ids)) (tail-same c d t))

  embed-more : (ids ids' : List (List ℕ)) → is_blank_text title ≡ false
      → GivesSame (embed_parts id s title ids) (embed_parts id s title ids')
  embed-more ids ids' e =
      embed-with ids ids'
      (λ c d t. same-join c.is_flat (map place ids ++ tail c) (tail c) (map place ids' ++ tail d)
      (gone ids c c.is_flat)
      (same-join c.is_flat (tail c) (tail d) (map place ids' ++ tail d) (tail-same c d t)
      (same-back c.is_flat (map place ids' ++ tail d) (tail d) (gone ids' d c.is_flat))))
    where
      gone : (ids : List (List ℕ)) (c : Context) (flat : Bool) → Same flat (map place ids ++ tail c) (tail c)
      gone ids c flat =
          places-gone flat ids (tail c) (λ f. run-filled title (inside_link id s None c) (embed_edge c ∷ []) e)
          (λ f. run-absorbs title (inside_link id s None c) (embed_edge c ∷ []) e)

-- ---- each leaf

self-leaf : (t : Simple) → is_leaf t ≡ true → Plain t × GivesSame ((node_of t).whole) ((node_of t).whole)
unfolding node_of
self-leaf (text s) e = (leaf-plain (text s) (λ p. refl), λ c d t. run-same c.is_flat s c d)
self-leaf (image o attributes) e = (leaf-plain (image o attributes) (λ p. refl), image-gives o attributes)
self-leaf (formula tex is_alone attributes) e =
    (leaf-plain (formula tex is_alone attributes) (λ p. refl), formula-gives tex is_alone)
self-leaf (embedded id address title attributes ids) e =
    (leaf-plain (embedded id address title attributes ids) (λ p. refl), embed-gives title id address ids)
self-leaf (anchor id) e = false-true e
self-leaf (element id role.Preformatted facts attributes content) e =
    (verbatim-plain id role.Preformatted facts attributes content refl, verbatim-gives attributes content content _)
self-leaf (element id role.Verbatim facts attributes content) e =
    (verbatim-plain id role.Verbatim facts attributes content refl, verbatim-gives attributes content content _)
self-leaf (element id r facts attributes content) e = false-true e

self-same : (t : Simple) → is_leaf t ≡ true → SameTree t t
self-same t e = let h = self-leaf t e in leaf-same t t h.0 h.0 refl refl h.1

anchor-same : (id : List ℕ) → SameTree (anchor id) (anchor id)
unfolding node_of
anchor-same id =
    leaf-same (anchor id) (anchor id) (leaf-plain (anchor id) (λ p. refl)) (leaf-plain (anchor id) (λ p. refl)) refl
    refl
    (λ c d t. same-itself c.is_flat (place id ∷ []))

-- what a node alone gives
one-flow : (t : Simple) → has roles.is_item t ≡ false → (c : Context)
    → flow_all (nodes_of (more t none)) c ≡ (node_of t).whole c ++ []
unfolding node_of
one-flow t e c =
    ap (λ b. cond b (list_parts None (node_of t ∷ []) c ++ []) ((node_of t).whole c ++ []))
    (ap (has roles.is_item) (node-tree t) ∙ e)

-- ---- out of the link

-- a text that shows is more than white space of ASCII
not-spaces : (s : List ℕ) → IsUtf8 s → is_blank_text s ≡ false → list_all is_ascii_white_space s ≡ false
not-spaces s u e = test (list_all is_ascii_white_space s)
    (λ h. true-false (sym (ascii-blank s u h) ∙ e)) (λ h. h)

leaf-no_spaces : (t : Simple) → IsSound t → is_leaf t ≡ true → is_blank t ≡ false → is_spaces t ≡ false
leaf-no_spaces (text s) u e b = not-spaces s u b
leaf-no_spaces t u e b = refl

unlinked-same : (t : Simple) → IsSound t → is_leaf t ≡ true → is_blank t ≡ false → SameTree t (unlinked t)
unfolding node_of
unlinked-same t u e b =
    let h = self-leaf t e in
    leaf-same t (unlinked t) h.0 (unlinked-plain 0 inserted_facts [] (more t none)) b (leaf-no_spaces t u e b)
    (λ c d w.
    let x : Context = contexts.unlinked d in
    let same : Same c.is_flat ((node_of t).whole c) ((node_of t).whole x) =
    h.1 c x (record { flat = w.flat; nested = w.nested; first = w.first; second = w.second }) in
    subst (λ (ps : List Part). Same c.is_flat ((node_of t).whole c) ps)
    (sym (one-flow t h.0.item x ∙ append-nil ((node_of t).whole x))) same)

seen-black : (t : Simple) → is_leaf t ≡ true → is_unseen t ≡ false → is_blank t ≡ false
seen-black (text s) e h = h
seen-black (image o attributes) e h = refl
seen-black (formula tex is_alone attributes) e h = refl
seen-black (embedded id address title attributes ids) e h = refl
seen-black (anchor id) e h = false-true e
seen-black (element id r facts attributes content) e h =
    ap (λ b. not (roles.is_void r) && b) h ∙ and-false (not (roles.is_void r))

cut-leaf-same : (p : Pieces) (t : Simple) → IsSound t → is_leaf t ≡ true → SameTree t (cut_leaf p t)
cut-leaf-same p t u e = either (is_unseen t) (nat_lt most_linked (after_leaf p t).count) refl
  where
    either : (b d : Bool) → is_unseen t ≡ b → SameTree t (cond (not b && d) (unlinked t) t)
    either true d h = self-same t e
    either false true h = unlinked-same t u e (seen-black t e h)
    either false false h = self-same t e

void-break : (r : Role) → roles.is_line_break r ≡ true → roles.is_void r ≡ true
void-break role.LineBreak e = refl
void-break r e = false-true e

mutual
  cut-same : (p : Pieces) (t : Simple) → IsSound t → SameTree t (cut p t)
  cut-same p (text s) u = cut-leaf-same p (text s) u refl
  cut-same p (image o attributes) u = cut-leaf-same p (image o attributes) u refl
  cut-same p (formula tex is_alone attributes) u = cut-leaf-same p (formula tex is_alone attributes) u refl
  cut-same p (embedded id address title attributes ids) u =
      cut-leaf-same p (embedded id address title attributes ids) u refl
  cut-same p (anchor id) u = anchor-same id
  cut-same p (element id r facts attributes content) u =
      either (roles.is_verbatim r) (roles.is_line_break r) refl refl (all-cut-same (at_edge r p) content u.1)
    where
      t : Simple
      t = element id r facts attributes content

      either : (b d : Bool) → roles.is_verbatim r ≡ b → roles.is_line_break r ≡ d
          → SameTrees content (cut_all (at_edge r p) content)
          → SameTree t (cond b (cut_leaf p t) (element id r facts attributes
          (cond d content (cut_all (at_edge r p) content))))
      either true d e f h = cut-leaf-same p t u e
      either false true e f h =
          subst (λ (ts : Simples). SameTree (element id r facts attributes ts) (element id r facts attributes ts))
          (sym (u.0.empty (void-break r f)))
          (element-same id facts attributes none none none-same r e)
      either false false e f h = element-same id facts attributes content (cut_all (at_edge r p) content) h r e

  all-cut-same : (p : Pieces) (ts : Simples) → AreSound ts → SameTrees ts (cut_all p ts)
  all-cut-same p none u = none-same
  all-cut-same p (more t ts) u =
      more-same t (cut p t) ts (cut_all (pieces_after p t) ts) (cut-same p t u.0)
      (all-cut-same (pieces_after p t) ts u.1)

verbatim-same : (id : ℕ) (r : Role) (facts : Facts) (attributes : List AttributePair) (ts us : Simples)
    → roles.is_verbatim r ≡ true → all_text_among us ≡ all_text_among ts
    → SameTree (element id r facts attributes ts) (element id r facts attributes us)
unfolding node_of
verbatim-same id role.Preformatted facts attributes ts us e f =
    leaf-same (element id role.Preformatted facts attributes ts) (element id role.Preformatted facts attributes us)
    (verbatim-plain id role.Preformatted facts attributes ts refl)
    (verbatim-plain id role.Preformatted facts attributes us refl) refl refl
    (subst (λ (s : List ℕ). GivesSame (text_in_lines attributes ts (with_line_feeds (all_text_among ts)))
    (text_in_lines attributes us (with_line_feeds s))) (sym f) (verbatim-gives attributes ts us _))
verbatim-same id role.Verbatim facts attributes ts us e f =
    leaf-same (element id role.Verbatim facts attributes ts) (element id role.Verbatim facts attributes us)
    (verbatim-plain id role.Verbatim facts attributes ts refl)
    (verbatim-plain id role.Verbatim facts attributes us refl) refl refl
    (subst (λ (s : List ℕ). GivesSame (text_in_lines attributes ts (with_line_feeds (all_text_among ts)))
    (text_in_lines attributes us (with_line_feeds s))) (sym f) (verbatim-gives attributes ts us _))
verbatim-same id r facts attributes ts us e f = false-true e

verbatim-no_link : (r : Role) → roles.is_verbatim r ≡ true → roles.is_link r ≡ false
verbatim-no_link role.Preformatted e = refl
verbatim-no_link role.Verbatim e = refl
verbatim-no_link r e = false-true e

mutual
  pieced-same : (t : Simple) → IsSound t → SameTree t (pieced t)
  pieced-same (text s) u = self-same (text s) refl
  pieced-same (image o attributes) u = self-same (image o attributes) refl
  pieced-same (formula tex is_alone attributes) u = self-same (formula tex is_alone attributes) refl
  pieced-same (embedded id address title attributes ids) u = self-same (embedded id address title attributes ids) refl
  pieced-same (anchor id) u = anchor-same id
  pieced-same (element id r facts attributes content) u =
      either (roles.is_verbatim r) (roles.is_link r) refl refl (all-pieced-same content u.1)
    where
      either : (b d : Bool) → roles.is_verbatim r ≡ b → roles.is_link r ≡ d
          → SameTrees content (pieced_all content)
          → SameTree (element id r facts attributes content)
          (element id r facts attributes (cond d (cut_all no_pieces content) (pieced_all content)))
      either true true e f h = true-false (sym f ∙ verbatim-no_link r e)
      either true false e f h =
          verbatim-same id r facts attributes content (pieced_all content) e (all-pieced-text content)
      either false true e f h =
          element-same id facts attributes content (cut_all no_pieces content) (all-cut-same no_pieces content u.1) r e
      either false false e f h = element-same id facts attributes content (pieced_all content) h r e

  all-pieced-same : (ts : Simples) → AreSound ts → SameTrees ts (pieced_all ts)
  all-pieced-same none u = none-same
  all-pieced-same (more t ts) u =
      more-same t (pieced t) ts (pieced_all ts) (pieced-same t u.0) (all-pieced-same ts u.1)

mutual
  grids-cut : (p : Pieces) (t : Simple) → IsSound t → GridsCut p t
  grids-cut p (text s) u = tt
  grids-cut p (image o attributes) u = tt
  grids-cut p (formula tex is_alone attributes) u = tt
  grids-cut p (embedded id address title attributes ids) u = tt
  grids-cut p (anchor id) u = tt
  grids-cut p (element id r facts attributes content) u = (
    grids-same content (cut_all (at_edge r p) content) (all-cut-same (at_edge r p) content u.1),
    all-grids-cut (at_edge r p) content u.1,
  )

  all-grids-cut : (p : Pieces) (ts : Simples) → AreSound ts → AllGridsCut p ts
  all-grids-cut p none u = tt
  all-grids-cut p (more t ts) u = (grids-cut p t u.0, all-grids-cut (pieces_after p t) ts u.1)

mutual
  grids-pieced : (t : Simple) → IsSound t → GridsPieced t
  grids-pieced (text s) u = tt
  grids-pieced (image o attributes) u = tt
  grids-pieced (formula tex is_alone attributes) u = tt
  grids-pieced (embedded id address title attributes ids) u = tt
  grids-pieced (anchor id) u = tt
  grids-pieced (element id r facts attributes content) u = (
    grids-same content (pieced_all content) (all-pieced-same content u.1),
    all-grids-pieced content u.1,
    all-grids-cut no_pieces content u.1,
  )

  pub all-grids-pieced : (ts : Simples) → AreSound ts → AllGridsPieced ts
  all-grids-pieced none u = tt
  all-grids-pieced (more t ts) u = (grids-pieced t u.0, all-grids-pieced ts u.1)

-- ---- with anchors

-- a leaf that shows
record Shows (t : Simple) : Type 0 where
  line : (d : Context) → d.is_flat ≡ true → any_fills true ((node_of t).whole d) ≡ true
  here : stands_apart t ≡ false → (d : Context) → d.is_flat ≡ false → Absorbs ((node_of t).whole d)
  apart : stands_apart t ≡ true → (d : Context) → d.is_flat ≡ false → (s z : Shape)
      → shape_after s ((node_of t).whole d) ≡ shape_after z ((node_of t).whole d)

abbrev found_for : Simple → List (List ℕ) → Simples
found_for t ids = cond (stands_apart t) (more (apart (anchors ids)) none) (anchors ids)

anchors-flow : (ids : List (List ℕ)) (c : Context) → flow_all (nodes_of (anchors ids)) c ≡ map place ids
unfolding node_of
anchors-flow [] c = refl
anchors-flow (id ∷ ids) c = ap (λ ps. place id ∷ ps) (anchors-flow ids c)

anchors-then : (ids : List (List ℕ)) (ts : Simples) (c : Context)
    → flow_all (nodes_of (followed_by (anchors ids) ts)) c ≡ map place ids ++ flow_all (nodes_of ts) c
unfolding node_of
anchors-then [] ts c = refl
anchors-then (id ∷ ids) ts c = ap (λ ps. place id ∷ ps) (anchors-then ids ts c)

module _ (t : Simple) (p : Plain t) (h : Shows t) (ids : List (List ℕ)) where
  leaf-flow : (d : Context) → flow_all (nodes_of (more t none)) d ≡ (node_of t).whole d
  leaf-flow d = one-flow t p.item d ∙ append-nil ((node_of t).whole d)

  here-flow : (d : Context) → stands_apart t ≡ false
      → Same d.is_flat ((node_of t).whole d) (flow_all (nodes_of (followed_by (anchors ids) (more t none))) d)
  here-flow d e =
      subst (λ (ps : List Part). Same d.is_flat ((node_of t).whole d) ps)
      (sym (anchors-then ids (more t none) d ∙ ap (λ ps. map place ids ++ ps) (leaf-flow d)))
      (same-back d.is_flat (map place ids ++ (node_of t).whole d) ((node_of t).whole d)
      (places-gone d.is_flat ids ((node_of t).whole d) (h.line d) (h.here e d)))

  apart-flow : (d : Context) → stands_apart t ≡ true
      → Same d.is_flat ((node_of t).whole d)
      (anchors_apart (nodes_of (anchors ids)) d ++ flow_all (nodes_of (more t none)) d)
  apart-flow d e =
      subst (λ (ps : List Part). Same d.is_flat ((node_of t).whole d)
      (anchors_apart (nodes_of (anchors ids)) d ++ ps)) (sym (leaf-flow d)) (either d.is_flat refl)
    where
      first : List Part
      first = anchors_apart (nodes_of (anchors ids)) d

      either : (b : Bool) → d.is_flat ≡ b → Same b ((node_of t).whole d) (first ++ (node_of t).whole d)
      either true f =
          h.line d f
          ∙ sym (any-append true first ((node_of t).whole d)
          ∙ or-right (any_fills true first) (any_fills true ((node_of t).whole d)) (h.line d f))
      either false f = λ s.
          h.apart e d f s (shape_after s first) ∙ sym (shape-append first ((node_of t).whole d) s)

  before-flow : (d : Context)
      → Same d.is_flat ((node_of t).whole d) ((node_of (before (found_for t ids) t)).whole d)
  unfolding node_of
  before-flow d = either (stands_apart t) refl
    where
      either : (b : Bool) → stands_apart t ≡ b
          → Same d.is_flat ((node_of t).whole d)
          (flow_all (nodes_of (followed_by (cond b (more (apart (anchors ids)) none) (anchors ids)) (more t none))) d)
      either true e = apart-flow d e
      either false e = here-flow d e

before-same : (t : Simple) → IsSound t → is_leaf t ≡ true → is_blank t ≡ false → Shows t
    → (ids : List (List ℕ))
    → SameTree t (after_anchors ids t)
before-same t u e b h [] = self-same t e
before-same t u e b h (id ∷ ids) =
    let self = self-leaf t e in
    let new : Simple = before (found_for t (id ∷ ids)) t in
    leaf-same t new self.0 (around-plain 0 inserted_facts [] _) b (leaf-no_spaces t u e b)
    (λ c d w. same-join c.is_flat ((node_of t).whole c) ((node_of t).whole d) ((node_of new).whole d) (self.1 c d w)
    (same-line c.is_flat d.is_flat ((node_of t).whole d) ((node_of new).whole d) w.flat
    (before-flow t self.0 h (id ∷ ids) d)))

-- ---- what shows

text-shows : (s : List ℕ) → is_blank_text s ≡ false → Shows (text s)
unfolding node_of
text-shows s e = record {
  line = λ d f. run-filled s d [] e;
  here = λ g d f. run-absorbs s d [] e;
  apart = λ g d f. false-true g;
}

filled-black : (s : List ℕ) → is_blank_text s ≡ false → is_filled s ≡ true
unfolding chars
filled-black [] e = true-false e
filled-black (b ∷ s) e = grind (arith, nat_tests)

image-shows-here : (o : Option (List ℕ)) (attributes : List AttributePair)
    → IsUtf8 (text_of (codes "alt") attributes)
    → image_shows o attributes ≡ true → Shows (image o attributes)
unfolding node_of
image-shows-here (Some s) attributes u e = record {
  line = λ d f. refl;
  here = λ g d f z. leaf-twice z;
  apart = λ g d f. false-true g;
}
image-shows-here None attributes u e =
    let alt : List ℕ = text_of (codes "alt") attributes in
    let black : is_blank_text (in_line alt) ≡ false = line-blank alt u (from-not _ e) in
    let filled : is_filled (in_line alt) ≡ true = filled-black (in_line alt) black in
    record {
      line = λ d f. subst (λ (b : Bool). any_fills true (cond b (run_in d (in_line alt) ∷ []) []) ≡ true)
          (sym filled)
          (run-filled (in_line alt) d [] black);
      here = λ g d f. subst (λ (b : Bool). Absorbs (cond b (run_in d (in_line alt) ∷ []) [])) (sym filled)
          (run-absorbs (in_line alt) d [] black);
      apart = λ g d f. false-true g;
    }

dollar-black : is_blank_text (dollar_sign ∷ []) ≡ false
unfolding chars encode
dollar-black = refl

formula-shows : (tex : List ℕ) (is_alone : Bool) (attributes : List AttributePair)
    → Shows (formula tex is_alone attributes)
unfolding node_of
formula-shows tex true attributes = record {
  line = λ d f. subst (λ (b : Bool). any_fills true (cond (not b)
      (contexts.apart (whole (math_block tex) ∷ [])) (math_in_line tex d)) ≡ true) (sym f)
      (run-filled (dollar_sign ∷ []) d (run_in (in_code d) (in_line tex) ∷ run_in d (dollar_sign ∷ []) ∷ [])
      dollar-black);
  here = λ g d f. true-false g;
  apart = λ g d f s z. subst (λ (b : Bool). shape_after s (cond (not b)
      (contexts.apart (whole (math_block tex) ∷ [])) (math_in_line tex d))
      ≡ shape_after z (cond (not b) (contexts.apart (whole (math_block tex) ∷ [])) (math_in_line tex d))) (sym f)
      refl;
}
formula-shows tex false attributes = record {
  line = λ d f. run-filled (dollar_sign ∷ []) d
      (run_in (in_code d) (in_line tex) ∷ run_in d (dollar_sign ∷ []) ∷ [])
      dollar-black;
  here = λ g d f. run-absorbs (dollar_sign ∷ []) d
      (run_in (in_code d) (in_line tex) ∷ run_in d (dollar_sign ∷ []) ∷ [])
      dollar-black;
  apart = λ g d f. false-true g;
}

verbatim-shows : (id : ℕ) (r : Role) (facts : Facts) (attributes : List AttributePair) (content : Simples)
    → roles.is_verbatim r ≡ true → AreSound content → code_shows content ≡ true
    → Shows (element id r facts attributes content)
unfolding node_of
verbatim-shows id r facts attributes content v u e = at r v
  where
    s : List ℕ
    s = with_line_feeds (all_text_among content)

    black : is_blank_text s ≡ false
    black = code-black content u e

    line-of : (d : Context) → d.is_flat ≡ true → any_fills true (text_in_lines attributes content s d) ≡ true
    line-of d f =
        subst (λ (b : Bool). any_fills true (cond b (edge ∷ []) (cond d.is_flat
        (edge ∷ code_parts (lines_of s) d.around) (contexts.apart (whole (code_block
        (language_of_block attributes (list_of content) d.near) (without_last_line_feed s)) ∷ [])))) ≡ true)
        (sym black)
        (subst (λ (b : Bool). any_fills true (cond b
        (edge ∷ code_parts (lines_of s) d.around) (contexts.apart (whole (code_block
        (language_of_block attributes (list_of content) d.near) (without_last_line_feed s)) ∷ []))) ≡ true) (sym f)
        (code-fills content d.around u e))

    apart-of : (d : Context) → d.is_flat ≡ false → (x z : Shape)
        → shape_after x (text_in_lines attributes content s d)
        ≡ shape_after z (text_in_lines attributes content s d)
    apart-of d f x z =
        subst (λ (ps : List Part). shape_after x ps ≡ shape_after z ps) (sym made) refl
      where
        body : List Part
        body = contexts.apart (whole (code_block (language_of_block attributes (list_of content) d.near)
            (without_last_line_feed s)) ∷ [])

        made : text_in_lines attributes content s d ≡ contexts.apart (whole (code_block
            (language_of_block attributes (list_of content) d.near) (without_last_line_feed s)) ∷ [])
        made = ap (λ b. cond b (edge ∷ []) (cond d.is_flat (edge ∷ code_parts (lines_of s) d.around) body)) black
            ∙ ap (λ b. cond b (edge ∷ code_parts (lines_of s) d.around) body) f

    at : (r : Role) → roles.is_verbatim r ≡ true → Shows (element id r facts attributes content)
    at role.Preformatted v = record { line = line-of; here = λ g d f. true-false g; apart = λ g d f. apart-of d f }
    at role.Verbatim v = record { line = line-of; here = λ g d f. true-false g; apart = λ g d f. apart-of d f }
    at r v = false-true v

-- ---- all anchors

verbatim-black : (r : Role) (facts : Facts) (content : Simples) → IsMade r facts content → AreSound content
    → code_shows content ≡ true → (not (roles.is_void r) && facts.is_blank) ≡ false
verbatim-black r facts content m u e = test facts.is_blank
    (λ h. absurd (blank-code content u (m.blank h) e))
    (λ h. ap (λ b. not (roles.is_void r) && b) h ∙ and-false (not (roles.is_void r)))

either-placed : (t : Simple) (b : Bool) (p : Placing) → is_leaf t ≡ true
    → (b ≡ true → (ids : List (List ℕ)) → SameTree t (preceded ids t)) → SameTree t (placed_before p b t)
either-placed t true p e f = f refl (ids_up_to p.seen p.targets)
either-placed t false p e f = self-same t e

embedded-same : (id : ℕ) (address title : List ℕ) (attributes : List AttributePair) (ids more_ids : List (List ℕ))
    → is_blank_text title ≡ false
    → SameTree (embedded id address title attributes ids) (embedded id address title attributes more_ids)
unfolding node_of
embedded-same id address title attributes ids more_ids e =
    leaf-same (embedded id address title attributes ids) (embedded id address title attributes more_ids)
    (leaf-plain (embedded id address title attributes ids) (λ p. refl))
    (leaf-plain (embedded id address title attributes more_ids) (λ p. refl)) refl refl
    (embed-more title id address ids more_ids e)

mutual
  placed-same : (p : Placing) (t : Simple) → IsSound t → IsClear t → SameTree t (placed p t)
  placed-same p (text s) u k =
      either-placed (text s) (not (is_blank_text s)) p refl
      (λ e ids. before-same (text s) u refl (from-not (is_blank_text s) e)
      (text-shows s (from-not (is_blank_text s) e))
      ids)
  placed-same p (image o attributes) u k =
      either-placed (image o attributes) (image_shows o attributes) p refl
      (λ e ids. before-same (image o attributes) u refl refl (image-shows-here o attributes u e) ids)
  placed-same p (formula tex is_alone attributes) u k =
      either-placed (formula tex is_alone attributes) true p refl
      (λ e ids. before-same (formula tex is_alone attributes) u refl refl (formula-shows tex is_alone attributes) ids)
  placed-same p (embedded id address title attributes ids) u k =
      either-placed (embedded id address title attributes ids) true p refl
      (λ e found. embedded-same id address title attributes ids (ids ++ found) k.2)
  placed-same p (anchor id) u k = absurd k
  placed-same p (element id r facts attributes content) u k =
      either (roles.is_verbatim r) refl (all-placed-same p content u.1 k.2)
    where
      t : Simple
      t = element id r facts attributes content

      no-embedded : (ids : List (List ℕ)) → SameTree t (after_anchors ids t) → SameTree t (preceded ids t)
      no-embedded ids h = h

      either : (b : Bool) → roles.is_verbatim r ≡ b → SameTrees content (all_placed p content)
          → SameTree t (cond b (placed_before p (code_shows content) t)
          (element id r facts attributes (all_placed p content)))
      either true e h =
          either-placed t (code_shows content) p e
          (λ f ids. no-embedded ids (before-same t u e (verbatim-black r facts content u.0 u.1 f)
          (verbatim-shows id r facts attributes content e u.1 f) ids))
      either false e h = element-same id facts attributes content (all_placed p content) h r e

  pub all-placed-same : (p : Placing) (ts : Simples) → AreSound ts → AreClear ts → SameTrees ts (all_placed p ts)
  all-placed-same p none u k = none-same
  all-placed-same p (more t ts) u k =
      more-same t (placed p t) ts (all_placed (placing_after p t) ts) (placed-same p t u.0 k.0)
      (all-placed-same (placing_after p t) ts u.1 k.1)

mutual
  grids-placed : (p : Placing) (t : Simple) → IsSound t → IsClear t → GridsPlaced p t
  grids-placed p (text s) u k = tt
  grids-placed p (image o attributes) u k = tt
  grids-placed p (formula tex is_alone attributes) u k = tt
  grids-placed p (embedded id address title attributes ids) u k = tt
  grids-placed p (anchor id) u k = tt
  grids-placed p (element id r facts attributes content) u k = (
    grids-same content (all_placed p content) (all-placed-same p content u.1 k.2),
    all-grids-placed p content u.1 k.2,
  )

  pub all-grids-placed : (p : Placing) (ts : Simples) → AreSound ts → AreClear ts → AllGridsPlaced p ts
  all-grids-placed p none u k = tt
  all-grids-placed p (more t ts) u k =
      (grids-placed p t u.0 k.0, all-grids-placed (placing_after p t) ts u.1 k.1)
