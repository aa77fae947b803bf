-- Elements of rich documents are normal: titles, details, figures, and terms with what they mean.
use Rattle.std.proofs.Common.{◌≡◌, ℕ, Bool, true, false, cond, not, ◌&&◌, ◌||◌, List, [], ◌∷◌, ◌++◌, refl, map, fold}
use Rattle.std.proofs.Common.{length, sym}
use Rattle.std.specs.Prelude.{if◌then◌else◌, nat_lt}
use Rattle.std.specs.List.{list_all, list_any}
use Rattle.std.specs.Str.{is_utf8, chars}
use Rattle.htmd_lexical.specs.AttributePairs.{AttributePair}
use Rattle.htmd_document.specs.declared.document.AttributeName.TheVariants as attribute
use Rattle.htmd_document.specs.declared.document.BlockElement.{BlockElement}
use Rattle.htmd_document.specs.declared.document.BlockElement.TheVariants as name
use Rattle.htmd_document.specs.Documents.{BlockAttribute, Blocks, no_blocks, block, blocks_of}
use Rattle.htmd_document.specs.Documents as document
use Rattle.htmd_document.specs.NormalInlines.{is_attribute}
use Rattle.htmd_document.specs.NormalDocuments.{may_be_empty}
use Rattle.htmd_document.specs.TightItems.{is_filled}
use Rattle.htmd_shown.specs.Attributes.{has_attribute}
use Rattle.htmd_shown.specs.Kinds.{has, content_of}
use Rattle.htmd_shown.specs.Roles as roles
use Rattle.htmd_shown.specs.Showings.{shows, show_usual_sign}
use Rattle.std.specs.Prelude.{codes}
use Rattle.htmd_flow.specs.Contexts.{Context, has_elements, unlinked, is_linked_to_part, apart}
use Rattle.htmd_flow.specs.Flows as flow
use Rattle.htmd_flow.specs.Flows.{Node, TermPart, gap, of_node, flow_all, element_part, within, blocks_within}
use Rattle.htmd_flow.specs.Flows.{is_title_of, title_element, as_title, titled, open_attribute, details_parts}
use Rattle.htmd_flow.specs.Flows.{shows_title, figure_by, captioned, figure_parts, Description, Descriptions}
use Rattle.htmd_flow.specs.Flows.{no_descriptions, description_with, onto_last_description, ends_with_term}
use Rattle.htmd_flow.specs.Flows.{before_more, with_between, with_described, with_description, description_element}
use Rattle.htmd_flow.specs.Flows.{is_filled_description, element_of_descriptions, parts_of_descriptions}
use Rattle.htmd_flow.specs.Flows.{described_parts}
use Rattle.htmd_flow.specs.Paragraphs.{blocks_in}
use Rattle.htmd_flow.specs.Parts.{Part, edge, whole}
use Rattle.htmd_law_documents.proofs.VisibleLemmas.{both-true}
use Rattle.htmd_law_documents.proofs.NormalTextLemmas.{and-true, from-not}
use Rattle.htmd_law_documents.proofs.NormalBlockLemmas.{Fine, AllFine, FineBlocks, blocks-fine, these_stand}
use Rattle.htmd_law_documents.proofs.NormalPartsLemmas.{FineParts, good, IsReady, more-ready, begun-ready, ready-blocks}
use Rattle.htmd_law_documents.proofs.NormalPartsLemmas.{fine-append, fine-nil, fine-edge, fine-whole, fine-apart}
use Rattle.htmd_law_documents.proofs.NormalPartsLemmas.{fine-either, fine-as}
use Rattle.htmd_law_documents.proofs.NormalPartsLemmas as parts
use Rattle.htmd_law_documents.proofs.NormalNodesLemmas.{bound, FitsIn, Gives, GivesAt, FineNode, FineNodes, FineAt}
use Rattle.htmd_law_documents.proofs.NormalNodesLemmas.{AllAt, node-at, flow-at, flow-fine}
use Rattle.htmd_law_documents.proofs.NormalTermLemmas.{FineTerm, FineTerms}
use Rattle.htmd_law_documents.proofs.NormalAroundLemmas.{unlinked-gives}

-- values that a document may have
abbrev pub AreKept : List BlockAttribute → Type 0
AreKept attributes = list_all (λ (a : BlockAttribute). is_attribute a.value) attributes ≡ true

pub element-part-fine : (flat : Bool) (n : ℕ) (title : BlockElement) (attributes : List BlockAttribute) (bs : Blocks)
    → AreKept attributes → FineBlocks n false bs → FineParts flat n (element_part title attributes bs)
element-part-fine flat n title attributes no_blocks a h = fine-nil flat n
element-part-fine flat n title attributes (block b bs) a h =
    fine-whole flat n (document.element title attributes (block b bs)) refl
    ((and-true a refl, h.nearly, h.stand), h.depth)

-- where blocks can be elements the document is rich
pub rich-is : (c : Context) → has_elements c ≡ true → c.is_rich ≡ true
rich-is c e = (both-true c.is_rich (not c.is_flat) e).0

-- where blocks can be elements nothing is one line
pub rich-flat : (c : Context) → has_elements c ≡ true → c.is_flat ≡ false
rich-flat c e = from-not c.is_flat (both-true c.is_rich (not c.is_flat) e).1

-- what is in a node as blocks
pub blocks-at : (parts : Context → List Part) → GivesAt false parts → (c : Context) → FitsIn c
    → c.is_flat ≡ false
    → FineBlocks (bound c) false (flow.blocks_of false (parts c))
blocks-at ps h c f e = parts.blocks-of (bound c) false (ps c) (fine-as c.is_flat false (bound c) (ps c) e (h c f e))

-- ---- titles

pub within-fine : (n : Node) → FineNode n → Gives (within n)
within-fine n h c f =
    at (has roles.is_title n.tree) (has_elements c && is_linked_to_part c && show_usual_sign (content_of n.tree))
  where
    at : (a b : Bool) → FineParts c.is_flat (bound c) (n.content (cond a (cond b (unlinked c) c) c))
    at true true = unlinked-gives good n.content h.content c f
    at true false = h.content c f
    at false b = h.content c f

pub blocks-within-fine : (n : Node) → FineNode n → (c : Context) → FitsIn c → c.is_flat ≡ false
    → FineBlocks (bound c) false (blocks_within n c)
blocks-within-fine n h = blocks-at (within n) (λ c f e. within-fine n h c f)

title-at : (title : BlockElement) (n : Node) → FineNode n → GivesAt false (title_element title n)
title-at title n h c f e =
    let bs : Blocks = blocks_within n c in
    fine-apart c.is_flat (bound c) (element_part title [] bs)
    (element-part-fine c.is_flat (bound c) title [] bs refl (blocks-within-fine n h c f e))

as_title-at : (title : BlockElement) (n : Node) → FineNode n → FineAt false (as_title title n)
as_title-at title n h = either (has (is_title_of title) n.tree)
  where
    either : (b : Bool) → FineAt false (cond b (record n { whole = title_element title n }) n)
    either true = record { whole = title-at title n h; content = λ c f e. h.content c f }
    either false = node-at false n h

all-titles-at : (title : BlockElement) (nodes : List Node) → FineNodes nodes
    → AllAt false (map (as_title title) nodes)
all-titles-at title [] h = tt
all-titles-at title (n ∷ nodes) h = (as_title-at title n h.0, all-titles-at title nodes h.1)

titled-at : (title : BlockElement) (nodes : List Node) → FineNodes nodes → GivesAt false (titled title nodes)
titled-at title nodes h = flow-at false (map (as_title title) nodes) (all-titles-at title nodes h)

-- ---- details and figures

open-kept : (attributes : List AttributePair) → AreKept (open_attribute attributes)
unfolding is_utf8 chars
open-kept attributes = either (has_attribute (codes "open") attributes)
  where
    either : (b : Bool) → AreKept (cond b (record { name = attribute.Open; value = [] } ∷ []) [])
    either true = refl
    either false = refl

pub details-fine : (attributes : List AttributePair) (nodes : List Node) → FineNodes nodes
    → Gives (details_parts attributes nodes)
details-fine attributes nodes h c f =
    let inside : List Part =
    element_part name.Details (open_attribute attributes) (flow.blocks_of false (titled name.Summary nodes c)) in
    fine-apart c.is_flat (bound c) (if has_elements c then inside else flow_all nodes c)
    (fine-either c.is_flat (bound c) (has_elements c) inside (flow_all nodes c)
    (λ e. element-part-fine c.is_flat (bound c) name.Details (open_attribute attributes)
    (flow.blocks_of false (titled name.Summary nodes c)) (open-kept attributes)
    (blocks-at (titled name.Summary nodes) (titled-at name.Summary nodes h) c f (rich-flat c e)))
    (λ e. flow-fine nodes h c f))

captioned-at : (nodes : List Node) → FineNodes nodes → GivesAt false (captioned nodes)
captioned-at nodes h c f e = either (list_any (λ (n : Node). shows_title name.FigureCaption n.tree) nodes)
  where
    ps : List Part
    ps = titled name.FigureCaption nodes c

    either : (b : Bool) → FineParts c.is_flat (bound c) (figure_by b ps)
    either true =
        element-part-fine c.is_flat (bound c) name.Figure [] (flow.blocks_of false ps) refl
        (blocks-at (titled name.FigureCaption nodes) (titled-at name.FigureCaption nodes h) c f e)
    either false = titled-at name.FigureCaption nodes h c f e

pub figure-fine : (nodes : List Node) → FineNodes nodes → Gives (figure_parts nodes)
figure-fine nodes h c f =
    fine-apart c.is_flat (bound c) (if has_elements c then captioned nodes c else flow_all nodes c)
    (fine-either c.is_flat (bound c) (has_elements c) (captioned nodes c) (flow_all nodes c)
    (λ e. captioned-at nodes h c f (rich-flat c e)) (λ e. flow-fine nodes h c f))

-- ---- terms and what they mean

abbrev AllReady : ℕ → List Description → Type 0
AllReady n [] = Unit {0}
AllReady n (d ∷ ds) = IsReady n false false d.content × AllReady n ds

ready-append : (n : ℕ) (xs ys : List Description) → AllReady n xs → AllReady n ys → AllReady n (xs ++ ys)
ready-append n [] ys g h = h
ready-append n (x ∷ xs) ys g h = (g.0, ready-append n xs ys g.1 h)

last-ready : (n : ℕ) (ds : List Description) (ps : List Part) → AllReady n ds → FineParts false n ps
    → AllReady n (onto_last_description ds ps)
last-ready n [] ps h f = tt
last-ready n (d ∷ []) ps h f = (more-ready n false false ps d.content f h.0, tt)
last-ready n (d ∷ next ∷ ds) ps h f = (h.0, last-ready n (next ∷ ds) ps h.1 f)

more-before : (n : ℕ) (shows : Bool) (ds : List Description) → AllReady n ds → AllReady n (before_more shows ds)
more-before n shows ds h = either (shows && ends_with_term ds)
  where
    either : (b : Bool) → AllReady n (cond b (ds ++ description_with false [] ∷ []) ds)
    either true =
        ready-append n ds (description_with false [] ∷ []) h (begun-ready n false false [] (fine-nil false n), tt)
    either false = h

record AreDescribed (c : Context) (d : Descriptions) : Type 0 where
  before : FineParts false (bound c) d.before
  begun : AllReady (bound c) d.begun

module _ (c : Context) (f : FitsIn c) (flat : c.is_flat ≡ false) where
  either-described : (b : Bool) (d d' : Descriptions) → AreDescribed c d → AreDescribed c d'
      → AreDescribed c (cond b d d')
  either-described true d d' g h = g
  either-described false d d' g h = h

  between-fine : (d : Descriptions) (n : Node) → FineNode n → AreDescribed c d
      → AreDescribed c (with_between c d n)
  between-fine d n k h =
      let ps : List Part = flow_all (n ∷ []) c in
      let fine : FineParts false (bound c) ps =
      fine-as c.is_flat false (bound c) ps flat (flow-fine (n ∷ []) (k, tt) c f) in
      let ds : List Description = before_more (shows false n.tree) d.begun in
      either-described (nat_lt 0 (length d.begun)) (record d { begun = onto_last_description ds (edge ∷ ps) })
      (record d { before = d.before ++ ps })
      (record {
        before = h.before;
        begun = last-ready (bound c) ds (edge ∷ ps) (more-before (bound c) (shows false n.tree) d.begun h.begun)
            (fine-edge false (bound c) ps fine);
      })
      (record { before = fine-append false (bound c) d.before ps h.before fine; begun = h.begun })

  described-fine : (d : Descriptions) (n : Node) → FineNode n → AreDescribed c d
      → AreDescribed c (with_described c d n)
  described-fine d n k h =
      let ps : List Part = within n c in
      let one : Description = description_with (has roles.is_term n.tree) ps in
      either-described (has roles.is_term n.tree || has roles.is_meaning n.tree)
      (record d { begun = d.begun ++ one ∷ [] }) (with_between c d n)
      (record {
        before = h.before;
        begun = ready-append (bound c) d.begun (one ∷ []) h.begun (
          begun-ready (bound c) false false ps
              (fine-as c.is_flat false (bound c) ps flat (within-fine n k c f)),
          tt,
        );
      })
      (between-fine d n k h)

  description-fine : (d : Descriptions) (p : TermPart) → FineTerm p → AreDescribed c d
      → AreDescribed c (with_description c d p)
  description-fine d gap k h = h
  description-fine d (of_node n) k h = described-fine d n k h

  all-described : (ps : List TermPart) (d : Descriptions) → FineTerms ps → AreDescribed c d
      → AreDescribed c (fold (with_description c) d ps)
  all-described [] d k h = h
  all-described (p ∷ ps) d k h = all-described ps (with_description c d p) k.1 (description-fine d p k.0 h)

one-description : (n : ℕ) (d : Description) → IsReady n false false d.content
    → Fine n false (description_element d)
one-description n d h =
    let fine : FineBlocks n false (blocks_in d.content) = ready-blocks n false d.content h in
    ((and-true refl (may d.is_term (is_filled (blocks_in d.content))), fine.nearly, fine.stand), fine.depth)
  where
    may : (b filled : Bool) → (filled || may_be_empty (cond b name.Term name.Meaning)) ≡ true
    may true true = refl
    may true false = refl
    may false true = refl
    may false false = refl

each-description : (n : ℕ) (ds : List Description) → AllReady n ds → AllFine n false (map description_element ds)
each-description n [] h = tt
each-description n (d ∷ ds) h = (one-description n d h.0, each-description n ds h.1)

descriptions-stand : (ds : List Description) → these_stand false (blocks_of (map description_element ds)) ≡ true
descriptions-stand [] = refl
descriptions-stand (d ∷ ds) = descriptions-stand ds

list-fine : (flat : Bool) (n : ℕ) (ds : List Description) → AllReady n ds
    → FineParts flat n (element_of_descriptions ds)
list-fine flat n [] h = fine-nil flat n
list-fine flat n (d ∷ ds) h =
    let bs : Blocks = blocks_of (map description_element (d ∷ ds)) in
    let fine : FineBlocks n false bs =
    blocks-fine n false (map description_element (d ∷ ds)) (each-description n (d ∷ ds) h)
    (descriptions-stand (d ∷ ds)) in
    fine-either flat n (list_any is_filled_description (d ∷ ds)) (whole (document.element name.Terms [] bs) ∷ []) []
    (λ e. fine-whole flat n (document.element name.Terms [] bs) refl ((refl, fine.nearly, fine.stand), fine.depth))
    (λ e. fine-nil flat n)

pub described-parts-fine : (terms : List TermPart) → FineTerms terms → GivesAt false (described_parts terms)
described-parts-fine terms k c f e =
    let d : Descriptions = fold (with_description c) no_descriptions terms in
    let h : AreDescribed c d =
    all-described c f e terms no_descriptions k (record { before = fine-nil false (bound c); begun = tt }) in
    let last : List Part = element_of_descriptions d.begun in
    fine-as false c.is_flat (bound c) (parts_of_descriptions d) (sym e)
    (fine-append false (bound c) (edge ∷ d.before) (apart last) (fine-edge false (bound c) d.before h.before)
    (fine-apart false (bound c) last (list-fine false (bound c) d.begun h.begun)))
