-- Nodes of the source: what each is, how deep it is, and what it gives.
use Rattle.std.proofs.Common.{◌≡◌, ℕ, suc, ◌<◌, Bool, List, [], ◌∷◌, map}
use Rattle.std.proofs.Common.{refl, sym, ap, ◌∙◌, arith, string_bytes}
use Rattle.std.specs.Global.{Box}
use Rattle.std.specs.Prelude.{max, Option, option_map, Vec, String}
use Rattle.std.specs.Borrow.{Bor}
use Rattle.std.specs.declared.alloc.Global.{Global}
use Rattle.htmd_lexical.specs.Attributes.{pairs_of}
use Rattle.htmd_lexical.specs.declared.attribute.Attribute.{Attribute}
use Rattle.htmd_shown.specs.declared.facts.Facts.{Facts}
use Rattle.htmd_shown.specs.declared.role.Role.{Role}
use Rattle.htmd_shown.specs.declared.simple.Embedded.{Embedded}
use Rattle.htmd_shown.specs.declared.simple.Simple.{Simple, fold-roll-Simple}
use Rattle.htmd_shown.specs.declared.simple.Simple.TheOpen.{Simple-F}
use Rattle.htmd_shown.specs.declared.simple.Simple.TheVariants as source
use Rattle.htmd_shown.specs.Kinds.{content_of}
use Rattle.htmd_shown.specs.ShownTexts.{shown_text}
use Rattle.htmd_shown.specs.SimpleTrees as value
use Rattle.htmd_shown.specs.SimpleViews.{simple_step, simple_of, simples_of}
use Rattle.htmd_lexical.specs.AttributePairs.{AttributePair}
use Rattle.htmd_flow.specs.Contexts.{Context, run_in}
use Rattle.htmd_flow.specs.Flows.{Node, Element, node_of, nodes_of, nodes_below, flow_all, rows_of_table, pieces_of, terms_of}
use Rattle.htmd_flow.specs.Flows.{parts_of, image_parts, formula_parts}
use Rattle.htmd_flow.specs.FlowViews.{node_at, nodes_at, embedded_parts}
use Rattle.htmd_flow.specs.Levels.{list_of, height, height_among, highest}
use Rattle.htmd_flow.specs.Parts.{place}

-- ---- the same nodes, as a list

pub list_of_simples : (trees : List value.Simple) → list_of (value.simples_of trees) ≡ trees
list_of_simples [] = refl
list_of_simples (t ∷ trees) = ap (λ ts. t ∷ ts) (list_of_simples trees)

pub nodes_of_simples : (trees : List value.Simple) → nodes_of (value.simples_of trees) ≡ map node_of trees
unfolding nodes_of
nodes_of_simples [] = refl
nodes_of_simples (t ∷ trees) = ap (λ ns. node_of t ∷ ns) (nodes_of_simples trees)

pub mapped_nodes : (trees : List Simple) → map node_of (map simple_of trees) ≡ nodes_at trees
mapped_nodes [] = refl
mapped_nodes (t ∷ trees) = ap (λ ns. node_at t ∷ ns) (mapped_nodes trees)

pub nodes_are : (trees : List Simple) → nodes_of (simples_of trees) ≡ nodes_at trees
nodes_are trees = nodes_of_simples (map simple_of trees) ∙ mapped_nodes trees

pub trees_are : (trees : List Simple) → list_of (simples_of trees) ≡ map simple_of trees
trees_are trees = list_of_simples (map simple_of trees)

pub content_listed : (tree : value.Simple) (content : List Simple) → simples_of content ≡ content_of tree
    → map simple_of content ≡ list_of (content_of tree)
content_listed tree content e = sym (trees_are content) ∙ ap list_of e

pub height_is : (trees : List value.Simple) → height_among (value.simples_of trees) ≡ highest trees
height_is [] = refl
height_is (t ∷ trees) = ap (max (height t)) (height_is trees)

-- ---- what a node is

pub text_shape : (s : Bor (List ℕ)) → simple_of (source.Text s) ≡ value.text (shown_text s.now)
text_shape s = ap simple_of (sym (source.rolls-Text s)) ∙ fold-roll-Simple value.Simple simple_step (Simple-F.Text s)

pub image_shape : (address : Option (Bor (List ℕ))) (attrs : Bor (List Attribute))
    → simple_of (source.Image address attrs) ≡ value.image (option_map (λ s. s.now) address) (pairs_of attrs.now)
image_shape address attrs =
    ap simple_of (sym (source.rolls-Image address attrs))
    ∙ fold-roll-Simple value.Simple simple_step (Simple-F.Image address attrs)

pub formula_shape : (tex : String Global) (is_alone : Bool) (attrs : Bor (List Attribute))
    → simple_of (source.Formula tex is_alone attrs) ≡ value.formula (string_bytes tex) is_alone (pairs_of attrs.now)
formula_shape tex is_alone attrs =
    ap simple_of (sym (source.rolls-Formula tex is_alone attrs))
    ∙ fold-roll-Simple value.Simple simple_step (Simple-F.Formula tex is_alone attrs)

pub anchor_shape : (id : String Global) → simple_of (source.Anchor id) ≡ value.anchor (string_bytes id)
anchor_shape id =
    ap simple_of (sym (source.rolls-Anchor id)) ∙ fold-roll-Simple value.Simple simple_step (Simple-F.Anchor id)

pub element_shape : (id : ℕ) (role : Role) (facts : Facts) (attrs : Bor (List Attribute))
    (content : Vec Simple Global)
    → simple_of (source.Element id role facts attrs content)
    ≡ value.element id role facts (pairs_of attrs.now) (simples_of content.items)
element_shape id role facts attrs content =
    ap simple_of (sym (source.rolls-Element id role facts attrs content))
    ∙ fold-roll-Simple value.Simple simple_step (Simple-F.Element id role facts attrs content)

-- ---- how deep it is

nothing_lower : (content : List Simple) → simples_of content ≡ value.none → highest (map simple_of content) < 1
nothing_lower [] e = omega arith
nothing_lower (t ∷ content) e = (cc)

pub content_lower : (tree : value.Simple) (content : List Simple) → simples_of content ≡ content_of tree
    → highest (map simple_of content) < height tree
content_lower (value.element id role facts attributes inner) content e =
    let h : highest (map simple_of content) ≡ height_among inner =
    sym (height_is (map simple_of content)) ∙ ap height_among e in
    omega (arith, h)
content_lower (value.text s) content e = nothing_lower content e
content_lower (value.image address attributes) content e = nothing_lower content e
content_lower (value.formula tex is_alone attributes) content e = nothing_lower content e
content_lower (value.embedded id address title attributes anchors) content e = nothing_lower content e
content_lower (value.anchor id) content e = nothing_lower content e

-- ---- what is in it

pub below_is : (tree : value.Simple) → nodes_below tree ≡ nodes_of (content_of tree)
unfolding nodes_of nodes_below
below_is (value.element id role facts attributes inner) = refl
below_is (value.text s) = refl
below_is (value.image address attributes) = refl
below_is (value.formula tex is_alone attributes) = refl
below_is (value.embedded id address title attributes anchors) = refl
below_is (value.anchor id) = refl

pub tree_is : (tree : value.Simple) → (node_of tree).tree ≡ tree
unfolding node_of
tree_is (value.element id role facts attributes inner) = refl
tree_is (value.text s) = refl
tree_is (value.image address attributes) = refl
tree_is (value.formula tex is_alone attributes) = refl
tree_is (value.embedded id address title attributes anchors) = refl
tree_is (value.anchor id) = refl

content_flow : (tree : value.Simple) (context : Context)
    → (node_of tree).content context ≡ flow_all (nodes_of (content_of tree)) context
unfolding node_of nodes_of
content_flow (value.element id role facts attributes inner) context = refl
content_flow (value.text s) context = refl
content_flow (value.image address attributes) context = refl
content_flow (value.formula tex is_alone attributes) context = refl
content_flow (value.embedded id address title attributes anchors) context = refl
content_flow (value.anchor id) context = refl

-- of its content in the source
pub content_is : (tree : value.Simple) (content : List Simple) (context : Context) → simples_of content
    ≡ content_of tree
    → flow_all (nodes_at content) context ≡ (node_of tree).content context
content_is tree content context e =
    ap (λ ns. flow_all ns context) (sym (nodes_are content) ∙ ap nodes_of e) ∙ sym (content_flow tree context)

-- ---- all of a node

pub whole_text : (s : Bor (List ℕ)) (context : Context)
    → (node_at (source.Text s)).whole context ≡ run_in context (shown_text s.now) ∷ []
unfolding node_of
whole_text s context = ap (λ t. (node_of t).whole context) (text_shape s)

pub whole_image : (address : Option (Bor (List ℕ))) (attrs : Bor (List Attribute)) (context : Context)
    → (node_at (source.Image address attrs)).whole context
    ≡ image_parts (option_map (λ s. s.now) address) (pairs_of attrs.now) context
unfolding node_of
whole_image address attrs context = ap (λ t. (node_of t).whole context) (image_shape address attrs)

pub whole_formula : (tex : String Global) (is_alone : Bool) (attrs : Bor (List Attribute)) (context : Context)
    → (node_at (source.Formula tex is_alone attrs)).whole context
    ≡ formula_parts (string_bytes tex) is_alone context
unfolding node_of
whole_formula tex is_alone attrs context = ap (λ t. (node_of t).whole context) (formula_shape tex is_alone attrs)

pub whole_anchor : (id : String Global) (context : Context)
    → (node_at (source.Anchor id)).whole context ≡ place (string_bytes id) ∷ []
unfolding node_of
whole_anchor id context = ap (λ t. (node_of t).whole context) (anchor_shape id)

embedded_shape : (found : Box Embedded) → simple_of (source.Embedded found)
    ≡ value.embedded found.value.node (string_bytes found.value.address) (string_bytes found.value.title)
    (pairs_of found.value.attrs.now) (map string_bytes found.value.anchors.items)
embedded_shape found =
    ap simple_of (sym (source.rolls-Embedded found))
    ∙ fold-roll-Simple value.Simple simple_step (Simple-F.Embedded found)

pub whole_embedded : (found : Box Embedded) (context : Context)
    → (node_at (source.Embedded found)).whole context ≡ embedded_parts found.value context
unfolding node_of
whole_embedded found context = ap (λ t. (node_of t).whole context) (embedded_shape found)

-- an element of these nodes
abbrev pub element_with : ℕ → Facts → List AttributePair → List Simple → List Node → Element
element_with id facts attributes content nodes = record {
  id = id;
  facts = facts;
  attributes = attributes;
  content = simples_of content;
  nodes = nodes;
  rows = rows_of_table (simples_of content);
  pieces = pieces_of (simples_of content);
  terms = terms_of (simples_of content);
}

pub whole_element : (id : ℕ) (role : Role) (facts : Facts) (attrs : Bor (List Attribute))
    (content : Vec Simple Global)
    (context : Context) (items : List Simple) → items ≡ content.items
    → parts_of role (element_with id facts (pairs_of attrs.now) items (nodes_at items)) context
    ≡ (node_at (source.Element id role facts attrs content)).whole context
unfolding node_of
whole_element id role facts attrs content context items e =
    ap (λ xs. parts_of role (element_with id facts (pairs_of attrs.now) xs (nodes_at xs)) context) e
    ∙ ap (λ ns. parts_of role (element_with id facts (pairs_of attrs.now) content.items ns) context)
    (sym (nodes_are content.items))
    ∙ sym (ap (λ t. (node_of t).whole context) (element_shape id role facts attrs content))

-- its content is lower
pub element_lower : (id : ℕ) (role : Role) (facts : Facts) (attrs : Bor (List Attribute))
    (content : Vec Simple Global)
    (tree : Simple) → tree ≡ source.Element id role facts attrs content
    → highest (map simple_of content.items) < height (simple_of tree)
element_lower id role facts attrs content tree e =
    let h : height (simple_of tree) ≡ suc (highest (map simple_of content.items)) =
    ap (λ t. height (simple_of t)) e ∙ ap height (element_shape id role facts attrs content)
    ∙ ap suc (height_is (map simple_of content.items)) in
    omega (arith, h)
