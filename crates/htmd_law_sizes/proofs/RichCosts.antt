-- How much elements of rich documents give: titles, details, figures and terms.
use Rattle.std.proofs.Common.{◌≡◌, refl, ℕ, ◌+◌, ◌*◌, ◌≤◌, Bool, true, false, List, [], ◌∷◌, ◌++◌, length, map}
use Rattle.std.proofs.Common.{arith}
use Rattle.std.proofs.lemmas.List.{length-append}
use Rattle.std.specs.Prelude.{fold, nat_lt, ◌&&◌, ◌||◌, if◌then◌else◌, codes}
use Rattle.std.specs.List.{list_any, flat_map}
use Rattle.htmd_lexical.specs.AttributePairs.{AttributePair}
use Rattle.htmd_document.specs.declared.document.AttributeName.{AttributeName}
use Rattle.htmd_document.specs.declared.document.AttributeName.TheVariants as attribute
use Rattle.htmd_document.specs.declared.document.BlockElement.{BlockElement}
use Rattle.htmd_document.specs.declared.document.BlockElement.TheVariants as name
use Rattle.htmd_document.specs.Documents.{Blocks, no_blocks, block, BlockAttribute}
use Rattle.htmd_document.specs.Documents as document
use Rattle.htmd_document.specs.Tags.{element_name, attribute_name, attribute_text, escaped_value}
use Rattle.htmd_shown.specs.Attributes.{has_attribute}
use Rattle.htmd_shown.specs.Kinds.{has}
use Rattle.htmd_shown.specs.Roles as roles
use Rattle.htmd_shown.specs.Showings.{shows}
use Rattle.htmd_flow.specs.Contexts.{Context, has_elements, apart}
use Rattle.htmd_flow.specs.Flows.{Node, TermPart, gap, of_node, blocks_of, flow_all, element_part, around_node, within}
use Rattle.htmd_flow.specs.Flows.{blocks_within, is_title_of, title_element, as_title, titled, open_attribute}
use Rattle.htmd_flow.specs.Flows.{details_parts, shows_title, figure_by, captioned, figure_parts, Description}
use Rattle.htmd_flow.specs.Flows.{Descriptions, no_descriptions, description_with, onto_last_description, ends_with_term}
use Rattle.htmd_flow.specs.Flows.{before_more, with_between, with_described, with_description, description_element}
use Rattle.htmd_flow.specs.Flows.{is_filled_description, element_of_descriptions, described_parts}
use Rattle.htmd_flow.specs.Paragraphs.{begun}
use Rattle.htmd_flow.specs.Parts.{Part, edge, whole}
use Rattle.htmd_flow.specs.TableElements.{attribute_with}
use Rattle.htmd_law_sizes.specs.SimpleSizes.{size_of_simple}
use Rattle.htmd_law_sizes.proofs.ContextRooms.{Within, node_within}
use Rattle.htmd_law_sizes.proofs.HeavySizes.{both_tags, heavy}
use Rattle.htmd_law_sizes.proofs.NodeCosts.{Fit, AllFit, worth, flow_le, single_le}
use Rattle.htmd_law_sizes.proofs.PartCosts.{weight, costs, costs_append, fed_all_le, blocks_weight, blocks_cost}
use Rattle.htmd_law_sizes.proofs.TermCosts.{TermsFit, terms_worth}

-- ---- tags

name_le : (n : BlockElement) → length (element_name n) ≤ 10
name_le name.Details = omega arith
name_le name.Summary = omega arith
name_le name.Terms = omega arith
name_le name.Term = omega arith
name_le name.Meaning = omega arith
name_le name.Figure = omega arith
name_le name.FigureCaption = omega arith
name_le name.Table = omega arith
name_le name.Caption = omega arith
name_le name.Row = omega arith
name_le name.Cell = omega arith
name_le name.HeaderCell = omega arith

attribute_name_le : (a : AttributeName) → length (attribute_name a) ≤ 7
attribute_name_le attribute.Open = omega arith
attribute_name_le attribute.Border = omega arith
attribute_name_le attribute.ColumnSpan = omega arith
attribute_name_le attribute.RowSpan = omega arith
attribute_name_le attribute.Align = omega arith

-- what attributes are written as
abbrev pub attributes_size : List BlockAttribute → ℕ
attributes_size attributes = length (flat_map attribute_text attributes)

pub one_attribute : (a : AttributeName) (s : List ℕ)
    → attributes_size (attribute_with a s) ≤ 11 + length (escaped_value s)
one_attribute a s =
    let begin = attribute_name a ++ codes "=\"" in
    let value = escaped_value s in
    omega (
      arith,
      length-append (begin ++ value ++ codes "\"") [],
      length-append (begin ++ value) (codes "\""),
      length-append begin value,
      length-append (attribute_name a) (codes "=\""),
      attribute_name_le a,
    )

pub tags_le : (n : BlockElement) (attributes : List BlockAttribute)
    → both_tags n attributes ≤ 27 + attributes_size attributes
tags_le n attributes =
    omega (
      arith,
      length-append (element_name n ++ flat_map attribute_text attributes) (codes ">"),
      length-append (element_name n) (flat_map attribute_text attributes),
      length-append (element_name n) (codes ">"),
      name_le n,
    )

pub bare_tags : (n : BlockElement) → both_tags n [] ≤ 27
bare_tags n = omega (arith, tags_le n [])

element_part_le : (n : BlockElement) (attributes : List BlockAttribute) (bs : Blocks)
    → costs (element_part n attributes bs) ≤ 1 + both_tags n attributes + heavy bs
element_part_le n attributes no_blocks = omega arith
element_part_le n attributes (block b bs) = omega arith

-- ---- titles

within_le : (n : Node) (c : Context) → Fit n → Within c.around
    → costs (within n c) + 400 ≤ 400 * size_of_simple n.tree
within_le n c f w = f.inner (around_node n.tree c) (node_within n.tree c w)

-- as blocks
pub blocks_le : (n : Node) (c : Context) → Fit n → Within c.around
    → heavy (blocks_within n c) + 399 ≤ 400 * size_of_simple n.tree
blocks_le n c f w = omega (arith, blocks_cost false (within n c), within_le n c f w)

title_le : (title : BlockElement) (n : Node) (c : Context) → Fit n → Within c.around
    → costs (title_element title n c) + 50 ≤ 400 * size_of_simple n.tree
title_le title n c f w =
    simp costs_append
    (omega (arith, element_part_le title [] (blocks_within n c), bare_tags title, blocks_le n c f w))

title_fit : (title : BlockElement) (n : Node) → Fit n → Fit (as_title title n)
title_fit title n f = go (has (is_title_of title) n.tree)
  where
    go : (t : Bool) → Fit (if t then record n { whole = title_element title n } else n)
    go true = record { outer = λ c w. title_le title n c f w; inner = λ c w. f.inner c w }
    go false = f

titled_fit : (title : BlockElement) (nodes : List Node) → AllFit nodes → AllFit (map (as_title title) nodes)
titled_fit title [] f = tt
titled_fit title (n ∷ nodes) f = (title_fit title n f.0, titled_fit title nodes f.1)

pub same_tree : (title : BlockElement) (n : Node) → (as_title title n).tree ≡ n.tree
same_tree title n = go (has (is_title_of title) n.tree)
  where
    go : (t : Bool) → (if t then record n { whole = title_element title n } else n).tree ≡ n.tree
    go true = refl
    go false = refl

titled_worth : (title : BlockElement) (nodes : List Node) → worth (map (as_title title) nodes) ≡ worth nodes
titled_worth title [] = refl
titled_worth title (n ∷ nodes) = rw (same_tree title n) (omega (arith, titled_worth title nodes))

titled_le : (title : BlockElement) (nodes : List Node) (c : Context) → AllFit nodes → Within c.around
    → costs (titled title nodes c) ≤ worth nodes
titled_le title nodes c f w =
    omega (
      arith,
      flow_le (map (as_title title) nodes) c (titled_fit title nodes f) w,
      titled_worth title nodes,
    )

-- ---- details and figures

open_size : (attributes : List AttributePair) → attributes_size (open_attribute attributes) ≤ 11
open_size attributes = go (has_attribute (codes "open") attributes)
  where
    go : (t : Bool) → attributes_size (if t then attribute_with attribute.Open [] else []) ≤ 11
    go true = omega (arith, one_attribute attribute.Open [])
    go false = omega arith

pub details_le : (attributes : List AttributePair) (nodes : List Node) (c : Context) → AllFit nodes
    → Within c.around → costs (details_parts attributes nodes c) ≤ 45 + worth nodes
details_le attributes nodes c f w = go (has_elements c)
  where
    parts : List Part
    parts = titled name.Summary nodes c

    bs : Blocks
    bs = blocks_of false parts

    go : (t : Bool)
        → costs (apart (if t then element_part name.Details (open_attribute attributes) bs else flow_all nodes c))
        ≤ 45 + worth nodes
    go true =
        simp costs_append
        (omega (
          arith,
          element_part_le name.Details (open_attribute attributes) bs,
          tags_le name.Details (open_attribute attributes),
          open_size attributes,
          blocks_cost false parts,
          titled_le name.Summary nodes c f w,
        ))
    go false = simp costs_append (omega (arith, flow_le nodes c f w))

figure_by_le : (t : Bool) (parts : List Part) → costs (figure_by t parts) ≤ 30 + costs parts
figure_by_le true parts =
    omega (
      arith,
      element_part_le name.Figure [] (blocks_of false parts),
      bare_tags name.Figure,
      blocks_cost false parts,
    )
figure_by_le false parts = omega arith

pub figure_le : (nodes : List Node) (c : Context) → AllFit nodes → Within c.around
    → costs (figure_parts nodes c) ≤ 32 + worth nodes
figure_le nodes c f w = go (has_elements c)
  where
    shown : Bool
    shown = list_any (λ (n : Node). shows_title name.FigureCaption n.tree) nodes

    go : (t : Bool) → costs (apart (if t then captioned nodes c else flow_all nodes c)) ≤ 32 + worth nodes
    go true =
        simp costs_append
        (omega (
          arith,
          figure_by_le shown (titled name.FigureCaption nodes c),
          titled_le name.FigureCaption nodes c f w,
        ))
    go false = simp costs_append (omega (arith, flow_le nodes c f w))

-- ---- terms

-- 28 more for each that is begun
abbrev started : List Description → ℕ
started [] = 0
started (d ∷ ds) = 28 + weight d.content + started ds

started_append : (a b : List Description) → started (a ++ b) ≡ started a + started b
started_append [] b = omega arith
started_append (d ∷ a) b = omega (arith, started_append a b)

new_weight : (t : Bool) (parts : List Part) → weight (description_with t parts).content ≤ costs parts
new_weight t parts = omega (arith, fed_all_le parts (begun false false))

onto_le : (ds : List Description) (parts : List Part)
    → started (onto_last_description ds parts) ≤ started ds + costs parts
onto_le [] parts = omega arith
onto_le (d ∷ []) parts = omega (arith, fed_all_le parts d.content)
onto_le (d ∷ next ∷ ds) parts = omega (arith, onto_le (next ∷ ds) parts)

before_le : (t : Bool) (ds : List Description) → started (before_more t ds) ≤ started ds + 28
before_le t ds = go (t && ends_with_term ds)
  where
    go : (x : Bool) → started (if x then ds ++ description_with false [] ∷ [] else ds) ≤ started ds + 28
    go true = omega (arith, started_append ds (description_with false [] ∷ []), new_weight false [])
    go false = omega arith

abbrev described_size : Descriptions → ℕ
described_size d = costs d.before + started d.begun

between_le : (c : Context) (d : Descriptions) (n : Node) → Fit n → Within c.around
    → described_size (with_between c d n) ≤ described_size d + 400 * size_of_simple n.tree
between_le c d n f w = go (nat_lt 0 (length d.begun))
  where
    parts : List Part
    parts = flow_all (n ∷ []) c

    ds : List Description
    ds = before_more (shows false n.tree) d.begun

    go : (t : Bool)
        → described_size
        (if t then record d { begun = onto_last_description ds (edge ∷ parts) }
        else record d { before = d.before ++ parts })
        ≤ described_size d + 400 * size_of_simple n.tree
    go true =
        omega (
          arith,
          onto_le ds (edge ∷ parts),
          before_le (shows false n.tree) d.begun,
          single_le n c f w,
        )
    go false = omega (arith, costs_append d.before parts, single_le n c f w)

node_le : (c : Context) (d : Descriptions) (n : Node) → Fit n → Within c.around
    → described_size (with_described c d n) ≤ described_size d + 400 * size_of_simple n.tree
node_le c d n f w = go (has roles.is_term n.tree || has roles.is_meaning n.tree)
  where
    is_term : Bool
    is_term = has roles.is_term n.tree

    go : (t : Bool)
        → described_size
        (if t then record d { begun = d.begun ++ description_with is_term (within n c) ∷ [] }
        else with_between c d n)
        ≤ described_size d + 400 * size_of_simple n.tree
    go true =
        omega (
          arith,
          started_append d.begun (description_with is_term (within n c) ∷ []),
          new_weight is_term (within n c),
          within_le n c f w,
        )
    go false = between_le c d n f w

all_le : (c : Context) (d : Descriptions) (parts : List TermPart) → TermsFit parts → Within c.around
    → described_size (fold (with_description c) d parts) ≤ described_size d + terms_worth parts
all_le c d [] f w = omega arith
all_le c d (gap ∷ parts) f w = all_le c d parts f w
all_le c d (of_node n ∷ parts) f w =
    omega (arith, all_le c (with_described c d n) parts f.1 w, node_le c d n f.0 w)

elements_le : (ds : List Description) → heavy (document.blocks_of (map description_element ds)) ≤ started ds
elements_le [] = omega arith
elements_le (d ∷ ds) =
    omega (
      arith,
      elements_le ds,
      bare_tags (if d.is_term then name.Term else name.Meaning),
      blocks_weight d.content,
    )

element_le : (ds : List Description) → costs (element_of_descriptions ds) ≤ 28 + started ds
element_le ds = go (list_any is_filled_description ds)
  where
    go : (t : Bool)
        → costs
        (if t then whole (document.element name.Terms [] (document.blocks_of (map description_element ds))) ∷ []
        else [])
        ≤ 28 + started ds
    go true = omega (arith, elements_le ds, bare_tags name.Terms)
    go false = omega arith

pub described_le : (parts : List TermPart) (c : Context) → TermsFit parts → Within c.around
    → costs (described_parts parts c) ≤ 31 + terms_worth parts
described_le parts c f w =
    let d = fold (with_description c) no_descriptions parts in
    omega (
      arith,
      all_le c no_descriptions parts f w,
      costs_append (edge ∷ d.before) (apart (element_of_descriptions d.begun)),
      costs_append (element_of_descriptions d.begun) (edge ∷ []),
      element_le d.begun,
    )
