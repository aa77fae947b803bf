-- The block of an element of a document that was read is read back.
use Rattle.std.proofs.Common.{◌≡◌, ℕ, ◌<◌, Bool, true, List, [], ◌∷◌, length, sym, ap, ◌∙◌, subst, inl, inr}
use Rattle.std.proofs.Common.{Option, Some, None, is_some}
use Rattle.std.specs.Str.{IsUtf8}
use Rattle.htmd_lexical.specs.BlankLines.{with_blank_lines}
use Rattle.htmd_lexical.specs.AttributePairs.{AttributePair}
use Rattle.htmd_values.specs.ValueTrees.{ValueTree, document, doctype, text, comment, element}
use Rattle.htmd_values.specs.ValueTrees.{ValueForest, none, more}
use Rattle.htmd_grammar.specs.Rules.{project}
use Rattle.htmd_grammar.specs.Nesting.{Context}
use Rattle.htmd_grammar.specs.Comments.{behind_doctype}
use Rattle.htmd_grammar.specs.HtmlDocuments.{above_body, below_body, body_text, with_doctype, skeleton}
use Rattle.htmd_lexical.specs.ByteOrderMarks.{behind_mark}
use Rattle.htmd_grammar.specs.HtmlDocuments.{ReadsDocument}
use Rattle.htmd_values.specs.Serialisation.{serialisation}
use Rattle.htmd_values.specs.RawBlocks.{raw_block}
use Rattle.htmd_grammar.specs.ReadBack.{IsIn, AreIn, reads_alone, IsElementAlone, DenotesAlone, RawBlockReadsBack}
use Rattle.htmd_grammar.specs.ReaderSteps.{body, with_children}
use Rattle.htmd_nodes.specs.Items.{Data, Item, element_node, data_at, depth_at}
use Rattle.htmd_nodes.specs.NumberedTrees.{forest_from, tree_of, value_tree, value_forest}
use Rattle.htmd_nodes.specs.NumberedTrees as numbered
use Rattle.htmd_nodes.specs.Layout.{document_items}
use Rattle.htmd_tree.specs.OpenItems.{stack_items}
use Rattle.htmd_tree.specs.NodeValues.{ancestor_names}
use Rattle.htmd_nodes.specs.NumberedTrees.{value_at}
use Rattle.htmd_tree.proofs.NodeValuesLemmas.{laid_out, are_content, parts_with, parts_without, forest_is_content}

-- a node below others has a parent
mutual
  in_context : (t : ValueTree) (p : List ℕ) (c d : Context) (u : ValueTree) → IsIn (p ∷ c) t d u
      → (parent : List ℕ) × (above : Context) × (d ≡ parent ∷ above)
  in_context (document children) p c d u h = absurd h
  in_context doctype p c d u h = absurd h
  in_context (text v) p c d u h = (p, c, h.0)
  in_context (comment v) p c d u h = (p, c, h.0)
  in_context (element n attributes children) p c d u h = elim h [
    | inl a ↦ (p, c, a.0)
    | inr b ↦ are_in_context children n (p ∷ c) d u b
  ]

  are_in_context : (ts : ValueForest) (p : List ℕ) (c d : Context) (u : ValueTree) → AreIn (p ∷ c) ts d u
      → (parent : List ℕ) × (above : Context) × (d ≡ parent ∷ above)
  are_in_context none p c d u h = absurd h
  are_in_context (more t ts) p c d u h = elim h [
    | inl a ↦ in_context t p c d u a
    | inr b ↦ are_in_context ts p c d u b
  ]

element_at : (items : List Item) (id : ℕ) (n : List ℕ) (attributes : List AttributePair)
    → data_at items id ≡ element_node n attributes
    → value_at items id ≡ element n attributes (value_forest (forest_from 0 items id))
unfolding tree_of
element_at items id n attributes e =
    ap (λ (x : Data). value_tree (numbered.with_children id x (forest_from 0 items id))) e

parts_of : (o : Option (List ℕ)) (content : ValueForest) → are_content content ≡ true → (id : ℕ)
    → 2 < depth_at (stack_items (is_some o) (with_children body content ∷ [])) id
    → id < length (stack_items (is_some o) (with_children body content ∷ []))
    → AreIn below_body content (ancestor_names (stack_items (is_some o) (with_children body content ∷ [])) id)
    (value_at (stack_items (is_some o) (with_children body content ∷ [])) id)
parts_of None content a id l m = parts_without content a id l m
parts_of (Some rest) content a id l m = parts_with content a id l m

children_are : (ts us : ValueForest) → document ts ≡ document us → ts ≡ us
children_are ts us e = (cc)

-- a node below `body` is a part of the content
pub node_is_part : (o : Option (List ℕ)) (content children : ValueForest) → are_content content ≡ true
    → children ≡ with_doctype o (skeleton content) → (items : List Item) → items ≡ document_items children
    → (id : ℕ) → 2 < depth_at items id → id < length items
    → AreIn below_body content (ancestor_names items id) (value_at items id)
node_is_part o content children a e items same id l m =
    let laid : stack_items (is_some o) (with_children body content ∷ []) ≡ items =
    laid_out o content ∙ sym (same ∙ ap document_items e) in
    subst (λ (y : List Item). 2 < depth_at y id → id < length y
    → AreIn below_body content (ancestor_names y id) (value_at y id)) laid (parts_of o content a id) l m

pub block_reads_back : (scripting : Bool) → RawBlockReadsBack (project scripting)
    → (s : List ℕ) (children : ValueForest) (items : List Item) → items ≡ document_items children
    → ReadsDocument (project scripting) s (document children) → (id : ℕ) → 2 < depth_at items id
    → id < length items
    → (n : List ℕ) (attributes : List AttributePair) → data_at items id ≡ element_node n attributes
    → reads_alone (value_at items id) ≡ true → IsUtf8 (serialisation (value_at items id))
    → (x : List ℕ) → raw_block (serialisation (value_at items id)) ≡ with_blank_lines x
    → DenotesAlone (project scripting) (ancestor_names items id) x (more (value_at items id) none)
block_reads_back scripting law s children items same r id l m n attributes what plain utf8 x block =
    let o : Option (List ℕ) = behind_doctype (behind_mark s) in
    let content : ValueForest = r.1 in
    let part = node_is_part o content children
    (forest_is_content (project scripting) content below_body true (body_text s) (r.3))
    (children_are children (with_doctype o (skeleton content)) (r.2)) items same id l m in
    let p = are_in_context content _ above_body (ancestor_names items id) (value_at items id) part in
    let here : IsElementAlone below_body content (ancestor_names items id) (value_at items id) = record {
      parent = p.0;
      above = p.1;
      context = p.2;
      name = n;
      attributes = attributes;
      children = value_forest (forest_from 0 items id);
      is_element = element_at items id n attributes what;
      stands = part;
      plain = plain;
    } in
    law below_body (body_text s) content (r.3) (ancestor_names items id) (value_at items id) here utf8 x block
