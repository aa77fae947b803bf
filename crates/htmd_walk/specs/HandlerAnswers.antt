-- What the handlers of an element's tag make of it where it stands in a tree.
use Rattle.std.specs.Prelude.{ℕ, Bool, List}
use Rattle.htmd_nodes.specs.Items.{Item, Data, document_node, doctype_node, text_node, comment_node, element_node}
use Rattle.htmd_nodes.specs.Items.{data_at}
use Rattle.htmd_nodes.specs.NumberedTrees.{tree_of, height}
use Rattle.htmd_nodes.specs.Ancestors.{ancestor_of}
use Rattle.htmd_walk.specs.Choice.{Config}
use Rattle.htmd_walk.specs.Groups.{children_at}
use Rattle.htmd_walk.specs.Outputs.{Conversion, conversion_of}
use Rattle.htmd_walk.specs.Elements.{Occurrence, Answer, answer_after, view_at}
use Rattle.htmd_walk.specs.Rendering.{written_within, inside_of}

abbrev pub IsElement : Data → Type 0
IsElement document_node = ⊥
IsElement doctype_node = ⊥
IsElement (text_node s) = ⊥
IsElement (comment_node s) = ⊥
IsElement (element_node name attributes) = Unit {0}

-- an element of the tree, with all levels below it; what comes before it is Markdown or not
abbrev pub occurrence_in_tree : Conversion → ℕ → Bool → Occurrence
occurrence_in_tree conversion id markdown_translated = record {
  write = written_within (height (tree_of conversion.items id)) conversion;
  conversion = conversion;
  view = view_at conversion id markdown_translated (children_at conversion.items id);
  inside = inside_of conversion.items id;
  children = children_at conversion.items id;
}

-- the handlers of its tag from the one after this many newer ones on, with the definitions so far
unfoldable pub handled : Config → List Item → ℕ → Bool → ℕ → List (List ℕ) → Answer
handled config items id markdown_translated skipped definitions =
    let at = occurrence_in_tree (conversion_of config items) id markdown_translated in
    answer_after skipped (ancestor_of (data_at items id)).tag at definitions
