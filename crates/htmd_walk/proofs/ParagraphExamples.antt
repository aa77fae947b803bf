-- Worked examples of paragraphs that are read back.
use Rattle.std.proofs.Common.{◌≡◌, ℕ, List, [], ◌∷◌, ◌++◌, length, Some, codes, refl}
use Rattle.htmd_text.specs.Blocks.{is_block}
use Rattle.htmd_nodes.specs.Items.{Item, document_item, new_item, element_node, text_node}
use Rattle.htmd_values.specs.ValueTrees.{document}
use Rattle.htmd_nodes.specs.NumberedTrees.{tree_of, forest_from, value_tree}
use Rattle.htmd_nodes.specs.Ancestors.{ancestors_of, ancestors_up}
use Rattle.htmd_walk.specs.Defaults.{default_options}
use Rattle.htmd_walk.specs.BuiltIn.{built_in}
use Rattle.htmd_walk.specs.Rendering.{written_within}
use Rattle.htmd_walk.specs.Markdown.{markdown}
use Rattle.htmd_walk.specs.ParagraphLaws.{paragraphs, cut_at_blank_lines, parts_of, texts_read, texts_shown}

-- a Document of these, each under its parent
one : List Item
one = document_item ∷ []

with_paragraph : List ℕ → List Item → List Item
with_paragraph s items =
    let longer = items ++ new_item items 0 (element_node (codes "p") []) ∷ [] in
    longer ++ new_item longer (length items) (text_node s) ∷ []

three_paragraphs : List Item
three_paragraphs = with_paragraph (codes " *b ") (with_paragraph [] (with_paragraph (codes "a ") one))

three_are_paragraphs : value_tree (tree_of three_paragraphs 0)
    ≡ document (paragraphs (Some (codes "a ") ∷ Some [] ∷ Some (codes " *b ") ∷ []))
unfolding tree_of forest_from three_paragraphs with_paragraph one
three_are_paragraphs = refl

three_converted : markdown (built_in default_options) three_paragraphs 0 ≡ codes "a \n\n\\*b"
unfolding markdown written_within tree_of forest_from ancestors_of ancestors_up is_block three_paragraphs
    with_paragraph one
three_converted = refl

three_read : texts_read (codes "a \n\n\\*b") ≡ codes "a " ∷ codes "*b" ∷ []
three_read = refl

three_shown : texts_shown (codes "a " ∷ [] ∷ codes " *b " ∷ []) ≡ codes "a " ∷ codes "*b" ∷ []
three_shown = refl

block_starts_read : texts_read (codes "1\\. a\n\n\\# b\n\n\\* c\\_d")
    ≡ codes "1. a" ∷ codes "# b" ∷ codes "* c_d" ∷ []
block_starts_read = refl

-- the empty text has no parts, and a blank line at an end parts an empty text
nothing_parted : parts_of [] ≡ []
nothing_parted = refl

ends_parted : cut_at_blank_lines (codes "\n\na\n\n\nb\n\n") ≡ [] ∷ codes "a" ∷ codes "\nb" ∷ [] ∷ []
ends_parted = refl
