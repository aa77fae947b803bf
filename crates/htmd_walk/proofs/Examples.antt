-- Worked examples of the definitions.
use Rattle.std.proofs.Common.{◌≡◌, ℕ, List, [], ◌∷◌, ◌++◌, length, Some, true, false, codes, refl}
use Rattle.htmd_text.specs.Blocks.{is_block}
use Rattle.htmd_nodes.specs.Items.{Item, document_item, new_item, element_node, text_node}
use Rattle.htmd_nodes.specs.NumberedTrees.{tree_of, forest_from, value_tree}
use Rattle.htmd_nodes.specs.Ancestors.{ancestors_of, ancestors_up}
use Rattle.htmd_walk.specs.Defaults.{default_options}
use Rattle.htmd_walk.specs.BuiltIn.{built_in}
use Rattle.htmd_walk.specs.Seams.{joined_at_seam}
use Rattle.htmd_walk.specs.Rendering.{written_within}
use Rattle.htmd_walk.specs.Markdown.{markdown}

two_line_feeds_at_a_seam : joined_at_seam (codes "a\n\n") (codes "\n\nb") false ≡ codes "a\n\nb"
two_line_feeds_at_a_seam = refl

one_space_at_a_seam : joined_at_seam (codes "a ") (codes " b") false ≡ codes "a b"
one_space_at_a_seam = refl

whole_in_preformatted_text : joined_at_seam (codes "a ") (codes " b") true ≡ codes "a  b"
whole_in_preformatted_text = refl

-- a Document of these, each under its parent
one : List Item
one = document_item ∷ []

two_paragraphs : List Item
two_paragraphs =
    let a = one ++ new_item one 0 (element_node (codes "p") []) ∷ [] in
    let b = a ++ new_item a 1 (text_node (codes "# b")) ∷ [] in
    let c = b ++ new_item b 0 (element_node (codes "p") []) ∷ [] in
    c ++ new_item c 3 (text_node (codes "* c_d")) ∷ []

two_paragraphs_converted : markdown (built_in default_options) two_paragraphs 0 ≡ codes "\\# b\n\n\\* c\\_d"
unfolding markdown written_within tree_of forest_from ancestors_of ancestors_up is_block two_paragraphs one
two_paragraphs_converted = refl

below_pre : List Item
below_pre =
    let a = one ++ new_item one 0 (element_node (codes "pre") []) ∷ [] in
    let b = a ++ new_item a 1 (element_node (codes "u") []) ∷ [] in
    b ++ new_item b 2 (text_node (codes "  *a*  \nb")) ∷ []

-- a subtree looks up its ancestors
preformatted_below_pre : markdown (built_in default_options) below_pre 2 ≡ codes "  *a*  \nb"
unfolding markdown written_within tree_of forest_from ancestors_of ancestors_up is_block below_pre one
preformatted_below_pre = refl

-- a text that is handed over by itself is ordinary
ordinary_by_itself : markdown (built_in default_options) below_pre 3 ≡ codes "\\*a\\* b"
unfolding markdown written_within tree_of forest_from ancestors_of ancestors_up is_block below_pre one
ordinary_by_itself = refl

-- neighbours that join stand as one, whose text is escaped as it will be written
neighbours : List Item
neighbours =
    let a = one ++ new_item one 0 (element_node (codes "u") []) ∷ [] in
    let b = a ++ new_item a 1 (text_node (codes "-")) ∷ [] in
    let c = b ++ new_item b 0 (element_node (codes "u") []) ∷ [] in
    c ++ new_item c 3 (text_node (codes " y")) ∷ []

neighbours_joined : markdown (built_in default_options) neighbours 0 ≡ codes "\\- y"
unfolding markdown written_within tree_of forest_from ancestors_of ancestors_up is_block neighbours one
neighbours_joined = refl
