-- What the children of a node give, and a node that is handed over by itself.
use Rattle.std.specs.Prelude.{ℕ, Bool, true, false, not, ◌&&◌, if◌then◌else◌, nat_lt, List, [], ◌∷◌, length}
use Rattle.std.specs.Prelude.{Option, Some, None}
use Rattle.htmd_text.specs.Blocks.{is_block}
use Rattle.htmd_text.specs.Trims.{trimmed_end, is_space}
use Rattle.htmd_nodes.specs.Items.{Item}
use Rattle.htmd_nodes.specs.NumberedTrees.{NumberedTree, document, doctype, text, comment, element, tree_of}
use Rattle.htmd_nodes.specs.NumberedTrees.{NumberedForest, none, more}
use Rattle.htmd_nodes.specs.Ancestors.{Ancestor, ancestors_of}
use Rattle.htmd_walk.specs.OrdinaryText.{in_pre_or_code}
use Rattle.htmd_walk.specs.Groups.{groups_of}
use Rattle.htmd_walk.specs.Outputs.{Conversion, Output, replace_text, empty_output, context_of, Writes}

abbrev pub is_block_tree : NumberedTree → Bool
is_block_tree (document id children) = false
is_block_tree (doctype id) = false
is_block_tree (text id s) = false
is_block_tree (comment id s) = false
is_block_tree (element id name attributes children) = is_block name

-- before a block element the spaces at the end of the text go
abbrev pub before_child : Bool → Output → Output
before_child is_block out = if is_block then replace_text (trimmed_end is_space out.text) out else out

-- a child that made the text longer sets the trim flag if it is a block element, else clears it
abbrev pub trim_after : Bool → Output → Output → Bool → Bool
trim_after is_block before after trim = if nat_lt (length before.text) (length after.text) then is_block else trim

abbrev pub write_children : Writes → List Ancestor → NumberedForest → Bool → Output → Output
write_children write inside none trim out = out
write_children write inside (more tree trees) trim out =
    let before = before_child (is_block_tree tree) out in
    let after = write tree (context_of inside (in_pre_or_code inside) trim) before in
    write_children write inside trees (trim_after (is_block_tree tree) before after trim) after

-- The space at the start of a block element's content is dropped, unless it is preformatted. The
-- Document's tag is html, the name of a block element.
abbrev pub trims_first : List Ancestor → Bool
trims_first [] = false
trims_first (a ∷ above) = is_block a.tag && not (in_pre_or_code (a ∷ above))

-- the children of a node, in groups, after what is written so far
abbrev pub write_groups : Writes → List Ancestor → NumberedForest → Output → Output
write_groups write inside children out = write_children write inside (groups_of children) (trims_first inside) out

-- the content of a node's children, inside the node
abbrev pub content_inside : Writes → List Ancestor → NumberedForest → List (List ℕ) → Output
content_inside write inside children definitions = write_groups write inside children (empty_output definitions)

-- a node that is handed over by itself: a text of its own begins, and a text is ordinary
abbrev pub content_alone : Writes → Conversion → NumberedTree → ℕ → List (List ℕ) → Output
content_alone write conversion tree id definitions =
    write tree (context_of (ancestors_of conversion.items id) false true) (empty_output definitions)

-- if an element shows one text and nothing else, a proper descendant of it is that text
abbrev pub descendant_tree : List Item → Option (List ℕ) → ℕ → NumberedTree
descendant_tree items None d = tree_of items d
descendant_tree items (Some s) d = text d s
