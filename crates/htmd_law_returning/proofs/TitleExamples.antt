-- Worked rows: titles of more blocks than one. Each holds by computing.
use Rattle.std.proofs.Common.{◌≡◌, [], ◌∷◌, true, false, refl, codes, None}
use Rattle.std.specs.Fmt.{digits}
use Rattle.std.specs.Str.{chars, is_utf8}
use Rattle.unicode.proofs.CategoryComputing.{ucd_category}
use Rattle.htmd_nodes.specs.NumberedTrees.{forest_from, tree_of}
use Rattle.htmd_html5_state.specs.Adoption.{move_last, wrap_children}
use Rattle.htmd_html5.specs.BodyEnds.{text_end_rule}
use Rattle.htmd_html5.specs.BodyStarts.{block_rule, formatting_rule, phrasing_rule}
use Rattle.htmd_html5.specs.Html5Documents.{html5_document}
use Rattle.htmd_document.specs.Documents.{Blocks, Inlines, anchor, block, code_block, element, heading, inline, item}
use Rattle.htmd_document.specs.Documents.{link, list, no_blocks, no_inlines, no_items, paragraph, quote, text}
use Rattle.htmd_document.specs.Documents.{table, task, thematic_break}
use Rattle.htmd_document.specs.declared.document.Alignment.TheVariants as align
use Rattle.htmd_document.specs.declared.document.BlockElement.{BlockElement}
use Rattle.htmd_document.specs.declared.document.BlockElement.TheVariants as an
use Rattle.htmd_flow.specs.Flows.{node_of}
use Rattle.htmd_shown.specs.Roles.{role_of, table_role, heading_or_block, block_role, inline_role, element_role}
use Rattle.htmd_shown.specs.Shown.{shown}
use Rattle.htmd_document_of_tree.specs.declared.anchors.Anchors.TheVariants as which
use Rattle.htmd_document_of_tree.specs.TreeDocuments.{document_by, document_of_tree}
use Rattle.htmd_law_returning.specs.ComingBack.{page_back}
use Rattle.htmd_law_returning.specs.LastingAnchors.{anchors_stay}
use Rattle.htmd_law_returning.specs.ReturningLaws.{whole_sight}
use Rattle.htmd_law_returning.specs.SettledDocuments.{are_settled}
use Rattle.htmd_law_returning.proofs.ComingBackExamples.{usual}
use lib.Utf8.{encode}

-- the document of the page of a document, with all anchors
abbrev back : Blocks → Blocks
back d = document_of_tree which.All (whole_sight false true) (page_back false usual d)

abbrev a_line : Inlines
a_line = inline (text (codes "a")) no_inlines

abbrev one : Blocks
one = block (paragraph a_line) no_blocks

abbrev holding : BlockElement → Blocks → Blocks
holding name content = block (element name [] content) no_blocks

-- an element in a title as well
abbrev blocks : Blocks
blocks =
    block (paragraph a_line) (block (heading 2 a_line) (block (quote one)
    (block (list None true (item one (item one no_items))) (block (code_block None (codes "a"))
    (holding an.Details (holding an.Summary one))))))

abbrev a_summary : Blocks
a_summary = holding an.Details (holding an.Summary blocks)

a_summary_is_settled : are_settled a_summary ≡ true
unfolding chars encode is_utf8
a_summary_is_settled = refl

a_summary_comes_back : back a_summary ≡ a_summary
unfolding chars encode ucd_category digits html5_document block_rule formatting_rule phrasing_rule text_end_rule
    move_last wrap_children forest_from tree_of role_of table_role heading_or_block block_role inline_role element_role
    shown document_by document_of_tree node_of
a_summary_comes_back = refl

-- anchors at its beginning
abbrev a_term : Blocks → Blocks
a_term content = holding an.Terms (holding an.Term content)

abbrev with_anchor : Blocks
with_anchor = a_term (block (paragraph (inline (anchor (codes "x")) a_line)) blocks)

its_anchor_stays : anchors_stay which.All with_anchor ≡ true
unfolding chars encode
its_anchor_stays = refl

its_anchor_comes_back : back with_anchor ≡ with_anchor
unfolding chars encode ucd_category digits html5_document block_rule formatting_rule phrasing_rule text_end_rule
    move_last wrap_children forest_from tree_of role_of table_role heading_or_block block_role inline_role element_role
    shown document_by document_of_tree node_of
its_anchor_comes_back = refl

-- also in a quote and in the first item of a list, behind a thematic break
abbrev a_place : Blocks
a_place = block (paragraph (inline (anchor (codes "x")) a_line)) no_blocks

abbrev deep_within : Blocks → Blocks → Blocks
deep_within first second =
    a_term (block thematic_break (block (list None true (item (block (quote first) no_blocks) (item second no_items)))
    blocks))

its_anchor_in_a_list_stays : anchors_stay which.All (deep_within a_place one) ≡ true
unfolding chars encode
its_anchor_in_a_list_stays = refl

its_anchor_in_a_list_comes_back : back (deep_within a_place one) ≡ deep_within a_place one
unfolding chars encode ucd_category digits html5_document block_rule formatting_rule phrasing_rule text_end_rule
    move_last wrap_children forest_from tree_of role_of table_role heading_or_block block_role inline_role element_role
    shown document_by document_of_tree node_of
its_anchor_in_a_list_comes_back = refl

-- behind an empty item, and one of a thematic break
abbrev past_nothing : Blocks
past_nothing =
    a_term (block (list None true (item no_blocks (item (block thematic_break no_blocks) (item a_place no_items))))
    blocks)

past_nothing_it_stays : anchors_stay which.All past_nothing ≡ true
unfolding chars encode
past_nothing_it_stays = refl

past_nothing_it_comes_back : back past_nothing ≡ past_nothing
unfolding chars encode ucd_category digits html5_document block_rule formatting_rule phrasing_rule text_end_rule
    move_last wrap_children forest_from tree_of role_of table_role heading_or_block block_role inline_role element_role
    shown document_by document_of_tree node_of
past_nothing_it_comes_back = refl

-- behind the box of a task
abbrev past_a_box : Blocks
past_a_box =
    a_term (block (list None true (item (block (paragraph (inline (task false) (inline (text (codes " "))
    (inline (anchor (codes "x")) a_line)))) no_blocks) no_items)) blocks)

past_a_box_it_stays : anchors_stay which.All past_a_box ≡ true
unfolding chars encode
past_a_box_it_stays = refl

past_a_box_it_comes_back : back past_a_box ≡ past_a_box
unfolding chars encode ucd_category digits html5_document block_rule formatting_rule phrasing_rule text_end_rule
    move_last wrap_children forest_from tree_of role_of table_role heading_or_block block_role inline_role element_role
    shown document_by document_of_tree node_of
past_a_box_it_comes_back = refl

-- from the second item it goes to the beginning
a_later_one_is_lost : anchors_stay which.All (deep_within one a_place) ≡ false
unfolding chars encode
a_later_one_is_lost = refl

it_goes_to_the_beginning : back (deep_within one a_place) ≡ deep_within a_place one
unfolding chars encode ucd_category digits html5_document block_rule formatting_rule phrasing_rule text_end_rule
    move_last wrap_children forest_from tree_of role_of table_role heading_or_block block_role inline_role element_role
    shown document_by document_of_tree node_of
it_goes_to_the_beginning = refl

-- in a table in the first cell in which something is
abbrev with_table : Blocks
with_table =
    a_term (block (table (align.None ∷ align.None ∷ []) (no_inlines ∷ inline (anchor (codes "x")) a_line ∷ [])
    ((a_line ∷ []) ∷ [])) blocks)

its_anchor_in_a_table_stays : anchors_stay which.All with_table ≡ true
unfolding chars encode
its_anchor_in_a_table_stays = refl

-- a caption of a figure is such a title too
abbrev a_figure : Blocks
a_figure = holding an.Figure (block (paragraph a_line) (holding an.FigureCaption blocks))

a_figure_is_settled : are_settled a_figure ≡ true
unfolding chars encode is_utf8
a_figure_is_settled = refl

a_figure_comes_back : back a_figure ≡ a_figure
unfolding chars encode ucd_category digits html5_document block_rule formatting_rule phrasing_rule text_end_rule
    move_last wrap_children forest_from tree_of role_of table_role heading_or_block block_role inline_role element_role
    shown document_by document_of_tree node_of
a_figure_comes_back = refl

-- a sign alone, however deep in the title
abbrev a_sign : Blocks
a_sign = a_term (block (paragraph a_line) (block (quote (block (paragraph
    (inline (text (codes "a")) (inline (link (codes "#a") None (inline (text (codes "#")) no_inlines)) no_inlines)))
    no_blocks)) no_blocks))

a_sign_is_not : are_settled a_sign ≡ false
unfolding chars encode
a_sign_is_not = refl

a_sign_is_lost : back a_sign ≡ a_term (block (paragraph a_line) (block (quote one) no_blocks))
unfolding chars encode ucd_category digits html5_document block_rule formatting_rule phrasing_rule text_end_rule
    move_last wrap_children forest_from tree_of role_of table_role heading_or_block block_role inline_role element_role
    shown document_by document_of_tree node_of
a_sign_is_lost = refl
