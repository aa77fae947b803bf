-- Worked rows: tables that are elements, and which come back. Each holds by computing.
use Rattle.std.proofs.Common.{◌≡◌, ℕ, List, [], true, false, ◌∷◌, ◌++◌, refl, codes, Some, None}
use Rattle.std.specs.Fmt.{digits}
use Rattle.std.specs.Str.{chars, is_utf8}
use Rattle.unicode.proofs.CategoryComputing.{ucd_category}
use Rattle.htmd_nodes.specs.NumberedTrees.{forest_from, tree_of}
use Rattle.htmd_html5_state.specs.Adoption.{move_last, wrap_children}
use Rattle.htmd_html5.specs.BodyEnds.{text_end_rule}
use Rattle.htmd_html5.specs.BodyStarts.{block_rule, formatting_rule, phrasing_rule}
use Rattle.htmd_html5.specs.Html5Documents.{html5_document}
use Rattle.htmd_markdown.specs.declared.fence.CodeBlockFence.TheVariants.{Backticks}
use Rattle.htmd_markdown.specs.declared.heading.HeadingStyle.TheVariants.{Atx}
use Rattle.htmd_markdown.specs.declared.line_break.BrStyle.TheVariants.{TwoSpaces}
use Rattle.htmd_markdown.specs.declared.link.LinkStyle.TheVariants.{Inlined}
use Rattle.htmd_markdown.specs.declared.list.BulletListMarker.TheVariants.{Dash}
use Rattle.htmd_markdown.specs.declared.thematic_break.HrStyle.TheVariants.{Dashes}
use Rattle.htmd_document.specs.Documents.{Blocks, text, inline, no_inlines, BlockAttribute}
use Rattle.htmd_document.specs.Documents.{paragraph, quote, block, no_blocks, thematic_break, element, anchor}
use Rattle.htmd_document.specs.Documents.{heading, code_block, list, item, no_items}
use Rattle.htmd_document.specs.Documents as documents
use Rattle.htmd_document.specs.declared.document.Alignment.TheVariants as align
use Rattle.htmd_document.specs.declared.document.AttributeName.{AttributeName}
use Rattle.htmd_document.specs.declared.document.AttributeName.TheVariants as attribute
use Rattle.htmd_document.specs.declared.document.BlockElement.{BlockElement}
use Rattle.htmd_document.specs.declared.document.BlockElement.TheVariants as an
use Rattle.htmd_document.specs.NormalDocuments.{IsNormal}
use Rattle.htmd_flow.specs.Flows.{node_of}
use Rattle.htmd_shown.specs.Roles.{role_of, table_role, heading_or_block, block_role, inline_role, element_role}
use Rattle.htmd_shown.specs.Shown.{shown}
use Rattle.htmd_commonmark.specs.declared.options.DocumentOptions.{DocumentOptions}
use Rattle.htmd_commonmark_reading.specs.Rendering.{html_of}
use Rattle.htmd_document_of_tree.specs.declared.anchors.Anchors.TheVariants as which
use Rattle.htmd_document_of_tree.specs.TreeDocuments.{document_by, document_of_tree}
use Rattle.htmd_law_rendering.specs.DocumentLaws.{reading_of}
use Rattle.htmd_law_rendering.specs.PlainReadings.{elements_fit}
use Rattle.htmd_law_returning.specs.LastingAnchors.{anchors_stay}
use Rattle.htmd_law_returning.specs.ReturningLaws.{whole_sight}
use Rattle.htmd_law_returning.specs.SettledDocuments.{are_settled}
use Rattle.htmd_law_returning.specs.ComingBack.{page_back}
use lib.Utf8.{encode}

abbrev usual : DocumentOptions
usual = record {
  heading_style = Atx;
  hr_style = Dashes;
  br_style = TwoSpaces;
  link_style = Inlined;
  code_block_fence = Backticks;
  bullet_list_marker = Dash;
  ul_bullet_spacing = 1;
  ol_number_spacing = 1;
}

abbrev a_text : List ℕ → Blocks
a_text s = block (paragraph (inline (text s) no_inlines)) no_blocks

abbrev with_value : AttributeName → List ℕ → List BlockAttribute
with_value name value = record { name = name; value = value } ∷ []

abbrev cell : BlockElement → List BlockAttribute → Blocks → Blocks → Blocks
cell name attributes content rest = block (element name attributes content) rest

abbrev row : Blocks → Blocks → Blocks
row cells rest = block (element an.Row [] cells) rest

abbrev table : List BlockAttribute → Blocks → Blocks
table attributes rows = block (element an.Table attributes rows) no_blocks

-- with headers, a cell of blocks, an empty one, and one that takes two columns and is aligned
abbrev a_table : Blocks
a_table =
    table [] (row (cell an.HeaderCell [] (a_text (codes "a")) (cell an.HeaderCell [] (a_text (codes "b")) no_blocks))
    (row (cell an.Cell [] (block thematic_break (a_text (codes "c"))) (cell an.Cell [] no_blocks no_blocks))
    (row (cell an.Cell (with_value attribute.ColumnSpan (codes "2") ++ with_value attribute.Align (codes "right"))
    (a_text (codes "e")) no_blocks) no_blocks)))

a_table_is_normal : IsNormal a_table
unfolding chars encode is_utf8
a_table_is_normal = refl

a_table_fits : elements_fit a_table ≡ true
a_table_fits = refl

a_table_is_settled : are_settled a_table ≡ true
unfolding chars encode digits
a_table_is_settled = refl

its_html : html_of (reading_of usual a_table) ≡ codes "<table>\n<tr>\n<th>a</th>\n<th>b</th>\n</tr>\n<tr>\n<td>\n"
    ++ codes "<hr />\n<p>c</p>\n</td>\n<td></td>\n</tr>\n<tr>\n"
    ++ codes "<td colspan=\"2\" align=\"right\">e</td>\n</tr>\n</table>\n"
unfolding chars encode ucd_category digits
its_html = refl

a_table_comes_back : document_of_tree which.Linked (whole_sight false true) (page_back false usual a_table) ≡ a_table
unfolding chars encode ucd_category digits html5_document block_rule formatting_rule phrasing_rule text_end_rule
    move_last wrap_children forest_from tree_of role_of table_role heading_or_block block_role inline_role element_role
    shown document_by document_of_tree node_of
a_table_comes_back = refl

-- ---- without headers

abbrev two_columns : Blocks
two_columns =
    table [] (row (cell an.Cell [] (a_text (codes "a")) (cell an.Cell [] (a_text (codes "b")) no_blocks)) no_blocks)

two_columns_are_settled : are_settled two_columns ≡ true
unfolding chars encode digits
two_columns_are_settled = refl

two_columns_come_back :
    document_of_tree which.Linked (whole_sight false true) (page_back false usual two_columns) ≡ two_columns
unfolding chars encode ucd_category digits html5_document block_rule formatting_rule phrasing_rule text_end_rule
    move_last wrap_children forest_from tree_of role_of table_role heading_or_block block_role inline_role element_role
    shown document_by document_of_tree node_of
two_columns_come_back = refl

-- with an anchor in a cell
abbrev an_anchor : Blocks
an_anchor = block (paragraph (inline (anchor (codes "x")) (inline (text (codes "b")) no_inlines))) no_blocks

abbrev anchored_columns : Blocks
anchored_columns =
    table [] (row (cell an.Cell [] (a_text (codes "a")) (cell an.Cell [] an_anchor no_blocks)) no_blocks)

the_anchor_stays : anchors_stay which.All anchored_columns ≡ true
unfolding chars encode
the_anchor_stays = refl

it_comes_back : document_of_tree which.All (whole_sight false true) (page_back false usual anchored_columns)
    ≡ anchored_columns
unfolding chars encode ucd_category digits html5_document block_rule formatting_rule phrasing_rule text_end_rule
    move_last wrap_children forest_from tree_of role_of table_role heading_or_block block_role inline_role element_role
    shown document_by document_of_tree node_of
it_comes_back = refl

-- one is for the page's layout, unless it has a border
abbrev one_column : List BlockAttribute → Blocks
one_column attributes = table attributes (row (cell an.Cell [] (a_text (codes "a")) no_blocks) no_blocks)

one_column_is_not_settled : are_settled (one_column []) ≡ false
unfolding chars encode digits
one_column_is_not_settled = refl

it_is_what_it_holds :
    document_of_tree which.Linked (whole_sight false true) (page_back false usual (one_column []))
    ≡ a_text (codes "a")
unfolding chars encode ucd_category digits html5_document block_rule formatting_rule phrasing_rule text_end_rule
    move_last wrap_children forest_from tree_of role_of table_role heading_or_block block_role inline_role element_role
    shown document_by document_of_tree node_of
it_is_what_it_holds = refl

with_a_border : are_settled (one_column (with_value attribute.Border (codes "1"))) ≡ true
unfolding chars encode digits
with_a_border = refl

-- ---- cells that hold any blocks

-- a heading and a list in a header, beside code with an anchor before it and with a language; below, a list in a
-- `details`, and a table with code in a header
abbrev header_of_blocks : Blocks
header_of_blocks =
    block (heading 2 (inline (text (codes "a")) no_inlines))
    (block (list None true (item (a_text (codes "b")) no_items)) no_blocks)

abbrev some_code : Blocks
some_code =
    block (paragraph (inline (anchor (codes "x")) no_inlines))
    (block (code_block None (codes "c")) (block (code_block (Some (codes "d")) (codes "e")) no_blocks))

abbrev one_cell : Blocks → Blocks
one_cell content = table [] (row (cell an.HeaderCell [] content no_blocks) no_blocks)

abbrev elements_inside : Blocks
elements_inside =
    block (element an.Details [] (block (list (Some 1) false (item (a_text (codes "f"))
    (item (a_text (codes "g")) no_items))) no_blocks))
    (one_cell (block (code_block None (codes "h")) no_blocks))

abbrev full_cells : Blocks
full_cells =
    table [] (row (cell an.HeaderCell [] header_of_blocks (cell an.Cell [] some_code no_blocks))
    (row (cell an.Cell [] elements_inside no_blocks) no_blocks))

full_cells_are_normal : IsNormal full_cells
unfolding chars encode is_utf8
full_cells_are_normal = refl

full_cells_are_settled : are_settled full_cells ≡ true
unfolding chars encode digits is_utf8
full_cells_are_settled = refl

their_anchor_stays : anchors_stay which.All full_cells ≡ true
unfolding chars encode
their_anchor_stays = refl

full_cells_come_back :
    document_of_tree which.All (whole_sight false true) (page_back false usual full_cells) ≡ full_cells
unfolding chars encode ucd_category digits html5_document block_rule formatting_rule phrasing_rule text_end_rule
    move_last wrap_children forest_from tree_of role_of table_role heading_or_block block_role inline_role element_role
    shown document_by document_of_tree node_of
full_cells_come_back = refl

-- one of GitHub's form in a cell
a_table_of_lines_inside : are_settled (one_cell (block (documents.table (align.None ∷ [])
    (inline (text (codes "a")) no_inlines ∷ []) []) no_blocks)) ≡ true
unfolding chars encode digits
a_table_of_lines_inside = refl

-- ---- cells that take several rows

abbrev spanning : AttributeName → List ℕ → Blocks → Blocks → Blocks
spanning name value content rest = cell an.Cell (with_value name value) content rest

-- a header beside two rows, in one of which nothing stands, and another cell of two rows above a row without cells
abbrev tall_cells : Blocks
tall_cells =
    table []
    (row (cell an.HeaderCell (with_value attribute.RowSpan (codes "2")) (a_text (codes "a"))
    (cell an.Cell [] (a_text (codes "b")) no_blocks))
    (row (cell an.Cell [] no_blocks no_blocks)
    (row (cell an.Cell (with_value attribute.ColumnSpan (codes "2") ++ with_value attribute.RowSpan (codes "2"))
    (a_text (codes "c")) no_blocks)
    (row no_blocks no_blocks))))

tall_cells_are_normal : IsNormal tall_cells
unfolding chars encode is_utf8
tall_cells_are_normal = refl

tall_cells_are_settled : are_settled tall_cells ≡ true
unfolding chars encode digits
tall_cells_are_settled = refl

their_html : html_of (reading_of usual tall_cells) ≡ codes "<table>\n<tr>\n<th rowspan=\"2\">a</th>\n<td>b</td>\n"
    ++ codes "</tr>\n<tr>\n<td></td>\n</tr>\n<tr>\n<td colspan=\"2\" rowspan=\"2\">c</td>\n</tr>\n<tr></tr>\n"
    ++ codes "</table>\n"
unfolding chars encode ucd_category digits
their_html = refl

tall_cells_come_back :
    document_of_tree which.Linked (whole_sight false true) (page_back false usual tall_cells) ≡ tall_cells
unfolding chars encode ucd_category digits html5_document block_rule formatting_rule phrasing_rule text_end_rule
    move_last wrap_children forest_from tree_of role_of table_role heading_or_block block_role inline_role element_role
    shown document_by document_of_tree node_of
tall_cells_come_back = refl

-- past the last row it takes none
abbrev past_the_end : Blocks
past_the_end =
    table (with_value attribute.Border (codes "1"))
    (row (spanning attribute.RowSpan (codes "2") (a_text (codes "a")) no_blocks) no_blocks)

past_the_end_is_not_settled : are_settled past_the_end ≡ false
unfolding chars encode digits
past_the_end_is_not_settled = refl

the_end_is_cut : document_of_tree which.Linked (whole_sight false true) (page_back false usual past_the_end)
    ≡ table (with_value attribute.Border (codes "1"))
    (row (cell an.Cell [] (a_text (codes "a")) no_blocks) no_blocks)
unfolding chars encode ucd_category digits html5_document block_rule formatting_rule phrasing_rule text_end_rule
    move_last wrap_children forest_from tree_of role_of table_role heading_or_block block_role inline_role element_role
    shown document_by document_of_tree node_of
the_end_is_cut = refl

-- ---- with captions

abbrev captioned : Blocks → Blocks → Blocks
captioned content rest = block (element an.Caption [] content) rest

-- two captions, the second with an anchor at its beginning, before a row of GitHub's form
abbrev a_captioned_table : Blocks
a_captioned_table =
    table [] (captioned (a_text (codes "a")) (captioned an_anchor
    (row (cell an.HeaderCell [] (a_text (codes "c")) no_blocks) no_blocks)))

its_captions_are_settled : are_settled a_captioned_table ≡ true
unfolding chars encode digits
its_captions_are_settled = refl

its_anchor_stays : anchors_stay which.All a_captioned_table ≡ true
unfolding chars encode
its_anchor_stays = refl

its_captions_are_read : html_of (reading_of usual a_captioned_table)
    ≡ codes "<table>\n<caption>a</caption>\n<caption>\n"
    ++ codes "<p><a id=\"x\"></a>b</p>\n</caption>\n<tr>\n<th>c</th>\n</tr>\n</table>\n"
unfolding chars encode ucd_category digits
its_captions_are_read = refl

its_captions_come_back : document_of_tree which.All (whole_sight false true) (page_back false usual a_captioned_table)
    ≡ a_captioned_table
unfolding chars encode ucd_category digits html5_document block_rule formatting_rule phrasing_rule text_end_rule
    move_last wrap_children forest_from tree_of role_of table_role heading_or_block block_role inline_role element_role
    shown document_by document_of_tree node_of
its_captions_come_back = refl

-- a caption alone
a_caption_alone : are_settled (table [] (captioned (a_text (codes "a")) no_blocks)) ≡ true
unfolding chars encode digits
a_caption_alone = refl

-- ---- against

-- an anchor behind what shows in a caption
a_late_anchor : anchors_stay which.All (table [] (captioned (block (paragraph (inline (text (codes "a"))
    (inline (anchor (codes "x")) (inline (text (codes "b")) no_inlines)))) no_blocks) no_blocks)) ≡ false
unfolding chars encode
a_late_anchor = refl

-- a cell that takes a row past a caption: on a page it takes one
abbrev across : List BlockAttribute → Blocks
across attributes =
    table [] (row (cell an.Cell attributes (a_text (codes "a")) no_blocks) (captioned (a_text (codes "b"))
    (row (cell an.Cell [] (a_text (codes "c")) no_blocks) no_blocks)))

two_rows_across : are_settled (across (with_value attribute.RowSpan (codes "2"))) ≡ false
unfolding chars encode digits
two_rows_across = refl

they_are_cut : document_of_tree which.Linked (whole_sight false true)
    (page_back false usual (across (with_value attribute.RowSpan (codes "2")))) ≡ across []
unfolding chars encode ucd_category digits html5_document block_rule formatting_rule phrasing_rule text_end_rule
    move_last wrap_children forest_from tree_of role_of table_role heading_or_block block_role inline_role element_role
    shown document_by document_of_tree node_of
they_are_cut = refl

one_row_each : are_settled (across []) ≡ true
unfolding chars encode digits
one_row_each = refl

rows_around_a_caption :
    document_of_tree which.Linked (whole_sight false true) (page_back false usual (across [])) ≡ across []
unfolding chars encode ucd_category digits html5_document block_rule formatting_rule phrasing_rule text_end_rule
    move_last wrap_children forest_from tree_of role_of table_role heading_or_block block_role inline_role element_role
    shown document_by document_of_tree node_of
rows_around_a_caption = refl

-- one of GitHub's form, and a row in which nothing stands
of_another_form : are_settled (table [] (row (cell an.HeaderCell [] (a_text (codes "a")) no_blocks) no_blocks))
    ≡ false
unfolding chars encode digits
of_another_form = refl

an_empty_row : are_settled (table (with_value attribute.Border (codes "1")) (row (cell an.Cell [] (a_text (codes "a"))
    no_blocks) (row (cell an.Cell [] no_blocks no_blocks) no_blocks))) ≡ false
unfolding chars encode digits
an_empty_row = refl

-- a row without a table, and a cell without a row
outside : are_settled (row (cell an.Cell [] (a_text (codes "a")) no_blocks) no_blocks) ≡ false
outside = refl

in_a_quote : are_settled (block (quote (cell an.Cell [] (a_text (codes "a")) no_blocks)) no_blocks) ≡ false
in_a_quote = refl
