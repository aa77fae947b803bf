-- Worked rows: what is common, and what isn't, and a page that comes back. All but the last holds by computing.
use Rattle.std.proofs.Common.{◌≡◌, ◌<◌, ◌^◌, Bool, true, false, [], ◌∷◌, ◌++◌, length, refl}
use Rattle.std.proofs.Common.{Some, None}
use Rattle.std.specs.Str.Lossy.{utf8_lossy, utf8_valid_len}
use Rattle.percent_encoding.specs.Percent.{percent_decode}
use Rattle.std.specs.Prelude.{codes}
use Rattle.std.specs.Str.{chars, is_utf8}
use Rattle.htmd_nodes.specs.NumberedTrees as node
use Rattle.htmd_nodes.specs.NumberedTrees.{NumberedTree}
use Rattle.htmd_document.specs.declared.document.Alignment.TheVariants as align
use Rattle.htmd_document.specs.Documents.{text, formatted, link, image, anchor, line_break, task, Inlines, no_inlines}
use Rattle.htmd_document.specs.Documents.{inline}
use Rattle.htmd_document.specs.Documents.{Block, paragraph, heading, code_block, quote, list, table, element, Blocks}
use Rattle.htmd_document.specs.Documents.{no_blocks, block}
use Rattle.htmd_document.specs.Documents.{Items, no_items, item}
use Rattle.htmd_document.specs.LoneAnchors.{all_stand}
use Rattle.htmd_document.specs.declared.document.BlockElement.{BlockElement}
use Rattle.htmd_document.specs.declared.document.BlockElement.TheVariants as name
use Rattle.htmd_grammar.specs.HtmlDocuments.{below_body}
use Rattle.htmd_law_rendering.specs.PlainReadings.{elements_are_strict}
use Rattle.htmd_document.specs.Formats.{Emphasis, Superscript, Marked}
use Rattle.htmd_flow.specs.Flows.{node_of}
use Rattle.htmd_shown.specs.Roles.{role_of, table_role, heading_or_block, block_role, inline_role, element_role}
use Rattle.htmd_shown.specs.Shown.{Sight, shown}
use Rattle.htmd_document_of_tree.specs.declared.anchors.Anchors.TheVariants as which
use Rattle.htmd_document_of_tree.specs.TreeDocuments.{document_by, document_of_tree}
use Rattle.htmd_commonmark.specs.declared.options.DocumentOptions.{DocumentOptions}
use Rattle.htmd_commonmark.specs.DocumentMarkdown.{markdown_of}
use Rattle.htmd_law_documents.specs.TreeForms.{is_text_tree}
use Rattle.htmd_law_returning.proofs.TreesLemmas.{pairs_of_anchor}
use Rattle.htmd_law_rendering.specs.RenderedTrees.{pairs_of_link}
use Rattle.htmd_law_returning.specs.EncodedDocuments.{encoded}
use Rattle.htmd_law_returning.specs.ReturningLaws.{whole_sight}
use Rattle.htmd_law_returning.specs.ComingBack.{SettledComeBack}
use Rattle.htmd_law_returning.specs.ElementPlaces.{in_flow}
use Rattle.htmd_law_settled.specs.StandingElements.{blocks_stand}
use Rattle.htmd_law_settled.specs.Leaves.{are_blocks_of}
use Rattle.htmd_law_settled.specs.NeatLeaves.{neat}
use Rattle.htmd_law_settled.specs.CommonDocuments as common
use Rattle.htmd_law_settled.specs.PageLaws.{ComesBack}
use Rattle.htmd_law_settled.proofs.PageLemmas.{come-back}
use lib.Utf8.{encode}

-- ---- what is common

-- with all anchors
abbrev is_common : Blocks → Bool
is_common d = common.is_common which.All d

-- > a[b](c)d, with white space past ASCII beside the link
abbrev a_link : Blocks
a_link =
    block (quote (block (paragraph (inline (text (codes "a" ++ 0xC2 ∷ 0xA0 ∷ []))
    (inline (link (codes "c") None (inline (text (codes "b")) no_inlines)) (inline (text (codes "d")) no_inlines))))
    no_blocks)) no_blocks

it_is_common : is_common a_link ≡ true
unfolding chars encode
it_is_common = refl

abbrev line : Inlines → Blocks
line xs = block (paragraph xs) no_blocks

abbrev broken : Inlines
broken = inline (text (codes "a")) (inline line_break (inline (text (codes "b")) no_inlines))

abbrev a_sign : Inlines
a_sign = inline (link (codes "#a") None (inline (text (codes "#")) no_inlines)) no_inlines

a_sign_in_a_paragraph : is_common (line a_sign) ≡ true
unfolding chars encode
a_sign_in_a_paragraph = refl

-- there it is for its own place
a_sign_in_a_heading : is_common (block (heading 2 a_sign) no_blocks) ≡ false
unfolding chars encode
a_sign_in_a_heading = refl

a_sign_and_an_image : is_common (block (heading 2 (inline (link (codes "#a") None (inline (text (codes "#"))
    (inline (image (codes "b") None []) no_inlines))) no_inlines)) no_blocks) ≡ true
unfolding chars encode
a_sign_and_an_image = refl

-- an address counts as HTML has it
a_bent_address : is_common (encoded (line (inline (image (codes "a b") None (codes "c")) no_inlines))) ≡ true
unfolding chars encode
a_bent_address = refl

it_is_encoded : encoded (line (inline (image (codes "a b") None (codes "c")) no_inlines))
    ≡ line (inline (image (codes "a%20b") None (codes "c")) no_inlines)
unfolding chars encode
it_is_encoded = refl

a_link_over_two_lines : is_common (line (inline (link (codes "c") None broken) no_inlines)) ≡ true
unfolding chars encode
a_link_over_two_lines = refl

a_line_over_two_lines : is_common (line broken) ≡ true
unfolding chars encode
a_line_over_two_lines = refl

a_heading_over_two_lines : is_common (block (heading 3 broken) no_blocks) ≡ true
unfolding chars encode
a_heading_over_two_lines = refl

-- a letter above the line
a_raised_letter : is_common (line (inline (text (codes "2")) (inline (formatted Superscript
    (inline (text (codes "a")) no_inlines)) no_inlines))) ≡ true
unfolding chars encode
a_raised_letter = refl

a_task : is_common (block (list None true (item (line (inline (task true) (inline (text (codes " a")) no_inlines)))
    no_items)) no_blocks) ≡ true
unfolding chars encode
a_task = refl

-- what rich pages may have
a_mark : is_common (line (inline (formatted Marked (inline (text (codes "a")) no_inlines)) no_inlines)) ≡ true
unfolding chars encode
a_mark = refl

-- a `details` around two paragraphs or one text, and a list of terms
a_details : is_common (block (element name.Details [] (block (paragraph broken) (line broken))) no_blocks) ≡ true
unfolding chars encode
a_details = refl

-- in a list
a_details_in_a_list : is_common (block (list None false (item (block (element name.Details [] (block (paragraph broken)
    (line broken))) no_blocks) no_items)) no_blocks) ≡ true
unfolding chars encode
a_details_in_a_list = refl

abbrev around_a_text : BlockElement → Block
around_a_text outer = element outer [] (line (inline (text (codes "a")) no_inlines))

a_summary : is_common (block (element name.Details [] (block (around_a_text name.Summary) no_blocks)) no_blocks)
    ≡ true
unfolding chars encode
a_summary = refl

-- nor is it asked where a summary stands: on no page elsewhere
a_summary_alone : is_common (block (around_a_text name.Summary) no_blocks) ≡ true
unfolding chars encode
a_summary_alone = refl

a_term : is_common (block (element name.Terms [] (block (around_a_text name.Term)
    (block (element name.Meaning [] (block (paragraph broken) (line broken))) no_blocks))) no_blocks) ≡ true
unfolding chars encode
a_term = refl

abbrev a_figure : Block → Blocks
a_figure b = block (element name.Figure [] (block b (block (around_a_text name.FigureCaption) no_blocks))) no_blocks

around_a_line : is_common (a_figure (paragraph broken)) ≡ true
unfolding chars encode
around_a_line = refl

-- around code, a list and a figure
around_code : is_common (a_figure (code_block None (codes "a"))) ≡ true
unfolding chars encode
around_code = refl

around_a_figure : is_common (a_figure (list None true (item (a_figure (heading 2 broken)) no_items))) ≡ true
unfolding chars encode
around_a_figure = refl

an_anchor : is_common (line (inline (anchor (codes "a")) (inline (text (codes "b")) no_inlines))) ≡ true
unfolding chars encode
an_anchor = refl

-- no page's document has one within a heading
an_anchor_within_a_heading : are_blocks_of neat
    (block (heading 2 (inline (text (codes "a")) (inline (anchor (codes "b"))
    (inline (text (codes "c")) no_inlines)))) no_blocks) ≡ false
unfolding chars encode
an_anchor_within_a_heading = refl

an_anchor_before_a_heading : are_blocks_of neat (block (heading 2 (inline (anchor (codes "b"))
    (inline (text (codes "c")) no_inlines))) no_blocks) ≡ true
unfolding chars encode
an_anchor_before_a_heading = refl

-- at the beginning of a title, and behind what shows in a title, a term, and what one means
abbrev titled_by : Inlines → Blocks
titled_by xs = block (element name.Details [] (block (element name.Summary [] (line xs)) no_blocks)) no_blocks

an_anchor_before_a_title : are_blocks_of neat (titled_by (inline (anchor (codes "a"))
    (inline (text (codes "b")) no_inlines))) ≡ true
unfolding chars encode
an_anchor_before_a_title = refl

abbrev anchored_within : Inlines
anchored_within =
    inline (text (codes "a")) (inline (anchor (codes "b")) (inline (text (codes "c")) no_inlines))

an_anchor_within_a_title : are_blocks_of neat (titled_by anchored_within) ≡ false
unfolding chars encode
an_anchor_within_a_title = refl

an_anchor_within_a_term : are_blocks_of neat (block (element name.Term [] (line anchored_within)) no_blocks) ≡ false
unfolding chars encode
an_anchor_within_a_term = refl

an_anchor_within_a_meaning : are_blocks_of neat (block (element name.Meaning [] (line anchored_within)) no_blocks)
    ≡ true
unfolding chars encode
an_anchor_within_a_meaning = refl

-- alone, right before a code block, at the end, before a paragraph, and at the end of a quote
abbrev anchors_alone : Blocks → Blocks
anchors_alone bs = block (paragraph (inline (anchor (codes "a")) no_inlines)) bs

anchors_before_code : all_stand true (anchors_alone (block (code_block None (codes "b")) no_blocks)) ≡ true
anchors_before_code = refl

anchors_at_the_end : all_stand true (anchors_alone no_blocks) ≡ true
anchors_at_the_end = refl

anchors_before_a_paragraph : all_stand true (anchors_alone (line broken)) ≡ false
anchors_before_a_paragraph = refl

anchors_in_a_quote : all_stand true (block (quote (anchors_alone no_blocks)) no_blocks) ≡ false
anchors_in_a_quote = refl

-- rows around a caption stand where HTML has them, a cell outside a row doesn't
abbrev holding : BlockElement → Blocks → Blocks
holding n bs = block (element n [] bs) no_blocks

abbrev a_row : Block
a_row = element name.Row [] (holding name.Cell (line broken))

rows_around : elements_are_strict below_body (holding name.Table (block a_row
    (block (element name.Caption [] (line broken)) (block a_row no_blocks)))) ≡ true
rows_around = refl

a_cell_alone : elements_are_strict below_body (holding name.Cell (line broken)) ≡ false
a_cell_alone = refl

-- a summary stands in a `details`, a caption of a figure doesn't
a_summary_there : blocks_stand in_flow (holding name.Details (block (around_a_text name.Summary) no_blocks)) ≡ true
a_summary_there = refl

a_caption_there : blocks_stand in_flow (holding name.Details (block (around_a_text name.FigureCaption) no_blocks))
    ≡ false
a_caption_there = refl

abbrev items_of : Blocks → Items
items_of bs = item bs (item bs no_items)

abbrev a : Blocks
a = line (inline (text (codes "a")) no_inlines)

a_loose_list : is_common (block (list (Some 98) false (items_of a)) no_blocks) ≡ true
unfolding chars encode
a_loose_list = refl

a_tight_list : is_common (block
    (list (Some 99) true (item (block (paragraph broken) (block (list None true (items_of a))
    no_blocks)) no_items)) no_blocks) ≡ true
unfolding chars encode
a_tight_list = refl

-- a cell holds what a document does: code and a list, in which a table stands
abbrev a_full_cell : Block → Block
a_full_cell b =
    element name.Table [] (block (element name.Row [] (block (element name.HeaderCell []
    (block b (block (code_block None (codes "a")) no_blocks))) no_blocks)) no_blocks)

a_table_of_full_cells : is_common (block (a_full_cell (list None true
    (item (block (a_full_cell (heading 2 broken)) no_blocks) no_items))) no_blocks) ≡ true
unfolding chars encode
a_table_of_full_cells = refl

-- with a break in a cell
a_table : is_common (block (table (align.None ∷ align.Right ∷ []) (broken ∷ no_inlines ∷ [])
    ((no_inlines ∷ inline (text (codes "a")) no_inlines ∷ []) ∷ [])) no_blocks) ≡ true
unfolding chars encode
a_table = refl

-- ---- a page

-- <blockquote>a <i>b</i></blockquote>
abbrev a_page : NumberedTree
a_page =
    node.document 0 (node.more (node.element 1 (codes "blockquote") []
    (node.more (node.text 2 (codes "a ")) (node.more (node.element 3 (codes "i") []
    (node.more (node.text 4 (codes "b")) node.none)) node.none))) node.none)

abbrev sight : Sight
sight = whole_sight false false

abbrev its_document : Blocks
its_document = document_of_tree which.Linked sight a_page

it_is_a_quote : its_document ≡ block (quote (line (inline (text (codes "a "))
    (inline (formatted Emphasis (inline (text (codes "b")) no_inlines)) no_inlines)))) no_blocks
unfolding chars encode role_of table_role heading_or_block block_role inline_role element_role shown document_by
    document_of_tree node_of
it_is_a_quote = refl

its_texts_are_utf8 : is_text_tree a_page ≡ true
unfolding chars encode is_utf8
its_texts_are_utf8 = refl

its_document_is_common : common.is_common which.Linked (encoded its_document) ≡ true
unfolding chars encode role_of table_role heading_or_block block_role inline_role element_role shown document_by
    document_of_tree node_of
its_document_is_common = refl

it_comes_back : SettledComeBack → (options : DocumentOptions)
    → length (markdown_of options its_document) < 2 ^ 64 → ComesBack which.Linked false options its_document
it_comes_back returned options =
    come-back returned which.Linked sight a_page options its_texts_are_utf8 its_document_is_common

-- ---- a rich page

-- <p><mark>b</mark></p>
abbrev a_rich_page : NumberedTree
a_rich_page =
    node.document 0 (node.more (node.element 1 (codes "p") []
    (node.more (node.element 2 (codes "mark") [] (node.more (node.text 3 (codes "b")) node.none)) node.none)) node.none)

abbrev rich_sight : Sight
rich_sight = whole_sight false true

abbrev rich_document : Blocks
rich_document = document_of_tree which.Linked rich_sight a_rich_page

it_has_a_mark : rich_document ≡ line (inline (formatted Marked (inline (text (codes "b")) no_inlines)) no_inlines)
unfolding chars encode role_of table_role heading_or_block block_role inline_role element_role shown document_by
    document_of_tree node_of
it_has_a_mark = refl

rich_texts_are_utf8 : is_text_tree a_rich_page ≡ true
unfolding chars encode is_utf8
rich_texts_are_utf8 = refl

rich_document_is_common : common.is_common which.Linked (encoded rich_document) ≡ true
unfolding chars encode role_of table_role heading_or_block block_role inline_role element_role shown document_by
    document_of_tree node_of
rich_document_is_common = refl

-- on a rich page
it_comes_back_there : SettledComeBack → (options : DocumentOptions)
    → length (markdown_of options rich_document) < 2 ^ 64 → ComesBack which.Linked true options rich_document
it_comes_back_there returned options =
    come-back returned which.Linked rich_sight a_rich_page options rich_texts_are_utf8 rich_document_is_common

-- ---- a page with an anchor

-- <h2 id="x">b</h2><p><a href="#x">c</a></p>
abbrev a_linked_page : NumberedTree
a_linked_page =
    node.document 0 (node.more (node.element 1 (codes "h2") (pairs_of_anchor (codes "x"))
    (node.more (node.text 2 (codes "b")) node.none)) (node.more (node.element 3 (codes "p") []
    (node.more (node.element 4 (codes "a") (pairs_of_link (codes "#x") None)
    (node.more (node.text 5 (codes "c")) node.none)) node.none)) node.none))

abbrev linked_document : Blocks
linked_document = document_of_tree which.Linked sight a_linked_page

it_has_an_anchor : linked_document ≡ block (heading 2 (inline (anchor (codes "x"))
    (inline (text (codes "b")) no_inlines))) (line (inline (link (codes "#x") None
    (inline (text (codes "c")) no_inlines)) no_inlines))
unfolding chars encode role_of table_role heading_or_block block_role inline_role element_role shown document_by
    document_of_tree node_of percent_decode
it_has_an_anchor = refl

linked_document_is_common : common.is_common which.Linked (encoded linked_document) ≡ true
unfolding chars encode role_of table_role heading_or_block block_role inline_role element_role shown document_by
    document_of_tree node_of percent_decode utf8_lossy utf8_valid_len is_utf8
linked_document_is_common = refl

-- <a href="#x"><h2 id="x">b</h2></a>: no other link leads there, and from this document the anchor goes
abbrev around_its_heading : NumberedTree
around_its_heading =
    node.document 0 (node.more (node.element 1 (codes "a") (pairs_of_link (codes "#x") None)
    (node.more (node.element 2 (codes "h2") (pairs_of_anchor (codes "x"))
    (node.more (node.text 3 (codes "b")) node.none)) node.none)) node.none)

abbrev led_by_itself : Blocks
led_by_itself = document_of_tree which.Linked sight around_its_heading

its_link_is_within : led_by_itself ≡ block (heading 2 (inline (anchor (codes "x")) (inline (link (codes "#x") None
    (inline (text (codes "b")) no_inlines)) no_inlines))) no_blocks
unfolding chars encode role_of table_role heading_or_block block_role inline_role element_role shown document_by
    document_of_tree node_of percent_decode
its_link_is_within = refl

led_by_itself_is_not_common : common.is_common which.Linked (encoded led_by_itself) ≡ false
unfolding chars encode role_of table_role heading_or_block block_role inline_role element_role shown document_by
    document_of_tree node_of percent_decode utf8_lossy utf8_valid_len is_utf8
led_by_itself_is_not_common = refl

with_all_it_is : common.is_common which.All (encoded led_by_itself) ≡ true
unfolding chars encode role_of table_role heading_or_block block_role inline_role element_role shown document_by
    document_of_tree node_of percent_decode utf8_lossy utf8_valid_len is_utf8
with_all_it_is = refl
