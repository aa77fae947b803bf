-- Worked rows: a document that comes back from the HTML of its Markdown. Each holds by computing.
use Rattle.std.proofs.Common.{◌≡◌, ℕ, Bool, List, [], true, false, ◌∷◌, ◌++◌, refl, codes, None, Some}
use Rattle.std.specs.Fmt.{digits}
use Rattle.std.specs.Str.{chars, is_utf8}
use Rattle.unicode.proofs.CategoryComputing.{ucd_category}
use Rattle.htmd_nodes.specs.NumberedTrees.{forest_from, tree_of}
use Rattle.htmd_html5_state.specs.Adoption.{move_last, wrap_children}
use Rattle.htmd_html5.specs.BodyEnds.{text_end_rule}
use Rattle.htmd_html5.specs.BodyStarts.{block_rule, formatting_rule, phrasing_rule}
use Rattle.htmd_html5.specs.Html5Documents.{html5_document}
use Rattle.htmd_markdown.specs.declared.fence.CodeBlockFence.TheVariants.{Backticks}
use Rattle.htmd_markdown.specs.declared.heading.HeadingStyle.TheVariants.{Atx}
use Rattle.htmd_markdown.specs.declared.line_break.BrStyle.TheVariants.{TwoSpaces}
use Rattle.htmd_markdown.specs.declared.link.LinkStyle.TheVariants.{Inlined}
use Rattle.htmd_markdown.specs.declared.list.BulletListMarker.TheVariants.{Dash}
use Rattle.htmd_markdown.specs.declared.thematic_break.HrStyle.TheVariants.{Dashes}
use Rattle.htmd_document.specs.Documents.{Blocks, text, formatted, image, link, anchor, line_break, inline, no_inlines}
use Rattle.htmd_document.specs.Documents.{paragraph, heading, quote, list, block, no_blocks, task, Items, item}
use Rattle.htmd_document.specs.Documents.{no_items}
use Rattle.htmd_document.specs.Documents.{thematic_break, code_block, element, Block}
use Rattle.htmd_document.specs.declared.document.BlockElement.{BlockElement}
use Rattle.htmd_document.specs.declared.document.AttributeName.TheVariants as attribute
use Rattle.htmd_document.specs.declared.document.BlockElement.TheVariants as an
use Rattle.htmd_document.specs.Formats.{Emphasis}
use Rattle.htmd_document.specs.NormalDocuments.{IsNormal}
use Rattle.htmd_flow.specs.Flows.{node_of}
use Rattle.htmd_shown.specs.Roles.{role_of, table_role, heading_or_block, block_role, inline_role, element_role}
use Rattle.htmd_shown.specs.Shown.{shown}
use Rattle.htmd_commonmark.specs.declared.options.DocumentOptions.{DocumentOptions}
use Rattle.htmd_commonmark_reading.specs.Rendering.{html_of}
use Rattle.htmd_document_of_tree.specs.declared.anchors.Anchors.TheVariants as which
use Rattle.htmd_document_of_tree.specs.TreeDocuments.{document_by, document_of_tree}
use Rattle.htmd_law_rendering.specs.DocumentLaws.{reading_of}
use Rattle.htmd_law_rendering.specs.PlainReadings.{elements_fit}
use Rattle.htmd_law_returning.proofs.PairReadings.{blocks_have_pairs_alone}
use Rattle.htmd_law_returning.proofs.RawReadings.{blocks_have_no_raw}
use Rattle.htmd_law_returning.specs.ReturningLaws.{whole_sight}
use Rattle.htmd_law_returning.specs.EncodedDocuments.{encoded}
use Rattle.htmd_law_returning.specs.SettledDocuments.{are_settled}
use Rattle.htmd_law_returning.specs.PageFormats.{formats_show}
use Rattle.htmd_law_returning.specs.LastingAnchors.{anchors_stay}
use Rattle.htmd_law_returning.specs.NoAnchors.{blocks_have_no_anchors}
use Rattle.htmd_law_returning.specs.ComingBack.{page_back}
use lib.Utf8.{encode}

-- > a *b*
abbrev a_quote : Blocks
a_quote =
    block (quote (block (paragraph (inline (text (codes "a "))
    (inline (formatted Emphasis (inline (text (codes "b")) no_inlines)) no_inlines))) no_blocks)) no_blocks

it_is_normal : IsNormal a_quote
unfolding is_utf8 chars encode
it_is_normal = refl

it_is_settled : are_settled a_quote ≡ true
unfolding chars encode
it_is_settled = refl

its_html : (options : DocumentOptions) → html_of (reading_of options a_quote)
    ≡ codes "<blockquote>\n<p>a <em>b</em></p>\n</blockquote>\n"
unfolding chars encode ucd_category digits
its_html options = refl

it_comes_back : (options : DocumentOptions)
    → document_of_tree which.Linked (whole_sight false false) (page_back false options a_quote) ≡ a_quote
unfolding chars encode ucd_category digits html5_document block_rule formatting_rule phrasing_rule text_end_rule
    move_last wrap_children forest_from tree_of role_of table_role heading_or_block block_role inline_role element_role
    shown document_by document_of_tree node_of
it_comes_back options = refl

-- ---- with raw tags

-- `*` between these would be a sign, so that it is written as a tag
abbrev in_a_word : Blocks
in_a_word =
    block (paragraph (inline (text (codes "a")) (inline (formatted Emphasis (inline (text (codes "("))
    no_inlines)) (inline (text (codes "b")) no_inlines)))) no_blocks

tags_are_read : (options : DocumentOptions) → blocks_have_no_raw (reading_of options in_a_word) ≡ false
unfolding chars encode ucd_category digits
tags_are_read options = refl

they_are_pairs : (options : DocumentOptions) → blocks_have_pairs_alone (reading_of options in_a_word) ≡ true
unfolding chars encode ucd_category digits
they_are_pairs options = refl

it_has_no_anchors : blocks_have_no_anchors in_a_word ≡ true
it_has_no_anchors = refl

it_comes_back_too : (options : DocumentOptions)
    → document_of_tree which.Linked (whole_sight false false) (page_back false options in_a_word) ≡ in_a_word
unfolding chars encode ucd_category digits html5_document block_rule formatting_rule phrasing_rule text_end_rule
    move_last wrap_children forest_from tree_of role_of table_role heading_or_block block_role inline_role element_role
    shown document_by document_of_tree node_of
it_comes_back_too options = refl

-- ---- breaks

abbrev a_heading : ℕ → Blocks
a_heading level =
    block (heading level (inline (text (codes "a")) (inline line_break (inline (text (codes "b")) no_inlines))))
    no_blocks

it_is_settled_as_well : are_settled (a_heading 3) ≡ true
unfolding chars encode
it_is_settled_as_well = refl

abbrev pub usual : DocumentOptions
usual = record {
  heading_style = Atx;
  hr_style = Dashes;
  br_style = TwoSpaces;
  link_style = Inlined;
  code_block_fence = Backticks;
  bullet_list_marker = Dash;
  ul_bullet_spacing = 1;
  ol_number_spacing = 1;
}

-- in a heading a break is a tag, and no line ends behind it
its_break_is_a_tag : html_of (reading_of usual (a_heading 3)) ≡ codes "<h3>a<br>b</h3>\n"
unfolding chars encode ucd_category digits
its_break_is_a_tag = refl

it_comes_back_as_well :
    document_of_tree which.Linked (whole_sight false false) (page_back false usual (a_heading 3)) ≡ a_heading 3
unfolding chars encode ucd_category digits html5_document block_rule formatting_rule phrasing_rule text_end_rule
    move_last wrap_children forest_from tree_of role_of table_role heading_or_block block_role inline_role element_role
    shown document_by document_of_tree node_of
it_comes_back_as_well = refl

-- ---- tasks

-- - [x] a
abbrev a_task : Bool → Blocks
a_task done =
    block (list None true (item (block (paragraph (inline (task done) (inline (text (codes " a")) no_inlines)))
    no_blocks) no_items)) no_blocks

a_task_is_settled : are_settled (a_task true) ≡ true
unfolding chars encode
a_task_is_settled = refl

-- of the white space behind a box a page keeps one space
a_wide_space_behind_it : are_settled (block (list None true (item (block (paragraph (inline (task true)
    (inline (text (32 ∷ 0xC2 ∷ 0xA0 ∷ codes "a")) no_inlines))) no_blocks) no_items)) no_blocks) ≡ false
unfolding chars encode
a_wide_space_behind_it = refl

its_box_is_an_element : html_of (reading_of usual (a_task true))
    ≡ codes "<ul>\n<li><input checked=\"\" disabled=\"\" type=\"checkbox\"> a</li>\n</ul>\n"
unfolding chars encode ucd_category digits
its_box_is_an_element = refl

it_comes_back_checked :
    document_of_tree which.Linked (whole_sight false false) (page_back false usual (a_task true)) ≡ a_task true
unfolding chars encode ucd_category digits html5_document block_rule formatting_rule phrasing_rule text_end_rule
    move_last wrap_children forest_from tree_of role_of table_role heading_or_block block_role inline_role element_role
    shown document_by document_of_tree node_of
it_comes_back_checked = refl

-- ---- elements

-- an open `details`
abbrev a_details : Blocks
a_details =
    block (element an.Details (record { name = attribute.Open; value = [] } ∷ []) (block thematic_break
    (block (paragraph (inline (text (codes "a")) no_inlines)) no_blocks))) no_blocks

its_elements_fit : elements_fit a_details ≡ true
its_elements_fit = refl

a_details_is_settled : are_settled a_details ≡ true
unfolding chars encode
a_details_is_settled = refl

its_tags_are_lines :
    html_of (reading_of usual a_details) ≡ codes "<details open=\"\">\n<hr />\n<p>a</p>\n</details>\n"
unfolding chars encode ucd_category digits
its_tags_are_lines = refl

it_comes_back_rich :
    document_of_tree which.Linked (whole_sight false true) (page_back false usual a_details) ≡ a_details
unfolding chars encode ucd_category digits html5_document block_rule formatting_rule phrasing_rule text_end_rule
    move_last wrap_children forest_from tree_of role_of table_role heading_or_block block_role inline_role element_role
    shown document_by document_of_tree node_of
it_comes_back_rich = refl

-- around one text, in one line
abbrev around_a_text : Blocks
around_a_text =
    block (element an.Details [] (block (paragraph (inline (text (codes "a")) no_inlines)) no_blocks)) no_blocks

around_a_text_is_settled : are_settled around_a_text ≡ true
unfolding chars encode
around_a_text_is_settled = refl

its_tags_are_a_line : html_of (reading_of usual around_a_text) ≡ codes "<details>a</details>\n"
unfolding chars encode ucd_category digits
its_tags_are_a_line = refl

its_text_comes_back :
    document_of_tree which.Linked (whole_sight false true) (page_back false usual around_a_text) ≡ around_a_text
unfolding chars encode ucd_category digits html5_document block_rule formatting_rule phrasing_rule text_end_rule
    move_last wrap_children forest_from tree_of role_of table_role heading_or_block block_role inline_role element_role
    shown document_by document_of_tree node_of
its_text_comes_back = refl

-- ---- their parts

abbrev with_text : BlockElement → Block
with_text outer = element outer [] (block (paragraph (inline (text (codes "a")) no_inlines)) no_blocks)

abbrev a_summary : Blocks
a_summary = block (element an.Details [] (block (with_text an.Summary) (block thematic_break no_blocks))) no_blocks

a_summary_is_settled : are_settled a_summary ≡ true
unfolding chars encode
a_summary_is_settled = refl

-- it stands in a `details` alone
a_summary_elsewhere : are_settled (block (with_text an.Summary) no_blocks) ≡ false
a_summary_elsewhere = refl

a_summary_comes_back :
    document_of_tree which.Linked (whole_sight false true) (page_back false usual a_summary) ≡ a_summary
unfolding chars encode ucd_category digits html5_document block_rule formatting_rule phrasing_rule text_end_rule
    move_last wrap_children forest_from tree_of role_of table_role heading_or_block block_role inline_role element_role
    shown document_by document_of_tree node_of
a_summary_comes_back = refl

-- two terms, a meaning of two blocks, and an empty one
abbrev some_terms : Blocks
some_terms =
    block (element an.Terms [] (block (with_text an.Term) (block (with_text an.Term)
    (block (element an.Meaning [] (block thematic_break (block thematic_break no_blocks)))
    (block (element an.Meaning [] no_blocks) no_blocks))))) no_blocks

some_terms_are_settled : are_settled some_terms ≡ true
unfolding chars encode
some_terms_are_settled = refl

their_elements_fit : elements_fit some_terms ≡ true
their_elements_fit = refl

their_tags : html_of (reading_of usual some_terms)
    ≡ codes "<dl>\n<dt>a</dt>\n<dt>a</dt>\n<dd>\n<hr />\n<hr />\n</dd>\n<dd></dd>\n</dl>\n"
unfolding chars encode ucd_category digits
their_tags = refl

some_terms_come_back :
    document_of_tree which.Linked (whole_sight false true) (page_back false usual some_terms) ≡ some_terms
unfolding chars encode ucd_category digits html5_document block_rule formatting_rule phrasing_rule text_end_rule
    move_last wrap_children forest_from tree_of role_of table_role heading_or_block block_role inline_role element_role
    shown document_by document_of_tree node_of
some_terms_come_back = refl

-- in a title no link is a sign alone: that would be for its own place
abbrev a_term : Blocks → Blocks
a_term content = block (element an.Terms [] (block (element an.Term [] content) no_blocks)) no_blocks

abbrev emphasised : Blocks
emphasised =
    block (heading 2 (inline (text (codes "a")) no_inlines))
    (block (paragraph (inline (formatted Emphasis (inline (text (codes "a")) no_inlines)) no_inlines)) no_blocks)

a_term_is_settled : are_settled (a_term emphasised) ≡ true
unfolding chars encode
a_term_is_settled = refl

its_term_is_in_lines :
    html_of (reading_of usual (a_term emphasised)) ≡ codes "<dl>\n<dt>\n<h2>a</h2>\n<p><em>a</em></p>\n</dt>\n</dl>\n"
unfolding chars encode ucd_category digits
its_term_is_in_lines = refl

a_term_comes_back :
    document_of_tree which.Linked (whole_sight false true) (page_back false usual (a_term emphasised))
    ≡ a_term emphasised
unfolding chars encode ucd_category digits html5_document block_rule formatting_rule phrasing_rule text_end_rule
    move_last wrap_children forest_from tree_of role_of table_role heading_or_block block_role inline_role element_role
    shown document_by document_of_tree node_of
a_term_comes_back = refl

a_sign_in_a_term : are_settled (a_term (block (paragraph (inline (link (codes "#a") None (inline (text (codes "#"))
    no_inlines)) no_inlines)) no_blocks)) ≡ false
unfolding chars encode
a_sign_in_a_term = refl

-- a term's anchor stands at its beginning
abbrev with_anchor : Blocks
with_anchor =
    a_term (block (paragraph (inline (anchor (codes "x")) (inline (text (codes "a b")) no_inlines))) no_blocks)

its_anchor_stays : anchors_stay which.All with_anchor ≡ true
unfolding chars encode
its_anchor_stays = refl

its_anchor_comes_back :
    document_of_tree which.All (whole_sight false true) (page_back false usual with_anchor) ≡ with_anchor
unfolding chars encode ucd_category digits html5_document block_rule formatting_rule phrasing_rule text_end_rule
    move_last wrap_children forest_from tree_of role_of table_role heading_or_block block_role inline_role element_role
    shown document_by document_of_tree node_of
its_anchor_comes_back = refl

-- from elsewhere it goes there
abbrev with_later_anchor : Blocks
with_later_anchor =
    a_term (block (paragraph (inline (text (codes "a ")) (inline (anchor (codes "x")) (inline (text (codes "b"))
    no_inlines)))) no_blocks)

a_later_anchor_is_lost : anchors_stay which.All with_later_anchor ≡ false
unfolding chars encode
a_later_anchor_is_lost = refl

it_goes_to_the_beginning :
    document_of_tree which.All (whole_sight false true) (page_back false usual with_later_anchor) ≡ with_anchor
unfolding chars encode ucd_category digits html5_document block_rule formatting_rule phrasing_rule text_end_rule
    move_last wrap_children forest_from tree_of role_of table_role heading_or_block block_role inline_role element_role
    shown document_by document_of_tree node_of
it_goes_to_the_beginning = refl

-- in an element one may stand alone before a code block
abbrev before_code : Blocks
before_code =
    block (element an.Details [] (block (element an.Summary [] (block (paragraph (inline (text (codes "a")) no_inlines))
    no_blocks)) (block (paragraph (inline (anchor (codes "x")) no_inlines))
    (block (code_block None (codes "a")) no_blocks)))) no_blocks

it_stays_alone : anchors_stay which.All before_code ≡ true
unfolding chars encode
it_stays_alone = refl

it_comes_back_alone :
    document_of_tree which.All (whole_sight false true) (page_back false usual before_code) ≡ before_code
unfolding chars encode ucd_category digits html5_document block_rule formatting_rule phrasing_rule text_end_rule
    move_last wrap_children forest_from tree_of role_of table_role heading_or_block block_role inline_role element_role
    shown document_by document_of_tree node_of
it_comes_back_alone = refl

-- where nothing stands in one there is no list
no_terms : are_settled (block (element an.Terms [] (block (element an.Term [] no_blocks) no_blocks)) no_blocks)
    ≡ false
no_terms = refl

-- a picture in a quote with its caption
abbrev a_caption : Block
a_caption =
    element an.FigureCaption [] (block (paragraph (inline (text (codes "a")) (inline (formatted Emphasis
    (inline (text (codes "b")) no_inlines)) no_inlines))) no_blocks)

abbrev a_figure : Blocks
a_figure =
    block (element an.Figure [] (block (quote (block (paragraph (inline (image (codes "c") None (codes "d"))
    no_inlines)) no_blocks)) (block a_caption no_blocks))) no_blocks

a_figure_is_settled : are_settled a_figure ≡ true
unfolding chars encode
a_figure_is_settled = refl

its_caption_is_read : html_of (reading_of usual a_figure)
    ≡ codes "<figure>\n<blockquote>\n<p><img src=\"c\" alt=\"d\" /></p>\n</blockquote>\n<figcaption>\n"
    ++ codes "<p>a<em>b</em></p>\n</figcaption>\n</figure>\n"
unfolding chars encode ucd_category digits
its_caption_is_read = refl

a_figure_comes_back :
    document_of_tree which.Linked (whole_sight false true) (page_back false usual a_figure) ≡ a_figure
unfolding chars encode ucd_category digits html5_document block_rule formatting_rule phrasing_rule text_end_rule
    move_last wrap_children forest_from tree_of role_of table_role heading_or_block block_role inline_role element_role
    shown document_by document_of_tree node_of
a_figure_comes_back = refl

-- anchors in its line and at the beginning of its caption come back
abbrev a_captioned : Blocks → Blocks
a_captioned c =
    block (element an.Figure [] (block (paragraph (inline (anchor (codes "x")) (inline (text (codes "a"))
    no_inlines))) (block (element an.FigureCaption [] c) no_blocks))) no_blocks

abbrev a_place : Blocks
a_place = a_captioned (block (paragraph (inline (anchor (codes "y")) (inline (text (codes "b")) no_inlines))) no_blocks)

its_anchors_stay : anchors_stay which.All a_place ≡ true
unfolding chars encode
its_anchors_stay = refl

they_come_back_in_it :
    document_of_tree which.All (whole_sight false true) (page_back false usual a_place) ≡ a_place
unfolding chars encode ucd_category digits html5_document block_rule formatting_rule phrasing_rule text_end_rule
    move_last wrap_children forest_from tree_of role_of table_role heading_or_block block_role inline_role element_role
    shown document_by document_of_tree node_of
they_come_back_in_it = refl

-- but none behind what shows in a caption
later_in_a_caption : anchors_stay which.All (a_captioned (block (paragraph (inline (text (codes "b"))
    (inline (anchor (codes "y")) (inline (text (codes "c")) no_inlines)))) no_blocks)) ≡ false
unfolding chars encode
later_in_a_caption = refl

-- any blocks stand in one: code, with an anchor before it and with a language, a heading, a list and a figure
abbrev around_blocks : Blocks
around_blocks =
    block (element an.Figure [] (block (paragraph (inline (anchor (codes "x")) no_inlines))
    (block (code_block None (codes "a")) (block (code_block (Some (codes "b")) (codes "c"))
    (block (heading 2 (inline (text (codes "d")) no_inlines))
    (block (list None true (item (block (paragraph (inline (text (codes "e")) no_inlines)) no_blocks) no_items))
    (block (element an.Figure [] (block (code_block None (codes "f")) (block a_caption no_blocks)))
    (block a_caption no_blocks)))))))) no_blocks

around_blocks_it_is_settled : are_settled around_blocks ≡ true
unfolding is_utf8 chars encode
around_blocks_it_is_settled = refl

its_anchor_before_code_stays : anchors_stay which.All around_blocks ≡ true
unfolding chars encode
its_anchor_before_code_stays = refl

around_blocks_it_comes_back :
    document_of_tree which.All (whole_sight false true) (page_back false usual around_blocks) ≡ around_blocks
unfolding chars encode ucd_category digits html5_document block_rule formatting_rule phrasing_rule text_end_rule
    move_last wrap_children forest_from tree_of role_of table_role heading_or_block block_role inline_role element_role
    shown document_by document_of_tree node_of
around_blocks_it_comes_back = refl

-- without one a page has what is in it
a_figure_alone : are_settled (block (element an.Figure [] (block thematic_break no_blocks)) no_blocks) ≡ false
a_figure_alone = refl

it_is_what_is_in_it :
    document_of_tree which.Linked (whole_sight false true) (page_back false usual
    (block (element an.Figure [] (block thematic_break (block thematic_break no_blocks))) no_blocks))
    ≡ block thematic_break (block thematic_break no_blocks)
unfolding chars encode ucd_category digits html5_document block_rule formatting_rule phrasing_rule text_end_rule
    move_last wrap_children forest_from tree_of role_of table_role heading_or_block block_role inline_role element_role
    shown document_by document_of_tree node_of
it_is_what_is_in_it = refl

-- in a loose list, and in a quote in a tight one
abbrev in_lists : Blocks
in_lists =
    block (list None false (item a_details (item (block (list None true (item (block (quote a_details) no_blocks)
    (item (block (heading 1 (inline (text (codes "b")) no_inlines)) no_blocks) no_items))) no_blocks) no_items)))
    no_blocks

in_lists_it_is_settled : are_settled in_lists ≡ true
unfolding chars encode
in_lists_it_is_settled = refl

its_lists : html_of (reading_of usual in_lists)
    ≡ codes "<ul>\n<li>\n<details open=\"\">\n<hr />\n<p>a</p>\n</details>\n</li>\n<li>\n<ul>\n<li>\n<blockquote>\n"
    ++ codes "<details open=\"\">\n<hr />\n<p>a</p>\n</details>\n</blockquote>\n</li>\n<li>\n<h1>b</h1>\n</li>\n</ul>\n"
    ++ codes "</li>\n</ul>\n"
unfolding chars encode ucd_category digits
its_lists = refl

it_comes_back_in_lists :
    document_of_tree which.Linked (whole_sight false true) (page_back false usual in_lists) ≡ in_lists
unfolding chars encode ucd_category digits html5_document block_rule formatting_rule phrasing_rule text_end_rule
    move_last wrap_children forest_from tree_of role_of table_role heading_or_block block_role inline_role element_role
    shown document_by document_of_tree node_of
it_comes_back_in_lists = refl

-- a tight list of two items has no element in a line alone, but one of one has, and a loose one
abbrev lines_in_a_list : Bool → Items → Blocks
lines_in_a_list is_tight items = block (list None is_tight (item around_a_text items)) no_blocks

two_lines_apart : are_settled (lines_in_a_list true (item around_a_text no_items)) ≡ false
unfolding chars encode
two_lines_apart = refl

two_lines_are_loose : are_settled (lines_in_a_list false (item around_a_text no_items)) ≡ true
unfolding chars encode
two_lines_are_loose = refl

a_line_is_settled : are_settled (lines_in_a_list true no_items) ≡ true
unfolding chars encode
a_line_is_settled = refl

a_line_comes_back :
    document_of_tree which.Linked (whole_sight false true) (page_back false usual (lines_in_a_list true no_items))
    ≡ lines_in_a_list true no_items
unfolding chars encode ucd_category digits html5_document block_rule formatting_rule phrasing_rule text_end_rule
    move_last wrap_children forest_from tree_of role_of table_role heading_or_block block_role inline_role element_role
    shown document_by document_of_tree node_of
a_line_comes_back = refl

two_lines_come_back_loose :
    document_of_tree which.Linked (whole_sight false true)
    (page_back false usual (lines_in_a_list true (item around_a_text no_items)))
    ≡ lines_in_a_list false (item around_a_text no_items)
unfolding chars encode ucd_category digits html5_document block_rule formatting_rule phrasing_rule text_end_rule
    move_last wrap_children forest_from tree_of role_of table_role heading_or_block block_role inline_role element_role
    shown document_by document_of_tree node_of
two_lines_come_back_loose = refl

-- another page shows what is in it
on_another_page : formats_show false a_details ≡ false
on_another_page = refl

-- ---- anchors

an_anchor : blocks_have_no_anchors (block (paragraph (inline (anchor (codes "a")) (inline (text (codes "b"))
    no_inlines))) no_blocks) ≡ false
an_anchor = refl

-- ---- pictures

abbrev a_picture : Blocks
a_picture =
    block (paragraph (inline (text (codes "a ")) (inline (image (codes "b") None (codes "c")) no_inlines))) no_blocks

a_picture_comes_back : (options : DocumentOptions)
    → document_of_tree which.Linked (whole_sight false false) (page_back false options a_picture) ≡ a_picture
unfolding chars encode ucd_category digits html5_document block_rule formatting_rule phrasing_rule text_end_rule
    move_last wrap_children forest_from tree_of role_of table_role heading_or_block block_role inline_role element_role
    shown document_by document_of_tree node_of
a_picture_comes_back options = refl

-- ---- addresses

-- ![a](<b c>)
abbrev at_an_address : List ℕ → Blocks
at_an_address address = block (paragraph (inline (image address None (codes "a")) no_inlines)) no_blocks

it_is_settled_so : are_settled (encoded (at_an_address (codes "b c"))) ≡ true
unfolding chars encode
it_is_settled_so = refl

it_comes_back_encoded : (options : DocumentOptions)
    → document_of_tree which.Linked (whole_sight false false) (page_back false options (at_an_address (codes "b c")))
    ≡ at_an_address (codes "b%20c")
unfolding chars encode ucd_category digits html5_document block_rule formatting_rule phrasing_rule text_end_rule
    move_last wrap_children forest_from tree_of role_of table_role heading_or_block block_role inline_role element_role
    shown document_by document_of_tree node_of
it_comes_back_encoded options = refl
