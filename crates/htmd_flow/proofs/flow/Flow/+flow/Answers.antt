-- What each function of the flow gives.
use Rattle.htmd_flow.proofs.flow.Flow.+flow.Answers.NodeAnswers as nodes
use Rattle.htmd_flow.proofs.flow.Flow.+flow.Answers.ListAnswers as lists
use Rattle.htmd_flow.proofs.flow.Flow.+flow.Answers.DescriptionAnswers as descriptions
use Rattle.htmd_flow.proofs.flow.Flow.+flow.Answers.RichAnswers as rich
use Rattle.htmd_flow.proofs.flow.Flow.+flow.Answers.RichTableAnswers as rich_tables
use Rattle.htmd_flow.proofs.flow.Flow.+flow.Answers.TableAnswers as tables
use Rattle.htmd_flow.proofs.flow.Flow.+flow.Goals as goal
mod NodeAnswers
mod ListAnswers
mod DescriptionAnswers
mod RichAnswers
mod RichTableAnswers
mod TableAnswers

pub apart-returns : goal.apart-returns
apart-returns = nodes.apart-returns

pub each-loop-node-preserved : goal.each-loop-node-preserved
each-loop-node-preserved = nodes.each-loop-node-preserved

pub each-returns : goal.each-returns
each-returns = nodes.each-returns

pub heading-returns-then-place-clause-out : goal.heading-returns-then-place-clause-out
heading-returns-then-place-clause-out = nodes.heading-returns-then-place-clause-out

pub heading-returns-clause-out : goal.heading-returns-clause-out
heading-returns-clause-out = nodes.heading-returns-clause-out

pub headed_line-returns-then-is_unlinked-clause-content : goal.headed_line-returns-then-is_unlinked-clause-content
headed_line-returns-then-is_unlinked-clause-content = nodes.headed_line-returns-then-is_unlinked-clause-content

pub headed_line-returns-clause-content : goal.headed_line-returns-clause-content
headed_line-returns-clause-content = nodes.headed_line-returns-clause-content

pub quote-returns-then-is_lined-clause-out : goal.quote-returns-then-is_lined-clause-out
quote-returns-then-is_lined-clause-out = nodes.quote-returns-then-is_lined-clause-out

pub quote-returns-clause-out : goal.quote-returns-clause-out
quote-returns-clause-out = nodes.quote-returns-clause-out

pub anchors-returns-then-place-clause-out : goal.anchors-returns-then-place-clause-out
anchors-returns-then-place-clause-out = nodes.anchors-returns-then-place-clause-out

pub anchors-returns-clause-out : goal.anchors-returns-clause-out
anchors-returns-clause-out = nodes.anchors-returns-clause-out

pub list-returns-clause-out : goal.list-returns-clause-out
list-returns-clause-out = lists.list-returns-clause-out

pub list-items-requires : goal.list-items-requires
list-items-requires = lists.list-items-requires

pub list-each-requires-2 : goal.list-each-requires-2
list-each-requires-2 = lists.list-each-requires-2

pub item-loop-node-preserved : goal.item-loop-node-preserved
item-loop-node-preserved = lists.item-loop-node-preserved

pub whole-returns-in-Text-clause-out : goal.whole-returns-in-Text-clause-out
whole-returns-in-Text-clause-out = nodes.whole-returns-in-Text-clause-out

pub whole-returns-in-Image-clause-out : goal.whole-returns-in-Image-clause-out
whole-returns-in-Image-clause-out = nodes.whole-returns-in-Image-clause-out

pub whole-returns-in-Formula-clause-out : goal.whole-returns-in-Formula-clause-out
whole-returns-in-Formula-clause-out = nodes.whole-returns-in-Formula-clause-out

pub whole-returns-in-Embedded-clause-out : goal.whole-returns-in-Embedded-clause-out
whole-returns-in-Embedded-clause-out = nodes.whole-returns-in-Embedded-clause-out

pub whole-returns-in-Anchor-clause-out : goal.whole-returns-in-Anchor-clause-out
whole-returns-in-Anchor-clause-out = nodes.whole-returns-in-Anchor-clause-out

pub whole-returns-in-Element-clause-out : goal.whole-returns-in-Element-clause-out
whole-returns-in-Element-clause-out = nodes.whole-returns-in-Element-clause-out

pub whole-element-requires : goal.whole-element-requires
whole-element-requires = nodes.whole-element-requires

pub element-returns-in-Plain-clause-out : goal.element-returns-in-Plain-clause-out
element-returns-in-Plain-clause-out = nodes.element-returns-in-Plain-clause-out

pub element-returns-in-Target-clause-out : goal.element-returns-in-Target-clause-out
element-returns-in-Target-clause-out = nodes.element-returns-in-Target-clause-out

pub element-returns-in-Unlinked-clause-out : goal.element-returns-in-Unlinked-clause-out
element-returns-in-Unlinked-clause-out = nodes.element-returns-in-Unlinked-clause-out

pub element-returns-in-Apart-clause-out : goal.element-returns-in-Apart-clause-out
element-returns-in-Apart-clause-out = nodes.element-returns-in-Apart-clause-out

pub element-returns-in-Anchors-clause-out : goal.element-returns-in-Anchors-clause-out
element-returns-in-Anchors-clause-out = nodes.element-returns-in-Anchors-clause-out

pub element-returns-in-Code-clause-out : goal.element-returns-in-Code-clause-out
element-returns-in-Code-clause-out = nodes.element-returns-in-Code-clause-out

pub element-returns-in-Typed-clause-out : goal.element-returns-in-Typed-clause-out
element-returns-in-Typed-clause-out = nodes.element-returns-in-Typed-clause-out

pub element-returns-in-Format-clause-out : goal.element-returns-in-Format-clause-out
element-returns-in-Format-clause-out = nodes.element-returns-in-Format-clause-out

pub element-returns-in-Element-clause-out : goal.element-returns-in-Element-clause-out
element-returns-in-Element-clause-out = nodes.element-returns-in-Element-clause-out

pub element-returns-in_ok-link-in-Link-clause-out : goal.element-returns-in_ok-link-in-Link-clause-out
element-returns-in_ok-link-in-Link-clause-out = nodes.element-returns-in_ok-link-in-Link-clause-out

pub element-returns-in-LineBreak-clause-out : goal.element-returns-in-LineBreak-clause-out
element-returns-in-LineBreak-clause-out = nodes.element-returns-in-LineBreak-clause-out

pub element-returns-in_ok-push_box-in-Input-clause-out : goal.element-returns-in_ok-push_box-in-Input-clause-out
element-returns-in_ok-push_box-in-Input-clause-out = nodes.element-returns-in_ok-push_box-in-Input-clause-out

pub element-returns-in_default-clause-out : goal.element-returns-in_default-clause-out
element-returns-in_default-clause-out = nodes.element-returns-in_default-clause-out

pub block-returns-in-Heading-clause-out : goal.block-returns-in-Heading-clause-out
block-returns-in-Heading-clause-out = nodes.block-returns-in-Heading-clause-out

pub block-returns-in-BlockQuote-clause-out : goal.block-returns-in-BlockQuote-clause-out
block-returns-in-BlockQuote-clause-out = nodes.block-returns-in-BlockQuote-clause-out

pub block-returns-in-BulletList-clause-out : goal.block-returns-in-BulletList-clause-out
block-returns-in-BulletList-clause-out = nodes.block-returns-in-BulletList-clause-out

pub block-returns-in-Division-clause-out : goal.block-returns-in-Division-clause-out
block-returns-in-Division-clause-out = nodes.block-returns-in-Division-clause-out

pub block-returns-in-Figure-clause-out : goal.block-returns-in-Figure-clause-out
block-returns-in-Figure-clause-out = nodes.block-returns-in-Figure-clause-out

pub block-returns-in-Cell-clause-out : goal.block-returns-in-Cell-clause-out
block-returns-in-Cell-clause-out = nodes.block-returns-in-Cell-clause-out

pub block-returns-in-Terms-clause-out : goal.block-returns-in-Terms-clause-out
block-returns-in-Terms-clause-out = nodes.block-returns-in-Terms-clause-out

pub block-returns-in-Table-clause-out : goal.block-returns-in-Table-clause-out
block-returns-in-Table-clause-out = nodes.block-returns-in-Table-clause-out

pub block-returns-in-Preformatted-clause-out : goal.block-returns-in-Preformatted-clause-out
block-returns-in-Preformatted-clause-out = nodes.block-returns-in-Preformatted-clause-out

pub block-returns-in-Verbatim-clause-out : goal.block-returns-in-Verbatim-clause-out
block-returns-in-Verbatim-clause-out = nodes.block-returns-in-Verbatim-clause-out

pub block-returns-in-ThematicBreak-clause-out : goal.block-returns-in-ThematicBreak-clause-out
block-returns-in-ThematicBreak-clause-out = nodes.block-returns-in-ThematicBreak-clause-out

pub block-returns-in-NumberedList-clause-out : goal.block-returns-in-NumberedList-clause-out
block-returns-in-NumberedList-clause-out = nodes.block-returns-in-NumberedList-clause-out

pub block-returns-in_default-clause-out : goal.block-returns-in_default-clause-out
block-returns-in_default-clause-out = nodes.block-returns-in_default-clause-out

pub among-loop-at-preserved-then-not-is_item : goal.among-loop-at-preserved-then-not-is_item
among-loop-at-preserved-then-not-is_item = nodes.among-loop-at-preserved-then-not-is_item

pub among-loop-at-preserved : goal.among-loop-at-preserved
among-loop-at-preserved = nodes.among-loop-at-preserved

pub among-list-requires : goal.among-list-requires
among-list-requires = nodes.among-list-requires

pub among-whole-requires : goal.among-whole-requires
among-whole-requires = nodes.among-whole-requires

pub among-returns-clause-out : goal.among-returns-clause-out
among-returns-clause-out = nodes.among-returns-clause-out

pub items-item-requires : goal.items-item-requires
items-item-requires = lists.items-item-requires

pub items-loop-at-preserved : goal.items-loop-at-preserved
items-loop-at-preserved = lists.items-loop-at-preserved

pub items-returns-clause-items : goal.items-returns-clause-items
items-returns-clause-items = lists.items-returns-clause-items

pub item-among-requires : goal.item-among-requires
item-among-requires = lists.item-among-requires

pub beside_terms-returns-then-is_meaning-clause-out : goal.beside_terms-returns-then-is_meaning-clause-out
beside_terms-returns-then-is_meaning-clause-out = lists.beside_terms-returns-then-is_meaning-clause-out

pub beside_terms-returns-then-is_item-clause-out : goal.beside_terms-returns-then-is_item-clause-out
beside_terms-returns-then-is_item-clause-out = lists.beside_terms-returns-then-is_item-clause-out

pub beside_terms-returns-clause-out : goal.beside_terms-returns-clause-out
beside_terms-returns-clause-out = lists.beside_terms-returns-clause-out

pub within_item-returns-then-is_meaning-clause-out : goal.within_item-returns-then-is_meaning-clause-out
within_item-returns-then-is_meaning-clause-out = lists.within_item-returns-then-is_meaning-clause-out

pub within_item-returns-clause-out : goal.within_item-returns-clause-out
within_item-returns-clause-out = lists.within_item-returns-clause-out

pub term_parts-loop-node-preserved : goal.term_parts-loop-node-preserved
term_parts-loop-node-preserved = lists.term_parts-loop-node-preserved

pub term_parts-loop-node-init : goal.term_parts-loop-node-init
term_parts-loop-node-init = lists.term_parts-loop-node-init

pub term_parts-returns-clause-terms : goal.term_parts-returns-clause-terms
term_parts-returns-clause-terms = lists.term_parts-returns-clause-terms

pub term_nodes-loop-node-preserved : goal.term_nodes-loop-node-preserved
term_nodes-loop-node-preserved = lists.term_nodes-loop-node-preserved

pub term_nodes-loop-node-init : goal.term_nodes-loop-node-init
term_nodes-loop-node-init = lists.term_nodes-loop-node-init

pub term_nodes-returns-clause-terms : goal.term_nodes-returns-clause-terms
term_nodes-returns-clause-terms = lists.term_nodes-returns-clause-terms

pub term_part-returns-then-not-is_group-clause-terms : goal.term_part-returns-then-not-is_group-clause-terms
term_part-returns-then-not-is_group-clause-terms = lists.term_part-returns-then-not-is_group-clause-terms

pub terms-returns-then-is_lined-clause-out : goal.terms-returns-then-is_lined-clause-out
terms-returns-then-is_lined-clause-out = lists.terms-returns-then-is_lined-clause-out

pub captions-loop-node-preserved-then-not-is_caption : goal.captions-loop-node-preserved-then-not-is_caption
captions-loop-node-preserved-then-not-is_caption = tables.captions-loop-node-preserved-then-not-is_caption

pub captions-loop-node-preserved : goal.captions-loop-node-preserved
captions-loop-node-preserved = tables.captions-loop-node-preserved

pub captions-returns-clause-out : goal.captions-returns-clause-out
captions-returns-clause-out = tables.captions-returns-clause-out

pub captions_in_one_line-loop-node-preserved-then-not-is_caption :
    goal.captions_in_one_line-loop-node-preserved-then-not-is_caption
captions_in_one_line-loop-node-preserved-then-not-is_caption =
    tables.captions_in_one_line-loop-node-preserved-then-not-is_caption

pub captions_in_one_line-loop-node-preserved : goal.captions_in_one_line-loop-node-preserved
captions_in_one_line-loop-node-preserved = tables.captions_in_one_line-loop-node-preserved

pub captions_in_one_line-returns-clause-out : goal.captions_in_one_line-returns-clause-out
captions_in_one_line-returns-clause-out = tables.captions_in_one_line-returns-clause-out

pub rows_in_one_line-loop-node-preserved : goal.rows_in_one_line-loop-node-preserved
rows_in_one_line-loop-node-preserved = tables.rows_in_one_line-loop-node-preserved

pub rows_in_one_line-returns-clause-out : goal.rows_in_one_line-returns-clause-out
rows_in_one_line-returns-clause-out = tables.rows_in_one_line-returns-clause-out

pub push_rows-loop-node-preserved : goal.push_rows-loop-node-preserved
push_rows-loop-node-preserved = tables.push_rows-loop-node-preserved

pub push_rows-returns-clause-rows : goal.push_rows-returns-clause-rows
push_rows-returns-clause-rows = tables.push_rows-returns-clause-rows

pub are_paragraphs-loop-node-preserved : goal.are_paragraphs-loop-node-preserved
are_paragraphs-loop-node-preserved = tables.are_paragraphs-loop-node-preserved

pub are_paragraphs-returns-then-not-is_plain : goal.are_paragraphs-returns-then-not-is_plain
are_paragraphs-returns-then-not-is_plain = tables.are_paragraphs-returns-then-not-is_plain

pub are_paragraphs-returns : goal.are_paragraphs-returns
are_paragraphs-returns = tables.are_paragraphs-returns

pub is_grid-returns-in-Grid : goal.is_grid-returns-in-Grid
is_grid-returns-in-Grid = tables.is_grid-returns-in-Grid

pub is_grid-returns-in-Page : goal.is_grid-returns-in-Page
is_grid-returns-in-Page = tables.is_grid-returns-in-Page

pub is_grid-returns-in-GridOfParagraphs : goal.is_grid-returns-in-GridOfParagraphs
is_grid-returns-in-GridOfParagraphs = tables.is_grid-returns-in-GridOfParagraphs

pub table-returns-then-not-is_grid-clause-out : goal.table-returns-then-not-is_grid-clause-out
table-returns-then-not-is_grid-clause-out = tables.table-returns-then-not-is_grid-clause-out

pub table-returns-then-place-clause-out : goal.table-returns-then-place-clause-out
table-returns-then-place-clause-out = tables.table-returns-then-place-clause-out

pub table-returns-clause-out : goal.table-returns-clause-out
table-returns-clause-out = tables.table-returns-clause-out

pub push_row-returns-then-is_row-clause-rows : goal.push_row-returns-then-is_row-clause-rows
push_row-returns-then-is_row-clause-rows = tables.push_row-returns-then-is_row-clause-rows

pub push_row-returns-then-not-leads_to-clause-rows : goal.push_row-returns-then-not-leads_to-clause-rows
push_row-returns-then-not-leads_to-clause-rows = tables.push_row-returns-then-not-leads_to-clause-rows

pub push_row-returns-clause-rows : goal.push_row-returns-clause-rows
push_row-returns-clause-rows = tables.push_row-returns-clause-rows

pub row_in_one_line-returns-then-is_row-clause-out : goal.row_in_one_line-returns-then-is_row-clause-out
row_in_one_line-returns-then-is_row-clause-out = tables.row_in_one_line-returns-then-is_row-clause-out

pub row_in_one_line-returns-then-not-leads_to-clause-out : goal.row_in_one_line-returns-then-not-leads_to-clause-out
row_in_one_line-returns-then-not-leads_to-clause-out = tables.row_in_one_line-returns-then-not-leads_to-clause-out

pub row_in_one_line-returns-clause-out : goal.row_in_one_line-returns-clause-out
row_in_one_line-returns-clause-out = tables.row_in_one_line-returns-clause-out

pub is_plain-returns-then-is_row : goal.is_plain-returns-then-is_row
is_plain-returns-then-is_row = tables.is_plain-returns-then-is_row

pub is_plain-returns-then-not-leads_to : goal.is_plain-returns-then-not-leads_to
is_plain-returns-then-not-leads_to = tables.is_plain-returns-then-not-leads_to

pub is_plain-returns : goal.is_plain-returns
is_plain-returns = tables.is_plain-returns

pub holds_paragraphs-loop-node-preserved-then-not-is_cell : goal.holds_paragraphs-loop-node-preserved-then-not-is_cell
holds_paragraphs-loop-node-preserved-then-not-is_cell = tables.holds_paragraphs-loop-node-preserved-then-not-is_cell

pub holds_paragraphs-returns-then-not-is_paragraph : goal.holds_paragraphs-returns-then-not-is_paragraph
holds_paragraphs-returns-then-not-is_paragraph = tables.holds_paragraphs-returns-then-not-is_paragraph

pub holds_paragraphs-loop-node-preserved : goal.holds_paragraphs-loop-node-preserved
holds_paragraphs-loop-node-preserved = tables.holds_paragraphs-loop-node-preserved

pub holds_paragraphs-returns : goal.holds_paragraphs-returns
holds_paragraphs-returns = tables.holds_paragraphs-returns

pub cells_in_one_line-loop-node-preserved-then-not-is_cell : goal.cells_in_one_line-loop-node-preserved-then-not-is_cell
cells_in_one_line-loop-node-preserved-then-not-is_cell = tables.cells_in_one_line-loop-node-preserved-then-not-is_cell

pub cells_in_one_line-loop-node-preserved : goal.cells_in_one_line-loop-node-preserved
cells_in_one_line-loop-node-preserved = tables.cells_in_one_line-loop-node-preserved

pub cells_in_one_line-returns-clause-out : goal.cells_in_one_line-returns-clause-out
cells_in_one_line-returns-clause-out = tables.cells_in_one_line-returns-clause-out

pub cells-loop-node-preserved-then-not-is_cell : goal.cells-loop-node-preserved-then-not-is_cell
cells-loop-node-preserved-then-not-is_cell = tables.cells-loop-node-preserved-then-not-is_cell

pub cells-loop-node-preserved : goal.cells-loop-node-preserved
cells-loop-node-preserved = tables.cells-loop-node-preserved

pub cells-returns-clause-cells : goal.cells-returns-clause-cells
cells-returns-clause-cells = tables.cells-returns-clause-cells

pub cell-returns-clause-cell : goal.cell-returns-clause-cell
cell-returns-clause-cell = tables.cell-returns-clause-cell

pub grid_in_one_line-returns-clause-out : goal.grid_in_one_line-returns-clause-out
grid_in_one_line-returns-clause-out = tables.grid_in_one_line-returns-clause-out

pub grid-returns-clause-out : goal.grid-returns-clause-out
grid-returns-clause-out = tables.grid-returns-clause-out

pub term_node-returns-then-is_term-clause-terms : goal.term_node-returns-then-is_term-clause-terms
term_node-returns-then-is_term-clause-terms = lists.term_node-returns-then-is_term-clause-terms

pub term_node-returns-in_default-clause-terms : goal.term_node-returns-in_default-clause-terms
term_node-returns-in_default-clause-terms = lists.term_node-returns-in_default-clause-terms

pub term_node-returns-clause-terms : goal.term_node-returns-clause-terms
term_node-returns-clause-terms = lists.term_node-returns-clause-terms

pub term_part-returns-clause-terms : goal.term_part-returns-clause-terms
term_part-returns-clause-terms = lists.term_part-returns-clause-terms

pub terms-returns-then-not-kinds-clause-out : goal.terms-returns-then-not-kinds-clause-out
terms-returns-then-not-kinds-clause-out = lists.terms-returns-then-not-kinds-clause-out

pub terms-returns-clause-out : goal.terms-returns-clause-out
terms-returns-clause-out = lists.terms-returns-clause-out

pub item-returns-clause-item : goal.item-returns-clause-item
item-returns-clause-item = lists.item-returns-clause-item

pub near-returns-clause-out : goal.near-returns-clause-out
near-returns-clause-out = nodes.near-returns-clause-out

pub unlinked-returns : goal.unlinked-returns
unlinked-returns = nodes.unlinked-returns

pub unlinked-put_back-requires : goal.unlinked-put_back-requires
unlinked-put_back-requires = nodes.unlinked-put_back-requires

pub unlinked_line-returns : goal.unlinked_line-returns
unlinked_line-returns = nodes.unlinked_line-returns

pub unlinked_line-put_back-requires : goal.unlinked_line-put_back-requires
unlinked_line-put_back-requires = nodes.unlinked_line-put_back-requires

pub inside-returns-clause-around : goal.inside-returns-clause-around
inside-returns-clause-around = nodes.inside-returns-clause-around

pub inside-returns-clause-out : goal.inside-returns-clause-out
inside-returns-clause-out = nodes.inside-returns-clause-out

pub between-returns-clause-out : goal.between-returns-clause-out
between-returns-clause-out = nodes.between-returns-clause-out

pub line-returns-clause-content : goal.line-returns-clause-content
line-returns-clause-content = nodes.line-returns-clause-content

pub is_paragraph-returns : goal.is_paragraph-returns
is_paragraph-returns = tables.is_paragraph-returns

pub element-returns-in_ok-title-in-Abbreviation-clause-out : goal.element-returns-in_ok-title-in-Abbreviation-clause-out
element-returns-in_ok-title-in-Abbreviation-clause-out = nodes.element-returns-in_ok-title-in-Abbreviation-clause-out

pub block-returns-in-Details-clause-out : goal.block-returns-in-Details-clause-out
block-returns-in-Details-clause-out = nodes.block-returns-in-Details-clause-out

pub block-returns-in-Term-clause-out : goal.block-returns-in-Term-clause-out
block-returns-in-Term-clause-out = nodes.block-returns-in-Term-clause-out

pub block-returns-in-Caption-clause-out : goal.block-returns-in-Caption-clause-out
block-returns-in-Caption-clause-out = nodes.block-returns-in-Caption-clause-out

pub block-returns-in-FigureCaption-clause-out : goal.block-returns-in-FigureCaption-clause-out
block-returns-in-FigureCaption-clause-out = nodes.block-returns-in-FigureCaption-clause-out

pub block-returns-in-Summary-clause-out : goal.block-returns-in-Summary-clause-out
block-returns-in-Summary-clause-out = nodes.block-returns-in-Summary-clause-out

pub terms_at-returns-then-has_elements-clause-out : goal.terms_at-returns-then-has_elements-clause-out
terms_at-returns-then-has_elements-clause-out = nodes.terms_at-returns-then-has_elements-clause-out

pub terms_at-returns-clause-out : goal.terms_at-returns-clause-out
terms_at-returns-clause-out = nodes.terms_at-returns-clause-out

pub table_at-returns-then-has_elements-clause-out : goal.table_at-returns-then-has_elements-clause-out
table_at-returns-then-has_elements-clause-out = nodes.table_at-returns-then-has_elements-clause-out

pub table_at-returns-clause-out : goal.table_at-returns-clause-out
table_at-returns-clause-out = nodes.table_at-returns-clause-out

pub title_content-returns-then-is_title_unlinked-clause-out :
    goal.title_content-returns-then-is_title_unlinked-clause-out
title_content-returns-then-is_title_unlinked-clause-out = rich.title_content-returns-then-is_title_unlinked-clause-out

pub title_content-returns-clause-out : goal.title_content-returns-clause-out
title_content-returns-clause-out = rich.title_content-returns-clause-out

pub title-returns-clause-out : goal.title-returns-clause-out
title-returns-clause-out = rich.title-returns-clause-out

pub within-returns-then-is_title-clause-out : goal.within-returns-then-is_title-clause-out
within-returns-then-is_title-clause-out = rich.within-returns-then-is_title-clause-out

pub within-returns-clause-out : goal.within-returns-clause-out
within-returns-clause-out = rich.within-returns-clause-out

pub blocks_within-returns-clause-blocks : goal.blocks_within-returns-clause-blocks
blocks_within-returns-clause-blocks = rich.blocks_within-returns-clause-blocks

pub title_element-returns-clause-out : goal.title_element-returns-clause-out
title_element-returns-clause-out = rich.title_element-returns-clause-out

pub titled-loop-at-preserved-then-is_title_of : goal.titled-loop-at-preserved-then-is_title_of
titled-loop-at-preserved-then-is_title_of = rich.titled-loop-at-preserved-then-is_title_of

pub titled-loop-at-preserved : goal.titled-loop-at-preserved
titled-loop-at-preserved = rich.titled-loop-at-preserved

pub titled-returns-clause-out : goal.titled-returns-clause-out
titled-returns-clause-out = rich.titled-returns-clause-out

pub titled_blocks-returns-clause-blocks : goal.titled_blocks-returns-clause-blocks
titled_blocks-returns-clause-blocks = rich.titled_blocks-returns-clause-blocks

pub details-returns-then-not-has_elements-clause-out : goal.details-returns-then-not-has_elements-clause-out
details-returns-then-not-has_elements-clause-out = rich.details-returns-then-not-has_elements-clause-out

pub details-returns-clause-out : goal.details-returns-clause-out
details-returns-clause-out = rich.details-returns-clause-out

pub figure-returns-then-not-has_elements-clause-out : goal.figure-returns-then-not-has_elements-clause-out
figure-returns-then-not-has_elements-clause-out = rich.figure-returns-then-not-has_elements-clause-out

pub figure-returns-clause-out : goal.figure-returns-clause-out
figure-returns-clause-out = rich.figure-returns-clause-out

pub captioned-returns-then-not-show_title-clause-out : goal.captioned-returns-then-not-show_title-clause-out
captioned-returns-then-not-show_title-clause-out = rich.captioned-returns-then-not-show_title-clause-out

pub captioned-returns-clause-out : goal.captioned-returns-clause-out
captioned-returns-clause-out = rich.captioned-returns-clause-out

pub described-returns-clause-out : goal.described-returns-clause-out
described-returns-clause-out = rich.described-returns-clause-out

pub rich_cells-loop-node-preserved-then-not-is_cell : goal.rich_cells-loop-node-preserved-then-not-is_cell
rich_cells-loop-node-preserved-then-not-is_cell = rich_tables.rich_cells-loop-node-preserved-then-not-is_cell

pub rich_cells-loop-node-preserved : goal.rich_cells-loop-node-preserved
rich_cells-loop-node-preserved = rich_tables.rich_cells-loop-node-preserved

pub rich_cells-returns-clause-cells : goal.rich_cells-returns-clause-cells
rich_cells-returns-clause-cells = rich_tables.rich_cells-returns-clause-cells

pub rich_cells-rich_cell-requires : goal.rich_cells-rich_cell-requires
rich_cells-rich_cell-requires = rich_tables.rich_cells-rich_cell-requires

pub rich_cell-returns-clause-cell : goal.rich_cell-returns-clause-cell
rich_cell-returns-clause-cell = rich_tables.rich_cell-returns-clause-cell

pub rich_pieces-loop-piece-preserved : goal.rich_pieces-loop-piece-preserved
rich_pieces-loop-piece-preserved = rich_tables.rich_pieces-loop-piece-preserved

pub rich_pieces-rich_piece-requires : goal.rich_pieces-rich_piece-requires
rich_pieces-rich_piece-requires = rich_tables.rich_pieces-rich_piece-requires

pub rich_pieces-returns-clause-made : goal.rich_pieces-returns-clause-made
rich_pieces-returns-clause-made = rich_tables.rich_pieces-returns-clause-made

pub kept_table-returns-then-is_for_page-clause-out : goal.kept_table-returns-then-is_for_page-clause-out
kept_table-returns-then-is_for_page-clause-out = rich_tables.kept_table-returns-then-is_for_page-clause-out

pub rich_table-returns-clause-out : goal.rich_table-returns-clause-out
rich_table-returns-clause-out = rich_tables.rich_table-returns-clause-out

pub descriptions-loop-at-init : goal.descriptions-loop-at-init
descriptions-loop-at-init = descriptions.descriptions-loop-at-init

pub descriptions-loop-at-preserved : goal.descriptions-loop-at-preserved
descriptions-loop-at-preserved = descriptions.descriptions-loop-at-preserved

pub descriptions-description_part-requires : goal.descriptions-description_part-requires
descriptions-description_part-requires = descriptions.descriptions-description_part-requires

pub descriptions-returns-clause-begun : goal.descriptions-returns-clause-begun
descriptions-returns-clause-begun = descriptions.descriptions-returns-clause-begun

pub described_nodes-loop-at-init : goal.described_nodes-loop-at-init
described_nodes-loop-at-init = descriptions.described_nodes-loop-at-init

pub described_nodes-loop-at-preserved : goal.described_nodes-loop-at-preserved
described_nodes-loop-at-preserved = descriptions.described_nodes-loop-at-preserved

pub described_nodes-description-requires : goal.described_nodes-description-requires
described_nodes-description-requires = descriptions.described_nodes-description-requires

pub described_nodes-returns-clause-begun : goal.described_nodes-returns-clause-begun
described_nodes-returns-clause-begun = descriptions.described_nodes-returns-clause-begun

pub description_part-returns-then-is_group-clause-begun : goal.description_part-returns-then-is_group-clause-begun
description_part-returns-then-is_group-clause-begun = descriptions.description_part-returns-then-is_group-clause-begun

pub description_part-returns-clause-begun : goal.description_part-returns-clause-begun
description_part-returns-clause-begun = descriptions.description_part-returns-clause-begun

pub description-returns-then-is_term_or_meaning-clause-begun :
    goal.description-returns-then-is_term_or_meaning-clause-begun
description-returns-then-is_term_or_meaning-clause-begun =
    descriptions.description-returns-then-is_term_or_meaning-clause-begun

pub description-returns-in_default-clause-begun : goal.description-returns-in_default-clause-begun
description-returns-in_default-clause-begun = descriptions.description-returns-in_default-clause-begun

pub description-returns-clause-begun : goal.description-returns-clause-begun
description-returns-clause-begun = descriptions.description-returns-clause-begun

pub rich_table-kept_table-requires : goal.rich_table-kept_table-requires
rich_table-kept_table-requires = rich_tables.rich_table-kept_table-requires

pub kept_table-returns-clause-out : goal.kept_table-returns-clause-out
kept_table-returns-clause-out = rich_tables.kept_table-returns-clause-out

pub titled-loop-at-smaller : goal.titled-loop-at-smaller
titled-loop-at-smaller = rich.titled-loop-at-smaller

pub titled-among-requires : goal.titled-among-requires
titled-among-requires = rich.titled-among-requires

pub titled-title_element-requires : goal.titled-title_element-requires
titled-title_element-requires = rich.titled-title_element-requires

pub kept_table-returns-then-is_table-clause-out : goal.kept_table-returns-then-is_table-clause-out
kept_table-returns-then-is_table-clause-out = rich_tables.kept_table-returns-then-is_table-clause-out

pub kept_table-rich_pieces-requires : goal.kept_table-rich_pieces-requires
kept_table-rich_pieces-requires = rich_tables.kept_table-rich_pieces-requires

pub rich_piece-returns-then-is_caption-clause-made : goal.rich_piece-returns-then-is_caption-clause-made
rich_piece-returns-then-is_caption-clause-made = rich_tables.rich_piece-returns-then-is_caption-clause-made

pub rich_piece-returns-clause-made : goal.rich_piece-returns-clause-made
rich_piece-returns-clause-made = rich_tables.rich_piece-returns-clause-made

pub rich_piece-blocks_within-requires : goal.rich_piece-blocks_within-requires
rich_piece-blocks_within-requires = rich_tables.rich_piece-blocks_within-requires

pub rich_piece-rich_cells-requires : goal.rich_piece-rich_cells-requires
rich_piece-rich_cells-requires = rich_tables.rich_piece-rich_cells-requires
