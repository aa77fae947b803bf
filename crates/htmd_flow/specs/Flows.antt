-- What a node gives: leaves with what stands around each, edges of blocks, and blocks, in order.
use Rattle.std.specs.Prelude.{ℕ, Bool, true, false, not, ◌&&◌, ◌||◌, nat_lt, if◌then◌else◌, List, [], ◌∷◌, ◌++◌}
use Rattle.std.specs.Prelude.{length, map, filter, fold, take, drop, Option, Some, None, is_some, codes, ℤ, pos}
use Rattle.std.specs.List.{list_any, list_all, flat_map, prefix_len}
use Rattle.std.specs.Option.{unwrap_or}
use Rattle.htmd_lexical.specs.Characters.{space}
use Rattle.htmd_lexical.specs.AttributePairs.{AttributePair}
use Rattle.htmd_document.specs.Documents.{Inlines, no_inlines, inline, heading, code_block, quote, thematic_break}
use Rattle.htmd_document.specs.Documents.{Block, Blocks, no_blocks, block}
use Rattle.htmd_document.specs.Formats.{of_format, of_element}
use Rattle.htmd_shown.specs.declared.facts.Facts.{Facts}
use Rattle.htmd_shown.specs.declared.role.Role.{Role}
use Rattle.htmd_shown.specs.declared.role.Role.TheVariants as role
use Rattle.htmd_shown.specs.AllTexts.{all_text_among, with_line_feeds, lines_of, without_last_line_feed, dollar_sign}
use Rattle.htmd_shown.specs.Attributes.{has_attribute, text_of, title_of, description_of, address, in_line, trimmed}
use Rattle.htmd_shown.specs.Attributes.{number_at, column_span, row_span, is_any_case, alignment}
use Rattle.htmd_shown.specs.Attributes.{is_filled}
use Rattle.htmd_shown.specs.Kinds.{has}
use Rattle.htmd_shown.specs.Roles as roles
use Rattle.htmd_shown.specs.Showings.{shows}
use Rattle.htmd_shown.specs.SimpleTrees.{Simple, text, image, formula, embedded, anchor, element, Simples, none, more}
use Rattle.htmd_shown.specs.Spaces.{is_blank_text}
use Rattle.htmd_flow.specs.Contexts.{Context, bare, bare_in, has_elements, is_lined, inside_format}
use Rattle.htmd_flow.specs.Contexts.{inside_title, inside_link, in_code, unlinked, is_linked_to_part, beside_code}
use Rattle.htmd_flow.specs.Contexts.{in_one_line, deeper, run_in, apart}
use Rattle.htmd_flow.specs.Grids as grid
use Rattle.htmd_flow.specs.Languages.{language_of_block}
use Rattle.htmd_flow.specs.Levels.{list_of}
use Rattle.htmd_flow.specs.Lists as lists
use Rattle.htmd_flow.specs.Paragraphs.{Writing, begun, fed_all, blocks_in}
use Rattle.htmd_flow.specs.Parts.{Around, Part, run, picture, break, place, box, edge, whole}
pub use Rattle.htmd_flow.specs.TableElements.{is_paragraph_at_most}
use Rattle.htmd_flow.specs.Tables as tables
use Rattle.htmd_flow.specs.declared.table_form.Layout.{Layout}
use Rattle.htmd_flow.specs.declared.table_form.Layout.TheVariants as layout
use Rattle.htmd_flow.specs.declared.table_form.TablePart.{TablePart}
use Rattle.htmd_flow.specs.Terms.{is_group}
pub use Rattle.htmd_flow.specs.Nodes.{Node, Row, TablePiece, TermPart}
pub use Rattle.htmd_flow.specs.Nodes.{attributes_of, is_item, blocks_of, line_of, block_part, before_items}
pub use Rattle.htmd_flow.specs.Nodes.{behind_item, item_of, items_of, each_whole, list_parts, is_spaces, goes_on}
pub use Rattle.htmd_flow.specs.Nodes.{items_in_a_row, flow_all, flow_after, of_caption, of_row, gap, of_node}
pub use Rattle.htmd_flow.specs.RichNodes.{element_part, around_title, around_node, within, blocks_within, is_title_of}
pub use Rattle.htmd_flow.specs.RichNodes.{title_element, as_title, titled, open_attribute, details_parts}
pub use Rattle.htmd_flow.specs.RichNodes.{shows_title, figure_by, captioned, figure_parts}
pub use Rattle.htmd_flow.specs.RichNodes.{Description, Descriptions, no_descriptions}
pub use Rattle.htmd_flow.specs.RichNodes.{description_with, onto_last_description, ends_with_term, before_more}
pub use Rattle.htmd_flow.specs.RichNodes.{with_between, with_described, with_description, description_element}
pub use Rattle.htmd_flow.specs.RichNodes.{is_filled_description, element_of_descriptions, parts_of_descriptions}
pub use Rattle.htmd_flow.specs.RichNodes.{described_parts, rows_in, has_cell, may_span, follows_in_part}
pub use Rattle.htmd_flow.specs.RichNodes.{have_row_spans, content_shows, stays, kept_pieces, is_header, has_header}
pub use Rattle.htmd_flow.specs.RichNodes.{is_zero, has_border, heads, is_headed, is_wide, holds_table, may_be_grid}
pub use Rattle.htmd_flow.specs.RichNodes.{is_for_page, in_cell, cell_with_blocks, piece_with_blocks}
pub use Rattle.htmd_flow.specs.RichNodes.{pieces_with_blocks, table_with_blocks, kept_table_parts, rich_table_parts}

-- ---- terms and what they mean

abbrev pub has_role : (Role → Bool) → TermPart → Bool
has_role kind gap = false
has_role kind (of_node n) = has kind n.tree

-- what a node gives that is no term; an item of another list is no block here
abbrev pub beside_terms : Node → Context → List Part
beside_terms n context =
    if has roles.is_meaning n.tree then apart (n.content context)
    else (if is_item n then n.content context else n.whole context)

-- the same in an item
abbrev pub within_item : Node → Context → List Part
within_item n context =
    if has roles.is_meaning n.tree then beside_terms n context else edge ∷ beside_terms n context

-- the items so far as they are begun, what comes before them, and whether a term now belongs to the last item
pub record Terms : Type 0 where
  pub before : List Part
  pub items : List Writing
  pub goes_on : Bool

abbrev pub no_terms : Terms
no_terms = record { before = []; items = []; goes_on = false }

-- an item that begins with these parts
abbrev pub item_with : List Part → Writing
item_with parts = fed_all (begun true false) parts

-- more of the last item; without one it is the first
abbrev pub onto_last : List Writing → List Part → List Writing
onto_last [] parts = item_with parts ∷ []
onto_last (item ∷ []) parts = fed_all item parts ∷ []
onto_last (item ∷ next ∷ items) parts = item ∷ onto_last (next ∷ items) parts

-- a term: the next one belongs to the same item, if there are meanings
abbrev pub with_term : Bool → Terms → List Part → Terms
with_term has_meanings t parts = record t {
  items = if t.goes_on then onto_last t.items parts else t.items ++ item_with parts ∷ [];
  goes_on = has_meanings;
}

-- parts of the last item, or before the first
abbrev pub with_parts : Terms → List Part → List Part → Terms
with_parts t within outside =
    if nat_lt 0 (length t.items) then record t { items = onto_last t.items within }
    else record t { before = t.before ++ outside }

-- after something that says what a term means no term belongs to the item
abbrev pub after_node : Terms → Node → Terms
after_node t n = record t { goes_on = t.goes_on && not (has roles.is_meaning n.tree) }

abbrev pub with_node : Bool → Context → Terms → Node → Terms
with_node has_meanings context t n =
    if has roles.is_term n.tree then with_term has_meanings t (apart (n.content (deeper context)))
    else with_parts (after_node t n) (within_item n (deeper context)) (beside_terms n context)

abbrev pub with_part : Bool → Context → Terms → TermPart → Terms
with_part has_meanings context t gap = record t { goes_on = false }
with_part has_meanings context t (of_node n) = with_node has_meanings context t n

abbrev pub term_item : Writing → lists.ListItem
term_item w = record { value = None; has_paragraph = false; blocks = blocks_in w }

abbrev pub items_of_terms : Terms → List lists.ListItem
items_of_terms t = map term_item t.items

-- a list of bullets, after what comes before the first term
abbrev pub list_of_terms : Context → Terms → List Part
list_of_terms context t =
    edge ∷ t.before ++ edge ∷ lists.lists_if_filled context.nested None (items_of_terms t) ++ edge ∷ []

-- Without a term, in one line, or too deep, it is its content.
abbrev pub term_parts : List TermPart → List Node → Context → List Part
term_parts parts nodes context =
    if is_lined context || not (list_any (has_role roles.is_term) parts) then apart (flow_all nodes context)
    else list_of_terms context
    (fold (with_part (list_any (has_role roles.is_meaning) parts) context) no_terms parts)

-- ---- tables

abbrev pub is_paragraph : Node → Bool
is_paragraph cell = is_paragraph_at_most (blocks_of false (cell.content bare))

abbrev pub are_paragraphs : List Row → Bool
are_paragraphs rows = list_all (λ (r : Row). list_all is_paragraph r.cells) rows

-- whether a table is one of rows and columns
abbrev pub is_grid_by : Layout → List Row → Bool
is_grid_by layout.Grid rows = true
is_grid_by layout.GridOfParagraphs rows = are_paragraphs rows
is_grid_by layout.Page rows = false

abbrev pub is_grid : List Simple → List Row → Bool
is_grid trees rows = is_grid_by (tables.layout_of trees) rows

-- in one line: a caption as a block
abbrev pub caption_in_one_line : Context → Node → List Part
caption_in_one_line context n = if has roles.is_caption n.tree then n.content context ++ edge ∷ [] else []

abbrev pub captions_in_one_line : List Node → Context → List Part
captions_in_one_line nodes context = flat_map (caption_in_one_line context) nodes

-- a row, with a space after each cell
abbrev pub cell_in_one_line : Context → Node → List Part
cell_in_one_line context n = n.content context ++ run (space ∷ []) context.around false ∷ []

abbrev pub row_in_one_line : Context → Row → List Part
row_in_one_line context r = flat_map (cell_in_one_line context) r.cells ++ edge ∷ []

abbrev pub rows_in_one_line : List Row → Context → List Part
rows_in_one_line rows context = flat_map (row_in_one_line context) rows

-- how many nodes come before the first row
abbrev pub before_row : List Node → ℕ
before_row nodes = prefix_len (λ (n : Node). tables.is_no_row n.tree) nodes

abbrev pub grid_in_one_line : List Node → List Row → Context → List Part
grid_in_one_line nodes rows context =
    captions_in_one_line (take (before_row nodes) nodes) context
    ++ rows_in_one_line rows context ++ captions_in_one_line (drop (before_row nodes) nodes) context

-- captions as blocks
abbrev pub caption_apart : Context → Node → List Part
caption_apart context n = if has roles.is_caption n.tree then apart (n.content context) else []

abbrev pub captions_among : List Node → Context → List Part
captions_among nodes context = flat_map (caption_apart context) nodes

-- a cell is one line
abbrev pub cell_of : Context → Node → grid.Cell
cell_of context n = record {
  content = line_of (n.content (in_one_line context));
  columns = column_span (attributes_of n.tree);
  rows = row_span (attributes_of n.tree);
  is_header = has roles.is_header_cell n.tree;
  alignment = alignment (attributes_of n.tree);
}

abbrev pub row_of : Context → Row → grid.Row
row_of context r = record {
  part = r.part;
  is_in_head = r.is_in_head;
  cells = map (cell_of context) r.cells;
}

-- the rows that have cells
abbrev pub filled_rows : List grid.Row → List grid.Row
filled_rows rows = filter (λ (r : grid.Row). nat_lt 0 (length r.cells)) rows

abbrev pub table_block : List Row → Context → Option Block
table_block rows context = grid.table_of_rows (filled_rows (map (row_of context) rows))

-- a table of rows and columns between the captions before its first row and those behind it
abbrev pub grid_inside : List Node → List Row → Context → List Part
grid_inside nodes rows context =
    captions_among (take (before_row nodes) nodes) context
    ++ edge ∷ block_part (table_block rows context)
    ++ edge ∷ captions_among (drop (before_row nodes) nodes) context ++ edge ∷ []

abbrev pub table_parts : List Simple → List Node → List Row → Context → List Part
table_parts trees nodes rows context =
    if is_grid trees rows
    then edge ∷ (if context.is_flat then grid_in_one_line nodes rows context else grid_inside nodes rows context)
    else apart (flow_all nodes context)

-- ---- leaves

-- an image without an address is its description
abbrev pub image_parts : Option (List ℕ) → List AttributePair → Context → List Part
image_parts (Some s) attributes context =
    picture (address s) (title_of attributes) (description_of attributes) context.around ∷ []
image_parts None attributes context =
    if is_filled (description_of attributes) then run_in context (description_of attributes) ∷ [] else []

-- TeX alone is a block of code named `math`, without white space at its ends
abbrev pub math_block : List ℕ → Block
math_block tex = code_block (Some (codes "math")) (trimmed (with_line_feeds tex))

-- TeX in a line is code between dollar signs
abbrev pub math_in_line : List ℕ → Context → List Part
math_in_line tex context =
    run_in context (dollar_sign ∷ []) ∷ run_in (in_code context) (in_line tex)
    ∷ run_in context (dollar_sign ∷ []) ∷ []

abbrev pub formula_parts : List ℕ → Bool → Context → List Part
formula_parts tex is_alone context =
    if is_alone && not context.is_flat then apart (whole (math_block tex) ∷ []) else math_in_line tex context

-- What is embedded is a paragraph that is a link; in one line a link with a space before and after.
abbrev pub embed_edge : Context → Part
embed_edge context = if context.is_flat then run_in context (space ∷ []) else edge

abbrev pub embed_parts : ℕ → List ℕ → List ℕ → List (List ℕ) → Context → List Part
embed_parts id address title anchors context =
    (embed_edge context ∷ map place anchors)
    ++ run_in (inside_link id address None context) title ∷ embed_edge context ∷ []

-- ---- the other elements

-- a checkbox is a task's
abbrev pub box_parts : List AttributePair → List Part
box_parts attributes =
    if is_any_case (codes "checkbox") (text_of (codes "type") attributes)
    then box (has_attribute (codes "checked") attributes) ∷ [] else []

-- inside a link
abbrev pub linked_by : ℕ → List AttributePair → Context → Context
linked_by id attributes context =
    inside_link id (address (text_of (codes "href") attributes)) (title_of attributes) context

-- the same text before and after
abbrev pub around_content : List ℕ → (Context → List Part) → Context → List Part
around_content s content context = (run_in context s ∷ content context) ++ run_in context s ∷ []

abbrev pub between : List ℕ → List Node → Context → List Part
between s nodes context = around_content s (flow_all nodes) context

-- a heading is one line; an empty one is none
abbrev pub heading_of : ℕ → Inlines → List Part
heading_of level no_inlines = []
heading_of level (inline x xs) = whole (heading level (inline x xs)) ∷ []

-- a heading that shows a usual sign alone isn't linked to a part of the page from around it
abbrev pub around_heading : Facts → Context → Context
around_heading facts context =
    if facts.shows_sign && is_linked_to_part context then unlinked context else context

abbrev pub heading_parts : ℕ → Facts → List Node → Context → List Part
heading_parts level facts nodes context =
    apart (if context.is_flat then flow_all nodes context
    else heading_of level (line_of (flow_all nodes (in_one_line (around_heading facts context)))))

-- an empty quote is none
abbrev pub quote_of : Blocks → List Part
quote_of no_blocks = []
quote_of (block b bs) = whole (quote (block b bs)) ∷ []

abbrev pub quote_parts : List Node → Context → List Part
quote_parts nodes context =
    apart (if is_lined context then flow_all nodes context
    else quote_of (blocks_of false (flow_all nodes (deeper context))))

-- a text in which all lines count: a code block, and in one line a line of code after the other
abbrev pub code_parts : List (List ℕ) → List Around → List Part
code_parts lines around = flat_map (λ s. run s around true ∷ edge ∷ []) lines

abbrev pub text_in_lines : List AttributePair → Simples → List ℕ → Context → List Part
text_in_lines attributes content s context =
    if is_blank_text s then edge ∷ []
    else (if context.is_flat then edge ∷ code_parts (lines_of s) context.around
    else apart (whole (code_block (language_of_block attributes (list_of content) context.near)
    (without_last_line_feed s)) ∷ []))

abbrev pub verbatim_parts : List AttributePair → Simples → Context → List Part
verbatim_parts attributes content context =
    text_in_lines attributes content (with_line_feeds (all_text_among content)) context

-- an `ol` counts from its start
abbrev pub start_of : List AttributePair → ℤ
start_of attributes = unwrap_or (number_at (codes "start") attributes) (pos 1)

-- anchors in a paragraph of their own
abbrev pub anchors_apart : List Node → Context → List Part
anchors_apart nodes context = if context.is_flat then flow_all nodes context else apart (flow_all nodes context)

-- ---- elements

-- an element, with what is in it as nodes, as rows and pieces of a table, and as parts of a list of terms
pub record Element : Type 0 where
  pub id : ℕ
  pub facts : Facts
  pub attributes : List AttributePair
  pub content : Simples
  pub nodes : List Node
  pub rows : List Row
  pub pieces : List TablePiece
  pub terms : List TermPart

-- a block that can say the language of the code in it
abbrev pub near_parts : Element → Context → List Part
near_parts e context = apart (flow_all e.nodes (beside_code e.facts.pres e.attributes context))

-- what is in a rich document an element
abbrev pub terms_by : List TermPart → List Node → Context → List Part
terms_by parts nodes context =
    if has_elements context then described_parts parts context else term_parts parts nodes context

abbrev pub rich_table_at : Element → Context → List Part
rich_table_at e context = rich_table_parts (list_of e.content) e.attributes e.pieces e.nodes context

abbrev pub table_at : Element → Context → List Part
table_at e context =
    if has_elements context then rich_table_at e context
    else table_parts (list_of e.content) e.nodes e.rows context

abbrev pub figure_at : Element → Context → List Part
figure_at e context = figure_parts e.nodes (beside_code e.facts.pres e.attributes context)

-- a title that stands elsewhere
abbrev pub title_parts : Element → Context → List Part
title_parts e context = apart (flow_all e.nodes (around_title e.content context))

-- what a block gives, by its role
abbrev pub block_parts : Role → Element → Context → List Part
block_parts (role.Heading level) e context = heading_parts level e.facts e.nodes context
block_parts role.Preformatted e context = verbatim_parts e.attributes e.content context
block_parts role.Verbatim e context = verbatim_parts e.attributes e.content context
block_parts role.BlockQuote e context = quote_parts e.nodes context
block_parts role.ThematicBreak e context = whole thematic_break ∷ []
block_parts role.BulletList e context = list_parts None e.nodes context
block_parts role.NumberedList e context = list_parts (Some (start_of e.attributes)) e.nodes context
block_parts role.Terms e context = terms_by e.terms e.nodes context
block_parts role.Table e context = table_at e context
block_parts role.Details e context = details_parts e.attributes e.nodes context
block_parts role.Figure e context = figure_at e context
block_parts role.Term e context = title_parts e context
block_parts role.Caption e context = title_parts e context
block_parts role.FigureCaption e context = title_parts e context
block_parts role.Summary e context = title_parts e context
block_parts role.Division e context = near_parts e context
block_parts role.Cell e context = near_parts e context
block_parts _ e context = apart (flow_all e.nodes context)

-- what an element gives, by its role
abbrev pub parts_of : Role → Element → Context → List Part
parts_of (role.Format f) e context = flow_all e.nodes (inside_format (of_format f) context)
parts_of (role.Element f) e context = flow_all e.nodes (inside_format (of_element f) context)
parts_of role.Abbreviation e context = flow_all e.nodes (inside_title (title_of e.attributes) context)
parts_of role.Code e context = flow_all e.nodes (in_code context)
parts_of role.Typed e context = flow_all e.nodes (in_code context)
parts_of role.Link e context = flow_all e.nodes (linked_by e.id e.attributes context)
parts_of role.Unlinked e context = flow_all e.nodes (unlinked context)
parts_of role.Target e context = flow_all e.nodes context
parts_of role.Plain e context = flow_all e.nodes context
parts_of role.Apart e context = between (space ∷ []) e.nodes context
parts_of role.LineBreak e context = break ∷ []
parts_of role.Input e context = box_parts e.attributes ++ flow_all e.nodes context
parts_of role.Anchors e context = anchors_apart e.nodes context
parts_of r e context = block_parts r e context

-- ---- the tree

-- a node that nothing is in
abbrev pub leaf : Simple → (Context → List Part) → Node
leaf tree parts = record { tree = tree; whole = parts; content = λ context. [] }

-- a group of terms is what is in it, between gaps
abbrev pub parts_of_child : Node → List Node → List TermPart
parts_of_child n nodes = if is_group n.tree then gap ∷ map of_node nodes ++ gap ∷ [] else of_node n ∷ []

abbrev pub is_cell : Node → Bool
is_cell n = has roles.is_cell n.tree

-- a part of a table, and the table itself
abbrev pub no_part : TablePart
no_part = record { id = None; is_head = false }

abbrev pub part_of : Simple → TablePart
part_of (element id r facts attributes content) = record { id = Some id; is_head = roles.is_head r }
part_of tree = no_part

-- a node of a table is a part of it; in a part no other is
abbrev pub leads_to : TablePart → Simple → Bool
leads_to p tree = not (is_some p.id) && has roles.is_part tree

-- a row of these nodes
abbrev pub row_with : TablePart → List Node → List Row
row_with p nodes = record { part = p.id; is_in_head = p.is_head; cells = filter is_cell nodes } ∷ []

-- the rows that a node is, by the nodes and the rows in it
abbrev pub rows_if : TablePart → Simple → List Node → List Row → List Row
rows_if p tree nodes within =
    if has roles.is_row tree then row_with p nodes else (if leads_to p tree then within else [])

-- a caption, or the rows that a node of a table is
abbrev pub pieces_at : Node → List Row → List TablePiece
pieces_at n rows = if has roles.is_caption n.tree then of_caption n ∷ [] else map of_row rows

unfoldable mutual
  pub node_of : Simple → Node
  node_of (text s) = leaf (text s) (λ context. run_in context s ∷ [])
  node_of (image address attributes) = leaf (image address attributes) (image_parts address attributes)
  node_of (formula tex is_alone attributes) =
      leaf (formula tex is_alone attributes) (formula_parts tex is_alone)
  node_of (embedded id address title attributes anchors) =
      leaf (embedded id address title attributes anchors) (embed_parts id address title anchors)
  node_of (anchor id) = leaf (anchor id) (λ context. place id ∷ [])
  node_of (element id r facts attributes content) = record {
    tree = element id r facts attributes content;
    whole = parts_of r (record {
      id = id;
      facts = facts;
      attributes = attributes;
      content = content;
      nodes = nodes_of content;
      rows = rows_among no_part content;
      pieces = pieces_of content;
      terms = terms_of content;
    });
    content = flow_all (nodes_of content);
  }

  pub nodes_of : Simples → List Node
  nodes_of none = []
  nodes_of (more tree trees) = node_of tree ∷ nodes_of trees

  -- what is in a node
  pub nodes_below : Simple → List Node
  nodes_below (element id r facts attributes content) = nodes_of content
  nodes_below (text s) = []
  nodes_below (image address attributes) = []
  nodes_below (formula tex is_alone attributes) = []
  nodes_below (embedded id address title attributes anchors) = []
  nodes_below (anchor id) = []

  -- the parts of a list of terms
  pub terms_of : Simples → List TermPart
  terms_of none = []
  terms_of (more tree trees) = parts_of_child (node_of tree) (nodes_below tree) ++ terms_of trees

  -- the rows among the nodes of a table, or of a part of it
  pub rows_among : TablePart → Simples → List Row
  rows_among p none = []
  rows_among p (more tree trees) = rows_at p tree ++ rows_among p trees

  pub rows_at : TablePart → Simple → List Row
  rows_at p (element id r facts attributes content) =
      rows_if p (element id r facts attributes content) (nodes_of content)
      (rows_among (part_of (element id r facts attributes content)) content)
  rows_at p (text s) = []
  rows_at p (image address attributes) = []
  rows_at p (formula tex is_alone attributes) = []
  rows_at p (embedded id address title attributes anchors) = []
  rows_at p (anchor id) = []

  -- captions and rows of a table
  pub pieces_of : Simples → List TablePiece
  pieces_of none = []
  pieces_of (more tree trees) = pieces_at (node_of tree) (rows_at no_part tree) ++ pieces_of trees

-- the blocks of these nodes
abbrev pub document_of : Bool → Simples → Blocks
document_of is_rich trees = blocks_of false (flow_all (nodes_of trees) (bare_in is_rich))

abbrev pub rows_of_table : Simples → List Row
rows_of_table content = rows_among no_part content

-- a table of this content is one of rows and columns
abbrev pub is_grid_of : Simples → Bool
is_grid_of content = is_grid (list_of content) (rows_of_table content)
