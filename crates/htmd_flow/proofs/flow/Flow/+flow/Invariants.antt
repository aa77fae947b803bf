-- How deep the nodes of each call are, and what loops keep: with what the rest gives, all is given.
use Rattle.std.proofs.Common.{◌≡◌, ℕ, ◌+◌, ◌-◌, ◌*◌, ◌≤◌, List, ◌∷◌, ◌++◌, length, drop, take, map}
use Rattle.std.specs.Prelude.{flat_map}
use Rattle.std.specs.List.{prefix_len, list_all}
use Rattle.htmd_shown.specs.declared.simple.Simple.{Simple}
use Rattle.htmd_shown.specs.SimpleViews.{simple_of, simples_of}
use Rattle.htmd_flow.specs.Flows as spec
use Rattle.htmd_flow.specs.DescriptionViews as descriptions
use Rattle.htmd_flow.specs.ElementViews as element_views
use Rattle.htmd_flow.specs.FlowViews as views
use Rattle.htmd_flow.specs.GridViews as grids
use Rattle.htmd_flow.specs.ItemViews as item_views
use Rattle.htmd_flow.specs.Levels.{height, highest}
use Rattle.htmd_flow.specs.ListViews as lists
use Rattle.htmd_flow.specs.ParagraphViews.{writing_in}
use Rattle.htmd_flow.specs.PieceViews as piece_views
use Rattle.htmd_flow.specs.Paragraphs.{fed_all}
use Rattle.htmd_flow.specs.TableViews as tables
use Rattle.htmd_flow.specs.TermViews as terms
use Rattle.htmd_flow.proofs.flow.Flow.+flow.Given as goal

-- how many levels stand in nodes, and in a node
abbrev levels : List Simple → ℕ → ℕ
levels nodes rank = highest (map simple_of nodes) * 32 + rank

abbrev levels_at : Simple → ℕ → ℕ
levels_at node rank = height (simple_of node) * 32 + rank

-- in the cells of a row
abbrev cells_levels : List Simple → ℕ
cells_levels row = highest (map (λ (n : spec.Node). n.tree) (tables.cells_at row))

abbrev pub decreases-each : goal.decreases-each
decreases-each l = levels l.nodes.now 1

abbrev pub decreases-items : goal.decreases-items
decreases-items l = levels l.nodes.now 2

abbrev pub decreases-list : goal.decreases-list
decreases-list l = levels l.nodes.now 3

abbrev pub decreases-among : goal.decreases-among
decreases-among l = levels l.nodes.now 4

abbrev pub decreases-apart : goal.decreases-apart
decreases-apart l = levels l.nodes.now 5

abbrev pub decreases-inside : goal.decreases-inside
decreases-inside l = levels l.nodes.now 5

abbrev pub decreases-unlinked : goal.decreases-unlinked
decreases-unlinked l = levels l.nodes.now 5

abbrev pub decreases-between : goal.decreases-between
decreases-between l = levels l.nodes.now 5

abbrev pub decreases-line : goal.decreases-line
decreases-line l = levels l.nodes.now 5

abbrev pub decreases-is_paragraph : goal.decreases-is_paragraph
decreases-is_paragraph l = levels l.nodes.now 5

abbrev pub decreases-anchors : goal.decreases-anchors
decreases-anchors l = levels l.nodes.now 6

abbrev pub decreases-unlinked_line : goal.decreases-unlinked_line
decreases-unlinked_line l = levels l.nodes.now 6

abbrev pub decreases-quote : goal.decreases-quote
decreases-quote l = levels l.nodes.now 6

abbrev pub decreases-headed_line : goal.decreases-headed_line
decreases-headed_line l = levels l.nodes.now 7

abbrev pub decreases-heading : goal.decreases-heading
decreases-heading l = levels l.nodes.now 8

abbrev pub decreases-term_nodes : goal.decreases-term_nodes
decreases-term_nodes l = levels l.nodes.now 4

abbrev pub decreases-term_parts : goal.decreases-term_parts
decreases-term_parts l = levels l.nodes.now 5

abbrev pub decreases-terms : goal.decreases-terms
decreases-terms l = levels l.nodes.now 6

abbrev pub decreases-holds_paragraphs : goal.decreases-holds_paragraphs
decreases-holds_paragraphs l = levels l.row.now 0

abbrev pub decreases-are_paragraphs : goal.decreases-are_paragraphs
decreases-are_paragraphs l = levels l.nodes.now 1

abbrev pub decreases-is_grid : goal.decreases-is_grid
decreases-is_grid l = levels l.nodes.now 2

abbrev pub decreases-cells_in_one_line : goal.decreases-cells_in_one_line
decreases-cells_in_one_line l = levels l.row.now 0

abbrev pub decreases-rows_in_one_line : goal.decreases-rows_in_one_line
decreases-rows_in_one_line l = levels l.nodes.now 1

abbrev pub decreases-captions_in_one_line : goal.decreases-captions_in_one_line
decreases-captions_in_one_line l = levels l.nodes.now 0

abbrev pub decreases-grid_in_one_line : goal.decreases-grid_in_one_line
decreases-grid_in_one_line l = levels l.nodes.now 2

abbrev pub decreases-cells : goal.decreases-cells
decreases-cells l = levels l.row.now 1

abbrev pub decreases-push_rows : goal.decreases-push_rows
decreases-push_rows l = levels l.nodes.now 1

abbrev pub decreases-captions : goal.decreases-captions
decreases-captions l = levels l.nodes.now 0

abbrev pub decreases-grid : goal.decreases-grid
decreases-grid l = levels l.nodes.now 2

abbrev pub decreases-table : goal.decreases-table
decreases-table l = levels l.nodes.now 6

abbrev pub decreases-whole : goal.decreases-whole
decreases-whole l = levels_at l.node.now 0

abbrev pub decreases-beside_terms : goal.decreases-beside_terms
decreases-beside_terms l = levels_at l.node.now 1

abbrev pub decreases-within_item : goal.decreases-within_item
decreases-within_item l = levels_at l.node.now 2

abbrev pub decreases-term_node : goal.decreases-term_node
decreases-term_node l = levels_at l.node.now 3

abbrev pub decreases-term_part : goal.decreases-term_part
decreases-term_part l = levels_at l.node.now 4

abbrev pub decreases-is_plain : goal.decreases-is_plain
decreases-is_plain l = levels_at l.node.now 0

abbrev pub decreases-row_in_one_line : goal.decreases-row_in_one_line
decreases-row_in_one_line l = levels_at l.node.now 0

abbrev pub decreases-push_row : goal.decreases-push_row
decreases-push_row l = levels_at l.node.now 0

abbrev pub decreases-cell : goal.decreases-cell
decreases-cell l = levels_at l.node.now 0

abbrev pub decreases-item : goal.decreases-item
decreases-item l = levels (l.item.now ∷ l.behind.now) 1

abbrev pub decreases-near : goal.decreases-near
decreases-near l = levels l.element.now.content.now 6

abbrev pub decreases-block : goal.decreases-block
decreases-block l = levels l.element.now.content.now 11

abbrev pub decreases-element : goal.decreases-element
decreases-element l = levels l.element.now.content.now 12

abbrev pub invariant-among-loop-at : goal.invariant-among-loop-at
invariant-among-loop-at l = record {
  out : fed_all (writing_in l.out) (spec.flow_all (views.nodes_at (drop l.at l.nodes))
      (views.context_in l.place l.initial.around.items))
      ≡ fed_all (writing_in l.initial.out) (spec.flow_all (views.nodes_at l.nodes)
      (views.context_in l.place l.initial.around.items));
  around : l.around.items ≡ l.initial.around.items;
  bound : l.at ≤ length l.nodes;
}

abbrev pub decreases-among-loop-at : goal.decreases-among-loop-at
decreases-among-loop-at l = length (drop l.at l.nodes)

abbrev pub invariant-items-loop-at : goal.invariant-items-loop-at
invariant-items-loop-at l = record {
  items : map lists.item_of l.items.items ++ spec.items_of (views.nodes_at (drop l.at l.nodes))
      (views.context_in l.place l.initial.around.items)
      ≡ spec.items_of (views.nodes_at l.nodes) (views.context_in l.place l.initial.around.items);
  around : l.around.items ≡ l.initial.around.items;
  first : prefix_len item_views.is_no_item (map simple_of (drop l.at l.nodes)) ≡ 0;
  bound : l.at ≤ length l.nodes;
}

abbrev pub decreases-items-loop-at : goal.decreases-items-loop-at
decreases-items-loop-at l = length (drop l.at l.nodes)

abbrev pub invariant-each-loop-node : goal.invariant-each-loop-node
invariant-each-loop-node l = record {
  out : fed_all (writing_in l.out) (spec.each_whole (views.nodes_at (drop l.node-index l.nodes))
      (views.context_in l.place l.initial.around.items))
      ≡ fed_all (writing_in l.initial.out) (spec.each_whole (views.nodes_at l.nodes)
      (views.context_in l.place l.initial.around.items));
  around : l.around.items ≡ l.initial.around.items;
}

abbrev pub invariant-item-loop-node : goal.invariant-item-loop-node
invariant-item-loop-node l = record {
  content : fed_all (writing_in l.content) (spec.behind_item (views.nodes_at (drop l.node-index l.behind))
      (views.context_in l.place l.initial.around.items))
      ≡ fed_all (writing_in l.initial.content) (spec.behind_item (views.nodes_at l.behind)
      (views.context_in l.place l.initial.around.items));
  around : l.around.items ≡ l.initial.around.items;
}

abbrev pub invariant-captions_in_one_line-loop-node : goal.invariant-captions_in_one_line-loop-node
invariant-captions_in_one_line-loop-node l = record {
  out : fed_all (writing_in l.out) (spec.captions_in_one_line (views.nodes_at (drop l.node-index l.nodes))
      (views.context_in l.place l.initial.around.items))
      ≡ fed_all (writing_in l.initial.out) (spec.captions_in_one_line (views.nodes_at l.nodes)
      (views.context_in l.place l.initial.around.items));
  around : l.around.items ≡ l.initial.around.items;
}

abbrev pub invariant-captions-loop-node : goal.invariant-captions-loop-node
invariant-captions-loop-node l = record {
  out : fed_all (writing_in l.out) (spec.captions_among (views.nodes_at (drop l.node-index l.nodes))
      (views.context_in l.place l.initial.around.items))
      ≡ fed_all (writing_in l.initial.out) (spec.captions_among (views.nodes_at l.nodes)
      (views.context_in l.place l.initial.around.items));
  around : l.around.items ≡ l.initial.around.items;
}

abbrev pub invariant-rows_in_one_line-loop-node : goal.invariant-rows_in_one_line-loop-node
invariant-rows_in_one_line-loop-node l = record {
  out : fed_all (writing_in l.out) (spec.rows_in_one_line
      (spec.rows_among l.part (simples_of (drop l.node-index l.nodes)))
      (views.context_in l.place l.initial.around.items))
      ≡ fed_all (writing_in l.initial.out) (spec.rows_in_one_line (spec.rows_among l.part (simples_of l.nodes))
      (views.context_in l.place l.initial.around.items));
  around : l.around.items ≡ l.initial.around.items;
}

abbrev pub invariant-cells_in_one_line-loop-node : goal.invariant-cells_in_one_line-loop-node
invariant-cells_in_one_line-loop-node l = record {
  out : fed_all (writing_in l.out) (flat_map (spec.cell_in_one_line (views.context_in l.place l.initial.around.items))
      (tables.cells_at (drop l.node-index l.row)))
      ≡ fed_all (writing_in l.initial.out) (flat_map
      (spec.cell_in_one_line (views.context_in l.place l.initial.around.items)) (tables.cells_at l.row));
  around : l.around.items ≡ l.initial.around.items;
}

abbrev pub invariant-are_paragraphs-loop-node : goal.invariant-are_paragraphs-loop-node
invariant-are_paragraphs-loop-node l =
    spec.are_paragraphs (spec.rows_among l.part (simples_of (drop l.node-index l.nodes)))
    ≡ spec.are_paragraphs (spec.rows_among l.part (simples_of l.nodes))

abbrev pub invariant-holds_paragraphs-loop-node : goal.invariant-holds_paragraphs-loop-node
invariant-holds_paragraphs-loop-node l =
    list_all spec.is_paragraph (tables.cells_at (drop l.node-index l.row))
    ≡ list_all spec.is_paragraph (tables.cells_at l.row)

abbrev pub invariant-push_rows-loop-node : goal.invariant-push_rows-loop-node
invariant-push_rows-loop-node l = record {
  rows : map grids.row_of l.rows.items
      ++ spec.filled_rows (map (spec.row_of (views.context_in l.place l.initial.around.items))
      (spec.rows_among l.part (simples_of (drop l.node-index l.nodes))))
      ≡ map grids.row_of l.initial.rows.items
      ++ spec.filled_rows (map (spec.row_of (views.context_in l.place l.initial.around.items))
      (spec.rows_among l.part (simples_of l.nodes)));
  around : l.around.items ≡ l.initial.around.items;
}

abbrev pub invariant-cells-loop-node : goal.invariant-cells-loop-node
invariant-cells-loop-node l = record {
  cells : map grids.cell_of l.made.items ++ map (spec.cell_of (views.context_in l.place l.initial.around.items))
      (tables.cells_at (drop l.node-index l.row))
      ≡ map (spec.cell_of (views.context_in l.place l.initial.around.items)) (tables.cells_at l.row);
  around : l.around.items ≡ l.initial.around.items;
}

abbrev pub invariant-term_parts-loop-node : goal.invariant-term_parts-loop-node
invariant-term_parts-loop-node l = record {
  terms : terms.AreAdded (views.context_in l.place l.initial.around.items)
      (spec.terms_of (simples_of (take l.node-index l.nodes))) (writing_in l.initial.out) l.initial.items
      (writing_in l.out) l.items;
  around : l.around.items ≡ l.initial.around.items;
}

abbrev pub invariant-term_nodes-loop-node : goal.invariant-term_nodes-loop-node
invariant-term_nodes-loop-node l = record {
  terms : terms.AreAdded (views.context_in l.place l.initial.around.items)
      (map spec.of_node (views.nodes_at (take l.node-index l.nodes))) (writing_in l.initial.out) l.initial.items
      (writing_in l.out) l.items;
  around : l.around.items ≡ l.initial.around.items;
}

-- ---- rich documents

abbrev pub decreases-within : goal.decreases-within
decreases-within l = levels_at l.node.now 0

abbrev pub decreases-blocks_within : goal.decreases-blocks_within
decreases-blocks_within l = levels_at l.node.now 1

abbrev pub decreases-title_element : goal.decreases-title_element
decreases-title_element l = levels_at l.node.now 2

abbrev pub decreases-titled : goal.decreases-titled
decreases-titled l = levels l.nodes.now 5

abbrev pub decreases-titled_blocks : goal.decreases-titled_blocks
decreases-titled_blocks l = levels l.nodes.now 6

abbrev pub decreases-captioned : goal.decreases-captioned
decreases-captioned l = levels l.nodes.now 7

abbrev pub decreases-title_content : goal.decreases-title_content
decreases-title_content l = levels l.nodes.now 6

abbrev pub decreases-title : goal.decreases-title
decreases-title l = levels l.nodes.now 7

abbrev pub decreases-details : goal.decreases-details
decreases-details l = levels l.element.now.content.now 8

abbrev pub decreases-figure : goal.decreases-figure
decreases-figure l = levels l.element.now.content.now 8

abbrev pub decreases-description : goal.decreases-description
decreases-description l = levels l.alone.now 5

abbrev pub decreases-described_nodes : goal.decreases-described_nodes
decreases-described_nodes l = levels l.nodes.now 6

abbrev pub decreases-description_part : goal.decreases-description_part
decreases-description_part l = levels l.alone.now 6

abbrev pub decreases-descriptions : goal.decreases-descriptions
decreases-descriptions l = levels l.nodes.now 7

abbrev pub decreases-described : goal.decreases-described
decreases-described l = levels l.nodes.now 8

abbrev pub decreases-terms_at : goal.decreases-terms_at
decreases-terms_at l = levels l.content.now 9

abbrev pub decreases-table_at : goal.decreases-table_at
decreases-table_at l = levels l.element.now.content.now 9

abbrev pub decreases-rich_table : goal.decreases-rich_table
decreases-rich_table l = levels l.element.now.content.now 8

abbrev pub decreases-kept_table : goal.decreases-kept_table
decreases-kept_table l = levels l.element.now.content.now 7

abbrev pub decreases-rich_pieces : goal.decreases-rich_pieces
decreases-rich_pieces l = piece_views.highest (piece_views.pieces_in l.kept.now) * 32 + 4

abbrev pub decreases-rich_piece : goal.decreases-rich_piece
decreases-rich_piece l = piece_views.height_of (piece_views.piece_of l.piece.now) * 32 + 3

abbrev pub decreases-rich_cells : goal.decreases-rich_cells
decreases-rich_cells l = cells_levels l.row.now * 32 + 2

abbrev pub decreases-rich_cell : goal.decreases-rich_cell
decreases-rich_cell l = levels_at l.cell.now 0

abbrev pub invariant-titled-loop-at : goal.invariant-titled-loop-at
invariant-titled-loop-at l = record {
  out : fed_all (writing_in l.out) (spec.titled l.title (views.nodes_at (drop l.at l.nodes))
      (views.context_in l.place l.initial.around.items))
      ≡ fed_all (writing_in l.initial.out) (spec.titled l.title (views.nodes_at l.nodes)
      (views.context_in l.place l.initial.around.items));
  around : l.around.items ≡ l.initial.around.items;
  bound : l.at ≤ length l.nodes;
}

abbrev pub decreases-titled-loop-at : goal.decreases-titled-loop-at
decreases-titled-loop-at l = length l.nodes - l.at

abbrev pub invariant-descriptions-loop-at : goal.invariant-descriptions-loop-at
invariant-descriptions-loop-at l = record {
  begun : descriptions.AreDescribed (views.context_in l.place l.initial.around.items)
      (spec.terms_of (simples_of (take l.at l.nodes))) (writing_in l.initial.out) l.initial.begun
      (writing_in l.out) l.begun;
  around : l.around.items ≡ l.initial.around.items;
  bound : l.at ≤ length l.nodes;
}

abbrev pub decreases-descriptions-loop-at : goal.decreases-descriptions-loop-at
decreases-descriptions-loop-at l = length l.nodes - l.at

abbrev pub invariant-described_nodes-loop-at : goal.invariant-described_nodes-loop-at
invariant-described_nodes-loop-at l = record {
  begun : descriptions.AreDescribed (views.context_in l.place l.initial.around.items)
      (map spec.of_node (views.nodes_at (take l.at l.nodes))) (writing_in l.initial.out) l.initial.begun
      (writing_in l.out) l.begun;
  around : l.around.items ≡ l.initial.around.items;
  bound : l.at ≤ length l.nodes;
}

abbrev pub decreases-described_nodes-loop-at : goal.decreases-described_nodes-loop-at
decreases-described_nodes-loop-at l = length l.nodes - l.at

abbrev pub invariant-rich_pieces-loop-piece : goal.invariant-rich_pieces-loop-piece
invariant-rich_pieces-loop-piece l = record {
  made : element_views.pieces_in l.made.items
      ++ map (spec.piece_with_blocks l.has_spans (views.context_in l.place l.initial.around.items))
      (piece_views.pieces_in (drop l.piece-index l.kept))
      ≡ map (spec.piece_with_blocks l.has_spans (views.context_in l.place l.initial.around.items))
      (piece_views.pieces_in l.kept);
  around : l.around.items ≡ l.initial.around.items;
}

abbrev pub invariant-rich_cells-loop-node : goal.invariant-rich_cells-loop-node
invariant-rich_cells-loop-node l = record {
  cells : map element_views.cell_of l.cells.items ++ map (spec.cell_with_blocks l.has_spans l.is_in_head
      (views.context_in l.place l.initial.around.items)) (tables.cells_at (drop l.node-index l.row))
      ≡ map (spec.cell_with_blocks l.has_spans l.is_in_head
      (views.context_in l.place l.initial.around.items)) (tables.cells_at l.row);
  around : l.around.items ≡ l.initial.around.items;
}
