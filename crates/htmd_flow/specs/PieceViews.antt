-- What the captions and rows of a table of the source stand for.
use Rattle.std.specs.List.{list_any}
use Rattle.std.specs.Prelude.{ℕ, max, Bool, false, ◌&&◌, List, [], ◌∷◌, filter, map, if◌then◌else◌}
use Rattle.htmd_shown.specs.Kinds.{has, content_of}
use Rattle.htmd_shown.specs.SimpleViews.{simple_of}
use Rattle.htmd_shown.specs.Roles as roles
use Rattle.htmd_shown.specs.SimpleTrees.{Simple}
use Rattle.htmd_flow.specs.declared.table_pieces.TablePiece as source
use Rattle.htmd_flow.specs.declared.table_form.TablePart.{TablePart}
use Rattle.htmd_flow.specs.Flows.{Node, Row, TablePiece, of_caption, of_row, is_cell, no_part, nodes_of, part_of, may_span, has_cell}
use Rattle.htmd_flow.specs.FlowViews.{node_at}
use Rattle.htmd_flow.specs.Levels as levels
use Rattle.htmd_flow.specs.Levels.{height}

-- the part of the table that a row is in
abbrev pub part_in : source.TablePiece → TablePart
part_in p = if has roles.is_part (simple_of p.part.now) then part_of (simple_of p.part.now) else no_part

abbrev pub row_by : TablePart → Simple → Row
row_by p tree = record { part = p.id; is_in_head = p.is_head; cells = filter is_cell (nodes_of (content_of tree)) }

abbrev pub piece_of : source.TablePiece → TablePiece
piece_of p =
    if has roles.is_caption (simple_of p.node.now) then of_caption (node_at p.node.now)
    else of_row (row_by (part_in p) (simple_of p.node.now))

abbrev pub pieces_in : List source.TablePiece → List TablePiece
pieces_in found = map piece_of found

-- how many levels stand in each other in captions and cells
abbrev pub height_of : TablePiece → ℕ
height_of (of_caption n) = height n.tree
height_of (of_row r) = levels.highest (map (λ (n : Node). n.tree) r.cells)

abbrev pub highest : List TablePiece → ℕ
highest [] = 0
highest (p ∷ pieces) = max (height_of p) (highest pieces)

-- a cell that is so
abbrev pub cell_is : (Simple → Bool) → Simple → Bool
cell_is is_so tree = has roles.is_cell tree && is_so tree

-- a cell takes more than one row, if there are some
abbrev pub row_may_span : TablePiece → Bool
row_may_span (of_caption n) = false
row_may_span (of_row r) = has_cell may_span r
