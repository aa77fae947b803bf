-- Tables: what is in one, and what else is.
use Rattle.std.specs.Prelude.{ℕ, Bool, true, false, not, ◌&&◌, ◌||◌, nat_lt, if◌then◌else◌, List, drop, filter, fold, length}
use Rattle.std.specs.List.{list_any, list_all, prefix_len}
use Rattle.htmd_shown.specs.Kinds.{has, holds, content_of, is_blank}
use Rattle.htmd_shown.specs.Roles.{is_caption, is_head, is_part, is_row, is_row_or_part, is_cell, is_header_cell}
use Rattle.htmd_shown.specs.Showings.{shows}
use Rattle.htmd_shown.specs.SimpleTrees.{Simple}
use Rattle.htmd_flow.specs.Levels.{list_of}
use Rattle.htmd_flow.specs.declared.table_form.Cells.{Cells}
use Rattle.htmd_flow.specs.declared.table_form.Layout.{Layout}
use Rattle.htmd_flow.specs.declared.table_form.Layout.TheVariants as layout

-- ---- nothing shows beside captions and cells

-- nothing shows of it; in a rich document breaks and images without anything to see are nothing
abbrev pub is_nothing : Bool → Simple → Bool
is_nothing is_rich tree = if is_rich then not (shows false tree) else is_blank tree

abbrev pub is_cell_or_nothing : Bool → Simple → Bool
is_cell_or_nothing is_rich tree = has is_cell tree || is_nothing is_rich tree

-- a row of cells alone, or nothing that shows
abbrev pub is_row_or_nothing : Bool → Simple → Bool
is_row_or_nothing is_rich tree =
    if has is_row tree then list_all (is_cell_or_nothing is_rich) (list_of (content_of tree))
    else is_nothing is_rich tree

-- a caption, a part that holds rows alone, a row of cells alone, or nothing that shows
abbrev pub is_table_child : Bool → Simple → Bool
is_table_child is_rich tree =
    if has is_caption tree then true
    else (if has is_part tree then list_all (is_row_or_nothing is_rich) (list_of (content_of tree))
    else is_row_or_nothing is_rich tree)

abbrev pub holds_table_alone : Bool → List Simple → Bool
holds_table_alone is_rich trees = list_all (is_table_child is_rich) trees

-- ---- captions

abbrev pub is_no_caption : Simple → Bool
is_no_caption tree = not (has is_caption tree)

abbrev pub is_no_row : Simple → Bool
is_no_row tree = not (has is_row_or_part tree)

-- from the first row on, and from the first caption on
abbrev pub from_row : List Simple → List Simple
from_row trees = drop (prefix_len is_no_row trees) trees

abbrev pub from_caption : List Simple → List Simple
from_caption trees = drop (prefix_len is_no_caption trees) trees

-- no row stands behind a caption that stands behind a row
abbrev pub has_captions_around : List Simple → Bool
has_captions_around trees = list_all is_no_row (from_caption (from_row trees))

-- ---- what a table is for

abbrev pub has_head : List Simple → Bool
has_head trees = list_any (has is_head) trees

abbrev pub no_cells : Cells
no_cells = record {
  is_filled = false;
  is_wide = false;
  has_header = false;
  holds_table = false;
  holds_header = false;
}

-- with one more cell
abbrev pub with_cell : Cells → Simple → Cells
with_cell c tree = record {
  is_filled = true;
  is_wide = c.is_wide;
  has_header = c.has_header || has is_header_cell tree;
  holds_table = c.holds_table || holds (λ f. f.holds_table) tree;
  holds_header = c.holds_header || holds (λ f. f.holds_header) tree;
}

abbrev pub with_cell_at : Cells → Simple → Cells
with_cell_at c tree = if has is_cell tree then with_cell c tree else c

abbrev pub cells_len : List Simple → ℕ
cells_len row = length (filter (has is_cell) row)

-- with the cells of one more row; a row of two cells is wide
abbrev pub with_row : Cells → List Simple → Cells
with_row c row = record (fold with_cell_at c row) { is_wide = c.is_wide || nat_lt 1 (cells_len row) }

-- with the rows among nodes
abbrev pub with_row_at : Cells → Simple → Cells
with_row_at c tree = if has is_row tree then with_row c (list_of (content_of tree)) else c

abbrev pub with_rows : Cells → List Simple → Cells
with_rows c trees = fold with_row_at c trees

-- with the rows of a part
abbrev pub with_part : Cells → Simple → Cells
with_part c tree = if has is_part tree then with_rows c (list_of (content_of tree)) else c

abbrev pub cells_in : List Simple → Cells
cells_in trees = fold with_part (with_rows no_cells trees) trees

-- one with headers is a grid, unless it holds another table with headers
abbrev pub layout_with_headers : Cells → Layout
layout_with_headers c =
    if not c.is_filled || (c.holds_table && c.holds_header) then layout.Page else layout.Grid

-- one without is a grid if a row has two cells, no table stands in it, and each cell is a paragraph at most
abbrev pub layout_without_headers : Cells → Layout
layout_without_headers c = if c.is_wide && not c.holds_table then layout.GridOfParagraphs else layout.Page

abbrev pub layout_by_cells : Bool → Cells → Layout
layout_by_cells has_head c =
    if has_head || c.has_header then layout_with_headers c else layout_without_headers c

abbrev pub layout_of : List Simple → Layout
layout_of trees =
    if has_captions_around trees && holds_table_alone false trees then layout_by_cells (has_head trees) (cells_in trees)
    else layout.Page
