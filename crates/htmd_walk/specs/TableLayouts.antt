-- Which nodes of a table are rendered, and as what.
use Rattle.std.specs.Prelude.{ℕ, Bool, false, not, ◌&&◌, ◌||◌, if◌then◌else◌, nat_lt, List, [], ◌∷◌, length, Option}
use Rattle.std.specs.Prelude.{Some, None, true, codes, ◌++◌, filter, fold}
use Rattle.std.specs.Str.{bytes_eq}
use Rattle.std.specs.List.{flat_map}
use Rattle.htmd_nodes.specs.Items.{Item, data_at, children_of}
use Rattle.htmd_walk.specs.Handling.{ElementView}
use Rattle.htmd_walk.specs.declared.element_handler.table_layout.PartKind.{PartKind}
use Rattle.htmd_walk.specs.declared.element_handler.table_layout.PartKind.TheVariants.{Caption, Headers, Row}
use Rattle.htmd_walk.specs.declared.element_handler.table_layout.TableChild.{TableChild}
use Rattle.htmd_walk.specs.declared.element_handler.table_layout.TableChild.TheVariants.{TableCaption, TableHead}
use Rattle.htmd_walk.specs.declared.element_handler.table_layout.TableChild.TheVariants.{TableSection, DirectRow}
use Rattle.htmd_walk.specs.declared.element_handler.table_layout.TableChild.TheVariants.{OtherChild}
use Rattle.htmd_walk.specs.ElementPlans.{is_tag_among}
use Rattle.htmd_nodes.specs.Items as tree

-- a caption, the header cells of a table, or the cells of a row
pub record Part : Type 0 where
  pub kind : PartKind
  pub nodes : List ℕ

abbrev pub part : PartKind → List ℕ → Part
part kind nodes = record { kind = kind; nodes = nodes }

-- the parts of a table so far, whether a head was seen, and whether there are headers and rows
pub record Layout : Type 0 where
  pub parts : List Part
  pub head_seen : Bool
  pub has_headers : Bool
  pub has_rows : Bool

abbrev pub has_tag : List (List ℕ) → List Item → ℕ → Bool
has_tag tags items node = is_tag_among tags (tree.tag_of (data_at items node))

-- the children that have this tag
abbrev pub tagged_children : List ℕ → List Item → ℕ → List ℕ
tagged_children tag items node = filter (has_tag (tag ∷ []) items) (children_of items node)

abbrev pub if_none : List ℕ → List ℕ → List ℕ
if_none [] others = others
if_none (node ∷ nodes) others = node ∷ nodes

-- the `th` cells of a row, or if there are none its `td` cells
abbrev pub header_cells : List Item → ℕ → List ℕ
header_cells items row =
    if_none (tagged_children (codes "th") items row) (tagged_children (codes "td") items row)

abbrev pub with_caption : ℕ → Layout → Layout
with_caption node layout = record {
  parts = layout.parts ++ part Caption (node ∷ []) ∷ [];
  head_seen = layout.head_seen;
  has_headers = layout.has_headers;
  has_rows = layout.has_rows;
}

-- these cells, or none, become the headers
abbrev pub with_headers : List ℕ → Layout → Layout
with_headers cells layout = record {
  parts = layout.parts ++ part Headers cells ∷ [];
  head_seen = true;
  has_headers = nat_lt 0 (length cells);
  has_rows = layout.has_rows;
}

-- cells, if any, are a row
abbrev pub with_cells : List ℕ → Layout → Layout
with_cells [] layout = layout
with_cells (cell ∷ cells) layout = record {
  parts = layout.parts ++ part Row (cell ∷ cells) ∷ [];
  head_seen = layout.head_seen;
  has_headers = layout.has_headers;
  has_rows = true;
}

abbrev pub with_row : List Item → ℕ → Layout → Layout
with_row items row layout = with_cells (tagged_children (codes "td") items row) layout

-- cells, if any, are the headers
abbrev pub with_headers_or : List ℕ → Layout → Layout → Layout
with_headers_or [] other layout = other
with_headers_or (cell ∷ cells) other layout = with_headers (cell ∷ cells) layout

-- no head was seen and there are no headers
abbrev pub is_headless : Layout → Bool
is_headless layout = not layout.head_seen && not layout.has_headers

-- A row in `tbody` or `tfoot`: of a headless table its `th` cells, if any, become the headers; else its `td` cells, if
-- any, are a row.
abbrev pub with_section_row : List Item → Layout → ℕ → Layout
with_section_row items layout row =
    if is_headless layout
    then with_headers_or (tagged_children (codes "th") items row) (with_row items row layout) layout
    else with_row items row layout

-- A row right below the table: of a headless table its `th` cells, else its `td` cells, become the headers; else its
-- `td` cells, if any, are a row.
abbrev pub with_table_row : List Item → ℕ → Layout → Layout
with_table_row items row layout =
    if is_headless layout
    then with_headers_or (header_cells items row) layout layout
    else with_row items row layout

-- the first row of `thead`, or itself
abbrev pub head_row : List ℕ → ℕ → ℕ
head_row [] head = head
head_row (row ∷ rows) head = row

abbrev pub with_head : List Item → ℕ → Layout → Layout
with_head items head layout =
    with_headers (header_cells items (head_row (tagged_children (codes "tr") items head) head)) layout

-- what a child is to its table
abbrev pub child_of_tag : List ℕ → TableChild
child_of_tag tag =
    if bytes_eq tag (codes "caption") then TableCaption
    else (if bytes_eq tag (codes "thead") then TableHead
    else (if bytes_eq tag (codes "tbody") then TableSection
    else (if bytes_eq tag (codes "tfoot") then TableSection
    else (if bytes_eq tag (codes "tr") then DirectRow else OtherChild))))

abbrev pub table_child : Option (List ℕ) → TableChild
table_child None = OtherChild
table_child (Some tag) = child_of_tag tag

-- one more child of the table
abbrev pub with_table_child : TableChild → List Item → Layout → ℕ → Layout
with_table_child TableCaption items layout node = with_caption node layout
with_table_child TableHead items layout node = with_head items node layout
with_table_child TableSection items layout node =
    fold (with_section_row items) layout (tagged_children (codes "tr") items node)
with_table_child DirectRow items layout node = with_table_row items node layout
with_table_child OtherChild items layout node = layout

abbrev pub with_child : List Item → Layout → ℕ → Layout
with_child items layout node = with_table_child (table_child (tree.tag_of (data_at items node))) items layout node

abbrev pub empty_layout : Layout
empty_layout = record { parts = []; head_seen = false; has_headers = false; has_rows = false }

abbrev pub layout_of : List Item → ℕ → Layout
layout_of items node = fold (with_child items) empty_layout (children_of items node)

abbrev pub layout_at : ElementView → Layout
layout_at view = layout_of view.items view.node

-- what is rendered, each node by itself
abbrev pub nodes_of : List Part → List ℕ
nodes_of parts = flat_map (λ (p : Part). p.nodes) parts

abbrev pub has_lines : Layout → Bool
has_lines layout = layout.has_headers || layout.has_rows
