-- Tables of nodes in normal documents.
use Rattle.std.proofs.Common.{ℕ, suc, Bool, true, false, cond, List, [], ◌∷◌, ◌++◌, refl}
use Rattle.std.proofs.Common.{Option, Some, None, length, take, drop, map, zero}
use Rattle.std.specs.Prelude.{if◌then◌else◌, nat_lt}
use Rattle.std.specs.Str.{chars}
use Rattle.htmd_lexical.specs.Characters.{space}
use Rattle.htmd_shown.specs.Kinds.{has}
use Rattle.htmd_shown.specs.Roles as roles
use Rattle.htmd_shown.specs.SimpleTrees.{Simple}
use Rattle.htmd_flow.specs.Contexts.{Context, apart, in_one_line}
use Rattle.htmd_document.specs.Documents.{Block}
use Rattle.htmd_flow.specs.Flows.{Node, Row, flow_all, is_grid, caption_in_one_line, captions_in_one_line}
use Rattle.htmd_flow.specs.Flows.{cell_in_one_line, row_in_one_line, rows_in_one_line, before_row, grid_in_one_line}
use Rattle.htmd_flow.specs.Flows.{caption_apart, captions_among, cell_of, row_of, filled_rows, block_part, table_block}
use Rattle.htmd_flow.specs.Flows.{grid_inside, table_parts}
use Rattle.htmd_flow.specs.Grids as grid
use Rattle.htmd_flow.specs.Parts.{Part, run, edge}
use Rattle.std.specs.List.{flat_map}
use Rattle.htmd_law_documents.proofs.NormalPartsLemmas.{FineParts, IsRun, fine-append, fine-nil, fine-edge, fine-edges}
use Rattle.htmd_law_documents.proofs.NormalPartsLemmas.{fine-apart, fine-either, fine-run, fine-whole, line-of}
use Rattle.htmd_law_documents.proofs.NormalGridLemmas.{FineCells, FineRows, FineOption, table-fine}
use Rattle.htmd_law_documents.proofs.NormalNodesLemmas.{bound, FitsIn, Gives, FineNode, FineNodes, flow-fine}
use lib.Utf8.{encode}

abbrev pub RowNodes : List Row → Type 0
RowNodes [] = Unit {0}
RowNodes (row ∷ rows) = FineNodes row.cells × RowNodes rows

pub rows-append : (xs ys : List Row) → RowNodes xs → RowNodes ys → RowNodes (xs ++ ys)
rows-append [] ys g h = h
rows-append (x ∷ xs) ys g h = (g.0, rows-append xs ys g.1 h)

nodes-take : (n : ℕ) (nodes : List Node) → FineNodes nodes → FineNodes (take n nodes)
nodes-take zero nodes h = tt
nodes-take (suc n) [] h = tt
nodes-take (suc n) (m ∷ nodes) h = (h.0, nodes-take n nodes h.1)

nodes-drop : (n : ℕ) (nodes : List Node) → FineNodes nodes → FineNodes (drop n nodes)
nodes-drop zero nodes h = h
nodes-drop (suc n) [] h = tt
nodes-drop (suc n) (m ∷ nodes) h = nodes-drop n nodes h.1

-- what each node gives, one after the other
each-gives : (parts : Context → Node → List Part)
    → ((n : Node) → FineNode n → Gives (λ c. parts c n))
    → (nodes : List Node) → FineNodes nodes → Gives (λ c. flat_map (parts c) nodes)
each-gives parts one [] h c f = fine-nil c.is_flat (bound c)
each-gives parts one (n ∷ nodes) h c f =
    fine-append c.is_flat (bound c) (parts c n) (flat_map (parts c) nodes) (one n h.0 c f)
    (each-gives parts one nodes h.1 c f)

-- ---- in one line

space-run : IsRun (space ∷ [])
unfolding chars encode
space-run = record { scalar = refl; seen = refl }

line-caption : (n : Node) → FineNode n → Gives (λ c. caption_in_one_line c n)
line-caption n h c f =
    fine-either c.is_flat (bound c) (has roles.is_caption n.tree) (n.content c ++ edge ∷ []) []
    (λ e. fine-append c.is_flat (bound c) (n.content c) (edge ∷ []) (h.content c f) (fine-edges c.is_flat (bound c)))
    (λ e. fine-nil c.is_flat (bound c))

line-cell : (n : Node) → FineNode n → Gives (λ c. cell_in_one_line c n)
line-cell n h c f =
    fine-append c.is_flat (bound c) (n.content c) (run (space ∷ []) c.around false ∷ []) (h.content c f)
    (fine-run c.is_flat (bound c) (space ∷ []) c.around false space-run f)

line-rows : (rows : List Row) → RowNodes rows → Gives (rows_in_one_line rows)
line-rows [] h c f = fine-nil c.is_flat (bound c)
line-rows (row ∷ rows) h c f =
    fine-append c.is_flat (bound c) (row_in_one_line c row) (rows_in_one_line rows c)
    (fine-append c.is_flat (bound c) (flat_map (cell_in_one_line c) row.cells) (edge ∷ [])
    (each-gives cell_in_one_line line-cell row.cells h.0 c f) (fine-edges c.is_flat (bound c)))
    (line-rows rows h.1 c f)

one-line-fine : (nodes : List Node) (rows : List Row) → FineNodes nodes → RowNodes rows
    → Gives (grid_in_one_line nodes rows)
one-line-fine nodes rows h g c f =
    let n : ℕ = before_row nodes in
    let first : List Part = captions_in_one_line (take n nodes) c in
    let last : List Part = captions_in_one_line (drop n nodes) c in
    fine-append c.is_flat (bound c) (first ++ rows_in_one_line rows c) last
    (fine-append c.is_flat (bound c) first (rows_in_one_line rows c)
    (each-gives caption_in_one_line line-caption (take n nodes) (nodes-take n nodes h) c f) (line-rows rows g c f))
    (each-gives caption_in_one_line line-caption (drop n nodes) (nodes-drop n nodes h) c f)

-- ---- captions and the grid

apart-caption : (n : Node) → FineNode n → Gives (λ c. caption_apart c n)
apart-caption n h c f =
    fine-either c.is_flat (bound c) (has roles.is_caption n.tree) (apart (n.content c)) []
    (λ e. fine-apart c.is_flat (bound c) (n.content c) (h.content c f))
    (λ e. fine-nil c.is_flat (bound c))

cell-lines : (c : Context) → FitsIn c → (cells : List Node) → FineNodes cells
    → FineCells (map (cell_of c) cells)
cell-lines c f [] h = tt
cell-lines c f (n ∷ cells) h =
    (line-of (bound c) (n.content (in_one_line c)) (h.0.content (in_one_line c) f), cell-lines c f cells h.1)

row-cells : (c : Context) → FitsIn c → (rows : List Row) → RowNodes rows → FineRows (map (row_of c) rows)
row-cells c f [] h = tt
row-cells c f (row ∷ rows) h = (cell-lines c f row.cells h.0, row-cells c f rows h.1)

rows-filled : (rows : List grid.Row) → FineRows rows → FineRows (filled_rows rows)
rows-filled [] h = tt
rows-filled (row ∷ rows) h = either (nat_lt 0 (length row.cells)) (rows-filled rows h.1)
  where
    either : (b : Bool) → FineRows (filled_rows rows)
        → FineRows (cond b (row ∷ filled_rows rows) (filled_rows rows))
    either true g = (h.0, g)
    either false g = g

block-fine : (c : Context) → FitsIn c → (rows : List Row) → RowNodes rows
    → FineOption (bound c) (table_block rows c)
block-fine c f rows h =
    let made : List grid.Row = map (row_of c) rows in
    table-fine (bound c) (filled_rows made) (rows-filled made (row-cells c f rows h))

pub option-fine : (flat : Bool) (n : ℕ) (o : Option Block) → FineOption n o → FineParts flat n (block_part o)
option-fine flat n None h = fine-nil flat n
option-fine flat n (Some b) h = fine-whole flat n b h.1 h.0

grid-fine : (nodes : List Node) (rows : List Row) → FineNodes nodes → RowNodes rows
    → Gives (grid_inside nodes rows)
grid-fine nodes rows h g c f =
    let k : ℕ = before_row nodes in
    let flat : Bool = c.is_flat in
    let n : ℕ = bound c in
    let first : List Part = captions_among (take k nodes) c in
    let last : List Part = captions_among (drop k nodes) c in
    let block : List Part = block_part (table_block rows c) in
    fine-append flat n ((first ++ edge ∷ block) ++ edge ∷ last) (edge ∷ [])
    (fine-append flat n (first ++ edge ∷ block) (edge ∷ last)
    (fine-append flat n first (edge ∷ block)
    (each-gives caption_apart apart-caption (take k nodes) (nodes-take k nodes h) c f)
    (fine-edge flat n block (option-fine flat n (table_block rows c) (block-fine c f rows g))))
    (fine-edge flat n last (each-gives caption_apart apart-caption (drop k nodes) (nodes-drop k nodes h) c f)))
    (fine-edges flat n)

-- ---- a table

pub table-parts-fine : (trees : List Simple) (nodes : List Node) (rows : List Row) → FineNodes nodes → RowNodes rows
    → Gives (table_parts trees nodes rows)
table-parts-fine trees nodes rows h g c f =
    let flat : Bool = c.is_flat in
    let n : ℕ = bound c in
    let inside : List Part = if c.is_flat then grid_in_one_line nodes rows c else grid_inside nodes rows c in
    fine-either flat n (is_grid trees rows) (edge ∷ inside) (apart (flow_all nodes c))
    (λ e. fine-edge flat n inside
    (fine-either flat n c.is_flat (grid_in_one_line nodes rows c) (grid_inside nodes rows c)
    (λ d. one-line-fine nodes rows h g c f) (λ d. grid-fine nodes rows h g c f)))
    (λ e. fine-apart flat n (flow_all nodes c) (flow-fine nodes h c f))
