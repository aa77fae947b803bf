-- The rows among nodes of a table.
use Rattle.std.proofs.Common.{◌≡◌, ℕ, ◌+◌, ◌<◌, ◌≤◌, Bool, true, false, cond, ◌&&◌, nat_lt, List, [], ◌∷◌, ◌++◌, length, get_or}
use Rattle.std.proofs.Common.{drop, map, refl, sym, ap, ◌∙◌, arith}
use Rattle.std.proofs.lemmas.Bool.Decides.{nat_tests}
use Rattle.std.specs.List.{flat_map, list_all}
use Rattle.std.proofs.lemmas.List.{map-append, drop_all, append-nil, append_assoc}
use Rattle.std.proofs.lemmas.List.Elements.{filter-append}
use Rattle.std.proofs.lemmas.List.Folds.{list_all-append}
use Rattle.std.proofs.lemmas.Grind.{flat_map-append}
use Rattle.htmd_shown.specs.Kinds.{has, content_of}
use Rattle.htmd_shown.specs.Roles as roles
use Rattle.htmd_shown.specs.SimpleTrees as value
use Rattle.htmd_shown.specs.declared.simple.Simple.{Simple}
use Rattle.htmd_shown.specs.SimpleViews.{simple_of, simples_of}
use Rattle.htmd_flow.specs.declared.table_form.TablePart.{TablePart}
use Rattle.htmd_flow.specs.Contexts.{Context, apart}
use Rattle.htmd_flow.specs.Flows as spec
use Rattle.htmd_flow.specs.Flows.{Node, Row, nodes_of, rows_among, rows_at, row_with, part_of, leads_to}
use Rattle.htmd_flow.specs.Flows.{are_paragraphs, rows_in_one_line, row_of, filled_rows, is_cell}
use Rattle.htmd_flow.specs.FlowViews.{node_at, nodes_at}
use Rattle.htmd_flow.specs.Grids as grid
use Rattle.htmd_flow.specs.GridViews.{filled_row}
use Rattle.htmd_flow.specs.Parts.{Part, edge}
use Rattle.htmd_flow.specs.TableViews.{cells_at}
use Rattle.htmd_flow.specs.Contexts.{bare, in_one_line}
use Rattle.htmd_flow.specs.declared.grid.Cell as declared
use Rattle.htmd_flow.specs.GridViews as grids
use Rattle.htmd_flow.specs.Paragraphs.{Writing, fed, fed_all}
use Rattle.htmd_flow.specs.Tables as tables
use Rattle.htmd_document.specs.Documents as documents
use Rattle.htmd_document.specs.declared.document.Alignment.{Alignment}
use Rattle.htmd_shown.specs.Attributes.{column_span, row_span, alignment}
use Rattle.std.specs.List.{prefix_len}
use Rattle.std.proofs.lemmas.List.{map_push, take-map, drop-map}
use Rattle.std.proofs.Common.{take}
use Rattle.htmd_flow.proofs.FeedLemmas.{fed_after, fed_both}
use Rattle.htmd_flow.proofs.LoopsLemmas.{at_place, prefix_alike}
use Rattle.htmd_flow.proofs.NodesLemmas.{tree_is, nodes_are, content_is}

-- ---- one node after another

pub rows_next : (p : TablePart) (ts : List Simple) (k : ℕ) (t : Simple) → k < length ts → t ≡ get_or ts k t
    → rows_among p (simples_of (drop k ts))
    ≡ rows_at p (simple_of t) ++ rows_among p (simples_of (drop (k + 1) ts))
unfolding rows_among
rows_next p ts k t l e = ap (λ xs. rows_among p (simples_of xs)) (at_place ts k t l e)

pub rows_end : (p : TablePart) (ts : List Simple) (k : ℕ) → length ts ≤ k
    → rows_among p (simples_of (drop k ts)) ≡ []
unfolding rows_among
rows_end p ts k l = ap (λ xs. rows_among p (simples_of xs)) (drop_all k ts l)

-- ---- the rows that a node is

none_if : {A : Type 0} (b : Bool) (x : A) → x ≡ cond b x x
none_if true x = refl
none_if false x = refl

if_shape : (p : TablePart) (tree : value.Simple)
    → rows_at p tree ≡ spec.rows_if p tree (nodes_of (content_of tree))
    (rows_among (part_of tree) (content_of tree))
unfolding rows_at rows_among
if_shape p (value.element id r facts attributes content) = refl
if_shape p (value.text s) = none_if (leads_to p (value.text s)) []
if_shape p (value.image address attributes) = none_if (leads_to p (value.image address attributes)) []
if_shape p (value.formula tex is_alone attributes) = none_if (leads_to p (value.formula tex is_alone attributes)) []
if_shape p (value.embedded id address title attributes anchors) =
    none_if (leads_to p (value.embedded id address title attributes anchors)) []
if_shape p (value.anchor id) = none_if (leads_to p (value.anchor id)) []

module _ (p : TablePart) (tree : value.Simple) (content : List Simple) (e : simples_of content ≡ content_of tree)
  where
    abbrev within : List Row
    within = rows_among (part_of tree) (content_of tree)

    -- a row
    pub row_at : has roles.is_row tree ≡ true
        → rows_at p tree ≡ record { part = p.id; is_in_head = p.is_head; cells = cells_at content } ∷ []
    row_at h = if_shape p tree
        ∙ ap (λ b. cond b (row_with p (nodes_of (content_of tree))) (cond (leads_to p tree) within [])) h
        ∙ ap (row_with p) (ap nodes_of (sym e) ∙ nodes_are content)

    -- a part of the table
    pub part_at : has roles.is_row tree ≡ false → leads_to p tree ≡ true
        → rows_at p tree ≡ rows_among (part_of tree) (simples_of content)
    part_at h k = if_shape p tree
        ∙ ap (λ b. cond b (row_with p (nodes_of (content_of tree))) (cond (leads_to p tree) within [])) h
        ∙ ap (λ b. cond b within []) k
        ∙ ap (rows_among (part_of tree)) (sym e)

-- nothing of a table
pub no_row_at : (p : TablePart) (tree : value.Simple) → has roles.is_row tree ≡ false → leads_to p tree ≡ false
    → rows_at p tree ≡ []
no_row_at p tree h k = if_shape p tree
    ∙ ap (λ b. cond b (row_with p (nodes_of (content_of tree)))
    (cond (leads_to p tree) (rows_among (part_of tree) (content_of tree)) [])) h
    ∙ ap (λ b. cond b (rows_among (part_of tree) (content_of tree)) []) k

-- ---- what they give, one after another

paragraphs_both : (xs ys : List Row) → are_paragraphs (xs ++ ys) ≡ (are_paragraphs xs && are_paragraphs ys)
paragraphs_both xs ys = list_all-append (λ (r : Row). list_all spec.is_paragraph r.cells) xs ys

pub plain_passed : (p : TablePart) (ts : List Simple) (k : ℕ) (t : Simple) (b whole : Bool) → k < length ts
    → t ≡ get_or ts k t → b ≡ are_paragraphs (rows_at p (simple_of t)) → b ≡ true
    → are_paragraphs (rows_among p (simples_of (drop k ts))) ≡ whole
    → are_paragraphs (rows_among p (simples_of (drop (k + 1) ts))) ≡ whole
plain_passed p ts k t b whole l e h holds i =
    sym (ap are_paragraphs (rows_next p ts k t l e)
    ∙ paragraphs_both (rows_at p (simple_of t)) (rows_among p (simples_of (drop (k + 1) ts)))
    ∙ ap (λ c. c && are_paragraphs (rows_among p (simples_of (drop (k + 1) ts)))) (sym h ∙ holds)) ∙ i

pub plain_failed : (p : TablePart) (ts : List Simple) (k : ℕ) (t : Simple) (b whole : Bool) → k < length ts
    → t ≡ get_or ts k t → b ≡ are_paragraphs (rows_at p (simple_of t)) → b ≡ false
    → are_paragraphs (rows_among p (simples_of (drop k ts))) ≡ whole → false ≡ whole
plain_failed p ts k t b whole l e h fails i =
    sym (ap are_paragraphs (rows_next p ts k t l e)
    ∙ paragraphs_both (rows_at p (simple_of t)) (rows_among p (simples_of (drop (k + 1) ts)))
    ∙ ap (λ c. c && are_paragraphs (rows_among p (simples_of (drop (k + 1) ts)))) (sym h ∙ fails)) ∙ i

pub plain_done : (p : TablePart) (ts : List Simple) (k : ℕ) (whole : Bool) → length ts ≤ k
    → are_paragraphs (rows_among p (simples_of (drop k ts))) ≡ whole → true ≡ whole
plain_done p ts k whole l i = sym (ap are_paragraphs (rows_end p ts k l)) ∙ i

pub lines_next : (context : Context) (p : TablePart) (ts : List Simple) (k : ℕ) (t : Simple) → k < length ts
    → t ≡ get_or ts k t
    → rows_in_one_line (rows_among p (simples_of (drop k ts))) context
    ≡ rows_in_one_line (rows_at p (simple_of t)) context
    ++ rows_in_one_line (rows_among p (simples_of (drop (k + 1) ts))) context
lines_next context p ts k t l e =
    ap (λ rs. rows_in_one_line rs context) (rows_next p ts k t l e)
    ∙ flat_map-append (spec.row_in_one_line context) (rows_at p (simple_of t))
    (rows_among p (simples_of (drop (k + 1) ts)))

pub lines_end : (context : Context) (p : TablePart) (ts : List Simple) (k : ℕ) → length ts ≤ k
    → rows_in_one_line (rows_among p (simples_of (drop k ts))) context ≡ []
lines_end context p ts k l = ap (λ rs. rows_in_one_line rs context) (rows_end p ts k l)

abbrev is_filled : grid.Row → Bool
is_filled r = nat_lt 0 (length r.cells)

pub made_next : (context : Context) (p : TablePart) (ts : List Simple) (k : ℕ) (t : Simple) → k < length ts
    → t ≡ get_or ts k t
    → filled_rows (map (row_of context) (rows_among p (simples_of (drop k ts))))
    ≡ filled_rows (map (row_of context) (rows_at p (simple_of t)))
    ++ filled_rows (map (row_of context) (rows_among p (simples_of (drop (k + 1) ts))))
made_next context p ts k t l e =
    ap (λ rs. filled_rows (map (row_of context) rs)) (rows_next p ts k t l e)
    ∙ ap filled_rows (map-append (row_of context) (rows_at p (simple_of t))
    (rows_among p (simples_of (drop (k + 1) ts))))
    ∙ filter-append is_filled (map (row_of context) (rows_at p (simple_of t)))
    (map (row_of context) (rows_among p (simples_of (drop (k + 1) ts))))

pub made_end : (context : Context) (p : TablePart) (ts : List Simple) (k : ℕ) → length ts ≤ k
    → filled_rows (map (row_of context) (rows_among p (simples_of (drop k ts)))) ≡ []
made_end context p ts k l = ap (λ rs. filled_rows (map (row_of context) rs)) (rows_end p ts k l)

-- ---- the cells of a row

cell_is : (t : Simple) → is_cell (node_at t) ≡ has roles.is_cell (simple_of t)
cell_is t = ap (has roles.is_cell) (tree_is (simple_of t))

pub cells_next : (ts : List Simple) (k : ℕ) (t : Simple) → k < length ts → t ≡ get_or ts k t
    → has roles.is_cell (simple_of t) ≡ true
    → cells_at (drop k ts) ≡ node_at t ∷ cells_at (drop (k + 1) ts)
cells_next ts k t l e h =
    ap cells_at (at_place ts k t l e)
    ∙ ap (λ b. cond b (node_at t ∷ cells_at (drop (k + 1) ts)) (cells_at (drop (k + 1) ts))) (cell_is t ∙ h)

pub cells_passed : (ts : List Simple) (k : ℕ) (t : Simple) → k < length ts → t ≡ get_or ts k t
    → has roles.is_cell (simple_of t) ≡ false → cells_at (drop k ts) ≡ cells_at (drop (k + 1) ts)
cells_passed ts k t l e h =
    ap cells_at (at_place ts k t l e)
    ∙ ap (λ b. cond b (node_at t ∷ cells_at (drop (k + 1) ts)) (cells_at (drop (k + 1) ts))) (cell_is t ∙ h)

pub cells_end : (ts : List Simple) (k : ℕ) → length ts ≤ k → cells_at (drop k ts) ≡ []
cells_end ts k l = ap cells_at (drop_all k ts l)

-- ---- captions

caption_is : (t : Simple) → has roles.is_caption (node_at t).tree ≡ has roles.is_caption (simple_of t)
caption_is t = ap (has roles.is_caption) (tree_is (simple_of t))

pub caption_in_line : (context : Context) (t : Simple) → has roles.is_caption (simple_of t) ≡ true
    → spec.caption_in_one_line context (node_at t) ≡ (node_at t).content context ++ edge ∷ []
caption_in_line context t h =
    ap (λ b. cond b ((node_at t).content context ++ edge ∷ []) []) (caption_is t ∙ h)

pub no_caption_in_line : (context : Context) (t : Simple) → has roles.is_caption (simple_of t) ≡ false
    → spec.caption_in_one_line context (node_at t) ≡ []
no_caption_in_line context t h =
    ap (λ b. cond b ((node_at t).content context ++ edge ∷ []) []) (caption_is t ∙ h)

pub caption_alone : (context : Context) (t : Simple) → has roles.is_caption (simple_of t) ≡ true
    → spec.caption_apart context (node_at t) ≡ apart ((node_at t).content context)
caption_alone context t h = ap (λ b. cond b (apart ((node_at t).content context)) []) (caption_is t ∙ h)

pub no_caption_alone : (context : Context) (t : Simple) → has roles.is_caption (simple_of t) ≡ false
    → spec.caption_apart context (node_at t) ≡ []
no_caption_alone context t h = ap (λ b. cond b (apart ((node_at t).content context)) []) (caption_is t ∙ h)

-- ---- rows that are made

pub rows_pushed : (old new part rest all : List grid.Row) → new ≡ old ++ part → all ≡ part ++ rest
    → new ++ rest ≡ old ++ all
rows_pushed old new part rest all h e =
    ap (λ xs. xs ++ rest) h ∙ append_assoc old part rest ∙ sym (ap (λ xs. old ++ xs) e)

pub filled_one : (p : TablePart) (cs : List grid.Cell)
    → filled_row p cs ≡ filled_rows (record { part = p.id; is_in_head = p.is_head; cells = cs } ∷ [])
filled_one p [] = refl
filled_one p (c ∷ cs) =
    sym (ap (λ b. cond {A = List grid.Row} b (record { part = p.id; is_in_head = p.is_head; cells = c ∷ cs } ∷ [])
    [])
    (some c cs))
  where
    some : (x : grid.Cell) (xs : List grid.Cell) → nat_lt 0 (length (x ∷ xs)) ≡ true
    some x xs = grind (arith, nat_tests)

-- ---- what a node gives as rows

module _ (context : Context) (p : TablePart) (tree : value.Simple) (content : List Simple)
    (e : simples_of content ≡ content_of tree) where
  pub line_at : has roles.is_row tree ≡ true
      → flat_map (spec.cell_in_one_line context) (cells_at content) ++ edge ∷ []
      ≡ rows_in_one_line (rows_at p tree) context
  line_at h =
      sym (append-nil (flat_map (spec.cell_in_one_line context) (cells_at content) ++ edge ∷ []))
      ∙ sym (ap (λ rs. rows_in_one_line rs context) (row_at p tree content e h))

  pub lines_at : has roles.is_row tree ≡ false → leads_to p tree ≡ true
      → rows_in_one_line (rows_among (part_of tree) (simples_of content)) context
      ≡ rows_in_one_line (rows_at p tree) context
  lines_at h k = sym (ap (λ rs. rows_in_one_line rs context) (part_at p tree content e h k))

  pub made_row : (cs : List grid.Cell) → has roles.is_row tree ≡ true
      → cs ≡ map (spec.cell_of context) (cells_at content)
      → filled_row p cs ≡ filled_rows (map (row_of context) (rows_at p tree))
  made_row cs h is =
      ap (filled_row p) is ∙ filled_one p (map (spec.cell_of context) (cells_at content))
      ∙ sym (ap (λ rs. filled_rows (map (row_of context) rs)) (row_at p tree content e h))

  pub made_rows : has roles.is_row tree ≡ false → leads_to p tree ≡ true
      → filled_rows (map (row_of context) (rows_among (part_of tree) (simples_of content)))
      ≡ filled_rows (map (row_of context) (rows_at p tree))
  made_rows h k = sym (ap (λ rs. filled_rows (map (row_of context) rs)) (part_at p tree content e h k))

pub plain_row : (p : TablePart) (tree : value.Simple) (content : List Simple) → simples_of content ≡ content_of tree
    → has roles.is_row tree ≡ true
    → list_all spec.is_paragraph (cells_at content) ≡ are_paragraphs (rows_at p tree)
plain_row p tree content e h =
    all_alone (list_all spec.is_paragraph (cells_at content)) ∙ sym (ap are_paragraphs (row_at p tree content e h))
  where
    all_alone : (b : Bool) → b ≡ (b && true)
    all_alone true = refl
    all_alone false = refl

-- ---- cells, one after another

pub paragraph_is : (t : Simple) (content : List Simple) (b : Bool) → simples_of content ≡ content_of (simple_of t)
    → b ≡ spec.is_paragraph_at_most (spec.blocks_of false (spec.flow_all (nodes_at content) bare))
    → b ≡ spec.is_paragraph (node_at t)
paragraph_is t content b e h =
    h ∙ ap (λ ps. spec.is_paragraph_at_most (spec.blocks_of false ps)) (content_is (simple_of t) content bare e)

pub paragraph_passed : (ts : List Simple) (k : ℕ) (t : Simple) (b whole : Bool) → k < length ts
    → t ≡ get_or ts k t
    → has roles.is_cell (simple_of t) ≡ true → b ≡ spec.is_paragraph (node_at t) → b ≡ true
    → list_all spec.is_paragraph (cells_at (drop k ts)) ≡ whole
    → list_all spec.is_paragraph (cells_at (drop (k + 1) ts)) ≡ whole
paragraph_passed ts k t b whole l e cell h holds i =
    sym (ap (list_all spec.is_paragraph) (cells_next ts k t l e cell)
    ∙ ap (λ c. c && list_all spec.is_paragraph (cells_at (drop (k + 1) ts))) (sym h ∙ holds)) ∙ i

pub paragraph_failed : (ts : List Simple) (k : ℕ) (t : Simple) (b whole : Bool) → k < length ts
    → t ≡ get_or ts k t
    → has roles.is_cell (simple_of t) ≡ true → b ≡ spec.is_paragraph (node_at t) → b ≡ false
    → list_all spec.is_paragraph (cells_at (drop k ts)) ≡ whole → false ≡ whole
paragraph_failed ts k t b whole l e cell h fails i =
    sym (ap (list_all spec.is_paragraph) (cells_next ts k t l e cell)
    ∙ ap (λ c. c && list_all spec.is_paragraph (cells_at (drop (k + 1) ts))) (sym h ∙ fails)) ∙ i

pub cell_made : (made new : List declared.Cell) (x : declared.Cell) (c : grid.Cell) (rest all : List grid.Cell)
    → new ≡ made ++ x ∷ [] → grids.cell_of x ≡ c → all ≡ c ∷ rest
    → map grids.cell_of new ++ rest ≡ map grids.cell_of made ++ all
cell_made made new x c rest all h is e =
    ap (λ xs. map grids.cell_of xs ++ rest) h
    ∙ ap (λ xs. xs ++ rest) (map_push grids.cell_of made x)
    ∙ append_assoc (map grids.cell_of made) (grids.cell_of x ∷ []) rest
    ∙ ap (λ y. map grids.cell_of made ++ y ∷ rest) is
    ∙ sym (ap (λ xs. map grids.cell_of made ++ xs) e)

pub cell_with : (context : Context) (t : Simple) (content : List Simple) (line : documents.Inlines) (columns rows : ℕ)
    (is_header : Bool) (a : Alignment) → simples_of content ≡ content_of (simple_of t)
    → line ≡ spec.line_of (spec.flow_all (nodes_at content) (in_one_line context))
    → columns ≡ column_span (spec.attributes_of (simple_of t))
    → rows ≡ row_span (spec.attributes_of (simple_of t))
    → is_header ≡ has roles.is_header_cell (simple_of t) → a ≡ alignment (spec.attributes_of (simple_of t))
    → ◌≡◌ {A = grid.Cell}
    (record { content = line; columns = columns; rows = rows; is_header = is_header; alignment = a })
    (spec.cell_of context (node_at t))
cell_with context t content line columns rows is_header a e hl hc hr hh ha =
    let tree = sym (tree_is (simple_of t)) in
    let l : line ≡ spec.line_of ((node_at t).content (in_one_line context)) =
    hl ∙ ap spec.line_of (content_is (simple_of t) content (in_one_line context) e) in
    let k : columns ≡ column_span (spec.attributes_of (node_at t).tree) =
    hc ∙ ap (λ x. column_span (spec.attributes_of x)) tree in
    let r : rows ≡ row_span (spec.attributes_of (node_at t).tree) =
    hr ∙ ap (λ x. row_span (spec.attributes_of x)) tree in
    let h : is_header ≡ has roles.is_header_cell (node_at t).tree = hh ∙ ap (has roles.is_header_cell) tree in
    let b : a ≡ alignment (spec.attributes_of (node_at t).tree) =
    ha ∙ ap (λ x. alignment (spec.attributes_of x)) tree in
    (λ i. record { content = l i; columns = k i; rows = r i; is_header = h i; alignment = b i })

-- ---- a table between its captions

pub no_row_is : (ts : List Simple) → prefix_len tables.is_no_row (map simple_of ts) ≡ spec.before_row (nodes_at ts)
no_row_is ts = prefix_alike tables.is_no_row (λ (n : Node). tables.is_no_row n.tree) simple_of node_at
    (λ t. sym (ap tables.is_no_row (tree_is (simple_of t)))) ts

module _ (ts : List Simple) (len : ℕ) (is : len ≡ prefix_len tables.is_no_row (map simple_of ts)) where
  pub nodes_before : nodes_at (take len ts) ≡ take (spec.before_row (nodes_at ts)) (nodes_at ts)
  nodes_before = sym (take-map node_at len ts) ∙ ap (λ k. take k (nodes_at ts)) (is ∙ no_row_is ts)

  pub nodes_behind : nodes_at (drop len ts) ≡ drop (spec.before_row (nodes_at ts)) (nodes_at ts)
  nodes_behind = sym (drop-map node_at len ts) ∙ ap (λ k. drop k (nodes_at ts)) (is ∙ no_row_is ts)

pub fed_between : (w a b c d f g : Writing) (before rows behind : List Part)
    → a ≡ fed_all w before → b ≡ fed a edge → c ≡ fed_all b rows → d ≡ fed c edge
    → f ≡ fed_all d behind → g
    ≡ fed f edge
    → g ≡ fed_all w (before ++ edge ∷ rows ++ edge ∷ behind ++ edge ∷ [])
fed_between w a b c d f g before rows behind ha hb hc hd hf hg =
    fed_after w f g ((before ++ edge ∷ rows) ++ edge ∷ behind) edge
    (fed_both w c f (before ++ edge ∷ rows) (edge ∷ behind)
    (fed_both w a c before (edge ∷ rows) ha (hc ∙ ap (λ x. fed_all x rows) hb))
    (hf ∙ ap (λ x. fed_all x behind) hd))
    hg
