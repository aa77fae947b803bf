-- Tables keep the wrappers of their captions and cells, in order.
use Rattle.std.proofs.Common.{◌≡◌, ℕ, suc, ◌+◌, Bool, true, false, cond, not, ◌&&◌, ◌||◌, List, [], ◌∷◌, ◌++◌, length}
use Rattle.std.proofs.Common.{map, take, drop, filter, refl, sym, ap, ◌∙◌, append_assoc, subst, Option, Some, None}
use Rattle.std.proofs.Common.{arith}
use Rattle.std.specs.Prelude.{if◌then◌else◌, nat_lt, is_some}
use Rattle.std.specs.List.{flat_map, list_all, prefix_len}
use Rattle.std.proofs.lemmas.Bool.Decides.{nat_tests}
use Rattle.std.proofs.lemmas.List.{append-nil}
use Rattle.std.proofs.lemmas.Grind.{flat_map-append}
use Rattle.htmd_lexical.specs.Characters.{space}
use Rattle.htmd_lexical.specs.AttributePairs.{AttributePair}
use Rattle.htmd_lexical.proofs.Cases.{test}
use Rattle.htmd_document.specs.Documents.{Block}
use Rattle.htmd_shown.specs.declared.facts.Facts.{Facts}
use Rattle.htmd_shown.specs.declared.role.Role.{Role}
use Rattle.htmd_shown.specs.declared.role.Role.TheVariants as role
use Rattle.htmd_shown.specs.AllTexts.{all_text_among}
use Rattle.htmd_shown.specs.Kinds.{has, is_blank, are_blank, content_of}
use Rattle.htmd_shown.specs.Roles as roles
use Rattle.htmd_shown.specs.Showings.{show}
use Rattle.htmd_shown.specs.SimpleTrees.{Simple, text, image, formula, embedded, anchor, element, Simples, none, more}
use Rattle.htmd_flow.specs.declared.table_form.Layout.TheVariants as layout
use Rattle.htmd_flow.specs.declared.table_form.TablePart.{TablePart}
use Rattle.htmd_flow.specs.Contexts.{Context, in_one_line, apart, has_elements}
use Rattle.htmd_flow.specs.Flows.{around_node}
use Rattle.htmd_flow.specs.Flows.{Node, Row, node_of, nodes_of, flow_all, is_cell, no_part, part_of, leads_to, row_with}
use Rattle.htmd_flow.specs.Flows.{rows_if, rows_among, rows_at, rows_of_table, is_grid, is_grid_by, is_grid_of}
use Rattle.htmd_flow.specs.Flows.{before_row, caption_in_one_line, captions_in_one_line, cell_in_one_line}
use Rattle.htmd_flow.specs.Flows.{row_in_one_line, rows_in_one_line, grid_in_one_line, caption_apart, captions_among}
use Rattle.htmd_flow.specs.Flows.{cell_of, row_of, filled_rows, block_part, table_block, grid_inside, table_parts}
use Rattle.htmd_flow.specs.Grids as grid
use Rattle.htmd_flow.specs.Levels.{list_of}
use Rattle.htmd_flow.specs.Parts.{Part, run, edge}
use Rattle.htmd_flow.specs.Tables.{is_cell_or_nothing, is_row_or_nothing, is_table_child, holds_table_alone}
use Rattle.htmd_flow.specs.Tables.{is_no_caption}
use Rattle.htmd_flow.specs.Tables.{is_no_row, from_caption, has_captions_around, layout_by_cells, has_head}
use Rattle.htmd_flow.specs.Tables.{cells_in}
use Rattle.htmd_law_documents.proofs.VisibleLemmas.{both-true}
use Rattle.htmd_law_documents.proofs.PiecesLemmas.{space-shows}
use Rattle.htmd_law_documents.proofs.CodeLemmas.{blank-seen}
use Rattle.htmd_law_documents.proofs.ElementLemmas.{false-true, true-false, not-true, blank-text}
use Rattle.htmd_law_documents.proofs.Readers.{Reader, unseen, read_cells, read_tree, read_trees, read_around}
use Rattle.htmd_law_documents.proofs.Readers.{is_of_table, holds_anchors, none-held, none-in-table, IsFit, AreFit}
use Rattle.htmd_law_documents.proofs.Readers.{all-fit-sound}
use Rattle.htmd_law_documents.proofs.WrapperPartsLemmas.{Keep, keep-nil, keep-append, keep-same, keep-edge, keep-edges}
use Rattle.htmd_law_documents.proofs.WrapperPartsLemmas.{keep-after, keep-apart, keep-run, keep-whole, line-keeps}
use Rattle.htmd_law_documents.proofs.WrapperGridLemmas.{wrappers_of_rows, grid-wrappers, wrappers_of_option}
use Rattle.htmd_law_documents.proofs.WrapperGridLemmas.{table-wrappers}
use Rattle.htmd_law_documents.proofs.WrapperKindLemmas.{caption-inner, part-within, row-within, cell-within, blank-read}
use Rattle.htmd_law_documents.proofs.WrapperNodesLemmas.{shallow, wrappers_in, nodes_wrapped, Agree, NodeKeeps}
use Rattle.htmd_law_documents.proofs.WrapperNodesLemmas.{NodesKeep, keep-either, keep-in, flow-keeps, untitled}
use Rattle.htmd_law_documents.proofs.WrapperNodesLemmas.{no-elements}

one_more : (n : ℕ) → 1 + n ≡ suc n
one_more n = omega arith

-- where all is one line nothing changes
pub flat-same : (c : Context) → c.is_flat ≡ true → in_one_line c ≡ c
flat-same c e = ap (λ b. record c { is_flat = b }) (sym e)

-- ---- roles of tables

pub cell-untitled : (r : Role) → roles.is_cell r ≡ true → roles.is_title r ≡ false
cell-untitled role.Cell e = refl
cell-untitled role.HeaderCell e = refl
cell-untitled r e = false-true e

pub part-no-row : (r : Role) → roles.is_part r ≡ true → roles.is_row r ≡ false
part-no-row role.TableHead e = refl
part-no-row role.TableBody e = refl
part-no-row r e = false-true e

pub row-of-table : (r : Role) → roles.is_row r ≡ true → is_of_table r ≡ true
row-of-table role.Row e = refl
row-of-table r e = false-true e

pub part-of-table : (r : Role) → roles.is_part r ≡ true → is_of_table r ≡ true
part-of-table role.TableHead e = refl
part-of-table role.TableBody e = refl
part-of-table r e = false-true e

-- neither a row nor a part
record IsNeither (t : Simple) : Type 0 where
  row : has roles.is_row t ≡ false
  part : has roles.is_part t ≡ false

role-neither : (r : Role) → roles.is_row_or_part r ≡ false
    → (roles.is_row r ≡ false) × (roles.is_part r ≡ false)
role-neither role.Row e = true-false e
role-neither role.TableHead e = true-false e
role-neither role.TableBody e = true-false e
role-neither r e = (refl, refl)

neither-here : (t : Simple) → is_no_row t ≡ true → IsNeither t
neither-here (element id r facts attributes content) e =
    let both = role-neither r (not-true (roles.is_row_or_part r) e) in record { row = both.0; part = both.1 }
neither-here (text s) e = record { row = refl; part = refl }
neither-here (image address attributes) e = record { row = refl; part = refl }
neither-here (formula tex is_alone attributes) e = record { row = refl; part = refl }
neither-here (embedded id address title attributes anchors) e = record { row = refl; part = refl }
neither-here (anchor id) e = record { row = refl; part = refl }

no-rows-at : (t : Simple) → IsNeither t → rows_at no_part t ≡ []
unfolding node_of
no-rows-at (element id r facts attributes content) h =
    let t : Simple = element id r facts attributes content in
    ap (λ b. cond b (row_with no_part (nodes_of content))
    (cond (leads_to no_part t) (rows_among (part_of t) content) []))
    h.row
    ∙ ap (λ b. cond b (rows_among (part_of t) content) []) h.part
no-rows-at (text s) h = refl
no-rows-at (image address attributes) h = refl
no-rows-at (formula tex is_alone attributes) h = refl
no-rows-at (embedded id address title attributes anchors) h = refl
no-rows-at (anchor id) h = refl

-- ---- nodes

pub node-tree : (t : Simple) → (node_of t).tree ≡ t
unfolding node_of
node-tree (text s) = refl
node-tree (image address attributes) = refl
node-tree (formula tex is_alone attributes) = refl
node-tree (embedded id address title attributes anchors) = refl
node-tree (anchor id) = refl
node-tree (element id r facts attributes content) = refl

module _ (R : Reader) where
  pub nodes-all : (ts : Simples) (c : Context) → nodes_wrapped R (nodes_of ts) c ≡ read_trees R ts c false
  unfolding node_of
  nodes-all none c = refl
  nodes-all (more t ts) c =
      ap (λ x. read_tree R x c false ++ nodes_wrapped R (nodes_of ts) c) (node-tree t)
      ∙ ap (λ xs. read_tree R t c false ++ xs) (nodes-all ts c)

  -- no anchor stands right in a table, a part of one, or a row
  pub nowhere : (here : Bool) (r : Role) (facts : Facts) (content : Simples) → is_of_table r ≡ true
      → AreFit R (holds_anchors here r facts content) content → AreFit R false content
  nowhere here r facts content e u =
      subst (λ (b : Bool). AreFit R b content) (none-in-table here r facts content e) u

  -- nothing is taken from what is blank
  mutual
    blank-unwrapped : (t : Simple) → IsFit R false t → is_blank t ≡ true → (c : Context) (g : Bool)
        → read_tree R t c g ≡ []
    blank-unwrapped (text s) u e c g =
        unseen R (map (read_around R) c.around) c.is_code s (record { utf8 = u; is = blank-seen s e })
    blank-unwrapped (image address attributes) u e c g = false-true e
    blank-unwrapped (formula tex is_alone attributes) u e c g = false-true e
    blank-unwrapped (embedded id address title attributes anchors) u e c g = false-true e
    blank-unwrapped (anchor id) u e c g = u refl
    blank-unwrapped (element id r facts attributes content) u e c g =
        let known : facts.is_blank ≡ true = (both-true (not (roles.is_void r)) facts.is_blank e).1 in
        let blank : are_blank content ≡ true = u.0.blank known in
        let unplaced : holds_anchors false r facts content ≡ false =
        none-held r facts content (ap (λ b. not b && show true content) known) in
        blank-read R id facts attributes (all_text_among content) (is_grid_of content) (read_trees R content)
        (around_node (element id r facts attributes content) c) g r
        (blank-text content (all-fit-sound R (holds_anchors false r facts content) content u.1) blank)
        (λ d h. blanks-unwrapped content (subst (λ (b : Bool). AreFit R b content) unplaced u.1) blank d h)

    blanks-unwrapped : (ts : Simples) → AreFit R false ts → are_blank ts ≡ true → (c : Context) (g : Bool)
        → read_trees R ts c g ≡ []
    blanks-unwrapped none u e c g = refl
    blanks-unwrapped (more t ts) u e c g =
        let parts = both-true (is_blank t) (are_blank ts) e in
        ap (λ xs. xs ++ read_trees R ts c g) (blank-unwrapped t u.0 parts.0 c g)
        ∙ blanks-unwrapped ts u.1 parts.1 c g

  -- ---- cells

  -- the cells of a row, each in one line
  abbrev cell_wrapped : Context → Node → List R.Seen
  cell_wrapped c n = wrappers_in R n.tree (in_one_line c)

  abbrev cells_wrapped : List Node → Context → List R.Seen
  cells_wrapped cells c = flat_map (cell_wrapped c) cells

  abbrev row_wrapped : Context → Row → List R.Seen
  row_wrapped c row = cells_wrapped row.cells c

  abbrev rows_wrapped : List Row → Context → List R.Seen
  rows_wrapped rows c = flat_map (row_wrapped c) rows

  cell-wrappers : (t : Simple) (c : Context) → has roles.is_cell t ≡ true
      → read_tree R t c true ≡ cell_wrapped c (node_of t)
  cell-wrappers t c e = here t e ∙ ap (λ x. wrappers_in R x (in_one_line c)) (sym (node-tree t))
    where
      here : (u : Simple) → has roles.is_cell u ≡ true → read_tree R u c true ≡ wrappers_in R u (in_one_line c)
      here (text s) e = false-true e
      here (image address attributes) e = false-true e
      here (formula tex is_alone attributes) e = false-true e
      here (embedded id address title attributes anchors) e = false-true e
      here (anchor id) e = false-true e
      here (element id r facts attributes content) e =
          let t : Simple = element id r facts attributes content in
          cell-within R id facts attributes (all_text_among content) (is_grid_of content) (read_trees R content)
          (around_node t c) true r e
          ∙ ap (λ d. wrappers_in R t (in_one_line d)) (untitled roles.is_cell cell-untitled t c e)

  caption-wrappers : (t : Simple) (c : Context) → has_elements c ≡ false → has roles.is_caption t ≡ true
      → read_tree R t c true ≡ wrappers_in R (node_of t).tree c
  caption-wrappers t c plain e = here t e ∙ ap (λ x. wrappers_in R x c) (sym (node-tree t))
    where
      here : (u : Simple) → has roles.is_caption u ≡ true → read_tree R u c true ≡ wrappers_in R u c
      here (text s) e = false-true e
      here (image address attributes) e = false-true e
      here (formula tex is_alone attributes) e = false-true e
      here (embedded id address title attributes anchors) e = false-true e
      here (anchor id) e = false-true e
      here (element id r facts attributes content) e =
          let t : Simple = element id r facts attributes content in
          caption-inner R r e id facts attributes (all_text_among content) (is_grid_of content) (read_trees R content)
          (around_node t c) true
          ∙ ap (wrappers_in R t) (no-elements t c plain)

  module _ (addr : ℕ → R.Wrap) where
    -- ---- trees of which all nodes keep their wrappers

    abbrev mutual
      pub KeptTree : Simple → Type 0
      KeptTree (text s) = NodeKeeps R addr (node_of (text s))
      KeptTree (image address attributes) = NodeKeeps R addr (node_of (image address attributes))
      KeptTree (formula tex is_alone attributes) = NodeKeeps R addr (node_of (formula tex is_alone attributes))
      KeptTree (embedded id address title attributes anchors) =
          NodeKeeps R addr (node_of (embedded id address title attributes anchors))
      KeptTree (anchor id) = NodeKeeps R addr (node_of (anchor id))
      KeptTree (element id r facts attributes content) =
          NodeKeeps R addr (node_of (element id r facts attributes content)) × KeptTrees content

      pub KeptTrees : Simples → Type 0
      KeptTrees none = Unit {0}
      KeptTrees (more t ts) = KeptTree t × KeptTrees ts

    pub kept-node : (t : Simple) → KeptTree t → NodeKeeps R addr (node_of t)
    kept-node (text s) k = k
    kept-node (image address attributes) k = k
    kept-node (formula tex is_alone attributes) k = k
    kept-node (embedded id address title attributes anchors) k = k
    kept-node (anchor id) k = k
    kept-node (element id r facts attributes content) k = k.0

    pub kept-nodes : (ts : Simples) → KeptTrees ts → NodesKeep R addr (nodes_of ts)
    unfolding node_of
    kept-nodes none k = tt
    kept-nodes (more t ts) k = (kept-node t k.0, kept-nodes ts k.1)

    -- ---- cells of a row

    record CellsKeep (cells : List Node) (cs : List R.Seen) (c : Context) : Type 0 where
      nodes : NodesKeep R addr cells
      is : cs ≡ cells_wrapped cells c

    cells-keep : (ts : Simples) → KeptTrees ts → AreFit R false ts
        → list_all (is_cell_or_nothing false) (list_of ts) ≡ true
        → (c : Context) → CellsKeep (filter is_cell (nodes_of ts)) (read_trees R ts c true) c
    unfolding node_of
    cells-keep none k u e c = record { nodes = tt; is = refl }
    cells-keep (more t ts) k u e c =
        let parts = both-true ((is_cell_or_nothing false) t) (list_all (is_cell_or_nothing false) (list_of ts)) e in
        let cells : List Node = filter is_cell (nodes_of ts) in
        let rest : CellsKeep cells (read_trees R ts c true) c = cells-keep ts k.1 u.1 parts.1 c in
        let n : Node = node_of t in
        let cs : List R.Seen = read_tree R t c true ++ read_trees R ts c true in
        let kind : is_cell n ≡ has roles.is_cell t = ap (has roles.is_cell) (node-tree t) in
        test (has roles.is_cell t)
        (λ i. subst (λ (b : Bool). CellsKeep (cond b (n ∷ cells) cells) cs c) (sym (kind ∙ i))
        (record {
          nodes = (kept-node t k.0, rest.nodes);
          is = ap (λ xs. xs ++ read_trees R ts c true) (cell-wrappers t c i)
              ∙ ap (λ xs. cell_wrapped c n ++ xs) rest.is;
        }))
        (λ i. subst (λ (b : Bool). CellsKeep (cond b (n ∷ cells) cells) cs c) (sym (kind ∙ i))
        (record {
          nodes = rest.nodes;
          is = ap (λ xs. xs ++ read_trees R ts c true)
              (blank-unwrapped t u.0 (sym (ap (λ b. b || is_blank t) i) ∙ parts.0) c true) ∙ rest.is;
        }))

    -- ---- rows

    abbrev RowsKeep : List Row → Type 0
    RowsKeep [] = Unit {0}
    RowsKeep (row ∷ rows) = NodesKeep R addr row.cells × RowsKeep rows

    rows-append : (xs ys : List Row) → RowsKeep xs → RowsKeep ys → RowsKeep (xs ++ ys)
    rows-append [] ys g h = h
    rows-append (x ∷ xs) ys g h = (g.0, rows-append xs ys g.1 h)

    module _ (c : Context) (a : Agree R addr c) (plain : has_elements c ≡ false) where
      abbrev pub s : Context
      s = shallow c

      -- these rows are all that is said
      record RowsRead (rows : List Row) (cs : List R.Seen) : Type 0 where
        nodes : RowsKeep rows
        is : cs ≡ rows_wrapped rows s

      both-read : (xs ys : List Row) (cs ds : List R.Seen) → RowsRead xs cs → RowsRead ys ds
          → RowsRead (xs ++ ys) (cs ++ ds)
      both-read xs ys cs ds g h = record {
        nodes = rows-append xs ys g.nodes h.nodes;
        is = ap (λ t. t ++ ds) g.is ∙ (ap (λ t. rows_wrapped xs s ++ t) h.is
            ∙ sym (flat_map-append (row_wrapped s) xs ys));
      }

      nothing-read : (cs : List R.Seen) → cs ≡ [] → RowsRead [] cs
      nothing-read cs e = record { nodes = tt; is = e }

      -- an element that is a row of cells, or blank and no row
      row-read : (p : TablePart) (id : ℕ) (r : Role) (facts : Facts) (attributes : List AttributePair)
          (content : Simples)
          → KeptTrees content → IsFit R false (element id r facts attributes content)
          → (is_row_or_nothing false) (element id r facts attributes content) ≡ true
          → leads_to p (element id r facts attributes content) ≡ false
          → RowsRead (rows_if p (element id r facts attributes content) (nodes_of content)
          (rows_among (part_of (element id r facts attributes content)) content))
          (read_tree R (element id r facts attributes content) s true)
      row-read p id r facts attributes content k u e l =
          let t : Simple = element id r facts attributes content in
          let cs : List R.Seen = read_tree R t s true in
          let row : List Row = row_with p (nodes_of content) in
          let below : List Row = rows_among (part_of t) content in
          test (roles.is_row r)
          (λ w. subst (λ (b : Bool). RowsRead (cond b row (cond (leads_to p t) below [])) cs) (sym w)
          (let cells : CellsKeep (filter is_cell (nodes_of content)) (read_trees R content s true) s =
          cells-keep content k
          (nowhere false r facts content (row-of-table r w) u.1)
          (sym (ap (λ b. cond b (list_all (is_cell_or_nothing false) (list_of content)) (is_blank t)) w) ∙ e) s in
          record {
            nodes = (cells.nodes, tt);
            is = row-within R id facts attributes (all_text_among content) (is_grid_of content) (read_trees R content)
                (around_node t s) true r w
                ∙ ap (λ d. read_trees R content d true) (no-elements t s plain)
                ∙ (cells.is ∙ sym (append-nil (cells_wrapped (filter is_cell (nodes_of content)) s)));
          }))
          (λ w. subst (λ (b : Bool). RowsRead (cond b row (cond (leads_to p t) below [])) cs) (sym w)
          (subst (λ (b : Bool). RowsRead (cond b below []) cs) (sym l)
          (nothing-read cs (blank-unwrapped t u
          (sym (ap (λ b. cond b (list_all (is_cell_or_nothing false) (list_of content)) (is_blank t)) w) ∙ e) s
          true))))

      -- among the nodes of a part
      rows-in-part : (ts : Simples) (p : TablePart) → is_some p.id ≡ true → KeptTrees ts → AreFit R false ts
          → list_all (is_row_or_nothing false) (list_of ts) ≡ true
          → RowsRead (rows_among p ts) (read_trees R ts s true)
      unfolding node_of
      rows-in-part none p i k u e = nothing-read [] refl
      rows-in-part (more t ts) p i k u e =
          let parts = both-true ((is_row_or_nothing false) t) (list_all (is_row_or_nothing false) (list_of ts)) e in
          both-read (rows_at p t) (rows_among p ts) (read_tree R t s true) (read_trees R ts s true)
          (here t k.0 u.0 parts.0) (rows-in-part ts p i k.1 u.1 parts.1)
        where
          here : (t : Simple) → KeptTree t → IsFit R false t → (is_row_or_nothing false) t ≡ true
              → RowsRead (rows_at p t) (read_tree R t s true)
          here (text x) k u e = nothing-read _ (blank-unwrapped (text x) u e s true)
          here (image address attributes) k u e = false-true e
          here (formula tex is_alone attributes) k u e = false-true e
          here (embedded id address title attributes anchors) k u e = false-true e
          here (anchor id) k u e = nothing-read (R.mark id) (u refl)
          here (element id r facts attributes content) k u e =
              row-read p id r facts attributes content k.1 u e
              (ap (λ b. not b && roles.is_part r) i)

      -- a node of a table that is no caption
      table-row : (t : Simple) → KeptTree t → IsFit R false t → (is_table_child false) t ≡ true
          → has roles.is_caption t ≡ false
          → RowsRead (rows_at no_part t) (read_tree R t s true)
      unfolding node_of
      table-row (text x) k u e n = nothing-read _ (blank-unwrapped (text x) u e s true)
      table-row (image address attributes) k u e n = false-true e
      table-row (formula tex is_alone attributes) k u e n = false-true e
      table-row (embedded id address title attributes anchors) k u e n = false-true e
      table-row (anchor id) k u e n = nothing-read (R.mark id) (u refl)
      table-row (element id r facts attributes content) k u e n =
          let t : Simple = element id r facts attributes content in
          let cs : List R.Seen = read_tree R t s true in
          let row : List Row = row_with no_part (nodes_of content) in
          let below : List Row = rows_among (part_of t) content in
          let rows : Bool = list_all (is_row_or_nothing false) (list_of content) in
          let inner : cond (roles.is_part r) rows ((is_row_or_nothing false) t) ≡ true =
          sym (ap (λ b. cond b true (cond (roles.is_part r) rows ((is_row_or_nothing false) t))) n) ∙ e in
          test (roles.is_part r)
          (λ w. subst (λ (b : Bool). RowsRead (cond b row (cond (roles.is_part r) below [])) cs)
          (sym (part-no-row r w))
          (subst (λ (b : Bool). RowsRead (cond b below []) cs) (sym w)
          (let all : RowsRead below (read_trees R content s true) =
          rows-in-part content (part_of t) refl k.1 (nowhere false r facts content (part-of-table r w) u.1)
          (sym (ap (λ b. cond b rows ((is_row_or_nothing false) t)) w) ∙ inner) in
          record {
            nodes = all.nodes;
            is = part-within R id facts attributes (all_text_among content) (is_grid_of content) (read_trees R content)
                (around_node t s) true r w
                ∙ ap (λ d. read_trees R content d true) (no-elements t s plain)
                ∙ all.is;
          })))
          (λ w. row-read no_part id r facts attributes content k.1 u
          (sym (ap (λ b. cond b rows ((is_row_or_nothing false) t)) w) ∙ inner) w)

      -- ---- captions

      -- captions apart, and in one line
      record CaptionsKeep (nodes : List Node) (cs : List R.Seen) : Type 0 where
        blocks : Keep R addr c.is_flat (captions_among nodes c) cs
        line : Keep R addr c.is_flat (captions_in_one_line nodes c) cs

      no-captions : CaptionsKeep [] []
      no-captions = record { blocks = keep-nil R addr c.is_flat; line = keep-nil R addr c.is_flat }

      caption-first : (n : Node) (nodes : List Node) (cs ds : List R.Seen)
          → Keep R addr c.is_flat (caption_apart c n) cs → Keep R addr c.is_flat (caption_in_one_line c n) cs
          → CaptionsKeep nodes ds → CaptionsKeep (n ∷ nodes) (cs ++ ds)
      caption-first n nodes cs ds g h rest = record {
        blocks = keep-append R addr c.is_flat (caption_apart c n) (captions_among nodes c) cs ds g rest.blocks;
        line = keep-append R addr c.is_flat (caption_in_one_line c n) (captions_in_one_line nodes c) cs ds h rest.line;
      }

      -- a node that is no caption is none
      not-caption : (t : Simple) (nodes : List Node) (cs : List R.Seen) → has roles.is_caption t ≡ false
          → CaptionsKeep nodes cs → CaptionsKeep (node_of t ∷ nodes) cs
      not-caption t nodes cs e rest =
          let n : Node = node_of t in
          let k : has roles.is_caption n.tree ≡ false = ap (has roles.is_caption) (node-tree t) ∙ e in
          caption-first n nodes [] cs
          (subst (λ (b : Bool). Keep R addr c.is_flat (cond b (apart (n.content c)) []) []) (sym k)
          (keep-nil R addr c.is_flat))
          (subst (λ (b : Bool). Keep R addr c.is_flat (cond b (n.content c ++ edge ∷ []) []) []) (sym k)
          (keep-nil R addr c.is_flat)) rest

      one-caption : (t : Simple) (nodes : List Node) (cs : List R.Seen) → KeptTree t
          → has roles.is_caption t ≡ true
          → CaptionsKeep nodes cs → CaptionsKeep (node_of t ∷ nodes) (read_tree R t s true ++ cs)
      one-caption t nodes cs kept e rest =
          let n : Node = node_of t in
          let ds : List R.Seen = read_tree R t s true in
          let k : has roles.is_caption n.tree ≡ true = ap (has roles.is_caption) (node-tree t) ∙ e in
          let here : Keep R addr c.is_flat (n.content c) ds =
          keep-same R addr c.is_flat (n.content c) (wrappers_in R n.tree s) ds (sym (caption-wrappers t s plain e))
          ((kept-node t kept).content c a) in
          caption-first n nodes ds cs
          (subst (λ (b : Bool). Keep R addr c.is_flat (cond b (apart (n.content c)) []) ds) (sym k)
          (keep-apart R addr c.is_flat (n.content c) ds here))
          (subst (λ (b : Bool). Keep R addr c.is_flat (cond b (n.content c ++ edge ∷ []) []) ds) (sym k)
          (keep-after R addr c.is_flat (n.content c) (edge ∷ []) ds here (keep-edges R addr c.is_flat))) rest

      -- what is no row, no part and no caption says nothing
      other-unwrapped : (t : Simple) → IsFit R false t → (is_table_child false) t ≡ true
          → has roles.is_caption t ≡ false
          → IsNeither t → read_tree R t s true ≡ []
      other-unwrapped t u e n h =
          let rows : Bool = list_all (is_row_or_nothing false) (list_of (content_of t)) in
          let cells : Bool = list_all (is_cell_or_nothing false) (list_of (content_of t)) in
          blank-unwrapped t u
          (sym (ap (λ b. cond b true (cond (has roles.is_part t) rows (cond (has roles.is_row t) cells (is_blank t))))
          n
          ∙ (ap (λ b. cond b rows (cond (has roles.is_row t) cells (is_blank t))) h.part
          ∙ ap (λ b. cond b cells (is_blank t)) h.row)) ∙ e) s true

      -- a node that is no row and no part, before others
      caption-more : (t : Simple) (nodes : List Node) (cs : List R.Seen) → KeptTree t → IsFit R false t
          → (is_table_child false) t ≡ true → IsNeither t → CaptionsKeep nodes cs
          → CaptionsKeep (node_of t ∷ nodes) (read_tree R t s true ++ cs)
      caption-more t nodes cs k u e h rest = test (has roles.is_caption t)
          (λ n. one-caption t nodes cs k n rest)
          (λ n. subst (λ (ds : List R.Seen). CaptionsKeep (node_of t ∷ nodes) (ds ++ cs))
          (sym (other-unwrapped t u e n h)) (not-caption t nodes cs n rest))

      -- ---- captions alone, rows before captions, and all

      record AreAlone (ts : Simples) : Type 0 where
        captions : CaptionsKeep (nodes_of ts) (read_trees R ts s true)
        rows : rows_of_table ts ≡ []

      alone : (ts : Simples) → KeptTrees ts → AreFit R false ts → (holds_table_alone false) (list_of ts) ≡ true
          → list_all is_no_row (list_of ts) ≡ true → AreAlone ts
      unfolding node_of
      alone none k u e f = record { captions = no-captions; rows = refl }
      alone (more t ts) k u e f =
          let parts = both-true ((is_table_child false) t) ((holds_table_alone false) (list_of ts)) e in
          let others = both-true (is_no_row t) (list_all is_no_row (list_of ts)) f in
          let here : IsNeither t = neither-here t others.0 in
          let rest : AreAlone ts = alone ts k.1 u.1 parts.1 others.1 in
          record {
            captions = caption-more t (nodes_of ts) (read_trees R ts s true) k.0 u.0 parts.0 here rest.captions;
            rows = ap (λ rows. rows ++ rows_of_table ts) (no-rows-at t here) ∙ rest.rows;
          }

      record AreBehind (ts : Simples) : Type 0 where
        nodes : RowsKeep (rows_of_table ts)
        behind : List R.Seen
        captions : CaptionsKeep (nodes_of ts) behind
        is : read_trees R ts s true ≡ rows_wrapped (rows_of_table ts) s ++ behind

      behind-alone : (ts : Simples) → AreAlone ts → AreBehind ts
      behind-alone ts h = record {
        nodes = subst RowsKeep (sym h.rows) tt;
        behind = read_trees R ts s true;
        captions = h.captions;
        is = ap (λ rows. rows_wrapped rows s ++ read_trees R ts s true) (sym h.rows);
      }

      rows-behind : (ts : Simples) → KeptTrees ts → AreFit R false ts
          → (holds_table_alone false) (list_of ts) ≡ true
          → list_all is_no_row (from_caption (list_of ts)) ≡ true → AreBehind ts
      unfolding node_of
      rows-behind none k u e f = record { nodes = tt; behind = []; captions = no-captions; is = refl }
      rows-behind (more t ts) k u e f =
          let parts = both-true ((is_table_child false) t) ((holds_table_alone false) (list_of ts)) e in
          let all : List Simple = t ∷ list_of ts in
          let k1 : ℕ = prefix_len is_no_caption (list_of ts) in
          test (has roles.is_caption t)
          (λ n. behind-alone (more t ts) (alone (more t ts) k u e
          (sym (ap (λ b. list_all is_no_row (drop (cond (not b) (1 + k1) 0) all)) n) ∙ f)))
          (λ n.
          let rest : AreBehind ts = rows-behind ts k.1 u.1 parts.1
          (sym (ap (λ b. list_all is_no_row (drop (cond (not b) (1 + k1) 0) all)) n
          ∙ ap (λ m. list_all is_no_row (drop m all)) (one_more k1)) ∙ f) in
          let here : RowsRead (rows_at no_part t) (read_tree R t s true) = table-row t k.0 u.0 parts.0 n in
          let xs : List R.Seen = rows_wrapped (rows_at no_part t) s in
          let ys : List R.Seen = rows_wrapped (rows_of_table ts) s in
          record {
            nodes = rows-append (rows_at no_part t) (rows_of_table ts) here.nodes rest.nodes;
            behind = rest.behind;
            captions = not-caption t (nodes_of ts) rest.behind n rest.captions;
            is = ap (λ x. x ++ read_trees R ts s true) here.is
                ∙ (ap (λ x. xs ++ x) rest.is
                ∙ (sym (append_assoc xs ys rest.behind)
                ∙ ap (λ x. x ++ rest.behind)
                (sym (flat_map-append (row_wrapped s) (rows_at no_part t) (rows_of_table ts)))));
          })

      -- captions, rows and captions
      record AreAround (ts : Simples) (n : ℕ) : Type 0 where
        before : List R.Seen
        first : CaptionsKeep (take n (nodes_of ts)) before
        nodes : RowsKeep (rows_of_table ts)
        behind : List R.Seen
        last : CaptionsKeep (drop n (nodes_of ts)) behind
        is : read_trees R ts s true ≡ (before ++ rows_wrapped (rows_of_table ts) s) ++ behind

      around-more : (t : Simple) (ts : Simples) (n : ℕ) → KeptTree t → IsFit R false t
          → (is_table_child false) t ≡ true
          → IsNeither t → AreAround ts n → AreAround (more t ts) (suc n)
      unfolding node_of
      around-more t ts n k u e h rest =
          let ds : List R.Seen = read_tree R t s true in
          let rows : List Row = rows_of_table ts in
          let same : rows_at no_part t ++ rows ≡ rows = ap (λ x. x ++ rows) (no-rows-at t h) in
          record {
            before = ds ++ rest.before;
            first = caption-more t (take n (nodes_of ts)) rest.before k u e h rest.first;
            nodes = subst RowsKeep (sym same) rest.nodes;
            behind = rest.behind;
            last = rest.last;
            is = ap (λ x. ds ++ x) rest.is
                ∙ (sym (append_assoc ds (rest.before ++ rows_wrapped rows s) rest.behind)
                ∙ (ap (λ x. x ++ rest.behind) (sym (append_assoc ds rest.before (rows_wrapped rows s)))
                ∙ ap (λ x. ((ds ++ rest.before) ++ rows_wrapped x s) ++ rest.behind) (sym same)));
          }

      rows-around : (ts : Simples) → KeptTrees ts → AreFit R false ts
          → (holds_table_alone false) (list_of ts) ≡ true
          → has_captions_around (list_of ts) ≡ true → AreAround ts (before_row (nodes_of ts))
      unfolding node_of
      rows-around none k u e f = record {
        before = [];
        first = no-captions;
        nodes = tt;
        behind = [];
        last = no-captions;
        is = refl;
      }
      rows-around (more t ts) k u e f =
          let parts = both-true ((is_table_child false) t) ((holds_table_alone false) (list_of ts)) e in
          let all : List Simple = t ∷ list_of ts in
          let k1 : ℕ = prefix_len is_no_row (list_of ts) in
          let m : ℕ = before_row (nodes_of ts) in
          let kind : is_no_row (node_of t).tree ≡ is_no_row t = ap is_no_row (node-tree t) in
          test (is_no_row t)
          (λ n.
          let rest : AreAround ts m = rows-around ts k.1 u.1 parts.1
          (sym (ap (λ b. list_all is_no_row (from_caption (drop (cond b (1 + k1) 0) all))) n
          ∙ ap (λ j. list_all is_no_row (from_caption (drop j all))) (one_more k1)) ∙ f) in
          subst (AreAround (more t ts))
          (sym (ap (λ b. cond b (1 + m) 0) (kind ∙ n) ∙ one_more m))
          (around-more t ts m k.0 u.0 parts.0 (neither-here t n) rest))
          (λ n.
          let here : AreBehind (more t ts) = rows-behind (more t ts) k u e
          (sym (ap (λ b. list_all is_no_row (from_caption (drop (cond b (1 + k1) 0) all))) n) ∙ f) in
          subst (AreAround (more t ts)) (sym (ap (λ b. cond b (1 + m) 0) (kind ∙ n)))
          (record {
            before = [];
            first = no-captions;
            nodes = here.nodes;
            behind = here.behind;
            last = here.captions;
            is = here.is;
          }))

      -- ---- in one line

      gap-keeps : Keep R addr c.is_flat (run (space ∷ []) c.around false ∷ []) []
      gap-keeps =
          keep-same R addr c.is_flat (run (space ∷ []) c.around false ∷ []) _ []
          (unseen R (map (read_around R) c.around) false (space ∷ []) space-shows)
          (keep-run R addr c.is_flat (space ∷ []) c.around false space-shows.utf8 a)

      line-cells : (cells : List Node) → NodesKeep R addr cells → c.is_flat ≡ true
          → Keep R addr c.is_flat (flat_map (cell_in_one_line c) cells) (cells_wrapped cells s)
      line-cells [] h e = keep-nil R addr c.is_flat
      line-cells (n ∷ cells) h e =
          let gap : List Part = run (space ∷ []) c.around false ∷ [] in
          keep-append R addr c.is_flat (n.content c ++ gap) (flat_map (cell_in_one_line c) cells) (cell_wrapped s n)
          (cells_wrapped cells s)
          (keep-after R addr c.is_flat (n.content c) gap (cell_wrapped s n)
          (keep-same R addr c.is_flat (n.content c) (wrappers_in R n.tree s) (cell_wrapped s n)
          (ap (wrappers_in R n.tree) (sym (flat-same s e))) (h.0.content c a)) gap-keeps)
          (line-cells cells h.1 e)

      line-rows : (rows : List Row) → RowsKeep rows → c.is_flat ≡ true
          → Keep R addr c.is_flat (rows_in_one_line rows c) (rows_wrapped rows s)
      line-rows [] h e = keep-nil R addr c.is_flat
      line-rows (row ∷ rows) h e =
          keep-append R addr c.is_flat (row_in_one_line c row) (rows_in_one_line rows c) (row_wrapped s row)
          (rows_wrapped rows s)
          (keep-after R addr c.is_flat (flat_map (cell_in_one_line c) row.cells) (edge ∷ []) (row_wrapped s row)
          (line-cells row.cells h.0 e) (keep-edges R addr c.is_flat))
          (line-rows rows h.1 e)

      one-line-keeps : (ts : Simples) → AreAround ts (before_row (nodes_of ts)) → c.is_flat ≡ true
          → Keep R addr c.is_flat (grid_in_one_line (nodes_of ts) (rows_of_table ts) c) (read_trees R ts s true)
      one-line-keeps ts all e =
          let m : ℕ = before_row (nodes_of ts) in
          let first : List Part = captions_in_one_line (take m (nodes_of ts)) c in
          let rows : List Part = rows_in_one_line (rows_of_table ts) c in
          let last : List Part = captions_in_one_line (drop m (nodes_of ts)) c in
          let said : List R.Seen = rows_wrapped (rows_of_table ts) s in
          keep-same R addr c.is_flat (first ++ rows ++ last) ((all.before ++ said) ++ all.behind)
          (read_trees R ts s true)
          (sym all.is)
          (keep-append R addr c.is_flat (first ++ rows) last (all.before ++ said) all.behind
          (keep-append R addr c.is_flat first rows all.before said all.first.line
          (line-rows (rows_of_table ts) all.nodes e))
          all.last.line)

      -- ---- the grid

      row-kept : (cells : List Node) → NodesKeep R addr cells
          → read_cells R (map (λ (x : grid.Cell). x.content) (map (cell_of c) cells)) ≡ cells_wrapped cells s
      row-kept [] h = refl
      row-kept (n ∷ cells) h =
          ap (λ t. t ++ read_cells R (map (λ (x : grid.Cell). x.content) (map (cell_of c) cells)))
          (line-keeps R addr (n.content (in_one_line c)) (cell_wrapped s n) (h.0.content (in_one_line c) a))
          ∙ ap (λ t. cell_wrapped s n ++ t) (row-kept cells h.1)

      rows-kept : (rows : List Row) → RowsKeep rows
          → wrappers_of_rows R (map grid.contents_of (map (row_of c) rows)) ≡ rows_wrapped rows s
      rows-kept [] h = refl
      rows-kept (row ∷ rows) h =
          ap (λ t. t ++ wrappers_of_rows R (map grid.contents_of (map (row_of c) rows))) (row-kept row.cells h.0)
          ∙ ap (λ t. row_wrapped s row ++ t) (rows-kept rows h.1)

      -- rows without cells say nothing
      either-filled : (cells : List grid.Cell) (row : grid.Row) (rows : List grid.Row) → row.cells ≡ cells
          → wrappers_of_rows R (map grid.contents_of (cond (nat_lt 0 (length cells)) (row ∷ rows) rows))
          ≡ read_cells R (map (λ (x : grid.Cell). x.content) cells) ++ wrappers_of_rows R (map grid.contents_of rows)
      either-filled [] row rows e =
          ap (λ b. wrappers_of_rows R (map grid.contents_of (cond b (row ∷ rows) rows))) nothing
        where
          nothing : nat_lt 0 0 ≡ false
          nothing = grind (arith, nat_tests)
      either-filled (x ∷ cells) row rows e =
          ap (λ b. wrappers_of_rows R (map grid.contents_of (cond b (row ∷ rows) rows))) (some (length cells))
          ∙ ap (λ xs. read_cells R (map (λ (y : grid.Cell). y.content) xs)
          ++ wrappers_of_rows R (map grid.contents_of rows)) e
        where
          some : (n : ℕ) → nat_lt 0 (suc n) ≡ true
          some n = grind (arith, nat_tests)

      filled-wrappers : (rows : List grid.Row)
          → wrappers_of_rows R (map grid.contents_of (filled_rows rows))
          ≡ wrappers_of_rows R (map grid.contents_of rows)
      filled-wrappers [] = refl
      filled-wrappers (row ∷ rows) =
          either-filled row.cells row (filled_rows rows) refl
          ∙ ap (λ t. read_cells R (grid.contents_of row) ++ t) (filled-wrappers rows)

      of-rows : (rows : List grid.Row)
          → wrappers_of_option R (grid.table_of_rows rows) ≡ wrappers_of_rows R (map grid.contents_of rows)
      of-rows [] = refl
      of-rows (first ∷ rows) =
          table-wrappers R (grid.alignments_of first) (grid.begins_with_header first) (grid.grid (first ∷ rows))
          ∙ grid-wrappers R (first ∷ rows)

      grid-kept : (rows : List Row) → RowsKeep rows
          → wrappers_of_option R (table_block rows c) ≡ rows_wrapped rows s
      grid-kept rows h =
          of-rows (filled_rows (map (row_of c) rows))
          ∙ (filled-wrappers (map (row_of c) rows) ∙ rows-kept rows h)

      block-keeps : (o : Option Block) (cs : List R.Seen) → wrappers_of_option R o ≡ cs
          → Keep R addr false (block_part o) cs
      block-keeps None cs h = keep-same R addr false [] [] cs h (keep-nil R addr false)
      block-keeps (Some b) cs h = keep-whole R addr b cs h

      grid-keeps : (ts : Simples) → AreAround ts (before_row (nodes_of ts)) → c.is_flat ≡ false
          → Keep R addr c.is_flat (grid_inside (nodes_of ts) (rows_of_table ts) c) (read_trees R ts s true)
      grid-keeps ts all flat =
          let m : ℕ = before_row (nodes_of ts) in
          let first : List Part = captions_among (take m (nodes_of ts)) c in
          let block : List Part = block_part (table_block (rows_of_table ts) c) in
          let last : List Part = captions_among (drop m (nodes_of ts)) c in
          let said : List R.Seen = rows_wrapped (rows_of_table ts) s in
          keep-same R addr c.is_flat (first ++ edge ∷ block ++ edge ∷ last ++ edge ∷ [])
          ((all.before ++ said) ++ all.behind) (read_trees R ts s true) (sym all.is)
          (keep-after R addr c.is_flat (first ++ edge ∷ block ++ edge ∷ last) (edge ∷ [])
          ((all.before ++ said) ++ all.behind)
          (keep-append R addr c.is_flat (first ++ edge ∷ block) (edge ∷ last) (all.before ++ said) all.behind
          (keep-append R addr c.is_flat first (edge ∷ block) all.before said all.first.blocks
          (keep-edge R addr c.is_flat block said
          (keep-in R addr c.is_flat false block said flat
          (block-keeps (table_block (rows_of_table ts) c) said (grid-kept (rows_of_table ts) all.nodes)))))
          (keep-edge R addr c.is_flat last all.behind all.last.blocks))
          (keep-edges R addr c.is_flat))

      -- ---- a table

      -- a table of rows and columns holds captions and rows alone, in order
      grid-form : (ts : List Simple) (rows : List Row) → is_grid ts rows ≡ true
          → (has_captions_around ts && (holds_table_alone false) ts) ≡ true
      grid-form ts rows e = test (has_captions_around ts && (holds_table_alone false) ts)
          (λ h. h)
          (λ h. false-true (sym (ap (λ b. is_grid_by
          (cond b (layout_by_cells (has_head ts) (cells_in ts)) layout.Page) rows) h) ∙ e))

      keep-choice : (b : Bool) (ps qs : List Part) (cs : Bool → List R.Seen)
          → (b ≡ true → Keep R addr c.is_flat ps (cs true))
          → (b ≡ false → Keep R addr c.is_flat qs (cs false)) → Keep R addr c.is_flat (cond b ps qs) (cs b)
      keep-choice true ps qs cs g h = g refl
      keep-choice false ps qs cs g h = h refl

      pub table-keeps : (content : Simples) → KeptTrees content → AreFit R false content
          → Keep R addr c.is_flat (table_parts (list_of content) (nodes_of content) (rows_of_table content) c)
          (read_trees R content s (is_grid_of content))
      table-keeps content k u =
          let ts : List Simple = list_of content in
          let nodes : List Node = nodes_of content in
          let rows : List Row = rows_of_table content in
          let cs : List R.Seen = read_trees R content s true in
          keep-choice (is_grid ts rows)
          (edge ∷ (if c.is_flat then grid_in_one_line nodes rows c else grid_inside nodes rows c))
          (apart (flow_all nodes c)) (λ b. read_trees R content s b)
          (λ e.
          let form = both-true (has_captions_around ts) ((holds_table_alone false) ts) (grid-form ts rows e) in
          let all : AreAround content (before_row nodes) = rows-around content k u form.1 form.0 in
          keep-edge R addr c.is_flat (if c.is_flat then grid_in_one_line nodes rows c else grid_inside nodes rows c) cs
          (keep-either R addr c.is_flat c.is_flat (grid_in_one_line nodes rows c) (grid_inside nodes rows c) cs
          (λ f. one-line-keeps content all f)
          (λ f. grid-keeps content all f)))
          (λ e. keep-apart R addr c.is_flat (flow_all nodes c) (read_trees R content s false)
          (keep-same R addr c.is_flat (flow_all nodes c) (nodes_wrapped R nodes s) (read_trees R content s false)
          (nodes-all content s) (flow-keeps R addr nodes (kept-nodes content k) c a)))
