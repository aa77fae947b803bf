-- Parts of the same kinds: tables.
use Rattle.std.proofs.Common.{◌≡◌, ℕ, zero, suc, ◌+◌, ◌-◌, ◌*◌, max, min, Bool, true, false, cond, not, ◌&&◌, List, []}
use Rattle.std.proofs.Common.{◌∷◌, ◌++◌, map, refl, sym, ap, ◌∙◌, subst, fold, length, take, drop, replicate}
use Rattle.std.proofs.Common.{Option, Some, None}
use Rattle.std.specs.Prelude.{nat_lt, ◌==◌}
use Rattle.std.specs.List.{list_all, prefix_len, flat_map}
use Rattle.htmd_lexical.specs.Characters.{space}
use Rattle.htmd_document.specs.declared.document.Alignment.{Alignment}
use Rattle.htmd_document.specs.declared.document.Alignment.TheVariants as align
use Rattle.htmd_document.specs.Documents.{Inlines, no_inlines, inline}
use Rattle.htmd_shown.specs.Attributes.{column_span, row_span}
use Rattle.htmd_shown.specs.Kinds.{has}
use Rattle.htmd_shown.specs.Roles as roles
use Rattle.htmd_shown.specs.SimpleTrees.{Simple}
use Rattle.htmd_flow.specs.Contexts.{Context, bare, apart, in_one_line}
use Rattle.htmd_flow.specs.Flows.{Node, Row, attributes_of, flow_all, is_grid, is_paragraph, are_paragraphs, is_grid_by}
use Rattle.htmd_flow.specs.Flows.{caption_in_one_line, captions_in_one_line, cell_in_one_line, row_in_one_line}
use Rattle.htmd_flow.specs.Flows.{rows_in_one_line, before_row, grid_in_one_line, caption_apart, captions_among, cell_of}
use Rattle.htmd_flow.specs.Flows.{row_of, filled_rows, block_part, table_block, grid_inside, table_parts}
use Rattle.htmd_flow.specs.Grids as grid
use Rattle.htmd_flow.specs.Grids.{Cell, laid, columns_before, end_of, taken_in, shapes_from, shapes_of, filled}
use Rattle.htmd_flow.specs.Grids.{filled_all, contents_of, total, with_count, count_of, is_too_large, trimmed_row, with_cell}
use Rattle.htmd_flow.specs.Grids.{width, table_in, table_of_rows, alignments_of, begins_with_header}
use Rattle.htmd_flow.specs.Parts.{Part, run, edge}
use Rattle.htmd_flow.specs.Tables as tables
use Rattle.htmd_flow.specs.declared.table_form.Layout.{Layout}
use Rattle.htmd_flow.specs.declared.table_form.Layout.TheVariants as layout
use Rattle.htmd_law_documents.proofs.ElementLemmas.{false-true, true-false}
use Rattle.htmd_law_anchors.proofs.LinkNodesLemmas.{is_inner, has-more, caption-inner}
use Rattle.htmd_law_anchors.proofs.ShapeWritingLemmas.{some_line, line-filled}
use Rattle.htmd_law_anchors.proofs.ShapeParagraphLemmas.{nothing, many, shape_after}
use Rattle.htmd_law_anchors.proofs.ShapeParagraphLemmas as shape
use Rattle.htmd_law_anchors.proofs.ShapeLayoutLemmas.{cond-eq}
use Rattle.htmd_law_anchors.proofs.ShapeNodesLemmas.{Same, same-itself, same-append, same-cons, same-apart, same-cond}
use Rattle.htmd_law_anchors.proofs.ShapeNodesLemmas.{same-line, Twin, GivesSame, SameNodes, flow-same}

-- ---- grids of lines

-- as many columns and rows, and something in both or in none
record AlikeCell (c d : Cell) : Type 0 where
  line : some_line c.content ≡ some_line d.content
  columns : c.columns ≡ d.columns
  rows : c.rows ≡ d.rows

abbrev AlikeCells : List Cell → List Cell → Type 0
AlikeCells [] [] = Unit {0}
AlikeCells (c ∷ cs) (d ∷ ds) = AlikeCell c d × AlikeCells cs ds
AlikeCells _ _ = ⊥

abbrev AlikeRows : List grid.Row → List grid.Row → Type 0
AlikeRows [] [] = Unit {0}
AlikeRows (r ∷ rs) (q ∷ qs) = (r.part ≡ q.part) × AlikeCells r.cells q.cells × AlikeRows rs qs
AlikeRows _ _ = ⊥

abbrev AlikeLine : List Inlines → List Inlines → Type 0
AlikeLine [] [] = Unit {0}
AlikeLine (x ∷ xs) (y ∷ ys) = (some_line x ≡ some_line y) × AlikeLine xs ys
AlikeLine _ _ = ⊥

abbrev AlikeLines : List (List Inlines) → List (List Inlines) → Type 0
AlikeLines [] [] = Unit {0}
AlikeLines (x ∷ xs) (y ∷ ys) = AlikeLine x y × AlikeLines xs ys
AlikeLines _ _ = ⊥

laid-same : (cs ds : List Cell) → AlikeCells cs ds → (n : ℕ) (taken : List ℕ)
    → laid n taken cs ≡ laid n taken ds
laid-same [] [] h n taken = refl
laid-same (c ∷ cs) (d ∷ ds) h n taken =
    ap (λ x. laid n taken (cell x c.rows ∷ cs)) h.0.columns
    ∙ (ap (λ y. laid n taken (cell d.columns y ∷ cs)) h.0.rows
    ∙ ap (λ (rest : grid.Shape). record {
      begins = replicate kept false ++ true ∷ replicate (columns - 1) false ++ rest.begins;
      taken = take kept taken ++ replicate columns (end_of n d.rows) ++ rest.taken;
    }) (laid-same cs ds h.1 n (drop columns free)))
  where
    cell : ℕ → ℕ → Cell
    cell x y = record { content = no_inlines; columns = x; rows = y; is_header = false; alignment = align.None }

    kept : ℕ
    kept = prefix_len (nat_lt n) taken

    free : List ℕ
    free = drop kept taken

    columns : ℕ
    columns = columns_before free n d.columns
laid-same cs ds h n taken = absurd h

shapes-same : (rs qs : List grid.Row) → AlikeRows rs qs → (n : ℕ) (part : Option ℕ) (taken : List ℕ)
    → shapes_from n part taken rs ≡ shapes_from n part taken qs
shapes-same [] [] h n part taken = refl
shapes-same (r ∷ rs) (q ∷ qs) h n part taken =
    let s : grid.Shape = laid n (taken_in part r.part taken) r.cells in
    let t : grid.Shape = laid n (taken_in part q.part taken) q.cells in
    let e : s ≡ t =
    ap (λ p. laid n (taken_in part p taken) r.cells) h.0
    ∙ laid-same r.cells q.cells h.1 n (taken_in part q.part taken) in
    ap (λ p. s.begins ∷ shapes_from (suc n) p s.taken rs) h.0
    ∙ (ap (λ (x : grid.Shape). x.begins ∷ shapes_from (suc n) q.part x.taken rs) e
    ∙ ap (λ xs. t.begins ∷ xs) (shapes-same rs qs h.2 (suc n) q.part t.taken))
shapes-same rs qs h n part taken = absurd h

cells-length : (cs ds : List Cell) → AlikeCells cs ds → length cs ≡ length ds
cells-length [] [] h = refl
cells-length (c ∷ cs) (d ∷ ds) h = ap suc (cells-length cs ds h.1)
cells-length cs ds h = absurd h

counts-same : (rs qs : List grid.Row) → AlikeRows rs qs → (n : ℕ)
    → fold with_count n rs ≡ fold with_count n qs
counts-same [] [] h n = refl
counts-same (r ∷ rs) (q ∷ qs) h n =
    ap (λ k. fold with_count (min grid.most_counted (n + k)) rs) (cells-length r.cells q.cells h.1)
    ∙ counts-same rs qs h.2 (with_count n q)
counts-same rs qs h n = absurd h

filled-alike : (begins : List Bool) (cs ds : List Cell) → AlikeCells cs ds
    → AlikeLine (filled begins cs) (filled begins ds)
filled-alike [] cs ds h = tt
filled-alike (true ∷ begins) (c ∷ cs) (d ∷ ds) h = (h.0.line, filled-alike begins cs ds h.1)
filled-alike (true ∷ begins) [] [] h = (refl, filled-alike begins [] [] h)
filled-alike (true ∷ begins) (c ∷ cs) [] h = absurd h
filled-alike (true ∷ begins) [] (d ∷ ds) h = absurd h
filled-alike (false ∷ begins) cs ds h = (refl, filled-alike begins cs ds h)

all-filled : (shapes : List (List Bool)) (rs qs : List grid.Row) → AlikeRows rs qs
    → AlikeLines (filled_all shapes rs) (filled_all shapes qs)
all-filled [] rs qs h = tt
all-filled (begins ∷ shapes) [] [] h = tt
all-filled (begins ∷ shapes) (r ∷ rs) (q ∷ qs) h =
    (filled-alike begins r.cells q.cells h.1, all-filled shapes rs qs h.2)
all-filled (begins ∷ shapes) (r ∷ rs) [] h = absurd h
all-filled (begins ∷ shapes) [] (q ∷ qs) h = absurd h

contents-alike : (cs ds : List Cell) → AlikeCells cs ds
    → AlikeLine (map (λ (c : Cell). c.content) cs) (map (λ (c : Cell). c.content) ds)
contents-alike [] [] h = tt
contents-alike (c ∷ cs) (d ∷ ds) h = (h.0.line, contents-alike cs ds h.1)
contents-alike cs ds h = absurd h

all-contents : (rs qs : List grid.Row) → AlikeRows rs qs → AlikeLines (map contents_of rs) (map contents_of qs)
all-contents [] [] h = tt
all-contents (r ∷ rs) (q ∷ qs) h = (contents-alike r.cells q.cells h.1, all-contents rs qs h.2)
all-contents rs qs h = absurd h

grid-alike : (rs qs : List grid.Row) → AlikeRows rs qs → AlikeLines (grid.grid rs) (grid.grid qs)
grid-alike rs qs h =
    subst (λ (b : Bool). AlikeLines (grid.grid rs) (cond b (map contents_of qs) (filled_all (shapes_of qs) qs))) large
    (subst (λ (shapes : List (List Bool)). AlikeLines (grid.grid rs)
    (cond (is_too_large rs) (map contents_of qs) (filled_all shapes qs))) shapes (either (is_too_large rs)))
  where
    shapes : shapes_of rs ≡ shapes_of qs
    shapes = shapes-same rs qs h 0 None []

    large : is_too_large rs ≡ is_too_large qs
    large = ap (λ n. nat_lt (8 * n + 64) (total (shapes_of rs))) (counts-same rs qs h 0)
        ∙ ap (λ x. nat_lt (8 * count_of qs + 64) (total x)) shapes

    either : (b : Bool) → AlikeLines (cond b (map contents_of rs) (filled_all (shapes_of rs) rs))
        (cond b (map contents_of qs) (filled_all (shapes_of rs) qs))
    either true = all-contents rs qs h
    either false = all-filled (shapes_of rs) rs qs h

trimmed-alike : (xs ys : List Inlines) → AlikeLine xs ys → AlikeLine (trimmed_row xs) (trimmed_row ys)
trimmed-alike [] [] h = tt
trimmed-alike (x ∷ xs) (y ∷ ys) h = at x y (trimmed_row xs) (trimmed_row ys) h.0 (trimmed-alike xs ys h.1)
  where
    at : (x y : Inlines) (xs ys : List Inlines) → some_line x ≡ some_line y → AlikeLine xs ys
        → AlikeLine (with_cell x xs) (with_cell y ys)
    at no_inlines no_inlines [] [] e g = tt
    at (inline x xs) (inline y ys) [] [] e g = (refl, tt)
    at (inline x xs) no_inlines [] [] e g = true-false e
    at no_inlines (inline y ys) [] [] e g = false-true e
    at x y (v ∷ vs) (w ∷ ws) e g = (e, g)
    at x y [] (w ∷ ws) e g = absurd g
    at x y (v ∷ vs) [] e g = absurd g
trimmed-alike xs ys h = absurd h

all-trimmed : (xs ys : List (List Inlines)) → AlikeLines xs ys
    → AlikeLines (map trimmed_row xs) (map trimmed_row ys)
all-trimmed [] [] h = tt
all-trimmed (x ∷ xs) (y ∷ ys) h = (trimmed-alike x y h.0, all-trimmed xs ys h.1)
all-trimmed xs ys h = absurd h

line-length : (xs ys : List Inlines) → AlikeLine xs ys → length xs ≡ length ys
line-length [] [] h = refl
line-length (x ∷ xs) (y ∷ ys) h = ap suc (line-length xs ys h.1)
line-length xs ys h = absurd h

width-same : (xs ys : List (List Inlines)) → AlikeLines xs ys → (n : ℕ)
    → fold (λ n row. max n (length row)) n xs ≡ fold (λ n row. max n (length row)) n ys
width-same [] [] h n = refl
width-same (x ∷ xs) (y ∷ ys) h n =
    ap (λ k. fold (λ n row. max n (length row)) (max n k) xs) (line-length x y h.0)
    ∙ width-same xs ys h.1 (max n (length y))
width-same xs ys h n = absurd h

option-shape : (n : ℕ) (alignments : List Alignment) (b has_header : Bool) (lines : List (List Inlines))
    (s : shape.Shape)
    → shape_after s (block_part (cond b None (Some (table_in n alignments has_header lines)))) ≡ cond b s many
option-shape n alignments true has_header lines s = refl
option-shape n alignments false has_header lines s = refl

table-same : (rs qs : List grid.Row) → AlikeRows rs qs
    → Same false (block_part (table_of_rows rs)) (block_part (table_of_rows qs))
table-same [] [] h = λ s. refl
table-same (r ∷ rs) (q ∷ qs) h = λ s.
    let xs : List (List Inlines) = map trimmed_row (grid.grid (r ∷ rs)) in
    let ys : List (List Inlines) = map trimmed_row (grid.grid (q ∷ qs)) in
    let same : width xs ≡ width ys =
    width-same xs ys (all-trimmed (grid.grid (r ∷ rs)) (grid.grid (q ∷ qs)) (grid-alike (r ∷ rs) (q ∷ qs) h))
    0 in
    option-shape (width xs) (alignments_of r) (width xs == 0) (begins_with_header r) xs s
    ∙ (ap (λ n. cond (n == 0) s many) same
    ∙ sym (option-shape (width ys) (alignments_of q) (width ys == 0) (begins_with_header q) ys s))
table-same rs qs h = absurd h

filled-rows : (rs qs : List grid.Row) → AlikeRows rs qs → AlikeRows (filled_rows rs) (filled_rows qs)
filled-rows [] [] h = tt
filled-rows (r ∷ rs) (q ∷ qs) h =
    subst (λ (n : ℕ). AlikeRows (filled_rows (r ∷ rs)) (cond (nat_lt 0 n) (q ∷ filled_rows qs) (filled_rows qs)))
    (cells-length r.cells q.cells h.1) (either (nat_lt 0 (length r.cells)) (filled-rows rs qs h.2))
  where
    either : (b : Bool) → AlikeRows (filled_rows rs) (filled_rows qs)
        → AlikeRows (cond b (r ∷ filled_rows rs) (filled_rows rs)) (cond b (q ∷ filled_rows qs) (filled_rows qs))
    either true g = (h.0, h.1, g)
    either false g = g
filled-rows rs qs h = absurd h

-- ---- rows of nodes

pub record SameCell (n m : Node) : Type 0 where
  pub content : GivesSame n.content m.content
  pub attributes : attributes_of n.tree ≡ attributes_of m.tree

abbrev pub SameCells : List Node → List Node → Type 0
SameCells [] [] = Unit {0}
SameCells (n ∷ ns) (m ∷ ms) = SameCell n m × SameCells ns ms
SameCells _ _ = ⊥

abbrev pub SameRows : List Row → List Row → Type 0
SameRows [] [] = Unit {0}
SameRows (r ∷ rs) (q ∷ qs) = (r.part ≡ q.part) × SameCells r.cells q.cells × SameRows rs qs
SameRows _ _ = ⊥

pub rows-append : (rs rs' qs qs' : List Row) → SameRows rs rs' → SameRows qs qs'
    → SameRows (rs ++ qs) (rs' ++ qs')
rows-append [] [] qs qs' g h = h
rows-append (r ∷ rs) (r' ∷ rs') qs qs' g h = (g.0, g.1, rows-append rs rs' qs qs' g.2 h)
rows-append rs rs' qs qs' g h = absurd g

module _ (c d : Context) (t : Twin c d) where
  twin-line : Twin (in_one_line c) (in_one_line d)
  twin-line = record { flat = refl; nested = t.nested; first = t.first; second = t.second }

  cells-alike : (ns ms : List Node) → SameCells ns ms → AlikeCells (map (cell_of c) ns) (map (cell_of d) ms)
  cells-alike [] [] h = tt
  cells-alike (n ∷ ns) (m ∷ ms) h = (
    record {
      line = line-filled (n.content (in_one_line c))
          ∙ (h.0.content (in_one_line c) (in_one_line d) twin-line ∙ sym (line-filled (m.content (in_one_line d))));
      columns = ap column_span h.0.attributes;
      rows = ap row_span h.0.attributes;
    },
    cells-alike ns ms h.1,
  )
  cells-alike ns ms h = absurd h

  rows-alike : (rs qs : List Row) → SameRows rs qs → AlikeRows (map (row_of c) rs) (map (row_of d) qs)
  rows-alike [] [] h = tt
  rows-alike (r ∷ rs) (q ∷ qs) h = (h.0, cells-alike r.cells q.cells h.1, rows-alike rs qs h.2)
  rows-alike rs qs h = absurd h

  block-same : (rs qs : List Row) → SameRows rs qs
      → Same false (block_part (table_block rs c)) (block_part (table_block qs d))
  block-same rs qs h =
      table-same (filled_rows (map (row_of c) rs)) (filled_rows (map (row_of d) qs))
      (filled-rows (map (row_of c) rs) (map (row_of d) qs) (rows-alike rs qs h))

  -- ---- in one line

  cells-in-line : (ns ms : List Node) → SameCells ns ms
      → Same c.is_flat (flat_map (cell_in_one_line c) ns) (flat_map (cell_in_one_line d) ms)
  cells-in-line [] [] h = same-itself c.is_flat []
  cells-in-line (n ∷ ns) (m ∷ ms) h =
      same-append c.is_flat (cell_in_one_line c n) (cell_in_one_line d m) (flat_map (cell_in_one_line c) ns)
      (flat_map (cell_in_one_line d) ms)
      (same-append c.is_flat (n.content c) (m.content d) (run (space ∷ []) c.around false ∷ [])
      (run (space ∷ []) d.around false ∷ []) (h.0.content c d t) (space-same c.is_flat))
      (cells-in-line ns ms h.1)
    where
      space-same : (flat : Bool)
          → Same flat (run (space ∷ []) c.around false ∷ []) (run (space ∷ []) d.around false ∷ [])
      space-same true = refl
      space-same false = λ s. refl
  cells-in-line ns ms h = absurd h

  rows-in-line : (rs qs : List Row) → SameRows rs qs
      → Same c.is_flat (rows_in_one_line rs c) (rows_in_one_line qs d)
  rows-in-line [] [] h = same-itself c.is_flat []
  rows-in-line (r ∷ rs) (q ∷ qs) h =
      same-append c.is_flat (row_in_one_line c r) (row_in_one_line d q) (rows_in_one_line rs c) (rows_in_one_line qs d)
      (same-append c.is_flat (flat_map (cell_in_one_line c) r.cells) (flat_map (cell_in_one_line d) q.cells)
      (edge ∷ []) (edge ∷ []) (cells-in-line r.cells q.cells h.1) (same-itself c.is_flat (edge ∷ [])))
      (rows-in-line rs qs h.2)
  rows-in-line rs qs h = absurd h

  -- ---- captions

  line-captions : (ns ms : List Node) → SameNodes ns ms
      → Same c.is_flat (captions_in_one_line ns c) (captions_in_one_line ms d)
  line-captions [] [] h = same-itself c.is_flat []
  line-captions (n ∷ ns) (m ∷ ms) h =
      same-append c.is_flat (caption_in_one_line c n) (caption_in_one_line d m) (captions_in_one_line ns c)
      (captions_in_one_line ms d)
      (same-cond c.is_flat (has roles.is_caption n.tree) (has roles.is_caption m.tree) (n.content c ++ edge ∷ []) []
      (m.content d ++ edge ∷ []) [] h.0.caption
      (λ e. same-append c.is_flat (n.content c) (m.content d) (edge ∷ []) (edge ∷ [])
      (h.0.content (has-more roles.is_caption is_inner caption-inner n.tree e) c d t)
      (same-itself c.is_flat (edge ∷ []))) (λ e. same-itself c.is_flat []))
      (line-captions ns ms h.1)
  line-captions ns ms h = absurd h

  captions-apart : (ns ms : List Node) → SameNodes ns ms
      → Same c.is_flat (captions_among ns c) (captions_among ms d)
  captions-apart [] [] h = same-itself c.is_flat []
  captions-apart (n ∷ ns) (m ∷ ms) h =
      same-append c.is_flat (caption_apart c n) (caption_apart d m) (captions_among ns c) (captions_among ms d)
      (same-cond c.is_flat (has roles.is_caption n.tree) (has roles.is_caption m.tree) (apart (n.content c)) []
      (apart (m.content d)) [] h.0.caption
      (λ e. same-apart c.is_flat (n.content c) (m.content d)
      (h.0.content (has-more roles.is_caption is_inner caption-inner n.tree e) c d t))
      (λ e. same-itself c.is_flat []))
      (captions-apart ns ms h.1)
  captions-apart ns ms h = absurd h

nodes-take : (k : ℕ) (ns ms : List Node) → SameNodes ns ms → SameNodes (take k ns) (take k ms)
nodes-take zero ns ms h = tt
nodes-take (suc k) [] [] h = tt
nodes-take (suc k) (n ∷ ns) (m ∷ ms) h = (h.0, nodes-take k ns ms h.1)
nodes-take (suc k) ns ms h = absurd h

nodes-drop : (k : ℕ) (ns ms : List Node) → SameNodes ns ms → SameNodes (drop k ns) (drop k ms)
nodes-drop zero ns ms h = h
nodes-drop (suc k) [] [] h = tt
nodes-drop (suc k) (n ∷ ns) (m ∷ ms) h = nodes-drop k ns ms h.1
nodes-drop (suc k) ns ms h = absurd h

before-same : (ns ms : List Node) → SameNodes ns ms → before_row ns ≡ before_row ms
before-same [] [] h = refl
before-same (n ∷ ns) (m ∷ ms) h =
    cond-eq (tables.is_no_row n.tree) (tables.is_no_row m.tree) (1 + before_row ns) 0 (1 + before_row ms) 0
    (ap not h.0.row) (λ e. ap (λ n. 1 + n) (before-same ns ms h.1)) (λ e. refl)
before-same ns ms h = absurd h

module _ (c d : Context) (t : Twin c d) (ns ms : List Node) (rs qs : List Row) (h : SameNodes ns ms)
    (g : SameRows rs qs) where
  first-same : SameNodes (take (before_row ns) ns) (take (before_row ms) ms)
  first-same =
      subst (λ (k : ℕ). SameNodes (take (before_row ns) ns) (take k ms)) (before-same ns ms h)
      (nodes-take (before_row ns) ns ms h)

  last-same : SameNodes (drop (before_row ns) ns) (drop (before_row ms) ms)
  last-same =
      subst (λ (k : ℕ). SameNodes (drop (before_row ns) ns) (drop k ms)) (before-same ns ms h)
      (nodes-drop (before_row ns) ns ms h)

  one-line-same : Same c.is_flat (grid_in_one_line ns rs c) (grid_in_one_line ms qs d)
  one-line-same =
      same-append c.is_flat (captions_in_one_line (take (before_row ns) ns) c ++ rows_in_one_line rs c)
      (captions_in_one_line (take (before_row ms) ms) d ++ rows_in_one_line qs d)
      (captions_in_one_line (drop (before_row ns) ns) c) (captions_in_one_line (drop (before_row ms) ms) d)
      (same-append c.is_flat (captions_in_one_line (take (before_row ns) ns) c)
      (captions_in_one_line (take (before_row ms) ms) d) (rows_in_one_line rs c) (rows_in_one_line qs d)
      (line-captions c d t (take (before_row ns) ns) (take (before_row ms) ms) first-same)
      (rows-in-line c d t rs qs g))
      (line-captions c d t (drop (before_row ns) ns) (drop (before_row ms) ms) last-same)

  inside-same : c.is_flat ≡ false → Same c.is_flat (grid_inside ns rs c) (grid_inside ms qs d)
  inside-same f =
      let first : List Part = captions_among (take (before_row ns) ns) c in
      let first' : List Part = captions_among (take (before_row ms) ms) d in
      let last : List Part = captions_among (drop (before_row ns) ns) c in
      let last' : List Part = captions_among (drop (before_row ms) ms) d in
      let block : List Part = block_part (table_block rs c) in
      let block' : List Part = block_part (table_block qs d) in
      same-append c.is_flat ((first ++ edge ∷ block) ++ edge ∷ last) ((first' ++ edge ∷ block') ++ edge ∷ last')
      (edge ∷ []) (edge ∷ [])
      (same-append c.is_flat (first ++ edge ∷ block) (first' ++ edge ∷ block') (edge ∷ last) (edge ∷ last')
      (same-append c.is_flat first first' (edge ∷ block) (edge ∷ block')
      (captions-apart c d t (take (before_row ns) ns) (take (before_row ms) ms) first-same)
      (same-cons c.is_flat edge block block'
      (same-line c.is_flat false block block' f (block-same c d t rs qs g))))
      (same-cons c.is_flat edge last last'
      (captions-apart c d t (drop (before_row ns) ns) (drop (before_row ms) ms) last-same)))
      (same-itself c.is_flat (edge ∷ []))

  pub table-parts-same : (trees trees' : List Simple) → is_grid trees rs ≡ is_grid trees' qs
      → Same c.is_flat (table_parts trees ns rs c) (table_parts trees' ms qs d)
  table-parts-same trees trees' e =
      same-cond c.is_flat (is_grid trees rs) (is_grid trees' qs)
      (edge ∷ (cond c.is_flat (grid_in_one_line ns rs c) (grid_inside ns rs c))) (apart (flow_all ns c))
      (edge ∷ (cond d.is_flat (grid_in_one_line ms qs d) (grid_inside ms qs d))) (apart (flow_all ms d)) e
      (λ k. same-cons c.is_flat edge (cond c.is_flat (grid_in_one_line ns rs c) (grid_inside ns rs c))
      (cond d.is_flat (grid_in_one_line ms qs d) (grid_inside ms qs d))
      (same-cond c.is_flat c.is_flat d.is_flat (grid_in_one_line ns rs c) (grid_inside ns rs c)
      (grid_in_one_line ms qs d) (grid_inside ms qs d) t.flat (λ f. one-line-same) inside-same))
      (λ k. same-apart c.is_flat (flow_all ns c) (flow_all ms d) (flow-same ns ms h c d t))

-- ---- whether a table is one of rows and columns

paragraph-same : (n m : Node) → SameCell n m → is_paragraph n ≡ is_paragraph m
paragraph-same n m h =
    shape.paragraph-few (n.content bare)
    ∙ (ap shape.is_few (h.content bare bare (record { flat = refl; nested = refl; first = refl; second = refl })
    nothing)
    ∙ sym (shape.paragraph-few (m.content bare)))

all-paragraphs : (ns ms : List Node) → SameCells ns ms → list_all is_paragraph ns ≡ list_all is_paragraph ms
all-paragraphs [] [] h = refl
all-paragraphs (n ∷ ns) (m ∷ ms) h =
    ap (λ b. b && list_all is_paragraph ns) (paragraph-same n m h.0)
    ∙ ap (λ b. is_paragraph m && b) (all-paragraphs ns ms h.1)
all-paragraphs ns ms h = absurd h

rows-paragraphs : (rs qs : List Row) → SameRows rs qs → are_paragraphs rs ≡ are_paragraphs qs
rows-paragraphs [] [] h = refl
rows-paragraphs (r ∷ rs) (q ∷ qs) h =
    ap (λ b. b && are_paragraphs rs) (all-paragraphs r.cells q.cells h.1)
    ∙ ap (λ b. list_all is_paragraph q.cells && b) (rows-paragraphs rs qs h.2)
rows-paragraphs rs qs h = absurd h

pub grid-same : (trees trees' : List Simple) (rs qs : List Row) → tables.layout_of trees ≡ tables.layout_of trees'
    → SameRows rs qs → is_grid trees rs ≡ is_grid trees' qs
grid-same trees trees' rs qs e h = ap (λ l. is_grid_by l rs) e ∙ either (tables.layout_of trees')
  where
    either : (l : Layout) → is_grid_by l rs ≡ is_grid_by l qs
    either layout.Grid = refl
    either layout.GridOfParagraphs = rows-paragraphs rs qs h
    either layout.Page = refl
