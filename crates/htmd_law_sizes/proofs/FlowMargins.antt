-- How wide the margin of a simpler tree's document is: each list and each quote puts at most 69 bytes before a line.
use Rattle.std.proofs.Common.{◌≡◌, refl, ℕ, zero, suc, ◌+◌, ◌≤◌, Bool, true, false, List, [], ◌∷◌, ◌++◌}
use Rattle.std.proofs.Common.{map, take, drop, arith}
use Rattle.std.specs.Prelude.{◌&&◌, not, filter, if◌then◌else◌, codes, Option}
use Rattle.std.specs.Prelude.{Some, None}
use Rattle.std.specs.List.{list_any, flat_map}
use Rattle.htmd_lexical.specs.Characters.{space}
use Rattle.htmd_lexical.specs.AttributePairs.{AttributePair}
use Rattle.htmd_document.specs.Formats.{Format, Abbreviation, of_format, of_element}
use Rattle.htmd_document.specs.Documents.{Inlines, no_inlines, inline, Blocks, no_blocks, block}
use Rattle.htmd_document.specs.Documents.{code_block}
use Rattle.htmd_shown.specs.declared.facts.Facts.{Facts}
use Rattle.htmd_shown.specs.declared.role.Role.{Role}
use Rattle.htmd_shown.specs.declared.role.Role.TheVariants as role
use Rattle.htmd_shown.specs.AllTexts.{all_text_among, with_line_feeds, lines_of, without_last_line_feed}
use Rattle.htmd_shown.specs.Attributes.{has_attribute, text_of, title_of, description_of, address, is_any_case}
use Rattle.htmd_shown.specs.Attributes.{is_filled}
use Rattle.htmd_shown.specs.Kinds.{has}
use Rattle.htmd_shown.specs.Roles as roles
use Rattle.htmd_shown.specs.SimpleTrees.{Simple, text, image, formula, embedded, anchor, element, Simples, none, more}
use Rattle.htmd_shown.specs.Spaces.{is_blank_text}
use Rattle.htmd_flow.specs.Contexts.{Context, bare_in, has_elements, is_lined, is_link, is_enough, with_around}
use Rattle.htmd_flow.specs.Contexts.{inside_format, inside_title, inside_link, unlinked, beside_code, in_code, in_one_line, deeper}
use Rattle.htmd_flow.specs.Contexts.{run_in, apart}
use Rattle.htmd_flow.specs.Flows.{Node, Row, TermPart, gap, of_node, Element, is_cell, is_grid, blocks_of}
use Rattle.htmd_flow.specs.Flows.{line_of}
use Rattle.htmd_flow.specs.Flows.{flow_all}
use Rattle.htmd_flow.specs.Flows.{captions_in_one_line}
use Rattle.htmd_flow.specs.Flows.{cell_in_one_line, rows_in_one_line, before_row, grid_in_one_line, captions_among}
use Rattle.htmd_flow.specs.Flows.{row_of, filled_rows, block_part, grid_inside, table_parts, image_parts}
use Rattle.htmd_flow.specs.Flows.{math_block, math_in_line, formula_parts, embed_edge, embed_parts, box_parts, linked_by}
use Rattle.htmd_flow.specs.Flows.{heading_of, around_heading, heading_parts, quote_of, quote_parts, code_parts}
use Rattle.htmd_flow.specs.Flows.{text_in_lines, start_of, anchors_apart, parts_of}
use Rattle.htmd_flow.specs.Flows.{parts_of_child, no_part, part_of, leads_to, row_with, rows_if, node_of, nodes_of}
use Rattle.htmd_flow.specs.Flows.{nodes_below, terms_of, rows_among, rows_at, TablePiece, of_caption, of_row, pieces_at}
use Rattle.htmd_flow.specs.Flows.{pieces_of, around_title, title_parts, described_parts, term_parts, terms_by}
use Rattle.htmd_flow.specs.Flows.{rich_table_at, table_at, figure_at}
use Rattle.htmd_flow.specs.Grids as grids
use Rattle.htmd_flow.specs.Languages.{language_of_block}
use Rattle.htmd_flow.specs.Levels as levels
use Rattle.htmd_flow.specs.Parts.{Around, Part, place, box, edge, whole}
use Rattle.htmd_flow.specs.Parts as part
use Rattle.htmd_flow.specs.Terms.{is_group}
use Rattle.htmd_flow.specs.declared.table_form.TablePart.{TablePart}
use Rattle.htmd_law_sizes.specs.DocumentSizes.{margin_of}
use Rattle.htmd_law_sizes.specs.SizeLaws.{MarginIsBounded}
use Rattle.htmd_law_sizes.proofs.PartMargins.{widest_of, widest, widest_append, blocks_margin, deep, Narrow, AllNarrow, flow_width}
use Rattle.htmd_law_sizes.proofs.PartMargins.{not_deep, list_width, TermsNarrow, terms_width}
use Rattle.htmd_law_sizes.proofs.RichMargins.{near_nested, title_nested, details_width, figure_width, described_width}
use Rattle.htmd_law_sizes.proofs.RichMargins.{of_width, PiecesNarrow, rich_table_width}

-- ---- contexts

format_nested : (f : Format) (c : Context) → (inside_format f c).nested ≡ c.nested
format_nested f c = go (is_enough f c.around)
  where
    go : (t : Bool) → (if t then c else with_around c (part.formatted f)).nested ≡ c.nested
    go true = refl
    go false = refl

link_nested : (id : ℕ) (s : List ℕ) (title : Option (List ℕ)) (c : Context)
    → (inside_link id s title c).nested ≡ c.nested
link_nested id s title c = go (list_any is_link c.around)
  where
    go : (t : Bool) → (if t then c else with_around c (part.linked id s title)).nested ≡ c.nested
    go true = refl
    go false = refl

title_in_nested : (title : Option (List ℕ)) (c : Context) → (inside_title title c).nested ≡ c.nested
title_in_nested None c = refl
title_in_nested (Some title) c = format_nested (Abbreviation title) c

flow_inside : (nodes : List Node) (c d : Context) → AllNarrow nodes → d.nested ≡ c.nested
    → widest (flow_all nodes d) ≤ deep c
flow_inside nodes c d f e = omega (arith, flow_width nodes d f, e)

-- ---- leaves

image_width : (address : Option (List ℕ)) (attributes : List AttributePair) (c : Context)
    → widest (image_parts address attributes c) ≤ deep c
image_width (Some s) attributes c = omega arith
image_width None attributes c = go (is_filled (description_of attributes))
  where
    go : (t : Bool) → widest (if t then run_in c (description_of attributes) ∷ [] else []) ≤ deep c
    go true = omega arith
    go false = omega arith

formula_width : (tex : List ℕ) (t : Bool) (c : Context) → widest (formula_parts tex t c) ≤ deep c
formula_width tex t c = go (t && not c.is_flat)
  where
    go : (b : Bool) → widest (if b then apart (whole (math_block tex) ∷ []) else math_in_line tex c) ≤ deep c
    go true = omega arith
    go false = omega arith

places_width : (ids : List (List ℕ)) → widest (map place ids) ≡ 0
places_width [] = refl
places_width (id ∷ ids) = omega (arith, places_width ids)

edge_width : (c : Context) → widest_of (embed_edge c) ≡ 0
edge_width c = go c.is_flat
  where
    go : (t : Bool) → widest_of (if t then run_in c (space ∷ []) else edge) ≡ 0
    go true = refl
    go false = refl

embed_width : (id : ℕ) (address title : List ℕ) (anchors : List (List ℕ)) (c : Context)
    → widest (embed_parts id address title anchors c) ≤ deep c
embed_width id address title anchors c =
    let x = run_in (inside_link id address None c) title ∷ embed_edge c ∷ [] in
    omega (
      arith,
      widest_append (embed_edge c ∷ map place anchors) x,
      places_width anchors,
      edge_width c,
    )

-- ---- elements

box_width : (attributes : List AttributePair) → widest (box_parts attributes) ≡ 0
box_width attributes = go (is_any_case (codes "checkbox") (text_of (codes "type") attributes))
  where
    go : (t : Bool) → widest (if t then box (has_attribute (codes "checked") attributes) ∷ [] else []) ≡ 0
    go true = refl
    go false = refl

heading_of_width : (level : ℕ) (xs : Inlines) → widest (heading_of level xs) ≡ 0
heading_of_width level no_inlines = refl
heading_of_width level (inline x xs) = refl

heading_width : (level : ℕ) (facts : Facts) (nodes : List Node) (c : Context) → AllNarrow nodes
    → widest (heading_parts level facts nodes c) ≤ deep c
heading_width level facts nodes c f = go c.is_flat
  where
    xs : Inlines
    xs = line_of (flow_all nodes (in_one_line (around_heading facts c)))

    go : (t : Bool) → widest (apart (if t then flow_all nodes c else heading_of level xs)) ≤ deep c
    go true = simp widest_append (omega (arith, flow_width nodes c f))
    go false = simp widest_append (omega (arith, heading_of_width level xs))

quote_of_width : (bs : Blocks) → widest (quote_of bs) ≤ 2 + margin_of bs
quote_of_width no_blocks = omega arith
quote_of_width (block b bs) = omega arith

quote_width : (nodes : List Node) (c : Context) → AllNarrow nodes → widest (quote_parts nodes c) ≤ deep c
quote_width nodes c f = go (is_lined c) refl
  where
    parts : List Part
    parts = flow_all nodes (deeper c)

    go : (t : Bool) → is_lined c ≡ t
        → widest (apart (if t then flow_all nodes c else quote_of (blocks_of false parts))) ≤ deep c
    go true e = simp widest_append (omega (arith, flow_width nodes c f))
    go false e =
        let d = not_deep c.is_flat c.nested e in
        simp widest_append
        (omega (
          arith,
          d,
          quote_of_width (blocks_of false parts),
          blocks_margin false parts,
          flow_width nodes (deeper c) f,
        ))

code_width : (ls : List (List ℕ)) (around : List Around) → widest (code_parts ls around) ≡ 0
code_width [] around = refl
code_width (l ∷ ls) around = omega (arith, code_width ls around)

verbatim_width : (attributes : List AttributePair) (content : Simples) (s : List ℕ) (c : Context)
    → widest (text_in_lines attributes content s c) ≡ 0
verbatim_width attributes content s c = go (is_blank_text s) c.is_flat
  where
    go : (t u : Bool)
        → widest
        (if t then edge ∷ []
        else (if u then edge ∷ code_parts (lines_of s) c.around
        else apart
        (whole (code_block (language_of_block attributes (levels.list_of content) c.near)
        (without_last_line_feed s)) ∷ [])))
        ≡ 0
    go true u = refl
    go false true = omega (arith, code_width (lines_of s) c.around)
    go false false = refl

-- ---- tables

abbrev RowsNarrow : List Row → Type 0
RowsNarrow [] = Unit {0}
RowsNarrow (row ∷ rows) = AllNarrow row.cells × RowsNarrow rows

rows_both : (a b : List Row) → RowsNarrow a → RowsNarrow b → RowsNarrow (a ++ b)
rows_both [] b f g = g
rows_both (row ∷ a) b f g = (f.0, rows_both a b f.1 g)

taken_narrow : (k : ℕ) (nodes : List Node) → AllNarrow nodes → AllNarrow (take k nodes)
taken_narrow zero nodes f = tt
taken_narrow (suc k) [] f = tt
taken_narrow (suc k) (n ∷ nodes) f = (f.0, taken_narrow k nodes f.1)

dropped_narrow : (k : ℕ) (nodes : List Node) → AllNarrow nodes → AllNarrow (drop k nodes)
dropped_narrow zero nodes f = f
dropped_narrow (suc k) [] f = tt
dropped_narrow (suc k) (n ∷ nodes) f = dropped_narrow k nodes f.1

captions_width : (nodes : List Node) (c : Context) → AllNarrow nodes → widest (captions_among nodes c) ≤ deep c
captions_width [] c f = omega arith
captions_width (n ∷ nodes) c f = go (has roles.is_caption n.tree) (captions_width nodes c f.1)
  where
    go : (t : Bool) → widest (captions_among nodes c) ≤ deep c
        → widest ((if t then apart (n.content c) else []) ++ captions_among nodes c) ≤ deep c
    go true i = simp widest_append (omega (arith, f.0.inner c, i))
    go false i = i

captions_flat : (nodes : List Node) (c : Context) → AllNarrow nodes
    → widest (captions_in_one_line nodes c) ≤ deep c
captions_flat [] c f = omega arith
captions_flat (n ∷ nodes) c f = go (has roles.is_caption n.tree) (captions_flat nodes c f.1)
  where
    go : (t : Bool) → widest (captions_in_one_line nodes c) ≤ deep c
        → widest ((if t then n.content c ++ edge ∷ [] else []) ++ captions_in_one_line nodes c) ≤ deep c
    go true i = simp widest_append (omega (arith, f.0.inner c, i))
    go false i = i

cells_width : (cells : List Node) (c : Context) → AllNarrow cells
    → widest (flat_map (cell_in_one_line c) cells) ≤ deep c
cells_width [] c f = omega arith
cells_width (n ∷ cells) c f = simp widest_append (omega (arith, f.0.inner c, cells_width cells c f.1))

rows_flat : (rows : List Row) (c : Context) → RowsNarrow rows → widest (rows_in_one_line rows c) ≤ deep c
rows_flat [] c f = omega arith
rows_flat (row ∷ rows) c f =
    simp widest_append (omega (arith, cells_width row.cells c f.0, rows_flat rows c f.1))

grid_width : (rows : List grids.Row) → widest (block_part (grids.table_of_rows rows)) ≡ 0
grid_width [] = refl
grid_width (first ∷ rows) =
    of_width (grids.alignments_of first) (grids.begins_with_header first)
    (map grids.trimmed_row (grids.grid (first ∷ rows)))

table_width : (trees : List Simple) (nodes : List Node) (rows : List Row) (c : Context) → AllNarrow nodes
    → RowsNarrow rows → widest (table_parts trees nodes rows c) ≤ deep c
table_width trees nodes rows c f g = go (is_grid trees rows) c.is_flat
  where
    n : ℕ
    n = before_row nodes

    go : (t u : Bool)
        → widest
        (if t then edge ∷ (if u then grid_in_one_line nodes rows c else grid_inside nodes rows c)
        else apart (flow_all nodes c))
        ≤ deep c
    go true true =
        simp widest_append
        (omega (
          arith,
          captions_flat (take n nodes) c (taken_narrow n nodes f),
          captions_flat (drop n nodes) c (dropped_narrow n nodes f),
          rows_flat rows c g,
        ))
    go true false =
        simp widest_append
        (omega (
          arith,
          captions_width (take n nodes) c (taken_narrow n nodes f),
          captions_width (drop n nodes) c (dropped_narrow n nodes f),
          grid_width (filled_rows (map (row_of c) rows)),
        ))
    go false u = simp widest_append (omega (arith, flow_width nodes c f))

-- ---- each element

record Known (e : Element) : Type 0 where
  fit : AllNarrow e.nodes
  rows : RowsNarrow e.rows
  pieces : PiecesNarrow e.pieces
  terms : TermsNarrow e.terms

apart_width : (nodes : List Node) (c d : Context) → AllNarrow nodes → d.nested ≡ c.nested
    → widest (apart (flow_all nodes d)) ≤ deep c
apart_width nodes c d f e = simp widest_append (omega (arith, flow_inside nodes c d f e))

anchors_width : (nodes : List Node) (c : Context) → AllNarrow nodes → widest (anchors_apart nodes c) ≤ deep c
anchors_width nodes c f = go c.is_flat
  where
    go : (t : Bool) → widest (if t then flow_all nodes c else apart (flow_all nodes c)) ≤ deep c
    go true = flow_width nodes c f
    go false = apart_width nodes c c f refl

title_in_width : (e : Element) (c : Context) → Known e → widest (title_parts e c) ≤ deep c
title_in_width e c h = apart_width e.nodes c (around_title e.content c) h.fit (title_nested e.content c)

terms_in_width : (e : Element) (c : Context) → Known e → widest (terms_by e.terms e.nodes c) ≤ deep c
terms_in_width e c h = go (has_elements c)
  where
    go : (t : Bool) → widest (if t then described_parts e.terms c else term_parts e.terms e.nodes c) ≤ deep c
    go true = described_width e.terms c h.terms
    go false = terms_width e.terms e.nodes c h.terms h.fit

table_in_width : (e : Element) (c : Context) → Known e → widest (table_at e c) ≤ deep c
table_in_width e c h = go (has_elements c)
  where
    trees : List Simple
    trees = levels.list_of e.content

    go : (t : Bool) → widest (if t then rich_table_at e c else table_parts trees e.nodes e.rows c) ≤ deep c
    go true = rich_table_width trees e.attributes e.pieces e.nodes c h.fit h.pieces
    go false = table_width trees e.nodes e.rows c h.fit h.rows

figure_in_width : (e : Element) (c : Context) → Known e → widest (figure_at e c) ≤ deep c
figure_in_width e c h =
    let d = beside_code e.facts.pres e.attributes c in
    omega (arith, figure_width e.nodes d h.fit, near_nested e.facts.pres e.attributes c)

element_width : (r : Role) (e : Element) (c : Context) → Known e → widest (parts_of r e c) ≤ deep c
element_width (role.Format f) e c h =
    flow_inside e.nodes c (inside_format (of_format f) c) h.fit (format_nested (of_format f) c)
element_width (role.Element f) e c h =
    flow_inside e.nodes c (inside_format (of_element f) c) h.fit (format_nested (of_element f) c)
element_width role.Abbreviation e c h =
    flow_inside e.nodes c (inside_title (title_of e.attributes) c) h.fit (title_in_nested (title_of e.attributes) c)
element_width role.Code e c h = flow_inside e.nodes c (in_code c) h.fit refl
element_width role.Typed e c h = flow_inside e.nodes c (in_code c) h.fit refl
element_width role.Link e c h =
    flow_inside e.nodes c (linked_by e.id e.attributes c) h.fit
    (link_nested e.id (address (text_of (codes "href") e.attributes)) (title_of e.attributes) c)
element_width role.Target e c h = flow_width e.nodes c h.fit
element_width role.Apart e c h = simp widest_append (omega (arith, flow_width e.nodes c h.fit))
element_width role.LineBreak e c h = omega arith
element_width role.Input e c h =
    omega (
      arith,
      widest_append (box_parts e.attributes)
          (flow_all e.nodes c),
      box_width e.attributes,
      flow_width e.nodes c h.fit,
    )
element_width (role.Heading level) e c h = heading_width level e.facts e.nodes c h.fit
element_width role.Paragraph e c h = apart_width e.nodes c c h.fit refl
element_width role.Preformatted e c h =
    omega (arith, verbatim_width e.attributes e.content (with_line_feeds (all_text_among e.content)) c)
element_width role.Verbatim e c h =
    omega (arith, verbatim_width e.attributes e.content (with_line_feeds (all_text_among e.content)) c)
element_width role.BlockQuote e c h = quote_width e.nodes c h.fit
element_width role.ThematicBreak e c h = omega arith
element_width role.BulletList e c h = list_width None e.nodes c h.fit
element_width role.NumberedList e c h = list_width (Some (start_of e.attributes)) e.nodes c h.fit
element_width role.Item e c h = apart_width e.nodes c c h.fit refl
element_width role.Terms e c h = terms_in_width e c h
element_width role.Term e c h = title_in_width e c h
element_width role.Meaning e c h = apart_width e.nodes c c h.fit refl
element_width role.Table e c h = table_in_width e c h
element_width role.LayoutTable e c h = apart_width e.nodes c c h.fit refl
element_width role.Caption e c h = title_in_width e c h
element_width role.TableHead e c h = apart_width e.nodes c c h.fit refl
element_width role.TableBody e c h = apart_width e.nodes c c h.fit refl
element_width role.Row e c h = apart_width e.nodes c c h.fit refl
element_width role.Cell e c h =
    apart_width e.nodes c (beside_code e.facts.pres e.attributes c) h.fit (near_nested e.facts.pres e.attributes c)
element_width role.HeaderCell e c h = apart_width e.nodes c c h.fit refl
element_width role.Division e c h =
    apart_width e.nodes c (beside_code e.facts.pres e.attributes c) h.fit (near_nested e.facts.pres e.attributes c)
element_width role.Figure e c h = figure_in_width e c h
element_width role.FigureCaption e c h = title_in_width e c h
element_width role.Details e c h = details_width e.attributes e.nodes c h.fit
element_width role.Summary e c h = title_in_width e c h
element_width role.Legend e c h = apart_width e.nodes c c h.fit refl
element_width role.Block e c h = apart_width e.nodes c c h.fit refl
element_width role.Plain e c h = flow_width e.nodes c h.fit
element_width role.Anchors e c h = anchors_width e.nodes c h.fit
element_width role.Unlinked e c h = flow_inside e.nodes c (unlinked c) h.fit refl

-- ---- trees

pieces_both : (a b : List TablePiece) → PiecesNarrow a → PiecesNarrow b → PiecesNarrow (a ++ b)
pieces_both [] b f g = g
pieces_both (of_caption n ∷ a) b f g = (f.0, pieces_both a b f.1 g)
pieces_both (of_row r ∷ a) b f g = (f.0, pieces_both a b f.1 g)

all_rows_narrow : (rows : List Row) → RowsNarrow rows → PiecesNarrow (map of_row rows)
all_rows_narrow [] f = tt
all_rows_narrow (row ∷ rows) f = (f.0, all_rows_narrow rows f.1)

piece_narrow : (n : Node) (rows : List Row) → Narrow n → RowsNarrow rows → PiecesNarrow (pieces_at n rows)
piece_narrow n rows f g = go (has roles.is_caption n.tree)
  where
    go : (b : Bool) → PiecesNarrow (if b then of_caption n ∷ [] else map of_row rows)
    go true = (f, tt)
    go false = all_rows_narrow rows g

cells_narrow : (nodes : List Node) → AllNarrow nodes → AllNarrow (filter is_cell nodes)
cells_narrow [] f = tt
cells_narrow (n ∷ nodes) f = go (is_cell n) (cells_narrow nodes f.1)
  where
    go : (t : Bool) → AllNarrow (filter is_cell nodes)
        → AllNarrow (if t then n ∷ filter is_cell nodes else filter is_cell nodes)
    go true i = (f.0, i)
    go false i = i

row_narrow_if : (p : TablePart) (t : Simple) (nodes : List Node) (inner : List Row) → AllNarrow nodes
    → RowsNarrow inner
    → RowsNarrow (rows_if p t nodes inner)
row_narrow_if p t nodes inner f g = go (has roles.is_row t) (leads_to p t)
  where
    go : (a b : Bool) → RowsNarrow (if a then row_with p nodes else (if b then inner else []))
    go true b = (cells_narrow nodes f, tt)
    go false true = g
    go false false = tt

terms_both : (a b : List TermPart) → TermsNarrow a → TermsNarrow b → TermsNarrow (a ++ b)
terms_both [] b f g = g
terms_both (gap ∷ a) b f g = terms_both a b f g
terms_both (of_node n ∷ a) b f g = (f.0, terms_both a b f.1 g)

group_narrow : (nodes : List Node) → AllNarrow nodes → TermsNarrow (map of_node nodes)
group_narrow [] f = tt
group_narrow (n ∷ nodes) f = (f.0, group_narrow nodes f.1)

child_narrow : (t : Simple) → Narrow (node_of t) → AllNarrow (nodes_below t)
    → TermsNarrow (parts_of_child (node_of t) (nodes_below t))
child_narrow t f g = go (is_group (node_of t).tree)
  where
    go : (b : Bool)
        → TermsNarrow (if b then gap ∷ map of_node (nodes_below t) ++ gap ∷ [] else of_node (node_of t) ∷ [])
    go true = terms_both (map of_node (nodes_below t)) (gap ∷ []) (group_narrow (nodes_below t) g) tt
    go false = (f, tt)

mutual
  unfolding node_of nodes_of nodes_below terms_of rows_at rows_among pieces_of

  node_narrow : (t : Simple) → Narrow (node_of t)
  node_narrow (text s) = record { outer = λ c. omega arith; inner = λ c. omega arith }
  node_narrow (image address attributes) = record {
    outer = λ c. image_width address attributes c;
    inner = λ c. omega arith;
  }
  node_narrow (formula tex is_alone attributes) = record {
    outer = λ c. formula_width tex is_alone c;
    inner = λ c. omega arith;
  }
  node_narrow (embedded id address title attributes anchors) = record {
    outer = λ c. embed_width id address title anchors c;
    inner = λ c. omega arith;
  }
  node_narrow (anchor id) = record { outer = λ c. omega arith; inner = λ c. omega arith }
  node_narrow (element id r facts attributes content) =
      let e : Element = record {
        id = id;
        facts = facts;
        attributes = attributes;
        content = content;
        nodes = nodes_of content;
        rows = rows_among no_part content;
        pieces = pieces_of content;
        terms = terms_of content;
      } in
      let h : Known e = record {
        fit = nodes_narrow content;
        rows = rows_narrow no_part content;
        pieces = pieces_narrow content;
        terms = terms_narrow content;
      } in
      record {
        outer = λ c. element_width r e c h;
        inner = λ c. flow_width (nodes_of content) c (nodes_narrow content);
      }

  nodes_narrow : (ts : Simples) → AllNarrow (nodes_of ts)
  nodes_narrow none = tt
  nodes_narrow (more t ts) = (node_narrow t, nodes_narrow ts)

  below_narrow : (t : Simple) → AllNarrow (nodes_below t)
  below_narrow (text s) = tt
  below_narrow (image address attributes) = tt
  below_narrow (formula tex is_alone attributes) = tt
  below_narrow (embedded id address title attributes anchors) = tt
  below_narrow (anchor id) = tt
  below_narrow (element id r facts attributes content) = nodes_narrow content

  terms_narrow : (ts : Simples) → TermsNarrow (terms_of ts)
  terms_narrow none = tt
  terms_narrow (more t ts) =
      terms_both (parts_of_child (node_of t) (nodes_below t)) (terms_of ts)
      (child_narrow t (node_narrow t) (below_narrow t)) (terms_narrow ts)

  pieces_narrow : (ts : Simples) → PiecesNarrow (pieces_of ts)
  pieces_narrow none = tt
  pieces_narrow (more t ts) =
      pieces_both (pieces_at (node_of t) (rows_at no_part t)) (pieces_of ts)
      (piece_narrow (node_of t) (rows_at no_part t) (node_narrow t) (rows_at_narrow no_part t)) (pieces_narrow ts)

  rows_at_narrow : (p : TablePart) (t : Simple) → RowsNarrow (rows_at p t)
  rows_at_narrow p (text s) = tt
  rows_at_narrow p (image address attributes) = tt
  rows_at_narrow p (formula tex is_alone attributes) = tt
  rows_at_narrow p (embedded id address title attributes anchors) = tt
  rows_at_narrow p (anchor id) = tt
  rows_at_narrow p (element id r facts attributes content) =
      let t = element id r facts attributes content in
      row_narrow_if p t (nodes_of content) (rows_among (part_of t) content) (nodes_narrow content)
      (rows_narrow (part_of t) content)

  rows_narrow : (p : TablePart) (ts : Simples) → RowsNarrow (rows_among p ts)
  rows_narrow p none = tt
  rows_narrow p (more t ts) = rows_both (rows_at p t) (rows_among p ts) (rows_at_narrow p t) (rows_narrow p ts)

-- 32 lists and quotes in each other
pub margin_is_bounded : MarginIsBounded
margin_is_bounded is_rich trees =
    let c = bare_in is_rich in
    omega (
      arith,
      blocks_margin false (flow_all (nodes_of trees) c),
      flow_width (nodes_of trees) c (nodes_narrow trees),
    )
