-- How big the document of a simpler tree is, the addresses of its links aside.
use Rattle.std.proofs.Common.{◌≡◌, refl, ap, ℕ, suc, ◌+◌, ◌*◌, ◌≤◌, Bool, true, false, List, [], ◌∷◌, ◌++◌}
use Rattle.std.proofs.Common.{map, arith}
use Rattle.std.specs.Prelude.{filter, if◌then◌else◌}
use Rattle.htmd_shown.specs.declared.role.Role.{Role}
use Rattle.htmd_shown.specs.declared.role.Role.TheVariants as role
use Rattle.htmd_shown.specs.Kinds.{has}
use Rattle.htmd_shown.specs.Roles as roles
use Rattle.htmd_shown.specs.SimpleTrees.{Simple, text, image, formula, embedded, anchor, element, Simples, none, more}
use Rattle.htmd_flow.specs.Contexts.{bare_in}
use Rattle.htmd_flow.specs.Flows.{Node, Row, TermPart, gap, of_node, Element, flow_all, is_cell, parts_of_child, no_part}
use Rattle.htmd_flow.specs.Flows.{part_of, leads_to, row_with, rows_if, node_of, nodes_of, nodes_below, terms_of}
use Rattle.htmd_flow.specs.Flows.{rows_among, rows_at, TablePiece, of_caption, of_row, pieces_at, pieces_of, document_of}
use Rattle.htmd_flow.specs.Terms.{is_group}
use Rattle.htmd_flow.specs.declared.table_form.TablePart.{TablePart}
use Rattle.htmd_law_sizes.specs.SimpleSizes.{size_of_simple, size_of_simples}
use Rattle.htmd_law_sizes.specs.SizeLaws.{FlowIsBounded}
use Rattle.htmd_law_sizes.specs.TreeSizes.{size_of_values}
use Rattle.htmd_law_sizes.proofs.ContextRooms.{bare_within}
use Rattle.htmd_law_sizes.proofs.ElementCosts.{Known, run_le, image_cost, formula_cost, embed_cost, element_le}
use Rattle.htmd_law_sizes.proofs.HeavySizes.{lean_le}
use Rattle.htmd_law_sizes.proofs.NodeCosts.{Fit, AllFit, worth, flow_le}
use Rattle.htmd_law_sizes.proofs.PartCosts.{blocks_cost}
use Rattle.htmd_law_sizes.proofs.RichTableCosts.{PiecesFit, pieces_worth}
use Rattle.htmd_law_sizes.proofs.TableCosts.{RowsFit, rows_worth, both_fit, worth_append, cells_fit, captions_worth}
use Rattle.htmd_law_sizes.proofs.TermCosts.{TermsFit, terms_worth}

-- ---- what nodes are worth

node_tree : (t : Simple) → (node_of t).tree ≡ t
unfolding node_of
node_tree (text s) = refl
node_tree (image address attributes) = refl
node_tree (formula tex is_alone attributes) = refl
node_tree (embedded id address title attributes anchors) = refl
node_tree (anchor id) = refl
node_tree (element id r facts attributes content) = refl

worth_nodes : (ts : Simples) → worth (nodes_of ts) ≡ 400 * size_of_simples ts
unfolding nodes_of
worth_nodes none = refl
worth_nodes (more t ts) = omega (arith, worth_nodes ts, ap size_of_simple (node_tree t))

below_le : (t : Simple) → worth (nodes_below t) ≤ 400 * size_of_simple t
unfolding nodes_below
below_le (text s) = omega arith
below_le (image address attributes) = omega arith
below_le (formula tex is_alone attributes) = omega arith
below_le (embedded id address title attributes anchors) = omega arith
below_le (anchor id) = omega arith
below_le (element id r facts attributes content) = omega (arith, worth_nodes content)

-- ---- terms

terms_append : (a b : List TermPart) → terms_worth (a ++ b) ≡ terms_worth a + terms_worth b
terms_append [] b = omega arith
terms_append (gap ∷ a) b = terms_append a b
terms_append (of_node n ∷ a) b = omega (arith, terms_append a b)

terms_both : (a b : List TermPart) → TermsFit a → TermsFit b → TermsFit (a ++ b)
terms_both [] b f g = g
terms_both (gap ∷ a) b f g = terms_both a b f g
terms_both (of_node n ∷ a) b f g = (f.0, terms_both a b f.1 g)

group_worth : (nodes : List Node) → terms_worth (map of_node nodes) ≡ worth nodes
group_worth [] = refl
group_worth (n ∷ nodes) = omega (arith, group_worth nodes)

group_fit : (nodes : List Node) → AllFit nodes → TermsFit (map of_node nodes)
group_fit [] f = tt
group_fit (n ∷ nodes) f = (f.0, group_fit nodes f.1)

child_worth : (t : Simple) → terms_worth (parts_of_child (node_of t) (nodes_below t)) ≤ 400 * size_of_simple t
child_worth t = go (is_group (node_of t).tree)
  where
    go : (b : Bool)
        → terms_worth
        (if b then gap ∷ map of_node (nodes_below t) ++ gap ∷ [] else of_node (node_of t) ∷ [])
        ≤ 400 * size_of_simple t
    go true =
        omega (
          arith,
          terms_append (map of_node (nodes_below t)) (gap ∷ []),
          group_worth (nodes_below t),
          below_le t,
        )
    go false = omega (arith, ap size_of_simple (node_tree t))

child_fit : (t : Simple) → Fit (node_of t) → AllFit (nodes_below t)
    → TermsFit (parts_of_child (node_of t) (nodes_below t))
child_fit t f g = go (is_group (node_of t).tree)
  where
    go : (b : Bool)
        → TermsFit (if b then gap ∷ map of_node (nodes_below t) ++ gap ∷ [] else of_node (node_of t) ∷ [])
    go true = terms_both (map of_node (nodes_below t)) (gap ∷ []) (group_fit (nodes_below t) g) tt
    go false = (f, tt)

terms_paid : (ts : Simples) → terms_worth (terms_of ts) ≤ 400 * size_of_simples ts
unfolding terms_of
terms_paid none = omega arith
terms_paid (more t ts) =
    omega (
      arith,
      terms_append (parts_of_child (node_of t) (nodes_below t)) (terms_of ts),
      child_worth t,
      terms_paid ts,
    )

-- ---- rows

filtered_worth : (nodes : List Node) → worth (filter is_cell nodes) ≤ worth nodes
filtered_worth [] = omega arith
filtered_worth (n ∷ nodes) = go (is_cell n) (filtered_worth nodes)
  where
    go : (t : Bool) → worth (filter is_cell nodes) ≤ worth nodes
        → worth (if t then n ∷ filter is_cell nodes else filter is_cell nodes)
        ≤ 400 * size_of_simple n.tree + worth nodes
    go true i = omega (arith, i)
    go false i = omega (arith, i)

-- of a node with rows in it
if_worth : (p : TablePart) (t : Simple) (nodes : List Node) (inner : List Row) (k : ℕ) → worth nodes ≤ 400 * k
    → rows_worth inner ≤ 400 * k → rows_worth (rows_if p t nodes inner) ≤ 400 * suc k
if_worth p t nodes inner k h i = go (has roles.is_row t) (leads_to p t)
  where
    go : (a b : Bool)
        → rows_worth (if a then row_with p nodes else (if b then inner else [])) ≤ 400 * suc k
    go true b = omega (arith, filtered_worth nodes, h)
    go false true = omega (arith, i)
    go false false = omega arith

mutual
  unfolding rows_at rows_among

  rows_at_le : (p : TablePart) (t : Simple) → rows_worth (rows_at p t) ≤ 400 * size_of_simple t
  rows_at_le p (text s) = omega arith
  rows_at_le p (image address attributes) = omega arith
  rows_at_le p (formula tex is_alone attributes) = omega arith
  rows_at_le p (embedded id address title attributes anchors) = omega arith
  rows_at_le p (anchor id) = omega arith
  rows_at_le p (element id r facts attributes content) =
      let t = element id r facts attributes content in
      omega (
        arith,
        if_worth p t (nodes_of content) (rows_among (part_of t) content) (size_of_simples content)
            (omega (arith, worth_nodes content)) (rows_among_le (part_of t) content),
      )

  rows_among_le : (p : TablePart) (ts : Simples) → rows_worth (rows_among p ts) ≤ 400 * size_of_simples ts
  rows_among_le p none = omega arith
  rows_among_le p (more t ts) =
      omega (arith, worth_append (rows_at p t) (rows_among p ts), rows_at_le p t, rows_among_le p ts)

-- a caption is no row, and no part
pub caption_alone : (r : Role) → roles.is_caption r ≡ true
    → (roles.is_row r ≡ false) × (roles.is_part r ≡ false)
caption_alone (role.Format f) h = absurd (cc)
caption_alone (role.Element f) h = absurd (cc)
caption_alone role.Abbreviation h = absurd (cc)
caption_alone role.Code h = absurd (cc)
caption_alone role.Typed h = absurd (cc)
caption_alone role.Link h = absurd (cc)
caption_alone role.Target h = absurd (cc)
caption_alone role.Apart h = absurd (cc)
caption_alone role.LineBreak h = absurd (cc)
caption_alone role.Input h = absurd (cc)
caption_alone (role.Heading level) h = absurd (cc)
caption_alone role.Paragraph h = absurd (cc)
caption_alone role.Preformatted h = absurd (cc)
caption_alone role.Verbatim h = absurd (cc)
caption_alone role.BlockQuote h = absurd (cc)
caption_alone role.ThematicBreak h = absurd (cc)
caption_alone role.BulletList h = absurd (cc)
caption_alone role.NumberedList h = absurd (cc)
caption_alone role.Item h = absurd (cc)
caption_alone role.Terms h = absurd (cc)
caption_alone role.Term h = absurd (cc)
caption_alone role.Meaning h = absurd (cc)
caption_alone role.Table h = absurd (cc)
caption_alone role.LayoutTable h = absurd (cc)
caption_alone role.Caption h = (refl, refl)
caption_alone role.TableHead h = absurd (cc)
caption_alone role.TableBody h = absurd (cc)
caption_alone role.Row h = absurd (cc)
caption_alone role.Cell h = absurd (cc)
caption_alone role.HeaderCell h = absurd (cc)
caption_alone role.Division h = absurd (cc)
caption_alone role.Figure h = absurd (cc)
caption_alone role.FigureCaption h = absurd (cc)
caption_alone role.Details h = absurd (cc)
caption_alone role.Summary h = absurd (cc)
caption_alone role.Legend h = absurd (cc)
caption_alone role.Block h = absurd (cc)
caption_alone role.Plain h = absurd (cc)
caption_alone role.Anchors h = absurd (cc)
caption_alone role.Unlinked h = absurd (cc)

-- the captions and the rows among the nodes of a table
caption_or_rows : (t : Simple)
    → (if has roles.is_caption (node_of t).tree then 400 * size_of_simple (node_of t).tree else 0)
    + rows_worth (rows_at no_part t) ≤ 400 * size_of_simple t
unfolding node_of rows_at
caption_or_rows (text s) = omega arith
caption_or_rows (image address attributes) = omega arith
caption_or_rows (formula tex is_alone attributes) = omega arith
caption_or_rows (embedded id address title attributes anchors) = omega arith
caption_or_rows (anchor id) = omega arith
caption_or_rows (element id r facts attributes content) = go (roles.is_caption r) refl
  where
    t : Simple
    t = element id r facts attributes content

    inner : List Row
    inner = rows_among (part_of t) content

    none_here : (a b : Bool) → a ≡ false → b ≡ false
        → rows_worth (if a then row_with no_part (nodes_of content) else (if b then inner else [])) ≡ 0
    none_here false false e f = refl
    none_here true b e f = absurd (cc)
    none_here false true e f = absurd (cc)

    go : (x : Bool) → roles.is_caption r ≡ x
        → (if x then 400 * size_of_simple t else 0) + rows_worth (rows_at no_part t) ≤ 400 * size_of_simple t
    go true e =
        let a = caption_alone r e in
        omega (arith, none_here (roles.is_row r) (leads_to no_part t) a.0 a.1)
    go false e = omega (arith, rows_at_le no_part t)

lined : (ts : Simples)
    → captions_worth (nodes_of ts) + rows_worth (rows_among no_part ts) ≤ 400 * size_of_simples ts
unfolding nodes_of rows_among
lined none = omega arith
lined (more t ts) =
    omega (arith, caption_or_rows t, lined ts, worth_append (rows_at no_part t) (rows_among no_part ts))

-- ---- captions and rows

pieces_append : (a b : List TablePiece) → pieces_worth (a ++ b) ≡ pieces_worth a + pieces_worth b
pieces_append [] b = omega arith
pieces_append (of_caption n ∷ a) b = omega (arith, pieces_append a b)
pieces_append (of_row r ∷ a) b = omega (arith, pieces_append a b)

pieces_both : (a b : List TablePiece) → PiecesFit a → PiecesFit b → PiecesFit (a ++ b)
pieces_both [] b f g = g
pieces_both (of_caption n ∷ a) b f g = (f.0, pieces_both a b f.1 g)
pieces_both (of_row r ∷ a) b f g = (f.0, pieces_both a b f.1 g)

all_rows : (rows : List Row) → pieces_worth (map of_row rows) ≡ rows_worth rows
all_rows [] = refl
all_rows (row ∷ rows) = omega (arith, all_rows rows)

all_rows_fit : (rows : List Row) → RowsFit rows → PiecesFit (map of_row rows)
all_rows_fit [] f = tt
all_rows_fit (row ∷ rows) f = (f.0, all_rows_fit rows f.1)

piece_worth : (t : Simple) → pieces_worth (pieces_at (node_of t) (rows_at no_part t)) ≤ 400 * size_of_simple t
piece_worth t = go (has roles.is_caption (node_of t).tree)
  where
    go : (b : Bool)
        → pieces_worth (if b then of_caption (node_of t) ∷ [] else map of_row (rows_at no_part t))
        ≤ 400 * size_of_simple t
    go true = omega (arith, ap size_of_simple (node_tree t))
    go false = omega (arith, all_rows (rows_at no_part t), rows_at_le no_part t)

piece_fit : (t : Simple) → Fit (node_of t) → RowsFit (rows_at no_part t)
    → PiecesFit (pieces_at (node_of t) (rows_at no_part t))
piece_fit t f g = go (has roles.is_caption (node_of t).tree)
  where
    go : (b : Bool) → PiecesFit (if b then of_caption (node_of t) ∷ [] else map of_row (rows_at no_part t))
    go true = (f, tt)
    go false = all_rows_fit (rows_at no_part t) g

pieces_paid : (ts : Simples) → pieces_worth (pieces_of ts) ≤ 400 * size_of_simples ts
unfolding pieces_of
pieces_paid none = omega arith
pieces_paid (more t ts) =
    omega (
      arith,
      pieces_append (pieces_at (node_of t) (rows_at no_part t)) (pieces_of ts),
      piece_worth t,
      pieces_paid ts,
    )

-- ---- trees

row_fit : (p : TablePart) (t : Simple) (nodes : List Node) (inner : List Row) → AllFit nodes → RowsFit inner
    → RowsFit (rows_if p t nodes inner)
row_fit p t nodes inner f g = go (has roles.is_row t) (leads_to p t)
  where
    go : (a b : Bool) → RowsFit (if a then row_with p nodes else (if b then inner else []))
    go true b = ((cells_fit nodes f).0, tt)
    go false true = g
    go false false = tt

mutual
  unfolding node_of nodes_of nodes_below terms_of rows_at rows_among pieces_of

  node_fit : (t : Simple) → Fit (node_of t)
  node_fit (text s) = record {
    outer = λ c w. omega (arith, run_le s c w);
    inner = λ c w. omega arith;
  }
  node_fit (image address attributes) = record {
    outer = λ c w. image_cost address attributes c w;
    inner = λ c w. omega arith;
  }
  node_fit (formula tex is_alone attributes) = record {
    outer = λ c w. formula_cost tex is_alone c (size_of_values attributes) w;
    inner = λ c w. omega arith;
  }
  node_fit (embedded id address title attributes anchors) = record {
    outer = λ c w. embed_cost id address title anchors c (size_of_values attributes) w;
    inner = λ c w. omega arith;
  }
  node_fit (anchor id) = record {
    outer = λ c w. omega arith;
    inner = λ c w. omega arith;
  }
  node_fit (element id r facts attributes content) =
      let f = nodes_fit content in
      let e : Element = record {
        id = id;
        facts = facts;
        attributes = attributes;
        content = content;
        nodes = nodes_of content;
        rows = rows_among no_part content;
        pieces = pieces_of content;
        terms = terms_of content;
      } in
      let h : Known e (size_of_simples content) = record {
        fit = f;
        paid = omega (arith, worth_nodes content);
        rows = rows_fit no_part content;
        lined = lined content;
        pieces = pieces_fit content;
        pieced = pieces_paid content;
        terms = terms_fit content;
        termed = terms_paid content;
        inside = refl;
      } in
      record {
        outer = λ c w. element_le r e (size_of_simples content) c h w;
        inner = λ c w. omega (arith, flow_le (nodes_of content) c f w, worth_nodes content);
      }

  nodes_fit : (ts : Simples) → AllFit (nodes_of ts)
  nodes_fit none = tt
  nodes_fit (more t ts) = (node_fit t, nodes_fit ts)

  below_fit : (t : Simple) → AllFit (nodes_below t)
  below_fit (text s) = tt
  below_fit (image address attributes) = tt
  below_fit (formula tex is_alone attributes) = tt
  below_fit (embedded id address title attributes anchors) = tt
  below_fit (anchor id) = tt
  below_fit (element id r facts attributes content) = nodes_fit content

  terms_fit : (ts : Simples) → TermsFit (terms_of ts)
  terms_fit none = tt
  terms_fit (more t ts) =
      terms_both (parts_of_child (node_of t) (nodes_below t)) (terms_of ts)
      (child_fit t (node_fit t) (below_fit t)) (terms_fit ts)

  pieces_fit : (ts : Simples) → PiecesFit (pieces_of ts)
  pieces_fit none = tt
  pieces_fit (more t ts) =
      pieces_both (pieces_at (node_of t) (rows_at no_part t)) (pieces_of ts)
      (piece_fit t (node_fit t) (rows_at_fit no_part t)) (pieces_fit ts)

  rows_at_fit : (p : TablePart) (t : Simple) → RowsFit (rows_at p t)
  rows_at_fit p (text s) = tt
  rows_at_fit p (image address attributes) = tt
  rows_at_fit p (formula tex is_alone attributes) = tt
  rows_at_fit p (embedded id address title attributes anchors) = tt
  rows_at_fit p (anchor id) = tt
  rows_at_fit p (element id r facts attributes content) =
      let t = element id r facts attributes content in
      row_fit p t (nodes_of content) (rows_among (part_of t) content) (nodes_fit content)
      (rows_fit (part_of t) content)

  rows_fit : (p : TablePart) (ts : Simples) → RowsFit (rows_among p ts)
  rows_fit p none = tt
  rows_fit p (more t ts) = both_fit (rows_at p t) (rows_among p ts) (rows_at_fit p t) (rows_fit p ts)

pub flow_is_bounded : FlowIsBounded
flow_is_bounded is_rich trees =
    let c = bare_in is_rich in
    omega (
      arith,
      lean_le (document_of is_rich trees),
      blocks_cost false (flow_all (nodes_of trees) c),
      flow_le (nodes_of trees) c (nodes_fit trees) bare_within,
      worth_nodes trees,
    )
