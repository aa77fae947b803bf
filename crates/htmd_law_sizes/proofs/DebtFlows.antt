-- How much is repeated in the document of a simpler tree.
use Rattle.std.proofs.Common.{◌≡◌, refl, sym, ap, ℕ, ◌+◌, ◌≤◌, Bool, true, false, List, [], ◌∷◌, ◌++◌}
use Rattle.std.proofs.Common.{map, zero-mul, arith}
use Rattle.std.specs.Prelude.{not, ◌&&◌, if◌then◌else◌, None, is_some}
use Rattle.std.specs.List.{list_any}
use Rattle.htmd_shown.specs.Attributes.{address}
use Rattle.htmd_shown.specs.Kinds.{has, content_of}
use Rattle.htmd_shown.specs.Roles as roles
use Rattle.htmd_shown.specs.SimpleTrees.{Simple, text, image, formula, embedded, anchor, element, Simples, none, more}
use Rattle.htmd_flow.specs.Contexts.{Context, bare_in}
use Rattle.htmd_flow.specs.Flows.{Node, Row, TermPart, gap, of_node, Element, flow_all, image_parts}
use Rattle.htmd_flow.specs.Flows.{formula_parts, embed_parts}
use Rattle.htmd_flow.specs.Flows.{parts_of_child, no_part, part_of, leads_to, row_with, rows_if, node_of}
use Rattle.htmd_flow.specs.Flows.{nodes_of, nodes_below, terms_of, rows_among, rows_at, document_of, TablePiece}
use Rattle.htmd_flow.specs.Flows.{of_caption, of_row, pieces_at, pieces_of}
use Rattle.htmd_flow.specs.Levels.{list_of}
use Rattle.htmd_flow.specs.Parts.{place}
use Rattle.htmd_flow.specs.Terms.{is_group, is_term_or_meaning}
use Rattle.htmd_flow.specs.declared.table_form.TablePart.{TablePart}
use Rattle.htmd_law_sizes.proofs.Debts.{link_size, debt}
use Rattle.htmd_law_sizes.proofs.DebtNodes.{Due, AllDue, dues, opened, flow_cost}
use Rattle.htmd_law_sizes.proofs.DebtNodes.{TermsDue, terms_dues}
use Rattle.htmd_law_sizes.proofs.DebtParts.{rep, Costs, at_most, nothing}
use Rattle.htmd_law_sizes.proofs.DebtParts.{place_cost}
use Rattle.htmd_law_sizes.proofs.DebtParts.{blocks_cost}
use Rattle.htmd_law_sizes.proofs.DebtContexts.{here}
use Rattle.htmd_law_sizes.proofs.DebtRichTables.{PiecesDue, pieces_dues}
use Rattle.htmd_law_sizes.proofs.DebtTables.{RowsDue, rows_dues, both_due, dues_append, cells_due, cells_dues}
use Rattle.htmd_law_sizes.proofs.DebtTables.{captions_dues}
use Rattle.htmd_law_sizes.proofs.FlowCosts.{caption_alone}
use Rattle.htmd_law_sizes.proofs.Leaves.{leaves_among, own_among, due, due_among, inner_due, due_more}
use Rattle.htmd_law_sizes.proofs.Leaves.{inner_le, open_by, caption_open, row_open, part_open, division_open}
use Rattle.htmd_law_sizes.proofs.DebtElements.{image_cost, formula_cost, embed_cost, text_cost, Known, flow_in}
use Rattle.htmd_law_sizes.proofs.DebtElements.{element_cost}

-- ---- what nodes owe

node_tree : (t : Simple) → (node_of t).tree ≡ t
unfolding node_of
node_tree (text s) = refl
node_tree (image address attributes) = refl
node_tree (formula tex is_alone attributes) = refl
node_tree (embedded id address title attributes anchors) = refl
node_tree (anchor id) = refl
node_tree (element id r facts attributes content) = refl

nodes_dues : (k : ℕ) (ts : Simples) → dues k (nodes_of ts) ≤ due_among k ts
unfolding nodes_of
nodes_dues k none = omega arith
nodes_dues k (more t ts) = omega (arith, nodes_dues k ts, ap (due k) (node_tree t), due_more k t ts)

below_dues : (k : ℕ) (t : Simple) → dues k (nodes_below t) ≤ inner_due k t
unfolding nodes_below
below_dues k (text s) = omega arith
below_dues k (image address attributes) = omega arith
below_dues k (formula tex is_alone attributes) = omega arith
below_dues k (embedded id address title attributes anchors) = omega arith
below_dues k (anchor id) = omega arith
below_dues k (element id r facts attributes content) = nodes_dues k content

-- ---- terms

terms_append : (k : ℕ) (a b : List TermPart) → terms_dues k (a ++ b) ≡ terms_dues k a + terms_dues k b
terms_append k [] b = omega arith
terms_append k (gap ∷ a) b = terms_append k a b
terms_append k (of_node n ∷ a) b = omega (arith, terms_append k a b)

terms_both : (a b : List TermPart) → TermsDue a → TermsDue b → TermsDue (a ++ b)
terms_both [] b f g = g
terms_both (gap ∷ a) b f g = terms_both a b f g
terms_both (of_node n ∷ a) b f g = (f.0, terms_both a b f.1 g)

group_dues : (k : ℕ) (nodes : List Node) → terms_dues k (map of_node nodes) ≡ dues k nodes
group_dues k [] = refl
group_dues k (n ∷ nodes) = omega (arith, group_dues k nodes)

group_due : (nodes : List Node) → AllDue nodes → TermsDue (map of_node nodes)
group_due [] f = tt
group_due (n ∷ nodes) f = (f.0, group_due nodes f.1)

group_first : (a b : Bool) → (a && b) ≡ true → a ≡ true
group_first true b h = refl
group_first false b h = absurd (cc)

group_open : (t : Simple) → is_group t ≡ true → has roles.is_verbatim t ≡ false
group_open t e =
    open_by roles.is_division division_open t
    (group_first (has roles.is_division t) (list_any is_term_or_meaning (list_of (content_of t))) e)

child_dues : (k : ℕ) (t : Simple) → terms_dues k (parts_of_child (node_of t) (nodes_below t)) ≤ due k t
child_dues k t = go (is_group (node_of t).tree) (ap is_group (sym (node_tree t)))
  where
    go : (b : Bool) → is_group t ≡ b
        → terms_dues k (if b then gap ∷ map of_node (nodes_below t) ++ gap ∷ [] else of_node (node_of t) ∷ [])
        ≤ due k t
    go true e =
        omega (
          arith,
          terms_append k (map of_node (nodes_below t)) (gap ∷ []),
          group_dues k (nodes_below t),
          below_dues k t,
          inner_le k t (group_open t e),
        )
    go false e = omega (arith, ap (due k) (node_tree t))

child_due : (t : Simple) → Due (node_of t) → AllDue (nodes_below t)
    → TermsDue (parts_of_child (node_of t) (nodes_below t))
child_due t f g = go (is_group (node_of t).tree)
  where
    go : (b : Bool)
        → TermsDue (if b then gap ∷ map of_node (nodes_below t) ++ gap ∷ [] else of_node (node_of t) ∷ [])
    go true = terms_both (map of_node (nodes_below t)) (gap ∷ []) (group_due (nodes_below t) g) tt
    go false = (f, tt)

all_terms : (k : ℕ) (ts : Simples) → terms_dues k (terms_of ts) ≤ due_among k ts
unfolding terms_of
all_terms k none = omega arith
all_terms k (more t ts) =
    omega (
      arith,
      terms_append k (parts_of_child (node_of t) (nodes_below t)) (terms_of ts),
      child_dues k t,
      all_terms k ts,
      due_more k t ts,
    )

-- ---- rows

part_second : (a b : Bool) → (a && b) ≡ true → b ≡ true
part_second true b h = h
part_second false b h = absurd (cc)

-- of a node with rows in it
if_dues : (k : ℕ) (p : TablePart) (t : Simple) (nodes : List Node) (inner : List Row)
    → dues k nodes ≤ inner_due k t
    → rows_dues k inner ≤ inner_due k t → rows_dues k (rows_if p t nodes inner) ≤ due k t
if_dues k p t nodes inner h i = go (has roles.is_row t) refl (leads_to p t) refl
  where
    go : (a : Bool) → has roles.is_row t ≡ a → (b : Bool) → leads_to p t ≡ b
        → rows_dues k (if a then row_with p nodes else (if b then inner else [])) ≤ due k t
    go true e b g =
        omega (arith, cells_dues k nodes, h, inner_le k t (open_by roles.is_row row_open t e))
    go false e true g =
        omega (
          arith,
          i,
          inner_le k t
              (open_by roles.is_part part_open t (part_second (not (is_some p.id)) (has roles.is_part t) g)),
        )
    go false e false g = omega arith

mutual
  unfolding rows_at rows_among

  at_dues : (k : ℕ) (p : TablePart) (t : Simple) → rows_dues k (rows_at p t) ≤ due k t
  at_dues k p (text s) = omega arith
  at_dues k p (image address attributes) = omega arith
  at_dues k p (formula tex is_alone attributes) = omega arith
  at_dues k p (embedded id address title attributes anchors) = omega arith
  at_dues k p (anchor id) = omega arith
  at_dues k p (element id r facts attributes content) =
      let t = element id r facts attributes content in
      if_dues k p t (nodes_of content) (rows_among (part_of t) content) (nodes_dues k content)
      (among_dues k (part_of t) content)

  among_dues : (k : ℕ) (p : TablePart) (ts : Simples) → rows_dues k (rows_among p ts) ≤ due_among k ts
  among_dues k p none = omega arith
  among_dues k p (more t ts) =
      omega (
        arith,
        dues_append k (rows_at p t) (rows_among p ts),
        at_dues k p t,
        among_dues k p ts,
        due_more k t ts,
      )

-- the captions and the rows among the nodes of a table
caption_or_rows : (k : ℕ) (t : Simple)
    → (if has roles.is_caption (node_of t).tree then due k (node_of t).tree else 0)
    + rows_dues k (rows_at no_part t) ≤ due k t
unfolding node_of rows_at
caption_or_rows k (text s) = omega arith
caption_or_rows k (image address attributes) = omega arith
caption_or_rows k (formula tex is_alone attributes) = omega arith
caption_or_rows k (embedded id address title attributes anchors) = omega arith
caption_or_rows k (anchor id) = omega arith
caption_or_rows k (element id r facts attributes content) = go (roles.is_caption r) refl
  where
    t : Simple
    t = element id r facts attributes content

    inner : List Row
    inner = rows_among (part_of t) content

    none_here : (a b : Bool) → a ≡ false → b ≡ false
        → rows_dues k (if a then row_with no_part (nodes_of content) else (if b then inner else [])) ≡ 0
    none_here false false e f = refl
    none_here true b e f = absurd (cc)
    none_here false true e f = absurd (cc)

    go : (x : Bool) → roles.is_caption r ≡ x
        → (if x then due k t else 0) + rows_dues k (rows_at no_part t) ≤ due k t
    go true e =
        let a = caption_alone r e in
        omega (arith, none_here (roles.is_row r) (leads_to no_part t) a.0 a.1)
    go false e = omega (arith, at_dues k no_part t)

lined : (k : ℕ) (ts : Simples)
    → captions_dues k (nodes_of ts) + rows_dues k (rows_among no_part ts) ≤ due_among k ts
unfolding nodes_of rows_among
lined k none = omega arith
lined k (more t ts) =
    omega (
      arith,
      caption_or_rows k t,
      lined k ts,
      dues_append k (rows_at no_part t) (rows_among no_part ts),
      due_more k t ts,
    )

-- ---- captions and rows

pieces_append : (k : ℕ) (a b : List TablePiece) → pieces_dues k (a ++ b) ≡ pieces_dues k a + pieces_dues k b
pieces_append k [] b = omega arith
pieces_append k (of_caption n ∷ a) b = omega (arith, pieces_append k a b)
pieces_append k (of_row r ∷ a) b = omega (arith, pieces_append k a b)

pieces_both : (a b : List TablePiece) → PiecesDue a → PiecesDue b → PiecesDue (a ++ b)
pieces_both [] b f g = g
pieces_both (of_caption n ∷ a) b f g = (f.0, pieces_both a b f.1 g)
pieces_both (of_row r ∷ a) b f g = (f.0, pieces_both a b f.1 g)

all_rows : (k : ℕ) (rows : List Row) → pieces_dues k (map of_row rows) ≡ rows_dues k rows
all_rows k [] = refl
all_rows k (row ∷ rows) = omega (arith, all_rows k rows)

all_rows_due : (rows : List Row) → RowsDue rows → PiecesDue (map of_row rows)
all_rows_due [] f = tt
all_rows_due (row ∷ rows) f = (f.0, all_rows_due rows f.1)

piece_dues : (k : ℕ) (t : Simple) → pieces_dues k (pieces_at (node_of t) (rows_at no_part t)) ≤ due k t
piece_dues k t = go (has roles.is_caption (node_of t).tree)
  where
    go : (b : Bool)
        → pieces_dues k (if b then of_caption (node_of t) ∷ [] else map of_row (rows_at no_part t)) ≤ due k t
    go true = omega (arith, ap (due k) (node_tree t))
    go false = omega (arith, all_rows k (rows_at no_part t), at_dues k no_part t)

piece_due : (n : Node) (rows : List Row) → Due n → RowsDue rows → PiecesDue (pieces_at n rows)
piece_due n rows f g = go (has roles.is_caption n.tree) refl
  where
    go : (b : Bool) → has roles.is_caption n.tree ≡ b
        → PiecesDue (if b then of_caption n ∷ [] else map of_row rows)
    go true e = (record { cost = λ c. opened n c f (open_by roles.is_caption caption_open n.tree e) }, tt)
    go false e = all_rows_due rows g

all_pieces : (k : ℕ) (ts : Simples) → pieces_dues k (pieces_of ts) ≤ due_among k ts
unfolding pieces_of
all_pieces k none = omega arith
all_pieces k (more t ts) =
    omega (
      arith,
      pieces_append k (pieces_at (node_of t) (rows_at no_part t)) (pieces_of ts),
      piece_dues k t,
      all_pieces k ts,
      due_more k t ts,
    )

row_due_if : (p : TablePart) (t : Simple) (nodes : List Node) (inner : List Row) → AllDue nodes → RowsDue inner
    → RowsDue (rows_if p t nodes inner)
row_due_if p t nodes inner f g = go (has roles.is_row t) (leads_to p t)
  where
    go : (a b : Bool) → RowsDue (if a then row_with p nodes else (if b then inner else []))
    go true b = (cells_due nodes f, tt)
    go false true = g
    go false false = tt

-- ---- trees

nothing_in : (c : Context) (k : ℕ) → Costs c.is_flat [] k
nothing_in c k = at_most c.is_flat [] 0 k (omega arith) (nothing c.is_flat)

mutual
  unfolding node_of nodes_of nodes_below terms_of rows_at rows_among pieces_of

  node_due : (t : Simple) → Due (node_of t)
  node_due (text s) = record {
    outer = λ c. text_cost s c;
    inner = λ c. nothing_in c (inner_due (rep c.around) (text s));
  }
  node_due (image address attributes) = record {
    outer = λ c. at_most c.is_flat (image_parts address attributes c) (rep c.around)
        (due (rep c.around) (image address attributes)) (omega arith) (image_cost address attributes c);
    inner = λ c. nothing_in c (inner_due (rep c.around) (image address attributes));
  }
  node_due (formula tex is_alone attributes) = record {
    outer = λ c. at_most c.is_flat (formula_parts tex is_alone c) (rep c.around + 4)
        (due (rep c.around) (formula tex is_alone attributes)) (omega arith) (formula_cost tex is_alone c);
    inner = λ c. nothing_in c (inner_due (rep c.around) (formula tex is_alone attributes));
  }
  node_due (embedded id address title attributes anchors) = record {
    outer = λ c. at_most c.is_flat (embed_parts id address title anchors c) (rep c.around + link_size address None)
        (due (rep c.around) (embedded id address title attributes anchors)) (omega arith)
        (embed_cost id address title anchors c);
    inner = λ c. nothing_in c (inner_due (rep c.around) (embedded id address title attributes anchors));
  }
  node_due (anchor id) = record {
    outer = λ c. at_most c.is_flat (place id ∷ []) 0 (due (rep c.around) (anchor id)) (omega arith)
        (place_cost c.is_flat id);
    inner = λ c. nothing_in c (inner_due (rep c.around) (anchor id));
  }
  node_due (element id r facts attributes content) =
      let e : Element = record {
        id = id;
        facts = facts;
        attributes = attributes;
        content = content;
        nodes = nodes_of content;
        rows = rows_among no_part content;
        pieces = pieces_of content;
        terms = terms_of content;
      } in
      let h : Known e = record {
        fit = nodes_due content;
        paid = λ k. nodes_dues k content;
        rows = rows_due no_part content;
        pieces = pieces_due content;
        pieced = λ k. all_pieces k content;
        lined = λ k. lined k content;
        terms = terms_due content;
        termed = λ k. all_terms k content;
      } in
      record {
        outer = λ c. element_cost r e c h;
        inner = λ c. flow_in e c c (rep c.around) h (here c);
      }

  nodes_due : (ts : Simples) → AllDue (nodes_of ts)
  nodes_due none = tt
  nodes_due (more t ts) = (node_due t, nodes_due ts)

  below_due : (t : Simple) → AllDue (nodes_below t)
  below_due (text s) = tt
  below_due (image address attributes) = tt
  below_due (formula tex is_alone attributes) = tt
  below_due (embedded id address title attributes anchors) = tt
  below_due (anchor id) = tt
  below_due (element id r facts attributes content) = nodes_due content

  terms_due : (ts : Simples) → TermsDue (terms_of ts)
  terms_due none = tt
  terms_due (more t ts) =
      terms_both (parts_of_child (node_of t) (nodes_below t)) (terms_of ts) (child_due t (node_due t) (below_due t))
      (terms_due ts)

  pieces_due : (ts : Simples) → PiecesDue (pieces_of ts)
  pieces_due none = tt
  pieces_due (more t ts) =
      pieces_both (pieces_at (node_of t) (rows_at no_part t)) (pieces_of ts)
      (piece_due (node_of t) (rows_at no_part t) (node_due t) (rows_at_due no_part t)) (pieces_due ts)

  rows_at_due : (p : TablePart) (t : Simple) → RowsDue (rows_at p t)
  rows_at_due p (text s) = tt
  rows_at_due p (image address attributes) = tt
  rows_at_due p (formula tex is_alone attributes) = tt
  rows_at_due p (embedded id address title attributes anchors) = tt
  rows_at_due p (anchor id) = tt
  rows_at_due p (element id r facts attributes content) =
      let t = element id r facts attributes content in
      row_due_if p t (nodes_of content) (rows_among (part_of t) content) (nodes_due content)
      (rows_due (part_of t) content)

  rows_due : (p : TablePart) (ts : Simples) → RowsDue (rows_among p ts)
  rows_due p none = tt
  rows_due p (more t ts) = both_due (rows_at p t) (rows_among p ts) (rows_at_due p t) (rows_due p ts)

-- what its links and abbreviations say for each leaf in them, its languages, and what it embeds
pub debt_le : (is_rich : Bool) (trees : Simples) → debt (document_of is_rich trees) ≤ own_among trees
debt_le is_rich trees =
    let c = bare_in is_rich in
    omega (
      arith,
      blocks_cost false false (flow_all (nodes_of trees) c) (dues 0 (nodes_of trees)) refl
          (flow_cost (nodes_of trees) c (nodes_due trees)),
      nodes_dues 0 trees,
      zero-mul (leaves_among trees),
    )
