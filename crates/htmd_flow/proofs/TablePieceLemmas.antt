-- Captions and rows of a table, one after another.
use Rattle.std.proofs.Common.{◌≡◌, ℕ, suc, ◌+◌, ◌<◌, ◌≤◌, Bool, true, false, cond, ◌&&◌, ◌||◌, List, [], ◌∷◌, ◌++◌}
use Rattle.std.proofs.Common.{length, get_or, drop, map, filter, refl, sym, ap, ◌∙◌, arith, append_assoc, subst, zero}
use Rattle.std.specs.List.{list_any}
use Rattle.std.specs.Prelude.{Option, max}
use Rattle.std.proofs.lemmas.List.{map-append, append-nil, drop_all, map_push}
use Rattle.htmd_lexical.proofs.Cases.{test}
use Rattle.htmd_shown.specs.declared.simple.Simple.{Simple}
use Rattle.htmd_document.specs.declared.document.Alignment.{Alignment}
use Rattle.htmd_document.specs.Documents as documents
use Rattle.htmd_shown.specs.Attributes.{wide_span, row_span, alignment}
use Rattle.htmd_shown.specs.Kinds.{has, content_of}
use Rattle.htmd_shown.specs.Roles as roles
use Rattle.htmd_shown.specs.declared.role.Role.{Role}
use Rattle.htmd_shown.specs.declared.role.Role.TheVariants as role
use Rattle.htmd_shown.specs.SimpleTrees as value
use Rattle.htmd_shown.specs.SimpleViews.{simple_of, simples_of}
use Rattle.htmd_flow.specs.declared.table_form.TablePart.{TablePart}
use Rattle.htmd_flow.specs.declared.table_pieces.TablePiece as source
use Rattle.htmd_flow.specs.Grids as grid
use Rattle.htmd_flow.specs.Contexts.{Context}
use Rattle.htmd_flow.specs.Flows as spec
use Rattle.htmd_flow.specs.Flows.{Node, Row, is_cell, node_of, rows_at, rows_among, no_part, part_of, nodes_of}
use Rattle.htmd_flow.specs.Flows.{pieces_of, pieces_at, of_caption, of_row, row_with}
use Rattle.htmd_flow.specs.FlowViews.{node_at, nodes_at}
use Rattle.htmd_flow.specs.Levels.{height, height_among, highest}
use Rattle.htmd_flow.specs.PieceViews as views
use Rattle.htmd_flow.specs.PieceViews.{pieces_in, piece_of, cell_is}
use Rattle.htmd_flow.specs.TableElements as tables
use Rattle.htmd_flow.specs.Tables.{cells_len}
use Rattle.htmd_flow.proofs.LoopsLemmas.{at_place}
use Rattle.htmd_flow.proofs.NodesLemmas.{tree_is, content_is, height_is, nodes_are}
use Rattle.htmd_flow.proofs.TableRowsLemmas.{rows_next, rows_end}

-- ---- the cells of a row

cell_at : (t : Simple) → is_cell (node_at t) ≡ has roles.is_cell (simple_of t)
cell_at t = ap (has roles.is_cell) (tree_is (simple_of t))

-- a cell that is so is among the nodes of the row
pub cells_any : (is_so : value.Simple → Bool) (ts : List Simple)
    → list_any (cell_is is_so) (map simple_of ts)
    ≡ list_any (λ (n : Node). is_so n.tree) (filter is_cell (nodes_at ts))
cells_any is_so [] = refl
cells_any is_so (t ∷ ts) = test (is_cell (node_at t))
    (λ h. ap (λ b. (b && is_so (simple_of t)) || list_any (cell_is is_so) (map simple_of ts)) (sym (cell_at t) ∙ h)
    ∙ ap (λ b. is_so (simple_of t) || b) (cells_any is_so ts)
    ∙ ap (λ s. is_so s || list_any (λ (n : Node). is_so n.tree) (filter is_cell (nodes_at ts)))
    (sym (tree_is (simple_of t)))
    ∙ sym (ap (λ b. list_any (λ (n : Node). is_so n.tree)
    (cond b (node_at t ∷ filter is_cell (nodes_at ts)) (filter is_cell (nodes_at ts)))) h))
    (λ h. ap (λ b. (b && is_so (simple_of t)) || list_any (cell_is is_so) (map simple_of ts)) (sym (cell_at t) ∙ h)
    ∙ cells_any is_so ts
    ∙ sym (ap (λ b. list_any (λ (n : Node). is_so n.tree)
    (cond b (node_at t ∷ filter is_cell (nodes_at ts)) (filter is_cell (nodes_at ts)))) h))

pub cells_count : (ts : List Simple) → cells_len (map simple_of ts) ≡ length (filter is_cell (nodes_at ts))
cells_count [] = refl
cells_count (t ∷ ts) = test (is_cell (node_at t))
    (λ h. ap (λ b. length (cond b (simple_of t ∷ filter (has roles.is_cell) (map simple_of ts))
    (filter (has roles.is_cell) (map simple_of ts)))) (sym (cell_at t) ∙ h)
    ∙ ap suc (cells_count ts)
    ∙ sym (ap (λ b. length (cond b (node_at t ∷ filter is_cell (nodes_at ts)) (filter is_cell (nodes_at ts)))) h))
    (λ h. ap (λ b. length (cond b (simple_of t ∷ filter (has roles.is_cell) (map simple_of ts))
    (filter (has roles.is_cell) (map simple_of ts)))) (sym (cell_at t) ∙ h)
    ∙ cells_count ts
    ∙ sym (ap (λ b. length (cond b (node_at t ∷ filter is_cell (nodes_at ts)) (filter is_cell (nodes_at ts)))) h))

-- ---- the pieces of a table

pub pieces_next : (ts : List Simple) (k : ℕ) (t : Simple) → k < length ts → t ≡ get_or ts k t
    → pieces_of (simples_of (drop k ts))
    ≡ pieces_at (node_at t) (rows_at no_part (simple_of t)) ++ pieces_of (simples_of (drop (k + 1) ts))
unfolding pieces_of
pieces_next ts k t l e = ap (λ xs. pieces_of (simples_of xs)) (at_place ts k t l e)

pub pieces_end : (ts : List Simple) (k : ℕ) → length ts ≤ k → pieces_of (simples_of (drop k ts)) ≡ []
unfolding pieces_of
pieces_end ts k l = ap (λ xs. pieces_of (simples_of xs)) (drop_all k ts l)

pub caption_at : (t : Simple) (rows : List Row) → has roles.is_caption (simple_of t) ≡ true
    → pieces_at (node_at t) rows ≡ of_caption (node_at t) ∷ []
caption_at t rows h =
    ap (λ b. cond b (of_caption (node_at t) ∷ []) (map of_row rows))
    (ap (has roles.is_caption) (tree_is (simple_of t)) ∙ h)

pub no_caption_at : (t : Simple) (rows : List Row) → has roles.is_caption (simple_of t) ≡ false
    → pieces_at (node_at t) rows ≡ map of_row rows
no_caption_at t rows h =
    ap (λ b. cond b (of_caption (node_at t) ∷ []) (map of_row rows))
    (ap (has roles.is_caption) (tree_is (simple_of t)) ∙ h)

-- pieces after others
pub pieces_step : {A : Type 0} (old now new rest before whole : List A) → new ≡ now ++ old
    → before ≡ old ++ rest
    → now ++ before ≡ whole → new ++ rest ≡ whole
pieces_step old now new rest before whole e f h =
    ap (λ xs. xs ++ rest) e ∙ append_assoc now old rest ∙ ap (λ xs. now ++ xs) (sym f) ∙ h

pub pieces_done : {A : Type 0} (now rest whole : List A) → rest ≡ [] → now ++ rest ≡ whole → now ≡ whole
pieces_done now rest whole e h = sym (append-nil now) ∙ ap (λ xs. now ++ xs) (sym e) ∙ h

pub rows_mapped : (p : TablePart) (ts : List Simple) (k : ℕ) (t : Simple) → k < length ts → t ≡ get_or ts k t
    → map of_row (rows_among p (simples_of (drop k ts)))
    ≡ map of_row (rows_at p (simple_of t)) ++ map of_row (rows_among p (simples_of (drop (k + 1) ts)))
rows_mapped p ts k t l e =
    ap (map of_row) (rows_next p ts k t l e)
    ∙ map-append of_row (rows_at p (simple_of t)) (rows_among p (simples_of (drop (k + 1) ts)))

pub rows_mapped_end : (p : TablePart) (ts : List Simple) (k : ℕ) → length ts ≤ k
    → map of_row (rows_among p (simples_of (drop k ts))) ≡ []
rows_mapped_end p ts k l = ap (map of_row) (rows_end p ts k l)

-- ---- with their blocks

pub made_step : {A B : Type 0} (view : A → B) (made new : List A) (x : A) (y : B) (rest all : List B)
    → new ≡ made ++ x ∷ [] → view x ≡ y → all ≡ y ∷ rest
    → map view new ++ rest ≡ map view made ++ all
made_step view made new x y rest all h is e =
    ap (λ xs. map view xs ++ rest) h
    ∙ ap (λ xs. xs ++ rest) (map_push view made x)
    ∙ append_assoc (map view made) (view x ∷ []) rest
    ∙ ap (λ z. map view made ++ z ∷ rest) is
    ∙ sym (ap (λ xs. map view made ++ xs) e)

pub made_done : {A B : Type 0} (view : A → B) (made : List A) (rest whole : List B) → rest ≡ []
    → map view made ++ rest ≡ whole → map view made ≡ whole
made_done view made rest whole e h = sym (append-nil (map view made)) ∙ ap (λ xs. map view made ++ xs) (sym e) ∙ h

pub kept_at : (f : spec.TablePiece → tables.Piece) (ps : List source.TablePiece) (k : ℕ) (p : source.TablePiece)
    → k < length ps → p ≡ get_or ps k p
    → map f (pieces_in (drop k ps)) ≡ f (piece_of p) ∷ map f (pieces_in (drop (k + 1) ps))
kept_at f ps k p l e = ap (λ xs. map f (pieces_in xs)) (at_place ps k p l e)

pub kept_end : (f : spec.TablePiece → tables.Piece) (ps : List source.TablePiece) (k : ℕ) → length ps ≤ k
    → map f (pieces_in (drop k ps)) ≡ []
kept_end f ps k l = ap (λ xs. map f (pieces_in xs)) (drop_all k ps l)

-- a cell with its blocks
pub rich_cell_with : (has_spans is_in_head : Bool) (context inner : Context) (t : Simple) (content : List Simple)
    (header : Bool) (columns rows : ℕ) (a : Alignment) (made : documents.Blocks)
    → simples_of content ≡ content_of (simple_of t)
    → inner ≡ spec.in_cell (simple_of t) context
    → header ≡ spec.is_header is_in_head (simple_of t)
    → columns ≡ wide_span (spec.attributes_of (simple_of t))
    → rows ≡ cond has_spans (row_span (spec.attributes_of (simple_of t))) 1
    → a ≡ alignment (spec.attributes_of (simple_of t))
    → made ≡ spec.blocks_of false (spec.flow_all (nodes_at content) inner)
    → ◌≡◌ {A = tables.Cell}
    (record { is_header = header; columns = columns; rows = rows; alignment = a; content = made })
    (spec.cell_with_blocks has_spans is_in_head context (node_at t))
rich_cell_with has_spans is_in_head context inner t content header columns rows a made e i hh hc hr ha hb =
    let tree = sym (tree_is (simple_of t)) in
    let h = hh ∙ ap (spec.is_header is_in_head) tree in
    let k = hc ∙ ap (λ x. wide_span (spec.attributes_of x)) tree in
    let r = hr ∙ ap (λ x. cond has_spans (row_span (spec.attributes_of x)) 1) tree in
    let b = ha ∙ ap (λ x. alignment (spec.attributes_of x)) tree in
    let l = hb ∙ ap (spec.blocks_of false) (content_is (simple_of t) content inner e
    ∙ ap (node_at t).content (i ∙ ap (λ x. spec.in_cell x context) tree)) in
    (λ j. record { is_header = h j; columns = k j; rows = r j; alignment = b j; content = l j })

-- ---- how deep they are

pub cell_lower : (ts : List Simple) (k : ℕ) (t : Simple) → k < length ts → t ≡ get_or ts k t
    → has roles.is_cell (simple_of t) ≡ true
    → height (simple_of t) ≤ highest (map (λ (n : Node). n.tree) (filter is_cell (nodes_at ts)))
cell_lower [] k t l e h = absurd (omega arith)
cell_lower (u ∷ ts) zero t l e h =
    let is : is_cell (node_at u) ≡ true = cell_at u ∙ ap (λ x. has roles.is_cell (simple_of x)) (sym e) ∙ h in
    let same : height (simple_of t) ≡ height (node_at u).tree =
    ap (λ x. height (simple_of x)) e ∙ ap height (sym (tree_is (simple_of u))) in
    subst (λ xs. height (simple_of t) ≤ highest (map (λ (n : Node). n.tree) xs))
    (sym (ap (λ b. cond b (node_at u ∷ filter is_cell (nodes_at ts)) (filter is_cell (nodes_at ts))) is))
    (omega (arith, same))
cell_lower (u ∷ ts) (suc k) t l e h =
    let rest = cell_lower ts k t (omega arith) e h in
    test (is_cell (node_at u))
    (λ is. subst (λ xs. height (simple_of t) ≤ highest (map (λ (n : Node). n.tree) xs))
    (sym (ap (λ b. cond b (node_at u ∷ filter is_cell (nodes_at ts)) (filter is_cell (nodes_at ts))) is))
    (omega (arith, rest)))
    (λ is. subst (λ xs. height (simple_of t) ≤ highest (map (λ (n : Node). n.tree) xs))
    (sym (ap (λ b. cond b (node_at u ∷ filter is_cell (nodes_at ts)) (filter is_cell (nodes_at ts))) is))
    rest)

pub piece_lower : (ps : List source.TablePiece) (k : ℕ) (p : source.TablePiece) → k < length ps
    → p ≡ get_or ps k p
    → views.height_of (piece_of p) ≤ views.highest (pieces_in ps)
piece_lower [] k p l e = absurd (omega arith)
piece_lower (q ∷ ps) zero p l e =
    subst (λ x. views.height_of (piece_of x) ≤ views.highest (pieces_in (q ∷ ps))) (sym e) (omega arith)
piece_lower (q ∷ ps) (suc k) p l e = let rest = piece_lower ps k p (omega arith) e in omega (arith, rest)

-- cells are no deeper than the nodes of their row
cells_low : (trees : value.Simples)
    → highest (map (λ (n : Node). n.tree) (filter is_cell (nodes_of trees))) ≤ height_among trees
unfolding nodes_of
cells_low value.none = omega arith
cells_low (value.more t trees) =
    let rest = cells_low trees in
    let others = nodes_of trees in
    test (is_cell (node_of t))
    (λ is. let same = ap height (tree_is t) in
    subst (λ xs. highest (map (λ (n : Node). n.tree) xs) ≤ max (height t) (height_among trees))
    (sym (ap (λ b. cond b (node_of t ∷ filter is_cell others) (filter is_cell others)) is))
    (omega (arith, same, rest)))
    (λ is. subst (λ xs. highest (map (λ (n : Node). n.tree) xs) ≤ max (height t) (height_among trees))
    (sym (ap (λ b. cond b (node_of t ∷ filter is_cell others) (filter is_cell others)) is))
    (omega (arith, rest)))

-- rows are no deeper than what they stand in
abbrev rows_height : List Row → ℕ
rows_height [] = 0
rows_height (r ∷ rows) = max (highest (map (λ (n : Node). n.tree) r.cells)) (rows_height rows)

both_high : (xs ys : List Row) → rows_height (xs ++ ys) ≤ max (rows_height xs) (rows_height ys)
both_high [] ys = omega arith
both_high (x ∷ xs) ys = let rest = both_high xs ys in omega (arith, rest)

row_low : (p : TablePart) (content : value.Simples) (a b : Bool) (inside : List Row)
    → (b ≡ true → rows_height inside ≤ height_among content)
    → rows_height (cond a (spec.row_with p (nodes_of content)) (cond b inside [])) ≤ suc (height_among content)
row_low p content true b inside h = let low = cells_low content in omega (arith, low)
row_low p content false true inside h = let low = h refl in omega (arith, low)
row_low p content false false inside h = omega arith

mutual
  unfolding rows_at

  rows_low : (p : TablePart) (tree : value.Simple) → rows_height (rows_at p tree) ≤ height tree
  rows_low p (value.text s) = omega arith
  rows_low p (value.image address attributes) = omega arith
  rows_low p (value.formula tex is_alone attributes) = omega arith
  rows_low p (value.embedded id address title attributes anchors) = omega arith
  rows_low p (value.anchor id) = omega arith
  rows_low p (value.element id r facts attributes content) =
      row_low p content (roles.is_row r) (spec.leads_to p (value.element id r facts attributes content))
      (rows_among (part_of (value.element id r facts attributes content)) content)
      (λ f. rows_low_all (part_of (value.element id r facts attributes content)) content)

  rows_low_all : (p : TablePart) (trees : value.Simples) → rows_height (rows_among p trees) ≤ height_among trees
  rows_low_all p value.none = omega arith
  rows_low_all p (value.more t trees) =
      let first = rows_low p t in
      let rest = rows_low_all p trees in
      let both = both_high (rows_at p t) (rows_among p trees) in
      omega (arith, first, rest, both)

rows_pieces : (rows : List Row) → views.highest (map of_row rows) ≤ rows_height rows
rows_pieces [] = omega arith
rows_pieces (r ∷ rows) = let rest = rows_pieces rows in omega (arith, rest)

pieces_both : (xs ys : List spec.TablePiece) → views.highest (xs ++ ys) ≤ max (views.highest xs) (views.highest ys)
pieces_both [] ys = omega arith
pieces_both (x ∷ xs) ys = let rest = pieces_both xs ys in omega (arith, rest)

piece_low : (tree : value.Simple) → views.highest (pieces_at (node_of tree) (rows_at no_part tree)) ≤ height tree
piece_low tree = go (has roles.is_caption (node_of tree).tree)
  where
    go : (b : Bool) → views.highest (cond b (of_caption (node_of tree) ∷ []) (map of_row (rows_at no_part tree)))
        ≤ height tree
    go true = let same = ap height (tree_is tree) in omega (arith, same)
    go false = let rows = rows_pieces (rows_at no_part tree) in let low = rows_low no_part tree in
        omega (arith, rows, low)

pieces_low : (trees : value.Simples) → views.highest (pieces_of trees) ≤ height_among trees
unfolding pieces_of
pieces_low value.none = omega arith
pieces_low (value.more t trees) =
    let first = piece_low t in
    let rest = pieces_low trees in
    let both = pieces_both (pieces_at (node_of t) (rows_at no_part t)) (pieces_of trees) in
    omega (arith, first, rest, both)

filter_low : (stays : spec.TablePiece → Bool) (ps : List spec.TablePiece)
    → views.highest (filter stays ps) ≤ views.highest ps
filter_low stays [] = omega arith
filter_low stays (p ∷ ps) =
    let rest = filter_low stays ps in
    test (stays p)
    (λ is. subst (λ xs. views.highest xs ≤ views.highest (p ∷ ps))
    (sym (ap (λ b. cond b (p ∷ filter stays ps) (filter stays ps)) is)) (omega (arith, rest)))
    (λ is. subst (λ xs. views.highest xs ≤ views.highest (p ∷ ps))
    (sym (ap (λ b. cond b (p ∷ filter stays ps) (filter stays ps)) is)) (omega (arith, rest)))

-- what is kept of a table is no deeper than it
pub kept_low : (table : List Simple) (stays : spec.TablePiece → Bool) (found kept : List source.TablePiece)
    → pieces_in found ≡ pieces_of (simples_of table) → pieces_in kept ≡ filter stays (pieces_in found)
    → views.highest (pieces_in kept) ≤ highest (map simple_of table)
kept_low table stays found kept e f =
    let low = filter_low stays (pieces_in found) in
    let all = pieces_low (simples_of table) in
    let same = height_is (map simple_of table) in
    let is = ap views.highest f in
    let was = ap views.highest e in
    omega (arith, low, all, same, is, was)

-- ---- the rows of a part

pub row_in : (p : TablePart) (tree : value.Simple) → has roles.is_row tree ≡ true
    → rows_at p tree ≡ views.row_by p tree ∷ []
unfolding rows_at
row_in p (value.element id r facts attributes inner) g =
    ap (λ b. cond b (row_with p (nodes_of inner)) (cond (spec.leads_to p (value.element id r facts attributes inner))
    (rows_among (part_of (value.element id r facts attributes inner)) inner) [])) g
row_in p (value.text s) g = absurd (cc)
row_in p (value.image address attributes) g = absurd (cc)
row_in p (value.formula tex is_alone attributes) g = absurd (cc)
row_in p (value.embedded id address title attributes anchors) g = absurd (cc)
row_in p (value.anchor id) g = absurd (cc)

-- in a part there is no other
pub no_row_in_part : (part t : Simple) → has roles.is_part (simple_of part) ≡ true
    → has roles.is_row (simple_of t) ≡ false → rows_at (part_of (simple_of part)) (simple_of t) ≡ []
unfolding rows_at
no_row_in_part part t h g = at_node (simple_of part) (simple_of t) h g
  where
    at_node : (p tree : value.Simple) → has roles.is_part p ≡ true → has roles.is_row tree ≡ false
        → rows_at (part_of p) tree ≡ []
    at_node (value.element id r facts attributes inner) (value.element ix rx fx ax cx) e f =
        ap (λ b. cond b (row_with (part_of (value.element id r facts attributes inner)) (nodes_of cx)) []) f
    at_node (value.element id r facts attributes inner) (value.text s) e f = refl
    at_node (value.element id r facts attributes inner) (value.image address ax) e f = refl
    at_node (value.element id r facts attributes inner) (value.formula tex is_alone ax) e f = refl
    at_node (value.element id r facts attributes inner) (value.embedded ix address title ax anchors) e f = refl
    at_node (value.element id r facts attributes inner) (value.anchor ix) e f = refl
    at_node (value.text s) tree e f = absurd (cc)
    at_node (value.image address attributes) tree e f = absurd (cc)
    at_node (value.formula tex is_alone attributes) tree e f = absurd (cc)
    at_node (value.embedded id address title attributes anchors) tree e f = absurd (cc)
    at_node (value.anchor id) tree e f = absurd (cc)

-- a node of the table that is no row and no part has none
pub no_row_at : (t : Simple) → has roles.is_row (simple_of t) ≡ false → has roles.is_part (simple_of t) ≡ false
    → rows_at no_part (simple_of t) ≡ []
unfolding rows_at
no_row_at t h g = at_node (simple_of t) h g
  where
    at_node : (tree : value.Simple) → has roles.is_row tree ≡ false → has roles.is_part tree ≡ false
        → rows_at no_part tree ≡ []
    at_node (value.element id r facts attributes inner) e f =
        ap (λ b. cond b (row_with no_part (nodes_of inner)) (cond (roles.is_part r)
        (rows_among (part_of (value.element id r facts attributes inner)) inner) [])) e
        ∙ ap (λ b. cond b (rows_among (part_of (value.element id r facts attributes inner)) inner) []) f
    at_node (value.text s) e f = refl
    at_node (value.image address attributes) e f = refl
    at_node (value.formula tex is_alone attributes) e f = refl
    at_node (value.embedded id address title attributes anchors) e f = refl
    at_node (value.anchor id) e f = refl

-- the rows of a part of the table
pub part_at : (t : Simple) (content : List Simple) → has roles.is_row (simple_of t) ≡ false
    → has roles.is_part (simple_of t) ≡ true → simples_of content ≡ content_of (simple_of t)
    → rows_at no_part (simple_of t) ≡ rows_among (part_of (simple_of t)) (simples_of content)
unfolding rows_at
part_at t content h g e = at_node (simple_of t) h g e
  where
    at_node : (tree : value.Simple) → has roles.is_row tree ≡ false → has roles.is_part tree ≡ true
        → simples_of content ≡ content_of tree
        → rows_at no_part tree ≡ rows_among (part_of tree) (simples_of content)
    at_node (value.element id r facts attributes inner) e f x =
        ap (λ b. cond b (row_with no_part (nodes_of inner)) (cond (roles.is_part r)
        (rows_among (part_of (value.element id r facts attributes inner)) inner) [])) e
        ∙ ap (λ b. cond b (rows_among (part_of (value.element id r facts attributes inner)) inner) []) f
        ∙ ap (rows_among (part_of (value.element id r facts attributes inner))) (sym x)
    at_node (value.text s) e f x = absurd (cc)
    at_node (value.image address attributes) e f x = absurd (cc)
    at_node (value.formula tex is_alone attributes) e f x = absurd (cc)
    at_node (value.embedded id address title attributes anchors) e f x = absurd (cc)
    at_node (value.anchor id) e f x = absurd (cc)

-- ---- those that stay

pub kept_next : (stays : spec.TablePiece → Bool) (ps : List source.TablePiece) (k : ℕ) (p : source.TablePiece)
    → k < length ps → p ≡ get_or ps k p → stays (piece_of p) ≡ true
    → filter stays (pieces_in (drop k ps)) ≡ (piece_of p ∷ []) ++ filter stays (pieces_in (drop (k + 1) ps))
kept_next stays ps k p l e h =
    let rest = filter stays (pieces_in (drop (k + 1) ps)) in
    ap (λ xs. filter stays (pieces_in xs)) (at_place ps k p l e) ∙ ap (λ b. cond b (piece_of p ∷ rest) rest) h

pub kept_passed : (stays : spec.TablePiece → Bool) (ps : List source.TablePiece) (k : ℕ) (p : source.TablePiece)
    → k < length ps → p ≡ get_or ps k p → stays (piece_of p) ≡ false
    → filter stays (pieces_in (drop k ps)) ≡ filter stays (pieces_in (drop (k + 1) ps))
kept_passed stays ps k p l e h =
    let rest = filter stays (pieces_in (drop (k + 1) ps)) in
    ap (λ xs. filter stays (pieces_in xs)) (at_place ps k p l e) ∙ ap (λ b. cond b (piece_of p ∷ rest) rest) h

-- ---- a caption, or a row

pub piece_caption : (p : source.TablePiece) → has roles.is_caption (simple_of p.node.now) ≡ true
    → of_caption (node_at p.node.now) ≡ piece_of p
piece_caption p h =
    sym (ap (λ b. cond b (of_caption (node_at p.node.now))
    (of_row (views.row_by (views.part_in p) (simple_of p.node.now)))) h)

pub piece_row : (p : source.TablePiece) → has roles.is_caption (simple_of p.node.now) ≡ false
    → of_row (views.row_by (views.part_in p) (simple_of p.node.now)) ≡ piece_of p
piece_row p h =
    sym (ap (λ b. cond b (of_caption (node_at p.node.now))
    (of_row (views.row_by (views.part_in p) (simple_of p.node.now)))) h)

-- how deep they are
pub caption_height : (p : source.TablePiece) → has roles.is_caption (simple_of p.node.now) ≡ true
    → height (simple_of p.node.now) ≡ views.height_of (piece_of p)
caption_height p h = ap height (sym (tree_is (simple_of p.node.now))) ∙ ap views.height_of (piece_caption p h)

pub row_height : (p : source.TablePiece) (content : List Simple)
    → has roles.is_caption (simple_of p.node.now) ≡ false
    → simples_of content ≡ content_of (simple_of p.node.now)
    → highest (map (λ (n : Node). n.tree) (filter is_cell (nodes_at content))) ≡ views.height_of (piece_of p)
row_height p content h e =
    ap (λ ns. highest (map (λ (n : Node). n.tree) (filter is_cell ns))) (sym (nodes_are content) ∙ ap nodes_of e)
    ∙ ap views.height_of (piece_row p h)

pub content_any : (is_so : value.Simple → Bool) (t : Simple) (content : List Simple)
    → simples_of content ≡ content_of (simple_of t)
    → list_any (cell_is is_so) (map simple_of content)
    ≡ list_any (λ (n : Node). is_so n.tree) (filter is_cell (nodes_of (content_of (simple_of t))))
content_any is_so t content e =
    cells_any is_so content
    ∙ ap (λ ns. list_any (λ (n : Node). is_so n.tree) (filter is_cell ns))
    (sym (nodes_are content) ∙ ap nodes_of e)

pub content_count : (t : Simple) (content : List Simple) → simples_of content ≡ content_of (simple_of t)
    → cells_len (map simple_of content) ≡ length (filter is_cell (nodes_of (content_of (simple_of t))))
content_count t content e =
    cells_count content ∙ ap (λ ns. length (filter is_cell ns)) (sym (nodes_are content) ∙ ap nodes_of e)

-- ---- the rows after one

pub follow_caption : (part : Option ℕ) (ps : List source.TablePiece) (k : ℕ) (p : source.TablePiece)
    → k < length ps → p ≡ get_or ps k p → has roles.is_caption (simple_of p.node.now) ≡ true
    → spec.follows_in_part part (spec.rows_in (pieces_in (drop k ps)))
    ≡ spec.follows_in_part part (spec.rows_in (pieces_in (drop (k + 1) ps)))
follow_caption part ps k p l e h =
    ap (λ xs. spec.follows_in_part part (spec.rows_in (pieces_in xs))) (at_place ps k p l e)
    ∙ sym (ap (λ x. spec.follows_in_part part (spec.rows_in (x ∷ pieces_in (drop (k + 1) ps))))
    (piece_caption p h))

pub follow_row : (part : Option ℕ) (ps : List source.TablePiece) (k : ℕ) (p : source.TablePiece)
    → k < length ps → p ≡ get_or ps k p → has roles.is_caption (simple_of p.node.now) ≡ false
    → spec.follows_in_part part (spec.rows_in (pieces_in (drop k ps)))
    ≡ grid.is_same_part part (views.part_in p).id
follow_row part ps k p l e h =
    ap (λ xs. spec.follows_in_part part (spec.rows_in (pieces_in xs))) (at_place ps k p l e)
    ∙ sym (ap (λ x. spec.follows_in_part part (spec.rows_in (x ∷ pieces_in (drop (k + 1) ps)))) (piece_row p h))

pub span_step : (ps : List source.TablePiece) (k : ℕ) (p : source.TablePiece) → k < length ps
    → p ≡ get_or ps k p
    → spec.have_row_spans (spec.rows_in (pieces_in (drop k ps)))
    ≡ ((views.row_may_span (piece_of p)
    && spec.follows_in_part (views.part_in p).id (spec.rows_in (pieces_in (drop (k + 1) ps))))
    || spec.have_row_spans (spec.rows_in (pieces_in (drop (k + 1) ps))))
span_step ps k p l e =
    let rest = pieces_in (drop (k + 1) ps) in
    ap (λ xs. spec.have_row_spans (spec.rows_in (pieces_in xs))) (at_place ps k p l e)
    ∙ test (has roles.is_caption (simple_of p.node.now))
    (λ h. sym (ap (λ x. spec.have_row_spans (spec.rows_in (x ∷ rest))) (piece_caption p h))
    ∙ ap (λ x. (views.row_may_span x && spec.follows_in_part (views.part_in p).id (spec.rows_in rest))
    || spec.have_row_spans (spec.rows_in rest)) (piece_caption p h))
    (λ h. sym (ap (λ x. spec.have_row_spans (spec.rows_in (x ∷ rest))) (piece_row p h))
    ∙ ap (λ x. (views.row_may_span x && spec.follows_in_part (views.part_in p).id (spec.rows_in rest))
    || spec.have_row_spans (spec.rows_in rest)) (piece_row p h))

-- ---- a row is no caption, and no part of the table

row_alone : (r : Role) → roles.is_row r ≡ true → (roles.is_caption r || roles.is_part r) ≡ false
row_alone (role.Format x) h = absurd (cc)
row_alone (role.Element x) h = absurd (cc)
row_alone role.Abbreviation h = absurd (cc)
row_alone role.Code h = absurd (cc)
row_alone role.Typed h = absurd (cc)
row_alone role.Link h = absurd (cc)
row_alone role.Target h = absurd (cc)
row_alone role.Apart h = absurd (cc)
row_alone role.LineBreak h = absurd (cc)
row_alone role.Input h = absurd (cc)
row_alone (role.Heading x) h = absurd (cc)
row_alone role.Paragraph h = absurd (cc)
row_alone role.Preformatted h = absurd (cc)
row_alone role.Verbatim h = absurd (cc)
row_alone role.BlockQuote h = absurd (cc)
row_alone role.ThematicBreak h = absurd (cc)
row_alone role.BulletList h = absurd (cc)
row_alone role.NumberedList h = absurd (cc)
row_alone role.Item h = absurd (cc)
row_alone role.Terms h = absurd (cc)
row_alone role.Term h = absurd (cc)
row_alone role.Meaning h = absurd (cc)
row_alone role.Table h = absurd (cc)
row_alone role.LayoutTable h = absurd (cc)
row_alone role.Caption h = absurd (cc)
row_alone role.TableHead h = absurd (cc)
row_alone role.TableBody h = absurd (cc)
row_alone role.Row h = refl
row_alone role.Cell h = absurd (cc)
row_alone role.HeaderCell h = absurd (cc)
row_alone role.Division h = absurd (cc)
row_alone role.Figure h = absurd (cc)
row_alone role.FigureCaption h = absurd (cc)
row_alone role.Details h = absurd (cc)
row_alone role.Summary h = absurd (cc)
row_alone role.Legend h = absurd (cc)
row_alone role.Block h = absurd (cc)
row_alone role.Plain h = absurd (cc)
row_alone role.Anchors h = absurd (cc)
row_alone role.Unlinked h = absurd (cc)

neither : (a b : Bool) → (a || b) ≡ false → (a ≡ false) × (b ≡ false)
neither true b h = absurd (cc)
neither false b h = (refl, h)

pub row_is_other : (tree : value.Simple) → has roles.is_row tree ≡ true
    → (has roles.is_caption tree ≡ false) × (has roles.is_part tree ≡ false)
row_is_other (value.element id r facts attributes content) h =
    neither (roles.is_caption r) (roles.is_part r) (row_alone r h)
row_is_other (value.text s) h = absurd (cc)
row_is_other (value.image address attributes) h = absurd (cc)
row_is_other (value.formula tex is_alone attributes) h = absurd (cc)
row_is_other (value.embedded id address title attributes anchors) h = absurd (cc)
row_is_other (value.anchor id) h = absurd (cc)

-- a row of a part
pub piece_in_part : (p : source.TablePiece) → has roles.is_row (simple_of p.node.now) ≡ true
    → has roles.is_part (simple_of p.part.now) ≡ true
    → piece_of p ∷ [] ≡ map of_row (rows_at (part_of (simple_of p.part.now)) (simple_of p.node.now))
piece_in_part p h e =
    let part : views.part_in p ≡ part_of (simple_of p.part.now) =
    ap (λ b. cond b (part_of (simple_of p.part.now)) no_part) e in
    ap (λ x. x ∷ []) (sym (piece_row p (row_is_other (simple_of p.node.now) h).0)
    ∙ ap (λ q. of_row (views.row_by q (simple_of p.node.now))) part)
    ∙ ap (map of_row) (sym (row_in (part_of (simple_of p.part.now)) (simple_of p.node.now) h))

-- one outside parts
pub piece_outside : (p : source.TablePiece) → has roles.is_row (simple_of p.node.now) ≡ true
    → has roles.is_part (simple_of p.part.now) ≡ false
    → piece_of p ∷ [] ≡ map of_row (rows_at no_part (simple_of p.node.now))
piece_outside p h e =
    let part : views.part_in p ≡ no_part = ap (λ b. cond b (part_of (simple_of p.part.now)) no_part) e in
    ap (λ x. x ∷ []) (sym (piece_row p (row_is_other (simple_of p.node.now) h).0)
    ∙ ap (λ q. of_row (views.row_by q (simple_of p.node.now))) part)
    ∙ ap (map of_row) (sym (row_in no_part (simple_of p.node.now) h))

-- ---- one more

pub pushed_caption : (now new : List source.TablePiece) (p : source.TablePiece) → new ≡ now ++ p ∷ []
    → has roles.is_caption (simple_of p.node.now) ≡ true
    → pieces_in new ≡ pieces_in now ++ pieces_at (node_at p.node.now) (rows_at no_part (simple_of p.node.now))
pushed_caption now new p e h =
    ap pieces_in e ∙ map_push piece_of now p
    ∙ ap (λ x. pieces_in now ++ x ∷ []) (sym (piece_caption p h))
    ∙ ap (λ xs. pieces_in now ++ xs) (sym (caption_at p.node.now (rows_at no_part (simple_of p.node.now)) h))

pub pushed_outside : (now new : List source.TablePiece) (p : source.TablePiece) → new ≡ now ++ p ∷ []
    → has roles.is_row (simple_of p.node.now) ≡ true → has roles.is_part (simple_of p.part.now) ≡ false
    → pieces_in new ≡ pieces_in now ++ pieces_at (node_at p.node.now) (rows_at no_part (simple_of p.node.now))
pushed_outside now new p e h f =
    ap pieces_in e ∙ map_push piece_of now p
    ∙ ap (λ xs. pieces_in now ++ xs) (piece_outside p h f
    ∙ sym (no_caption_at p.node.now (rows_at no_part (simple_of p.node.now))
    (row_is_other (simple_of p.node.now) h).0))

pub pushed_in_part : (now new : List source.TablePiece) (p : source.TablePiece) → new ≡ now ++ p ∷ []
    → has roles.is_row (simple_of p.node.now) ≡ true → has roles.is_part (simple_of p.part.now) ≡ true
    → pieces_in new ≡ pieces_in now ++ map of_row (rows_at (part_of (simple_of p.part.now)) (simple_of p.node.now))
pushed_in_part now new p e h f =
    ap pieces_in e ∙ map_push piece_of now p ∙ ap (λ xs. pieces_in now ++ xs) (piece_in_part p h f)
