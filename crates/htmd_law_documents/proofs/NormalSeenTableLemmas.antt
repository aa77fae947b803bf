-- Tables of rich documents show where a caption or a cell of them does.
use Rattle.std.proofs.Common.{◌≡◌, ℕ, zero, suc, Bool, true, false, cond, not, ◌&&◌, ◌||◌, List, [], ◌∷◌, ◌++◌, refl}
use Rattle.std.proofs.Common.{sym, ap, ◌∙◌, subst, map, filter, take, drop}
use Rattle.std.specs.Prelude.{is_some}
use Rattle.std.specs.List.{list_any, list_all, flat_map}
use Rattle.std.specs.Str.{chars}
use Rattle.std.proofs.lemmas.List.{take-append-drop}
use Rattle.htmd_lexical.specs.Characters.{space}
use Rattle.htmd_lexical.proofs.Cases.{test}
use Rattle.htmd_shown.specs.declared.facts.Facts.{Facts}
use Rattle.htmd_shown.specs.declared.role.Role.{Role}
use Rattle.htmd_shown.specs.declared.role.Role.TheVariants as role
use Rattle.htmd_shown.specs.Kinds.{has, content_of, is_blank, are_blank}
use Rattle.htmd_shown.specs.Roles as roles
use Rattle.htmd_shown.specs.Showings.{shows, show, code_shows}
use Rattle.htmd_shown.specs.SimpleTrees.{Simple, text, image, formula, embedded, anchor, element, Simples, none, more}
use Rattle.htmd_flow.specs.Contexts.{Context, apart}
use Rattle.htmd_flow.specs.Flows.{Node, Row, TablePiece, of_caption, of_row, is_cell, flow_all, node_of, nodes_of}
use Rattle.htmd_flow.specs.Flows.{is_grid_by, is_grid, before_row, caption_in_one_line, captions_in_one_line}
use Rattle.htmd_flow.specs.Flows.{cell_in_one_line, row_in_one_line, rows_in_one_line, grid_in_one_line, grid_inside}
use Rattle.htmd_flow.specs.Flows.{table_parts, no_part, part_of, leads_to, row_with, rows_among, rows_at, pieces_at}
use Rattle.htmd_flow.specs.Flows.{pieces_of, rows_of_table}
use Rattle.htmd_flow.specs.Levels.{list_of}
use Rattle.htmd_flow.specs.Parts.{Part, run, edge}
use Rattle.htmd_flow.specs.Tables.{is_nothing, is_cell_or_nothing, is_row_or_nothing, is_table_child, holds_table_alone}
use Rattle.htmd_flow.specs.Tables.{has_captions_around, layout_by_cells, has_head, cells_in}
use Rattle.htmd_flow.specs.declared.table_form.Layout.TheVariants as layout
use Rattle.htmd_flow.specs.declared.table_form.TablePart.{TablePart}
use Rattle.htmd_law_documents.specs.SimpleForms.{IsSound, AreSound}
use Rattle.htmd_law_documents.proofs.VisibleLemmas.{both-true}
use Rattle.htmd_law_documents.proofs.SoundLemmas.{blank-code}
use Rattle.htmd_law_documents.proofs.NormalTextLemmas.{false-true, from-not}
use Rattle.htmd_law_documents.proofs.NormalFilledLemmas.{Seen}
use Rattle.htmd_law_documents.proofs.NormalSeenLemmas.{or-none, or-turned, any-append, seen-append, seen-as, seen-edge}
use Rattle.htmd_law_documents.proofs.NormalSeenLemmas.{seen-before, seen-apart, seen-either, Sits, GivesSeen, SeenAt}
use Rattle.htmd_law_documents.proofs.NormalSeenLemmas.{AllSeen, IsPlainKind, shows-content, content-flow}
use Rattle.htmd_law_documents.proofs.WrapperTableLemmas.{node-tree}

-- ---- kinds

row-plain : IsPlainKind roles.is_row
row-plain role.Row e = (refl, refl, refl)
row-plain r e = false-true e

part-plain : IsPlainKind roles.is_part
part-plain role.TableHead e = (refl, refl, refl)
part-plain role.TableBody e = (refl, refl, refl)
part-plain r e = false-true e

cell-plain : IsPlainKind roles.is_cell
cell-plain role.Cell e = (refl, refl, refl)
cell-plain role.HeaderCell e = (refl, refl, refl)
cell-plain r e = false-true e

pub caption-plain : IsPlainKind roles.is_caption
caption-plain role.Caption e = (refl, refl, refl)
caption-plain r e = false-true e

caption-alone : (r : Role) → roles.is_caption r ≡ true → (roles.is_row r ≡ false) × (roles.is_part r ≡ false)
caption-alone role.Caption e = (refl, refl)
caption-alone r e = false-true e

part-alone : (r : Role) → roles.is_part r ≡ true → roles.is_row r ≡ false
part-alone role.TableHead e = refl
part-alone role.TableBody e = refl
part-alone r e = false-true e

-- ---- what is blank doesn't show

blank-by : (r : Role) (flat : Bool) (facts : Facts) (content : Simples) → AreSound content
    → (not (roles.is_void r) && facts.is_blank) ≡ true
    → are_blank content ≡ true → ((f : Bool) → show f content ≡ false)
    → cond (roles.is_verbatim r) (code_shows content)
    (cond (roles.is_thematic_break r) (not flat) (show (flat || roles.is_heading r) content)) ≡ false
blank-by role.ThematicBreak flat facts content u e b h = false-true e
blank-by role.Preformatted flat facts content u e b h = blank-code content u b
blank-by role.Verbatim flat facts content u e b h = blank-code content u b
blank-by r flat facts content u e b h = h _

mutual
  blank-unseen : (t : Simple) → IsSound t → is_blank t ≡ true → (flat : Bool) → shows flat t ≡ false
  blank-unseen (text s) u e flat = ap not e
  blank-unseen (image address attributes) u e flat = false-true e
  blank-unseen (formula tex is_alone attributes) u e flat = false-true e
  blank-unseen (embedded id address title attributes ids) u e flat = false-true e
  blank-unseen (anchor id) u e flat = refl
  blank-unseen (element id r facts attributes content) u e flat =
      let blank : are_blank content ≡ true = u.0.blank (both-true (not (roles.is_void r)) facts.is_blank e).1 in
      blank-by r flat facts content u.1 e blank (blanks-unseen content u.1 blank)

  blanks-unseen : (ts : Simples) → AreSound ts → are_blank ts ≡ true → (flat : Bool) → show flat ts ≡ false
  blanks-unseen none u e flat = refl
  blanks-unseen (more t ts) u e flat =
      let parts = both-true (is_blank t) (are_blank ts) e in
      ap (λ b. b || show flat ts) (blank-unseen t u.0 parts.0 flat) ∙ blanks-unseen ts u.1 parts.1 flat

-- in one line it is what is blank, and else what doesn't show
nothing-unseen : (flat : Bool) (t : Simple) → IsSound t → is_nothing (not flat) t ≡ true
    → shows flat t ≡ false
nothing-unseen true t u e = blank-unseen t u e true
nothing-unseen false t u e = from-not (shows false t) e

-- ---- what shows of a table

module _ (flat : Bool) where
  abbrev pub cell_shows : Node → Bool
  cell_shows n = show flat (content_of n.tree)

  abbrev pub row_shows : Row → Bool
  row_shows r = list_any cell_shows r.cells

  abbrev pub rows_show : List Row → Bool
  rows_show rows = list_any row_shows rows

  abbrev caption_shows : Node → Bool
  caption_shows n = has roles.is_caption n.tree && show flat (content_of n.tree)

  abbrev captions_show : List Node → Bool
  captions_show nodes = list_any caption_shows nodes

  abbrev is_rich : Bool
  is_rich = not flat

  cells-shown : (ts : Simples) → AreSound ts → list_all (is_cell_or_nothing is_rich) (list_of ts) ≡ true
      → show flat ts ≡ list_any cell_shows (filter is_cell (nodes_of ts))
  unfolding node_of
  cells-shown none u e = refl
  cells-shown (more t ts) u e =
      let both = both-true (is_cell_or_nothing is_rich t) (list_all (is_cell_or_nothing is_rich) (list_of ts)) e in
      let kept : List Node = filter is_cell (nodes_of ts) in
      let n : Node = node_of t in
      let rest : show flat ts ≡ list_any cell_shows kept = cells-shown ts u.1 both.1 in
      let same : is_cell n ≡ has roles.is_cell t = ap (has roles.is_cell) (node-tree t) in
      test (has roles.is_cell t)
      (λ i. subst (λ (b : Bool). (shows flat t || show flat ts) ≡ list_any cell_shows (cond b (n ∷ kept) kept))
      (sym (same ∙ i))
      (ap (λ b. b || show flat ts)
      (shows-content roles.is_cell cell-plain flat t i ∙ ap (λ x. show flat (content_of x)) (sym (node-tree t)))
      ∙ ap (λ b. cell_shows n || b) rest))
      (λ i. subst (λ (b : Bool). (shows flat t || show flat ts) ≡ list_any cell_shows (cond b (n ∷ kept) kept))
      (sym (same ∙ i))
      (ap (λ b. b || show flat ts)
      (nothing-unseen flat t u.0 (sym (ap (λ b. b || is_nothing is_rich t) i) ∙ both.0)) ∙ rest))

  row-shown : (p : TablePart) (t : Simple) → IsSound t → is_row_or_nothing is_rich t ≡ true
      → leads_to p t ≡ false
      → shows flat t ≡ rows_show (rows_at p t)
  unfolding node_of
  row-shown p (text s) u e l = nothing-unseen flat (text s) u e
  row-shown p (image address attributes) u e l = nothing-unseen flat (image address attributes) u e
  row-shown p (formula tex is_alone attributes) u e l = nothing-unseen flat (formula tex is_alone attributes) u e
  row-shown p (embedded id address title attributes ids) u e l =
      nothing-unseen flat (embedded id address title attributes ids) u e
  row-shown p (anchor id) u e l = refl
  row-shown p (element id r facts attributes content) u e l =
      let t : Simple = element id r facts attributes content in
      let inside : Bool = list_all (is_cell_or_nothing is_rich) (list_of content) in
      let within : List Row = rows_among (part_of t) content in
      let own : List Row = row_with p (nodes_of content) in
      test (roles.is_row r)
      (λ i. subst (λ (b : Bool). shows flat t ≡ rows_show (cond b own (cond (leads_to p t) within []))) (sym i)
      (shows-content roles.is_row row-plain flat t i
      ∙ (cells-shown content u.1 (sym (ap (λ b. cond b inside (is_nothing is_rich t)) i) ∙ e)
      ∙ sym (or-none (list_any cell_shows (filter is_cell (nodes_of content)))))))
      (λ i. subst (λ (b : Bool). shows flat t ≡ rows_show (cond b own (cond (leads_to p t) within []))) (sym i)
      (subst (λ (b : Bool). shows flat t ≡ rows_show (cond b within [])) (sym l)
      (nothing-unseen flat t u (sym (ap (λ b. cond b inside (is_nothing is_rich t)) i) ∙ e))))

  rows-shown : (p : TablePart) → is_some p.id ≡ true → (ts : Simples) → AreSound ts
      → list_all (is_row_or_nothing is_rich) (list_of ts) ≡ true → show flat ts ≡ rows_show (rows_among p ts)
  unfolding node_of
  rows-shown p i none u e = refl
  rows-shown p i (more t ts) u e =
      let both = both-true (is_row_or_nothing is_rich t) (list_all (is_row_or_nothing is_rich) (list_of ts)) e in
      ap (λ b. b || show flat ts)
      (row-shown p t u.0 both.0 (ap (λ b. not b && has roles.is_part t) i))
      ∙ (ap (λ b. rows_show (rows_at p t) || b) (rows-shown p i ts u.1 both.1)
      ∙ sym (any-append row_shows (rows_at p t) (rows_among p ts)))

  -- what stands in a table beside captions
  child-shown : (t : Simple) → IsSound t → is_table_child is_rich t ≡ true → has roles.is_caption t ≡ false
      → shows flat t ≡ rows_show (rows_at no_part t)
  unfolding node_of
  child-shown (element id r facts attributes content) u e n =
      let t : Simple = element id r facts attributes content in
      let inside : Bool = list_all (is_row_or_nothing is_rich) (list_of content) in
      let row : Bool = is_row_or_nothing is_rich t in
      let within : List Row = rows_among (part_of t) content in
      let own : List Row = row_with no_part (nodes_of content) in
      let child : cond (roles.is_part r) inside row ≡ true =
      sym (ap (λ b. cond b true (cond (roles.is_part r) inside row)) n) ∙ e in
      test (roles.is_part r)
      (λ i. subst (λ (b : Bool). shows flat t ≡ rows_show (cond b own (cond (leads_to no_part t) within [])))
      (sym (part-alone r i))
      (subst (λ (b : Bool). shows flat t ≡ rows_show (cond b within [])) (sym i)
      (shows-content roles.is_part part-plain flat t i
      ∙ rows-shown (part_of t) refl content u.1 (sym (ap (λ b. cond b inside row) i) ∙ child))))
      (λ i. row-shown no_part t u (sym (ap (λ b. cond b inside row) i) ∙ child) i)
  child-shown (text s) u e n = row-shown no_part (text s) u e refl
  child-shown (image address attributes) u e n = row-shown no_part (image address attributes) u e refl
  child-shown (formula tex is_alone attributes) u e n =
      row-shown no_part (formula tex is_alone attributes) u e refl
  child-shown (embedded id address title attributes ids) u e n =
      row-shown no_part (embedded id address title attributes ids) u e refl
  child-shown (anchor id) u e n = refl

  caption-rows : (t : Simple) → has roles.is_caption t ≡ true → rows_at no_part t ≡ []
  unfolding node_of
  caption-rows (element id r facts attributes content) e =
      let t : Simple = element id r facts attributes content in
      let alone = caption-alone r e in
      let within : List Row = rows_among (part_of t) content in
      ap (λ b. cond b (row_with no_part (nodes_of content)) (cond (leads_to no_part t) within [])) alone.0
      ∙ ap (λ b. cond b within []) alone.1
  caption-rows (text s) e = false-true e
  caption-rows (image address attributes) e = false-true e
  caption-rows (formula tex is_alone attributes) e = false-true e
  caption-rows (embedded id address title attributes ids) e = false-true e
  caption-rows (anchor id) e = false-true e

  -- by captions among the nodes, and rows
  part-shown : (t : Simple) → IsSound t → is_table_child is_rich t ≡ true
      → shows flat t ≡ (caption_shows (node_of t) || rows_show (rows_at no_part t))
  part-shown t u e =
      test (has roles.is_caption t)
      (λ i. shows-content roles.is_caption caption-plain flat t i
      ∙ sym (ap (λ b. b || rows_show (rows_at no_part t))
      (ap (λ b. b && show flat (content_of (node_of t).tree)) (ap (has roles.is_caption) (node-tree t) ∙ i)
      ∙ ap (λ x. show flat (content_of x)) (node-tree t))
      ∙ (ap (λ rows. show flat (content_of t) || rows_show rows) (caption-rows t i)
      ∙ or-none (show flat (content_of t)))))
      (λ i. child-shown t u e i
      ∙ sym (ap (λ b. (b && show flat (content_of (node_of t).tree)) || rows_show (rows_at no_part t))
      (ap (has roles.is_caption) (node-tree t) ∙ i)))

  parts-shown : (ts : Simples) → AreSound ts → holds_table_alone is_rich (list_of ts) ≡ true
      → show flat ts ≡ (captions_show (nodes_of ts) || rows_show (rows_among no_part ts))
  unfolding node_of
  parts-shown none u e = refl
  parts-shown (more t ts) u e =
      let both = both-true (is_table_child is_rich t) (holds_table_alone is_rich (list_of ts)) e in
      let a : Bool = caption_shows (node_of t) in
      let b : Bool = rows_show (rows_at no_part t) in
      let d : Bool = captions_show (nodes_of ts) in
      let f : Bool = rows_show (rows_among no_part ts) in
      ap (λ x. x || show flat ts) (part-shown t u.0 both.0)
      ∙ (ap (λ x. (a || b) || x) (parts-shown ts u.1 both.1)
      ∙ (or-turned a b d f
      ∙ ap (λ x. (a || d) || x) (sym (any-append row_shows (rows_at no_part t) (rows_among no_part ts)))))

  -- by captions and rows in order
  abbrev pub piece_shows : TablePiece → Bool
  piece_shows (of_caption n) = cell_shows n
  piece_shows (of_row r) = row_shows r

  rows-pieces : (rows : List Row) → list_any piece_shows (map of_row rows) ≡ rows_show rows
  rows-pieces [] = refl
  rows-pieces (r ∷ rows) = ap (λ b. row_shows r || b) (rows-pieces rows)

  piece-shown : (t : Simple) → IsSound t → is_table_child is_rich t ≡ true
      → shows flat t ≡ list_any piece_shows (pieces_at (node_of t) (rows_at no_part t))
  piece-shown t u e =
      let n : Node = node_of t in
      let rows : List Row = rows_at no_part t in
      let same : has roles.is_caption n.tree ≡ has roles.is_caption t = ap (has roles.is_caption) (node-tree t) in
      test (has roles.is_caption t)
      (λ i. subst (λ (b : Bool). shows flat t
      ≡ list_any piece_shows (cond b (of_caption n ∷ []) (map of_row rows)))
      (sym (same ∙ i))
      (shows-content roles.is_caption caption-plain flat t i
      ∙ (ap (λ x. show flat (content_of x)) (sym (node-tree t)) ∙ sym (or-none (cell_shows n)))))
      (λ i. subst (λ (b : Bool). shows flat t
      ≡ list_any piece_shows (cond b (of_caption n ∷ []) (map of_row rows)))
      (sym (same ∙ i))
      (child-shown t u e i ∙ sym (rows-pieces rows)))

  pub pieces-shown : (ts : Simples) → AreSound ts → holds_table_alone is_rich (list_of ts) ≡ true
      → show flat ts ≡ list_any piece_shows (pieces_of ts)
  unfolding node_of
  pieces-shown none u e = refl
  pieces-shown (more t ts) u e =
      let both = both-true (is_table_child is_rich t) (holds_table_alone is_rich (list_of ts)) e in
      let here : List TablePiece = pieces_at (node_of t) (rows_at no_part t) in
      ap (λ x. x || show flat ts) (piece-shown t u.0 both.0)
      ∙ (ap (λ x. list_any piece_shows here || x) (pieces-shown ts u.1 both.1)
      ∙ sym (any-append piece_shows here (pieces_of ts)))

-- ---- what rows give

abbrev pub RowsSeen : Bool → List Row → Type 0
RowsSeen flat [] = Unit {0}
RowsSeen flat (r ∷ rows) = AllSeen flat r.cells × RowsSeen flat rows

pub rows-seen-append : (flat : Bool) (xs ys : List Row) → RowsSeen flat xs → RowsSeen flat ys
    → RowsSeen flat (xs ++ ys)
rows-seen-append flat [] ys g h = h
rows-seen-append flat (x ∷ xs) ys g h = (g.0, rows-seen-append flat xs ys g.1 h)

-- ---- tables in one line

module _ (c : Context) (s : Sits true c) where
  caption-line : (n : Node) → SeenAt true n → Seen true (caption_shows true n) (caption_in_one_line c n)
  caption-line n h = at (has roles.is_caption n.tree)
    where
      inner : Bool
      inner = show true (content_of n.tree)

      at : (x : Bool) → Seen true (x && inner) (cond x (n.content c ++ edge ∷ []) [])
      at true = seen-before true inner (n.content c) (edge ∷ []) (h.content c s) refl
      at false = refl

  captions-line : (ns : List Node) → AllSeen true ns → Seen true (captions_show true ns) (captions_in_one_line ns c)
  captions-line [] h = refl
  captions-line (n ∷ ns) h =
      seen-append true (caption_shows true n) (captions_show true ns) (caption_in_one_line c n)
      (captions_in_one_line ns c) (caption-line n h.0) (captions-line ns h.1)

  space-quiet : Seen true false (run (space ∷ []) c.around false ∷ [])
  unfolding chars
  space-quiet = refl

  cells-line : (cells : List Node) → AllSeen true cells
      → Seen true (list_any (cell_shows true) cells) (flat_map (cell_in_one_line c) cells)
  cells-line [] h = refl
  cells-line (n ∷ cells) h =
      seen-append true (cell_shows true n) (list_any (cell_shows true) cells) (cell_in_one_line c n)
      (flat_map (cell_in_one_line c) cells)
      (seen-before true (cell_shows true n) (n.content c) (run (space ∷ []) c.around false ∷ []) (h.0.content c s)
      space-quiet)
      (cells-line cells h.1)

  rows-line : (rows : List Row) → RowsSeen true rows → Seen true (rows_show true rows) (rows_in_one_line rows c)
  rows-line [] h = refl
  rows-line (r ∷ rows) h =
      seen-append true (row_shows true r) (rows_show true rows) (row_in_one_line c r) (rows_in_one_line rows c)
      (seen-before true (row_shows true r) (flat_map (cell_in_one_line c) r.cells) (edge ∷ [])
      (cells-line r.cells h.0)
      refl)
      (rows-line rows h.1)

  taken-seen : (k : ℕ) (ns : List Node) → AllSeen true ns → AllSeen true (take k ns)
  taken-seen zero ns h = tt
  taken-seen (suc k) [] h = tt
  taken-seen (suc k) (n ∷ ns) h = (h.0, taken-seen k ns h.1)

  dropped-seen : (k : ℕ) (ns : List Node) → AllSeen true ns → AllSeen true (drop k ns)
  dropped-seen zero ns h = h
  dropped-seen (suc k) [] h = tt
  dropped-seen (suc k) (n ∷ ns) h = dropped-seen k ns h.1

  grid-line : (ns : List Node) (rows : List Row) → AllSeen true ns → RowsSeen true rows
      → Seen true (captions_show true ns || rows_show true rows) (grid_in_one_line ns rows c)
  grid-line ns rows h g =
      let k : ℕ = before_row ns in
      let a : Bool = captions_show true (take k ns) in
      let b : Bool = rows_show true rows in
      let d : Bool = captions_show true (drop k ns) in
      seen-as true ((a || b) || d) (captions_show true ns || b) (grid_in_one_line ns rows c)
      (turned a b d
      ∙ ap (λ x. x || b) (sym (any-append (caption_shows true) (take k ns) (drop k ns))
      ∙ ap (captions_show true) (take-append-drop k ns)))
      (seen-append true (a || b) d (captions_in_one_line (take k ns) c ++ rows_in_one_line rows c)
      (captions_in_one_line (drop k ns) c)
      (seen-append true a b (captions_in_one_line (take k ns) c) (rows_in_one_line rows c)
      (captions-line (take k ns) (taken-seen k ns h)) (rows-line rows g))
      (captions-line (drop k ns) (dropped-seen k ns h)))
    where
      turned : (a b d : Bool) → ((a || b) || d) ≡ ((a || d) || b)
      turned true b d = refl
      turned false true true = refl
      turned false true false = refl
      turned false false true = refl
      turned false false false = refl

grid-alone : (trees : List Simple) (rows : List Row) → is_grid trees rows ≡ true
    → holds_table_alone false trees ≡ true
grid-alone trees rows e =
    (both-true (has_captions_around trees) (holds_table_alone false trees)
    (at (has_captions_around trees && holds_table_alone false trees) e)).1
  where
    at : (b : Bool)
        → is_grid_by (cond b (layout_by_cells (has_head trees) (cells_in trees)) layout.Page) rows ≡ true
        → b ≡ true
    at true e = refl
    at false e = false-true e

pub line-table-seen : (content : Simples) → AreSound content → AllSeen true (nodes_of content)
    → RowsSeen true (rows_of_table content)
    → GivesSeen true (show true content) (table_parts (list_of content) (nodes_of content) (rows_of_table content))
line-table-seen content u h g c s =
    let ns : List Node = nodes_of content in
    let rows : List Row = rows_of_table content in
    let b : Bool = show true content in
    let grid : List Part = grid_in_one_line ns rows c in
    seen-either true b (is_grid (list_of content) rows) (edge ∷ cond c.is_flat grid (grid_inside ns rows c))
    (apart (flow_all ns c))
    (λ e. seen-edge true b (cond c.is_flat grid (grid_inside ns rows c))
    (subst (λ (f : Bool). Seen true b (cond f grid (grid_inside ns rows c))) (sym s.line)
    (seen-as true (captions_show true ns || rows_show true rows) b grid
    (sym (parts-shown true content u (grid-alone (list_of content) rows e))) (grid-line c s ns rows h g))))
    (λ e. seen-apart true b (flow_all ns c) (content-flow true content h c s))
