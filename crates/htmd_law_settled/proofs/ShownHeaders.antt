-- Something shows in the header of each table of a rich document.
use Rattle.std.proofs.Common.{◌≡◌, ℕ, zero, suc, ◌+◌, ◌-◌, ◌==◌, min, nat_lt, Bool, true, false, not, ◌&&◌, ◌||◌}
use Rattle.std.proofs.Common.{cond, List, [], ◌∷◌, ◌++◌, map, filter, get_or, replicate, length, Option}
use Rattle.std.proofs.Common.{refl, sym, ap, ◌∙◌, arith}
use Rattle.std.specs.List.{list_all, list_any}
use Rattle.std.proofs.lemmas.Bool.{and_from, and_parts, or_right, not-true, true≢false, false≢true}
use Rattle.std.proofs.lemmas.Bool.Decides.{nat_tests}
use Rattle.htmd_lexical.proofs.Cases.{test}
use Rattle.htmd_document.specs.Documents.{Inlines, no_inlines, inline, Blocks, no_blocks, block}
use Rattle.htmd_document.specs.NormalInlines.{has_none}
use Rattle.htmd_document.specs.TightItems.{is_filled}
use Rattle.htmd_flow.specs.Contexts.{Context, beside_code}
use Rattle.htmd_flow.specs.Flows.{Node, TablePiece, of_caption, of_row, blocks_of, rows_in, has_cell, may_span}
use Rattle.htmd_flow.specs.Flows.{follows_in_part, have_row_spans, content_shows, stays, kept_pieces, in_cell}
use Rattle.htmd_flow.specs.Flows.{cell_with_blocks, piece_with_blocks, pieces_with_blocks, blocks_within, around_node}
use Rattle.htmd_flow.specs.Grids.{is_same_part, is_empty_cell, with_cell, trimmed_row, padded}
use Rattle.htmd_flow.specs.Parts.{Part}
use Rattle.htmd_flow.specs.TableElements as elements
use Rattle.htmd_flow.specs.TableElements.{spans, is_in_header, is_in_body, fits_below, has_header_alone, rows_within}
use Rattle.htmd_flow.specs.TableElements.{cut_cell, cut_all, stretch_of, stretched, is_paragraph_at_most, inlines_in}
use Rattle.htmd_flow.specs.TableElements.{is_paragraph_cell, are_paragraphs, cell_line, line_of}
use Rattle.htmd_shown.specs.declared.role.Role.TheVariants as role
use Rattle.htmd_shown.specs.SimpleTrees.{Simple, text, image, formula, embedded, anchor, element}
use Rattle.htmd_shown.specs.Roles as roles
use Rattle.htmd_shown.specs.Kinds.{has}
use Rattle.htmd_shown.specs.declared.role.Role.{Role}
use Rattle.htmd_law_documents.proofs.NormalSeenLemmas.{Sits, sits-around}
use Rattle.htmd_law_returning.specs.SettledDocuments.{shows_header}

-- in a rich document what shows fills a cell
abbrev pub FillsCells : Bool → (Context → List Part) → Type 0
FillsCells shown parts = shown ≡ true → (c : Context) → c.is_rich ≡ true → c.is_flat ≡ false
    → is_paragraph_at_most (blocks_of false (parts c)) ≡ true
    → is_empty_cell (inlines_in (blocks_of false (parts c))) ≡ false

-- it gives blocks, and what doesn't show gives none
abbrev pub FillsBlocks : Bool → (Context → List Part) → Type 0
FillsBlocks shown parts = (c : Context) → c.is_rich ≡ true → c.is_flat ≡ false
    → is_filled (blocks_of false (parts c)) ≡ shown

-- the caption of a figure or a table
abbrev pub is_any_caption : Role → Bool
is_any_caption r = roles.is_figure_caption r || roles.is_caption r

pub of-figure : (t : Simple) → has roles.is_figure_caption t ≡ true → has is_any_caption t ≡ true
of-figure (element id r facts attributes content) e = ap (λ b. b || roles.is_caption r) e
of-figure t e = absurd (cc)

pub of-table : (t : Simple) → has roles.is_caption t ≡ true → has is_any_caption t ≡ true
of-table (element id r facts attributes content) e = or_right (roles.is_figure_caption r) (roles.is_caption r) e
of-table t e = absurd (cc)

abbrev pub FillNodes : List Node → Type 0
FillNodes [] = Unit {0}
FillNodes (n ∷ nodes) = FillsCells (content_shows n.tree) n.content × FillNodes nodes

abbrev pub FillPieces : List TablePiece → Type 0
FillPieces [] = Unit {0}
FillPieces (of_caption n ∷ pieces) = FillsBlocks (content_shows n.tree) n.content × FillPieces pieces
FillPieces (of_row r ∷ pieces) = FillNodes r.cells × FillPieces pieces

-- ---- where the first row alone is a header, no cell spans rows

abbrev pub one_row : elements.Cell → Bool
one_row c = not (nat_lt 1 c.rows)

-- no cell takes more than one row
abbrev pub no_spans : elements.Piece → Bool
no_spans (elements.caption content) = true
no_spans (elements.row r) = list_all one_row r.cells

either-false : (a b : Bool) → not (a || b) ≡ true → not b ≡ true
either-false true b h = absurd (false≢true h)
either-false false b h = h

one-row : (c : elements.Cell) → not (spans c) ≡ true → one_row c ≡ true
one-row c h = either-false (nat_lt 1 c.columns) (nat_lt 1 c.rows) h

header-cells : (cells : List elements.Cell) → list_all is_in_header cells ≡ true → list_all one_row cells ≡ true
header-cells [] h = refl
header-cells (c ∷ cells) h =
    let p = and_parts (is_in_header c) (list_all is_in_header cells) h in
    and_from (one_row c) (list_all one_row cells) (one-row c (and_parts c.is_header (not (spans c)) p.0).1)
    (header-cells cells p.1)

body-cells : (cells : List elements.Cell) → list_all is_in_body cells ≡ true → list_all one_row cells ≡ true
body-cells [] h = refl
body-cells (c ∷ cells) h =
    let p = and_parts (is_in_body c) (list_all is_in_body cells) h in
    and_from (one_row c) (list_all one_row cells) (one-row c (and_parts (not c.is_header) (not (spans c)) p.0).1)
    (body-cells cells p.1)

below : (n : ℕ) (pieces : List elements.Piece) → list_all (fits_below n) pieces ≡ true
    → list_all no_spans pieces ≡ true
below n [] h = refl
below n (elements.caption content ∷ pieces) h = absurd (false≢true h)
below n (elements.row r ∷ pieces) h =
    let p = and_parts (fits_below n (elements.row r)) (list_all (fits_below n) pieces) h in
    and_from (list_all one_row r.cells) (list_all no_spans pieces)
    (body-cells r.cells (and_parts _ (list_all is_in_body r.cells) p.0).1) (below n pieces p.1)

header-alone : (pieces : List elements.Piece) → has_header_alone pieces ≡ true → list_all no_spans pieces ≡ true
header-alone [] h = absurd (false≢true h)
header-alone (elements.caption content ∷ pieces) h = absurd (false≢true h)
header-alone (elements.row r ∷ pieces) h =
    let rest : Bool = list_all (fits_below (length r.cells)) pieces in
    let p = and_parts (list_all is_in_header r.cells) rest h in
    and_from (list_all one_row r.cells) (list_all no_spans pieces) (header-cells r.cells p.0)
    (below (length r.cells) pieces p.1)

-- a cell that takes more than one row spans, where another row follows
span-counted : (left rows : ℕ) → nat_lt 1 left ≡ true → nat_lt 1 (rows_within left rows) ≡ false
    → (rows == 1) ≡ true
span-counted left rows l h = at (rows == 0) refl h
  where
    at : (b : Bool) → (rows == 0) ≡ b → nat_lt 1 (cond b left (min rows left)) ≡ false → (rows == 1) ≡ true
    at true e g = absurd (true≢false (sym l ∙ g))
    at false e g = grind (arith, nat_tests, l, e, g)

module _ (c : Context) where
  abbrev made_piece : TablePiece → elements.Piece
  made_piece p = piece_with_blocks true c p

  cells-counted : (left : ℕ) (in_head : Bool) (cells : List Node) → nat_lt 1 left ≡ true
      → list_all one_row (map (cut_cell left) (map (cell_with_blocks true in_head c) cells)) ≡ true
      → list_any (λ (n : Node). may_span n.tree) cells ≡ false
  cells-counted left in_head [] l h = refl
  cells-counted left in_head (n ∷ cells) l h =
      let one : elements.Cell = cut_cell left (cell_with_blocks true in_head c n) in
      let others = map (cut_cell left) (map (cell_with_blocks true in_head c) cells) in
      let p = and_parts (one_row one) (list_all one_row others) h in
      ap (λ b. not b || list_any (λ (n : Node). may_span n.tree) cells)
      (span-counted left _ l (not-true (nat_lt 1 one.rows) p.0))
      ∙ cells-counted left in_head cells l p.1

  two-rows : (b same : Bool) (m : ℕ) → same ≡ true
      → nat_lt 1 (cond (nat_lt 0 (cond b (m + 1) 1) && same) (cond b (m + 1) 1 + 1) 1) ≡ true
  two-rows true same m e =
      let some : nat_lt 0 (m + 1) ≡ true = grind (arith, nat_tests) in
      ap (λ x. nat_lt 1 (cond (x && same) (m + 1 + 1) 1)) some
      ∙ (ap (λ x. nat_lt 1 (cond x (m + 1 + 1) 1)) e ∙ grind (arith, nat_tests))
  two-rows false same m e = ap (λ x. nat_lt 1 (cond x 2 1)) e

  -- there are two rows from here on
  follows-left : (part : Option ℕ) (kept : List TablePiece) → follows_in_part part (rows_in kept) ≡ true
      → nat_lt 1 (stretched part (stretch_of (map made_piece kept))).left ≡ true
  follows-left part [] h = absurd (false≢true h)
  follows-left part (of_caption n ∷ kept) h = follows-left part kept h
  follows-left part (of_row r ∷ kept) h =
      let s = stretch_of (map made_piece kept) in
      two-rows (nat_lt 0 s.left && is_same_part r.part s.part) (is_same_part part r.part) s.left h

  no-row-spans : (kept : List TablePiece) → list_all no_spans (cut_all (map made_piece kept)) ≡ true
      → have_row_spans (rows_in kept) ≡ false
  no-row-spans [] h = refl
  no-row-spans (of_caption n ∷ kept) h = no-row-spans kept h
  no-row-spans (of_row r ∷ kept) h =
      let left : ℕ = (stretched r.part (stretch_of (map made_piece kept))).left in
      let own = list_all one_row (map (cut_cell left) (map (cell_with_blocks true r.is_in_head c) r.cells)) in
      let p = and_parts own (list_all no_spans (cut_all (map made_piece kept))) h in
      let rest = no-row-spans kept p.1 in
      by (follows_in_part r.part (rows_in kept)) rest
      (λ e. cells-counted left r.is_in_head r.cells (follows-left r.part kept e) p.0)
    where
      by : (b : Bool) → have_row_spans (rows_in kept) ≡ false
          → (b ≡ true → has_cell may_span r ≡ false)
          → ((has_cell may_span r && b) || have_row_spans (rows_in kept)) ≡ false
      by true rest f = ap (λ x. (x && true) || have_row_spans (rows_in kept)) (f refl) ∙ rest
      by false rest f = at (has_cell may_span r)
        where
          at : (x : Bool) → ((x && false) || have_row_spans (rows_in kept)) ≡ false
          at true = rest
          at false = rest

-- all rows stay where one spans
rows-stay : (pieces : List TablePiece) → rows_in (filter (stays true) pieces) ≡ rows_in pieces
rows-stay [] = refl
rows-stay (of_caption n ∷ pieces) = at (content_shows n.tree) (rows-stay pieces)
  where
    at : (b : Bool) → rows_in (filter (stays true) pieces) ≡ rows_in pieces
        → rows_in (cond b (of_caption n ∷ filter (stays true) pieces) (filter (stays true) pieces))
        ≡ rows_in pieces
    at true e = e
    at false e = e
rows-stay (of_row r ∷ pieces) = ap (λ rs. r ∷ rs) (rows-stay pieces)

-- ---- else something shows in the first row

all-kept : (b : Bool) (pieces : List TablePiece) → list_all (stays b) (filter (stays b) pieces) ≡ true
all-kept b [] = refl
all-kept b (p ∷ pieces) = at (stays b p) refl (all-kept b pieces)
  where
    at : (x : Bool) → stays b p ≡ x → list_all (stays b) (filter (stays b) pieces) ≡ true
        → list_all (stays b) (cond x (p ∷ filter (stays b) pieces) (filter (stays b) pieces)) ≡ true
    at true e g = and_from (stays b p) (list_all (stays b) (filter (stays b) pieces)) e g
    at false e g = g

kept-fill : (b : Bool) (pieces : List TablePiece) → FillPieces pieces → FillPieces (filter (stays b) pieces)
kept-fill b [] h = tt
kept-fill b (of_caption n ∷ pieces) h = at (stays b (of_caption n)) (kept-fill b pieces h.1)
  where
    at : (x : Bool) → FillPieces (filter (stays b) pieces)
        → FillPieces (cond x (of_caption n ∷ filter (stays b) pieces) (filter (stays b) pieces))
    at true g = (h.0, g)
    at false g = g
kept-fill b (of_row r ∷ pieces) h = at (stays b (of_row r)) (kept-fill b pieces h.1)
  where
    at : (x : Bool) → FillPieces (filter (stays b) pieces)
        → FillPieces (cond x (of_row r ∷ filter (stays b) pieces) (filter (stays b) pieces))
    at true g = (h.0, g)
    at false g = g

filled-cell : (xs : Inlines) → is_empty_cell xs ≡ false → not (has_none xs) ≡ true
filled-cell no_inlines e = absurd (true≢false e)
filled-cell (inline x xs) e = refl

module _ (c : Context) (rich : c.is_rich ≡ true) (blocks : c.is_flat ≡ false) where
  in-cell : (t : Simple) (shown : Bool) (parts : Context → List Part) → FillsCells shown parts → shown ≡ true
      → is_paragraph_at_most (blocks_of false (parts (in_cell t c))) ≡ true
      → is_empty_cell (inlines_in (blocks_of false (parts (in_cell t c)))) ≡ false
  in-cell (element id role.Cell facts attributes content) shown parts f e = near facts.pres
    where
      near : (k : ℕ) → is_paragraph_at_most (blocks_of false (parts (beside_code k attributes c))) ≡ true
          → is_empty_cell (inlines_in (blocks_of false (parts (beside_code k attributes c)))) ≡ false
      near zero = f e c rich blocks
      near (suc zero) = f e (beside_code 1 attributes c) rich blocks
      near (suc (suc k)) = f e (beside_code (suc (suc k)) attributes c) rich blocks
  in-cell (element id r facts attributes content) shown parts f e = f e c rich blocks
  in-cell (text s) shown parts f e = f e c rich blocks
  in-cell (image o attributes) shown parts f e = f e c rich blocks
  in-cell (formula tex is_alone attributes) shown parts f e = f e c rich blocks
  in-cell (embedded id s title attributes ids) shown parts f e = f e c rich blocks
  in-cell (anchor id) shown parts f e = f e c rich blocks

  row-shown : (left : ℕ) (in_head : Bool) (cells : List Node) → FillNodes cells
      → list_any (λ (n : Node). content_shows n.tree) cells ≡ true
      → list_all is_paragraph_cell (map (cut_cell left) (map (cell_with_blocks false in_head c) cells)) ≡ true
      → shows_header (map cell_line (map (cut_cell left) (map (cell_with_blocks false in_head c) cells))) ≡ true
  row-shown left in_head [] f h p = absurd (false≢true h)
  row-shown left in_head (n ∷ cells) f h p =
      let one : elements.Cell = cut_cell left (cell_with_blocks false in_head c n) in
      let others = map (cut_cell left) (map (cell_with_blocks false in_head c) cells) in
      let q = and_parts (is_paragraph_cell one) (list_all is_paragraph_cell others) p in
      let rest : Bool = shows_header (map cell_line others) in
      test (content_shows n.tree)
      (λ e. ap (λ b. b || rest)
      (filled-cell (cell_line one) (in-cell n.tree (content_shows n.tree) n.content f.0 e q.0)))
      (λ e. or_right (not (has_none (cell_line one))) rest
      (row-shown left in_head cells f.1
      (sym (ap (λ b. b || list_any (λ (n : Node). content_shows n.tree) cells) e) ∙ h) q.1))

  filled : (bs : Blocks) → (is_paragraph_at_most bs ≡ true → is_empty_cell (inlines_in bs) ≡ false)
      → is_filled bs ≡ true
  filled no_blocks f = absurd (true≢false (f refl))
  filled (block b bs) f = refl

  row-filled : (left : ℕ) (in_head : Bool) (cells : List Node) → FillNodes cells
      → list_any (λ (n : Node). content_shows n.tree) cells ≡ true
      → list_any elements.is_filled_cell (map (cut_cell left) (map (cell_with_blocks false in_head c) cells)) ≡ true
  row-filled left in_head [] f h = absurd (false≢true h)
  row-filled left in_head (n ∷ cells) f h =
      let own : Blocks = blocks_of false (n.content (in_cell n.tree c)) in
      let others = map (cut_cell left) (map (cell_with_blocks false in_head c) cells) in
      let rest : Bool = list_any elements.is_filled_cell others in
      test (content_shows n.tree)
      (λ e. ap (λ b. b || rest) (filled own (in-cell n.tree (content_shows n.tree) n.content f.0 e)))
      (λ e. or_right (is_filled own) rest
      (row-filled left in_head cells f.1
      (sym (ap (λ b. b || list_any (λ (n : Node). content_shows n.tree) cells) e) ∙ h)))

  caption-filled : (n : Node) → FillsBlocks (content_shows n.tree) n.content → content_shows n.tree ≡ true
      → is_filled (blocks_within n c) ≡ true
  caption-filled n f s =
      let sits : Sits false (around_node n.tree c) =
      sits-around n.tree c (record { rich = rich; line = blocks }) in
      f (around_node n.tree c) sits.rich sits.line ∙ s

  -- something stands in each row and caption in which something shows
  rows-filled : (kept : List TablePiece) → FillPieces kept → list_all (stays false) kept ≡ true
      → list_all elements.is_filled_piece (pieces_with_blocks false kept c) ≡ true
  rows-filled [] f s = refl
  rows-filled (of_caption n ∷ kept) f s =
      let p = and_parts (content_shows n.tree) (list_all (stays false) kept) s in
      and_from (is_filled (blocks_within n c)) (list_all elements.is_filled_piece (pieces_with_blocks false kept c))
      (caption-filled n f.0 p.0) (rows-filled kept f.1 p.1)
  rows-filled (of_row r ∷ kept) f s =
      let left : ℕ = (stretched r.part (stretch_of (map (piece_with_blocks false c) kept))).left in
      let own = map (cut_cell left) (map (cell_with_blocks false r.is_in_head c) r.cells) in
      let p = and_parts (has_cell content_shows r) (list_all (stays false) kept) s in
      and_from (list_any elements.is_filled_cell own)
      (list_all elements.is_filled_piece (pieces_with_blocks false kept c))
      (row-filled left r.is_in_head r.cells f.0 p.0) (rows-filled kept f.1 p.1)

  -- and where a cell takes more than one row, one does so in the document
  pub all-filled : (pieces : List TablePiece) → FillPieces pieces
      → list_all no_spans (pieces_with_blocks (have_row_spans (rows_in pieces)) (kept_pieces pieces) c) ≡ true
      → list_all elements.is_filled_piece
      (pieces_with_blocks (have_row_spans (rows_in pieces)) (kept_pieces pieces) c) ≡ true
  all-filled pieces f = at (have_row_spans (rows_in pieces)) refl
    where
      at : (b : Bool) → have_row_spans (rows_in pieces) ≡ b
          → list_all no_spans (pieces_with_blocks b (filter (stays b) pieces) c) ≡ true
          → list_all elements.is_filled_piece (pieces_with_blocks b (filter (stays b) pieces) c) ≡ true
      at true e o =
          let none = no-row-spans c (filter (stays true) pieces) o in
          absurd (true≢false (sym e ∙ (sym (ap have_row_spans (rows-stay pieces)) ∙ none)))
      at false e o = rows-filled (filter (stays false) pieces) (kept-fill false pieces f) (all-kept false pieces)

  abbrev first_shown : Bool → List TablePiece → Type 0
  first_shown spans kept = shows_header (get_or (map line_of (pieces_with_blocks spans kept c)) 0 []) ≡ true

  plain-shown : (kept : List TablePiece) → FillPieces kept → list_all (stays false) kept ≡ true
      → are_paragraphs (pieces_with_blocks false kept c) ≡ true
      → has_header_alone (pieces_with_blocks false kept c) ≡ true → first_shown false kept
  plain-shown [] f s p h = absurd (false≢true h)
  plain-shown (of_caption n ∷ kept) f s p h = absurd (false≢true h)
  plain-shown (of_row r ∷ kept) f s p h =
      let left : ℕ = (stretched r.part (stretch_of (map (piece_with_blocks false c) kept))).left in
      let own = map (cut_cell left) (map (cell_with_blocks false r.is_in_head c) r.cells) in
      row-shown left r.is_in_head r.cells f.0 (and_parts (has_cell content_shows r) (list_all (stays false) kept) s).0
      (and_parts (list_all is_paragraph_cell own) _ p).0

  pub header-shown : (pieces : List TablePiece) → FillPieces pieces
      → are_paragraphs (pieces_with_blocks (have_row_spans (rows_in pieces)) (kept_pieces pieces) c) ≡ true
      → has_header_alone (pieces_with_blocks (have_row_spans (rows_in pieces)) (kept_pieces pieces) c) ≡ true
      → first_shown (have_row_spans (rows_in pieces)) (kept_pieces pieces)
  header-shown pieces f = at (have_row_spans (rows_in pieces)) refl
    where
      at : (b : Bool) → have_row_spans (rows_in pieces) ≡ b
          → are_paragraphs (pieces_with_blocks b (filter (stays b) pieces) c) ≡ true
          → has_header_alone (pieces_with_blocks b (filter (stays b) pieces) c) ≡ true
          → first_shown b (filter (stays b) pieces)
      at true e p h =
          let kept : List TablePiece = filter (stays true) pieces in
          let none = no-row-spans c kept (header-alone (pieces_with_blocks true kept c) h) in
          absurd (true≢false (sym e ∙ (sym (ap have_row_spans (rows-stay pieces)) ∙ none)))
      at false e p h =
          plain-shown (filter (stays false) pieces) (kept-fill false pieces f) (all-kept false pieces) p h

-- ---- and then in the header of the table

trimmed-shown : (cells : List Inlines) → shows_header cells ≡ true → shows_header (trimmed_row cells) ≡ true
trimmed-shown [] h = h
trimmed-shown (c ∷ cells) h =
    test (is_empty_cell c)
    (λ e. behind (trimmed_row cells)
    (trimmed-shown cells (sym (ap (λ b. not b || shows_header cells) (none c e)) ∙ h)))
    (λ e. here (trimmed_row cells) e)
  where
    none : (c : Inlines) → is_empty_cell c ≡ true → has_none c ≡ true
    none no_inlines e = refl
    none (inline x xs) e = absurd (false≢true e)

    behind : (t : List Inlines) → shows_header t ≡ true → shows_header (with_cell c t) ≡ true
    behind [] g = absurd (false≢true g)
    behind (d ∷ t) g = or_right (not (has_none c)) (shows_header (d ∷ t)) g

    here : (t : List Inlines) → is_empty_cell c ≡ false → shows_header (with_cell c t) ≡ true
    here [] e =
        ap (λ b. shows_header (cond b [] (c ∷ []))) e ∙ ap (λ b. b || false) (filled-cell c e)
    here (d ∷ t) e = ap (λ b. b || shows_header (d ∷ t)) (filled-cell c e)

behind-shown : (xs ys : List Inlines) → shows_header xs ≡ true → shows_header (xs ++ ys) ≡ true
behind-shown [] ys h = absurd (false≢true h)
behind-shown (x ∷ xs) ys h = at (not (has_none x)) (λ e. behind-shown xs ys e) h
  where
    at : (b : Bool) → (shows_header xs ≡ true → shows_header (xs ++ ys) ≡ true)
        → (b || shows_header xs) ≡ true
        → (b || shows_header (xs ++ ys)) ≡ true
    at true f g = refl
    at false f g = f g

-- the header of lines of which the first shows something
pub first-line : (columns : ℕ) (lines : List (List Inlines)) → shows_header (get_or lines 0 []) ≡ true
    → shows_header (padded columns (get_or (map trimmed_row lines) 0 [])) ≡ true
first-line columns [] h = absurd (false≢true h)
first-line columns (l ∷ lines) h =
    behind-shown (trimmed_row l) (replicate (columns - length (trimmed_row l)) no_inlines) (trimmed-shown l h)
