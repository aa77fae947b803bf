-- Rows of a table whose cells take several rows are read as they are, if none takes rows past a caption or
-- the end.
use Rattle.std.proofs.Common.{◌≡◌, ℕ, zero, suc, ◌+◌, ◌==◌, nat_lt, nat_le, Bool, true, false, not, ◌&&◌, ◌||◌}
use Rattle.std.proofs.Common.{cond, List, [], ◌∷◌, ◌++◌, Option, Some, filter, map, refl, sym, ap, ◌∙◌, arith}
use Rattle.std.specs.List.{list_all, list_any}
use Rattle.std.proofs.lemmas.Bool.{and_parts}
use Rattle.std.proofs.lemmas.Bool.Decides.{nat_tests}
use Rattle.htmd_document.specs.Documents.{Blocks, no_blocks, block, element}
use Rattle.htmd_document.specs.declared.document.BlockElement.TheVariants as an
use Rattle.htmd_flow.specs.Contexts.{Context}
use Rattle.htmd_flow.specs.Flows as flow
use Rattle.htmd_flow.specs.Grids.{is_same_part}
use Rattle.htmd_flow.specs.TableElements as elements
use Rattle.htmd_shown.specs.Attributes.{row_span}
use Rattle.htmd_law_returning.specs.SettledTables.{rows_in, rows_ahead, fits, end_at_captions, takes_more, is_tall}
use Rattle.htmd_law_returning.proofs.RichTableLemmas.{as_pieces}
use Rattle.htmd_law_returning.proofs.StartLemmas.{false-true, true-false}

-- ---- rows up to a caption are of one part

-- the next row, if one follows
abbrev Follows : Option ℕ → List elements.Piece → Type 0
Follows part [] = Unit {0}
Follows part (elements.caption content ∷ pieces) = Unit {0}
Follows part (elements.row r ∷ pieces) = is_same_part part r.part ≡ true

abbrev pub AreJoined : List elements.Piece → Type 0
AreJoined [] = Unit {0}
AreJoined (elements.caption content ∷ pieces) = AreJoined pieces
AreJoined (elements.row r ∷ pieces) = Follows r.part pieces × AreJoined pieces

same-part : (id : ℕ) → (id == id) ≡ true
same-part id = grind (arith, nat_tests)

abbrev pub begins_with_row : List elements.Piece → Bool
begins_with_row (elements.row r ∷ pieces) = true
begins_with_row pieces = false

-- rows of one part before others
pub joined-before : (id : ℕ) (rows : Blocks) (ps : List elements.Piece) → begins_with_row ps ≡ false
    → AreJoined ps
    → AreJoined (rows_in (Some id) rows ++ ps)
joined-before id no_blocks ps h k = k
joined-before id (block (element an.Caption attributes content) bs) ps h k = joined-before id bs ps h k
joined-before id (block (element name attributes cells) bs) ps h k = (follows bs ps h, joined-before id bs ps h k)
  where
    follows : (bs : Blocks) (ps : List elements.Piece) → begins_with_row ps ≡ false
        → Follows (Some id) (rows_in (Some id) bs ++ ps)
    follows no_blocks [] h = tt
    follows no_blocks (elements.caption content ∷ ps) h = tt
    follows no_blocks (elements.row r ∷ ps) h = true-false h
    follows (block (element an.Caption attributes content) bs) ps h = tt
    follows (block (element name attributes cells) bs) ps h = same-part id
    follows (block b bs) [] h = tt
    follows (block b bs) (elements.caption content ∷ ps) h = tt
    follows (block b bs) (elements.row r ∷ ps) h = true-false h
joined-before id (block b bs) ps h k = k

-- ---- nothing is cut

least-one : (b : Bool) (k : ℕ) → nat_le 1 (cond b (k + 1) 1) ≡ true
least-one true k = grind (arith, nat_tests)
least-one false k = grind (arith, nat_tests)

one-more-left : (k left : ℕ) (s : Bool) → nat_le (suc k) left ≡ true → s ≡ true
    → nat_le (suc (suc k)) (cond (nat_lt 0 left && s) (left + 1) 1) ≡ true
one-more-left k left s h e =
    let some : nat_lt 0 left ≡ true = grind (arith, nat_tests, h) in
    ap (λ b. nat_le (suc (suc k)) (cond (b && s) (left + 1) 1)) some
    ∙ (ap (λ b. nat_le (suc (suc k)) (cond b (left + 1) 1)) e ∙ grind (arith, nat_tests, h))

-- a row and those up to a caption are left to it
left-least : (part : Option ℕ) (ps : List elements.Piece) → Follows part ps → AreJoined ps
    → nat_le (suc (rows_ahead ps)) (elements.stretched part (elements.stretch_of ps)).left ≡ true
left-least part [] h k = refl
left-least part (elements.caption content ∷ ps) h k =
    let s : elements.Stretch = elements.stretch_of ps in
    least-one (nat_lt 0 s.left && is_same_part part s.part) s.left
left-least part (elements.row r ∷ ps) h k =
    one-more-left (rows_ahead ps) (elements.stretched r.part (elements.stretch_of ps)).left (is_same_part part r.part)
    (left-least r.part ps k.0 k.1) h

within : (left rows : ℕ) → nat_lt 0 rows ≡ true → nat_le rows left ≡ true
    → elements.rows_within left rows ≡ rows
within left zero h l = false-true h
within left (suc k) h l = grind (arith, nat_tests, l)

cells-uncut : (k left : ℕ) (cells : List elements.Cell) → nat_le k left ≡ true
    → list_all (fits k) cells ≡ true
    → map (elements.cut_cell left) cells ≡ cells
cells-uncut k left [] l h = refl
cells-uncut k left (c ∷ cells) l h =
    let p = and_parts (fits k c) (list_all (fits k) cells) h in
    let q = and_parts (nat_lt 0 c.rows) (nat_le c.rows k) p.0 in
    let few = q.1 in
    let one : ℕ → elements.Cell = λ j. record c { rows = j } in
    ap (λ j. one j ∷ map (elements.cut_cell left) cells) (within left c.rows q.0 (grind (arith, nat_tests, few, l)))
    ∙ ap (λ cs. c ∷ cs) (cells-uncut k left cells l p.1)

pub rows-uncut : (ps : List elements.Piece) → AreJoined ps → end_at_captions ps ≡ true
    → elements.cut_all ps ≡ ps
rows-uncut [] h f = refl
rows-uncut (elements.caption content ∷ ps) h f = ap (λ qs. elements.caption content ∷ qs) (rows-uncut ps h f)
rows-uncut (elements.row r ∷ ps) h f =
    let p = and_parts (list_all (fits (suc (rows_ahead ps))) r.cells) (end_at_captions ps) f in
    let left : ℕ = (elements.stretched r.part (elements.stretch_of ps)).left in
    ap (λ cs. elements.row (record r { cells = cs }) ∷ elements.cut_all ps)
    (cells-uncut (suc (rows_ahead ps)) left r.cells (left-least r.part ps h.0 h.1) p.0)
    ∙ ap (λ qs. elements.row r ∷ qs) (rows-uncut ps h.1 p.1)

-- ---- how many rows they take counts if a cell takes more than one

pub neither : (a b : Bool) → (a || b) ≡ false → (a ≡ false) × (b ≡ false)
neither true b h = false-true (sym h)
neither false b h = (refl, h)

more-than-one : (k : ℕ) → nat_lt 0 k ≡ true → not (k == 1) ≡ nat_lt 1 k
more-than-one k h = grind (arith, nat_tests, h)

just-one : (k : ℕ) → nat_lt 0 k ≡ true → nat_lt 1 k ≡ false → 1 ≡ k
just-one k h l = grind (arith, nat_tests, h, l)

at-most-one : (k : ℕ) → nat_le k 1 ≡ true → nat_lt 1 k ≡ false
at-most-one k h = grind (arith, nat_tests, h)

last-row : (cells : List elements.Cell) → list_all (fits 1) cells ≡ true → list_any takes_more cells ≡ false
last-row [] h = refl
last-row (c ∷ cells) h =
    let p = and_parts (fits 1 c) (list_all (fits 1) cells) h in
    ap (λ b. b || list_any takes_more cells)
    (at-most-one c.rows (and_parts (nat_lt 0 c.rows) (nat_le c.rows 1) p.0).1) ∙ last-row cells p.1

module _ (c : Context) where
  abbrev read_cells : Bool → List flow.Node → List elements.Cell
  read_cells in_head cells = map (flow.cell_with_blocks true in_head c) cells

  abbrev pub read : List flow.TablePiece → List elements.Piece
  read ps = map (flow.piece_with_blocks true c) ps

  cells-span : (left : ℕ) (in_head : Bool) (cells : List flow.Node)
      → list_all (fits left) (read_cells in_head cells) ≡ true
      → list_any (λ (m : flow.Node). flow.may_span m.tree) cells ≡ list_any takes_more (read_cells in_head cells)
  cells-span left in_head [] h = refl
  cells-span left in_head (m ∷ cells) h =
      let k : ℕ = row_span (flow.attributes_of m.tree) in
      let p = and_parts (nat_lt 0 k && nat_le k left) (list_all (fits left) (read_cells in_head cells)) h in
      ap (λ b. b || list_any (λ (m : flow.Node). flow.may_span m.tree) cells)
      (more-than-one k (and_parts (nat_lt 0 k) (nat_le k left) p.0).0)
      ∙ ap (λ b. nat_lt 1 k || b) (cells-span left in_head cells p.1)

  last-spans : (in_head : Bool) (cells : List flow.Node) (x rest : Bool)
      → list_all (fits 1) (read_cells in_head cells) ≡ true
      → ((list_any (λ (m : flow.Node). flow.may_span m.tree) cells && x) || rest)
      ≡ (list_any takes_more (read_cells in_head cells) || rest)
  last-spans in_head cells x rest h =
      let none : list_any takes_more (read_cells in_head cells) ≡ false = last-row (read_cells in_head cells) h in
      ap (λ b. (b && x) || rest) (cells-span 1 in_head cells h ∙ none) ∙ sym (ap (λ b. b || rest) none)

  and-true : (b : Bool) → (b && true) ≡ b
  and-true true = refl
  and-true false = refl

  pub rows-span : (ps : List flow.TablePiece) → AreJoined (read ps) → end_at_captions (read ps) ≡ true
      → flow.have_row_spans (flow.rows_in ps) ≡ list_any is_tall (read ps)
  rows-span [] h f = refl
  rows-span (flow.of_caption n ∷ ps) h f = rows-span ps h f
  rows-span (flow.of_row r ∷ []) h f =
      last-spans r.is_in_head r.cells false false
      (and_parts (list_all (fits 1) (read_cells r.is_in_head r.cells)) true f).0
  rows-span (flow.of_row r ∷ flow.of_caption n ∷ ps) h f =
      let p = and_parts (list_all (fits 1) (read_cells r.is_in_head r.cells)) (end_at_captions (read ps)) f in
      let own : Bool = list_any (λ (m : flow.Node). flow.may_span m.tree) r.cells in
      let x : Bool = flow.follows_in_part r.part (flow.rows_in ps) in
      ap (λ b. (own && x) || b) (rows-span ps h.1 p.1)
      ∙ last-spans r.is_in_head r.cells x (list_any is_tall (read ps)) p.0
  rows-span (flow.of_row r ∷ flow.of_row next ∷ ps) h f =
      let others : List flow.TablePiece = flow.of_row next ∷ ps in
      let cells : List elements.Cell = read_cells r.is_in_head r.cells in
      let left : ℕ = suc (rows_ahead (read others)) in
      let p = and_parts (list_all (fits left) cells) (end_at_captions (read others)) f in
      let more : Bool = flow.have_row_spans (flow.rows_in others) in
      let own : Bool = list_any (λ (m : flow.Node). flow.may_span m.tree) r.cells in
      ap (λ b. (own && b) || more) h.0
      ∙ (ap (λ b. b || more) (and-true own)
      ∙ (ap (λ b. b || more) (cells-span left r.is_in_head r.cells p.0)
      ∙ ap (λ b. list_any takes_more cells || b) (rows-span (flow.of_row next ∷ ps) h.1 p.1)))

  one-row-cells : (left : ℕ) (in_head : Bool) (cells : List flow.Node)
      → list_all (fits left) (read_cells in_head cells) ≡ true
      → list_any takes_more (read_cells in_head cells) ≡ false
      → map (flow.cell_with_blocks false in_head c) cells ≡ read_cells in_head cells
  one-row-cells left in_head [] h l = refl
  one-row-cells left in_head (m ∷ cells) h l =
      let k : ℕ = row_span (flow.attributes_of m.tree) in
      let p = and_parts (nat_lt 0 k && nat_le k left) (list_all (fits left) (read_cells in_head cells)) h in
      let q = neither (nat_lt 1 k) (list_any takes_more (read_cells in_head cells)) l in
      let one : ℕ → elements.Cell = λ j. record (flow.cell_with_blocks true in_head c m) { rows = j } in
      ap (λ j. one j ∷ map (flow.cell_with_blocks false in_head c) cells)
      (just-one k (and_parts (nat_lt 0 k) (nat_le k left) p.0).0 q.0)
      ∙ ap (λ cs. one k ∷ cs) (one-row-cells left in_head cells p.1 q.1)

  pub one-row-each : (ps : List flow.TablePiece) → end_at_captions (read ps) ≡ true
      → list_any is_tall (read ps) ≡ false → map (flow.piece_with_blocks false c) ps ≡ read ps
  one-row-each [] f l = refl
  one-row-each (flow.of_caption n ∷ ps) f l =
      ap (λ qs. flow.piece_with_blocks true c (flow.of_caption n) ∷ qs) (one-row-each ps f l)
  one-row-each (flow.of_row r ∷ ps) f l =
      let cells : List elements.Cell = read_cells r.is_in_head r.cells in
      let left : ℕ = suc (rows_ahead (read ps)) in
      let p = and_parts (list_all (fits left) cells) (end_at_captions (read ps)) f in
      let q = neither (list_any takes_more cells) (list_any is_tall (read ps)) l in
      ap (λ cs. elements.row (record { part = r.part; cells = cs }) ∷ map (flow.piece_with_blocks false c) ps)
      (one-row-cells left r.is_in_head r.cells p.0 q.0)
      ∙ ap (λ qs. elements.row (record { part = r.part; cells = cells }) ∷ qs) (one-row-each ps p.1 q.1)

-- where a cell takes more, all rows stay
pub all-stay : (rows : List flow.Row) → filter (flow.stays true) (as_pieces rows) ≡ as_pieces rows
all-stay [] = refl
all-stay (r ∷ rows) = ap (λ ps. flow.of_row r ∷ ps) (all-stay rows)
