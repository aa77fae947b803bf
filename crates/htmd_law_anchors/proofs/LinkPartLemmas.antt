-- The links of what nodes give are those around what shows: lists and tables.
use Rattle.std.proofs.Common.{ℕ, zero, suc, ◌-◌, Bool, true, false, cond, List, [], ◌∷◌, ◌++◌, map}
use Rattle.std.proofs.Common.{fold, length, replicate, Option, Some, None}
use Rattle.std.specs.Prelude.{ℤ, nat_lt, ◌==◌}
use Rattle.htmd_document.specs.declared.document.Alignment.{Alignment}
use Rattle.htmd_document.specs.Documents.{Inlines, no_inlines, inline, Block, items_of}
use Rattle.htmd_flow.specs.Grids.{Cell, Row, filled, filled_all, shapes_of, contents_of, is_too_large, grid, with_cell}
use Rattle.htmd_flow.specs.Grids.{trimmed_row, width, padded, body, table_in, table_of_all, table_of_rows}
use Rattle.htmd_flow.specs.Grids.{alignments_of, begins_with_header}
use Rattle.htmd_flow.specs.Lists.{ListItem, are_filled, list_of, numbered, start_of, new_number, Groups, groups_at}
use Rattle.htmd_flow.specs.Lists.{with_number, with_item, lists_of, lists_if_filled}
use Rattle.htmd_law_anchors.specs.DocumentLinks.{LinksInLine, LinksInCells, LinksInRows, LinksInBlock, LinksInBlocks}
use Rattle.htmd_law_anchors.specs.DocumentLinks.{LinksInItems}
use Rattle.htmd_law_anchors.proofs.LinkWritingLemmas.{GoodParts, parts-append, parts-either}

module _ (Is : List ℕ → Type 0) where
  -- ---- lists

  abbrev pub AllItems : List ListItem → Type 0
  AllItems [] = Unit {0}
  AllItems (i ∷ items) = LinksInBlocks Is i.blocks × AllItems items

  items-append : (xs ys : List ListItem) → AllItems xs → AllItems ys → AllItems (xs ++ ys)
  items-append [] ys g h = h
  items-append (x ∷ xs) ys g h = (g.0, items-append xs ys g.1 h)

  inner-links : (items : List ListItem) → AllItems items
      → LinksInItems Is (items_of (map (λ (i : ListItem). i.blocks) items))
  inner-links [] h = tt
  inner-links (i ∷ items) h = (h.0, inner-links items h.1)

  numbered-good : (nested : ℕ) (start : ℤ) (items : List ListItem) → AllItems items
      → GoodParts Is (numbered nested start items)
  numbered-good nested start items h =
      parts-either Is (are_filled items) (list_of (start_of nested start (length items)) items ∷ []) []
      (λ e. (inner-links items h, tt)) (λ e. tt)

  record GroupsGood (g : Groups) : Type 0 where
    done : GoodParts Is g.done
    group : AllItems g.group

  number-good : (o : Option ℤ) (g : Groups) (i : ListItem) → GroupsGood g → LinksInBlocks Is i.blocks
      → GroupsGood (with_number g i o)
  number-good None g i h f = record { done = h.done; group = items-append g.group (i ∷ []) h.group (f, tt) }
  number-good (Some v) g i h f = record {
    done = parts-append Is g.done (numbered g.nested g.start g.group) h.done
        (numbered-good g.nested g.start g.group h.group);
    group = (f, tt);
  }

  groups-good : (items : List ListItem) (g : Groups) → GroupsGood g → AllItems items
      → GroupsGood (fold with_item g items)
  groups-good [] g h f = h
  groups-good (i ∷ items) g h f =
      groups-good items (with_item g i) (number-good (new_number g.next i.value) g i h f.0) f.1

  all-lists : (nested : ℕ) (start : Option ℤ) (items : List ListItem) → AllItems items
      → GoodParts Is (lists_of nested start items)
  all-lists nested None items h = (inner-links items h, tt)
  all-lists nested (Some start) items h =
      let g : Groups = fold with_item (groups_at nested start) items in
      let all : GroupsGood g = groups-good items (groups_at nested start) (record { done = tt; group = tt }) h in
      parts-append Is g.done (numbered g.nested g.start g.group) all.done
      (numbered-good g.nested g.start g.group all.group)

  pub lists-good : (nested : ℕ) (start : Option ℤ) (items : List ListItem) → AllItems items
      → GoodParts Is (lists_if_filled nested start items)
  lists-good nested start items h =
      parts-either Is (are_filled items) (lists_of nested start items) [] (λ e. all-lists nested start items h)
      (λ e. tt)

  -- ---- tables

  abbrev pub GoodCells : List Cell → Type 0
  GoodCells [] = Unit {0}
  GoodCells (c ∷ cells) = LinksInLine Is c.content × GoodCells cells

  abbrev pub GoodRows : List Row → Type 0
  GoodRows [] = Unit {0}
  GoodRows (row ∷ rows) = GoodCells row.cells × GoodRows rows

  filled-lines : (begins : List Bool) (cells : List Cell) → GoodCells cells → LinksInCells Is (filled begins cells)
  filled-lines [] cells h = tt
  filled-lines (true ∷ begins) (c ∷ cells) h = (h.0, filled-lines begins cells h.1)
  filled-lines (true ∷ begins) [] h = (tt, filled-lines begins [] h)
  filled-lines (false ∷ begins) cells h = (tt, filled-lines begins cells h)

  all-filled : (shapes : List (List Bool)) (rows : List Row) → GoodRows rows
      → LinksInRows Is (filled_all shapes rows)
  all-filled [] rows h = tt
  all-filled (begins ∷ shapes) [] h = tt
  all-filled (begins ∷ shapes) (row ∷ rows) h =
      (filled-lines begins row.cells h.0, all-filled shapes rows h.1)

  contents-lines : (cells : List Cell) → GoodCells cells → LinksInCells Is (map (λ (c : Cell). c.content) cells)
  contents-lines [] h = tt
  contents-lines (c ∷ cells) h = (h.0, contents-lines cells h.1)

  all-contents : (rows : List Row) → GoodRows rows → LinksInRows Is (map contents_of rows)
  all-contents [] h = tt
  all-contents (row ∷ rows) h = (contents-lines row.cells h.0, all-contents rows h.1)

  grid-lines : (rows : List Row) → GoodRows rows → LinksInRows Is (grid rows)
  grid-lines rows h = either (is_too_large rows)
    where
      either : (b : Bool) → LinksInRows Is (cond b (map contents_of rows) (filled_all (shapes_of rows) rows))
      either true = all-contents rows h
      either false = all-filled (shapes_of rows) rows h

  trimmed-line : (cells : List Inlines) → LinksInCells Is cells → LinksInCells Is (trimmed_row cells)
  trimmed-line [] h = tt
  trimmed-line (cell ∷ cells) h = at cell (trimmed_row cells) h.0 (trimmed-line cells h.1)
    where
      at : (cell : Inlines) (rest : List Inlines) → LinksInLine Is cell → LinksInCells Is rest
          → LinksInCells Is (with_cell cell rest)
      at no_inlines [] l t = tt
      at (inline x xs) [] l t = (l, tt)
      at no_inlines (next ∷ rest) l t = (l, t)
      at (inline x xs) (next ∷ rest) l t = (l, t)

  all-trimmed : (rows : List (List Inlines)) → LinksInRows Is rows → LinksInRows Is (map trimmed_row rows)
  all-trimmed [] h = tt
  all-trimmed (row ∷ rows) h = (trimmed-line row h.0, all-trimmed rows h.1)

  cells-append : (xs ys : List Inlines) → LinksInCells Is xs → LinksInCells Is ys → LinksInCells Is (xs ++ ys)
  cells-append [] ys g h = h
  cells-append (x ∷ xs) ys g h = (g.0, cells-append xs ys g.1 h)

  empty-cells : (n : ℕ) → LinksInCells Is (replicate n no_inlines)
  empty-cells zero = tt
  empty-cells (suc n) = (tt, empty-cells n)

  padded-line : (n : ℕ) (cells : List Inlines) → LinksInCells Is cells → LinksInCells Is (padded n cells)
  padded-line n cells h =
      cells-append cells (replicate (n - length cells) no_inlines) h (empty-cells (n - length cells))

  body-lines : (rows : List (List Inlines)) → LinksInRows Is rows → LinksInRows Is (body rows)
  body-lines [] h = tt
  body-lines (row ∷ rows) h = either (nat_lt 0 (length row)) (body-lines rows h.1)
    where
      either : (b : Bool) → LinksInRows Is (body rows) → LinksInRows Is (cond b (row ∷ body rows) (body rows))
      either true g = (h.0, g)
      either false g = g

  table-links : (n : ℕ) (alignments : List Alignment) (has_header : Bool) (rows : List (List Inlines))
      → LinksInRows Is rows → LinksInBlock Is (table_in n alignments has_header rows)
  table-links n alignments true [] h = (padded-line n [] tt, tt)
  table-links n alignments true (first ∷ rest) h = (padded-line n first h.0, body-lines rest h.1)
  table-links n alignments false rows h = (padded-line n [] tt, body-lines rows h)

  abbrev pub GoodOption : Option Block → Type 0
  GoodOption None = Unit {0}
  GoodOption (Some b) = LinksInBlock Is b

  pub table-all : (alignments : List Alignment) (has_header : Bool) (rows : List (List Inlines)) → LinksInRows Is rows
      → GoodOption (table_of_all alignments has_header rows)
  table-all alignments has_header rows h =
      either (width (map trimmed_row rows) == 0)
    where
      made : Block
      made = table_in (width (map trimmed_row rows)) alignments has_header (map trimmed_row rows)

      either : (b : Bool) → GoodOption (cond b None (Some made))
      either true = tt
      either false =
          table-links (width (map trimmed_row rows)) alignments has_header (map trimmed_row rows)
          (all-trimmed rows h)

  pub table-good : (rows : List Row) → GoodRows rows → GoodOption (table_of_rows rows)
  table-good [] h = tt
  table-good (first ∷ rows) h =
      table-all (alignments_of first) (begins_with_header first) (grid (first ∷ rows)) (grid-lines (first ∷ rows) h)
