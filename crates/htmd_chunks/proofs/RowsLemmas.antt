-- What is counted of rows is the length of their table.
use Rattle.std.proofs.Common.{◌≡◌, ℕ, zero, suc, ◌+◌, ◌-◌, ◌*◌, ◌<◌, ◌≤◌, Bool, true}
use Rattle.std.proofs.Common.{false, cond, List, [], ◌∷◌, ◌++◌}
use Rattle.std.proofs.Common.{length, map, take, drop, get_or, max, min, fold, refl, subst, sym, ap, ◌∙◌, arith}
use Rattle.std.proofs.Common.{add_assoc}
use Rattle.std.specs.Prelude.{nat_le, replicate, sum, codes, Vec}
use Rattle.std.specs.declared.alloc.Global.{Global}
use Rattle.std.specs.List.{sum_by, flat_map}
use Rattle.std.proofs.lemmas.List.{append-nil, append_assoc, drop_all, drop_more, length-append, length-map}
use Rattle.std.proofs.lemmas.List.{length-replicate, length-take, take_all, take-map, take_min}
use Rattle.std.proofs.lemmas.List.Sums.{sum_by-cons}
use Rattle.std.proofs.lemmas.Str.{chars-nil}
use Rattle.htmd_lexical.specs.Characters.{hyphen, line_feed, space, vertical_bar}
use Rattle.htmd_document.specs.DocumentViews.{inlines_of}
use Rattle.htmd_document.specs.declared.document.Alignment.{Alignment}
use Rattle.htmd_document.specs.declared.document.Inline as source
use Rattle.htmd_commonmark.specs.BlockViews.{cells_of}
use Rattle.htmd_commonmark.specs.Columns.{columns_of, width_of}
use Rattle.htmd_commonmark.specs.TableLines as table
use Rattle.htmd_commonmark.specs.TableLines.{narrowest, line_width, padded_cell, barred_cells, dashes, delimiters}
use Rattle.htmd_commonmark.specs.TableLines.{shown_cells, rows_text}
use Rattle.htmd_commonmark.specs.declared.options.DocumentOptions.{DocumentOptions}
use Rattle.htmd_commonmark.proofs.TableLinesLemmas.{length_widened}
use Rattle.htmd_chunks.specs.Rows.{cell_text, cell_texts}
use Rattle.htmd_chunks.specs.RowViews.{RowSize, RowRun, measured, header_run, widened, with_row, padded_bytes}
use Rattle.htmd_chunks.specs.RowViews.{plain_bytes}
use Rattle.htmd_chunks.specs.RowViews.{run_bytes, run_cost}
use Rattle.htmd_chunks.specs.Sizes.{cost}
use Rattle.htmd_chunks.specs.declared.size.Margin.{Margin}

-- what these cells have together
abbrev pub widths_in : List (List ℕ) → ℕ
widths_in cells = sum (map width_of cells)

abbrev pub bytes_in : List (List ℕ) → ℕ
bytes_in cells = sum_by (λ cell. length cell) cells

-- ---- a row in columns that are wide enough

-- each cell is at most as wide as its column
pub data Fits : List (List ℕ) → List ℕ → Type 0 where
  no_cells : (columns : List ℕ) → Fits [] columns
  no_columns : (cell : List ℕ) (cells : List (List ℕ)) → Fits (cell ∷ cells) []
  cell_in : (cell : List ℕ) (cells : List (List ℕ)) (column : ℕ) (columns : List ℕ) → width_of cell ≤ column
      → Fits cells columns → Fits (cell ∷ cells) (column ∷ columns)

padded-length : (cell : List ℕ) (column : ℕ)
    → length (padded_cell cell column) ≡ length cell + 2 + (column - width_of cell)
padded-length cell column =
    let spaces = replicate (column - width_of cell) space in
    let all : length (cell ++ (spaces ++ space ∷ [])) ≡ length cell + (column - width_of cell + 1) =
    length-append cell (spaces ++ space ∷ [])
    ∙ ap (λ n. length cell + n) (length-append spaces (space ∷ [])
    ∙ ap (λ n. n + 1) (length-replicate (column - width_of cell) space)) in
    omega (arith, all)

barred-length : (cell : List ℕ) (column : ℕ) (rest : List ℕ)
    → length (padded_cell cell column ++ vertical_bar ∷ rest)
    ≡ length cell + 3 + (column - width_of cell) + length rest
barred-length cell column rest =
    omega (arith, length-append (padded_cell cell column) (vertical_bar ∷ rest), padded-length cell column)

width-none : width_of [] ≡ 0
width-none = ap (sum_by columns_of) chars-nil

-- the cells that a row lacks
empty-length : (columns : List ℕ)
    → length (barred_cells (replicate (length columns) []) columns) + 1 ≡ line_width columns
empty-length [] = refl
empty-length (column ∷ columns) =
    let rest = barred_cells (replicate (length columns) []) columns in
    let here : length (barred_cells (replicate (length (column ∷ columns)) []) (column ∷ columns))
    ≡ 0 + 3 + (column - width_of []) + length rest = barred-length [] column rest in
    omega (arith, here, width-none, empty-length columns)

pub filled-length : (cells : List (List ℕ)) (columns : List ℕ) → Fits cells columns
    → length (barred_cells (cells ++ replicate (length columns - length cells) []) columns) + 1
    + widths_in (take (length columns) cells)
    ≡ line_width columns + bytes_in (take (length columns) cells)
filled-length _ _ (no_cells columns) =
    let all : length columns - length {A = List ℕ} [] ≡ length columns = omega arith in
    let none : take {A = List ℕ} (length columns) [] ≡ [] = take_all (length columns) [] (omega arith) in
    ap (λ k. length (barred_cells (replicate k []) columns) + 1 + widths_in (take (length columns) [])) all
    ∙ ap (λ l. length (barred_cells (replicate (length columns) []) columns) + 1 + widths_in l) none
    ∙ omega (arith, empty-length columns)
    ∙ ap (λ l. line_width columns + bytes_in l) (sym none)
filled-length _ _ (no_columns cell cells) = refl
filled-length _ _ (cell_in cell cells column columns within fits) =
    let rest = barred_cells (cells ++ replicate (length columns - length cells) []) columns in
    let lacks : length (column ∷ columns) - length (cell ∷ cells) ≡ length columns - length cells = omega arith in
    let here : length (barred_cells
    ((cell ∷ cells) ++ replicate (length (column ∷ columns) - length (cell ∷ cells)) [])
    (column ∷ columns)) ≡ length cell + 3 + (column - width_of cell) + length rest =
    ap (λ k. length (barred_cells (cell ∷ cells ++ replicate k []) (column ∷ columns))) lacks
    ∙ barred-length cell column rest in
    let widths : widths_in (take (length (column ∷ columns)) (cell ∷ cells))
    ≡ width_of cell + widths_in (take (length columns) cells) =
    sum_by-cons (λ x. x) (width_of cell) (map width_of (take (length columns) cells)) in
    let bytes : bytes_in (take (length (column ∷ columns)) (cell ∷ cells))
    ≡ length cell + bytes_in (take (length columns) cells) =
    sum_by-cons (λ cell. length cell) cell (take (length columns) cells) in
    omega (arith, here, widths, bytes, filled-length cells columns fits)

-- ---- rows in columns that are wide enough

pub data AllFit : List (List (List ℕ)) → List ℕ → Type 0 where
  no_rows : (columns : List ℕ) → AllFit [] columns
  row_in : (row : List (List ℕ)) (rows : List (List (List ℕ))) (columns : List ℕ) → Fits row columns
      → AllFit rows columns → AllFit (row ∷ rows) columns

-- what the first cells of all rows have together
abbrev pub widths_of_rows : ℕ → List (List (List ℕ)) → ℕ
widths_of_rows n rows = sum_by (λ row. widths_in (take n row)) rows

abbrev pub bytes_of_rows : ℕ → List (List (List ℕ)) → ℕ
bytes_of_rows n rows = sum_by (λ row. bytes_in (take n row)) rows

abbrev pub cells_of_rows : ℕ → List (List (List ℕ)) → ℕ
cells_of_rows n rows = sum_by (λ row. length (take n row)) rows

rows-length : (rows : List (List (List ℕ))) (columns : List ℕ) → AllFit rows columns
    → (length (rows_text true columns rows) + widths_of_rows (length columns) rows
    ≡ length rows * line_width columns + bytes_of_rows (length columns) rows + length rows)
    × (length rows ≤ length (rows_text true columns rows))
rows-length _ _ (no_rows columns) = (omega arith, omega arith)
rows-length _ _ (row_in row rows columns fits others) =
    let cells = barred_cells (row ++ replicate (length columns - length row) []) columns in
    let here = filled-length row columns fits in
    let further = rows-length rows columns others in
    let both : length (rows_text true columns (row ∷ rows))
    ≡ suc (suc (length cells)) + length (rows_text true columns rows) =
    length-append (line_feed ∷ vertical_bar ∷ cells) (rows_text true columns rows) in
    let widths : widths_of_rows (length columns) (row ∷ rows)
    ≡ widths_in (take (length columns) row) + widths_of_rows (length columns) rows =
    sum_by-cons (λ row. widths_in (take (length columns) row)) row rows in
    let bytes : bytes_of_rows (length columns) (row ∷ rows)
    ≡ bytes_in (take (length columns) row) + bytes_of_rows (length columns) rows =
    sum_by-cons (λ row. bytes_in (take (length columns) row)) row rows in
    let lines : length (row ∷ rows) * line_width columns ≡ line_width columns + length rows * line_width columns =
    omega arith in (
      omega (arith, here, further.0, both, widths, bytes, lines),
      omega (arith, further.1, both),
    )

-- ---- rows that aren't padded

plain-length : (cells : List (List ℕ)) (n : ℕ)
    → length (barred_cells cells (replicate n 0)) ≡ bytes_in (take n cells) + 3 * length (take n cells)
plain-length [] zero = refl
plain-length [] (suc n) = refl
plain-length (cell ∷ cells) zero = refl
plain-length (cell ∷ cells) (suc n) =
    let here : length (barred_cells (cell ∷ cells) (replicate (suc n) 0))
    ≡ length cell + 3 + (0 - width_of cell) + length (barred_cells cells (replicate n 0)) =
    barred-length cell 0 (barred_cells cells (replicate n 0)) in
    let bytes : bytes_in (take (suc n) (cell ∷ cells)) ≡ length cell + bytes_in (take n cells) =
    sum_by-cons (λ cell. length cell) cell (take n cells) in
    omega (arith, here, bytes, plain-length cells n)

plain_rows-length : (columns : ℕ) (rows : List (List (List ℕ))) (n : ℕ)
    → length (flat_map (λ cells. line_feed ∷ table.line (shown_cells false columns cells) (replicate n 0)) rows)
    ≡ bytes_of_rows n rows + 3 * cells_of_rows n rows + 2 * length rows
plain_rows-length columns [] n = refl
plain_rows-length columns (row ∷ rows) n =
    let cells = barred_cells row (replicate n 0) in
    let others = flat_map (λ cells. line_feed ∷ table.line (shown_cells false columns cells) (replicate n 0)) rows in
    let both : length (flat_map (λ cells. line_feed ∷ table.line (shown_cells false columns cells) (replicate n 0))
    (row ∷ rows)) ≡ suc (suc (length cells)) + length others =
    length-append (line_feed ∷ vertical_bar ∷ cells) others in
    let bytes : bytes_of_rows n (row ∷ rows) ≡ bytes_in (take n row) + bytes_of_rows n rows =
    sum_by-cons (λ row. bytes_in (take n row)) row rows in
    let count : cells_of_rows n (row ∷ rows) ≡ length (take n row) + cells_of_rows n rows =
    sum_by-cons (λ row. length (take n row)) row rows in
    omega (arith, both, bytes, count, plain-length row n, plain_rows-length columns rows n)

-- ---- dashes

-- each column has place for two colons
pub data AreWide : List ℕ → Type 0 where
  none_narrow : AreWide []
  wide : (column : ℕ) (columns : List ℕ) → 2 ≤ column → AreWide columns → AreWide (column ∷ columns)

colon-length : (b : Bool) → length (table.colon_if b) ≡ 1
colon-length true = refl
colon-length false = refl

dashes-length : (a : Alignment) (column : ℕ) → 2 ≤ column → length (dashes a column) ≡ column
dashes-length a column enough =
    let left = table.colon_if (table.is_left a) in
    let middle = replicate (column - 2) hyphen in
    let right = table.colon_if (table.is_right a) in
    omega (
      arith,
      length-append (left ++ middle) right,
      length-append left middle,
      length-replicate (column - 2) hyphen,
      colon-length (table.is_left a),
      colon-length (table.is_right a),
    )

delimiter-length : (a : Alignment) (column : ℕ) (rest : List ℕ) → 2 ≤ column
    → length ((codes " " ++ dashes a column ++ codes " |") ++ rest) ≡ column + 3 + length rest
delimiter-length a column rest enough =
    omega (
      arith,
      length-append (codes " " ++ dashes a column ++ codes " |") rest,
      length-append (codes " " ++ dashes a column) (codes " |"),
      length-append (codes " ") (dashes a column),
      dashes-length a column enough,
    )

delimiters-length : (alignments : List Alignment) (columns : List ℕ) → AreWide columns
    → length (delimiters alignments columns) + 1 ≡ line_width (take (length alignments) columns)
delimiters-length [] columns enough = refl
delimiters-length (a ∷ alignments) _ none_narrow = refl
delimiters-length (a ∷ alignments) _ (wide column columns here others) =
    omega (
      arith,
      delimiter-length a column (delimiters alignments columns) here,
      delimiters-length alignments columns others,
    )

plain_delimiters-length : (alignments : List Alignment) (n : ℕ)
    → length (delimiters alignments (replicate n narrowest)) ≡ min (length alignments) n * 6
plain_delimiters-length [] n = omega arith
plain_delimiters-length (a ∷ alignments) zero = omega arith
plain_delimiters-length (a ∷ alignments) (suc n) =
    omega (
      arith,
      delimiter-length a narrowest (delimiters alignments (replicate n narrowest)) (omega arith),
      plain_delimiters-length alignments n,
    )

-- ---- columns of rows

fits-widened : (cells : List (List ℕ)) (columns : List ℕ) → Fits cells (table.widened columns cells)
fits-widened [] columns = no_cells (table.widened columns [])
fits-widened (cell ∷ cells) [] = no_columns cell cells
fits-widened (cell ∷ cells) (column ∷ columns) =
    cell_in cell cells (max column (width_of cell)) (table.widened columns cells) (omega arith)
    (fits-widened cells columns)

fits-more : (cells : List (List ℕ)) (columns : List ℕ) (others : List (List ℕ)) → Fits cells columns
    → Fits cells (table.widened columns others)
fits-more _ _ others (no_cells columns) = no_cells (table.widened columns others)
fits-more _ _ others (no_columns cell cells) = no_columns cell cells
fits-more _ _ [] (cell_in cell cells column columns within fits) = cell_in cell cells column columns within fits
fits-more _ _ (other ∷ others) (cell_in cell cells column columns within fits) =
    cell_in cell cells (max column (width_of other)) (table.widened columns others) (omega arith)
    (fits-more cells columns others fits)

fits-all : (cells : List (List ℕ)) (columns : List ℕ) (rows : List (List (List ℕ))) → Fits cells columns
    → Fits cells (fold table.widened columns rows)
fits-all cells columns [] fits = fits
fits-all cells columns (row ∷ rows) fits =
    fits-all cells (table.widened columns row) rows (fits-more cells columns row fits)

all-fit : (columns : List ℕ) (rows : List (List (List ℕ))) → AllFit rows (fold table.widened columns rows)
all-fit columns [] = no_rows columns
all-fit columns (row ∷ rows) =
    row_in row rows (fold table.widened (table.widened columns row) rows)
    (fits-all row (table.widened columns row) rows (fits-widened row columns))
    (all-fit (table.widened columns row) rows)

wide-more : (columns : List ℕ) (cells : List (List ℕ)) → AreWide columns → AreWide (table.widened columns cells)
wide-more _ cells none_narrow = none_narrow
wide-more _ [] (wide column columns here others) = wide column columns here others
wide-more _ (cell ∷ cells) (wide column columns here others) =
    wide (max column (width_of cell)) (table.widened columns cells) (omega arith) (wide-more columns cells others)

wide-all : (columns : List ℕ) (rows : List (List (List ℕ))) → AreWide columns
    → AreWide (fold table.widened columns rows)
wide-all columns [] enough = enough
wide-all columns (row ∷ rows) enough = wide-all (table.widened columns row) rows (wide-more columns row enough)

length-all : (columns : List ℕ) (rows : List (List (List ℕ)))
    → length (fold table.widened columns rows) ≡ length columns
length-all columns [] = refl
length-all columns (row ∷ rows) = length-all (table.widened columns row) rows ∙ length_widened columns row

-- the columns of a header
abbrev pub first_columns : List (List ℕ) → List ℕ
first_columns header = map (λ cell. max narrowest (width_of cell)) header

header-fits : (header : List (List ℕ)) → Fits header (first_columns header)
header-fits [] = no_cells []
header-fits (cell ∷ cells) =
    cell_in cell cells (max narrowest (width_of cell)) (first_columns cells) (omega arith) (header-fits cells)

header-wide : (header : List (List ℕ)) → AreWide (first_columns header)
header-wide [] = none_narrow
header-wide (cell ∷ cells) =
    wide (max narrowest (width_of cell)) (first_columns cells) (omega arith) (header-wide cells)

header-columns : (header : List (List ℕ)) → map (max narrowest) (map width_of header) ≡ first_columns header
header-columns [] = refl
header-columns (cell ∷ cells) = ap (λ l. max narrowest (width_of cell) ∷ l) (header-columns cells)

-- ---- what is counted

widened-same : (columns : List ℕ) (cells : List (List ℕ))
    → widened columns (map width_of (take (length columns) cells)) ≡ table.widened columns cells
widened-same [] cells = refl
widened-same (column ∷ columns) [] = refl
widened-same (column ∷ columns) (cell ∷ cells) =
    ap (λ l. max column (width_of cell) ∷ l) (widened-same columns cells)

-- more rows, of each so many cells
abbrev pub with_rows : ℕ → RowRun → List (List (List ℕ)) → RowRun
with_rows n run rows = fold with_row run (map (λ row. measured (take n row)) rows)

-- a header and rows with these texts
abbrev pub run_over : List (List ℕ) → List (List (List ℕ)) → RowRun
run_over header rows = with_rows (length header) (header_run (measured header)) rows

pub record Counts (n : ℕ) (run : RowRun) (rows : List (List (List ℕ))) : Type 0 where
  pub columns : (with_rows n run rows).columns ≡ fold table.widened run.columns rows
  pub lines : (with_rows n run rows).lines ≡ run.lines + length rows
  pub cells : (with_rows n run rows).cells ≡ run.cells + cells_of_rows n rows
  pub width : (with_rows n run rows).width ≡ run.width + widths_of_rows n rows
  pub bytes : (with_rows n run rows).bytes ≡ run.bytes + bytes_of_rows n rows

counts-of : (n : ℕ) (run : RowRun) (rows : List (List (List ℕ))) → length run.columns ≡ n → Counts n run rows
counts-of n run [] size = record {
  columns = refl;
  lines = omega arith;
  cells = omega arith;
  width = omega arith;
  bytes = omega arith;
}
counts-of n run (row ∷ rows) size =
    let next = with_row run (measured (take n row)) in
    let same : next.columns ≡ table.widened run.columns row =
    ap (λ k. widened run.columns (map width_of (take k row))) (sym size) ∙ widened-same run.columns row in
    let further = counts-of n next rows (ap (λ l. length l) same ∙ length_widened run.columns row ∙ size) in
    let count : length (map width_of (take n row)) ≡ length (take n row) = length-map (take n row) width_of in
    let cells : (with_rows n run (row ∷ rows)).cells ≡ run.cells + length (take n row) + cells_of_rows n rows =
    further.cells ∙ ap (λ k. run.cells + k + cells_of_rows n rows) count in
    record {
      columns = further.columns ∙ ap (λ l. fold table.widened l rows) same;
      lines = further.lines ∙ add_assoc run.lines 1 (length rows) ∙ ap (λ k. run.lines + k) (omega arith);
      cells =
          cells ∙ add_assoc run.cells (length (take n row)) (cells_of_rows n rows)
          ∙ ap (λ k. run.cells + k) (sym (sum_by-cons (λ row. length (take n row)) row rows));
      width =
          further.width ∙ add_assoc run.width (widths_in (take n row)) (widths_of_rows n rows)
          ∙ ap (λ k. run.width + k) (sym (sum_by-cons (λ row. widths_in (take n row)) row rows));
      bytes =
          further.bytes ∙ add_assoc run.bytes (bytes_in (take n row)) (bytes_of_rows n rows)
          ∙ ap (λ k. run.bytes + k) (sym (sum_by-cons (λ row. bytes_in (take n row)) row rows));
    }

-- ---- the text of a table

abbrev padded_text : List ℕ → List Alignment → List (List ℕ) → List (List (List ℕ)) → List ℕ
padded_text columns alignments header rows = table.lines_of true columns columns alignments header rows

lines-length : (is_padded : Bool) (columns dashed : List ℕ) (alignments : List Alignment) (header : List (List ℕ))
    (rows : List (List (List ℕ)))
    → length (table.lines_of is_padded columns dashed alignments header rows)
    ≡ 1 + length (barred_cells header columns) + (2 + length (delimiters alignments dashed))
    + length (rows_text is_padded columns rows)
lines-length is_padded columns dashed alignments header rows =
    let top = table.line header columns in
    let under = codes "\n|" ++ delimiters alignments dashed in
    omega (
      arith,
      length-append (top ++ under) (rows_text is_padded columns rows),
      length-append top under,
      length-append (codes "\n|") (delimiters alignments dashed),
    )

header-length : (header : List (List ℕ)) (columns : List ℕ) → Fits header columns
    → length columns ≡ length header
    → length (barred_cells header columns) + 1 + widths_in header ≡ line_width columns + bytes_in header
header-length header columns fits size =
    let none : length columns - length header ≡ 0 = omega arith in
    let same : header ++ replicate (length columns - length header) [] ≡ header =
    ap (λ k. header ++ replicate k []) none ∙ append-nil header in
    let all : take (length columns) header ≡ header = take_all (length columns) header (omega arith) in
    ap (λ l. length (barred_cells l columns) + 1 + widths_in header) (sym same)
    ∙ ap (λ l. length (barred_cells (header ++ replicate (length columns - length header) []) columns) + 1
    + widths_in l)
    (sym all)
    ∙ filled-length header columns fits ∙ ap (λ l. line_width columns + bytes_in l) all

padded-table : (alignments : List Alignment) (header : List (List ℕ)) (rows : List (List (List ℕ))) (run : RowRun)
    → run ≡ run_over header rows
    → length (padded_text run.columns alignments header rows)
    ≡ padded_bytes (line_width run.columns) (length alignments) run + run.lines
padded-table alignments header rows run is =
    let n = length header in
    let first = header_run (measured header) in
    let start = header-columns header in
    let size : length first.columns ≡ n =
    ap (λ l. length l) start ∙ length-map header (λ cell. max narrowest (width_of cell)) in
    let counts = counts-of n first rows size in
    let columns : run.columns ≡ fold table.widened (first_columns header) rows =
    ap (λ r. r.columns) is ∙ counts.columns ∙ ap (λ l. fold table.widened l rows) start in
    let enough : AreWide run.columns =
    subst AreWide (sym columns) (wide-all (first_columns header) rows (header-wide header)) in
    let fits : Fits header run.columns =
    subst (Fits header) (sym columns) (fits-all header (first_columns header) rows (header-fits header)) in
    let all : AllFit rows run.columns = subst (AllFit rows) (sym columns) (all-fit (first_columns header) rows) in
    let count : length run.columns ≡ n =
    ap (λ l. length l) columns ∙ length-all (first_columns header) rows
    ∙ length-map header (λ cell. max narrowest (width_of cell)) in
    let text = lines-length true run.columns run.columns alignments header rows in
    let top = header-length header run.columns fits count in
    let under = delimiters-length alignments run.columns enough in
    let below = rows-length rows run.columns all in
    let below_widths : widths_of_rows (length run.columns) rows ≡ widths_of_rows n rows =
    ap (λ k. widths_of_rows k rows) count in
    let below_bytes : bytes_of_rows (length run.columns) rows ≡ bytes_of_rows n rows =
    ap (λ k. bytes_of_rows k rows) count in
    let lines : run.lines ≡ 1 + length rows = ap (λ r. r.lines) is ∙ counts.lines in
    let width : run.width ≡ widths_in header + widths_of_rows n rows = ap (λ r. r.width) is ∙ counts.width in
    let bytes : run.bytes ≡ bytes_in header + bytes_of_rows n rows = ap (λ r. r.bytes) is ∙ counts.bytes in
    let product : run.lines * line_width run.columns ≡ line_width run.columns + length rows * line_width run.columns =
    ap (λ k. k * line_width run.columns) lines ∙ omega arith in
    omega (arith, text, top, under, below.0, below.1, below_widths, below_bytes, lines, width, bytes, product)

plain-table : (alignments : List Alignment) (header : List (List ℕ)) (rows : List (List (List ℕ))) (run : RowRun)
    → run ≡ run_over header rows
    → length (table.lines_of false (replicate (length run.columns) 0) (replicate (length run.columns) narrowest)
    alignments header rows)
    ≡ plain_bytes (length alignments) run + run.lines
plain-table alignments header rows run is =
    let n = length header in
    let first = header_run (measured header) in
    let start = header-columns header in
    let size : length first.columns ≡ n =
    ap (λ l. length l) start ∙ length-map header (λ cell. max narrowest (width_of cell)) in
    let counts = counts-of n first rows size in
    let count : length run.columns ≡ n =
    ap (λ r. length r.columns) is ∙ ap (λ l. length l) counts.columns ∙ length-all first.columns rows ∙ size in
    let zeros : List ℕ = replicate (length run.columns) 0 in
    let text = lines-length false zeros (replicate (length run.columns) narrowest) alignments header rows in
    let all : take (length run.columns) header ≡ header =
    take_all (length run.columns) header (omega (arith, count)) in
    let top : length (barred_cells header zeros) ≡ bytes_in header + 3 * n =
    plain-length header (length run.columns) ∙ ap (λ l. bytes_in l + 3 * length l) all in
    let under = plain_delimiters-length alignments (length run.columns) in
    let below : length (rows_text false zeros rows)
    ≡ bytes_of_rows n rows + 3 * cells_of_rows n rows + 2 * length rows =
    plain_rows-length (length zeros) rows (length run.columns)
    ∙ ap (λ k. bytes_of_rows k rows + 3 * cells_of_rows k rows + 2 * length rows) count in
    let lines : run.lines ≡ 1 + length rows = ap (λ r. r.lines) is ∙ counts.lines in
    let cells : run.cells ≡ n + cells_of_rows n rows =
    ap (λ r. r.cells) is ∙ counts.cells ∙ ap (λ k. k + cells_of_rows n rows) (length-map header width_of) in
    let bytes : run.bytes ≡ bytes_in header + bytes_of_rows n rows = ap (λ r. r.bytes) is ∙ counts.bytes in
    omega (arith, text, top, under, below, lines, cells, bytes)

either-table : (b : Bool) (alignments : List Alignment) (header : List (List ℕ)) (rows : List (List (List ℕ)))
    (run : RowRun) → run ≡ run_over header rows
    → length (cond b (padded_text run.columns alignments header rows)
    (table.lines_of false (replicate (length run.columns) 0) (replicate (length run.columns) narrowest) alignments
    header rows))
    ≡ cond b (padded_bytes (line_width run.columns) (length alignments) run) (plain_bytes (length alignments) run)
    + run.lines
either-table true alignments header rows run is = padded-table alignments header rows run is
either-table false alignments header rows run is = plain-table alignments header rows run is

pub table-length : (alignments : List Alignment) (header : List (List ℕ)) (rows : List (List (List ℕ)))
    → (length (table.table_text alignments header rows)
    ≡ run_bytes (length alignments) (run_over header rows) + (run_over header rows).lines)
    × ((run_over header rows).lines ≡ length rows + 1)
table-length alignments header rows =
    let n = length header in
    let run = run_over header rows in
    let first = header_run (measured header) in
    let start = header-columns header in
    let size : length first.columns ≡ n =
    ap (λ l. length l) start ∙ length-map header (λ cell. max narrowest (width_of cell)) in
    let counts = counts-of n first rows size in
    let columns : table.column_widths header rows ≡ run.columns =
    sym (counts.columns ∙ ap (λ l. fold table.widened l rows) start) in (
      ap (λ l. length (cond (nat_le (line_width l) table.longest_padded) (padded_text l alignments header rows)
          (table.lines_of false (replicate (length l) 0) (replicate (length l) narrowest) alignments header rows)))
          columns
          ∙ either-table (nat_le (line_width run.columns) table.longest_padded) alignments header rows run refl,
      omega (arith, counts.lines),
    )

pub cost-of-rows : (m : Margin) (alignments : List Alignment) (header : List (List ℕ)) (rows : List (List (List ℕ)))
    → run_cost m (length alignments) (run_over header rows)
    ≡ cost m (record {
      bytes = length (table.table_text alignments header rows);
      full = length rows + 2;
      empty = 0;
    })
cost-of-rows m alignments header rows =
    let all = table-length alignments header rows in
    let lines : (run_over header rows).lines + 1 ≡ length rows + 2 = omega (arith, all.1) in
    ap (λ k. cost m (record { bytes = k; full = (run_over header rows).lines + 1; empty = 0 })) (sym all.0)
    ∙ ap (λ k. cost m (record { bytes = length (table.table_text alignments header rows); full = k; empty = 0 }))
    lines

-- ---- the columns to come

widened-none : (columns : List ℕ) → widened columns [] ≡ columns
widened-none [] = refl
widened-none (column ∷ columns) = refl

pub wider-within : (columns widths : List ℕ) (i : ℕ) → i < length columns → i < length widths
    → widened (drop i columns) (drop i widths)
    ≡ max (get_or columns i 0) (get_or widths i 0) ∷ widened (drop (i + 1) columns) (drop (i + 1) widths)
wider-within columns widths i first second =
    ap (λ l. widened l (drop i widths)) (drop_more columns i 0 first)
    ∙ ap (widened (get_or columns i 0 ∷ drop (i + 1) columns)) (drop_more widths i 0 second)

pub wider-past : (columns widths : List ℕ) (i : ℕ) → i < length columns → length widths ≤ i
    → widened (drop i columns) (drop i widths)
    ≡ get_or columns i 0 ∷ widened (drop (i + 1) columns) (drop (i + 1) widths)
wider-past columns widths i within past =
    ap (λ l. widened l (drop i widths)) (drop_more columns i 0 within)
    ∙ ap (widened (get_or columns i 0 ∷ drop (i + 1) columns)) (drop_all i widths past)
    ∙ ap (λ l. get_or columns i 0 ∷ l) (sym (widened-none (drop (i + 1) columns)))
    ∙ ap (λ l. get_or columns i 0 ∷ widened (drop (i + 1) columns) l) (sym (drop_all (i + 1) widths (omega arith)))

pub column-pushed : (so_far now all : List ℕ) (column : ℕ) (rest old : List ℕ) → now ≡ so_far ++ column ∷ []
    → old ≡ column ∷ rest → so_far ++ old ≡ all → now ++ rest ≡ all
column-pushed so_far now all column rest old pushed next whole =
    ap (λ l. l ++ rest) pushed ∙ append_assoc so_far (column ∷ []) rest ∙ ap (λ l. so_far ++ l) (sym next)
    ∙ whole

-- ---- the first cells of a row

pub first-cells : (options : DocumentOptions) (cells : List (Vec source.Inline Global)) (columns count i : ℕ)
    → count ≡ min (length cells) columns → length (take count cells) ≤ i → i ≤ length (take count cells)
    → cell_texts options (cells_of (take i cells)) ≡ take columns (cell_texts options (cells_of cells))
first-cells options cells columns count i is past within =
    let all : i ≡ min columns (length cells) = omega (arith, is, length-take count cells) in
    let first : take i cells ≡ take columns cells = ap (λ n. take n cells) all ∙ take_min columns cells in
    ap (λ l. cell_texts options (cells_of l)) first
    ∙ ap (cell_texts options) (sym
    (take-map (λ (cell : Vec source.Inline Global). inlines_of cell.items) columns cells))
    ∙ sym (take-map (cell_text options) columns (cells_of cells))

pub size-is : (widths : List ℕ) (bytes : ℕ) (cells : List (List ℕ)) → widths ≡ map width_of cells
    → bytes ≡ sum_by length cells
    → ◌≡◌ {A = RowSize} (record { widths = widths; bytes = bytes }) (measured cells)
size-is widths bytes cells p q = cc
