-- How long the lines of a table are at most.
use Rattle.std.proofs.Common.{◌≡◌, ◌∙◌, refl, sym, ap, ℕ, zero, suc, ◌+◌, ◌*◌, ◌-◌, ◌≤◌, Bool, true, false, List, []}
use Rattle.std.proofs.Common.{◌∷◌, ◌++◌, length, mul-zero, mul-suc, arith}
use Rattle.std.proofs.lemmas.Bool.Decides.{nat_tests}
use Rattle.std.proofs.lemmas.List.{length-append, length-replicate}
use Rattle.std.specs.Prelude.{◌||◌, ◌==◌, nat_le, max, fold, map, if◌then◌else◌, replicate, codes}
use Rattle.htmd_lexical.specs.Characters.{line_feed, space, hyphen, colon, vertical_bar}
use Rattle.htmd_text.specs.Trims.{is_line_feed}
use Rattle.htmd_document.specs.declared.document.Alignment.{Alignment}
use Rattle.htmd_document.specs.Documents.{Inlines}
use Rattle.htmd_commonmark.specs.declared.line.Line.{Line}
use Rattle.htmd_commonmark.specs.BlockMarkdown.{written_cells, written_rows}
use Rattle.htmd_commonmark.specs.InlineMarkdown.{written_line}
use Rattle.htmd_commonmark.specs.TableLines.{with_escaped_bars, narrowest, longest_padded, widened}
use Rattle.htmd_commonmark.specs.TableLines.{padded_cell, barred_cells, line}
use Rattle.htmd_commonmark.specs.Columns.{width_of}
use Rattle.htmd_commonmark.specs.TableLines.{column_widths, line_width, is_left, is_right, colon_if, dashes, delimiters}
use Rattle.htmd_commonmark.specs.TableLines.{shown_cells, rows_text, lines_of, table_text}
use Rattle.htmd_document_of_tree.proofs.TextLengths.{total}
use Rattle.htmd_law_sizes.specs.DocumentSizes.{size_of_cells, size_of_rows}
use Rattle.htmd_law_sizes.proofs.CountsLemmas.{tally, is_break, Cost, empty, cost_append, within, fixed, plain_cons}
use Rattle.htmd_law_sizes.proofs.CountsLemmas.{repeated, feeds_le, tally_grows, tally_cons, cost_cons}
use Rattle.htmd_law_sizes.proofs.InlineBounds.{lines_size, line_cost}

-- ---- cells and their texts

-- the bytes of texts, and their line feeds
abbrev pub feeds : List (List ℕ) → ℕ
feeds [] = 0
feeds (s ∷ texts) = tally is_line_feed s + feeds texts

pub own : (s : List ℕ) → Cost is_line_feed s (length s) (tally is_line_feed s)
own s = record { long = omega arith; passing = omega arith }

-- a bar gets a backslash
bars_length : (s : List ℕ) → length (with_escaped_bars s) ≤ length s + tally is_break s
bars_length [] = omega arith
bars_length (b ∷ s) = go (is_line_feed b) (b == vertical_bar) (bars_length s)
  where
    go : (f t : Bool) → length (with_escaped_bars s) ≤ length s + tally is_break s
        → length ((if t then codes "\\|" else b ∷ []) ++ with_escaped_bars s)
        ≤ suc (length s) + (if f || t then suc (tally is_break s) else tally is_break s)
    go true true i = omega (arith, i)
    go false true i = omega (arith, i)
    go true false i = omega (arith, i)
    go false false i = omega (arith, i)

bars_feeds : (s : List ℕ) → tally is_line_feed (with_escaped_bars s) ≤ tally is_line_feed s
bars_feeds [] = omega arith
bars_feeds (b ∷ s) = go (b == vertical_bar) (bars_feeds s)
  where
    go : (t : Bool) → tally is_line_feed (with_escaped_bars s) ≤ tally is_line_feed s
        → tally is_line_feed ((if t then codes "\\|" else b ∷ []) ++ with_escaped_bars s) ≤ tally is_line_feed
        (b ∷ s)
    go true i = omega (arith, i, tally_grows is_line_feed b s)
    go false i = tally_cons is_line_feed b (with_escaped_bars s) s i

escaped_bars : {s : List ℕ} {n : ℕ} → Cost is_break s (68 * n) n
    → Cost is_line_feed (with_escaped_bars s) (69 * n) n
escaped_bars {s} g = record {
  long = omega (arith, bars_length s, g.long, g.passing);
  passing = omega (arith, bars_feeds s, feeds_le s, g.passing);
}

-- ---- what is written of cells and rows

-- 80 bytes for each unit of the cells' size, with 11 for each cell
pub record CellsCost (definitions : List (List ℕ)) (cells after : List (List ℕ)) (n : ℕ) : Type 0 where
  pub long : total cells + 11 * length cells ≤ 80 * n
  pub fed : feeds cells ≤ n
  pub defined : lines_size after ≤ lines_size definitions + 75 * n

pub cells_cost : (l : Line) (definitions : List (List ℕ)) (row : List Inlines)
    → CellsCost definitions (written_cells l definitions row).cells (written_cells l definitions row).definitions
    (size_of_cells row)
cells_cost l definitions [] = record { long = omega arith; fed = omega arith; defined = omega arith }
cells_cost l definitions (content ∷ rest) =
    let cell = written_line l definitions content in
    let g = line_cost l definitions content in
    let b = escaped_bars g.cost in
    let i = cells_cost l cell.definitions rest in
    record {
      long = omega (arith, b.long, i.long);
      fed = omega (arith, b.passing, i.fed);
      defined = omega (arith, g.defined, i.defined);
    }

-- a line of each row, with 102 bytes for its ends, its padding and what follows the cells
abbrev pub rows_total : List (List (List ℕ)) → ℕ
rows_total [] = 0
rows_total (cells ∷ rows) = 102 + (total cells + 3 * length cells) + rows_total rows

abbrev pub rows_feeds : List (List (List ℕ)) → ℕ
rows_feeds [] = 0
rows_feeds (cells ∷ rows) = suc (feeds cells) + rows_feeds rows

pub record RowsCost (definitions : List (List ℕ)) (rows : List (List (List ℕ))) (after : List (List ℕ))
    (n : ℕ) : Type 0
  where
    pub long : rows_total rows ≤ 102 * n
    pub fed : rows_feeds rows ≤ n
    pub defined : lines_size after ≤ lines_size definitions + 75 * n

pub rows_cost : (l : Line) (definitions : List (List ℕ)) (rows : List (List Inlines))
    → RowsCost definitions (written_rows l definitions rows).rows (written_rows l definitions rows).definitions
    (size_of_rows rows)
rows_cost l definitions [] = record { long = omega arith; fed = omega arith; defined = omega arith }
rows_cost l definitions (row ∷ rest) =
    let cells = written_cells l definitions row in
    let g = cells_cost l definitions row in
    let i = rows_cost l cells.definitions rest in
    record {
      long = omega (arith, g.long, i.long);
      fed = omega (arith, g.fed, i.fed);
      defined = omega (arith, g.defined, i.defined);
    }

-- ---- lines

abbrev all_of : List ℕ → ℕ
all_of [] = 0
all_of (w ∷ widths) = w + all_of widths

padded_cost : (cell : List ℕ) (w : ℕ)
    → Cost is_line_feed (padded_cell cell w) (2 + w + length cell) (tally is_line_feed cell)
padded_cost cell w =
    within
    (plain_cons space refl
    (cost_append (own cell)
    (cost_append (repeated is_line_feed space refl (w - width_of cell))
    (plain_cons space refl (empty is_line_feed)))))
    (omega arith) (omega arith)

barred_cost : (cells : List (List ℕ)) (ws : List ℕ)
    → Cost is_line_feed (barred_cells cells ws) (total cells + 3 * length cells + all_of ws) (feeds cells)
barred_cost [] ws = within (empty is_line_feed) (omega arith) (omega arith)
barred_cost (cell ∷ cells) [] = within (empty is_line_feed) (omega arith) (omega arith)
barred_cost (cell ∷ cells) (w ∷ ws) =
    within (cost_append (padded_cost cell w) (plain_cons vertical_bar refl (barred_cost cells ws))) (omega arith)
    (omega arith)

line_of_cells : (cells : List (List ℕ)) (ws : List ℕ)
    → Cost is_line_feed (line cells ws) (1 + total cells + 3 * length cells + all_of ws) (feeds cells)
line_of_cells cells ws = within (plain_cons vertical_bar refl (barred_cost cells ws)) (omega arith) (omega arith)

colon_cost : (t : Bool) → Cost is_line_feed (colon_if t) 1 0
colon_cost true = fixed is_line_feed (colon ∷ []) 1 refl refl
colon_cost false = fixed is_line_feed (hyphen ∷ []) 1 refl refl

dashes_cost : (a : Alignment) (w : ℕ) → Cost is_line_feed (dashes a w) (w + 2) 0
dashes_cost a w =
    within
    (cost_append (cost_append (colon_cost (is_left a)) (repeated is_line_feed hyphen refl (w - 2)))
    (colon_cost (is_right a)))
    (omega arith) (omega arith)

delimiters_cost : (al : List Alignment) (ws : List ℕ)
    → Cost is_line_feed (delimiters al ws) (all_of ws + 5 * length ws) 0
delimiters_cost [] ws = within (empty is_line_feed) (omega arith) (omega arith)
delimiters_cost (a ∷ al) [] = within (empty is_line_feed) (omega arith) (omega arith)
delimiters_cost (a ∷ al) (w ∷ ws) =
    within
    (cost_append
    (cost_append (fixed is_line_feed (codes " ") 1 refl refl)
    (cost_append (dashes_cost a w) (fixed is_line_feed (codes " |") 2 refl refl)))
    (delimiters_cost al ws))
    (omega arith) (omega arith)

-- ---- the cells that are shown

total_more : (cells more : List (List ℕ)) → total (cells ++ more) ≡ total cells + total more
total_more [] more = omega arith
total_more (cell ∷ cells) more = omega (arith, total_more cells more)

feeds_more : (cells more : List (List ℕ)) → feeds (cells ++ more) ≡ feeds cells + feeds more
feeds_more [] more = omega arith
feeds_more (cell ∷ cells) more = omega (arith, feeds_more cells more)

total_none : (k : ℕ) → total (replicate k []) ≡ 0
total_none zero = refl
total_none (suc k) = omega (arith, total_none k)

feeds_none : (k : ℕ) → feeds (replicate k []) ≡ 0
feeds_none zero = refl
feeds_none (suc k) = omega (arith, feeds_none k)

-- what empty cells can add to a row
abbrev filling : Bool → ℕ → ℕ
filling t columns = if t then 3 * columns else 0

record Shown (t : Bool) (columns : ℕ) (shown cells : List (List ℕ)) : Type 0 where
  long : total shown + 3 * length shown ≤ total cells + 3 * length cells + filling t columns
  fed : feeds shown ≤ feeds cells

shown_cost : (t : Bool) (columns : ℕ) (cells : List (List ℕ))
    → Shown t columns (shown_cells t columns cells) cells
shown_cost true columns cells =
    let k = columns - length cells in
    let more : List (List ℕ) = replicate k [] in
    record {
      long =
          omega (
            arith,
            total_more cells more,
            total_none k,
            length-append cells more,
            length-replicate {A = List ℕ} k [],
          );
      fed = omega (arith, feeds_more cells more, feeds_none k);
    }
shown_cost false columns cells = record { long = omega arith; fed = omega arith }

rows_text_cost : (t : Bool) (ws : List ℕ) (rows : List (List (List ℕ)))
    → all_of ws + filling t (length ws) ≤ 100
    → Cost is_line_feed (rows_text t ws rows) (rows_total rows) (rows_feeds rows)
rows_text_cost t ws [] h = within (empty is_line_feed) (omega arith) (omega arith)
rows_text_cost t ws (cells ∷ rows) h =
    let shown = shown_cells t (length ws) cells in
    let f = shown_cost t (length ws) cells in
    let g = line_of_cells shown ws in
    let l : Cost is_line_feed (line_feed ∷ line shown ws) (102 + (total cells + 3 * length cells))
    (suc (feeds cells)) = within (cost_cons line_feed g) (omega (arith, f.long, h)) (omega (arith, f.fed)) in
    within (cost_append l (rows_text_cost t ws rows h)) (omega arith) (omega arith)

-- ---- the whole table

lines_cost : (t : Bool) (ws dashed : List ℕ) (al : List Alignment) (header : List (List ℕ))
    (rows : List (List (List ℕ)))
    → all_of ws + filling t (length ws) ≤ 100 → all_of dashed + 5 * length dashed ≤ 100 + 8 * length header
    → Cost is_line_feed (lines_of t ws dashed al header rows)
    (203 + total header + 11 * length header + rows_total rows) (1 + feeds header + rows_feeds rows)
lines_cost t ws dashed al header rows h i =
    let first = line_of_cells header ws in
    let second = cost_append (bar_below) (delimiters_cost al dashed) in
    let k : all_of ws ≤ 100 = omega (arith, h) in
    within (cost_append (cost_append first second) (rows_text_cost t ws rows h)) (omega (arith, k, i)) (omega arith)
  where
    bar_below : Cost is_line_feed (codes "\n|") 2 1
    bar_below = record { long = omega arith; passing = omega arith }

widened_length : (ws : List ℕ) (cells : List (List ℕ)) → length (widened ws cells) ≡ length ws
widened_length [] cells = refl
widened_length (w ∷ ws) [] = refl
widened_length (w ∷ ws) (cell ∷ cells) = ap suc (widened_length ws cells)

all_widened : (rows : List (List (List ℕ))) (ws : List ℕ) → length (fold widened ws rows) ≡ length ws
all_widened [] ws = refl
all_widened (cells ∷ rows) ws = all_widened rows (widened ws cells) ∙ widened_length ws cells

first_widths : (header : List (List ℕ)) → length (map (λ cell. max narrowest (width_of cell)) header)
    ≡ length header
first_widths [] = refl
first_widths (cell ∷ header) = ap suc (first_widths header)

as_many : (header : List (List ℕ)) (rows : List (List (List ℕ)))
    → length (column_widths header rows) ≡ length header
as_many header rows =
    all_widened rows (map (λ cell. max narrowest (width_of cell)) header) ∙ first_widths header

-- a line's width counts the columns' widths
width_counts : (ws : List ℕ) → all_of ws + 3 * length ws + 1 ≡ line_width ws
width_counts [] = refl
width_counts (w ∷ ws) = omega (arith, width_counts ws)

all_same : (n w : ℕ) → all_of (replicate n w) ≡ w * n
all_same zero w = sym (mul-zero w)
all_same (suc n) w = omega (arith, all_same n w, mul-suc w n)

within_test : (a b : ℕ) → nat_le a b ≡ true → a ≤ b
within_test a b h = grind (arith, nat_tests)

pub table_cost : (al : List Alignment) (header : List (List ℕ)) (rows : List (List (List ℕ)))
    → Cost is_line_feed (table_text al header rows) (203 + total header + 11 * length header + rows_total rows)
    (1 + feeds header + rows_feeds rows)
table_cost al header rows = go (nat_le (line_width (column_widths header rows)) longest_padded) refl
  where
    ws : List ℕ
    ws = column_widths header rows

    zeros : List ℕ
    zeros = replicate (length ws) 0

    threes : List ℕ
    threes = replicate (length ws) narrowest

    go : (t : Bool) → nat_le (line_width ws) longest_padded ≡ t
        → Cost is_line_feed
        (if t then lines_of true ws ws al header rows else lines_of false zeros threes al header rows)
        (203 + total header + 11 * length header + rows_total rows) (1 + feeds header + rows_feeds rows)
    go true e =
        let h = within_test (line_width ws) longest_padded e in
        let c = width_counts ws in
        let n = as_many header rows in
        lines_cost true ws ws al header rows (omega (arith, h, c)) (omega (arith, h, c, n))
    go false e =
        let n = as_many header rows in
        lines_cost false zeros threes al header rows
        (omega (arith, all_same (length ws) 0))
        (omega (arith, all_same (length ws) 3, length-replicate {A = ℕ} (length ws) 3, n))
