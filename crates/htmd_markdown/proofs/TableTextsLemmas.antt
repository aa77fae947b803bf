-- A table as its lines.
use Rattle.std.proofs.Common.{◌≡◌, ℕ, zero, suc, ◌-◌, ◌<◌, ◌≤◌, true, false, List, [], ◌∷◌, ◌++◌, length, map, refl}
use Rattle.std.proofs.Common.{sym, ap, ◌∙◌, subst, arith, append_assoc, length-append, codes}
use Rattle.std.specs.Prelude.{not, ◌&&◌, ◌==◌, reverse, slice_index, replicate, String, Vec}
use Rattle.std.specs.List.{list_all, flat_map}
use Rattle.std.specs.Str.{chars}
use Rattle.std.proofs.Common.{lit<}
use Rattle.std.proofs.lemmas.Bool.{and_parts, not-true}
use Rattle.std.proofs.lemmas.List.{append-nil, length-map, length-replicate}
use Rattle.std.proofs.lemmas.Str.{IsUtf8-from_ascii, chars-IsAscii}
use Rattle.htmd_lexical.specs.Characters.{line_feed, space, hyphen, vertical_bar}
use Rattle.htmd_lexical.specs.WhiteSpace.{is_document_white_space}
use Rattle.htmd_markdown.specs.Tables as spec
use Rattle.htmd_markdown.specs.TableReading.{column_count, IsEven}
use Rattle.htmd_markdown.specs.CellBytes.{bar, held}
use Rattle.htmd_markdown.specs.Tables.{texts, row_texts}
use Rattle.htmd_markdown.proofs.TrimmedTexts.{Begins, reversed_passes}
use Rattle.htmd_markdown.proofs.CellsLemmas.{IsCell, lacks}
use Rattle.htmd_markdown.proofs.TablesLemmas.{AreCells, padded_pushed, line_cells-length, row_cells}
use Rattle.htmd_markdown.proofs.TableLinesLemmas.{Fit, IsLine, AreLines, joined_lines, lines_even}
use Rattle.htmd_markdown.proofs.ColumnsLemmas.{Covers, CoversAll, covers_all, covers_length, line_fit, held_same}
use Rattle.htmd_markdown.proofs.ColumnsLemmas.{columns_counted}

-- ---- dashes

dashes_ascii : (w i : ℕ) → slice_index (spec.dashes w) i < 128
dashes_ascii zero i = lit< tt
dashes_ascii (suc w) zero = lit< tt
dashes_ascii (suc w) (suc i) = dashes_ascii w i

dashes_width : (w : ℕ) → length (chars (spec.dashes w)) ≡ w
dashes_width w = ap length (chars-IsAscii (spec.dashes w) (dashes_ascii w)) ∙ length-replicate w hyphen

dashes_bare : (w : ℕ) → list_all (λ b. not (is_document_white_space b)) (spec.dashes w) ≡ true
dashes_bare zero = refl
dashes_bare (suc w) = dashes_bare w

dashes_lack : (w c : ℕ) → (hyphen == c) ≡ false → lacks c (spec.dashes w) ≡ true
dashes_lack zero c other = refl
dashes_lack (suc w) c other = ap (λ first. not first && lacks c (spec.dashes w)) other ∙ dashes_lack w c other

bare_begins : (s : List ℕ) → list_all (λ b. not (is_document_white_space b)) s ≡ true
    → Begins is_document_white_space s
bare_begins [] all = tt
bare_begins (b ∷ s) all =
    not-true (is_document_white_space b)
    (and_parts (not (is_document_white_space b)) (list_all (λ c. not (is_document_white_space c)) s) all).0

dashes_cell : (w : ℕ) → IsCell (spec.dashes w)
dashes_cell w = record {
  text = IsUtf8-from_ascii (spec.dashes w) (dashes_ascii w);
  bare = record {
    front = bare_begins (spec.dashes w) (dashes_bare w);
    back =
        bare_begins (reverse (spec.dashes w)) (reversed_passes (λ b. not (is_document_white_space b)) (spec.dashes w)
        (dashes_bare w));
  };
  bars = dashes_lack w vertical_bar refl;
  line_feeds = dashes_lack w line_feed refl;
}

pub dashes_pushed : (out : List ℕ) (w : ℕ) → ((out ++ space ∷ []) ++ spec.dashes w) ++ codes " |"
    ≡ (out ++ spec.padded_cell (spec.dashes w) w) ++ bar
dashes_pushed out w =
    let pad = replicate (w - length (chars (spec.dashes w))) space in
    let count : w - length (chars (spec.dashes w)) ≡ 0 = omega (arith, dashes_width w) in
    let none : pad ≡ [] = ap (λ n. replicate n space) count in
    let written = (out ++ space ∷ []) ++ spec.dashes w in
    ap (λ l. l ++ codes " |") (sym (append-nil written) ∙ ap (λ l. written ++ l) (sym none))
    ∙ padded_pushed out (spec.dashes w) pad

dashes_cells : (ws : List ℕ) → AreCells (map spec.dashes ws)
dashes_cells [] = tt
dashes_cells (w ∷ ws) = (dashes_cell w, dashes_cells ws)

dashes_fit : (ws : List ℕ) → Fit (map spec.dashes ws) ws
dashes_fit [] = tt
dashes_fit (w ∷ ws) = (omega (arith, dashes_width w), dashes_fit ws)

separator_line : (ws : List ℕ) → IsLine ws (map spec.dashes ws)
separator_line ws = record { each = dashes_cells ws; count = length-map ws spec.dashes; fit = dashes_fit ws }

-- ---- lines

abbrev row_lines : List ℕ → List (List (List ℕ)) → List (List (List ℕ))
row_lines ws rows = map (spec.line_cells (length ws)) rows

abbrev all_lines : List ℕ → List (List ℕ) → List (List (List ℕ)) → List (List (List ℕ))
all_lines ws [] rows = row_lines ws rows
all_lines ws (header ∷ headers) rows = spec.line_cells (length ws) (header ∷ headers) ∷ map spec.dashes ws
    ∷ row_lines ws rows

rows_joined : (ws : List ℕ) (rows : List (List (List ℕ)))
    → flat_map (λ cells. spec.row cells ws) rows ≡ joined_lines
    (map (λ cells. spec.line cells ws) (row_lines ws rows))
rows_joined ws [] = refl
rows_joined ws (cells ∷ rows) = ap (λ l. spec.row cells ws ++ l) (rows_joined ws rows)

table_joined : (ws : List ℕ) (headers : List (List ℕ)) (rows : List (List (List ℕ)))
    → spec.table_of_widths ws headers rows ≡ joined_lines
    (map (λ cells. spec.line cells ws) (all_lines ws headers rows))
table_joined ws [] rows = rows_joined ws rows
table_joined ws (header ∷ headers) rows =
    append_assoc (spec.row (header ∷ headers) ws) (spec.separator ws) (flat_map (λ cells. spec.row cells ws) rows)
    ∙ ap (λ l. spec.row (header ∷ headers) ws ++ (spec.separator ws ++ l)) (rows_joined ws rows)

row_line : {Z : Type 0} (ws : List ℕ) (cells : List (String Z)) → Covers (map spec.cell_width (texts cells)) ws
    → IsLine ws (spec.line_cells (length ws) (texts cells))
row_line ws cells covers = record {
  each = row_cells (length ws) cells;
  count = omega (
    arith,
    line_cells-length (length ws) (texts cells),
    covers_length (map spec.cell_width (texts cells)) ws covers,
    length-map (texts cells) spec.cell_width,
  );
  fit = line_fit (texts cells) ws covers;
}

rows_lines : {Z Y : Type 0} (ws : List ℕ) (rows : List (Vec (String Z) Y))
    → CoversAll (map (map spec.cell_width) (map row_texts rows)) ws
    → AreLines ws (row_lines ws (map row_texts rows))
rows_lines ws [] covers = tt
rows_lines ws (cells ∷ rows) covers = (row_line ws cells.items covers.0, rows_lines ws rows covers.1)

lines_all : {Z Y : Type 0} (ws : List ℕ) (headers : List (String Z)) (rows : List (Vec (String Z) Y))
    → CoversAll (map (map spec.cell_width) (texts headers ∷ map row_texts rows)) ws
    → AreLines ws (all_lines ws (texts headers) (map row_texts rows))
lines_all ws [] rows covers = rows_lines ws rows covers.1
lines_all ws (header ∷ headers) rows covers =
    (row_line ws (header ∷ headers) covers.0, (separator_line ws, rows_lines ws rows covers.1))

-- all lines of a table are alike
pub table_even : {Z Y : Type 0} (headers : List (String Z)) (rows : List (Vec (String Z) Y))
    → IsEven (column_count (texts headers ∷ map row_texts rows)) (spec.table (texts headers) (map row_texts rows))
table_even headers rows =
    let lines = texts headers ∷ map row_texts rows in
    let ws = spec.column_widths lines in
    let covers = covers_all [] (map (map spec.cell_width) lines) in
    let even = lines_even ws (all_lines ws (texts headers) (map row_texts rows)) (lines_all ws headers rows covers) in
    let whole = table_joined ws (texts headers) (map row_texts rows) in
    subst (λ (n : ℕ). IsEven n (spec.table (texts headers) (map row_texts rows))) (columns_counted lines)
    (subst (λ (s : List ℕ). IsEven (length ws) s) (sym whole) even)

-- ---- no width was cut

line_held : {Z : Type 0} (ws : List ℕ) (cells : List (String Z)) → length (spec.row (texts cells) (map held ws))
    ≤ 0xFFFF_FFFF_FFFF_FFFF → map held ws ≡ ws
line_held ws cells fits =
    let n = length (map held ws) in
    let written = spec.line_cells n (texts cells) in
    let size : n ≡ length ws = length-map ws held in
    let ended = length-append (spec.line written (map held ws)) (line_feed ∷ []) in
    held_same written ws (row_cells n cells) (omega (arith, line_cells-length n (texts cells), size))
    (omega (arith, ended, fits))

-- what was written tells that each width is that of the table
pub widths_held : {Z Y : Type 0} (headers : List (String Z)) (rows : List (Vec (String Z) Y)) → let ws =
    spec.column_widths (texts headers ∷ map row_texts rows) in
    length (spec.table_of_widths (map held ws) (texts headers) (map row_texts rows)) ≤ 0xFFFF_FFFF_FFFF_FFFF
    → map held ws ≡ ws
widths_held [] [] fits = refl
widths_held [] (cells ∷ rows) fits =
    let ws = spec.column_widths ([] ∷ map row_texts (cells ∷ rows)) in
    let size = length-append (spec.row (row_texts cells) (map held ws))
    (flat_map (λ row. spec.row row (map held ws)) (map row_texts rows)) in
    line_held ws cells.items (omega (arith, size, fits))
widths_held (header ∷ headers) rows fits =
    let ws = spec.column_widths (texts (header ∷ headers) ∷ map row_texts rows) in
    let own = spec.row (texts (header ∷ headers)) (map held ws) in
    let outer = length-append (own ++ spec.separator (map held ws))
    (flat_map (λ row. spec.row row (map held ws)) (map row_texts rows)) in
    let inner = length-append own (spec.separator (map held ws)) in
    line_held ws (header ∷ headers) (omega (arith, outer, inner, fits))

pub maps : {A B C : Type 0} (f : B → C) (g : A → B) (xs : List A) → map (λ x. f (g x)) xs ≡ map f (map g xs)
maps f g [] = refl
maps f g (x ∷ xs) = ap (λ l. f (g x) ∷ l) (maps f g xs)
