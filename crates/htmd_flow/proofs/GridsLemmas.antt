-- The rows of a table, one after another.
use Rattle.std.proofs.Common.{◌≡◌, ℕ, zero, suc, ◌+◌, ◌<◌, ◌≤◌, Bool, true, false, cond, List, [], ◌∷◌, ◌++◌, length}
use Rattle.std.proofs.Common.{get_or, drop, map, refl, slice_set, ◌&&◌}
use Rattle.std.proofs.Common.{sym, ap, ◌∙◌, ◌-◌, arith, Vec, Global, replicate, take, sum, add-one, nat_lt}
use Rattle.std.proofs.Common.{Option}
use Rattle.std.specs.Prelude.{◌==◌}
use Rattle.std.specs.List.{prefix_len, zip, list_all}
use Rattle.std.proofs.Math.Seq.{take-add}
use Rattle.std.proofs.lemmas.List.{drop_more, drop-drop, take_all, take_more, take-map, length-map, drop_at, take_at, append_assoc}
use Rattle.std.proofs.lemmas.List.{nil_from_length, length-append, length-take-le, length-replicate, map_push}
use Rattle.std.proofs.lemmas.List.Sums.{sum_by_push}
use Rattle.std.proofs.lemmas.Bool.Decides.{nat_tests}
use Rattle.htmd_document.specs.declared.document.Inline.{Inline}
use Rattle.htmd_flow.specs.declared.grid.Cell as code
use Rattle.htmd_flow.specs.declared.grid.Row as codes
use Rattle.htmd_document.specs.Documents.{Inlines, no_inlines}
use Rattle.htmd_document.specs.DocumentViews.{inlines_of}
use Rattle.htmd_flow.specs.GridViews.{cell_of, row_of, line_of, lines_of}
use Rattle.htmd_flow.specs.Grids.{is_empty_cell, with_cell, trimmed_row, Cell, Row, Shape, laid, columns_before}
use Rattle.htmd_flow.specs.Grids.{end_of, shapes_from, taken_in}
use Rattle.htmd_flow.specs.Grids.{total, filled, filled_all}

pub empty_is : (xs : List Inline) → is_empty_cell (inlines_of xs) ≡ (length xs == 0)
empty_is [] = refl
empty_is (x ∷ xs) = grind (arith, nat_tests)

-- ---- without the empty cells at the end of a row

after_some : (x : Inlines) (xs : List Inlines) (y : Inlines) → with_cell x (xs ++ y ∷ []) ≡ x ∷ xs ++ y ∷ []
after_some x [] y = refl
after_some x (z ∷ xs) y = refl

trimmed_empty : (xs : List Inlines) (y : Inlines) → is_empty_cell y ≡ true
    → trimmed_row (xs ++ y ∷ []) ≡ trimmed_row xs
trimmed_empty [] y h = ap (λ b. cond b [] (y ∷ [])) h
trimmed_empty (x ∷ xs) y h = ap (with_cell x) (trimmed_empty xs y h)

trimmed_filled : (xs : List Inlines) (y : Inlines) → is_empty_cell y ≡ false
    → trimmed_row (xs ++ y ∷ []) ≡ xs ++ y ∷ []
trimmed_filled [] y h = ap (λ b. cond b [] (y ∷ [])) h
trimmed_filled (x ∷ xs) y h = ap (with_cell x) (trimmed_filled xs y h) ∙ after_some x xs y

line_more : (cells : List (Vec Inline Global)) (i : ℕ) (x : Vec Inline Global) → i < length cells
    → x ≡ get_or cells i x
    → take (i + 1) (line_of cells) ≡ take i (line_of cells) ++ inlines_of x.items ∷ []
line_more cells i x l e =
    take-map (λ (c : Vec Inline Global). inlines_of c.items) (i + 1) cells
    ∙ ap line_of (take_more cells i x l ∙ ap (λ y. take i cells ++ y ∷ []) (sym e))
    ∙ map_push (λ (c : Vec Inline Global). inlines_of c.items) (take i cells) x
    ∙ ap (λ xs. xs ++ inlines_of x.items ∷ [])
    (sym (take-map (λ (c : Vec Inline Global). inlines_of c.items) i cells))

-- one more cell, which is empty or not
pub end_kept : (cells : List (Vec Inline Global)) (i len : ℕ) (x : Vec Inline Global) → i < length cells
    → x ≡ get_or cells i x → is_empty_cell (inlines_of x.items) ≡ true
    → take len (line_of cells) ≡ trimmed_row (take i (line_of cells))
    → take len (line_of cells) ≡ trimmed_row (take (i + 1) (line_of cells))
end_kept cells i len x l e h w =
    w ∙ sym (ap trimmed_row (line_more cells i x l e)
    ∙ trimmed_empty (take i (line_of cells)) (inlines_of x.items) h)

pub end_moved : (cells : List (Vec Inline Global)) (i : ℕ) (x : Vec Inline Global) → i < length cells
    → x ≡ get_or cells i x → is_empty_cell (inlines_of x.items) ≡ false
    → take (i + 1) (line_of cells) ≡ trimmed_row (take (i + 1) (line_of cells))
end_moved cells i x l e h =
    sym (ap trimmed_row (line_more cells i x l e)
    ∙ trimmed_filled (take i (line_of cells)) (inlines_of x.items) h
    ∙ sym (line_more cells i x l e))

pub line_all : (cells : List (Vec Inline Global)) (i : ℕ) → length cells ≤ i
    → take i (line_of cells) ≡ line_of cells
line_all cells i l = take_all i (line_of cells)
    (rw (length-map cells (λ (c : Vec Inline Global). inlines_of c.items)) l)

-- what was cut
pub line_cut : (cells : List (Vec Inline Global)) (len : ℕ) → line_of (take len cells) ≡ take len (line_of cells)
line_cut cells len = sym (take-map (λ (c : Vec Inline Global). inlines_of c.items) len cells)

same_first : {A : Type 0} (x y : A) (xs ys : List A) → x ∷ xs ≡ y ∷ ys → x ≡ y
same_first x y xs ys e = ap (λ zs. get_or zs 0 x) e

same_rest : {A : Type 0} (x y : A) (xs ys : List A) → x ∷ xs ≡ y ∷ ys → xs ≡ ys
same_rest x y xs ys e = ap (drop 1) e

-- one row more of which the end was cut
pub trimmed_step : (ls init : List (Vec (Vec Inline Global) Global)) (i : ℕ) (x new : Vec (Vec Inline Global) Global)
    → i < length init → x ≡ get_or ls i x → line_of new.items ≡ trimmed_row (line_of x.items)
    → lines_of ls ≡ map trimmed_row (lines_of (take i init)) ++ lines_of (drop i init)
    → lines_of (slice_set ls i new)
    ≡ map trimmed_row (lines_of (take (i + 1) init)) ++ lines_of (drop (i + 1) init)
trimmed_step ls [] i x new l e h w = absurd (omega arith)
trimmed_step [] (m ∷ init) zero x new l e h w = absurd (omega (arith, ap length w))
trimmed_step [] (m ∷ init) (suc i) x new l e h w = absurd (omega (arith, ap length w))
trimmed_step (y ∷ ls) (m ∷ init) zero x new l e h w =
    ap (λ z. z ∷ lines_of ls) (h ∙ ap (λ (v : Vec (Vec Inline Global) Global). trimmed_row (line_of v.items)) e
    ∙ ap trimmed_row (same_first (line_of y.items) (line_of m.items) (lines_of ls) (lines_of init) w))
    ∙ ap (λ zs. trimmed_row (line_of m.items) ∷ zs)
    (same_rest (line_of y.items) (line_of m.items) (lines_of ls) (lines_of init) w)
trimmed_step (y ∷ ls) (m ∷ init) (suc i) x new l e h w =
    let rest = map trimmed_row (lines_of (take i init)) ++ lines_of (drop i init) in
    let tail = trimmed_step ls init i x new (omega arith) e h
    (same_rest (line_of y.items) (trimmed_row (line_of m.items)) (lines_of ls) rest w) in
    rw add-one (ap (λ z. z ∷ lines_of (slice_set ls i new))
    (same_first (line_of y.items) (trimmed_row (line_of m.items)) (lines_of ls) rest w)
    ∙ ap (λ zs. trimmed_row (line_of m.items) ∷ zs) (rw add-one at tail))

pub all_headers : (cells : List code.Cell)
    → list_all (λ (c : code.Cell). c.is_header) cells ≡ list_all (λ (c : Cell). c.is_header) (map cell_of cells)
all_headers [] = refl
all_headers (c ∷ cells) = ap (λ b. c.is_header && b) (all_headers cells)

-- ---- the columns that cells take

pub cells_at : (cells : List code.Cell) (i : ℕ) (x : code.Cell) → i < length cells → x ≡ get_or cells i x
    → map cell_of (drop i cells) ≡ cell_of x ∷ map cell_of (drop (i + 1) cells)
cells_at cells i x l e =
    ap (λ ys. map cell_of ys) (drop_more cells i x l ∙ ap (λ y. y ∷ drop (i + 1) cells) (sym e))

-- a row, once it is known how many columns its first cell leaves and how many it takes
abbrev laid_with : ℕ → List ℕ → ℕ → ℕ → Cell → List Cell → Shape
laid_with n taken kept columns cell cells =
    let rest = laid n (drop columns (drop kept taken)) cells in
    record {
      begins = replicate kept false ++ true ∷ replicate (columns - 1) false ++ rest.begins;
      taken = take kept taken ++ replicate columns (end_of n cell.rows) ++ rest.taken;
    }

laid_one : (n : ℕ) (taken : List ℕ) (kept columns : ℕ) (cell : Cell) (cells : List Cell)
    → kept ≡ prefix_len (nat_lt n) taken → columns ≡ columns_before (drop kept taken) n cell.columns
    → laid n taken (cell ∷ cells) ≡ laid_with n taken kept columns cell cells
laid_one n taken kept columns cell cells k e =
    let first : ℕ = prefix_len (nat_lt n) taken in
    let same : columns ≡ columns_before (drop first taken) n cell.columns =
    e ∙ ap (λ m. columns_before (drop m taken) n cell.columns) k in
    sym (ap (λ m. laid_with n taken m columns cell cells) k
    ∙ ap (λ m. laid_with n taken first m cell cells) same)

-- one cell more: the columns from `at` on, of which it leaves those that are taken already
module _ (n at kept columns : ℕ) (taken later : List ℕ) (cell : Cell) (cells : List Cell)
    (within : at + kept ≤ length taken) (before : kept ≡ prefix_len (nat_lt n) (drop at taken))
    (wide : columns ≡ columns_before (drop (at + kept) taken) n cell.columns)
    (new : later
    ≡ take (at + kept) taken ++ (replicate columns (end_of n cell.rows) ++ drop ((at + kept) + columns) taken)) where
  abbrev next : ℕ
  next = (at + kept) + columns

  abbrev fill : List ℕ
  fill = replicate columns (end_of n cell.rows)

  abbrev front : List ℕ
  front = take (at + kept) taken ++ fill

  front_length : length front ≡ next
  front_length =
      length-append (take (at + kept) taken) fill
      ∙ ap (λ m. m + length fill) (length-take-le (at + kept) taken within)
      ∙ ap (λ m. (at + kept) + m) (length-replicate columns (end_of n cell.rows))

  later_is : later ≡ front ++ drop next taken
  later_is = new ∙ sym (append_assoc (take (at + kept) taken) fill (drop next taken))

  later_rest : drop next later ≡ drop next taken
  later_rest = ap (λ xs. drop next xs) later_is ∙ drop_at front (drop next taken) next front_length

  later_front : take next later ≡ front
  later_front = ap (λ xs. take next xs) later_is ∙ take_at front (drop next taken) next front_length

  rest_same : drop columns (drop kept (drop at taken)) ≡ drop next later
  rest_same =
      ap (λ xs. drop columns xs) (drop-drop kept at taken) ∙ drop-drop columns (at + kept) taken ∙ sym later_rest

  one : laid n (drop at taken) (cell ∷ cells) ≡ laid_with n (drop at taken) kept columns cell cells
  one =
      laid_one n (drop at taken) kept columns cell cells before
      (wide ∙ ap (λ xs. columns_before xs n cell.columns) (sym (drop-drop kept at taken)))

  -- the next column is within those that are taken
  pub lay_within : (at + kept) + columns ≤ length later
  lay_within =
      let e = ap (λ (xs : List ℕ). length xs) later_is ∙ length-append front (drop next taken) in
      omega (arith, e, front_length)

  pub lay_begins : (begins later_begins whole : List Bool) (all : List Cell) → all ≡ cell ∷ cells
      → later_begins ≡ begins ++ (replicate kept false ++ true ∷ replicate (columns - 1) false)
      → begins ++ (laid n (drop at taken) all).begins ≡ whole
      → later_begins ++ (laid n (drop ((at + kept) + columns) later) cells).begins ≡ whole
  lay_begins begins later_begins whole all e h w =
      let own : List Bool = replicate kept false ++ true ∷ replicate (columns - 1) false in
      let rest : List Bool = (laid n (drop next later) cells).begins in
      ap (λ (xs : List Bool). xs ++ rest) h ∙ append_assoc begins own rest
      ∙ ap (λ xs. begins ++ (own ++ (laid n xs cells).begins)) (sym rest_same)
      ∙ ap (λ (s : Shape). begins ++ s.begins) (sym one)
      ∙ ap (λ xs. begins ++ (laid n (drop at taken) xs).begins) (sym e) ∙ w

  pub lay_taken : (whole : List ℕ) (all : List Cell) → all ≡ cell ∷ cells
      → take at taken ++ (laid n (drop at taken) all).taken ≡ whole
      → take ((at + kept) + columns) later ++ (laid n (drop ((at + kept) + columns) later) cells).taken ≡ whole
  lay_taken whole all e w =
      let kept_ones : List ℕ = take kept (drop at taken) in
      let rest : List ℕ = (laid n (drop next later) cells).taken in
      ap (λ (xs : List ℕ). xs ++ rest)
      (later_front ∙ ap (λ (xs : List ℕ). xs ++ fill) (take-add at kept taken)
      ∙ append_assoc (take at taken) kept_ones fill)
      ∙ append_assoc (take at taken) (kept_ones ++ fill) rest
      ∙ ap (λ xs. take at taken ++ ((kept_ones ++ fill) ++ (laid n xs cells).taken)) (sym rest_same)
      ∙ ap (λ (s : Shape). take at taken ++ s.taken) (sym one)
      ∙ ap (λ xs. take at taken ++ (laid n (drop at taken) xs).taken) (sym e) ∙ w

-- ---- the shapes of rows

pub rows_at : (rows : List codes.Row) (i : ℕ) (x : codes.Row) → i < length rows → x ≡ get_or rows i x
    → map row_of (drop i rows) ≡ row_of x ∷ map row_of (drop (i + 1) rows)
rows_at rows i x l e =
    ap (λ ys. map row_of ys) (drop_more rows i x l ∙ ap (λ y. y ∷ drop (i + 1) rows) (sym e))

pub shapes_more : (n : ℕ) (part : Option ℕ) (taken later : List ℕ) (row : Row) (rows all : List Row)
    (begins : List Bool) (shapes whole : List (List Bool)) → all ≡ row ∷ rows
    → begins ≡ (laid n (taken_in part row.part taken) row.cells).begins
    → later ≡ (laid n (taken_in part row.part taken) row.cells).taken
    → shapes ++ shapes_from n part taken all ≡ whole
    → (shapes ++ begins ∷ []) ++ shapes_from (n + 1) row.part later rows ≡ whole
shapes_more n part taken later row rows all begins shapes whole e b t w =
    let shape : Shape = laid n (taken_in part row.part taken) row.cells in
    append_assoc shapes (begins ∷ []) (shapes_from (n + 1) row.part later rows)
    ∙ ap (λ m. shapes ++ begins ∷ shapes_from m row.part later rows) (add-one n)
    ∙ ap (λ x. shapes ++ x ∷ shapes_from (suc n) row.part later rows) b
    ∙ ap (λ x. shapes ++ shape.begins ∷ shapes_from (suc n) row.part x rows) t
    ∙ ap (λ x. shapes ++ shapes_from n part taken x) (sym e) ∙ w

pub total_push : (xs : List (List Bool)) (x : List Bool) → total (xs ++ x ∷ []) ≡ total xs + length x
total_push xs x =
    ap sum (map_push (λ (r : List Bool). length r) xs x)
    ∙ sum_by_push (λ n. n) (map (λ (r : List Bool). length r) xs) (length x)

-- ---- the contents by the shapes

filled_more : (begins : List Bool) (i : ℕ) (cells later : List Cell) (content : Inlines) (line whole : List Inlines)
    → i < length begins → get_or begins i false ≡ true
    → ((rest : List Bool) → filled (true ∷ rest) cells ≡ content ∷ filled rest later)
    → line ++ filled (drop i begins) cells ≡ whole
    → (line ++ content ∷ []) ++ filled (drop (i + 1) begins) later ≡ whole
filled_more begins i cells later content line whole l e step w =
    append_assoc line (content ∷ []) (filled (drop (i + 1) begins) later)
    ∙ ap (λ xs. line ++ xs) (sym (step (drop (i + 1) begins)))
    ∙ ap (λ xs. line ++ filled xs cells)
    (sym (drop_more begins i false l ∙ ap (λ y. y ∷ drop (i + 1) begins) e)) ∙ w

-- where a cell begins, there is a cell, or there is none left
module _ (begins : List Bool) (i : ℕ) (line later_line : List (Vec Inline Global)) (whole : List Inlines)
    (l : i < length begins) (e : get_or begins i false ≡ true) where
  pub filled_cell : (cells later : List code.Cell) (cell : code.Cell) → cells ≡ cell ∷ later
      → later_line ≡ line ++ cell.content ∷ []
      → line_of line ++ filled (drop i begins) (map cell_of cells) ≡ whole
      → line_of later_line ++ filled (drop (i + 1) begins) (map cell_of later) ≡ whole
  filled_cell cells later cell h n w =
      ap (λ xs. line_of xs ++ filled (drop (i + 1) begins) (map cell_of later)) n
      ∙ ap (λ xs. xs ++ filled (drop (i + 1) begins) (map cell_of later))
      (map_push (λ (c : Vec Inline Global). inlines_of c.items) line cell.content)
      ∙ filled_more begins i (cell_of cell ∷ map cell_of later) (map cell_of later) (inlines_of cell.content.items)
      (line_of line) whole l e (λ rest. refl)
      (ap (λ xs. line_of line ++ filled (drop i begins) (map cell_of xs)) (sym h) ∙ w)

  pub filled_none : (cells later : List code.Cell) (empty : Vec Inline Global) → length cells ≡ 0
      → cells ≡ later → empty.items ≡ [] → later_line ≡ line ++ empty ∷ []
      → line_of line ++ filled (drop i begins) (map cell_of cells) ≡ whole
      → line_of later_line ++ filled (drop (i + 1) begins) (map cell_of later) ≡ whole
  filled_none cells later empty h same m n w =
      let none : later ≡ [] = sym same ∙ nil_from_length cells h in
      ap (λ xs. line_of xs ++ filled (drop (i + 1) begins) (map cell_of later)) n
      ∙ ap (λ xs. xs ++ filled (drop (i + 1) begins) (map cell_of later))
      (map_push (λ (c : Vec Inline Global). inlines_of c.items) line empty)
      ∙ ap (λ xs. (line_of line ++ inlines_of xs ∷ []) ++ filled (drop (i + 1) begins) (map cell_of later)) m
      ∙ ap (λ xs. (line_of line ++ no_inlines ∷ []) ++ filled (drop (i + 1) begins) (map cell_of xs)) none
      ∙ filled_more begins i [] [] no_inlines (line_of line) whole l e (λ rest. refl)
      (ap (λ xs. line_of line ++ filled (drop i begins) (map cell_of xs)) (sym (same ∙ none)) ∙ w)

-- rows and shapes side by side
pub filled_all_zip : (rows : List codes.Row) (shapes : List (Vec Bool Global))
    → map (λ (p : codes.Row × Vec Bool Global). filled p.1.items (map cell_of p.0.cells.items)) (zip rows shapes)
    ≡ filled_all (map (λ (b : Vec Bool Global). b.items) shapes) (map row_of rows)
filled_all_zip [] [] = refl
filled_all_zip [] (b ∷ shapes) = refl
filled_all_zip (row ∷ rows) [] = refl
filled_all_zip (row ∷ rows) (b ∷ shapes) =
    ap (λ xs. filled b.items (map cell_of row.cells.items) ∷ xs) (filled_all_zip rows shapes)
