-- The grid of a table keeps the wrappers of its cells, in order.
use Rattle.std.proofs.Common.{◌≡◌, ℕ, zero, suc, ◌-◌, Bool, true, false, cond, List, [], ◌∷◌, ◌++◌, length, map}
use Rattle.std.proofs.Common.{refl, sym, ◌∙◌, ap, subst, arith, append_assoc, Option, Some, None, ◌≤◌, fold, max}
use Rattle.std.proofs.lemmas.Bool.Decides.{nat_tests}
use Rattle.std.specs.Prelude.{replicate, drop, nat_lt, ◌==◌}
use Rattle.std.specs.List.{flat_map, prefix_len}
use Rattle.std.proofs.lemmas.List.{append-nil}
use Rattle.std.proofs.lemmas.Grind.{flat_map-append}
use Rattle.htmd_document.specs.declared.document.Alignment.{Alignment}
use Rattle.htmd_document.specs.Documents.{Inlines, no_inlines, inline, Block}
use Rattle.htmd_flow.specs.Grids.{Cell, Row, columns_before, laid, taken_in, shapes_from, shapes_of, filled}
use Rattle.htmd_flow.specs.Grids.{filled_all}
use Rattle.htmd_flow.specs.Grids.{contents_of, is_too_large, grid, with_cell, width, trimmed_row, padded}
use Rattle.htmd_flow.specs.Grids.{body, table_in, table_of_all}
use Rattle.htmd_law_documents.proofs.Readers.{Reader, read_line, read_cells, read_block}

-- ---- as many columns as the longest row has

-- no row is longer
abbrev pub AreWithin : ℕ → List (List Inlines) → Type 0
AreWithin n [] = Unit {0}
AreWithin n (row ∷ rows) = (length row ≤ n) × AreWithin n rows

abbrev wider : ℕ → List (List Inlines) → ℕ
wider n rows = fold (λ n row. max n (length row)) n rows

wider-least : (rows : List (List Inlines)) (n : ℕ) → n ≤ wider n rows
wider-least [] n = omega arith
wider-least (row ∷ rows) n = more n (length row) (wider (max n (length row)) rows)
    (wider-least rows (max n (length row)))
  where
    more : (n k w : ℕ) → max n k ≤ w → n ≤ w
    more n k w h = omega arith

pub wider-within : (rows : List (List Inlines)) (n : ℕ) → AreWithin (wider n rows) rows
wider-within [] n = tt
wider-within (row ∷ rows) n = (
  more n (length row) (wider (max n (length row)) rows) (wider-least rows (max n (length row))),
  wider-within rows (max n (length row)),
)
  where
    more : (n k w : ℕ) → max n k ≤ w → k ≤ w
    more n k w h = omega arith

module _ (R : Reader) where
  abbrev pub wrappers_of_rows : List (List Inlines) → List R.Seen
  wrappers_of_rows rows = flat_map (read_cells R) rows

  -- ---- cells where they begin

  none-wrappers : (k : ℕ) (cells : List Cell) → read_cells R (filled (replicate k false) cells) ≡ []
  none-wrappers zero cells = refl
  none-wrappers (suc k) cells = none-wrappers k cells

  skipped-wrappers : (k : ℕ) (begins : List Bool) (cells : List Cell)
      → read_cells R (filled (replicate k false ++ begins) cells) ≡ read_cells R (filled begins cells)
  skipped-wrappers zero begins cells = refl
  skipped-wrappers (suc k) begins cells = skipped-wrappers k begins cells

  abbrev contents : List Cell → List Inlines
  contents cells = map (λ (c : Cell). c.content) cells

  laid-wrappers : (cells : List Cell) (n : ℕ) (taken : List ℕ)
      → read_cells R (filled (laid n taken cells).begins cells) ≡ read_cells R (contents cells)
  laid-wrappers [] n taken = none-wrappers (prefix_len (nat_lt n) taken) []
  laid-wrappers (cell ∷ cells) n taken =
      let kept : ℕ = prefix_len (nat_lt n) taken in
      let free : List ℕ = drop kept taken in
      let columns : ℕ = columns_before free n cell.columns in
      let rest : List Bool = (laid n (drop columns free) cells).begins in
      ap (λ begins. read_cells R (filled begins (cell ∷ cells)))
      (append_assoc (replicate kept false) (true ∷ replicate (columns - 1) false) rest)
      ∙ (skipped-wrappers kept ((true ∷ replicate (columns - 1) false) ++ rest) (cell ∷ cells)
      ∙ ap (λ t. (read_line R []) cell.content ++ t)
      (skipped-wrappers (columns - 1) rest cells ∙ laid-wrappers cells n (drop columns free)))

  shapes-wrappers : (rows : List Row) (n : ℕ) (part : Option ℕ) (taken : List ℕ)
      → wrappers_of_rows (filled_all (shapes_from n part taken rows) rows) ≡ wrappers_of_rows (map contents_of rows)
  shapes-wrappers [] n part taken = refl
  shapes-wrappers (row ∷ rows) n part taken =
      ap (λ t. t ++ wrappers_of_rows (filled_all (shapes_from (suc n) row.part
      (laid n (taken_in part row.part taken) row.cells).taken rows) rows))
      (laid-wrappers row.cells n (taken_in part row.part taken))
      ∙ ap (λ t. read_cells R (contents_of row) ++ t)
      (shapes-wrappers rows (suc n) row.part (laid n (taken_in part row.part taken) row.cells).taken)

  either-wrappers : (b : Bool) (xs ys zs : List (List Inlines)) → wrappers_of_rows xs ≡ wrappers_of_rows zs
      → wrappers_of_rows ys ≡ wrappers_of_rows zs → wrappers_of_rows (cond b xs ys) ≡ wrappers_of_rows zs
  either-wrappers true xs ys zs g h = g
  either-wrappers false xs ys zs g h = h

  pub grid-wrappers : (rows : List Row) → wrappers_of_rows (grid rows) ≡ wrappers_of_rows (map contents_of rows)
  grid-wrappers rows = either-wrappers (is_too_large rows) (map contents_of rows) (filled_all (shapes_of rows) rows)
      (map contents_of rows) refl (shapes-wrappers rows 0 None [])

  -- ---- rows

  empty-wrappers : (k : ℕ) → read_cells R (replicate k no_inlines) ≡ []
  empty-wrappers zero = refl
  empty-wrappers (suc k) = empty-wrappers k

  padded-wrappers : (n : ℕ) (cells : List Inlines) → read_cells R (padded n cells) ≡ read_cells R cells
  padded-wrappers n cells =
      flat_map-append (read_line R []) cells (replicate (n - length cells) no_inlines)
      ∙ (ap (λ t. read_cells R cells ++ t) (empty-wrappers (n - length cells))
      ∙ append-nil (read_cells R cells))

  -- the empty cells at the end of a row have none
  trimmed-wrappers : (cells : List Inlines) → read_cells R (trimmed_row cells) ≡ read_cells R cells
  trimmed-wrappers [] = refl
  trimmed-wrappers (cell ∷ cells) =
      at cell (trimmed_row cells) ∙ ap (λ t. read_line R [] cell ++ t) (trimmed-wrappers cells)
    where
      at : (cell : Inlines) (rest : List Inlines)
          → read_cells R (with_cell cell rest) ≡ read_line R [] cell ++ read_cells R rest
      at no_inlines [] = refl
      at no_inlines (next ∷ rest) = refl
      at (inline x xs) [] = refl
      at (inline x xs) (next ∷ rest) = refl

  all-trimmed : (rows : List (List Inlines)) → wrappers_of_rows (map trimmed_row rows) ≡ wrappers_of_rows rows
  all-trimmed [] = refl
  all-trimmed (row ∷ rows) =
      ap (λ t. t ++ wrappers_of_rows (map trimmed_row rows)) (trimmed-wrappers row)
      ∙ ap (λ t. read_cells R row ++ t) (all-trimmed rows)

  body-wrappers : (rows : List (List Inlines)) → wrappers_of_rows (body rows) ≡ wrappers_of_rows rows
  body-wrappers [] = refl
  body-wrappers ([] ∷ rows) =
      ap (λ b. wrappers_of_rows (cond b ([] ∷ body rows) (body rows))) nothing ∙ body-wrappers rows
    where
      nothing : nat_lt 0 0 ≡ false
      nothing = grind (arith, nat_tests)
  body-wrappers ((cell ∷ cells) ∷ rows) =
      ap (λ b. wrappers_of_rows (cond b ((cell ∷ cells) ∷ body rows) (body rows))) (some (length cells))
      ∙ ap (λ t. read_cells R (cell ∷ cells) ++ t) (body-wrappers rows)
    where
      some : (n : ℕ) → nat_lt 0 (suc n) ≡ true
      some n = grind (arith, nat_tests)

  none-within : (rows : List (List Inlines)) → AreWithin 0 rows → wrappers_of_rows rows ≡ []
  none-within [] w = refl
  none-within ([] ∷ rows) w = none-within rows w.1
  none-within ((cell ∷ cells) ∷ rows) w = absurd (omega (arith, w.0))

  -- rows without columns have none
  no-columns : (rows : List (List Inlines)) → (width rows == 0) ≡ true → wrappers_of_rows rows ≡ []
  no-columns rows e =
      none-within rows (subst (λ (n : ℕ). AreWithin n rows) (none (width rows) e) (wider-within rows 0))
    where
      none : (n : ℕ) → (n == 0) ≡ true → n ≡ 0
      none n e = grind (arith, nat_tests)

  -- ---- the table

  abbrev pub wrappers_of_option : Option Block → List R.Seen
  wrappers_of_option None = []
  wrappers_of_option (Some b) = read_block R b

  table_in-wrappers : (n : ℕ) (alignments : List Alignment) (has_header : Bool) (rows : List (List Inlines))
      → read_block R (table_in n alignments has_header rows) ≡ wrappers_of_rows rows
  table_in-wrappers n alignments true [] = ap (λ t. t ++ []) (padded-wrappers n [])
  table_in-wrappers n alignments true (first ∷ rest) =
      ap (λ t. t ++ wrappers_of_rows (body rest)) (padded-wrappers n first)
      ∙ ap (λ t. read_cells R first ++ t) (body-wrappers rest)
  table_in-wrappers n alignments false rows =
      ap (λ t. t ++ wrappers_of_rows (body rows)) (padded-wrappers n []) ∙ body-wrappers rows

  pub table-wrappers : (alignments : List Alignment) (has_header : Bool) (rows : List (List Inlines))
      → wrappers_of_option (table_of_all alignments has_header rows) ≡ wrappers_of_rows rows
  table-wrappers alignments has_header rows =
      either (width lines == 0) (λ e. no-columns lines e) ∙ all-trimmed rows
    where
      lines : List (List Inlines)
      lines = map trimmed_row rows

      either : (b : Bool) → (b ≡ true → wrappers_of_rows lines ≡ [])
          → wrappers_of_option (cond b None (Some (table_in (width lines) alignments has_header lines)))
          ≡ wrappers_of_rows lines
      either true h = sym (h refl)
      either false h = table_in-wrappers (width lines) alignments has_header lines
