-- Rows one after the other, and what the parts of a table take.
use Rattle.std.proofs.Common.{◌≡◌, ℕ, ◌+◌, ◌<◌, Bool, true, false, List, [], ◌∷◌, ◌++◌}
use Rattle.std.proofs.Common.{length, map, take}
use Rattle.std.proofs.Common.{fold, refl, sym, ap, ◌∙◌, arith}
use Rattle.std.specs.Prelude.{◌||◌, nat_le, slice_get, Some, None, Vec}
use Rattle.std.specs.declared.alloc.Global.{Global}
use Rattle.std.proofs.lemmas.List.{length-map, map_push, take_all}
use Rattle.std.proofs.lemmas.List.Sums.{fold_push}
use Rattle.htmd_document.specs.Documents.{Inlines}
use Rattle.htmd_document.specs.DocumentViews.{inlines_of}
use Rattle.htmd_document.specs.declared.document.Alignment.{Alignment}
use Rattle.htmd_document.specs.declared.document.Inline.{Inline}
use Rattle.htmd_commonmark.specs.BlockViews.{cells_of, rows_of}
use Rattle.htmd_commonmark.specs.declared.options.DocumentOptions.{DocumentOptions}
use Rattle.htmd_commonmark.specs.TableLines.{table_text}
use Rattle.htmd_chunks.specs.Sizes.{cost}
use Rattle.htmd_chunks.specs.Rows.{cell_text, cell_texts, rows_cost}
use Rattle.htmd_chunks.specs.RowViews.{RowSize, RowRun, measured, header_run, with_row, run_cost}
use Rattle.htmd_chunks.specs.Runs.{is_none, runs_from}
use Rattle.htmd_chunks.specs.declared.size.Margin.{Margin}
use Rattle.htmd_chunks.proofs.CountsLemmas.{run-joined, run-ended}
use Rattle.htmd_chunks.proofs.RowsLemmas.{run_over, cost-of-rows}

-- ---- what is counted

pub header-alone : (header : List (List ℕ)) (size : RowSize) (run : RowRun)
    → size ≡ measured (take (length header) header) → run ≡ header_run size → run ≡ run_over header []
header-alone header size run measure is =
    is ∙ ap header_run (measure ∙ ap measured (take_all (length header) header (omega arith)))

pub row-more : (header : List (List ℕ)) (rows : List (List (List ℕ))) (row : List (List ℕ)) (size : RowSize)
    (run longer : RowRun) → run ≡ run_over header rows → size ≡ measured (take (length header) row)
    → longer ≡ with_row run size → longer ≡ run_over header (rows ++ row ∷ [])
row-more header rows row size run longer before measure is =
    let measures = λ (row : List (List ℕ)). measured (take (length header) row) in
    let first = header_run (measured header) in
    is ∙ ap (λ r. with_row r size) before ∙ ap (with_row (run_over header rows)) measure
    ∙ sym (ap (fold with_row first) (map_push measures rows row)
    ∙ fold_push with_row first (map measures rows) (measures row))

pub cost-is : (options : DocumentOptions) (m : Margin) (alignments : List Alignment) (header : List Inlines)
    (rows : List (List Inlines))
    → run_cost m (length alignments) (run_over (cell_texts options header) (map (cell_texts options) rows))
    ≡ rows_cost options m alignments header rows
cost-is options m alignments header rows =
    cost-of-rows m alignments (cell_texts options header) (map (cell_texts options) rows)
    ∙ ap (λ n. cost m (record {
      bytes = length (table_text alignments (cell_texts options header) (map (cell_texts options) rows));
      full = n + 2;
      empty = 0;
    })) (length-map rows (cell_texts options))

pub columns-are : (options : DocumentOptions) (header : List (Vec Inline Global))
    → length header ≡ length (cell_texts options (cells_of header))
columns-are options header =
    sym (length-map (cells_of header) (cell_text options)
    ∙ length-map header (λ (cell : Vec Inline Global). inlines_of cell.items))

pub first-row : (rows : List (Vec (Vec Inline Global) Global)) (row : Vec (Vec Inline Global) Global)
    → Some row ≡ slice_get rows 0 → cells_of row.items ∷ [] ≡ take 1 (rows_of rows)
first-row [] row is = absurd (cc)
first-row (first ∷ rows) row is =
    let same : row ≡ first = cc in ap (λ (r : Vec (Vec Inline Global) Global). cells_of r.items ∷ []) same

pub no-row : (rows : List (Vec (Vec Inline Global) Global)) → None ≡ slice_get rows 0
    → [] ≡ take 1 (rows_of rows)
no-row [] is = refl
no-row (first ∷ rows) is = absurd (cc)

-- ---- the part that is begun, and the parts to come

pub none-counted : {X : Type 0} (begun : List X) (count : ℕ) → count ≡ length begun → count ≡ 0
    → is_none begun ≡ true
none-counted [] count is none = refl
none-counted (x ∷ begun) count is none = absurd (omega (arith, is, none))

pub some-counted : {X : Type 0} (begun : List X) (count : ℕ) → count ≡ length begun → 0 < count
    → is_none begun ≡ false
some-counted [] count is some = absurd (omega (arith, is, some))
some-counted (x ∷ begun) count is some = refl

or-right : (a b : Bool) → b ≡ true → (a || b) ≡ true
or-right true b is = refl
or-right false b is = is

pub rows-first : {X : Type 0} (taken : List X → ℕ) (most free : ℕ) (begun rest : List X) (x : X)
    (further : List X)
    → rest ≡ x ∷ further → is_none begun ≡ true
    → runs_from taken most free begun rest ≡ runs_from taken most free (begun ++ x ∷ []) further
rows-first taken most free begun rest x further is none =
    ap (runs_from taken most free begun) is
    ∙ run-joined taken most free begun x further (ap (λ b. b || nat_le (taken (begun ++ x ∷ [])) free) none)

pub rows-fit : {X : Type 0} (taken : List X → ℕ) (most free : ℕ) (begun rest : List X) (x : X) (further : List X)
    (cost : ℕ) → rest ≡ x ∷ further → cost ≡ taken (begun ++ x ∷ []) → nat_le cost free ≡ true
    → runs_from taken most free begun rest ≡ runs_from taken most free (begun ++ x ∷ []) further
rows-fit taken most free begun rest x further cost is same fits =
    ap (runs_from taken most free begun) is
    ∙ run-joined taken most free begun x further
    (or-right (is_none begun) (nat_le (taken (begun ++ x ∷ [])) free) (ap (λ n. nat_le n free) (sym same) ∙ fits))

pub rows-begin : {X : Type 0} (taken : List X → ℕ) (most free : ℕ) (begun rest : List X) (x : X)
    (further : List X)
    (cost : ℕ) → rest ≡ x ∷ further → is_none begun ≡ false → cost ≡ taken (begun ++ x ∷ [])
    → nat_le cost free ≡ false
    → runs_from taken most free begun rest ≡ begun ∷ runs_from taken most most (x ∷ []) further
rows-begin taken most free begun rest x further cost is some same full =
    ap (runs_from taken most free begun) is
    ∙ run-ended taken most free begun x further
    (ap (λ b. b || nat_le (taken (begun ++ x ∷ [])) free) some ∙ ap (λ n. nat_le n free) (sym same) ∙ full)

-- ---- the rows of the source

abbrev pub cells_in : Vec (Vec Inline Global) Global → List Inlines
cells_in row = cells_of row.items
