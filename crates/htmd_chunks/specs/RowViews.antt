-- What the source keeps of the rows of a table, and the bytes of a table of them.
use Rattle.std.specs.Prelude.{ℕ, ◌+◌, ◌-◌, ◌*◌, nat_le, if◌then◌else◌, List, [], ◌∷◌}
use Rattle.std.specs.Prelude.{length, map, max, min, sum, take}
use Rattle.std.specs.List.{sum_by}
use Rattle.htmd_commonmark.specs.Columns.{width_of}
use Rattle.htmd_commonmark.specs.TableLines.{narrowest, longest_padded, line_width}
use Rattle.htmd_chunks.specs.Sizes.{cost}
use Rattle.htmd_chunks.specs.declared.rows.RowRun as source_run
use Rattle.htmd_chunks.specs.declared.rows.RowSize as source_size
use Rattle.htmd_chunks.specs.declared.size.Margin.{Margin}

-- how wide the cells of a row are, and how many bytes they have together
pub record RowSize : Type 0 where
  pub widths : List ℕ
  pub bytes : ℕ

-- of rows how wide the columns are, how many lines and cells they have, and how wide the cells are and their bytes
pub record RowRun : Type 0 where
  pub columns : List ℕ
  pub lines : ℕ
  pub cells : ℕ
  pub width : ℕ
  pub bytes : ℕ

abbrev pub size_of : source_size.RowSize → RowSize
size_of s = record { widths = s.widths.items; bytes = s.bytes }

abbrev pub run_of : source_run.RowRun → RowRun
run_of r = record { columns = r.columns.items; lines = r.lines; cells = r.cells; width = r.width; bytes = r.bytes }

-- of cells with these texts
abbrev pub measured : List (List ℕ) → RowSize
measured cells = record { widths = map width_of cells; bytes = sum_by length cells }

-- a header alone
abbrev pub header_run : RowSize → RowRun
header_run header =
    record {
      columns = map (max narrowest) header.widths;
      lines = 1;
      cells = length header.widths;
      width = sum header.widths;
      bytes = header.bytes;
    }

-- columns as wide as these and as one more row
abbrev pub widened : List ℕ → List ℕ → List ℕ
widened [] widths = []
widened (column ∷ columns) [] = column ∷ columns
widened (column ∷ columns) (width ∷ widths) = max column width ∷ widened columns widths

-- with one more row
abbrev pub with_row : RowRun → RowSize → RowRun
with_row run row =
    record {
      columns = widened run.columns row.widths;
      lines = run.lines + 1;
      cells = run.cells + length row.widths;
      width = run.width + sum row.widths;
      bytes = run.bytes + row.bytes;
    }

-- The bytes without line feeds, where lines are padded to this length; `aligned`: how many columns have dashes.
abbrev pub padded_bytes : ℕ → ℕ → RowRun → ℕ
padded_bytes line aligned run = run.lines * line + run.bytes - run.width + line_width (take aligned run.columns)

-- where they aren't
abbrev pub plain_bytes : ℕ → RowRun → ℕ
plain_bytes aligned run =
    run.bytes + 3 * run.cells + run.lines + (min aligned (length run.columns) * (narrowest + 3) + 1)

abbrev pub run_bytes : ℕ → RowRun → ℕ
run_bytes aligned run =
    let line = line_width run.columns in
    if nat_le line longest_padded then padded_bytes line aligned run else plain_bytes aligned run

-- behind a margin
abbrev pub run_cost : Margin → ℕ → RowRun → ℕ
run_cost m aligned run =
    cost m (record { bytes = run_bytes aligned run + run.lines; full = run.lines + 1; empty = 0 })
