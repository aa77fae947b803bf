-- The rows of a table, and what it is cut into.
use Rattle.std.specs.Prelude.{ℕ, ◌+◌, List, [], length, map, take}
use Rattle.htmd_document.specs.declared.document.Alignment.{Alignment}
use Rattle.htmd_document.specs.Documents.{Inlines}
use Rattle.htmd_commonmark.specs.BlockMarkdown.{line_of}
use Rattle.htmd_commonmark.specs.InlineMarkdown.{written_line}
use Rattle.htmd_commonmark.specs.TableLines.{with_escaped_bars, table_text}
use Rattle.htmd_commonmark.specs.declared.line.LineKind.TheVariants.{Cell}
use Rattle.htmd_commonmark.specs.declared.options.DocumentOptions.{DocumentOptions}
use Rattle.htmd_chunks.specs.Runs.{runs}
use Rattle.htmd_chunks.specs.Sizes.{cost}
use Rattle.htmd_chunks.specs.declared.bounds.Bounds.{Bounds}
use Rattle.htmd_chunks.specs.declared.size.Margin.{Margin}

abbrev pub cell_text : DocumentOptions → Inlines → List ℕ
cell_text options content = with_escaped_bars (written_line (line_of options Cell) [] content).text

abbrev pub cell_texts : DocumentOptions → List Inlines → List (List ℕ)
cell_texts options cells = map (cell_text options) cells

-- a table of these rows, two lines above them
abbrev pub rows_cost : DocumentOptions → Margin → List Alignment → List Inlines → List (List Inlines) → ℕ
rows_cost options m alignments header rows =
    let text = table_text alignments (cell_texts options header) (map (cell_texts options) rows) in
    cost m (record { bytes = length text; full = length rows + 2; empty = 0 })

-- the rows of each part of a table
abbrev pub table_parts : Bounds → Margin → ℕ → List Alignment → List Inlines → List (List Inlines)
    → List (List (List Inlines))
table_parts c m first alignments header rows =
    runs (rows_cost c.options m alignments header) c.most first rows

-- the least part
abbrev pub least_rows : Bounds → Margin → List Alignment → List Inlines → List (List Inlines) → ℕ
least_rows c m alignments header rows = rows_cost c.options m alignments header (take 1 rows)
