-- Tables that are elements, with other addresses: their rows are alike.
use Rattle.std.proofs.Common.{◌≡◌, ℕ, suc, Bool, not, ◌&&◌, ◌||◌, List, [], ◌∷◌}
use Rattle.std.proofs.Common.{map, length, Option}
use Rattle.std.proofs.Common.{None, refl, ap, ◌∙◌}
use Rattle.std.specs.List.{list_all, list_any}
use Rattle.htmd_document.specs.Documents.{Block, paragraph}
use Rattle.htmd_document.specs.Documents.{element, Blocks, no_blocks, block, BlockAttribute}
use Rattle.htmd_document.specs.declared.document.BlockElement.TheVariants as an
use Rattle.htmd_document.specs.TightItems.{is_paragraph}
use Rattle.htmd_flow.specs.TableElements.{Cell, Piece, caption, row, is_filled_cell, is_filled_piece}
use Rattle.htmd_flow.specs.TableElements.{is_paragraph_at_most, is_paragraph_cell, are_paragraphs, has_header_alone}
use Rattle.htmd_flow.specs.TableElements.{is_in_header, is_in_body, fits_below}
use Rattle.htmd_shown.specs.Attributes.{wide_span, row_span, alignment}
use Rattle.htmd_law_rendering.specs.RenderedTrees.{pairs_of_element}
use Rattle.htmd_law_returning.specs.EncodedDocuments.{changed_block, changed}
use Rattle.htmd_law_returning.specs.SettledTables.{cells_in, rows_in, has_header, is_wide, is_told, are_rows_of_element}
use Rattle.htmd_law_returning.specs.SettledTables.{rows_are_read, is_header_cell, row_count, fits}
use Rattle.htmd_law_returning.specs.SettledTables.{have_fitting_cells, takes_more}
use Rattle.htmd_law_returning.specs.SettledTables.{is_tall}
use Rattle.htmd_law_returning.proofs.ChangedLemmas.{filled-same}
use Rattle.htmd_law_settled.specs.NeatLeaves.{are_read_cells, are_read_rows, is_neat_table}

module _ (change : List ℕ → List ℕ) where
  abbrev with_addresses : Cell → Cell
  with_addresses c = record c { content = changed change c.content }

  abbrev piece_with : Piece → Piece
  piece_with (caption content) = caption (changed change content)
  piece_with (row r) = row (record r { cells = map with_addresses r.cells })

  cells-same : (bs : Blocks) → cells_in (changed change bs) ≡ map with_addresses (cells_in bs)
  cells-same no_blocks = refl
  cells-same (block (element name attributes content) bs) =
      ap (λ cs. record {
        is_header = is_header_cell name;
        columns = wide_span (pairs_of_element attributes);
        rows = row_span (pairs_of_element attributes);
        alignment = alignment (pairs_of_element attributes);
        content = changed change content;
      } ∷ cs) (cells-same bs)
  cells-same (block b bs) = refl

  rows-same : (part : Option ℕ) (bs : Blocks)
      → rows_in part (changed change bs) ≡ map piece_with (rows_in part bs)
  rows-same part no_blocks = refl
  rows-same part (block (element an.Caption attributes content) bs) =
      ap (λ ps. caption (changed change content) ∷ ps) (rows-same part bs)
  rows-same part (block (element name attributes content) bs) =
      ap (λ cs. row (record { part = part; cells = cs }) ∷ rows_in part (changed change bs)) (cells-same content)
      ∙ ap (λ ps. row (record { part = part; cells = map with_addresses (cells_in content) }) ∷ ps)
      (rows-same part bs)
  rows-same part (block b bs) = refl

  read-cells : (bs : Blocks) → are_read_cells (changed change bs) ≡ are_read_cells bs
  read-cells no_blocks = refl
  read-cells (block (element name attributes content) bs) =
      ap (λ b. rows_are_read attributes && b) (read-cells bs)
  read-cells (block b bs) = refl

  read-rows : (bs : Blocks) → are_read_rows (changed change bs) ≡ are_read_rows bs
  read-rows no_blocks = refl
  read-rows (block (element an.Caption attributes content) bs) = read-rows bs
  read-rows (block (element an.Row attributes content) bs) = rw (read-cells content, read-rows bs) refl
  read-rows (block (element name attributes content) bs) = refl
  read-rows (block b bs) = refl

  -- ---- what rows are like

  filled-cells : (cells : List Cell)
      → list_any is_filled_cell (map with_addresses cells) ≡ list_any is_filled_cell cells
  filled-cells [] = refl
  filled-cells (c ∷ cells) = rw (filled-same change c.content, filled-cells cells) refl

  filled-rows : (pieces : List Piece)
      → list_all is_filled_piece (map piece_with pieces) ≡ list_all is_filled_piece pieces
  filled-rows [] = refl
  filled-rows (caption content ∷ pieces) = rw (filled-same change content, filled-rows pieces) refl
  filled-rows (row r ∷ pieces) = rw (filled-cells r.cells, filled-rows pieces) refl

  some-rows : (pieces : List Piece)
      → list_any is_filled_piece (map piece_with pieces) ≡ list_any is_filled_piece pieces
  some-rows [] = refl
  some-rows (caption content ∷ pieces) = rw (filled-same change content, some-rows pieces) refl
  some-rows (row r ∷ pieces) = rw (filled-cells r.cells, some-rows pieces) refl

  tall-cells : (cells : List Cell)
      → list_any takes_more (map with_addresses cells) ≡ list_any takes_more cells
  tall-cells [] = refl
  tall-cells (c ∷ cells) = ap (λ b. takes_more c || b) (tall-cells cells)

  tall-rows : (pieces : List Piece) → list_any is_tall (map piece_with pieces) ≡ list_any is_tall pieces
  tall-rows [] = refl
  tall-rows (caption content ∷ pieces) = tall-rows pieces
  tall-rows (row r ∷ pieces) = rw (tall-cells r.cells, tall-rows pieces) refl

  rows-count : (pieces : List Piece) → row_count (map piece_with pieces) ≡ row_count pieces
  rows-count [] = refl
  rows-count (caption content ∷ pieces) = rows-count pieces
  rows-count (row r ∷ pieces) = ap (λ k. suc k) (rows-count pieces)

  headers-in : (cells : List Cell)
      → list_any (λ (c : Cell). c.is_header) (map with_addresses cells)
      ≡ list_any (λ (c : Cell). c.is_header) cells
  headers-in [] = refl
  headers-in (c ∷ cells) = ap (λ b. c.is_header || b) (headers-in cells)

  headers-same : (pieces : List Piece)
      → list_any has_header (map piece_with pieces) ≡ list_any has_header pieces
  headers-same [] = refl
  headers-same (caption content ∷ pieces) = refl
  headers-same (row r ∷ pieces) = rw (headers-in r.cells, headers-same pieces) refl

  paragraph-block : (b : Block) → is_paragraph (changed_block change b) ≡ is_paragraph b
  paragraph-block (paragraph content) = refl
  paragraph-block b = refl

  at-most : (bs : Blocks) → is_paragraph_at_most (changed change bs) ≡ is_paragraph_at_most bs
  at-most no_blocks = refl
  at-most (block b no_blocks) = paragraph-block b
  at-most (block b (block c bs)) = refl

  paragraph-cells : (cells : List Cell)
      → list_all is_paragraph_cell (map with_addresses cells) ≡ list_all is_paragraph_cell cells
  paragraph-cells [] = refl
  paragraph-cells (c ∷ cells) = rw (at-most c.content, paragraph-cells cells) refl

  paragraphs-same : (pieces : List Piece) → are_paragraphs (map piece_with pieces) ≡ are_paragraphs pieces
  paragraphs-same [] = refl
  paragraphs-same (caption content ∷ pieces) = paragraphs-same pieces
  paragraphs-same (row r ∷ pieces) = rw (paragraph-cells r.cells, paragraphs-same pieces) refl

  count-same : (cells : List Cell) → length (map with_addresses cells) ≡ length cells
  count-same [] = refl
  count-same (c ∷ cells) = ap (λ k. suc k) (count-same cells)

  wide-same : (pieces : List Piece) → list_any is_wide (map piece_with pieces) ≡ list_any is_wide pieces
  wide-same [] = refl
  wide-same (caption content ∷ pieces) = wide-same pieces
  wide-same (row r ∷ pieces) = rw (count-same r.cells, wide-same pieces) refl

  all-same : (is_so : Cell → Bool) → ((c : Cell) → is_so (with_addresses c) ≡ is_so c) → (cells : List Cell)
      → list_all is_so (map with_addresses cells) ≡ list_all is_so cells
  all-same is_so e [] = refl
  all-same is_so e (c ∷ cells) = rw (e c, all-same is_so e cells) refl

  below-same : (n : ℕ) (pieces : List Piece)
      → list_all (fits_below n) (map piece_with pieces) ≡ list_all (fits_below n) pieces
  below-same n [] = refl
  below-same n (caption content ∷ pieces) = refl
  below-same n (row r ∷ pieces) =
      rw (count-same r.cells, all-same is_in_body (λ c. refl) r.cells, below-same n pieces) refl

  alone-same : (pieces : List Piece) → has_header_alone (map piece_with pieces) ≡ has_header_alone pieces
  alone-same [] = refl
  alone-same (caption content ∷ pieces) = refl
  alone-same (row r ∷ pieces) =
      rw (all-same is_in_header (λ c. refl) r.cells, count-same r.cells, below-same (length r.cells) pieces) refl

  fitting-rows : (pieces : List Piece)
      → have_fitting_cells (map piece_with pieces) ≡ have_fitting_cells pieces
  fitting-rows [] = refl
  fitting-rows (caption content ∷ pieces) = fitting-rows pieces
  fitting-rows (row r ∷ pieces) =
      rw (rows-count pieces, all-same (fits (suc (row_count pieces))) (λ c. refl) r.cells, fitting-rows pieces) refl

  told-same : (attributes : List BlockAttribute) (pieces : List Piece)
      → is_told attributes (map piece_with pieces) ≡ is_told attributes pieces
  told-same [] pieces = rw (headers-same pieces, paragraphs-same pieces, wide-same pieces) refl
  told-same (a ∷ attributes) pieces = refl

  element-rows : (attributes : List BlockAttribute) (pieces : List Piece)
      → are_rows_of_element attributes (map piece_with pieces) ≡ are_rows_of_element attributes pieces
  element-rows attributes pieces =
      rw (
        some-rows pieces,
        tall-rows pieces,
        filled-rows pieces,
        fitting-rows pieces,
        told-same attributes pieces,
        paragraphs-same pieces,
        alone-same pieces,
      ) refl

  pub neat-table : (attributes : List BlockAttribute) (bs : Blocks)
      → is_neat_table attributes (changed change bs) ≡ is_neat_table attributes bs
  neat-table attributes bs =
      ap (λ b. not b || are_rows_of_element attributes (rows_in None (changed change bs))) (read-rows bs)
      ∙ (ap (λ ps. not (are_read_rows bs) || are_rows_of_element attributes ps) (rows-same None bs)
      ∙ ap (λ b. not (are_read_rows bs) || b) (element-rows attributes (rows_in None bs)))
