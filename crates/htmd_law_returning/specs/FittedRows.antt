-- What is read with rows of tables that have no more cells than the header.
use Rattle.std.specs.Prelude.{ℕ, Bool, true, ◌&&◌, nat_le, List, length}
use Rattle.std.specs.List.{list_all}
use Rattle.htmd_commonmark_reading.specs.Markup.{Block, quote, list}
use Rattle.htmd_commonmark_reading.specs.Markup.{table, Blocks, no_blocks, block, Items, no_items, item}
use Rattle.htmd_commonmark_reading.specs.Markup.{Inlines}

-- no row has more cells than that
abbrev pub are_fitted : ℕ → List (List Inlines) → Bool
are_fitted columns rows = list_all (λ row. nat_le (length row) columns) rows

abbrev mutual
  pub block_has_fitted_rows : Block → Bool
  block_has_fitted_rows (quote bs) = blocks_have_fitted_rows bs
  block_has_fitted_rows (list start tight items) = items_have_fitted_rows items
  block_has_fitted_rows (table alignments header rows) = are_fitted (length header) rows
  block_has_fitted_rows b = true

  pub blocks_have_fitted_rows : Blocks → Bool
  blocks_have_fitted_rows no_blocks = true
  blocks_have_fitted_rows (block b bs) = block_has_fitted_rows b && blocks_have_fitted_rows bs

  pub items_have_fitted_rows : Items → Bool
  items_have_fitted_rows no_items = true
  items_have_fitted_rows (item bs rest) = blocks_have_fitted_rows bs && items_have_fitted_rows rest
