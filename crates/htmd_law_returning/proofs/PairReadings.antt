-- What is read whose raw tags are those of formats, code and anchors: no breaks, and none in the descriptions of
-- images.
use Rattle.std.specs.Prelude.{ℕ, Bool, true, false, ◌&&◌, ◌||◌, List, [], ◌∷◌}
use Rattle.htmd_commonmark_reading.specs.Markup.{Inlines, no_inlines, letter, code, formatted, link, image, line_break}
use Rattle.htmd_commonmark_reading.specs.Markup.{task, raw, Block, paragraph, heading, code_block, quote}
use Rattle.htmd_commonmark_reading.specs.Markup.{thematic_break, list, table, html_block, Blocks, no_blocks, block}
use Rattle.htmd_commonmark_reading.specs.Markup.{Items, no_items, item}
use Rattle.htmd_commonmark_reading.specs.SeenMarkup.{Role, opens, closes, breaks, stays, role}
use Rattle.htmd_law_inlines.specs.PlainReadings.{is_untagged}
use Rattle.htmd_law_rendering.proofs.PairedLemmas.{is_anchor, is_end}

abbrev pub is_of_pair : Role → Bool
is_of_pair (opens t) = true
is_of_pair (closes t) = true
is_of_pair breaks = false
is_of_pair stays = false

-- of an anchor
abbrev pub is_of_anchor : List ℕ → Bool
is_of_anchor tag = is_anchor tag || is_end tag

abbrev pub has_pairs_alone : Inlines → Bool
has_pairs_alone no_inlines = true
has_pairs_alone (letter c xs) = has_pairs_alone xs
has_pairs_alone (code s xs) = has_pairs_alone xs
has_pairs_alone (formatted f content xs) = has_pairs_alone content && has_pairs_alone xs
has_pairs_alone (link a t content xs) = has_pairs_alone content && has_pairs_alone xs
has_pairs_alone (image a t content xs) = is_untagged content && has_pairs_alone xs
has_pairs_alone (line_break xs) = has_pairs_alone xs
has_pairs_alone (task d xs) = has_pairs_alone xs
has_pairs_alone (raw tag xs) = (is_of_anchor tag || is_of_pair (role tag)) && has_pairs_alone xs

abbrev pub cells_have_pairs_alone : List Inlines → Bool
cells_have_pairs_alone [] = true
cells_have_pairs_alone (c ∷ cs) = has_pairs_alone c && cells_have_pairs_alone cs

abbrev pub rows_have_pairs_alone : List (List Inlines) → Bool
rows_have_pairs_alone [] = true
rows_have_pairs_alone (r ∷ rs) = cells_have_pairs_alone r && rows_have_pairs_alone rs

abbrev mutual
  pub block_has_pairs_alone : Block → Bool
  block_has_pairs_alone (paragraph xs) = has_pairs_alone xs
  block_has_pairs_alone (heading level xs) = has_pairs_alone xs
  block_has_pairs_alone (code_block language s) = true
  block_has_pairs_alone (quote bs) = blocks_have_pairs_alone bs
  block_has_pairs_alone thematic_break = true
  block_has_pairs_alone (list start tight items) = items_have_pairs_alone items
  block_has_pairs_alone (table alignments header rows) =
      cells_have_pairs_alone header && rows_have_pairs_alone rows
  block_has_pairs_alone (html_block s) = true

  pub blocks_have_pairs_alone : Blocks → Bool
  blocks_have_pairs_alone no_blocks = true
  blocks_have_pairs_alone (block b bs) = block_has_pairs_alone b && blocks_have_pairs_alone bs

  pub items_have_pairs_alone : Items → Bool
  items_have_pairs_alone no_items = true
  items_have_pairs_alone (item bs rest) = blocks_have_pairs_alone bs && items_have_pairs_alone rest
