-- Where paragraphs of anchors alone stand.
use Rattle.std.specs.Prelude.{Bool, true, false, not, ◌&&◌, ◌||◌}
use Rattle.htmd_document.specs.Documents.{Block, paragraph, code_block, quote, list, element, Blocks, no_blocks, block}
use Rattle.htmd_document.specs.Documents.{Items, no_items, item}
use Rattle.htmd_document.specs.NormalInlines.{are_anchors}

-- anchors alone
abbrev pub is_alone : Block → Bool
is_alone (paragraph content) = are_anchors content
is_alone b = false

-- these stand right before a code block, or at the end of the document
abbrev pub stand_alone : Bool → Blocks → Bool
stand_alone is_end no_blocks = is_end
stand_alone is_end (block (code_block language s) bs) = true
stand_alone is_end bs = false

-- so it is of these blocks and of all that is in them
abbrev mutual
  pub stand_inside : Block → Bool
  stand_inside (quote content) = all_stand false content
  stand_inside (list start is_tight items) = items_stand_well items
  stand_inside (element name attributes content) = all_stand false content
  stand_inside b = true

  -- whether the document ends with these
  pub all_stand : Bool → Blocks → Bool
  all_stand is_end no_blocks = true
  all_stand is_end (block b bs) =
      stand_inside b && (not (is_alone b) || stand_alone is_end bs) && all_stand is_end bs

  pub items_stand_well : Items → Bool
  items_stand_well no_items = true
  items_stand_well (item bs rest) = all_stand false bs && items_stand_well rest
