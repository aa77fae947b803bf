-- What the items of a list of the source stand for.
use Rattle.std.specs.Prelude.{Bool, true, false, ◌&&◌, ◌||◌, is_some}
use Rattle.htmd_document.specs.Documents.{Block, element, Blocks, no_blocks, block}
use Rattle.htmd_document.specs.FlatDocuments.{text_in_line}
use Rattle.htmd_flow.specs.declared.list.ListItem as code
use Rattle.htmd_document.specs.DocumentViews.{blocks_of}
use Rattle.htmd_flow.specs.Lists.{ListItem}

abbrev pub item_of : code.ListItem → ListItem
item_of i = record { value = i.value; has_paragraph = i.has_paragraph; blocks = blocks_of i.blocks.items }

-- ---- what is written as tags

-- what is written as nothing but tags
abbrev mutual
  pub is_tags_alone : Block → Bool
  is_tags_alone (element name attributes content) = is_some (text_in_line content) || are_tags_alone content
  is_tags_alone _ = false

  pub are_tags_alone : Blocks → Bool
  are_tags_alone no_blocks = true
  are_tags_alone (block b bs) = is_tags_alone b && are_tags_alone bs
