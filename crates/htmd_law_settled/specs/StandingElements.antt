-- Where the elements of a page's document stand.
use Rattle.std.specs.Prelude.{◌≡◌, Bool, true, ◌&&◌}
use Rattle.htmd_document.specs.Documents.{Block, quote, list, element, Blocks, no_blocks, block, Items, no_items, item}
use Rattle.htmd_nodes.specs.NumberedTrees.{NumberedTree}
use Rattle.htmd_grammar.specs.HtmlDocuments.{below_body}
use Rattle.htmd_shown.specs.Shown.{Sight}
use Rattle.htmd_document_of_tree.specs.declared.anchors.Anchors.{Anchors}
use Rattle.htmd_document_of_tree.specs.TreeDocuments.{document_of_tree}
use Rattle.htmd_law_documents.specs.TreeForms.{is_text_tree}
use Rattle.htmd_law_rendering.specs.PlainReadings.{elements_are_strict}
use Rattle.htmd_law_returning.specs.ElementPlaces.{Holder, in_flow, inside, is_mixed, stands_here}

abbrev mutual
  pub block_stands : Holder → Block → Bool
  block_stands o (quote content) = is_mixed o && blocks_stand in_flow content
  block_stands o (list start is_tight items) = is_mixed o && items_stand items
  block_stands o (element name attributes content) = stands_here o name && blocks_stand (inside name) content
  block_stands o b = is_mixed o

  -- each element in them stands where it may, these in such a holder
  pub blocks_stand : Holder → Blocks → Bool
  blocks_stand o no_blocks = true
  blocks_stand o (block b bs) = block_stands o b && blocks_stand o bs

  pub items_stand : Items → Bool
  items_stand no_items = true
  items_stand (item bs rest) = blocks_stand in_flow bs && items_stand rest

-- In the document of every tree of texts, rich or not, with whatever anchors, elements stand where HTML has them: rows
-- and captions in tables alone, cells in rows, terms and meanings in lists of these, nothing else in tables, rows and
-- these lists; summaries in `details` alone, captions of figures in figures alone; and no attribute comes twice.
abbrev pub ElementsStand : Type 0
ElementsStand = (which : Anchors) (sight : Sight) (tree : NumberedTree) → is_text_tree tree ≡ true
    → (elements_are_strict below_body (document_of_tree which sight tree) ≡ true)
    × (blocks_stand in_flow (document_of_tree which sight tree) ≡ true)
