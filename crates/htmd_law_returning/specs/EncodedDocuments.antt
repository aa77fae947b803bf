-- Documents with each address as HTML has it.
use Rattle.std.specs.Prelude.{ℕ, List, map}
use Rattle.htmd_document.specs.Documents.{Inline, formatted, link, image, Inlines, no_inlines, inline}
use Rattle.htmd_document.specs.Documents.{Block, paragraph, heading, quote, list, table, element}
use Rattle.htmd_document.specs.Documents.{Blocks, no_blocks, block, Items, no_items, item}
use Rattle.htmd_law_rendering.specs.RenderedTrees.{encoded_address}

-- with something else in the place of each address
module _ (change : List ℕ → List ℕ) where
  abbrev mutual
    pub changed_inline : Inline → Inline
    changed_inline (formatted f content) = formatted f (changed_inlines content)
    changed_inline (link address title content) = link (change address) title (changed_inlines content)
    changed_inline (image address title description) = image (change address) title description
    changed_inline x = x

    pub changed_inlines : Inlines → Inlines
    changed_inlines no_inlines = no_inlines
    changed_inlines (inline x xs) = inline (changed_inline x) (changed_inlines xs)

  abbrev pub changed_cells : List Inlines → List Inlines
  changed_cells cells = map changed_inlines cells

  abbrev mutual
    pub changed_block : Block → Block
    changed_block (paragraph content) = paragraph (changed_inlines content)
    changed_block (heading level content) = heading level (changed_inlines content)
    changed_block (quote content) = quote (changed content)
    changed_block (list start is_tight items) = list start is_tight (changed_items items)
    changed_block (table alignments header rows) =
        table alignments (changed_cells header) (map changed_cells rows)
    changed_block (element name attributes content) = element name attributes (changed content)
    changed_block b = b

    pub changed : Blocks → Blocks
    changed no_blocks = no_blocks
    changed (block b bs) = block (changed_block b) (changed bs)

    pub changed_items : Items → Items
    changed_items no_items = no_items
    changed_items (item bs items) = item (changed bs) (changed_items items)

-- each address percent-encoded as the HTML of CommonMark has it
abbrev pub encoded : Blocks → Blocks
encoded d = changed encoded_address d
