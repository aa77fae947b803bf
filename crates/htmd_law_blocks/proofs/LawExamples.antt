-- Worked rows of the law: documents, what is written of them, and the closed blocks that are read. Each holds by
-- computing.
use Rattle.std.proofs.Common.{◌≡◌, ℕ, true, false, refl, codes, List, [], ◌∷◌, None, Some}
use Rattle.std.specs.Fmt.{digits}
use Rattle.std.specs.Str.{chars}
use Rattle.unicode.proofs.CategoryComputing.{ucd_category}
use Rattle.unicode.proofs.EastAsianComputing.{ucd_east_asian}
use Rattle.unicode.proofs.NormalComputing.{ucd_normal}
use Rattle.htmd_markdown.specs.declared.fence.CodeBlockFence.TheVariants.{Backticks}
use Rattle.htmd_markdown.specs.declared.heading.HeadingStyle.TheVariants.{Atx, Setex}
use Rattle.htmd_markdown.specs.declared.heading.HeadingStyle.{HeadingStyle}
use Rattle.htmd_markdown.specs.declared.line_break.BrStyle.TheVariants.{TwoSpaces}
use Rattle.htmd_markdown.specs.declared.link.LinkStyle.TheVariants.{Inlined, Referenced}
use Rattle.htmd_markdown.specs.declared.link.LinkStyle.{LinkStyle}
use Rattle.htmd_markdown.specs.declared.list.BulletListMarker.TheVariants.{Dash}
use Rattle.htmd_markdown.specs.declared.thematic_break.HrStyle.TheVariants.{Dashes}
use Rattle.htmd_document.specs.declared.document.Alignment.{Alignment}
use Rattle.htmd_document.specs.Documents.{Inlines, Block, Blocks, text, link, inline, no_inlines, paragraph, heading}
use Rattle.htmd_document.specs.Documents.{code_block, quote, thematic_break, list, table, no_blocks, block, no_items}
use Rattle.htmd_document.specs.Documents.{item}
use Rattle.htmd_commonmark.specs.declared.options.DocumentOptions.{DocumentOptions}
use Rattle.htmd_commonmark.specs.DocumentMarkdown.{flat_markdown}
use Rattle.htmd_commonmark_reading.specs.LinkDefinitions.{definitions}
use Rattle.htmd_commonmark_reading.specs.Reading.{parts, read}
use Rattle.htmd_law_blocks.specs.DocumentParts.{document_parts}
use Rattle.htmd_law_blocks.specs.DocumentBlocks.{document_read}
use Rattle.htmd_law_blocks.specs.BlockLaws.{parts_with}
use lib.Utf8.{encode}

abbrev options : HeadingStyle → LinkStyle → DocumentOptions
options heading_style link_style = record {
  heading_style = heading_style;
  hr_style = Dashes;
  br_style = TwoSpaces;
  link_style = link_style;
  code_block_fence = Backticks;
  bullet_list_marker = Dash;
  ul_bullet_spacing = 1;
  ol_number_spacing = 1;
}

abbrev plain : DocumentOptions
plain = options Atx Inlined

abbrev letters : List ℕ → Inlines
letters s = inline (text s) no_inlines

abbrev words : List ℕ → Block
words s = paragraph (letters s)

abbrev one : Block → Blocks
one b = block b no_blocks

-- lists one after another, a list that begins an item, and a rule in an item
abbrev lists : Blocks
lists =
    block (list None true (item (block (words (codes "a")) (one
    (list (Some 1) true (item (one (words (codes "b"))) no_items))))
    (item (one (list None true (item (one (words (codes "c"))) no_items))) no_items)))
    (block (list None false (item (block (words (codes "d")) (one thematic_break)) (item no_blocks no_items)))
    (one (quote (block (words (codes "e")) (one (code_block None (codes "f\n```")))))))

pub lists_are_written :
    flat_markdown plain lists
    ≡ codes "- a\n  1. b\n- * c\n\n* d\n\n  _ _ _\n\n*\n\n> e\n>\n> ````\n> f\n> ```\n> ````"
unfolding chars encode ucd_category digits
lists_are_written = refl

pub lists_are_read : parts (flat_markdown plain lists) ≡ document_parts plain lists
unfolding chars encode ucd_category digits
lists_are_read = refl

pub lists_are_lists : read (flat_markdown plain lists) ≡ document_read [] plain lists
unfolding chars encode ucd_category digits
lists_are_lists = refl

abbrev flat : Blocks
flat =
    block (heading 2 (letters (codes "a")))
    (block (table (Alignment.None ∷ Alignment.Right ∷ []) (letters (codes "b|c") ∷ no_inlines ∷ [])
    ((letters (codes "d") ∷ letters (codes "e") ∷ []) ∷ (letters (codes "f") ∷ []) ∷ []))
    (one thematic_break))

-- the second row is filled up
pub flat_blocks : parts (flat_markdown (options Setex Inlined) flat) ≡ document_parts (options Setex Inlined) flat
unfolding chars encode ucd_category ucd_east_asian ucd_normal digits
flat_blocks = refl

abbrev linked : Blocks
linked = one (paragraph (inline (link (codes "/a") None (letters (codes "b"))) no_inlines))

-- after the blocks come the definitions of links
pub linked_blocks :
    parts (flat_markdown (options Atx Referenced) linked)
    ≡ parts_with (options Atx Referenced) linked (definitions (codes "[1]: /a")).found
unfolding chars encode ucd_category digits
linked_blocks = refl

-- a text that isn't a line of text is read as something else
pub heading_in_its_place :
    parts (codes "# a") ≡ document_parts plain (one (words (codes "# a"))) → ⊥
unfolding chars encode ucd_category digits
heading_in_its_place e = absurd (cc)
