-- With its elements as tags, a document isn't bigger, nor is its margin.
use Rattle.std.proofs.Common.{◌≡◌, refl, sym, subst, ℕ, suc, ◌+◌, ◌≤◌, List, ◌∷◌, ◌++◌, length, arith}
use Rattle.std.proofs.Common.{Option, Some, None}
use Rattle.std.specs.Prelude.{max}
use Rattle.std.proofs.lemmas.List.{length-append}
use Rattle.htmd_lexical.specs.Characters.{line_feed}
use Rattle.htmd_document.specs.declared.document.BlockElement.{BlockElement}
use Rattle.htmd_document.specs.Documents.{Block, Blocks, Items, paragraph, heading, code_block, quote, BlockAttribute}
use Rattle.htmd_document.specs.Documents.{thematic_break, list, table, element, tags, no_blocks, block, no_items, item}
use Rattle.htmd_document.specs.FlatDocuments.{text_in_line, line_before, element_before, flat_before, flat_all, flat_items}
use Rattle.htmd_document.specs.FlatDocuments.{flattened}
use Rattle.htmd_document.specs.Tags.{element_tag, end_of_element, element_line, escaped_text}
use Rattle.htmd_law_sizes.specs.DocumentSizes.{size_of, size_of_block, size_of_items, margin_of, margin_of_block}
use Rattle.htmd_law_sizes.specs.DocumentSizes.{margin_of_items, size_in_line}

-- ---- size

line_size : (line : List ℕ) (rest : Blocks) → size_of (line_before line rest) ≤ suc (length line) + size_of rest
line_size line no_blocks = omega arith
line_size line (block (paragraph content) bs) = omega arith
line_size line (block (heading level content) bs) = omega arith
line_size line (block (code_block language s) bs) = omega arith
line_size line (block (quote content) bs) = omega arith
line_size line (block thematic_break bs) = omega arith
line_size line (block (list start is_tight items) bs) = omega arith
line_size line (block (table alignments header rows) bs) = omega arith
line_size line (block (element name attributes content) bs) = omega arith
line_size line (block (tags s) bs) = omega (arith, length-append line (line_feed ∷ s))

element_size : (name : BlockElement) (attributes : List BlockAttribute) (content inner rest : Blocks)
    (o : Option (List ℕ)) → text_in_line content ≡ o
    → size_of inner ≤ size_of content + (suc (length (end_of_element name)) + size_of rest)
    → size_of (element_before name attributes o inner rest)
    ≤ size_of_block (element name attributes content) + size_of rest
element_size name attributes content inner rest None e h =
    omega (arith, line_size (element_tag name attributes) inner, h)
element_size name attributes content inner rest (Some s) e h =
    let tag = element_tag name attributes in
    subst (λ (o : Option (List ℕ)). size_of (line_before (element_line name attributes s) rest)
    ≤ (suc (length tag) + suc (length (end_of_element name)) + size_in_line o + size_of content) + size_of rest)
    (sym e)
    (omega (
      arith,
      line_size (element_line name attributes s) rest,
      length-append (tag ++ escaped_text s) (end_of_element name),
      length-append tag (escaped_text s),
    ))

mutual
  all_size : (bs rest : Blocks) → size_of (flat_all bs rest) ≤ size_of bs + size_of rest
  all_size no_blocks rest = omega arith
  all_size (block b bs) rest = omega (arith, first_size b (flat_all bs rest), all_size bs rest)

  first_size : (b : Block) (rest : Blocks) → size_of (flat_before b rest) ≤ size_of_block b + size_of rest
  first_size (paragraph content) rest = omega arith
  first_size (heading level content) rest = omega arith
  first_size (code_block language s) rest = omega arith
  first_size (quote content) rest = omega (arith, all_size content no_blocks)
  first_size thematic_break rest = omega arith
  first_size (list start is_tight items) rest = omega (arith, items_size items)
  first_size (table alignments header rows) rest = omega arith
  first_size (element name attributes content) rest =
      let last = line_before (end_of_element name) rest in
      element_size name attributes content (flat_all content last) rest (text_in_line content) refl
      (omega (arith, all_size content last, line_size (end_of_element name) rest))
  first_size (tags s) rest = omega arith

  items_size : (items : Items) → size_of_items (flat_items items) ≤ size_of_items items
  items_size no_items = omega arith
  items_size (item bs rest) = omega (arith, all_size bs no_blocks, items_size rest)

pub flat_size : (d : Blocks) → size_of (flattened d) ≤ size_of d
flat_size d = omega (arith, all_size d no_blocks)

-- ---- margin

line_margin : (line : List ℕ) (rest : Blocks) → margin_of (line_before line rest) ≤ margin_of rest
line_margin line no_blocks = omega arith
line_margin line (block (paragraph content) bs) = omega arith
line_margin line (block (heading level content) bs) = omega arith
line_margin line (block (code_block language s) bs) = omega arith
line_margin line (block (quote content) bs) = omega arith
line_margin line (block thematic_break bs) = omega arith
line_margin line (block (list start is_tight items) bs) = omega arith
line_margin line (block (table alignments header rows) bs) = omega arith
line_margin line (block (element name attributes content) bs) = omega arith
line_margin line (block (tags s) bs) = omega arith

element_margin : (name : BlockElement) (attributes : List BlockAttribute) (content inner rest : Blocks)
    (o : Option (List ℕ)) → margin_of inner ≤ max (margin_of content) (margin_of rest)
    → margin_of (element_before name attributes o inner rest) ≤ max (margin_of content) (margin_of rest)
element_margin name attributes content inner rest None h =
    omega (arith, line_margin (element_tag name attributes) inner, h)
element_margin name attributes content inner rest (Some s) h =
    omega (arith, line_margin (element_line name attributes s) rest)

mutual
  all_margin : (bs rest : Blocks) → margin_of (flat_all bs rest) ≤ max (margin_of bs) (margin_of rest)
  all_margin no_blocks rest = omega arith
  all_margin (block b bs) rest = omega (arith, first_margin b (flat_all bs rest), all_margin bs rest)

  first_margin : (b : Block) (rest : Blocks)
      → margin_of (flat_before b rest) ≤ max (margin_of_block b) (margin_of rest)
  first_margin (paragraph content) rest = omega arith
  first_margin (heading level content) rest = omega arith
  first_margin (code_block language s) rest = omega arith
  first_margin (quote content) rest = omega (arith, all_margin content no_blocks)
  first_margin thematic_break rest = omega arith
  first_margin (list start is_tight items) rest = omega (arith, items_margin start 0 items)
  first_margin (table alignments header rows) rest = omega arith
  first_margin (element name attributes content) rest =
      let last = line_before (end_of_element name) rest in
      element_margin name attributes content (flat_all content last) rest (text_in_line content)
      (omega (arith, all_margin content last, line_margin (end_of_element name) rest))
  first_margin (tags s) rest = omega arith

  items_margin : (start : Option ℕ) (k : ℕ) (items : Items)
      → margin_of_items start k (flat_items items) ≤ margin_of_items start k items
  items_margin start k no_items = omega arith
  items_margin start k (item bs rest) = omega (arith, all_margin bs no_blocks, items_margin start (suc k) rest)

pub flat_margin : (d : Blocks) → margin_of (flattened d) ≤ margin_of d
flat_margin d = omega (arith, all_margin d no_blocks)
