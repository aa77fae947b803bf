-- Paragraphs of anchors alone stand as they do with other addresses as well.
use Rattle.std.proofs.Common.{◌≡◌, ℕ, Bool, false, List, refl}
use Rattle.htmd_document.specs.Documents.{Inline, text, code, formatted, link, image, anchor, line_break, task}
use Rattle.htmd_document.specs.Documents.{Inlines, no_inlines, inline, Block, paragraph, heading, code_block, quote}
use Rattle.htmd_document.specs.Documents.{thematic_break, list, table, element, tags, Blocks, no_blocks, block}
use Rattle.htmd_document.specs.Documents.{Items, no_items, item}
use Rattle.htmd_document.specs.LoneAnchors.{is_alone, stand_alone, stand_inside, all_stand, items_stand_well}
use Rattle.htmd_document.specs.NormalInlines.{is_anchor, are_anchors}
use Rattle.htmd_law_returning.specs.EncodedDocuments.{changed_inline, changed_inlines, changed_block, changed}
use Rattle.htmd_law_returning.specs.EncodedDocuments.{changed_items}

module _ (change : List ℕ → List ℕ) where
  one-same : (x : Inline) → is_anchor (changed_inline change x) ≡ is_anchor x
  one-same (text s) = refl
  one-same (code s) = refl
  one-same (formatted f content) = refl
  one-same (link address title content) = refl
  one-same (image address title description) = refl
  one-same (anchor id) = refl
  one-same line_break = refl
  one-same (task is_checked) = refl

  are-same : (xs : Inlines) → are_anchors (changed_inlines change xs) ≡ are_anchors xs
  are-same no_inlines = refl
  are-same (inline x xs) = rw (one-same x, are-same xs) refl

  alone-same : (b : Block) → is_alone (changed_block change b) ≡ is_alone b
  alone-same (paragraph content) = are-same content
  alone-same (heading level content) = refl
  alone-same (code_block language s) = refl
  alone-same (quote content) = refl
  alone-same thematic_break = refl
  alone-same (list start is_tight items) = refl
  alone-same (table alignments header rows) = refl
  alone-same (element name attributes content) = refl
  alone-same (tags s) = refl

  code-same : (is_end : Bool) (bs : Blocks) → stand_alone is_end (changed change bs) ≡ stand_alone is_end bs
  code-same is_end no_blocks = refl
  code-same is_end (block (paragraph content) bs) = refl
  code-same is_end (block (heading level content) bs) = refl
  code-same is_end (block (code_block language s) bs) = refl
  code-same is_end (block (quote content) bs) = refl
  code-same is_end (block thematic_break bs) = refl
  code-same is_end (block (list start is_tight items) bs) = refl
  code-same is_end (block (table alignments header rows) bs) = refl
  code-same is_end (block (element name attributes content) bs) = refl
  code-same is_end (block (tags s) bs) = refl

  mutual
    inside-same : (b : Block) → stand_inside (changed_block change b) ≡ stand_inside b
    inside-same (paragraph content) = refl
    inside-same (heading level content) = refl
    inside-same (code_block language s) = refl
    inside-same (quote content) = stand-same false content
    inside-same thematic_break = refl
    inside-same (list start is_tight items) = items-same items
    inside-same (table alignments header rows) = refl
    inside-same (element name attributes content) = stand-same false content
    inside-same (tags s) = refl

    pub stand-same : (is_end : Bool) (bs : Blocks) → all_stand is_end (changed change bs) ≡ all_stand is_end bs
    stand-same is_end no_blocks = refl
    stand-same is_end (block b bs) =
        rw (inside-same b, alone-same b, code-same is_end bs, stand-same is_end bs) refl

    items-same : (items : Items) → items_stand_well (changed_items change items) ≡ items_stand_well items
    items-same no_items = refl
    items-same (item bs rest) = rw (stand-same false bs, items-same rest) refl
