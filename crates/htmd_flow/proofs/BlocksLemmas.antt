-- Headings, quotes and other blocks as parts.
use Rattle.std.proofs.Common.{◌≡◌, ℕ, ◌<◌, Bool, false, List, [], ◌∷◌, length, map, refl, sym, ap, ◌∙◌, arith}
use Rattle.std.specs.Prelude.{Vec}
use Rattle.std.specs.declared.alloc.Global.{Global}
use Rattle.htmd_document.specs.declared.document.Block as source
use Rattle.htmd_document.specs.declared.document.Block.{Block, fold-roll-Block}
use Rattle.htmd_document.specs.declared.document.Block.TheVariants.{rolls-Heading, rolls-Paragraph, rolls-Quote, rolls-ThematicBreak}
use Rattle.htmd_document.specs.declared.document.Block.TheVariants.{rolls-Element}
use Rattle.htmd_document.specs.declared.document.BlockAttribute as attribute
use Rattle.htmd_document.specs.declared.document.BlockElement.{BlockElement}
use Rattle.htmd_document.specs.declared.document.Inline.{Inline}
use Rattle.htmd_document.specs.DocumentViews.{attribute_of, block_step, block_of, blocks_of, inlines_of}
use Rattle.htmd_document.specs.Documents as documents
use Rattle.htmd_flow.specs.Flows as spec
use Rattle.htmd_flow.specs.Paragraphs.{paragraph_of}
use Rattle.htmd_flow.specs.Parts.{whole}
use Rattle.std.proofs.lemmas.Bool.{false≢true}
use Rattle.std.specs.Prelude.{◌==◌}

-- ---- headings and quotes

block-heading : (level : ℕ) (xs : Vec Inline Global)
    → block_of (source.Heading level xs) ≡ documents.heading level (inlines_of xs.items)
block-heading level xs = ap block_of (sym (rolls-Heading level xs))
    ∙ fold-roll-Block documents.Block block_step (source.Block-F.Heading level xs)

block-quote : (bs : Vec Block Global) → block_of (source.Quote bs) ≡ documents.quote (blocks_of bs.items)
block-quote bs = ap block_of (sym (rolls-Quote bs))
    ∙ fold-roll-Block documents.Block block_step (source.Block-F.Quote bs)

pub block-break : block_of source.ThematicBreak ≡ documents.thematic_break
block-break = ap block_of (sym rolls-ThematicBreak)
    ∙ fold-roll-Block documents.Block block_step source.Block-F.ThematicBreak

block-paragraph : (xs : Vec Inline Global)
    → block_of (source.Paragraph xs) ≡ documents.paragraph (inlines_of xs.items)
block-paragraph xs = ap block_of (sym (rolls-Paragraph xs))
    ∙ fold-roll-Block documents.Block block_step (source.Block-F.Paragraph xs)

pub paragraph_some : (xs : Vec Inline Global) (b : Bool) → b ≡ (length xs.items == 0) → b ≡ false
    → block_of (source.Paragraph xs) ∷ [] ≡ paragraph_of (inlines_of xs.items)
paragraph_some xs b e f = ap (λ x. x ∷ []) (block-paragraph xs) ∙ filled xs.items e
  where
    filled : (ys : List Inline) → b ≡ (length ys == 0)
        → documents.paragraph (inlines_of ys) ∷ [] ≡ paragraph_of (inlines_of ys)
    filled [] h = absurd (false≢true (sym f ∙ h))
    filled (y ∷ ys) h = refl

pub heading_none : (level : ℕ) (xs : List Inline) → length xs ≡ 0 → spec.heading_of level (inlines_of xs) ≡ []
heading_none level [] e = refl
heading_none level (x ∷ xs) e = absurd (omega (arith, e))

pub heading_some : (level : ℕ) (xs : Vec Inline Global) → 0 < length xs.items
    → whole (block_of (source.Heading level xs)) ∷ [] ≡ spec.heading_of level (inlines_of xs.items)
heading_some level xs n = ap (λ b. whole b ∷ []) (block-heading level xs) ∙ filled xs.items n
  where
    filled : (ys : List Inline) → 0 < length ys
        → whole (documents.heading level (inlines_of ys)) ∷ [] ≡ spec.heading_of level (inlines_of ys)
    filled [] n = absurd (omega (arith, n))
    filled (y ∷ ys) n = refl

pub quote_none : (bs : List Block) → length bs ≡ 0 → spec.quote_of (blocks_of bs) ≡ []
quote_none [] e = refl
quote_none (b ∷ bs) e = absurd (omega (arith, e))

pub quote_some : (bs : Vec Block Global) → 0 < length bs.items
    → whole (block_of (source.Quote bs)) ∷ [] ≡ spec.quote_of (blocks_of bs.items)
quote_some bs n = ap (λ b. whole b ∷ []) (block-quote bs) ∙ filled bs.items n
  where
    filled : (ys : List Block) → 0 < length ys
        → whole (documents.quote (blocks_of ys)) ∷ [] ≡ spec.quote_of (blocks_of ys)
    filled [] n = absurd (omega (arith, n))
    filled (y ∷ ys) n = refl

pub block-element : (n : BlockElement) (attributes : Vec attribute.BlockAttribute Global) (bs : Vec Block Global)
    → block_of (source.Element n attributes bs)
    ≡ documents.element n (map attribute_of attributes.items) (blocks_of bs.items)
block-element n attributes bs = ap block_of (sym (rolls-Element n attributes bs))
    ∙ fold-roll-Block documents.Block block_step (source.Block-F.Element n attributes bs)

pub element_none : (n : BlockElement) (attributes : List documents.BlockAttribute) (bs : List Block) → length bs ≡ 0
    → spec.element_part n attributes (blocks_of bs) ≡ []
element_none n attributes [] e = refl
element_none n attributes (b ∷ bs) e = absurd (omega (arith, e))

pub element_some : (n : BlockElement) (attributes : Vec attribute.BlockAttribute Global) (bs : Vec Block Global)
    → 0 < length bs.items
    → whole (block_of (source.Element n attributes bs)) ∷ []
    ≡ spec.element_part n (map attribute_of attributes.items) (blocks_of bs.items)
element_some n attributes bs l = ap (λ b. whole b ∷ []) (block-element n attributes bs) ∙ filled bs.items l
  where
    filled : (ys : List Block) → 0 < length ys
        → whole (documents.element n (map attribute_of attributes.items) (blocks_of ys)) ∷ []
        ≡ spec.element_part n (map attribute_of attributes.items) (blocks_of ys)
    filled [] m = absurd (omega (arith, m))
    filled (y ∷ ys) m = refl
