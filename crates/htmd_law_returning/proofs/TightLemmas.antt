-- What an item of a tight list holds where it is flat: no paragraph but the first block, and then a list alone.
use Rattle.std.proofs.Common.{◌≡◌, ℕ, Bool, true, false, ◌&&◌, ◌||◌, refl, sym, ap, ◌∙◌, List}
use Rattle.std.proofs.Common.{Option, Some, None}
use Rattle.htmd_document.specs.Documents.{Inlines, Block, paragraph, heading, code_block, quote, thematic_break, list}
use Rattle.htmd_document.specs.Documents.{table, element, tags, Blocks, no_blocks, block, Items, no_items, item}
use Rattle.htmd_document.specs.Documents.{BlockAttribute}
use Rattle.htmd_document.specs.declared.document.BlockElement.{BlockElement}
use Rattle.htmd_document.specs.FlatDocuments.{line_before, element_before, flat_before, flat_all, flat_items, flattened}
use Rattle.htmd_document.specs.FlatDocuments.{text_in_line}
use Rattle.htmd_document.specs.NormalDocuments.{may_be_tight}
use Rattle.htmd_document.specs.Tags.{element_tag, end_of_element, element_line}
use Rattle.htmd_document.specs.TightItems.{is_filled, is_paragraph, goes_on_a_paragraph, begins_with_blocks}
use Rattle.htmd_document.specs.TightItems.{is_one_or_none}
use Rattle.htmd_flow.specs.Lists.{holds_paragraph}
use Rattle.htmd_law_returning.proofs.ListLemmas.{before-filled}
use Rattle.htmd_law_returning.proofs.StartLemmas.{false-true}

-- ---- lines of tags alone

abbrev is_line_at_most : Blocks → Bool
is_line_at_most no_blocks = true
is_line_at_most (block (tags s) no_blocks) = true
is_line_at_most bs = false

line-alone : (line : List ℕ) (rest : Blocks) → is_line_at_most (line_before line rest) ≡ true
    → is_line_at_most rest ≡ true
line-alone line no_blocks h = refl
line-alone line (block (tags s) no_blocks) h = refl
line-alone line (block (tags s) (block b bs)) h = h
line-alone line (block b bs) h = h

element-alone : (name : BlockElement) (attributes : List BlockAttribute) (t : Option (List ℕ)) (inner rest : Blocks)
    → (is_line_at_most inner ≡ true → is_line_at_most rest ≡ true)
    → is_line_at_most (element_before name attributes t inner rest) ≡ true → is_line_at_most rest ≡ true
element-alone name attributes None inner rest k h = k (line-alone (element_tag name attributes) inner h)
element-alone name attributes (Some s) inner rest k h = line-alone (element_line name attributes s) rest h

mutual
  -- such blocks hold no paragraph
  block-alone : (b : Block) (rest : Blocks) → is_line_at_most (flat_before b rest) ≡ true
      → (is_paragraph b ≡ false) × (is_line_at_most rest ≡ true)
  block-alone (paragraph xs) rest h = false-true h
  block-alone (heading level xs) rest h = false-true h
  block-alone (code_block language s) rest h = false-true h
  block-alone (quote content) rest h = false-true h
  block-alone thematic_break rest h = false-true h
  block-alone (list start is_tight items) rest h = false-true h
  block-alone (table alignments header rows) rest h = false-true h
  block-alone (element name attributes content) rest h =
      let last : Blocks = line_before (end_of_element name) rest in (
        refl,
        element-alone name attributes (text_in_line content) (flat_all content last) rest
            (λ q. line-alone (end_of_element name) rest (blocks-alone content last q).1) h,
      )
  block-alone (tags s) no_blocks h = (refl, refl)
  block-alone (tags s) (block b bs) h = false-true h

  blocks-alone : (bs rest : Blocks) → is_line_at_most (flat_all bs rest) ≡ true
      → (holds_paragraph bs ≡ false) × (is_line_at_most rest ≡ true)
  blocks-alone no_blocks rest h = (refl, h)
  blocks-alone (block b bs) rest h =
      let own = block-alone b (flat_all bs rest) h in
      let later = blocks-alone bs rest own.1 in
      (rw (own.0, later.0) refl, later.1)

-- ---- items of a tight list

-- behind a block that is no paragraph stands nothing
none-behind : (b : Block) (r : Blocks) → is_paragraph b ≡ false → is_filled r ≡ true
    → may_be_tight (block b r) ≡ false
none-behind b no_blocks e f = false-true f
none-behind b (block c no_blocks) e f = ap (λ x. x && goes_on_a_paragraph c) e
none-behind b (block c (block d bs)) e f = refl

line-tight : (line : List ℕ) (rest : Blocks) → may_be_tight (line_before line rest) ≡ true
    → is_line_at_most (line_before line rest) ≡ true
line-tight line no_blocks h = refl
line-tight line (block (tags s) no_blocks) h = refl
line-tight line (block (tags s) (block b bs)) h =
    false-true (sym (none-behind (tags line) (block b bs) refl refl) ∙ h)
line-tight line (block b bs) h = false-true (sym (none-behind (tags line) (block b bs) refl refl) ∙ h)

element-tight : (name : BlockElement) (attributes : List BlockAttribute) (t : Option (List ℕ)) (inner rest : Blocks)
    → may_be_tight (element_before name attributes t inner rest) ≡ true
    → is_line_at_most (element_before name attributes t inner rest) ≡ true
element-tight name attributes None inner rest h = line-tight (element_tag name attributes) inner h
element-tight name attributes (Some s) inner rest h = line-tight (element_line name attributes s) rest h

-- one that begins with another block holds no paragraph
plain-holds : (b x : Block) (bs : Blocks) → is_paragraph b ≡ false → is_paragraph x ≡ false
    → may_be_tight (block x (flattened bs)) ≡ true → holds_paragraph (block b bs) ≡ false
plain-holds b x no_blocks e f h = ap (λ p. p || false) e
plain-holds b x (block c bs) e f h =
    false-true (sym (none-behind x (flattened (block c bs)) f (before-filled c (flattened bs))) ∙ h)

pub blocks-hold : (b : Block) (bs : Blocks) → is_paragraph b ≡ false
    → may_be_tight (flattened (block b bs)) ≡ true → holds_paragraph (block b bs) ≡ false
blocks-hold (quote content) bs e h = plain-holds (quote content) (quote (flattened content)) bs refl refl h
blocks-hold (list start is_tight items) bs e h =
    plain-holds (list start is_tight items) (list start is_tight (flat_items items)) bs refl refl h
blocks-hold (element name attributes content) bs e h =
    (blocks-alone (block (element name attributes content) bs) no_blocks
    (element-tight name attributes (text_in_line content)
    (flat_all content (line_before (end_of_element name) (flattened bs))) (flattened bs) h)).0
blocks-hold b bs e h = plain-holds b b bs e e h

begins-flat : (items : Items) → begins_with_blocks (flat_items items) ≡ begins_with_blocks items
begins-flat no_items = refl
begins-flat (item no_blocks rest) = refl
begins-flat (item (block b bs) rest) = before-filled b (flattened bs)

line-stops : (line : List ℕ) (xs : Inlines) (rest : Blocks)
    → may_be_tight (block (paragraph xs) (line_before line rest)) ≡ false
line-stops line xs no_blocks = refl
line-stops line xs (block (tags s) no_blocks) = refl
line-stops line xs (block (tags s) (block b bs)) = refl
line-stops line xs (block b bs) = refl

element-stops : (name : BlockElement) (attributes : List BlockAttribute) (t : Option (List ℕ)) (xs : Inlines)
    (inner rest : Blocks) → may_be_tight (block (paragraph xs) (element_before name attributes t inner rest))
    ≡ false
element-stops name attributes None xs inner rest = line-stops (element_tag name attributes) xs inner
element-stops name attributes (Some s) xs inner rest = line-stops (element_line name attributes s) xs rest

long-stops : (xs : Inlines) (b : Block) (r : Blocks) → is_filled r ≡ true
    → may_be_tight (block (paragraph xs) (block b r)) ≡ false
long-stops xs b no_blocks f = false-true f
long-stops xs b (block c bs) f = refl

-- behind a paragraph stands such a block alone
pair-goes : (xs : Inlines) (c x : Block) → flat_before c no_blocks ≡ block x no_blocks
    → goes_on_a_paragraph x ≡ goes_on_a_paragraph c
    → may_be_tight (flattened (block (paragraph xs) (block c no_blocks))) ≡ true → goes_on_a_paragraph c ≡ true
pair-goes xs c x e same h = sym same ∙ (sym (ap (λ r. may_be_tight (block (paragraph xs) r)) e) ∙ h)

pub one-goes : (xs : Inlines) (c : Block)
    → may_be_tight (flattened (block (paragraph xs) (block c no_blocks))) ≡ true
    → goes_on_a_paragraph c ≡ true
one-goes xs (quote content) h = pair-goes xs (quote content) (quote (flattened content)) refl refl h
one-goes xs (list start is_tight items) h =
    pair-goes xs (list start is_tight items) (list start is_tight (flat_items items)) refl
    (ap (λ b. is_one_or_none start && b) (begins-flat items)) h
one-goes xs (element name attributes content) h =
    false-true (sym (element-stops name attributes (text_in_line content) xs
    (flat_all content (line_before (end_of_element name) no_blocks)) no_blocks) ∙ h)
one-goes xs c h = pair-goes xs c c refl refl h

pub two-stop : (xs : Inlines) (c d : Block) (bs : Blocks)
    → may_be_tight (flattened (block (paragraph xs) (block c (block d bs)))) ≡ false
two-stop xs (quote content) d bs =
    long-stops xs (quote (flattened content)) (flattened (block d bs)) (before-filled d (flattened bs))
two-stop xs (list start is_tight items) d bs =
    long-stops xs (list start is_tight (flat_items items)) (flattened (block d bs)) (before-filled d (flattened bs))
two-stop xs (element name attributes content) d bs =
    let rest : Blocks = flattened (block d bs) in
    element-stops name attributes (text_in_line content) xs
    (flat_all content (line_before (end_of_element name) rest)) rest
two-stop xs c d bs = long-stops xs c (flattened (block d bs)) (before-filled d (flattened bs))
