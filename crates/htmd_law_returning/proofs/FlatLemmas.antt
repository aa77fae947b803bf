-- Flat documents: of changed documents, and what stands in some block of them.
use Rattle.std.proofs.Common.{◌≡◌, ℕ, Bool, true, false, ◌||◌, refl, sym, ap, ◌∙◌, List, ◌∷◌}
use Rattle.std.proofs.Common.{◌++◌, Option, Some, None}
use Rattle.htmd_lexical.specs.Characters.{line_feed}
use Rattle.htmd_document.specs.Documents.{Inlines, Block, paragraph, heading, code_block, quote, thematic_break, list}
use Rattle.htmd_document.specs.Documents.{table, element, tags, Blocks, no_blocks, block, Items, no_items, item}
use Rattle.htmd_document.specs.Documents.{inline, no_inlines, text, code, formatted, link, image, anchor, line_break}
use Rattle.htmd_document.specs.Documents.{task}
use Rattle.htmd_document.specs.Documents.{BlockAttribute}
use Rattle.htmd_document.specs.declared.document.BlockElement.{BlockElement}
use Rattle.htmd_document.specs.FlatDocuments.{line_before, element_before, flat_before, flat_all, flat_items, flattened}
use Rattle.htmd_document.specs.FlatDocuments.{text_in_line}
use Rattle.htmd_document.specs.Tags.{element_tag, end_of_element, element_line}
use Rattle.htmd_law_returning.specs.EncodedDocuments.{changed_block, changed, changed_items}

-- ---- with other addresses

module _ (change : List ℕ → List ℕ) where
  line-changed : (line : List ℕ) (rest : Blocks)
      → changed change (line_before line rest) ≡ line_before line (changed change rest)
  line-changed line no_blocks = refl
  line-changed line (block (paragraph xs) bs) = refl
  line-changed line (block (heading level xs) bs) = refl
  line-changed line (block (code_block language s) bs) = refl
  line-changed line (block (quote content) bs) = refl
  line-changed line (block thematic_break bs) = refl
  line-changed line (block (list start is_tight items) bs) = refl
  line-changed line (block (table alignments header rows) bs) = refl
  line-changed line (block (element name attributes content) bs) = refl
  line-changed line (block (tags s) bs) = refl

  text-changed : (bs : Blocks) → text_in_line (changed change bs) ≡ text_in_line bs
  text-changed no_blocks = refl
  text-changed (block (paragraph no_inlines) no_blocks) = refl
  text-changed (block (paragraph (inline (text s) no_inlines)) no_blocks) = refl
  text-changed (block (paragraph (inline (code s) no_inlines)) no_blocks) = refl
  text-changed (block (paragraph (inline (formatted f xs) no_inlines)) no_blocks) = refl
  text-changed (block (paragraph (inline (link a t xs) no_inlines)) no_blocks) = refl
  text-changed (block (paragraph (inline (image a t d) no_inlines)) no_blocks) = refl
  text-changed (block (paragraph (inline (anchor id) no_inlines)) no_blocks) = refl
  text-changed (block (paragraph (inline line_break no_inlines)) no_blocks) = refl
  text-changed (block (paragraph (inline (task d) no_inlines)) no_blocks) = refl
  text-changed (block (paragraph (inline x (inline y xs))) no_blocks) = refl
  text-changed (block (heading level xs) no_blocks) = refl
  text-changed (block (code_block language s) no_blocks) = refl
  text-changed (block (quote content) no_blocks) = refl
  text-changed (block thematic_break no_blocks) = refl
  text-changed (block (list start is_tight items) no_blocks) = refl
  text-changed (block (table alignments header rows) no_blocks) = refl
  text-changed (block (element name attributes content) no_blocks) = refl
  text-changed (block (tags s) no_blocks) = refl
  text-changed (block b (block c bs)) = refl

  element-changed : (name : BlockElement) (attributes : List BlockAttribute) (t : Option (List ℕ))
      (inner rest : Blocks)
      → changed change (element_before name attributes t inner rest)
      ≡ element_before name attributes t (changed change inner) (changed change rest)
  element-changed name attributes None inner rest = line-changed (element_tag name attributes) inner
  element-changed name attributes (Some s) inner rest = line-changed (element_line name attributes s) rest

  mutual
    before-changed : (b : Block) (rest : Blocks)
        → changed change (flat_before b rest) ≡ flat_before (changed_block change b) (changed change rest)
    before-changed (paragraph xs) rest = refl
    before-changed (heading level xs) rest = refl
    before-changed (code_block language s) rest = refl
    before-changed (quote content) rest =
        ap (λ c. block (quote c) (changed change rest)) (all-changed content no_blocks)
    before-changed thematic_break rest = refl
    before-changed (list start is_tight items) rest =
        ap (λ x. block (list start is_tight x) (changed change rest)) (items-changed items)
    before-changed (table alignments header rows) rest = refl
    before-changed (element name attributes content) rest =
        let last = line_before (end_of_element name) rest in
        element-changed name attributes (text_in_line content) (flat_all content last) rest
        ∙ (ap (λ t. element_before name attributes t (changed change (flat_all content last)) (changed change rest))
        (sym (text-changed content))
        ∙ ap (λ c. element_before name attributes (text_in_line (changed change content)) c (changed change rest))
        (all-changed content last
        ∙ ap (flat_all (changed change content)) (line-changed (end_of_element name) rest)))
    before-changed (tags s) rest = refl

    all-changed : (bs rest : Blocks)
        → changed change (flat_all bs rest) ≡ flat_all (changed change bs) (changed change rest)
    all-changed no_blocks rest = refl
    all-changed (block b bs) rest =
        before-changed b (flat_all bs rest) ∙ ap (flat_before (changed_block change b)) (all-changed bs rest)

    pub items-changed : (items : Items)
        → changed_items change (flat_items items) ≡ flat_items (changed_items change items)
    items-changed no_items = refl
    items-changed (item bs rest) = rw (all-changed bs no_blocks, items-changed rest) refl

  pub flat-changed : (d : Blocks) → changed change (flattened d) ≡ flattened (changed change d)
  flat-changed d = all-changed d no_blocks

-- ---- what stands in some block

-- tests of a block, blocks and items that hold of what stands in one of them, and of no line
pub record IsAny (one : Block → Bool) (all : Blocks → Bool) (in_items : Items → Bool) : Type 0 where
  pub none : all no_blocks ≡ false
  pub more : (b : Block) (bs : Blocks) → all (block b bs) ≡ (one b || all bs)
  pub in_quote : (bs : Blocks) → one (quote bs) ≡ all bs
  pub in_list : (start : Option ℕ) (is_tight : Bool) (items : Items)
      → one (list start is_tight items) ≡ in_items items
  pub no_item : in_items no_items ≡ false
  pub more_items : (bs : Blocks) (rest : Items) → in_items (item bs rest) ≡ (all bs || in_items rest)
  pub in_element : (name : BlockElement) (attributes : List BlockAttribute) (bs : Blocks)
      → one (element name attributes bs) ≡ all bs
  pub in_tags : (s : List ℕ) → one (tags s) ≡ false
  pub in_line : (xs : Inlines) → one (paragraph xs) ≡ false

or-false : (b : Bool) → (b || false) ≡ b
or-false true = refl
or-false false = refl

or-more : (a b c : Bool) → (a || (b || c)) ≡ ((a || b) || c)
or-more true b c = refl
or-more false b c = refl

module _ {one : Block → Bool} {all : Blocks → Bool} {in_items : Items → Bool} (k : IsAny one all in_items) where
  line-any : (line : List ℕ) (rest : Blocks) → all (line_before line rest) ≡ all rest
  line-any line (block (tags s) bs) =
      let t : List ℕ = line ++ line_feed ∷ s in
      k.more (tags t) bs ∙ (ap (λ x. x || all bs) (k.in_tags t)
      ∙ sym (k.more (tags s) bs ∙ ap (λ x. x || all bs) (k.in_tags s)))
  line-any line rest = k.more (tags line) rest ∙ ap (λ x. x || all rest) (k.in_tags line)

  text-any : (bs : Blocks) (s : List ℕ) → text_in_line bs ≡ Some s → all bs ≡ false
  text-any no_blocks s e = k.none
  text-any (block (paragraph xs) no_blocks) s e =
      k.more (paragraph xs) no_blocks ∙ (ap (λ x. x || all no_blocks) (k.in_line xs) ∙ k.none)
  text-any (block (heading level xs) no_blocks) s e = absurd (cc)
  text-any (block (code_block language t) no_blocks) s e = absurd (cc)
  text-any (block (quote content) no_blocks) s e = absurd (cc)
  text-any (block thematic_break no_blocks) s e = absurd (cc)
  text-any (block (list start is_tight items) no_blocks) s e = absurd (cc)
  text-any (block (table alignments header rows) no_blocks) s e = absurd (cc)
  text-any (block (element name attributes content) no_blocks) s e = absurd (cc)
  text-any (block (tags t) no_blocks) s e = absurd (cc)
  text-any (block b (block c bs)) s e = absurd (cc)

  element-any : (name : BlockElement) (attributes : List BlockAttribute) (content inner rest : Blocks)
      (t : Option (List ℕ)) → text_in_line content ≡ t → all inner ≡ (all content || all rest)
      → all (element_before name attributes t inner rest) ≡ (one (element name attributes content) || all rest)
  element-any name attributes content inner rest None e h =
      line-any (element_tag name attributes) inner
      ∙ (h ∙ ap (λ x. x || all rest) (sym (k.in_element name attributes content)))
  element-any name attributes content inner rest (Some s) e h =
      line-any (element_line name attributes s) rest
      ∙ sym (ap (λ x. x || all rest) (k.in_element name attributes content ∙ text-any content s e))

  mutual
    before-any : (b : Block) (rest : Blocks) → all (flat_before b rest) ≡ (one b || all rest)
    before-any (quote content) rest =
        k.more (quote (flattened content)) rest
        ∙ ap (λ x. x || all rest) (k.in_quote (flattened content)
        ∙ (all-any content no_blocks ∙ (ap (λ x. all content || x) k.none ∙ or-false (all content))
        ∙ sym (k.in_quote content)))
    before-any (list start is_tight items) rest =
        k.more (list start is_tight (flat_items items)) rest
        ∙ ap (λ x. x || all rest) (k.in_list start is_tight (flat_items items)
        ∙ (items-any items ∙ sym (k.in_list start is_tight items)))
    before-any (element name attributes content) rest =
        let last : Blocks = line_before (end_of_element name) rest in
        element-any name attributes content (flat_all content last) rest (text_in_line content) refl
        (all-any content last ∙ ap (λ x. all content || x) (line-any (end_of_element name) rest))
    before-any b rest = k.more b rest

    all-any : (bs rest : Blocks) → all (flat_all bs rest) ≡ (all bs || all rest)
    all-any no_blocks rest = sym (ap (λ x. x || all rest) k.none)
    all-any (block b bs) rest =
        before-any b (flat_all bs rest)
        ∙ (ap (λ x. one b || x) (all-any bs rest)
        ∙ (or-more (one b) (all bs) (all rest) ∙ ap (λ x. x || all rest) (sym (k.more b bs))))

    items-any : (items : Items) → in_items (flat_items items) ≡ in_items items
    items-any no_items = refl
    items-any (item bs rest) =
        k.more_items (flattened bs) (flat_items rest)
        ∙ (ap (λ x. x || in_items (flat_items rest))
        (all-any bs no_blocks ∙ (ap (λ x. all bs || x) k.none ∙ or-false (all bs)))
        ∙ (ap (λ x. all bs || x) (items-any rest) ∙ sym (k.more_items bs rest)))

  pub flattened-any : (d : Blocks) → all (flattened d) ≡ all d
  flattened-any d = all-any d no_blocks ∙ (ap (λ x. all d || x) k.none ∙ or-false (all d))
