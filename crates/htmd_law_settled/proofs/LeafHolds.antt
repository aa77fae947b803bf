-- What is said of leaves by types, said by tests.
use Rattle.std.proofs.Common.{◌≡◌, ℕ, suc, Bool, true, false, ◌&&◌, List, [], ◌∷◌, refl, sym, ap, ◌∙◌, inl, inr}
use Rattle.std.specs.List.{list_all}
use Rattle.std.specs.Str.{chars}
use Rattle.std.proofs.Math.Utf8.{scalars, scalar}
use Rattle.std.proofs.lemmas.Bool.{and_from, false≢true}
use Rattle.std.proofs.lemmas.Str.{chars-encodes}
use Rattle.htmd_document.specs.Documents.{Inline, text, code, formatted, link, image, anchor, line_break, task}
use Rattle.htmd_document.specs.Documents.{Inlines, no_inlines, inline, Block, paragraph, heading, code_block, quote}
use Rattle.htmd_document.specs.Documents.{thematic_break, list, table, element, tags, Blocks, no_blocks, block}
use Rattle.htmd_document.specs.Documents.{Items, no_items, item}
use Rattle.htmd_document.specs.Documents.{BlockAttribute}
use Rattle.htmd_document.specs.declared.document.BlockElement.{BlockElement}
use Rattle.htmd_law_settled.specs.Leaves.{Leaves, is_text_of, is_inline_of, is_line_of, is_whole_line_of, are_cells_of}
use Rattle.htmd_law_settled.specs.Leaves.{is_block_of}
use Rattle.htmd_law_settled.specs.Leaves.{are_blocks_of, are_items_of}
use Rattle.htmd_law_settled.proofs.LeafLines.{AllCharacters, IsText, HasInline, HasLine, HasWhole, HaveCells, HaveRows}
use Rattle.htmd_law_returning.specs.ElementPlaces.{Holder, in_flow, in_details, in_figure, inside}
use Rattle.htmd_law_settled.proofs.LeafLines.{HasBlock}
use Rattle.htmd_law_settled.proofs.LeafLines.{HasPiece, HaveInside}
use Rattle.htmd_document.specs.NormalDocuments.{item_count}
use Rattle.htmd_law_returning.specs.SettledDocuments.{is_right_list, has_fitting_numbers, block_numbers_fit}
use Rattle.htmd_law_returning.specs.SettledDocuments.{numbers_fit, item_numbers_fit}
use Rattle.htmd_law_rendering.specs.PlainReadings.{block_has_no_elements, blocks_have_no_elements}
use Rattle.htmd_law_rendering.specs.PlainReadings.{items_have_no_elements}
use Rattle.htmd_law_settled.proofs.LineShapes.{Whole}
use Rattle.htmd_law_settled.proofs.LeafLines.{HaveBlocks, HaveItems}

-- how lists are tight on a page
abbrev AllowsRight : Leaves → Type 0
AllowsRight k = (is_tight : Bool) (items : Items)
    → is_right_list is_tight items ≡ true → k.list is_tight items ≡ true

module _ (k : Leaves) (wholes : (xs : Inlines) → Whole xs → k.line xs ≡ true) (rights : AllowsRight k) where
  characters-hold : (cs : List ℕ) → AllCharacters k cs
      → (scalars cs ≡ true) × (list_all k.character cs ≡ true)
  characters-hold [] h = (refl, refl)
  characters-hold (c ∷ cs) h =
      let r = characters-hold cs h.2 in
      (and_from (scalar c) (scalars cs) h.0 r.0, and_from (k.character c) (list_all k.character cs) h.1 r.1)

  text-holds : (s : List ℕ) → IsText k s → is_text_of k s ≡ true
  text-holds s h =
      let a = characters-hold h.0 h.2 in
      ap (λ t. list_all k.character (chars t)) h.1 ∙ ap (list_all k.character) (chars-encodes h.0 a.0) ∙ a.1

  mutual
    inline-holds : (x : Inline) → HasInline k x → is_inline_of k x ≡ true
    inline-holds (text s) h = text-holds s h
    inline-holds (code s) h = text-holds s h
    inline-holds (formatted f content) h = and_from (k.format f) (is_line_of k content) h.0 (line-holds content h.1)
    inline-holds (link address title content) h =
        and_from (k.link address title) (is_line_of k content) h.0 (line-holds content h.1)
    inline-holds (image address title description) h = h
    inline-holds (anchor id) h = refl
    inline-holds line_break h = refl
    inline-holds (task is_checked) h = refl

    line-holds : (xs : Inlines) → HasLine k xs → is_line_of k xs ≡ true
    line-holds no_inlines h = refl
    line-holds (inline x xs) h = and_from (is_inline_of k x) (is_line_of k xs) (inline-holds x h.0) (line-holds xs h.1)

  whole-holds : (xs : Inlines) → HasWhole k xs → is_whole_line_of k xs ≡ true
  whole-holds xs h = and_from (is_line_of k xs) (k.line xs) (line-holds xs h.0) (wholes xs h.1)

  cells-hold : (cells : List Inlines) → HaveCells k cells → are_cells_of k cells ≡ true
  cells-hold [] h = refl
  cells-hold (c ∷ cells) h =
      and_from (is_whole_line_of k c) (are_cells_of k cells) (whole-holds c h.0) (cells-hold cells h.1)

  rows-hold : (rows : List (List Inlines)) → HaveRows k rows → list_all (are_cells_of k) rows ≡ true
  rows-hold [] h = refl
  rows-hold (r ∷ rows) h =
      and_from (are_cells_of k r) (list_all (are_cells_of k) rows) (cells-hold r h.0) (rows-hold rows h.1)

  mutual
    block-holds : (n : ℕ) (b : Block) → HasBlock k n b → is_block_of k b ≡ true
    block-holds n (paragraph content) h = whole-holds content h
    block-holds n (heading level content) h =
        and_from (is_whole_line_of k content) (k.heading content) (whole-holds content h.0) h.1
    block-holds n (code_block language s) h = h
    block-holds n (quote content) h = inside-holds in_flow (suc n) content h
    block-holds n thematic_break h = refl
    block-holds n (list start is_tight items) h =
        and_from (k.list is_tight items) (are_items_of k items) (rights is_tight items h.0.0)
        (items-hold (suc n) items h.1)
    block-holds n (table alignments header rows) h =
        and_from (k.table header rows) (are_cells_of k header && list_all (are_cells_of k) rows)
        h.2
        (and_from (are_cells_of k header) (list_all (are_cells_of k) rows) (cells-hold header h.0)
        (rows-hold rows h.1))
    block-holds n (element name attributes content) h =
        and_from (k.element name attributes content) (are_blocks_of k content) h.0
        (inside-holds (inside name) n content h.3)
    block-holds n (tags s) h = absurd h

    piece-holds : (o : Holder) (n : ℕ) (b : Block) → HasPiece k o n b → is_block_of k b ≡ true
    piece-holds o n (element name attributes content) h =
        and_from (k.element name attributes content) (are_blocks_of k content) h.0
        (inside-holds (inside name) n content h.3)
    piece-holds o n b h = absurd h

    inside-holds : (o : Holder) (n : ℕ) (bs : Blocks) → HaveInside k o n bs → are_blocks_of k bs ≡ true
    inside-holds o n no_blocks h = refl
    inside-holds in_flow n (block b bs) h =
        and_from (is_block_of k b) (are_blocks_of k bs) (block-holds n b h.0) (inside-holds in_flow n bs h.1)
    inside-holds in_details n (block b bs) h =
        and_from (is_block_of k b) (are_blocks_of k bs)
        (elim h.0 [ inl x ↦ block-holds n b x | inr x ↦ piece-holds in_details n b x ])
        (inside-holds in_details n bs h.1)
    inside-holds in_figure n (block b bs) h =
        and_from (is_block_of k b) (are_blocks_of k bs)
        (elim h.0 [ inl x ↦ block-holds n b x | inr x ↦ piece-holds in_figure n b x ])
        (inside-holds in_figure n bs h.1)
    inside-holds o n (block b bs) h =
        and_from (is_block_of k b) (are_blocks_of k bs) (piece-holds o n b h.0) (inside-holds o n bs h.1)

    items-hold : (n : ℕ) (items : Items) → HaveItems k n items → are_items_of k items ≡ true
    items-hold n no_items h = refl
    items-hold n (item bs items) h =
        and_from (are_blocks_of k bs) (are_items_of k items) (inside-holds in_flow n bs h.0) (items-hold n items h.1)

  pub blocks-hold : (n : ℕ) (bs : Blocks) → HaveBlocks k n bs → are_blocks_of k bs ≡ true
  blocks-hold n bs h = inside-holds in_flow n bs h

-- where there are no elements
module _ (k : Leaves) (plain : (name : BlockElement) (attributes : List BlockAttribute) (content : Blocks)
    → k.element name attributes content ≡ false) where
  mutual
    block-plain : (n : ℕ) (b : Block) → HasBlock k n b → block_has_no_elements b ≡ true
    block-plain n (paragraph content) h = refl
    block-plain n (heading level content) h = refl
    block-plain n (code_block language s) h = refl
    block-plain n (quote content) h = blocks-plain (suc n) content h
    block-plain n thematic_break h = refl
    block-plain n (list start is_tight items) h = items-plain (suc n) items h.1
    block-plain n (table alignments header rows) h = refl
    block-plain n (element name attributes content) h =
        absurd (false≢true (sym (plain name attributes content) ∙ h.0))
    block-plain n (tags s) h = absurd h

    pub blocks-plain : (n : ℕ) (bs : Blocks) → HaveBlocks k n bs → blocks_have_no_elements bs ≡ true
    blocks-plain n no_blocks h = refl
    blocks-plain n (block b bs) h =
        and_from (block_has_no_elements b) (blocks_have_no_elements bs) (block-plain n b h.0) (blocks-plain n bs h.1)

    items-plain : (n : ℕ) (items : Items) → HaveItems k n items → items_have_no_elements items ≡ true
    items-plain n no_items h = refl
    items-plain n (item bs items) h =
        and_from (blocks_have_no_elements bs) (items_have_no_elements items) (blocks-plain n bs h.0)
        (items-plain n items h.1)

-- the numbers of lists fit
module _ (k : Leaves) where
  mutual
    block-fits : (n : ℕ) (b : Block) → HasBlock k n b → block_numbers_fit n b ≡ true
    block-fits n (paragraph content) h = refl
    block-fits n (heading level content) h = refl
    block-fits n (code_block language s) h = refl
    block-fits n (quote content) h = inside-fits in_flow (suc n) content h
    block-fits n thematic_break h = refl
    block-fits n (list start is_tight items) h =
        and_from (has_fitting_numbers n start (item_count items)) (item_numbers_fit (suc n) items) h.0.1
        (items-fit (suc n) items h.1)
    block-fits n (table alignments header rows) h = refl
    block-fits n (element name attributes content) h = inside-fits (inside name) n content h.3
    block-fits n (tags s) h = absurd h

    piece-fits : (o : Holder) (n : ℕ) (b : Block) → HasPiece k o n b → block_numbers_fit n b ≡ true
    piece-fits o n (element name attributes content) h = inside-fits (inside name) n content h.3
    piece-fits o n b h = absurd h

    inside-fits : (o : Holder) (n : ℕ) (bs : Blocks) → HaveInside k o n bs → numbers_fit n bs ≡ true
    inside-fits o n no_blocks h = refl
    inside-fits in_flow n (block b bs) h =
        and_from (block_numbers_fit n b) (numbers_fit n bs) (block-fits n b h.0) (inside-fits in_flow n bs h.1)
    inside-fits in_details n (block b bs) h =
        and_from (block_numbers_fit n b) (numbers_fit n bs)
        (elim h.0 [ inl x ↦ block-fits n b x | inr x ↦ piece-fits in_details n b x ])
        (inside-fits in_details n bs h.1)
    inside-fits in_figure n (block b bs) h =
        and_from (block_numbers_fit n b) (numbers_fit n bs)
        (elim h.0 [ inl x ↦ block-fits n b x | inr x ↦ piece-fits in_figure n b x ])
        (inside-fits in_figure n bs h.1)
    inside-fits o n (block b bs) h =
        and_from (block_numbers_fit n b) (numbers_fit n bs) (piece-fits o n b h.0) (inside-fits o n bs h.1)

    items-fit : (n : ℕ) (items : Items) → HaveItems k n items → item_numbers_fit n items ≡ true
    items-fit n no_items h = refl
    items-fit n (item bs items) h =
        and_from (numbers_fit n bs) (item_numbers_fit n items) (inside-fits in_flow n bs h.0) (items-fit n items h.1)

  pub blocks-fit : (n : ℕ) (bs : Blocks) → HaveBlocks k n bs → numbers_fit n bs ≡ true
  blocks-fit n bs h = inside-fits in_flow n bs h
