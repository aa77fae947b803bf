-- Elements of a page's document stand where HTML has them.
use Rattle.std.proofs.Common.{◌≡◌, ℕ, suc, Bool, true, ◌&&◌, List, ◌∷◌, refl, inl, inr}
use Rattle.std.proofs.Common.{codes}
use Rattle.std.specs.Prelude.{if◌then◌else◌}
use Rattle.std.proofs.lemmas.Bool.{and_from}
use Rattle.htmd_grammar.specs.HtmlDocuments.{below_body}
use Rattle.htmd_grammar.specs.Nesting.{Context, parent_name, fits_table, is_row}
use Rattle.htmd_document.specs.Documents.{Block, paragraph, heading, code_block, quote, thematic_break, list, table}
use Rattle.htmd_document.specs.Documents.{element, tags, Blocks, no_blocks, block, Items, no_items, item}
use Rattle.htmd_document.specs.Documents.{BlockAttribute}
use Rattle.htmd_document.specs.Tags.{element_name}
use Rattle.htmd_document.specs.declared.document.BlockElement.{BlockElement}
use Rattle.htmd_document.specs.declared.document.BlockElement.TheVariants as name
use Rattle.htmd_document_of_tree.specs.TreeDocuments.{document_of_tree}
use Rattle.htmd_law_rendering.specs.RenderedTrees.{section_name, list_name}
use Rattle.htmd_law_rendering.specs.PlainReadings.{element_is_strict, takes_blocks, place_of}
use Rattle.htmd_law_rendering.specs.PlainReadings.{around_content, block_elements_are_strict}
use Rattle.htmd_law_rendering.specs.PlainReadings.{elements_are_strict, item_elements_are_strict}
use Rattle.htmd_law_settled.specs.Leaves.{Leaves}
use Rattle.htmd_law_returning.specs.ElementPlaces.{Holder, in_flow, in_details, in_figure, in_terms, in_table, in_row}
use Rattle.htmd_law_returning.specs.ElementPlaces.{inside, stands_in}
use Rattle.htmd_law_settled.specs.StandingElements.{ElementsStand}
use Rattle.htmd_law_settled.proofs.LeafLines.{are_different, HasBlock, HasPiece, HaveInside, HaveItems}
use Rattle.htmd_law_settled.proofs.NeatPages.{leaves, neat-document}
use Rattle.htmd_law_settled.proofs.PlacedElements.{inside-placed}

-- what the grammar has around such blocks
abbrev Around : Holder → Context → Type 0
Around in_flow c = takes_blocks c ≡ true
Around in_details c = takes_blocks c ≡ true
Around in_figure c = takes_blocks c ≡ true
Around in_terms c = (d : Context) × (c ≡ codes "dl" ∷ d)
Around in_table c = (d : Context) × (c ≡ codes "table" ∷ d)
Around in_row c = (d : Context) × (c ≡ codes "tr" ∷ d)

-- the grammar allows the element there
abbrev is_placed : Context → List ℕ → List BlockAttribute → Bool
is_placed c n attributes =
    element_is_strict (place_of n c) n attributes
    && fits_table (parent_name c) (if is_row n then section_name else n)

abbrev IsPlaced : Holder → Context → BlockElement → List BlockAttribute → Type 0
IsPlaced h c n attributes =
    (is_placed c (element_name n) attributes ≡ true) × Around (inside n) (around_content (element_name n) c)

placed : (h : Holder) (c : Context) (n : BlockElement) (attributes : List BlockAttribute)
    → stands_in h n ≡ true → are_different attributes ≡ true → Around h c → IsPlaced h c n attributes
placed in_flow c name.Details attributes e d h = (rw (h, d) refl, refl)
placed in_flow c name.Terms attributes e d h = (rw (h, d) refl, (c, refl))
placed in_flow c name.Figure attributes e d h = (rw (h, d) refl, refl)
placed in_flow c name.Table attributes e d h = (rw (h, d) refl, (c, refl))
placed in_details c name.Summary attributes e d h = (rw (h, d) refl, refl)
placed in_figure c name.FigureCaption attributes e d h = (rw (h, d) refl, refl)
placed in_terms c name.Term attributes e d h = (rw (h.1, d) refl, refl)
placed in_terms c name.Meaning attributes e d h = (rw (h.1, d) refl, refl)
placed in_table c name.Caption attributes e d h = (rw (h.1, d) refl, refl)
placed in_table c name.Row attributes e d h = (rw (h.1, d) refl, (section_name ∷ c, refl))
placed in_row c name.Cell attributes e d h = (rw (h.1, d) refl, refl)
placed in_row c name.HeaderCell attributes e d h = (rw (h.1, d) refl, refl)
placed h c n attributes e d a = absurd (cc)

-- what is inside stands right
element-stands : (f : Holder) (c : Context) (name : BlockElement) (attributes : List BlockAttribute) (content : Blocks)
    → IsPlaced f c name attributes → elements_are_strict (around_content (element_name name) c) content ≡ true
    → block_elements_are_strict c (element name attributes content) ≡ true
element-stands f c name attributes content p e =
    let m : List ℕ = element_name name in
    and_from (is_placed c m attributes) (elements_are_strict (around_content m c) content) p.0 e

module _ (k : Leaves) where
  mutual
    block-stands : (n : ℕ) (c : Context) (b : Block) → HasBlock k n b → takes_blocks c ≡ true
        → block_elements_are_strict c b ≡ true
    block-stands n c (paragraph content) h a = a
    block-stands n c (heading level content) h a = a
    block-stands n c (code_block language s) h a = a
    block-stands n c (quote content) h a =
        and_from (takes_blocks c) (elements_are_strict (codes "blockquote" ∷ c) content) a
        (inside-stand in_flow (suc n) (codes "blockquote" ∷ c) content h refl)
    block-stands n c thematic_break h a = a
    block-stands n c (list start is_tight items) h a =
        and_from (takes_blocks c) (item_elements_are_strict (codes "li" ∷ list_name start ∷ c) items) a
        (items-stand (suc n) (list_name start ∷ c) items h.1)
    block-stands n c (table alignments header rows) h a = a
    block-stands n c (element name attributes content) h a =
        let p = placed in_flow c name attributes h.1 h.2 a in
        element-stands in_flow c name attributes content p
        (inside-stand (inside name) n (around_content (element_name name) c) content h.3 p.1)
    block-stands n c (tags s) h a = absurd h

    piece-stands : (f : Holder) (n : ℕ) (c : Context) (b : Block) → HasPiece k f n b → Around f c
        → block_elements_are_strict c b ≡ true
    piece-stands f n c (element name attributes content) h a =
        let p = placed f c name attributes h.1 h.2 a in
        element-stands f c name attributes content p
        (inside-stand (inside name) n (around_content (element_name name) c) content h.3 p.1)
    piece-stands f n c b h a = absurd h

    inside-stand : (f : Holder) (n : ℕ) (c : Context) (bs : Blocks) → HaveInside k f n bs → Around f c
        → elements_are_strict c bs ≡ true
    inside-stand f n c no_blocks h a = refl
    inside-stand in_flow n c (block b bs) h a =
        and_from (block_elements_are_strict c b) (elements_are_strict c bs) (block-stands n c b h.0 a)
        (inside-stand in_flow n c bs h.1 a)
    inside-stand in_details n c (block b bs) h a =
        and_from (block_elements_are_strict c b) (elements_are_strict c bs)
        (elim h.0 [ inl x ↦ block-stands n c b x a | inr x ↦ piece-stands in_details n c b x a ])
        (inside-stand in_details n c bs h.1 a)
    inside-stand in_figure n c (block b bs) h a =
        and_from (block_elements_are_strict c b) (elements_are_strict c bs)
        (elim h.0 [ inl x ↦ block-stands n c b x a | inr x ↦ piece-stands in_figure n c b x a ])
        (inside-stand in_figure n c bs h.1 a)
    inside-stand f n c (block b bs) h a =
        and_from (block_elements_are_strict c b) (elements_are_strict c bs) (piece-stands f n c b h.0 a)
        (inside-stand f n c bs h.1 a)

    items-stand : (n : ℕ) (c : Context) (items : Items) → HaveItems k n items
        → item_elements_are_strict (codes "li" ∷ c) items ≡ true
    items-stand n c no_items h = refl
    items-stand n c (item bs rest) h =
        let d : Context = codes "li" ∷ c in
        and_from (elements_are_strict d bs) (item_elements_are_strict d rest) (inside-stand in_flow n d bs h.0 refl)
        (items-stand n c rest h.1)

pub elements-stand : ElementsStand
elements-stand which sight tree texts =
    let d : Blocks = document_of_tree which sight tree in
    let neat = neat-document which sight tree texts in
    (inside-stand leaves in_flow 0 below_body d neat refl, inside-placed leaves in_flow 0 d neat)
