-- In the document of a page anchors stand at the beginning of titles: no anchor comes behind a thing in these.
use Rattle.std.proofs.Common.{◌≡◌, ℕ, Bool, true, false, List, Option, refl, sym}
use Rattle.std.specs.Prelude.{◌&&◌, ◌||◌, not}
use Rattle.std.proofs.lemmas.Bool.{and_from, and_parts, or_parts, true≢false}
use Rattle.htmd_document.specs.Documents.{Block, paragraph, heading, code_block, quote, thematic_break, list}
use Rattle.htmd_document.specs.Documents.{table, element, tags, Blocks, no_blocks, block, Items, no_items, item}
use Rattle.htmd_document.specs.Documents.{BlockAttribute}
use Rattle.htmd_document.specs.declared.document.BlockElement.{BlockElement}
use Rattle.htmd_document.specs.declared.document.BlockElement.TheVariants as an
use Rattle.htmd_document.specs.FlatDocuments.{flat_items}
use Rattle.htmd_document.specs.LoneAnchors.{is_alone, stand_alone, stand_inside, all_stand, items_stand_well}
use Rattle.htmd_document.specs.NormalDocuments.{is_normal_list, is_normal_element, is_normal_block, are_normal_blocks}
use Rattle.htmd_document.specs.NormalDocuments.{are_normal_items}
use Rattle.htmd_document.specs.TightItems.{is_filled}
use Rattle.htmd_law_rendering.specs.PlainReadings.{block_has_no_elements, blocks_have_no_elements}
use Rattle.htmd_law_rendering.specs.PlainReadings.{items_have_no_elements}
use Rattle.htmd_law_returning.specs.LastingAnchors.{title_keeps}
use Rattle.htmd_law_returning.specs.SettledDocuments.{is_right_list, has_bare_header, have_bare_headers}
use Rattle.htmd_law_returning.specs.SettledDocuments.{items_have_bare_headers, is_settled_code, has_settled_language}
use Rattle.htmd_law_settled.specs.Leaves.{Leaves, is_block_of, are_blocks_of, are_items_of}
use Rattle.htmd_law_settled.specs.NeatLeaves.{neat, has_neat_attributes, is_neat_element}
use Rattle.htmd_law_settled.proofs.EncodedLeaves.{encoding}
use Rattle.htmd_law_settled.proofs.OrderedLeaves.{is_ordered, is_ordered_element, ordered}
use Rattle.htmd_law_settled.proofs.OrderedTitles.{title-ordered}

-- ---- where there are titles

-- something shows in the headers of tables of a rich document, and the others have no elements
abbrev TellsBlock : Bool → Block → Type 0
TellsBlock true b = has_bare_header b ≡ false
TellsBlock false b = block_has_no_elements b ≡ true

abbrev pub Tells : Bool → Blocks → Type 0
Tells true bs = have_bare_headers bs ≡ false
Tells false bs = blocks_have_no_elements bs ≡ true

abbrev TellsItems : Bool → Items → Type 0
TellsItems true items = items_have_bare_headers items ≡ false
TellsItems false items = items_have_no_elements items ≡ true

tells-parts : (rich : Bool) (b : Block) (bs : Blocks) → Tells rich (block b bs) → TellsBlock rich b × Tells rich bs
tells-parts true b bs t = or_parts (has_bare_header b) (have_bare_headers bs) t
tells-parts false b bs t = and_parts (block_has_no_elements b) (blocks_have_no_elements bs) t

tells-items : (rich : Bool) (bs : Blocks) (rest : Items) → TellsItems rich (item bs rest)
    → Tells rich bs × TellsItems rich rest
tells-items true bs rest t = or_parts (have_bare_headers bs) (items_have_bare_headers rest) t
tells-items false bs rest t = and_parts (blocks_have_no_elements bs) (items_have_no_elements rest) t

tells-quote : (rich : Bool) (bs : Blocks) → TellsBlock rich (quote bs) → Tells rich bs
tells-quote true bs t = t
tells-quote false bs t = t

tells-list : (rich : Bool) (start : Option ℕ) (is_tight : Bool) (items : Items)
    → TellsBlock rich (list start is_tight items) → TellsItems rich items
tells-list true start is_tight items t = t
tells-list false start is_tight items t = t

tells-element : (rich : Bool) (name : BlockElement) (attributes : List BlockAttribute) (bs : Blocks)
    → TellsBlock rich (element name attributes bs) → (Tells rich bs) × (have_bare_headers bs ≡ false)
tells-element true name attributes bs t = (t, t)
tells-element false name attributes bs t = absurd (true≢false (sym t))

-- ---- titles

abbrev read : Leaves
read = encoding neat

abbrev made : Leaves
made = encoding ordered

title-neat : (bs : Blocks) → are_normal_blocks false bs ≡ true → are_blocks_of read bs ≡ true
    → all_stand false bs ≡ true → have_bare_headers bs ≡ false → is_ordered bs ≡ true
    → title_keeps bs ≡ true
title-neat bs n o s t i =
    title-ordered read (λ c h. h) (λ xs h. h)
    (λ language code h. (and_parts (has_settled_language language) (is_settled_code code) h).1) false bs n o s t i

element-neat : (name : BlockElement) (attributes : List BlockAttribute) (bs : Blocks)
    → (is_ordered bs ≡ true → title_keeps bs ≡ true) → is_ordered_element name attributes bs ≡ true
    → is_neat_element name attributes bs ≡ true
element-neat an.Summary attributes bs g h =
    let p = and_parts (has_neat_attributes an.Summary attributes) (is_ordered bs) h in
    and_from (has_neat_attributes an.Summary attributes) (title_keeps bs) p.0 (g p.1)
element-neat an.Term attributes bs g h =
    let p = and_parts (has_neat_attributes an.Term attributes) (is_ordered bs) h in
    and_from (has_neat_attributes an.Term attributes) (title_keeps bs) p.0 (g p.1)
element-neat an.FigureCaption attributes bs g h =
    let p = and_parts (has_neat_attributes an.FigureCaption attributes) (is_ordered bs) h in
    and_from (has_neat_attributes an.FigureCaption attributes) (title_keeps bs) p.0 (g p.1)
element-neat an.Caption attributes bs g h =
    let p = and_parts (has_neat_attributes an.Caption attributes) (is_ordered bs) h in
    and_from (has_neat_attributes an.Caption attributes) (title_keeps bs) p.0 (g p.1)
element-neat name attributes bs g h = h

-- ---- documents

module _ (rich : Bool) where
  mutual
    block-neat : (in_item : Bool) (b : Block) → is_normal_block in_item b ≡ true → is_block_of made b ≡ true
        → stand_inside b ≡ true → TellsBlock rich b → is_block_of read b ≡ true
    block-neat in_item (paragraph content) n o s t = o
    block-neat in_item (heading level content) n o s t = o
    block-neat in_item (code_block language code) n o s t = o
    block-neat in_item (quote bs) n o s t =
        blocks-neat false false bs (and_parts (is_filled bs) (are_normal_blocks false bs) n).1 o s
        (tells-quote rich bs t)
    block-neat in_item thematic_break n o s t = o
    block-neat in_item (list start is_tight items) n o s t =
        let p = and_parts (is_right_list is_tight items) (are_items_of made items) o in
        and_from (is_right_list is_tight items) (are_items_of read items) p.0
        (items-neat items (and_parts (is_normal_list start is_tight (flat_items items)) (are_normal_items items) n).1
        p.1 s (tells-list rich start is_tight items t))
    block-neat in_item (table alignments header rows) n o s t = o
    block-neat in_item (element name attributes bs) n o s t =
        let p = and_parts (is_ordered_element name attributes bs) (are_blocks_of made bs) o in
        let m = (and_parts (is_normal_element name attributes bs) (are_normal_blocks false bs) n).1 in
        let u = tells-element rich name attributes bs t in
        let inner = blocks-neat false false bs m p.1 s u.0 in
        and_from (is_neat_element name attributes bs) (are_blocks_of read bs)
        (element-neat name attributes bs (title-neat bs m inner s u.1) p.0) inner
    block-neat in_item (tags code) n o s t = o

    pub blocks-neat : (in_item is_end : Bool) (bs : Blocks) → are_normal_blocks in_item bs ≡ true
        → are_blocks_of made bs ≡ true → all_stand is_end bs ≡ true → Tells rich bs
        → are_blocks_of read bs ≡ true
    blocks-neat in_item is_end no_blocks n o s t = refl
    blocks-neat in_item is_end (block b bs) n o s t =
        let m = and_parts (is_normal_block in_item b) (are_normal_blocks false bs) n in
        let p = and_parts (is_block_of made b) (are_blocks_of made bs) o in
        let alone : Bool = not (is_alone b) || stand_alone is_end bs in
        let q = and_parts (stand_inside b && alone) (all_stand is_end bs) s in
        let u = tells-parts rich b bs t in
        and_from (is_block_of read b) (are_blocks_of read bs)
        (block-neat in_item b m.0 p.0 (and_parts (stand_inside b) alone q.0).0 u.0)
        (blocks-neat false is_end bs m.1 p.1 q.1 u.1)

    items-neat : (items : Items) → are_normal_items items ≡ true → are_items_of made items ≡ true
        → items_stand_well items ≡ true → TellsItems rich items → are_items_of read items ≡ true
    items-neat no_items n o s t = refl
    items-neat (item bs rest) n o s t =
        let m = and_parts (are_normal_blocks true bs) (are_normal_items rest) n in
        let p = and_parts (are_blocks_of made bs) (are_items_of made rest) o in
        let q = and_parts (all_stand false bs) (items_stand_well rest) s in
        let u = tells-items rich bs rest t in
        and_from (are_blocks_of read bs) (are_items_of read rest) (blocks-neat true false bs m.0 p.0 q.0 u.0)
        (items-neat rest m.1 p.1 q.1 u.1)
