-- With other addresses elements stand where they did.
use Rattle.std.proofs.Common.{◌≡◌, ℕ, suc, ◌+◌, Bool, ◌&&◌, List, ◌∷◌, refl, ap}
use Rattle.std.specs.Prelude.{if◌then◌else◌, codes}
use Rattle.htmd_grammar.specs.HtmlDocuments.{below_body}
use Rattle.htmd_grammar.specs.Nesting.{Context, parent_name, fits_table, is_row}
use Rattle.htmd_document.specs.Documents.{Block, quote, list, element, Blocks, no_blocks, block, Items, no_items, item}
use Rattle.htmd_document.specs.Tags.{element_name}
use Rattle.htmd_law_rendering.specs.RenderedTrees.{section_name, list_name}
use Rattle.htmd_law_rendering.specs.PlainReadings.{element_is_strict, takes_blocks, place_of}
use Rattle.htmd_law_rendering.specs.PlainReadings.{around_content, block_elements_are_strict}
use Rattle.htmd_law_rendering.specs.PlainReadings.{elements_are_strict, item_elements_are_strict, levels_of_element}
use Rattle.htmd_law_rendering.specs.PlainReadings.{tree_depth, trees_depth, items_depth, elements_fit}
use Rattle.htmd_law_returning.specs.EncodedDocuments.{changed_block, changed, changed_items}

module _ (change : List ℕ → List ℕ) where
  mutual
    block-strict : (c : Context) (b : Block)
        → block_elements_are_strict c (changed_block change b) ≡ block_elements_are_strict c b
    block-strict c (quote bs) = ap (λ e. takes_blocks c && e) (all-strict (codes "blockquote" ∷ c) bs)
    block-strict c (list start is_tight items) =
        ap (λ e. takes_blocks c && e) (items-strict (codes "li" ∷ list_name start ∷ c) items)
    block-strict c (element name attributes bs) =
        let n : List ℕ = element_name name in
        let here : Bool = element_is_strict (place_of n c) n attributes
        && fits_table (parent_name c) (if is_row n then section_name else n) in
        ap (λ e. here && e) (all-strict (around_content n c) bs)
    block-strict c b = refl

    all-strict : (c : Context) (bs : Blocks) → elements_are_strict c (changed change bs) ≡ elements_are_strict c bs
    all-strict c no_blocks = refl
    all-strict c (block b bs) = rw (block-strict c b, all-strict c bs) refl

    items-strict : (c : Context) (items : Items)
        → item_elements_are_strict c (changed_items change items) ≡ item_elements_are_strict c items
    items-strict c no_items = refl
    items-strict c (item bs rest) = rw (all-strict c bs, items-strict c rest) refl

  mutual
    block-depth : (b : Block) → tree_depth (changed_block change b) ≡ tree_depth b
    block-depth (quote bs) = ap suc (all-depth bs)
    block-depth (list start is_tight items) = ap (λ n. suc (suc n)) (items-depth items)
    block-depth (element name attributes bs) = ap (λ n. levels_of_element (element_name name) + n) (all-depth bs)
    block-depth b = refl

    pub all-depth : (bs : Blocks) → trees_depth (changed change bs) ≡ trees_depth bs
    all-depth no_blocks = refl
    all-depth (block b bs) = rw (block-depth b, all-depth bs) refl

    items-depth : (items : Items) → items_depth (changed_items change items) ≡ items_depth items
    items-depth no_items = refl
    items-depth (item bs rest) = rw (all-depth bs, items-depth rest) refl

  pub fit-same : (d : Blocks) → elements_fit (changed change d) ≡ elements_fit d
  fit-same d = rw (all-strict below_body d, all-depth d) refl
