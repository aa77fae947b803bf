-- Elements of a page's document, and their parts, stand where they may: as a test, which other addresses leave as it
-- is.
use Rattle.std.proofs.Common.{◌≡◌, ℕ, suc, Bool, true, false, ◌&&◌, ◌||◌, List, refl, ap, inl, inr}
use Rattle.std.proofs.lemmas.Bool.{and_from}
use Rattle.htmd_document.specs.Documents.{Block, quote, list, element, tags, Blocks, no_blocks, block, Items, no_items}
use Rattle.htmd_document.specs.Documents.{item}
use Rattle.htmd_document.specs.declared.document.BlockElement.{BlockElement}
use Rattle.htmd_law_returning.specs.EncodedDocuments.{changed_block, changed, changed_items}
use Rattle.htmd_law_settled.specs.Leaves.{Leaves}
use Rattle.htmd_law_returning.specs.ElementPlaces.{Holder, in_flow, in_details, in_figure, inside, stands_in, is_mixed}
use Rattle.htmd_law_returning.specs.ElementPlaces.{stands_here}
use Rattle.htmd_law_settled.specs.StandingElements.{block_stands, blocks_stand, items_stand}
use Rattle.htmd_law_settled.proofs.LeafLines.{HasBlock, HasPiece, HaveInside, HaveItems}

-- ---- what has a page's leaves

here : (o : Holder) (name : BlockElement) → is_mixed o ≡ true → stands_in in_flow name ≡ true
    → stands_here o name ≡ true
here o name e s = rw (e, s) (or-true (stands_in o name))
  where
    or-true : (b : Bool) → (b || true) ≡ true
    or-true true = refl
    or-true false = refl

module _ (k : Leaves) where
  mutual
    block-placed : (o : Holder) → is_mixed o ≡ true → (n : ℕ) (b : Block) → HasBlock k n b
        → block_stands o b ≡ true
    block-placed o e n (quote content) h =
        and_from (is_mixed o) (blocks_stand in_flow content) e (inside-placed in_flow (suc n) content h)
    block-placed o e n (list start is_tight items) h =
        and_from (is_mixed o) (items_stand items) e (items-placed (suc n) items h.1)
    block-placed o e n (element name attributes content) h =
        and_from (stands_here o name) (blocks_stand (inside name) content) (here o name e h.1)
        (inside-placed (inside name) n content h.3)
    block-placed o e n (tags s) h = absurd h
    block-placed o e n b h = e

    piece-placed : (o : Holder) (n : ℕ) (b : Block) → HasPiece k o n b → block_stands o b ≡ true
    piece-placed o n (element name attributes content) h =
        and_from (stands_here o name) (blocks_stand (inside name) content) (rw h.1 refl)
        (inside-placed (inside name) n content h.3)
    piece-placed o n b h = absurd h

    pub inside-placed : (o : Holder) (n : ℕ) (bs : Blocks) → HaveInside k o n bs → blocks_stand o bs ≡ true
    inside-placed o n no_blocks h = refl
    inside-placed in_flow n (block b bs) h =
        and_from (block_stands in_flow b) (blocks_stand in_flow bs) (block-placed in_flow refl n b h.0)
        (inside-placed in_flow n bs h.1)
    inside-placed in_details n (block b bs) h =
        and_from (block_stands in_details b) (blocks_stand in_details bs)
        (elim h.0 [ inl x ↦ block-placed in_details refl n b x | inr x ↦ piece-placed in_details n b x ])
        (inside-placed in_details n bs h.1)
    inside-placed in_figure n (block b bs) h =
        and_from (block_stands in_figure b) (blocks_stand in_figure bs)
        (elim h.0 [ inl x ↦ block-placed in_figure refl n b x | inr x ↦ piece-placed in_figure n b x ])
        (inside-placed in_figure n bs h.1)
    inside-placed o n (block b bs) h =
        and_from (block_stands o b) (blocks_stand o bs) (piece-placed o n b h.0) (inside-placed o n bs h.1)

    items-placed : (n : ℕ) (items : Items) → HaveItems k n items → items_stand items ≡ true
    items-placed n no_items h = refl
    items-placed n (item bs rest) h =
        and_from (blocks_stand in_flow bs) (items_stand rest) (inside-placed in_flow n bs h.0)
        (items-placed n rest h.1)

-- ---- with other addresses

module _ (change : List ℕ → List ℕ) where
  mutual
    block-same : (o : Holder) (b : Block) → block_stands o (changed_block change b) ≡ block_stands o b
    block-same o (quote content) = ap (λ p. is_mixed o && p) (placed-same in_flow content)
    block-same o (list start is_tight items) = ap (λ p. is_mixed o && p) (items-same items)
    block-same o (element name attributes content) =
        ap (λ p. stands_here o name && p) (placed-same (inside name) content)
    block-same o b = refl

    pub placed-same : (o : Holder) (bs : Blocks) → blocks_stand o (changed change bs) ≡ blocks_stand o bs
    placed-same o no_blocks = refl
    placed-same o (block b bs) = rw (block-same o b, placed-same o bs) refl

    items-same : (items : Items) → items_stand (changed_items change items) ≡ items_stand items
    items-same no_items = refl
    items-same (item bs rest) = rw (placed-same in_flow bs, items-same rest) refl
