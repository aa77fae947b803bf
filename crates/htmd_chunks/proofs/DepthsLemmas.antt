-- What stands in blocks and items is less deep.
use Rattle.std.proofs.Common.{◌≡◌, ℕ, zero, suc, ◌+◌, ◌*◌, ◌<◌, ◌≤◌, Bool, List, [], ◌∷◌, length, ap, get_or}
use Rattle.std.proofs.Common.{arith}
use Rattle.std.specs.Prelude.{Option, Vec}
use Rattle.std.specs.declared.alloc.Global.{Global}
use Rattle.htmd_document.specs.Documents as value
use Rattle.htmd_document.specs.DocumentViews.{block_of, blocks_of}
use Rattle.htmd_document.specs.NormalDocuments.{depth_of, depth_among, depth_of_items}
use Rattle.htmd_document.specs.declared.document.Block.{Block}
use Rattle.htmd_commonmark.specs.BlockViews.{all_items_of}

pub depth-at : (bs : List Block) (i : ℕ) (b : Block) → i < length bs → b ≡ get_or bs i b
    → depth_of (block_of b) ≤ depth_among (blocks_of bs)
depth-at [] i b within is = absurd (omega arith)
depth-at (c ∷ bs) zero b within is =
    let same : depth_of (block_of b) ≡ depth_of (block_of c) = ap (λ x. depth_of (block_of x)) is in
    omega (arith, same)
depth-at (c ∷ bs) (suc i) b within is =
    let later : depth_of (block_of b) ≤ depth_among (blocks_of bs) = depth-at bs i b (omega arith) is in
    omega (arith, later)

pub depth-in : (items : List (Vec Block Global)) (i : ℕ) (v : Vec Block Global) → i < length items
    → v ≡ get_or items i v → depth_among (blocks_of v.items) ≤ depth_of_items (all_items_of items)
depth-in [] i v within is = absurd (omega arith)
depth-in (w ∷ items) zero v within is =
    let same : depth_among (blocks_of v.items) ≡ depth_among (blocks_of w.items) =
    ap (λ u. depth_among (blocks_of u.items)) is in
    omega (arith, same)
depth-in (w ∷ items) (suc i) v within is =
    let later : depth_among (blocks_of v.items) ≤ depth_of_items (all_items_of items) =
    depth-in items i v (omega arith) is in
    omega (arith, later)

pub quote-less : (content read : List Block) (b : value.Block) → b ≡ value.quote (blocks_of content)
    → read ≡ content
    → depth_among (blocks_of read) < depth_of b
quote-less content read b shape same =
    let here : depth_among (blocks_of read) ≡ depth_among (blocks_of content) =
    ap (λ l. depth_among (blocks_of l)) same in
    let above : depth_of b ≡ suc (depth_among (blocks_of content)) = ap depth_of shape in
    omega (arith, here, above)

pub list-less : (items read : List (Vec Block Global)) (b : value.Block) (start : Option ℕ) (is_tight : Bool)
    → b ≡ value.list start is_tight (all_items_of items) → read ≡ items
    → depth_of_items (all_items_of read) < depth_of b
list-less items read b start is_tight shape same =
    let here : depth_of_items (all_items_of read) ≡ depth_of_items (all_items_of items) =
    ap (λ l. depth_of_items (all_items_of l)) same in
    let above : depth_of b ≡ suc (depth_of_items (all_items_of items)) = ap depth_of shape in
    omega (arith, here, above)

-- ---- how deep a call goes: a list is above its items, an item or a quote above its blocks

pub items_below : (n k t : ℕ) → n < k → k * 3 ≡ t → n * 3 + 2 < t
items_below n k t less measure = omega arith

pub blocks_below : (n k t : ℕ) → n ≤ k → k * 3 + 2 ≡ t → n * 3 + 1 < t
blocks_below n k t less measure = omega arith

pub block_below : (n k t : ℕ) → n ≤ k → k * 3 + 1 ≡ t → n * 3 < t
block_below n k t less measure = omega arith

pub cut_items_below : (n k t : ℕ) → n < k → k * 6 ≡ t → n * 6 + 5 < t
cut_items_below n k t less measure = omega arith
