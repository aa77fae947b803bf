-- How items are counted and numbered.
use Rattle.std.proofs.Common.{◌≡◌, ℕ, suc, ◌+◌, ◌<◌, ◌≤◌, List, [], ◌∷◌, ◌++◌, length, get_or, take, map, ap, ◌∙◌}
use Rattle.std.proofs.Common.{arith}
use Rattle.std.proofs.lemmas.List.{map_more, length-map, length-take-le}
use Rattle.htmd_markdown.specs.ListItems.{numbered_item}
use Rattle.htmd_markdown.specs.Lists.{Block, item, other, item_count, numbered_blocks}

pub item_count-append : (xs ys : List Block) → item_count (xs ++ ys) ≡ item_count xs + item_count ys
item_count-append [] ys = omega arith
item_count-append (item content ∷ xs) ys = omega (arith, item_count-append xs ys)
item_count-append (other text ∷ xs) ys = item_count-append xs ys

item_count-le : (xs : List Block) → item_count xs ≤ length xs
item_count-le [] = omega arith
item_count-le (item content ∷ xs) = omega (arith, item_count-le xs)
item_count-le (other text ∷ xs) = omega (arith, item_count-le xs)

-- at most as many items as children
pub items_in : {X : Type 0} (block_of : X → Block) (xs : List X) → item_count (map block_of xs) ≤ length xs
items_in block_of xs = omega (arith, item_count-le (map block_of xs), length-map xs block_of)

pub items_before : {X : Type 0} (block_of : X → Block) (xs : List X) (i : ℕ) → i ≤ length xs
    → item_count (map block_of (take i xs)) ≤ i
items_before block_of xs i le = omega (arith, items_in block_of (take i xs), length-take-le i xs le)

-- one more child
pub counted_more : {X : Type 0} (block_of : X → Block) (xs : List X) (i : ℕ) (d : X) → i < length xs
    → item_count (map block_of (take (i + 1) xs)) ≡ item_count (map block_of (take i xs))
    + item_count (block_of (get_or xs i d) ∷ [])
counted_more block_of xs i d lt = ap item_count (map_more block_of xs i d lt)
    ∙ item_count-append (map block_of (take i xs)) (block_of (get_or xs i d) ∷ [])

pub numbered-append : (spacing highest number : ℕ) (xs ys : List Block)
    → numbered_blocks spacing highest number (xs ++ ys)
    ≡ numbered_blocks spacing highest number xs ++ numbered_blocks spacing highest (number + item_count xs) ys
numbered-append spacing highest number [] ys = ap (λ n. numbered_blocks spacing highest n ys) (omega arith)
numbered-append spacing highest number (item content ∷ xs) ys =
    ap (λ l. numbered_item spacing highest number content ∷ l) (numbered-append spacing highest (suc number) xs ys
    ∙ ap (λ n. numbered_blocks spacing highest (suc number) xs ++ numbered_blocks spacing highest n ys)
    (omega arith))
numbered-append spacing highest number (other text ∷ xs) ys =
    ap (λ l. text ∷ l) (numbered-append spacing highest number xs ys)

-- one more block, at the number that comes next
pub numbered_more : (spacing highest first number : ℕ) (before : List Block) (block : Block) (text : List ℕ)
    → number ≡ first + item_count before → numbered_blocks spacing highest number (block ∷ []) ≡ text ∷ []
    → numbered_blocks spacing highest first (before ++ block ∷ []) ≡ numbered_blocks spacing highest first before
    ++ text ∷ []
numbered_more spacing highest first number before block text next one =
    numbered-append spacing highest first before (block ∷ [])
    ∙ ap (λ l. numbered_blocks spacing highest first before ++ l)
    (rw next at one)
