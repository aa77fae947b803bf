-- Lists of items, one after another.
use Rattle.std.proofs.Common.{◌≡◌, ℕ, ◌+◌, ◌<◌, ◌≤◌, false, not, ◌||◌, ◌&&◌, List, [], ◌∷◌, length, get_or, drop, map}
use Rattle.std.proofs.Common.{refl, sym, ap, ◌∙◌, arith}
use Rattle.std.specs.Prelude.{◌==◌}
use Rattle.std.specs.List.{list_all}
use Rattle.std.proofs.lemmas.List.{drop_more, drop_all}
use Rattle.std.proofs.lemmas.Bool.Decides.{nat_tests}
use Rattle.htmd_document.specs.declared.document.Block.{Block}
use Rattle.htmd_flow.specs.declared.list.ListItem as code
use Rattle.htmd_document.specs.DocumentViews.{block_of, blocks_of}
use Rattle.htmd_flow.specs.ListViews.{item_of}
use Rattle.htmd_flow.specs.Lists.{are_filled, holds_paragraph, is_close}
use Rattle.htmd_document.specs.TightItems.{is_filled, is_paragraph}

-- one element more
pub map_at : {A B : Type 0} (f : A → B) (xs : List A) (i : ℕ) (x : A) → i < length xs → x ≡ get_or xs i x
    → map f (drop i xs) ≡ f x ∷ map f (drop (i + 1) xs)
map_at f xs i x l e = ap (map f) (drop_more xs i x l ∙ ap (λ y. y ∷ drop (i + 1) xs) (sym e))

pub map_end : {A B : Type 0} (f : A → B) (xs : List A) (i : ℕ) → length xs ≤ i → map f (drop i xs) ≡ []
map_end f xs i l = ap (map f) (drop_all i xs l)

pub filled_is : (bs : List Block) → is_filled (blocks_of bs) ≡ not (length bs == 0)
filled_is [] = refl
filled_is (b ∷ bs) = grind (arith, nat_tests)

-- something shows in this item, or it is looked for in the others
pub filled_at : (items : List code.ListItem) (i : ℕ) (x : code.ListItem) → i < length items
    → x ≡ get_or items i x
    → are_filled (map item_of (drop i items))
    ≡ (is_filled (blocks_of x.blocks.items) || are_filled (map item_of (drop (i + 1) items)))
filled_at items i x l e = ap are_filled (map_at item_of items i x l e)

pub paragraph_at : (bs : List Block) (i : ℕ) (b : Block) → i < length bs → b ≡ get_or bs i b
    → holds_paragraph (blocks_of (drop i bs)) ≡ (is_paragraph (block_of b) || holds_paragraph
    (blocks_of (drop (i + 1) bs)))
paragraph_at bs i b l e =
    ap (λ ys. holds_paragraph (blocks_of ys)) (drop_more bs i b l ∙ ap (λ y. y ∷ drop (i + 1) bs) (sym e))

pub paragraph_end : (bs : List Block) (i : ℕ) → length bs ≤ i
    → holds_paragraph (blocks_of (drop i bs)) ≡ false
paragraph_end bs i l = ap (λ ys. holds_paragraph (blocks_of ys)) (drop_all i bs l)

pub close_at : (items : List code.ListItem) (i : ℕ) (x : code.ListItem) → i < length items
    → x ≡ get_or items i x
    → list_all is_close (map item_of (drop i items))
    ≡ (is_close (item_of x) && list_all is_close (map item_of (drop (i + 1) items)))
close_at items i x l e = ap (list_all is_close) (map_at item_of items i x l e)
