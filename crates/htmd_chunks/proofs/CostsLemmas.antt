-- What blocks and items cost behind a margin, one after the other.
use Rattle.std.proofs.Common.{◌≡◌, ℕ, zero, suc, ◌+◌, ◌-◌, Bool, false, cond, List, [], ◌∷◌, ◌++◌}
use Rattle.std.proofs.Common.{length, refl, sym, ap, ◌∙◌, arith, add-mul, mul-add, mul_comm, zero-mul, add-zero}
use Rattle.std.specs.Prelude.{replicate}
use Rattle.std.proofs.lemmas.List.Sums.{sum_by-cons, sum_by-append}
use Rattle.htmd_document.specs.Documents.{Block, Blocks, no_blocks, blocks_of, items_of}
use Rattle.htmd_commonmark.specs.declared.options.DocumentOptions.{DocumentOptions}
use Rattle.htmd_chunks.specs.Measures.{block_size, blocks_size, further_size, item_size, items_size, further_items_size}
use Rattle.htmd_chunks.specs.Measures.{gap, block_cost, heads_cost, empties_cost, empty_item_size}
use Rattle.htmd_chunks.specs.Runs.{is_none}
use Rattle.htmd_chunks.specs.Sizes.{nothing, plus, gap_size, quoted_size, indented_size, cost, in_quote, in_item}
use Rattle.htmd_chunks.specs.declared.bounds.ListShape.{ListShape}
use Rattle.htmd_chunks.specs.declared.size.Margin.{Margin}
use Rattle.htmd_chunks.specs.declared.size.Size.{Size}

-- ---- sizes

pub cost-plus : (m : Margin) (a b : Size) → cost m (plus a b) ≡ cost m a + cost m b
cost-plus m a b = omega (arith, add-mul a.full b.full m.full, add-mul a.empty b.empty m.empty)

pub cost-nothing : (m : Margin) → cost m nothing ≡ 0
cost-nothing m = omega (arith, zero-mul m.full, zero-mul m.empty)

pub cost-quoted : (m : Margin) (s : Size) → cost m (quoted_size s) ≡ cost (in_quote m) s
cost-quoted m s =
    omega (arith, add-mul s.full s.empty m.full, mul-add s.full m.full 2, mul-add s.empty m.full 1, zero-mul m.empty)

pub cost-indented : (m : Margin) (width : ℕ) (s : Size)
    → cost m (indented_size width s) ≡ cost (in_item width m) s
cost-indented m width s = omega (arith, mul-add s.full m.full width, mul_comm s.full width)

-- ---- blocks

abbrev pub gap_if : Bool → ℕ → ℕ
gap_if none bytes = cond none 0 bytes

pub heads-append : (o : DocumentOptions) (m : Margin) (t : Bool) (xs ys : List Block)
    → heads_cost o m t (xs ++ ys) ≡ heads_cost o m t xs + heads_cost o m t ys
heads-append o m t xs ys = sum_by-append (λ h. block_cost o m h + gap m t) xs ys

pub heads-cons : (o : DocumentOptions) (m : Margin) (t : Bool) (b : Block) (bs : List Block)
    → heads_cost o m t (b ∷ bs) ≡ (block_cost o m b + gap m t) + heads_cost o m t bs
heads-cons o m t b bs = sum_by-cons (λ h. block_cost o m h + gap m t) b bs

further-cost : (o : DocumentOptions) (m : Margin) (t : Bool) (bs : List Block)
    → cost m (further_size o t (blocks_of bs)) ≡ heads_cost o m t bs
further-cost o m t [] = cost-nothing m
further-cost o m t (b ∷ bs) =
    let rest = further_size o t (blocks_of bs) in
    omega (
      arith,
      cost-plus m (plus (gap_size t) (block_size o b)) rest,
      cost-plus m (gap_size t) (block_size o b),
      further-cost o m t bs,
      heads-cons o m t b bs,
    )

-- with a gap behind
pub blocks-cost : (o : DocumentOptions) (m : Margin) (t : Bool) (bs : List Block)
    → cost m (blocks_size o t (blocks_of bs)) + gap_if (is_none bs) (gap m t) ≡ heads_cost o m t bs
blocks-cost o m t [] = omega (arith, cost-nothing m)
blocks-cost o m t (b ∷ bs) =
    let rest = further_size o t (blocks_of bs) in
    omega (arith, cost-plus m (block_size o b) rest, further-cost o m t bs, heads-cons o m t b bs)

pub none-append : {X : Type 0} (xs ys : List X) → is_none ys ≡ false → is_none (xs ++ ys) ≡ false
none-append [] ys some = some
none-append (x ∷ xs) ys some = refl

-- blocks behind others
pub costs-behind : (o : DocumentOptions) (m : Margin) (t : Bool) (xs ys : List Block) → is_none ys ≡ false
    → cost m (blocks_size o t (blocks_of (xs ++ ys)))
    ≡ (cost m (blocks_size o t (blocks_of xs)) + gap_if (is_none xs) (gap m t)) + cost m
    (blocks_size o t (blocks_of ys))
costs-behind o m t xs ys some =
    omega (
      arith,
      blocks-cost o m t (xs ++ ys),
      ap (λ e. gap_if e (gap m t)) (none-append xs ys some),
      heads-append o m t xs ys,
      blocks-cost o m t xs,
      blocks-cost o m t ys,
      ap (λ e. gap_if e (gap m t)) some,
    )

pub one-cost : (o : DocumentOptions) (m : Margin) (t : Bool) (b : Block)
    → cost m (blocks_size o t (blocks_of (b ∷ []))) ≡ block_cost o m b
one-cost o m t b = omega (arith, cost-plus m (block_size o b) nothing, cost-nothing m)

-- headings and a block behind them
pub unit-cost : (o : DocumentOptions) (m : Margin) (t : Bool) (heads : List Block) (b : Block)
    → cost m (blocks_size o t (blocks_of (heads ++ b ∷ []))) ≡ heads_cost o m t heads + block_cost o m b
unit-cost o m t heads b =
    omega (arith, costs-behind o m t heads (b ∷ []) refl, blocks-cost o m t heads, one-cost o m t b)

-- headings alone
pub heads-alone : (o : DocumentOptions) (m : Margin) (t : Bool) (heads : List Block) → is_none heads ≡ false
    → cost m (blocks_size o t (blocks_of heads)) ≡ heads_cost o m t heads - gap m t
heads-alone o m t heads some =
    omega (arith, blocks-cost o m t heads, ap (λ e. gap_if e (gap m t)) some)

-- ---- items

-- each with a gap behind it, from this place on
abbrev pub items_cost : DocumentOptions → Margin → ListShape → ℕ → List Blocks → ℕ
items_cost o m l k [] = 0
items_cost o m l k (x ∷ xs) = (cost m (item_size o l k x) + gap m l.is_tight) + items_cost o m l (suc k) xs

pub items-append : (o : DocumentOptions) (m : Margin) (l : ListShape) (k : ℕ) (xs ys : List Blocks)
    → items_cost o m l k (xs ++ ys) ≡ items_cost o m l k xs + items_cost o m l (k + length xs) ys
items-append o m l k [] ys = ap (λ n. items_cost o m l n ys) (sym (add-zero k)) ∙ omega arith
items-append o m l k (x ∷ xs) ys =
    let place : suc k + length xs ≡ k + suc (length xs) = omega arith in
    omega (arith, items-append o m l (suc k) xs ys, ap (λ n. items_cost o m l n ys) place)

pub empties-are : (o : DocumentOptions) (m : Margin) (l : ListShape) (k n : ℕ)
    → items_cost o m l k (replicate n no_blocks) ≡ empties_cost m l k n
empties-are o m l k zero = refl
empties-are o m l k (suc n) =
    ap (λ i. (cost m (empty_item_size l k) + gap m l.is_tight) + i) (empties-are o m l (suc k) n)

further-items-cost : (o : DocumentOptions) (m : Margin) (l : ListShape) (k : ℕ) (xs : List Blocks)
    → cost m (further_items_size o l k (items_of xs)) ≡ items_cost o m l k xs
further-items-cost o m l k [] = cost-nothing m
further-items-cost o m l k (x ∷ xs) =
    omega (
      arith,
      cost-plus m (plus (gap_size l.is_tight) (item_size o l k x)) (further_items_size o l (suc k) (items_of xs)),
      cost-plus m (gap_size l.is_tight) (item_size o l k x),
      further-items-cost o m l (suc k) xs,
    )

pub items-are : (o : DocumentOptions) (m : Margin) (l : ListShape) (k : ℕ) (xs : List Blocks)
    → cost m (items_size o l k (items_of xs)) + gap_if (is_none xs) (gap m l.is_tight) ≡ items_cost o m l k xs
items-are o m l k [] = omega (arith, cost-nothing m)
items-are o m l k (x ∷ xs) =
    omega (
      arith,
      cost-plus m (item_size o l k x) (further_items_size o l (suc k) (items_of xs)),
      further-items-cost o m l (suc k) xs,
    )

-- items behind others
pub items-behind : (o : DocumentOptions) (m : Margin) (l : ListShape) (k : ℕ) (xs ys : List Blocks)
    → is_none ys ≡ false
    → cost m (items_size o l k (items_of (xs ++ ys)))
    ≡ (cost m (items_size o l k (items_of xs)) + gap_if (is_none xs) (gap m l.is_tight))
    + cost m (items_size o l (k + length xs) (items_of ys))
items-behind o m l k xs ys some =
    omega (
      arith,
      items-are o m l k (xs ++ ys),
      ap (λ e. gap_if e (gap m l.is_tight)) (none-append xs ys some),
      items-append o m l k xs ys,
      items-are o m l k xs,
      items-are o m l (k + length xs) ys,
      ap (λ e. gap_if e (gap m l.is_tight)) some,
    )
