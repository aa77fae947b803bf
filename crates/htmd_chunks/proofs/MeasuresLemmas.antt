-- Sizes of what is still to come.
use Rattle.std.proofs.Common.{◌≡◌, ℕ, zero, suc, ◌+◌, ◌-◌, ◌*◌, ◌<◌, ◌≤◌, Bool, true}
use Rattle.std.proofs.Common.{false, cond, List, [], ◌∷◌, length, drop}
use Rattle.std.proofs.Common.{get_or, refl, sym, ap, ◌∙◌, arith}
use Rattle.std.specs.Prelude.{◌==◌, Option, Vec, Result, Ok, Err, IfOk}
use Rattle.std.specs.declared.alloc.Global.{Global}
use Rattle.std.proofs.lemmas.Bool.Decides.{nat_tests}
use Rattle.std.proofs.lemmas.List.{drop_all, drop_more}
use Rattle.htmd_lexical.specs.CharacterClasses.{is_empty}
use Rattle.htmd_document.specs.Documents.{Block, list, Blocks, block, Items, item}
use Rattle.htmd_document.specs.DocumentViews.{block_of, blocks_of}
use Rattle.htmd_document.specs.NormalDocuments.{depth_of, depth_among, depth_of_items}
use Rattle.htmd_document.proofs.FlatLemmas.{depth-at}
use Rattle.htmd_document.specs.declared.document.Block as source
use Rattle.htmd_commonmark.specs.BlockMarkdown.{item_count}
use Rattle.htmd_commonmark.specs.BlockViews.{all_items_of}
use Rattle.htmd_commonmark.specs.declared.options.DocumentOptions.{DocumentOptions}
use Rattle.htmd_chunks.specs.Measures.{block_size, blocks_size, further_size, item_size, items_size, further_items_size}
use Rattle.htmd_chunks.specs.Measures.{empties_cost, empty_item_size, gap, item_width}
use Rattle.htmd_chunks.specs.Sizes.{nothing, plus, gap_size, indented_size, cost}
use Rattle.htmd_chunks.specs.declared.bounds.ListShape.{ListShape}
use Rattle.htmd_chunks.specs.declared.size.Margin.{Margin}
use Rattle.htmd_chunks.specs.declared.size.Size.{Size}

-- of these blocks, with a gap before them unless they are the first
abbrev pub size_from : Bool → DocumentOptions → Bool → Blocks → Size
size_from is_first options is_tight bs =
    cond is_first (blocks_size options is_tight bs) (further_size options is_tight bs)

-- of these items, from this place on
abbrev pub items_size_from : Bool → DocumentOptions → ListShape → ℕ → Items → Size
items_size_from is_first options l k items =
    cond is_first (items_size options l k items) (further_items_size options l k items)

-- ---- sums

size_is : (a b c d e f : ℕ) → a ≡ d → b ≡ e → c ≡ f
    → ◌≡◌ {A = Size} (record { bytes = a; full = b; empty = c }) (record { bytes = d; full = e; empty = f })
size_is a b c d e f p q r = cc

pub plus-assoc : (a b c : Size) → plus (plus a b) c ≡ plus a (plus b c)
plus-assoc a b c =
    size_is (a.bytes + b.bytes + c.bytes) (a.full + b.full + c.full) (a.empty + b.empty + c.empty)
    (a.bytes + (b.bytes + c.bytes)) (a.full + (b.full + c.full)) (a.empty + (b.empty + c.empty)) (omega arith)
    (omega arith) (omega arith)

pub plus-nothing : (a : Size) → plus a nothing ≡ a
plus-nothing a =
    size_is (a.bytes + 0) (a.full + 0) (a.empty + 0) a.bytes a.full a.empty (omega arith) (omega arith) (omega arith)

pub nothing-plus : (a : Size) → plus nothing a ≡ a
nothing-plus a =
    size_is (0 + a.bytes) (0 + a.full) (0 + a.empty) a.bytes a.full a.empty (omega arith) (omega arith) (omega arith)

-- ---- the loops' steps

-- after the gap, if there is one
pub gap-some : (size next : Size) (is_tight : Bool) (i : ℕ) → 0 < i → next ≡ plus size (gap_size is_tight)
    → next ≡ cond (i == 0) size (plus size (gap_size is_tight))
gap-some size next is_tight i some is = let later : (i == 0) ≡ false = grind (arith, nat_tests) in rw later is

pub gap-none : (size next : Size) (is_tight : Bool) (i : ℕ) → i ≤ 0 → next ≡ size
    → next ≡ cond (i == 0) size (plus size (gap_size is_tight))
gap-none size next is_tight i none is = let first : (i == 0) ≡ true = grind (arith, nat_tests) in rw first is

step : (is_first : Bool) (size at next gap this further : Size) → at ≡ cond is_first size (plus size gap)
    → next ≡ plus at this
    → plus next further ≡ plus size (cond is_first (plus this further) (plus (plus gap this) further))
step true size at next gap this further was is =
    ap (λ s. plus s further) (is ∙ ap (λ s. plus s this) was) ∙ plus-assoc size this further
step false size at next gap this further was is =
    ap (λ s. plus s further) (is ∙ ap (λ s. plus s this) was ∙ plus-assoc size gap this)
    ∙ plus-assoc size (plus gap this) further

pub blocks-step : (options : DocumentOptions) (is_tight : Bool) (size at next : Size) (blocks : List source.Block)
    (i : ℕ) (b : source.Block) → i < length blocks → b ≡ get_or blocks i b
    → at ≡ cond (i == 0) size (plus size (gap_size is_tight)) → next ≡ plus at (block_size options (block_of b))
    → plus next (size_from ((i + 1) == 0) options is_tight (blocks_of (drop (i + 1) blocks)))
    ≡ plus size (size_from (i == 0) options is_tight (blocks_of (drop i blocks)))
blocks-step options is_tight size at next blocks i b within here was is =
    let rest = blocks_of (drop (i + 1) blocks) in
    let later : ((i + 1) == 0) ≡ false = grind (arith, nat_tests) in
    let split : blocks_of (drop i blocks) ≡ block (block_of b) rest =
    ap blocks_of (drop_more blocks i b within) ∙ ap (λ y. block (block_of y) rest) (sym here) in
    ap (λ t. plus next (size_from t options is_tight rest)) later
    ∙ step (i == 0) size at next (gap_size is_tight) (block_size options (block_of b))
    (further_size options is_tight rest) was is
    ∙ ap (λ l. plus size (size_from (i == 0) options is_tight l)) (sym split)

pub blocks-end : (options : DocumentOptions) (is_tight is_first : Bool) (size all : Size) (blocks : List source.Block)
    (i : ℕ) → length blocks ≤ i
    → plus size (size_from is_first options is_tight (blocks_of (drop i blocks))) ≡ all
    → size ≡ all
blocks-end options is_tight true size all blocks i past is =
    sym (plus-nothing size)
    ∙ ap (λ l. plus size (blocks_size options is_tight (blocks_of l))) (sym (drop_all i blocks past)) ∙ is
blocks-end options is_tight false size all blocks i past is =
    sym (plus-nothing size)
    ∙ ap (λ l. plus size (further_size options is_tight (blocks_of l))) (sym (drop_all i blocks past)) ∙ is

pub items-step : (options : DocumentOptions) (l : ListShape) (size at next : Size)
    (items : List (Vec source.Block Global))
    (i : ℕ) (content : Vec source.Block Global) → i < length items → content ≡ get_or items i content
    → at ≡ cond (i == 0) size (plus size (gap_size l.is_tight))
    → next ≡ plus at (item_size options l i (blocks_of content.items))
    → plus next (items_size_from ((i + 1) == 0) options l (i + 1) (all_items_of (drop (i + 1) items)))
    ≡ plus size (items_size_from (i == 0) options l i (all_items_of (drop i items)))
items-step options l size at next items i content within here was is =
    let rest = all_items_of (drop (i + 1) items) in
    let later : ((i + 1) == 0) ≡ false = grind (arith, nat_tests) in
    let place : i + 1 ≡ suc i = omega arith in
    let split : all_items_of (drop i items) ≡ item (blocks_of content.items) rest =
    ap all_items_of (drop_more items i content within)
    ∙ ap (λ (y : Vec source.Block Global). item (blocks_of y.items) rest) (sym here) in
    ap (λ t. plus next (items_size_from t options l (i + 1) rest)) later
    ∙ ap (λ k. plus next (further_items_size options l k rest)) place
    ∙ step (i == 0) size at next (gap_size l.is_tight) (item_size options l i (blocks_of content.items))
    (further_items_size options l (suc i) rest) was is
    ∙ ap (λ t. plus size (items_size_from (i == 0) options l i t)) (sym split)

pub items-end : (options : DocumentOptions) (l : ListShape) (is_first : Bool) (size all : Size)
    (items : List (Vec source.Block Global)) (i : ℕ) → length items ≤ i
    → plus size (items_size_from is_first options l i (all_items_of (drop i items))) ≡ all → size ≡ all
items-end options l true size all items i past is =
    sym (plus-nothing size)
    ∙ ap (λ t. plus size (items_size options l i (all_items_of t))) (sym (drop_all i items past)) ∙ is
items-end options l false size all items i past is =
    sym (plus-nothing size)
    ∙ ap (λ t. plus size (further_items_size options l i (all_items_of t))) (sym (drop_all i items past)) ∙ is

-- ---- empty items

pub empties-step : (m : Margin) (l : ListShape) (place i count : ℕ) → i < count
    → empties_cost m l (place + i) (count - i)
    ≡ (cost m (empty_item_size l (place + i)) + gap m l.is_tight)
    + empties_cost m l (place + (i + 1)) (count - (i + 1))
empties-step m l place i count within =
    let left : count - i ≡ suc (count - (i + 1)) = omega arith in
    let next : suc (place + i) ≡ place + (i + 1) = omega arith in
    ap (empties_cost m l (place + i)) left
    ∙ ap (λ k. (cost m (empty_item_size l (place + i)) + gap m l.is_tight)
    + empties_cost m l k (count - (i + 1))) next

pub empties-end : (m : Margin) (l : ListShape) (k i count : ℕ) → count ≤ i
    → empties_cost m l k (count - i) ≡ 0
empties-end m l k i count past =
    let none : count - i ≡ 0 = omega arith in ap (empties_cost m l k) none

pub empty-test : (s : List ℕ) → (length s == 0) ≡ is_empty s
empty-test [] = refl
empty-test (b ∷ s) = let some : (length (b ∷ s) == 0) ≡ false = grind (arith, nat_tests) in some

-- ---- items and lists

pub item-filled : (options : DocumentOptions) (l : ListShape) (k : ℕ) (content : List source.Block) (width : ℕ)
    (size all : Size) → (length content == 0) ≡ false → width ≡ item_width options l k
    → size ≡ blocks_size options l.is_tight (blocks_of content) → all ≡ indented_size width size
    → all ≡ item_size options l k (blocks_of content)
item-filled options l k [] width size all some at inner is = absurd (cc)
item-filled options l k (b ∷ content) width size all some at inner is =
    is ∙ ap (λ w. indented_size w size) at ∙ ap (indented_size (item_width options l k)) inner

pub counted : (items : List (Vec source.Block Global)) → item_count (all_items_of items) ≡ length items
counted [] = refl
counted (bs ∷ items) = ap (λ n. suc n) (counted items)

pub if-ok : {T E : Type 0} {P Q : T → Type 0} (r : Result T E) → IfOk r P → ((x : T) → P x → Q x) → IfOk r Q
if-ok (Ok x) known more = more x known
if-ok (Err e) known more = known

-- ---- how deep a call goes: a list is above its items, an item or a quote above its blocks

pub block-less : (bs : List source.Block) (i : ℕ) (b : source.Block) (n : ℕ) → i < length bs
    → b ≡ get_or bs i b
    → depth_among (blocks_of bs) * 4 + 1 ≡ n → depth_of (block_of b) * 4 < n
block-less bs i b n within is measure =
    let h : depth_of (block_of b) ≤ depth_among (blocks_of bs) = depth-at block_of bs i b within is in
    omega (arith, h, measure)

pub list-less : (items ys : List (Vec source.Block Global)) (b : Block) (start : Option ℕ) (is_tight : Bool) (n : ℕ)
    → b ≡ list start is_tight (all_items_of ys) → items ≡ ys → depth_of b * 4 ≡ n
    → depth_of_items (all_items_of items) * 4 + 3 < n
list-less items ys b start is_tight n shape is measure =
    let h : depth_of b ≡ suc (depth_of_items (all_items_of items)) =
    ap depth_of shape ∙ ap (λ zs. suc (depth_of_items (all_items_of zs))) (sym is) in
    omega (arith, h, measure)

depth-in : (items : List (Vec source.Block Global)) (i : ℕ) (content : Vec source.Block Global) → i < length items
    → content ≡ get_or items i content
    → depth_among (blocks_of content.items) ≤ depth_of_items (all_items_of items)
depth-in [] i content within is = absurd (omega arith)
depth-in (first ∷ items) zero content within is =
    let same : depth_among (blocks_of content.items) ≡ depth_among (blocks_of first.items) =
    ap (λ (v : Vec source.Block Global). depth_among (blocks_of v.items)) is in
    omega (arith, same)
depth-in (first ∷ items) (suc i) content within is =
    let later = depth-in items i content (omega arith) is in omega (arith, later)

pub item-less : (items : List (Vec source.Block Global)) (i : ℕ) (content : Vec source.Block Global)
    (blocks : List source.Block) (n : ℕ) → i < length items → content ≡ get_or items i content
    → blocks ≡ content.items → depth_of_items (all_items_of items) * 4 + 3 ≡ n
    → depth_among (blocks_of blocks) * 4 + 2 < n
item-less items i content blocks n within is of_item measure =
    let h = depth-in items i content within is in
    let k : depth_among (blocks_of blocks) ≡ depth_among (blocks_of content.items) =
    ap (λ l. depth_among (blocks_of l)) of_item in
    omega (arith, h, k, measure)
