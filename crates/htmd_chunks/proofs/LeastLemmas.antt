-- The least of blocks and of a list, and the empty items that come first.
use Rattle.std.proofs.Common.{◌≡◌, ℕ, zero, suc, ◌+◌, Bool, true, ◌<◌, List, [], ◌∷◌, length, map, refl}
use Rattle.std.proofs.Common.{sym, ap, ◌∙◌, ◌-◌, take, drop, get_or, add-zero, add-one, add_assoc, arith}
use Rattle.std.specs.Prelude.{nat_le, if◌then◌else◌, Result, Ok, Err, IfOk, Vec}
use Rattle.std.specs.declared.alloc.Global.{Global}
use Rattle.std.proofs.Math.Seq.{drop-cons, drop-length}
use Rattle.std.proofs.lemmas.List.{length-map, length-drop, take_all, drop-map, get_or-map}
use Rattle.htmd_document.specs.Documents.{Blocks, no_blocks, block, Items, item, items_of}
use Rattle.htmd_document.specs.Documents as value
use Rattle.htmd_document.specs.DocumentViews.{block_of, blocks_of}
use Rattle.htmd_document.specs.TightItems.{is_filled}
use Rattle.htmd_document.specs.declared.document.Block.{Block}
use Rattle.htmd_commonmark.specs.BlockMarkdown.{item_count}
use Rattle.htmd_commonmark.specs.BlockViews.{all_items_of}
use Rattle.htmd_chunks.specs.Least.{is_heading, empties_before, group_cost, least_among, least_item}
use Rattle.htmd_chunks.specs.Measures.{gap, block_cost, item_width, empty_item_size, empties_cost}
use Rattle.htmd_chunks.specs.Sizes.{cost, in_item}
use Rattle.htmd_chunks.specs.declared.bounds.Bounds.{Bounds}
use Rattle.htmd_chunks.specs.declared.bounds.ListShape.{ListShape}
use Rattle.htmd_chunks.specs.declared.size.Margin.{Margin}

-- the same by another way
pub if_ok : {T E : Type 0} (r : Result T E) (a b : T) → IfOk r (λ x. x ≡ a) → a ≡ b → IfOk r (λ x. x ≡ b)
if_ok (Ok x) a b p e = p ∙ e
if_ok (Err e) a b p f = tt

pub if_ok_as : {T E X : Type 0} (f : T → X) (r : Result T E) (a b : X) → IfOk r (λ x. f x ≡ a) → a ≡ b
    → IfOk r (λ x. f x ≡ b)
if_ok_as f (Ok x) a b p e = p ∙ e
if_ok_as f (Err e) a b p h = tt

abbrev contents : List (Vec Block Global) → List Blocks
contents items = map (λ bs. blocks_of bs.items) items

pub items_counted : (items : List (Vec Block Global)) → item_count (all_items_of items) ≡ length items
items_counted [] = refl
items_counted (v ∷ items) = ap (λ n. suc n) (items_counted items)

-- ---- headings

pub blocks_at : (bs : List Block) (i : ℕ) (b : Block) → i < length bs → b ≡ get_or bs i b
    → blocks_of (drop i bs) ≡ block (block_of b) (blocks_of (drop (i + 1) bs))
blocks_at bs i b within is =
    ap blocks_of (drop-cons bs i b within) ∙ ap (λ x. block (block_of x) (blocks_of (drop (suc i) bs))) (sym is)
    ∙ ap (λ k. block (block_of b) (blocks_of (drop k bs))) (sym (add-one i))

pub some_behind : (bs : List Block) → 0 < length bs → is_filled (blocks_of bs) ≡ true
some_behind [] h = absurd (omega arith)
some_behind (b ∷ bs) h = refl

one_heading : (c : Bounds) (m : Margin) (t : Bool) (heads : ℕ) (b : value.Block) (rest : Blocks)
    → is_heading b ≡ true → is_filled rest ≡ true → least_among c m t heads (block b rest)
    ≡ least_among c m t ((heads + block_cost c.options m b) + gap m t) rest
one_heading c m t heads b rest heading more = rw (heading, more)

pub among_step : (c : Bounds) (m : Margin) (t : Bool) (bs : List Block) (i : ℕ) (b : Block)
    (heads cost whole g next : ℕ)
    → i < length bs → b ≡ get_or bs i b → true ≡ is_heading (block_of b) → (i + 1 ≡ length bs → ⊥)
    → cost ≡ block_cost c.options m (block_of b) → whole ≡ heads + cost → g ≡ gap m t → next ≡ whole + g
    → least_among c m t heads (blocks_of (drop i bs)) ≡ least_among c m t next (blocks_of (drop (i + 1) bs))
among_step c m t bs i b heads cost whole g next within is heading last costs all gaps sum =
    let rest = blocks_of (drop (i + 1) bs) in
    let more : is_filled rest ≡ true = some_behind (drop (i + 1) bs) (omega (arith, length-drop (i + 1) bs)) in
    ap (least_among c m t heads) (blocks_at bs i b within is)
    ∙ one_heading c m t heads (block_of b) rest (sym heading) more
    ∙ ap (λ n. least_among c m t n rest)
    (ap (λ n. (heads + n) + gap m t) (sym costs) ∙ ap (λ n. (heads + cost) + n) (sym gaps)
    ∙ ap (λ n. n + g) (sym all) ∙ sym sum)

-- ---- empty items

pub items_at : (items : List (Vec Block Global)) (i : ℕ) (v : Vec Block Global) → i < length items
    → v ≡ get_or items i v
    → all_items_of (drop i items) ≡ item (blocks_of v.items) (all_items_of (drop (i + 1) items))
items_at items i v within is =
    ap all_items_of (drop-cons items i v within)
    ∙ ap (λ w. item (blocks_of w.items) (all_items_of (drop (suc i) items))) (sym is)
    ∙ ap (λ k. item (blocks_of v.items) (all_items_of (drop k items))) (sym (add-one i))

pub none_filled : (v : Vec Block Global) → length v.items ≡ 0 → blocks_of v.items ≡ no_blocks
none_filled v none = go v.items none where
  go : (bs : List Block) → length bs ≡ 0 → blocks_of bs ≡ no_blocks
  go [] h = refl
  go (b ∷ bs) h = absurd (omega arith)

pub some_filled : (v : Vec Block Global) → 0 < length v.items → is_filled (blocks_of v.items) ≡ true
some_filled v some = go v.items some where
  go : (bs : List Block) → 0 < length bs → is_filled (blocks_of bs) ≡ true
  go [] h = absurd (omega arith)
  go (b ∷ bs) h = refl

pub none_before : (bs : Blocks) (rest : Items) → is_filled bs ≡ true → empties_before (item bs rest) ≡ 0
none_before no_blocks rest full = absurd (cc)
none_before (block b bs) rest full = refl

-- an item that isn't empty, behind empty ones
pub at_filled : (items : List (Vec Block Global)) (i : ℕ) (v : Vec Block Global) → i < length items
    → v ≡ get_or items i v → 0 < length v.items → empties_before (all_items_of (drop i items)) ≡ 0
at_filled items i v within is some =
    ap empties_before (items_at items i v within is)
    ∙ none_before (blocks_of v.items) (all_items_of (drop (i + 1) items)) (some_filled v some)

-- and an empty one
pub at_empty : (items : List (Vec Block Global)) (i : ℕ) (v : Vec Block Global) → i < length items
    → v ≡ get_or items i v → length v.items ≡ 0
    → empties_before (all_items_of (drop i items)) ≡ suc (empties_before (all_items_of (drop (i + 1) items)))
at_empty items i v within is none =
    ap empties_before (items_at items i v within is)
    ∙ ap (λ bs. empties_before (item bs (all_items_of (drop (i + 1) items)))) (none_filled v none)

filled_behind : (bss : List Blocks) (i : ℕ) (d : Blocks) → i ≡ empties_before (items_of bss) → i < length bss
    → is_filled (get_or bss i d) ≡ true
filled_behind [] i d is within = absurd (omega arith)
filled_behind (block b bs ∷ bss) i d is within = ap (λ k. is_filled (get_or (block b bs ∷ bss) k d)) is
filled_behind (no_blocks ∷ bss) zero d is within = absurd (omega arith)
filled_behind (no_blocks ∷ bss) (suc i) d is within = filled_behind bss i d (omega arith) (omega arith)

pub first_filled : (items : List (Vec Block Global)) (i : ℕ) (v : Vec Block Global)
    → i ≡ empties_before (all_items_of items) → i < length items → v ≡ get_or items i v
    → is_filled (blocks_of v.items) ≡ true
first_filled items i v is within here =
    ap (λ w. is_filled (blocks_of w.items)) here
    ∙ sym (ap is_filled
    (get_or-map (λ (bs : Vec Block Global). blocks_of bs.items) items i v (blocks_of v.items) within))
    ∙ filled_behind (contents items) i (blocks_of v.items) is
    (omega (arith, length-map items (λ (bs : Vec Block Global). blocks_of bs.items)))

-- ---- the least of a list

skipped : (c : Bounds) (m : Margin) (l : ListShape) (k heads : ℕ) (bss : List Blocks)
    → least_item c m l k heads (items_of bss)
    ≡ least_item c m l (k + empties_before (items_of bss))
    (heads + empties_cost m l k (empties_before (items_of bss)))
    (items_of (drop (empties_before (items_of bss)) bss))
skipped c m l k heads [] = sym (add-zero heads)
skipped c m l k heads (block b bs ∷ bss) =
    let here : k ≡ k + 0 = omega arith in
    let same : heads ≡ heads + 0 = omega arith in
    ap (λ j. least_item c m l j heads (item (block b bs) (items_of bss))) here
    ∙ ap (λ h. least_item c m l (k + 0) h (item (block b bs) (items_of bss))) same
skipped c m l k heads (no_blocks ∷ bss) =
    let one = cost m (empty_item_size l k) + gap m l.is_tight in
    let e = empties_before (items_of bss) in
    let later : suc k + e ≡ k + suc e = omega arith in
    skipped c m l (suc k) (heads + one) bss
    ∙ ap (λ j. least_item c m l j ((heads + one) + empties_cost m l (suc k) e) (items_of (drop e bss))) later
    ∙ ap (λ h. least_item c m l (k + suc e) h (items_of (drop e bss)))
    (add_assoc heads one (empties_cost m l (suc k) e))

-- all of the item with the empty ones beside it, or the least of it
abbrev pub least_or_all : Bounds → Margin → ListShape → ℕ → ℕ → Blocks → ℕ → ℕ
least_or_all c m l k heads bs whole =
    if nat_le whole c.most then whole
    else heads + least_among c (in_item (item_width c.options l k) m) l.is_tight 0 bs

at_first : (c : Bounds) (m : Margin) (l : ListShape) (k heads : ℕ) (bs : Blocks) (rest : Items)
    → is_filled bs ≡ true
    → least_item c m l k heads (item bs rest)
    ≡ least_or_all c m l k heads bs (group_cost c m l k heads bs (empties_before rest))
at_first c m l k heads no_blocks rest full = absurd (cc)
at_first c m l k heads (block b bs) rest full = refl

pub least_found : (c : Bounds) (m : Margin) (l : ListShape) (items : List (Vec Block Global)) (v : Vec Block Global)
    (place heads whole : ℕ) → place ≡ empties_before (all_items_of items) → place < length items
    → v ≡ get_or items place v → heads ≡ empties_cost m l 0 place
    → whole ≡ group_cost c m l place heads (blocks_of v.items)
    (empties_before (all_items_of (drop (place + 1) items)))
    → least_item c m l 0 0 (all_items_of items) ≡ least_or_all c m l place heads (blocks_of v.items) whole
least_found c m l items v place heads whole first within here before all =
    let rest = all_items_of (drop (place + 1) items) in
    let shape : items_of (drop place (contents items)) ≡ item (blocks_of v.items) rest =
    ap items_of (drop-map (λ (bs : Vec Block Global). blocks_of bs.items) place items)
    ∙ items_at items place v within here in
    let begins : 0 + empties_before (all_items_of items) ≡ place = omega arith in
    let same : empties_cost m l 0 (empties_before (all_items_of items)) ≡ heads =
    ap (empties_cost m l 0) (sym first) ∙ sym before in
    let costs : 0 + empties_cost m l 0 (empties_before (all_items_of items)) ≡ heads = omega (arith, same) in
    skipped c m l 0 0 (contents items)
    ∙ ap (λ k. least_item c m l k (0 + empties_cost m l 0 (empties_before (all_items_of items)))
    (items_of (drop (empties_before (all_items_of items)) (contents items)))) begins
    ∙ ap (λ h. least_item c m l place h (items_of (drop (empties_before (all_items_of items)) (contents items))))
    costs
    ∙ ap (λ k. least_item c m l place heads (items_of (drop k (contents items)))) (sym first)
    ∙ ap (least_item c m l place heads) shape
    ∙ at_first c m l place heads (blocks_of v.items) rest (first_filled items place v first within here)
    ∙ ap (least_or_all c m l place heads (blocks_of v.items)) (sym all)

pub behind_all : {A : Type 0} (xs : List A) (n : ℕ) → take (length xs - n) (drop n xs) ≡ drop n xs
behind_all xs n = take_all (length xs - n) (drop n xs) (omega (arith, length-drop n xs))

-- as the code has it: the item's blocks and the items behind it read from slices
pub least_read : (c : Bounds) (m : Margin) (l : ListShape) (items : List (Vec Block Global)) (v : Vec Block Global)
    (read : List Block) (place heads whole empties : ℕ) → place ≡ empties_before (all_items_of items)
    → place < length items → v ≡ get_or items place v → read ≡ v.items → heads ≡ empties_cost m l 0 place
    → empties ≡ empties_before (all_items_of (take (length items - (place + 1)) (drop (place + 1) items)))
    → whole ≡ group_cost c m l place heads (blocks_of read) empties
    → least_item c m l 0 0 (all_items_of items) ≡ least_or_all c m l place heads (blocks_of v.items) whole
least_read c m l items v read place heads whole empties first within here same before behind all =
    least_found c m l items v place heads whole first within here before
    (all ∙ ap (λ bs. group_cost c m l place heads (blocks_of bs) empties) same
    ∙ ap (group_cost c m l place heads (blocks_of v.items))
    (behind ∙ ap (λ rest. empties_before (all_items_of rest)) (behind_all items (place + 1))))

-- where all items are empty
pub least_none : (c : Bounds) (m : Margin) (l : ListShape) (items : List (Vec Block Global)) (place heads : ℕ)
    → place ≡ empties_before (all_items_of items) → place ≡ length items → heads ≡ empties_cost m l 0 place
    → least_item c m l 0 0 (all_items_of items) ≡ heads
least_none c m l items place heads first all before =
    let n = empties_before (all_items_of items) in
    let past : drop n (contents items) ≡ [] =
    drop-map (λ (bs : Vec Block Global). blocks_of bs.items) n items
    ∙ ap (λ k. contents (drop k items)) (sym first ∙ all) ∙ ap contents (drop-length items) in
    let same : empties_cost m l 0 n ≡ heads = ap (empties_cost m l 0) (sym first) ∙ sym before in
    skipped c m l 0 0 (contents items)
    ∙ ap (λ bss. least_item c m l (0 + n) (0 + empties_cost m l 0 n) (items_of bss)) past
    ∙ omega (arith, same)
