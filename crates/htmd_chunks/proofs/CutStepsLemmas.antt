-- One more block, and one more item: what is filled so far, with what is to come.
use Rattle.std.proofs.Common.{◌≡◌, ℕ, suc, ◌+◌, ◌-◌, Bool, true, false, ◌<◌, ◌≤◌, List, [], ◌∷◌, ◌++◌, length, map}
use Rattle.std.proofs.Common.{refl}
use Rattle.std.proofs.Common.{sym, ap, ◌∙◌, add-zero, add-one, arith}
use Rattle.std.specs.Prelude.{nat_le, Option, Some, None, Vec, replicate}
use Rattle.std.specs.declared.alloc.Global.{Global}
use Rattle.std.proofs.lemmas.List.{length-map}
use Rattle.htmd_document.specs.Documents.{Block, Blocks, no_blocks, block, Items, no_items, item, items_of}
use Rattle.htmd_document.specs.DocumentViews.{block_of, blocks_of}
use Rattle.htmd_document.specs.NormalDocuments.{depth_among, has_filled_item}
use Rattle.htmd_document.specs.TightItems.{is_filled}
use Rattle.htmd_document.specs.declared.document.Block as code
use Rattle.htmd_commonmark.specs.BlockViews.{all_items_of}
use Rattle.htmd_chunks.specs.Cuts.{cost_of_last_blocks, with_unit, with_group, cut, filled, items_filled, split}
use Rattle.htmd_chunks.specs.Fillings.{Part, Filling, ListFilling, with_whole, list_gap_in, list_with_room}
use Rattle.htmd_chunks.specs.Fillings.{with_item_parts, with_empty_items}
use Rattle.htmd_chunks.specs.Least.{is_heading, empties_before, group_cost, least_among}
use Rattle.htmd_chunks.specs.Measures.{gap, heads_cost, empties_cost, item_width}
use Rattle.htmd_chunks.specs.Runs.{is_none}
use Rattle.htmd_chunks.specs.Sizes.{in_item}
use Rattle.htmd_chunks.specs.declared.bounds.Bounds.{Bounds}
use Rattle.htmd_chunks.specs.declared.bounds.ListShape.{ListShape}
use Rattle.htmd_chunks.specs.declared.cut_list.Group.{Group}
use Rattle.htmd_chunks.specs.declared.size.Margin.{Margin}

-- ---- blocks

pub heading_step : (c : Bounds) (m : Margin) (t : Bool) (f : Filling) (heads : List Block) (b : Block) (rest : Blocks)
    → true ≡ is_heading b → filled c m t f heads (block b rest) ≡ filled c m t f (heads ++ b ∷ []) rest
heading_step c m t f heads b rest heading = rw (sym heading)

pub other_step : (c : Bounds) (m : Margin) (t : Bool) (f : Filling) (heads : List Block) (b : Block) (rest : Blocks)
    (between bytes : ℕ) → false ≡ is_heading b → between ≡ gap m t
    → bytes ≡ heads_cost c.options m t heads
    → filled c m t f heads (block b rest)
    ≡ filled c m t (with_unit c m between f heads bytes b (λ room. cut c m room b)) [] rest
other_step c m t f heads b rest between bytes other gaps taken = rw (sym other, gaps, taken)

pub some_heads : (heads : List code.Block) → 0 < length heads → is_none (map block_of heads) ≡ false
some_heads [] some = absurd (omega arith)
some_heads (h ∷ heads) some = refl

pub none_heads : (heads : List code.Block) → length heads ≡ 0 → is_none (map block_of heads) ≡ true
none_heads [] none = refl
none_heads (h ∷ heads) none = absurd (omega arith)

-- the headings at the end
pub blocks_end : (c : Bounds) (m : Margin) (t : Bool) (f next : Filling) (heads : List Block)
    (most between bytes : ℕ) → is_none heads ≡ false → most ≡ c.most → between ≡ gap m t
    → bytes ≡ heads_cost c.options m t heads - between → next ≡ with_whole most between f heads bytes
    → filled c m t f heads no_blocks ≡ next
blocks_end c m t f next heads most between bytes some mosts gaps taken put =
    let put_so = rw (taken, gaps, mosts) at put in rw some (sym put_so)

pub no_heads : (c : Bounds) (m : Margin) (t : Bool) (f : Filling) (heads : List Block) → is_none heads ≡ true
    → filled c m t f heads no_blocks ≡ f
no_heads c m t f heads none = rw none

-- ---- items

-- an item that is cut
pub group_cut : (c : Bounds) (m : Margin) (l list : ListShape) (f g new : ListFilling) (k before : ℕ)
    (content : Blocks)
    (after from heads whole least room last tail most between : ℕ) (within : Margin) (cut_off : List Part)
    → from ≡ k - before → heads ≡ empties_cost m l from before
    → whole ≡ group_cost c m l k heads content after
    → nat_le whole c.most ≡ false → within ≡ in_item (item_width c.options l k) m
    → least ≡ least_among c within l.is_tight 0 content → most ≡ c.most → between ≡ gap m l.is_tight
    → list ≡ l
    → g ≡ list_with_room most between list f from (heads + least)
    → room ≡ g.free - (g.used + list_gap_in between g + heads)
    → cut_off ≡ split c within l.is_tight room content → last ≡ cost_of_last_blocks c within l.is_tight cut_off
    → tail ≡ empties_cost m l (suc k) after
    → new ≡ with_empty_items (with_item_parts most between list
    (record g { now = g.now ++ replicate before no_blocks })
    k cut_off heads last) after tail
    → new ≡ with_group c m l f k before content after
    (λ r. split c (in_item (item_width c.options l k) m) l.is_tight r content)
group_cut c m l list f g new k before content after from heads whole least room last tail most between within cut_off
    froms headss wholes over withins leasts mosts gaps lists gs rooms cuts lasts tails put =
    let put_so = rw (tails, lasts, cuts, rooms, gs, leasts, withins, headss, froms, mosts, gaps, lists) at put in
    let over_so = rw (wholes, headss, froms) at over in
    rw over_so put_so

-- the item with so many empty ones behind it
abbrev pub grouped : Bounds → Margin → ListShape → ListFilling → Group → ℕ → ListFilling
grouped c m l f g after =
    with_group c m l f g.place g.before (blocks_of g.item.items) after
    (λ room. split c (in_item (item_width c.options l g.place) m) l.is_tight room (blocks_of g.item.items))

-- with an item that waits, and with those to come, from this place on
abbrev pub all_filled : Bounds → Margin → ListShape → ListFilling → ℕ → ℕ → ℕ → Option Group
    → Items → ListFilling
all_filled c m l f k before after None rest = items_filled c m l f k before rest
all_filled c m l f k before after (Some g) rest =
    items_filled c m l (grouped c m l f g (after + empties_before rest)) k 0 rest

-- where it waits, and how deep it is
abbrev pub Waits : ℕ → ℕ → ℕ → ℕ → Option Group → Items → Type 0
Waits deepest k before after None rest = before ≡ k + empties_before rest
Waits deepest k before after (Some g) rest =
    (before ≡ 0) × (g.place + after + 1 ≡ k) × (g.before ≤ g.place)
    × (depth_among (blocks_of g.item.items) ≤ deepest)

pub empty_step : (c : Bounds) (m : Margin) (l : ListShape) (f : ListFilling) (k before after : ℕ)
    (last : Option Group)
    (rest : Items) → all_filled c m l f k before after last (item no_blocks rest)
    ≡ all_filled c m l f (k + 1) before (after + 1) last rest
empty_step c m l f k before after None rest = ap (λ n. items_filled c m l f n before rest) (sym (add-one k))
empty_step c m l f k before after (Some g) rest =
    let more : after + suc (empties_before rest) ≡ (after + 1) + empties_before rest = omega arith in
    ap (λ n. items_filled c m l (grouped c m l f g n) (suc k) 0 rest) more
    ∙ ap (λ n. items_filled c m l (grouped c m l f g ((after + 1) + empties_before rest)) n 0 rest) (sym (add-one k))

pub empty_waits : (deepest k before after : ℕ) (last : Option Group) (rest : Items)
    → Waits deepest k before after last (item no_blocks rest) → Waits deepest (k + 1) before (after + 1) last rest
empty_waits deepest k before after None rest w = omega (arith, w)
empty_waits deepest k before after (Some g) rest w =
    let at : g.place + after + 1 ≡ k = w.1 in
    let later : g.place + (after + 1) + 1 ≡ k + 1 = omega (arith, at) in
    (w.0, later, w.2, w.3)

filled_before : (bs : Blocks) (rest : Items) → is_filled bs ≡ true → empties_before (item bs rest) ≡ 0
filled_before no_blocks rest full = absurd (cc)
filled_before (block b bs) rest full = refl

filled_step : (c : Bounds) (m : Margin) (l : ListShape) (f : ListFilling) (k before : ℕ) (bs : Blocks) (rest : Items)
    → is_filled bs ≡ true → items_filled c m l f k before (item bs rest)
    ≡ items_filled c m l (with_group c m l f k before bs (empties_before rest)
    (λ room. split c (in_item (item_width c.options l k) m) l.is_tight room bs)) (suc k) 0 rest
filled_step c m l f k before no_blocks rest full = absurd (cc)
filled_step c m l f k before (block b bs) rest full = refl

-- ---- an item that isn't empty waits in place of the last one

pub first_step : (c : Bounds) (m : Margin) (l : ListShape) (f : ListFilling) (k before after : ℕ) (g : Group)
    (rest : Items) → is_filled (blocks_of g.item.items) ≡ true → g.place ≡ k → g.before ≡ before
    → all_filled c m l f k before after None (item (blocks_of g.item.items) rest)
    ≡ all_filled c m l f (k + 1) 0 0 (Some g) rest
first_step c m l f k before after g rest full here empties =
    let none : empties_before rest ≡ 0 + empties_before rest = omega arith in
    ap (λ n. items_filled c m l f n before (item (blocks_of g.item.items) rest)) (sym here)
    ∙ ap (λ n. items_filled c m l f g.place n (item (blocks_of g.item.items) rest)) (sym empties)
    ∙ filled_step c m l f g.place g.before (blocks_of g.item.items) rest full
    ∙ ap (λ n. items_filled c m l (grouped c m l f g n) (suc g.place) 0 rest) none
    ∙ ap (λ n. items_filled c m l (grouped c m l f g (0 + empties_before rest)) n 0 rest)
    (ap (λ n. suc n) here ∙ sym (add-one k))

pub next_step : (c : Bounds) (m : Margin) (l : ListShape) (f next : ListFilling) (k before after : ℕ) (old g : Group)
    (rest : Items) → is_filled (blocks_of g.item.items) ≡ true → g.place ≡ k → g.before ≡ 0
    → next ≡ grouped c m l f old after
    → all_filled c m l f k before after (Some old) (item (blocks_of g.item.items) rest)
    ≡ all_filled c m l next (k + 1) 0 0 (Some g) rest
next_step c m l f next k before after old g rest full here empties put =
    let content = blocks_of g.item.items in
    let alone : after + empties_before (item content rest) ≡ after =
    let none = filled_before content rest full in omega (arith, none) in
    ap (λ n. items_filled c m l (grouped c m l f old n) k 0 (item content rest)) alone
    ∙ ap (λ h. items_filled c m l h k 0 (item content rest)) (sym put)
    ∙ first_step c m l next k 0 after g rest full here empties

pub first_waits : (deepest k before after : ℕ) (g : Group) (rest : Items)
    → is_filled (blocks_of g.item.items) ≡ true
    → g.place ≡ k → g.before ≡ before → depth_among (blocks_of g.item.items) ≤ deepest
    → Waits deepest k before after None (item (blocks_of g.item.items) rest)
    → Waits deepest (k + 1) 0 0 (Some g) rest
first_waits deepest k before after g rest full here empties depth w =
    let none = filled_before (blocks_of g.item.items) rest full in
    let at : g.place + 0 + 1 ≡ k + 1 = omega (arith, here) in
    let fits : g.before ≤ g.place = omega (arith, here, empties, w, none) in
    (refl, at, fits, depth)

pub next_waits : (deepest k : ℕ) (g : Group) (rest : Items) → g.place ≡ k → g.before ≡ 0
    → depth_among (blocks_of g.item.items) ≤ deepest → Waits deepest (k + 1) 0 0 (Some g) rest
next_waits deepest k g rest here empties depth =
    let at : g.place + 0 + 1 ≡ k + 1 = omega (arith, here) in
    let fits : g.before ≤ g.place = omega (arith, here, empties) in
    (refl, at, fits, depth)

-- all of it, and what waits
abbrev pub Going : Bounds → Margin → ListShape → ListFilling → ℕ → ListFilling → ℕ → ℕ → ℕ
    → Option Group → Items
    → Type 0
Going c m l whole deepest f k before after last rest =
    (whole ≡ all_filled c m l f k before after last rest) × Waits deepest k before after last rest

pub goes_empty : (c : Bounds) (m : Margin) (l : ListShape) (whole : ListFilling) (deepest : ℕ) (f : ListFilling)
    (k before after : ℕ) (last : Option Group) (rest : Items)
    → Going c m l whole deepest f k before after last (item no_blocks rest)
    → Going c m l whole deepest f (k + 1) before (after + 1) last rest
goes_empty c m l whole deepest f k before after last rest h = (
  h.0 ∙ empty_step c m l f k before after last rest,
  empty_waits deepest k before after last rest h.1,
)

-- the last one is put behind, if there is one
abbrev pub Put : Bounds → Margin → ListShape → ListFilling → ℕ → ListFilling → Option Group → Type 0
Put c m l f after next None = next ≡ f
Put c m l f after next (Some g) = next ≡ grouped c m l f g after

pub goes_filled : (c : Bounds) (m : Margin) (l : ListShape) (whole : ListFilling) (deepest : ℕ) (f next : ListFilling)
    (k before after : ℕ) (last : Option Group) (g : Group) (rest : Items)
    → is_filled (blocks_of g.item.items) ≡ true
    → g.place ≡ k → g.before ≡ before → depth_among (blocks_of g.item.items) ≤ deepest
    → Put c m l f after next last
    → Going c m l whole deepest f k before after last (item (blocks_of g.item.items) rest)
    → Going c m l whole deepest next (k + 1) 0 0 (Some g) rest
goes_filled c m l whole deepest f next k before after None g rest full here empties depth put h = (
  h.0 ∙ first_step c m l f k before after g rest full here empties
      ∙ ap (λ n. all_filled c m l n (k + 1) 0 0 (Some g) rest) (sym put),
  first_waits deepest k before after g rest full here empties depth h.1,
)
goes_filled c m l whole deepest f next k before after (Some old) g rest full here empties depth put h =
    let none : before ≡ 0 = h.1.0 in (
      h.0 ∙ next_step c m l f next k before after old g rest full here (empties ∙ none) put,
      next_waits deepest k g rest here (empties ∙ none) depth,
    )

pub same_going : (c : Bounds) (m : Margin) (l : ListShape) (whole : ListFilling) (deepest : ℕ) (f f2 : ListFilling)
    (k k2 before before2 after after2 : ℕ) (last last2 : Option Group) (rest : Items) → f2 ≡ f → k2 ≡ k
    → before2 ≡ before → after2 ≡ after → last2 ≡ last
    → Going c m l whole deepest f k before after last rest
    → Going c m l whole deepest f2 k2 before2 after2 last2 rest
same_going c m l whole deepest f f2 k k2 before before2 after after2 last last2 rest fs ks befores afters lasts h =
    rw (fs, ks, befores, afters, lasts) h

pub goes_end : (c : Bounds) (m : Margin) (l : ListShape) (whole : ListFilling) (deepest : ℕ) (f next : ListFilling)
    (k before after : ℕ) (last : Option Group) → Put c m l f after next last
    → Going c m l whole deepest f k before after last no_items → whole ≡ next
goes_end c m l whole deepest f next k before after None put h = h.0 ∙ sym put
goes_end c m l whole deepest f next k before after (Some g) put h =
    h.0 ∙ ap (λ n. grouped c m l f g n) (add-zero after) ∙ sym put

pub none_of : {A : Type 0} (o : Option A) → ((x : A) → o ≡ Some x → ⊥) → o ≡ None
none_of None h = refl
none_of (Some x) h = absurd (h x refl)

-- ---- lists of empty items alone

pub all_empty : (items : List (Vec code.Block Global)) → empties_before (all_items_of items) ≡ length items
    → has_filled_item (all_items_of items) ≡ false
all_empty items all =
    go (map (λ bs. blocks_of bs.items) items) (all ∙ sym (length-map items (λ bs. blocks_of bs.items))) where
      go : (bss : List Blocks) → empties_before (items_of bss) ≡ length bss
          → has_filled_item (items_of bss) ≡ false
      go [] all = refl
      go (no_blocks ∷ bss) all = go bss (omega arith)
      go (block b bs ∷ bss) all = absurd (omega arith)

pub some_filled_item : (items : List (Vec code.Block Global))
    → (empties_before (all_items_of items) ≡ length items → ⊥) → has_filled_item (all_items_of items) ≡ true
some_filled_item items some =
    go (map (λ bs. blocks_of bs.items) items)
    (λ all. some (all ∙ length-map items (λ bs. blocks_of bs.items))) where
      go : (bss : List Blocks) → (empties_before (items_of bss) ≡ length bss → ⊥)
          → has_filled_item (items_of bss) ≡ true
      go [] some = absurd (some refl)
      go (no_blocks ∷ bss) some = go bss (λ all. some (ap (λ n. suc n) all))
      go (block b bs ∷ bss) some = refl
