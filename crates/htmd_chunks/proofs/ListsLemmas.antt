-- Parts of a list joined: what is put behind stands behind.
use Rattle.std.proofs.Common.{◌≡◌, ℕ, ◌+◌, Bool, true, false, not, cond, List, [], ◌∷◌, ◌++◌, refl, sym, ap}
use Rattle.std.proofs.Common.{◌∙◌, subst, add-zero}
use Rattle.std.specs.Prelude.{◌||◌, nat_le, replicate, Option, Some, None, option_map}
use Rattle.htmd_document.specs.Documents.{Block, list}
use Rattle.htmd_document.specs.Documents.{Blocks, no_blocks, block, blocks_of, Items, no_items, item}
use Rattle.htmd_document.specs.Documents.{items_of}
use Rattle.htmd_document.specs.FlatDocuments.{flat_items}
use Rattle.htmd_document.specs.NormalDocuments.{is_spread, has_right_distance}
use Rattle.htmd_chunks.specs.Fillings.{Part, BlockPart, ListFilling, list_part, list_parts_in, list_flushed}
use Rattle.htmd_chunks.specs.Fillings.{list_gap_in}
use Rattle.htmd_chunks.specs.Fillings.{list_joint, list_with_room, with_further_items}
use Rattle.htmd_chunks.specs.Fillings.{with_item_parts}
use Rattle.htmd_chunks.specs.Fillings.{list_of}
use Rattle.htmd_chunks.specs.Joins.{items_behind, join, join_block, join_items}
use Rattle.htmd_chunks.specs.Least.{empties_before}
use Rattle.htmd_chunks.specs.Runs.{is_none}
use Rattle.htmd_chunks.specs.declared.bounds.ListShape.{ListShape}
use Rattle.htmd_chunks.specs.declared.joint.Joint.{Joint}
use Rattle.htmd_chunks.specs.declared.joint.Joint.TheVariants as joint
use Rattle.htmd_chunks.proofs.FillingsLemmas.{merged, GoOn, no_parts, goes_on, AreParts, parts_of}
use Rattle.htmd_chunks.proofs.JoinsLemmas.{join-none, parts_joined}

-- ---- items

pub items-none : (a : Items) → items_behind a no_items ≡ a
items-none no_items = refl
items-none (item bs rest) = ap (λ l. item bs l) (items-none rest)

pub items-assoc : (a b c : Items) → items_behind (items_behind a b) c ≡ items_behind a (items_behind b c)
items-assoc no_items b c = refl
items-assoc (item bs rest) b c = ap (λ l. item bs l) (items-assoc rest b c)

pub items_of-append : (xs ys : List Blocks) → items_of (xs ++ ys) ≡ items_behind (items_of xs) (items_of ys)
items_of-append [] ys = refl
items_of-append (x ∷ xs) ys = ap (λ l. item x l) (items_of-append xs ys)

-- how items of a part go on: behind those before, or the first as one with the last
pub data Within : List Joint → Type 0 where
  apart : Within []
  as_one : (within : List Joint) → Within (joint.Item ∷ within)

pub join_items-none : (within : List Joint) (b : Items) → Within within → join_items within no_items b ≡ b
join_items-none within b apart = refl
join_items-none within b (as_one rest) = refl

pub join_items-behind : (within : List Joint) (a : Items) (b : Blocks) (bs c : Items) → Within within
    → join_items within a (item b (items_behind bs c)) ≡ items_behind (join_items within a (item b bs)) c
join_items-behind within a b bs c apart = sym (items-assoc a (item b bs) c)
join_items-behind within no_items b bs c (as_one rest) = refl
join_items-behind within (item x no_items) b bs c (as_one rest) = refl
join_items-behind within (item x (item y zs)) b bs c (as_one rest) =
    ap (λ l. item x l) (join_items-behind (joint.Item ∷ rest) (item y zs) b bs c (as_one rest))

pub join_items-last : (within : List Joint) (a : Items) (x y : Blocks)
    → join_items (joint.Item ∷ within) (items_behind a (item x no_items)) (item y no_items)
    ≡ items_behind a (item (join within x y) no_items)
join_items-last within no_items x y = refl
join_items-last within (item b no_items) x y = refl
join_items-last within (item b (item c cs)) x y = ap (λ l. item b l) (join_items-last within (item c cs) x y)

-- ---- parts of a list

abbrev pub within_of : List Joint → List Joint
within_of [] = []
within_of (name ∷ within) = within

abbrev pub items_in : Block → Items
items_in (list start is_tight items) = items
items_in _ = no_items

-- the items of all parts
abbrev pub all_items : Items → List BlockPart → Items
all_items a [] = a
all_items a (p ∷ parts) = all_items (join_items (within_of p.continues) a (items_in p.block)) parts

pub all_items-append : (a : Items) (ps qs : List BlockPart) → all_items a (ps ++ qs) ≡ all_items (all_items a ps) qs
all_items-append a [] qs = refl
all_items-append a (p ∷ ps) qs = all_items-append (join_items (within_of p.continues) a (items_in p.block)) ps qs

abbrev pub items_so_far : ListShape → ListFilling → Items
items_so_far l f = all_items no_items (list_parts_in l f)

pub so_far-is : (l : ListShape) (f : ListFilling)
    → items_so_far l f ≡ join_items (within_of f.continues) (all_items no_items f.done) (items_of f.now)
so_far-is l f = all_items-append no_items f.done (list_part l f ∷ [])

-- nothing stands in a part that goes on only where it begins with an item of its own
pub data IsGoing : List Joint → List Blocks → Type 0 where
  at_start : (now : List Blocks) → IsGoing [] now
  at_item : (name : Joint) (now : List Blocks) → IsGoing (name ∷ []) now
  in_item : (name : Joint) (within : List Joint) (b : Blocks) (bs : List Blocks)
      → IsGoing (name ∷ joint.Item ∷ within) (b ∷ bs)

pub items-grown : (how : List Joint) (a : Items) (now added : List Blocks) → IsGoing how now
    → join_items (within_of how) a (items_of (now ++ added))
    ≡ items_behind (join_items (within_of how) a (items_of now)) (items_of added)
items-grown how a now added (at_start xs) =
    ap (items_behind a) (items_of-append xs added) ∙ sym (items-assoc a (items_of xs) (items_of added))
items-grown how a now added (at_item name xs) =
    ap (items_behind a) (items_of-append xs added) ∙ sym (items-assoc a (items_of xs) (items_of added))
items-grown how a now added (in_item name within b bs) =
    ap (λ i. join_items (joint.Item ∷ within) a (item b i)) (items_of-append bs added)
    ∙ join_items-behind (joint.Item ∷ within) a b (items_of bs) (items_of added) (as_one within)

pub going-grown : (how : List Joint) (now added : List Blocks) → IsGoing how now → IsGoing how (now ++ added)
going-grown how now added (at_start xs) = at_start (xs ++ added)
going-grown how now added (at_item name xs) = at_item name (xs ++ added)
going-grown how now added (in_item name within b bs) = in_item name within b (bs ++ added)

-- items put behind
pub put-items : (l : ListShape) (f g : ListFilling) (added : List Blocks) → IsGoing f.continues f.now
    → g.done ≡ f.done → g.continues ≡ f.continues → g.now ≡ f.now ++ added
    → items_so_far l g ≡ items_behind (items_so_far l f) (items_of added)
put-items l f g added going done continues now =
    so_far-is l g
    ∙ ap (λ how. join_items (within_of how) (all_items no_items g.done) (items_of g.now)) continues
    ∙ ap (λ ps. join_items (within_of f.continues) (all_items no_items ps) (items_of g.now)) done
    ∙ ap (λ is. join_items (within_of f.continues) (all_items no_items f.done) (items_of is)) now
    ∙ items-grown f.continues (all_items no_items f.done) f.now added going
    ∙ ap (λ is. items_behind is (items_of added)) (sym (so_far-is l f))

pub list_flushed-items : (most : ℕ) (l : ListShape) (f : ListFilling) (place : ℕ)
    → items_so_far l (list_flushed most l f place []) ≡ items_so_far l f
list_flushed-items most l f place =
    so_far-is l (list_flushed most l f place []) ∙ items-none (items_so_far l f)

pub list_room-items : (most gap : ℕ) (l : ListShape) (f : ListFilling) (place bytes : ℕ)
    → items_so_far l (list_with_room most gap l f place bytes) ≡ items_so_far l f
list_room-items most gap l f place bytes =
    elim (is_none f.now || nat_le (f.used + list_gap_in gap f + bytes) f.free)
    as (λ b. items_so_far l (cond b f (list_flushed most l f place [])) ≡ items_so_far l f) [
      | true ↦ refl
      | false ↦ list_flushed-items most l f place
    ]

pub list_room-going : (most gap : ℕ) (l : ListShape) (f : ListFilling) (place bytes : ℕ)
    → IsGoing f.continues f.now
    → IsGoing (list_with_room most gap l f place bytes).continues (list_with_room most gap l f place bytes).now
list_room-going most gap l f place bytes going =
    elim (is_none f.now || nat_le (f.used + list_gap_in gap f + bytes) f.free)
    as (λ b. IsGoing (cond b f (list_flushed most l f place [])).continues
    (cond b f (list_flushed most l f place [])).now) [
      | true ↦ going
      | false ↦ at_item (list_joint l) []
    ]

-- ---- parts of an item

pub further-items : (most : ℕ) (l : ListShape) (f : ListFilling) (place : ℕ) (a : Items) (x : Blocks)
    (parts : List Part) → items_so_far l f ≡ items_behind a (item x no_items)
    → items_so_far l (with_further_items most l f place parts)
    ≡ items_behind a (item (parts_joined x parts) no_items)
further-items most l f place a x [] is = is
further-items most l f place a x (p ∷ parts) is =
    let g : ListFilling =
    record (list_flushed most l f place (joint.Item ∷ p.continues)) { now = blocks_of p.blocks ∷ [] } in
    further-items most l g place a (join p.continues x (blocks_of p.blocks)) parts
    (so_far-is l g
    ∙ ap (λ is. join_items (joint.Item ∷ p.continues) is (item (blocks_of p.blocks) no_items)) is
    ∙ join_items-last p.continues a x (blocks_of p.blocks))

pub further-going : (most : ℕ) (l : ListShape) (f : ListFilling) (place : ℕ) (parts : List Part)
    → IsGoing f.continues f.now
    → IsGoing (with_further_items most l f place parts).continues (with_further_items most l f place parts).now
further-going most l f place [] going = going
further-going most l f place (p ∷ parts) going =
    let g : ListFilling =
    record (list_flushed most l f place (joint.Item ∷ p.continues)) { now = blocks_of p.blocks ∷ [] } in
    further-going most l g place parts (in_item (list_joint l) p.continues (blocks_of p.blocks) [])

pub item_parts-items : (most gap : ℕ) (l : ListShape) (f : ListFilling) (place : ℕ) (parts : List Part)
    (heads last : ℕ) (b : Block) (bs : Blocks) → IsGoing f.continues f.now
    → parts_joined no_blocks parts ≡ block b bs
    → items_so_far l (with_item_parts most gap l f place parts heads last)
    ≡ items_behind (items_so_far l f) (item (block b bs) no_items)
item_parts-items most gap l f place [] heads last b bs going is = absurd (cc)
item_parts-items most gap l f place (p ∷ []) heads last b bs going is =
    put-items l f (record f { now = f.now ++ blocks_of p.blocks ∷ [] }) (blocks_of p.blocks ∷ []) going refl refl
    refl
    ∙ ap (λ x. items_behind (items_so_far l f) (item x no_items))
    (sym (join-none p.continues (blocks_of p.blocks)) ∙ is)
item_parts-items most gap l f place (p ∷ q ∷ parts) heads last b bs going is =
    further-items most l (record f { now = f.now ++ blocks_of p.blocks ∷ [] }) place (items_so_far l f)
    (blocks_of p.blocks) (q ∷ parts)
    (put-items l f (record f { now = f.now ++ blocks_of p.blocks ∷ [] }) (blocks_of p.blocks ∷ []) going refl refl
    refl)
    ∙ ap (λ x. items_behind (items_so_far l f) (item x no_items))
    (ap (λ x. parts_joined x (q ∷ parts)) (sym (join-none p.continues (blocks_of p.blocks))) ∙ is)

pub item_parts-going : (most gap : ℕ) (l : ListShape) (f : ListFilling) (place : ℕ) (parts : List Part)
    (heads last : ℕ) → IsGoing f.continues f.now
    → IsGoing (with_item_parts most gap l f place parts heads last).continues
    (with_item_parts most gap l f place parts heads last).now
item_parts-going most gap l f place [] heads last going = going
item_parts-going most gap l f place (p ∷ []) heads last going =
    going-grown f.continues f.now (blocks_of p.blocks ∷ []) going
item_parts-going most gap l f place (p ∷ q ∷ parts) heads last going =
    further-going most l (record f { now = f.now ++ blocks_of p.blocks ∷ [] }) place (q ∷ parts)
    (going-grown f.continues f.now (blocks_of p.blocks ∷ []) going)

-- ---- empty items

abbrev pub empties : ℕ → Items
empties count = items_of (replicate count no_blocks)

-- the items behind the empty ones that stand first
abbrev pub behind_empties : Items → Items
behind_empties no_items = no_items
behind_empties (item no_blocks rest) = behind_empties rest
behind_empties (item (block b bs) rest) = item (block b bs) rest

pub empties-first : (items : Items) → items_behind (empties (empties_before items)) (behind_empties items) ≡ items
empties-first no_items = refl
empties-first (item no_blocks rest) = ap (λ is. item no_blocks is) (empties-first rest)
empties-first (item (block b bs) rest) = refl

pub empties-around : (before after : ℕ) (content : Blocks)
    → items_of (replicate before no_blocks ++ content ∷ replicate after no_blocks)
    ≡ items_behind (empties before) (item content (empties after))
empties-around before after content =
    items_of-append (replicate before no_blocks) (content ∷ replicate after no_blocks)

-- ---- which parts there are

-- parts that go on with a part of the list
pub data GoOnList (l : ListShape) : List BlockPart → Type 0 where
  no_more : GoOnList l []
  one_more : (place : ℕ) (items : List Blocks) (within : List Joint) (rest : List BlockPart) → GoOnList l rest
      → GoOnList l (record { block = list_of l place items; continues = list_joint l ∷ within } ∷ rest)

-- the first begins the list
pub data AreOfList (l : ListShape) : List BlockPart → Type 0 where
  of_list : (items : List Blocks) (rest : List BlockPart) → GoOnList l rest
      → AreOfList l (record { block = list_of l 0 items; continues = [] } ∷ rest)

go_on-behind : (l : ListShape) (place : ℕ) (items : List Blocks) (within : List Joint) (parts : List BlockPart)
    → GoOnList l parts
    → GoOnList l (parts ++ record { block = list_of l place items; continues = list_joint l ∷ within } ∷ [])
go_on-behind l place items within parts no_more = one_more place items within [] no_more
go_on-behind l place items within parts (one_more n is w rest others) =
    one_more n is w (rest ++ record { block = list_of l place items; continues = list_joint l ∷ within } ∷ [])
    (go_on-behind l place items within rest others)

-- what is filled is the first part, or goes on with others
pub data IsPlaced (l : ListShape) : List BlockPart → ℕ → List Joint → Type 0 where
  at_first : IsPlaced l [] 0 []
  later : (done : List BlockPart) (place : ℕ) (within : List Joint) → AreOfList l done
      → IsPlaced l done place (list_joint l ∷ within)

pub placed-parts : (l : ListShape) (done : List BlockPart) (place : ℕ) (how : List Joint) (now : List Blocks)
    → IsPlaced l done place how
    → AreOfList l (done ++ record { block = list_of l place now; continues = how } ∷ [])
placed-parts l done place how now at_first = of_list now [] no_more
placed-parts l done place how now (later ps n within (of_list items rest others)) =
    of_list items (rest ++ record { block = list_of l place now; continues = list_joint l ∷ within } ∷ [])
    (go_on-behind l place now within rest others)

abbrev pub Placed : ListShape → ListFilling → Type 0
Placed l f = IsPlaced l f.done f.first f.continues

pub flushed-placed : (most : ℕ) (l : ListShape) (f : ListFilling) (place : ℕ) (within : List Joint) → Placed l f
    → Placed l (list_flushed most l f place within)
flushed-placed most l f place within placed =
    later (list_parts_in l f) place within (placed-parts l f.done f.first f.continues f.now placed)

pub room-placed : (most gap : ℕ) (l : ListShape) (f : ListFilling) (place bytes : ℕ) → Placed l f
    → Placed l (list_with_room most gap l f place bytes)
room-placed most gap l f place bytes placed =
    elim (is_none f.now || nat_le (f.used + list_gap_in gap f + bytes) f.free)
    as (λ b. Placed l (cond b f (list_flushed most l f place []))) [
      | true ↦ placed
      | false ↦ flushed-placed most l f place [] placed
    ]

pub further-placed : (most : ℕ) (l : ListShape) (f : ListFilling) (place : ℕ) (parts : List Part) → Placed l f
    → Placed l (with_further_items most l f place parts)
further-placed most l f place [] placed = placed
further-placed most l f place (p ∷ parts) placed =
    further-placed most l
    (record (list_flushed most l f place (joint.Item ∷ p.continues)) { now = blocks_of p.blocks ∷ [] }) place parts
    (flushed-placed most l f place (joint.Item ∷ p.continues) placed)

pub item_parts-placed : (most gap : ℕ) (l : ListShape) (f : ListFilling) (place : ℕ) (parts : List Part)
    (heads last : ℕ) → Placed l f → Placed l (with_item_parts most gap l f place parts heads last)
item_parts-placed most gap l f place [] heads last placed = placed
item_parts-placed most gap l f place (p ∷ []) heads last placed = placed
item_parts-placed most gap l f place (p ∷ q ∷ parts) heads last placed =
    further-placed most l (record f { now = f.now ++ blocks_of p.blocks ∷ [] }) place (q ∷ parts) placed

-- ---- the list

list-merge : (is_tight : Bool) (within : List Joint) (start start' : Option ℕ) (t t' : Bool) (a b : Items)
    → join_block (cond is_tight joint.List joint.LooseList) within (list start t a) (list start' t' b)
    ≡ list start is_tight (join_items within a b)
list-merge true within start start' t t' a b = refl
list-merge false within start start' t t' a b = refl

list-merged : (l : ListShape) (start : Option ℕ) (a : Items) (parts : List BlockPart) → GoOnList l parts
    → merged (list start l.is_tight a) parts ≡ list start l.is_tight (all_items a parts)
list-merged l start a parts no_more = refl
list-merged l start a parts (one_more place items within rest others) =
    ap (λ b. merged b rest) (list-merge l.is_tight within start
    (option_map (λ s. s + place) l.start) l.is_tight
    (l.is_tight || not (is_spread (flat_items (items_of items)))) a (items_of items))
    ∙ list-merged l start (join_items within a (items_of items)) rest others

list-begun : (l : ListShape) (start : Option ℕ) (t : Bool) (a : Items) (place : ℕ) (items : List Blocks)
    (within : List Joint) (rest : List BlockPart) → GoOnList l rest
    → merged (list start t a)
    (record { block = list_of l place items; continues = list_joint l ∷ within } ∷ rest)
    ≡ list start l.is_tight (all_items (join_items within a (items_of items)) rest)
list-begun l start t a place items within rest others =
    ap (λ b. merged b rest) (list-merge l.is_tight within start
    (option_map (λ s. s + place) l.start) t
    (l.is_tight || not (is_spread (flat_items (items_of items)))) a (items_of items))
    ∙ list-merged l start (join_items within a (items_of items)) rest others

go_on-list : (l : ListShape) (parts : List BlockPart) → GoOnList l parts → GoOn parts
go_on-list l parts no_more = no_parts
go_on-list l parts (one_more place items within rest others) =
    goes_on (list_of l place items) (list_joint l) within rest (go_on-list l rest others)

pub same-start : (start : Option ℕ) → option_map (λ s. s + 0) start ≡ start
same-start None = refl
same-start (Some n) = ap (λ (k : ℕ). Some k) (add-zero n)

-- a list alone in its part is as tight as it was
same-tight : (is_tight : Bool) (items : Items) → has_right_distance is_tight (flat_items items) ≡ true
    → (is_tight || not (is_spread (flat_items items))) ≡ is_tight
same-tight true items right = refl
same-tight false items right = ap not right

pub list-parts : (l : ListShape) (items : Items) (parts : List BlockPart) → AreOfList l parts
    → all_items no_items parts ≡ items → has_right_distance l.is_tight (flat_items items) ≡ true
    → AreParts (list l.start l.is_tight items) parts
list-parts l items parts (of_list first rest no_more) is right =
    subst (λ (b : Block). AreParts b (record { block = list_of l 0 first; continues = [] } ∷ []))
    (ap (λ s. list s (l.is_tight || not (is_spread (flat_items (items_of first)))) (items_of first))
    (same-start l.start)
    ∙ ap (λ is. list l.start (l.is_tight || not (is_spread (flat_items is))) is) is
    ∙ ap (λ t. list l.start t items) (same-tight l.is_tight items right))
    (parts_of (record { block = list_of l 0 first; continues = [] }) [] no_parts)
list-parts l items parts (of_list first rest (one_more place its within others go_on)) is right =
    let p : BlockPart = record { block = list_of l place its; continues = list_joint l ∷ within } in
    subst (λ (b : Block). AreParts b (record { block = list_of l 0 first; continues = [] } ∷ p ∷ others))
    (list-begun l (option_map (λ s. s + 0) l.start) (l.is_tight || not (is_spread (flat_items (items_of first))))
    (items_of first) place its within others go_on
    ∙ ap (λ s. list s l.is_tight (all_items (join_items within (items_of first) (items_of its)) others))
    (same-start l.start)
    ∙ ap (list l.start l.is_tight) is)
    (parts_of (record { block = list_of l 0 first; continues = [] }) (p ∷ others)
    (go_on-list l (p ∷ others) (one_more place its within others go_on)))
