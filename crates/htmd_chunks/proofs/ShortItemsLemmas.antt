-- Parts of lists that are filled item by item fit, or can't be cut.
use Rattle.std.proofs.Common.{◌≡◌, ℕ, zero, suc, ◌+◌, ◌-◌, ◌<◌, ◌≤◌, Bool, true, false, not, cond, List, [], ◌∷◌}
use Rattle.std.proofs.Common.{◌++◌, length, refl, sym, ap, ◌∙◌, subst, inl, inr, arith, leb-true, append-nil}
use Rattle.std.proofs.Common.{length-append}
use Rattle.std.specs.Prelude.{◌&&◌, ◌||◌, nat_le, replicate}
use Rattle.std.proofs.lemmas.List.{length-replicate}
use Rattle.htmd_document.specs.Documents.{Block, Blocks, no_blocks, block, blocks_of, items_of}
use Rattle.htmd_document.specs.TightItems.{is_filled}
use Rattle.htmd_commonmark.specs.declared.options.DocumentOptions.{DocumentOptions}
use Rattle.htmd_chunks.specs.Cuts.{cost_of_last_blocks}
use Rattle.htmd_chunks.specs.Fillings.{Part, BlockPart, ListFilling, list_joint, list_of, list_part, list_parts_in}
use Rattle.htmd_chunks.specs.Fillings.{list_flushed, list_gap_in, list_with_room, with_whole_items, with_further_items}
use Rattle.htmd_chunks.specs.Fillings.{with_item_parts, with_empty_items}
use Rattle.htmd_chunks.specs.Least.{group_cost, least_among}
use Rattle.htmd_chunks.specs.Measures.{item_width, item_size, blocks_size, gap, block_cost, empties_cost}
use Rattle.htmd_chunks.specs.Pieces.{piece_options}
use Rattle.htmd_chunks.specs.Runs.{is_none}
use Rattle.htmd_chunks.specs.ShortPieces.{are_least, is_least, are_least_items, filled_count, end_empty, ends_empty}
use Rattle.htmd_chunks.specs.ShortPieces.{items_end_empty, may_be_longer}
use Rattle.htmd_chunks.specs.Sizes.{cost, in_item}
use Rattle.htmd_chunks.specs.declared.bounds.ListShape.{ListShape}
use Rattle.htmd_chunks.specs.declared.joint.Joint.{Joint}
use Rattle.htmd_chunks.specs.declared.joint.Joint.TheVariants as joint
use Rattle.htmd_chunks.specs.declared.size.Margin.{Margin}
use Rattle.htmd_chunks.proofs.CostsLemmas.{gap_if, none-append, cost-indented, items_cost, items-are, items-append}
use Rattle.htmd_chunks.proofs.CostsLemmas.{items-behind, empties-are}
use Rattle.htmd_chunks.proofs.ShortListsLemmas.{items_taken, part-most}
use Rattle.htmd_chunks.proofs.ShortPartsLemmas.{bounds, taken_by, Okay, Fit, BlockOkay, BlockFit, AllBlocks, none_left}
use Rattle.htmd_chunks.proofs.ShortPartsLemmas.{one_left, BlockParts, cut_into, AllParts, no_more, one_more, Parts}
use Rattle.htmd_chunks.proofs.ShortPartsLemmas.{parts_are}

-- ---- parts of a list

pub data ListPlace (p q : Block → Type 0) : Bool → List BlockPart → Type 0 where
  first_part : ListPlace p q true []
  later_part : (done : List BlockPart) → BlockParts p q done → ListPlace p q false done

abbrev pub ListHere : (p q : Block → Type 0) → Bool → Block → Type 0
ListHere p q true b = p b
ListHere p q false b = q b

blocks-behind : (q : Block → Type 0) (parts : List BlockPart) (x : BlockPart) → AllBlocks q parts → q x.block
    → AllBlocks q (parts ++ x ∷ [])
blocks-behind q parts x none_left is = one_left x [] is none_left
blocks-behind q parts x (one_left y rest here others) is =
    one_left y (rest ++ x ∷ []) here (blocks-behind q rest x others is)

list-parts-behind : (p q : Block → Type 0) (b : Bool) (done : List BlockPart) (x : BlockPart) → ListPlace p q b done
    → ListHere p q b x.block → BlockParts p q (done ++ x ∷ [])
list-parts-behind p q b done x first_part is = cut_into x [] is none_left
list-parts-behind p q b done x (later_part parts (cut_into first rest here others)) is =
    cut_into first (rest ++ x ∷ []) here (blocks-behind q rest x others is)

-- something stands in the part, up to the item before this place, and it is short; so is what fits
pub record GoodList (options : DocumentOptions) (m : Margin) (l : ListShape) (most : ℕ) (p : Block → Type 0)
    (next : ℕ) (b : Bool) (f : ListFilling) : Type 0 where
  pub place : ListPlace p (BlockFit options m most) b f.done
  pub some : is_none f.now ≡ false
  pub up_to : f.first + length f.now ≡ next
  pub used : items_taken options m l f.first f.now ≤ f.used
  pub fits : (x : Block) → BlockOkay options m f.free x → ListHere p (BlockFit options m most) b x
  pub here : ListHere p (BlockFit options m most) b (list_of l f.first f.now)

abbrev pub fresh_list : List BlockPart → ℕ → ℕ → List Joint → ListFilling
fresh_list done first free continues =
    record { done = done; now = []; first = first; used = 0; free = free; continues = continues }

-- nothing stands in it
pub record FreshList (options : DocumentOptions) (m : Margin) (most : ℕ) (p : Block → Type 0) (least : ℕ)
    (b : Bool) (done : List BlockPart) (free : ℕ) : Type 0 where
  pub place : ListPlace p (BlockFit options m most) b done
  pub fits : (x : Block) → BlockOkay options m free x → ListHere p (BlockFit options m most) b x
  pub loose : (x : Block) → nat_le least free ≡ false → (free ≡ most → BlockFit options m most x)
      → ListHere p (BlockFit options m most) b x

abbrev pub IsGoodList : DocumentOptions → Margin → ListShape → ℕ → (Block → Type 0) → ℕ → ListFilling
    → Type 0
IsGoodList options m l most p next f = (b : Bool) × GoodList options m l most p next b f

pub block-okay-fit : (options : DocumentOptions) (m : Margin) (most : ℕ) (b : Block) → BlockOkay options m most b
    → BlockFit options m most b
block-okay-fit options m most b (inl le) = inl le
block-okay-fit options m most b (inr ends) = inr (or_right (is_least b) (ends_empty b) ends)
  where
    or_right : (a b : Bool) → b ≡ true → (a || b) ≡ true
    or_right true b e = refl
    or_right false b e = e

pub good-list-parts : (options : DocumentOptions) (m : Margin) (l : ListShape) (most : ℕ) (p : Block → Type 0)
    (next : ℕ) (b : Bool) (f : ListFilling) → GoodList options m l most p next b f
    → BlockParts p (BlockFit options m most) (list_parts_in l f)
good-list-parts options m l most p next b f good =
    list-parts-behind p (BlockFit options m most) b f.done (list_part l f) good.place good.here

list-flushed-fresh : (options : DocumentOptions) (m : Margin) (l : ListShape) (most : ℕ) (p : Block → Type 0)
    (least next : ℕ) (b : Bool) (f : ListFilling) → GoodList options m l most p next b f
    → FreshList options m most p least false (list_parts_in l f) most
list-flushed-fresh options m l most p least next b f good =
    record {
      place = later_part (list_parts_in l f) (good-list-parts options m l most p next b f good);
      fits = λ x ok. block-okay-fit options m most x ok;
      loose = λ x no longer. longer refl;
    }

-- ---- items that stay together

abbrev group_items : ℕ → Blocks → ℕ → List Blocks
group_items before content after = replicate before no_blocks ++ content ∷ replicate after no_blocks

group-some : (before after : ℕ) (content : Blocks) → is_none (group_items before content after) ≡ false
group-some before after content =
    none-append (replicate before no_blocks) (content ∷ replicate after no_blocks) refl

group-length : (before after : ℕ) (content : Blocks)
    → length (group_items before content after) ≡ before + suc after
group-length before after content =
    omega (
      arith,
      length-append (replicate before no_blocks) (content ∷ replicate after no_blocks),
      length-replicate before no_blocks,
      length-replicate after no_blocks,
    )

group-taken : (options : DocumentOptions) (m : Margin) (l : ListShape) (most place k before : ℕ) (content : Blocks)
    (after : ℕ) → place + before ≡ k
    → items_taken options m l place (group_items before content after)
    ≡ group_cost (bounds options most) m l k (empties_cost m l place before) content after
group-taken options m l most place k before content after up =
    let o = piece_options options in
    let rest = content ∷ replicate after no_blocks in
    let here : place + length (replicate before no_blocks) ≡ k =
    ap (λ n. place + n) (length-replicate before no_blocks) ∙ up in
    omega (
      arith,
      items-are o m l place (group_items before content after),
      ap (λ e. gap_if e (gap m l.is_tight)) (group-some before after content),
      items-append o m l place (replicate before no_blocks) rest,
      empties-are o m l place before,
      ap (λ n. items_cost o m l n rest) here,
      empties-are o m l (suc k) after,
    )

whole-list-fresh : (options : DocumentOptions) (m : Margin) (l : ListShape) (most : ℕ) (p : Block → Type 0)
    (b : Bool) (done : List BlockPart) (place free : ℕ) (continues : List Joint) (xs : List Blocks) (bytes next : ℕ)
    → is_none xs ≡ false → items_taken options m l place xs ≡ bytes → place + length xs ≡ next
    → next ≤ l.count
    → bytes ≤ most
    → FreshList options m most p bytes b done free
    → GoodList options m l most p next b
    (with_whole_items most (gap m l.is_tight) l (fresh_list done place free continues) place xs bytes)
whole-list-fresh options m l most p b done place free continues xs bytes next some is up within le was =
    let q = BlockFit options m most in
    let x = list_of l place xs in
    let size : block_cost (piece_options options) m x ≤ bytes =
    omega (arith, part-most options m l place xs (omega (arith, up, within)), is) in
    let here : (e : Bool) → nat_le bytes free ≡ e → ListHere p q b x =
    (λ e. elim e as (λ e. nat_le bytes free ≡ e → ListHere p q b x) [
      | true ↦ λ fit. was.fits x (inl (omega (arith, size, leb-true bytes free fit)))
      | false ↦ λ no. was.loose x no (λ all. inl (omega (arith, size, le)))
    ]) in
    record {
      place = was.place;
      some = some;
      up_to = up;
      used = omega (arith, is);
      fits = was.fits;
      here = here (nat_le bytes free) refl;
    }

whole-list-behind : (options : DocumentOptions) (m : Margin) (l : ListShape) (most : ℕ) (p : Block → Type 0)
    (b : Bool) (f : ListFilling) (place : ℕ) (xs : List Blocks) (bytes next : ℕ)
    → is_none xs ≡ false → items_taken options m l place xs ≡ bytes → place + length xs ≡ next
    → next ≤ l.count
    → nat_le (f.used + list_gap_in (gap m l.is_tight) f + bytes) f.free ≡ true
    → GoodList options m l most p place b f
    → GoodList options m l most p next b
    (record f { now = f.now ++ xs; used = f.used + list_gap_in (gap m l.is_tight) f + bytes })
whole-list-behind options m l most p b f place xs bytes next some is up within room good =
    let o = piece_options options in
    let all : items_taken options m l f.first (f.now ++ xs)
    ≤ f.used + gap_if (is_none f.now) (gap m l.is_tight) + bytes =
    omega (
      arith,
      items-behind o m l f.first f.now xs some,
      ap (λ n. items_taken options m l n xs) good.up_to,
      is,
      good.used,
    ) in
    let le = leb-true (f.used + gap_if (is_none f.now) (gap m l.is_tight) + bytes) f.free room in
    let there : f.first + length (f.now ++ xs) ≡ next =
    omega (arith, length-append f.now xs, good.up_to, up) in
    record {
      place = good.place;
      some = none-append f.now xs some;
      up_to = there;
      used = all;
      fits = good.fits;
      here =
          good.fits (list_of l f.first (f.now ++ xs))
          (inl (omega (arith, part-most options m l f.first (f.now ++ xs) (omega (arith, there, within)), all, le)));
    }

whole-list-good : (options : DocumentOptions) (m : Margin) (l : ListShape) (most : ℕ) (p : Block → Type 0)
    (b : Bool) (f : ListFilling) (place : ℕ) (xs : List Blocks) (bytes next : ℕ)
    → is_none xs ≡ false → items_taken options m l place xs ≡ bytes → place + length xs ≡ next
    → next ≤ l.count
    → bytes ≤ most
    → GoodList options m l most p place b f
    → IsGoodList options m l most p next (with_whole_items most (gap m l.is_tight) l f place xs bytes)
whole-list-good options m l most p b f place xs bytes next some is up within le good =
    let gap_bytes = gap m l.is_tight in
    elim (is_none f.now || nat_le (f.used + list_gap_in gap_bytes f + bytes) f.free)
    as (λ e. (is_none f.now || nat_le (f.used + list_gap_in gap_bytes f + bytes) f.free) ≡ e
    → IsGoodList options m l most p next (put (cond e f (list_flushed most l f place [])))) [
      | true ↦ λ room. (
        b,
        whole-list-behind options m l most p b f place xs bytes next some is up within
            (sym (ap (λ n. n || nat_le (f.used + list_gap_in gap_bytes f + bytes) f.free) good.some) ∙ room) good,
      )
      | false ↦ λ full. (
        false,
        whole-list-fresh options m l most p false (list_parts_in l f) place most (list_joint l ∷ []) xs bytes next
            some
            is up within le (list-flushed-fresh options m l most p bytes place b f good),
      )
    ] refl
  where
    put : ListFilling → ListFilling
    put g = record g { now = g.now ++ xs; used = g.used + list_gap_in (gap m l.is_tight) g + bytes }

-- ---- an item that is cut

-- the first part of its blocks, where it has so much room
pub record FirstPart (options : DocumentOptions) (m : Margin) (t : Bool) (most first least : ℕ) (bs : List Block)
    : Type 0 where
  pub fits : least ≤ first → Okay options m t first bs
  pub short : first ≡ most → Fit options m t most bs

abbrev pub SplitWell : DocumentOptions → Margin → Bool → ℕ → ℕ → ℕ → List Part → Type 0
SplitWell options m t most first least parts =
    Parts (FirstPart options m t most first least) (Fit options m t most) parts

abbrev inside : DocumentOptions → Margin → ListShape → ℕ → Margin
inside options m l k = in_item (item_width (piece_options options) l k) m

-- what an item of a part takes
item-taken : (options : DocumentOptions) (m : Margin) (l : ListShape) (k : ℕ) (bs : List Block)
    → is_none bs ≡ false
    → cost m (item_size (piece_options options) l k (blocks_of bs))
    ≡ taken_by options (inside options m l k) l.is_tight bs
item-taken options m l k [] some = absurd (cc)
item-taken options m l k (b ∷ bs) some =
    cost-indented m (item_width (piece_options options) l k)
    (blocks_size (piece_options options) l.is_tight (blocks_of (b ∷ bs)))

one-item-taken : (options : DocumentOptions) (m : Margin) (l : ListShape) (k : ℕ) (bs : List Block)
    → is_none bs ≡ false
    → items_taken options m l k (blocks_of bs ∷ []) ≡ taken_by options (inside options m l k) l.is_tight bs
one-item-taken options m l k bs some =
    omega (arith, items-are (piece_options options) m l k (blocks_of bs ∷ []), item-taken options m l k bs some)

one-item-longer : (bs : List Block) → is_none bs ≡ false → may_be_longer (blocks_of bs) ≡ true
    → (are_least_items (items_of (blocks_of bs ∷ [])) || items_end_empty (items_of (blocks_of bs ∷ []))) ≡ true
one-item-longer [] some longer = absurd (cc)
one-item-longer (b ∷ bs) some longer =
    let least = are_least (block b (blocks_of bs)) in
    elim least as (λ e. (e || end_empty (block b (blocks_of bs))) ≡ true
    → ((e && true) || end_empty (block b (blocks_of bs))) ≡ true) [
      | true ↦ λ h. refl
      | false ↦ λ h. h
    ] longer

one-item-fit : (options : DocumentOptions) (m : Margin) (l : ListShape) (most k : ℕ) (bs : List Block)
    → is_none bs ≡ false → k < l.count → Fit options (inside options m l k) l.is_tight most bs
    → BlockFit options m most (list_of l k (blocks_of bs ∷ []))
one-item-fit options m l most k bs some within (inl le) =
    inl (omega (
      arith,
      part-most options m l k (blocks_of bs ∷ []) (omega (arith, within)),
      one-item-taken options m l k bs some,
      le,
    ))
one-item-fit options m l most k bs some within (inr longer) = inr (one-item-longer bs some longer)

further-items-good : (options : DocumentOptions) (m : Margin) (l : ListShape) (most k : ℕ) (p : Block → Type 0)
    (b : Bool) (f : ListFilling) (x : Part) (parts : List Part) → ListPlace p (BlockFit options m most) b f.done
    → ListHere p (BlockFit options m most) b (list_of l f.first f.now) → k < l.count
    → is_none x.blocks ≡ false → Fit options (inside options m l k) l.is_tight most x.blocks
    → AllParts (Fit options (inside options m l k) l.is_tight most) parts
    → GoodList options m l most p (suc k) false
    (record (with_further_items most l f k (x ∷ parts)) {
      used = cost_of_last_blocks (bounds options most) (inside options m l k) l.is_tight (x ∷ parts);
    })
further-items-good options m l most k p b f x parts place here within some fit no_more =
    record {
      place =
          later_part (list_parts_in l f)
          (list-parts-behind p (BlockFit options m most) b f.done (list_part l f) place here);
      some = refl;
      up_to = omega arith;
      used = omega (arith, one-item-taken options m l k x.blocks some);
      fits = λ y ok. block-okay-fit options m most y ok;
      here = one-item-fit options m l most k x.blocks some within fit;
    }
further-items-good options m l most k p b f x parts place here within some fit (one_more y rest some2 fit2 others) =
    let g : ListFilling =
    record (list_flushed most l f k (joint.Item ∷ x.continues)) { now = blocks_of x.blocks ∷ [] } in
    further-items-good options m l most k p false g y rest
    (later_part (list_parts_in l f)
    (list-parts-behind p (BlockFit options m most) b f.done (list_part l f) place here))
    (one-item-fit options m l most k x.blocks some within fit) within some2 fit2 others

-- the first part stands behind what is there
item-parts-good : (options : DocumentOptions) (m : Margin) (l : ListShape) (most k heads : ℕ) (p : Block → Type 0)
    (b : Bool) (f : ListFilling) (x : Part) (parts : List Part) → ListPlace p (BlockFit options m most) b f.done
    → f.first + length f.now ≡ k → k < l.count
    → items_taken options m l f.first (f.now ++ blocks_of x.blocks ∷ [])
    ≤ f.used + gap m l.is_tight + heads + taken_by options (inside options m l k) l.is_tight x.blocks
    → ((y : Block) → BlockOkay options m f.free y → ListHere p (BlockFit options m most) b y)
    → ListHere p (BlockFit options m most) b (list_of l f.first (f.now ++ blocks_of x.blocks ∷ []))
    → AllParts (Fit options (inside options m l k) l.is_tight most) parts
    → IsGoodList options m l most p (suc k)
    (with_item_parts most (gap m l.is_tight) l f k (x ∷ parts) heads
    (cost_of_last_blocks (bounds options most) (inside options m l k) l.is_tight (x ∷ parts)))
item-parts-good options m l most k heads p b f x parts place up within used fits here no_more = (
  b,
  record {
    place = place;
    some = none-append f.now (blocks_of x.blocks ∷ []) refl;
    up_to = omega (arith, length-append f.now (blocks_of x.blocks ∷ []), up);
    used = used;
    fits = fits;
    here = here;
  },
)
item-parts-good options m l most k heads p b f x parts place up within used fits here
    (one_more y rest some fit others) = (
      false,
      further-items-good options m l most k p b (record f { now = f.now ++ blocks_of x.blocks ∷ [] }) y rest place
          here
          within some fit others,
    )

-- ---- empty items behind

ends-behind : (xs : List Blocks) (n : ℕ) → items_end_empty (items_of (xs ++ replicate (suc n) no_blocks)) ≡ true
ends-behind [] zero = refl
ends-behind [] (suc n) = ends-behind [] n
ends-behind (x ∷ []) n = ends-behind [] n
ends-behind (x ∷ y ∷ xs) n = ends-behind (y ∷ xs) n

empties-good : (options : DocumentOptions) (m : Margin) (l : ListShape) (most next : ℕ) (p : Block → Type 0)
    (b : Bool) (f : ListFilling) (after : ℕ) → GoodList options m l most p next b f
    → GoodList options m l most p (next + after) b (with_empty_items f after (empties_cost m l next after))
empties-good options m l most next p b f zero good =
    let same = append-nil f.now in
    record {
      place = good.place;
      some = ap is_none same ∙ good.some;
      up_to = omega (arith, ap length same, good.up_to);
      used = omega (arith, ap (items_taken options m l f.first) same, good.used);
      fits = good.fits;
      here =
          subst (λ xs. ListHere p (BlockFit options m most) b (list_of l f.first xs)) (sym same) good.here;
    }
empties-good options m l most next p b f (suc n) good =
    let o = piece_options options in
    let xs = replicate (suc n) no_blocks in
    record {
      place = good.place;
      some = none-append f.now xs refl;
      up_to = omega (arith, length-append f.now xs, length-replicate (suc n) no_blocks, good.up_to);
      used =
          omega (
            arith,
            items-behind o m l f.first f.now xs refl,
            ap (λ e. gap_if e (gap m l.is_tight)) good.some,
            ap (λ k. items_taken options m l k xs) good.up_to,
            items-are o m l next xs,
            empties-are o m l next (suc n),
            good.used,
          );
      fits = good.fits;
      here = good.fits (list_of l f.first (f.now ++ xs)) (inr (ends-behind f.now n));
    }

-- ---- groups

-- as items are put behind others, the first at this place
abbrev pub group : DocumentOptions → Margin → ℕ → ListShape → ListFilling → ℕ → ℕ → ℕ → Blocks
    → ℕ
    → (ℕ → List Part) → ListFilling
group options m most l f place k before content after parts =
    let heads = empties_cost m l place before in
    let all = group_cost (bounds options most) m l k heads content after in
    let between = gap m l.is_tight in
    cond (nat_le all most) (with_whole_items most between l f place (group_items before content after) all)
    (let least = heads + least_among (bounds options most) (inside options m l k) l.is_tight 0 content in
    let g = list_with_room most between l f place least in
    let cut_off = parts (g.free - (g.used + list_gap_in between g + heads)) in
    let last = cost_of_last_blocks (bounds options most) (inside options m l k) l.is_tight cut_off in
    let begun = with_item_parts most between l (record g { now = g.now ++ replicate before no_blocks }) k cut_off
    heads last in
    with_empty_items begun after (empties_cost m l (suc k) after))

-- what is there with empty items and one more
led-taken : (options : DocumentOptions) (m : Margin) (l : ListShape) (first place k before : ℕ) (now : List Blocks)
    (bs : List Block) → is_none bs ≡ false → first + length now ≡ place → place + before ≡ k
    → items_taken options m l first ((now ++ replicate before no_blocks) ++ blocks_of bs ∷ [])
    ≡ (items_taken options m l first now + gap_if (is_none now) (gap m l.is_tight))
    + empties_cost m l place before + taken_by options (inside options m l k) l.is_tight bs
led-taken options m l first place k before now bs some at up =
    let o = piece_options options in
    let es = replicate before no_blocks in
    let x = blocks_of bs ∷ [] in
    let there : first + length (now ++ es) ≡ k =
    omega (arith, length-append now es, length-replicate before no_blocks, at, up) in
    omega (
      arith,
      items-are o m l first ((now ++ es) ++ x),
      ap (λ e. gap_if e (gap m l.is_tight)) (none-append (now ++ es) x refl),
      items-append o m l first (now ++ es) x,
      items-append o m l first now es,
      items-are o m l first now,
      ap (λ n. items_cost o m l n es) at,
      empties-are o m l place before,
      ap (λ n. items_cost o m l n x) there,
      item-taken options m l k bs some,
    )

led-ends : (xs : List Blocks) (bs : List Block) → end_empty (blocks_of bs) ≡ true
    → items_end_empty (items_of (xs ++ blocks_of bs ∷ [])) ≡ true
led-ends [] bs ends =
    elim (not (is_filled (blocks_of bs))) as (λ e. (e || end_empty (blocks_of bs)) ≡ true) [
      | true ↦ refl
      | false ↦ ends
    ]
led-ends (x ∷ []) bs ends = led-ends [] bs ends
led-ends (x ∷ y ∷ xs) bs ends = led-ends (y ∷ xs) bs ends

-- the least of the item fits behind what is there
cut-behind : (options : DocumentOptions) (m : Margin) (l : ListShape) (most : ℕ) (p : Block → Type 0) (b : Bool)
    (g : ListFilling) (place k before least : ℕ) (parts : List Part)
    → ListPlace p (BlockFit options m most) b g.done → g.first + length g.now ≡ place → place + before ≡ k
    → k < l.count → items_taken options m l g.first g.now ≤ g.used
    → ((y : Block) → BlockOkay options m g.free y → ListHere p (BlockFit options m most) b y)
    → g.used + list_gap_in (gap m l.is_tight) g + (empties_cost m l place before + least) ≤ g.free
    → SplitWell options (inside options m l k) l.is_tight most
    (g.free - (g.used + list_gap_in (gap m l.is_tight) g + empties_cost m l place before)) least parts
    → IsGoodList options m l most p (suc k)
    (with_item_parts most (gap m l.is_tight) l (record g { now = g.now ++ replicate before no_blocks }) k parts
    (empties_cost m l place before)
    (cost_of_last_blocks (bounds options most) (inside options m l k) l.is_tight parts))
cut-behind options m l most p b g place k before least parts stands at up within used fits le
    (parts_are x rest some first others) =
    let heads = empties_cost m l place before in
    let between = gap m l.is_tight in
    let es = replicate before no_blocks in
    let room = g.free - (g.used + list_gap_in between g + heads) in
    let taken = led-taken options m l g.first place k before g.now x.blocks some at up in
    let there : g.first + length (g.now ++ es) ≡ k =
    omega (arith, length-append g.now es, length-replicate before no_blocks, at, up) in
    let ok : Okay options (inside options m l k) l.is_tight room x.blocks = first.fits (omega (arith, le)) in
    let all : List Blocks = (g.now ++ es) ++ blocks_of x.blocks ∷ [] in
    let within_all : g.first + length all ≤ l.count =
    omega (arith, length-append (g.now ++ es) (blocks_of x.blocks ∷ []), there, within) in
    let fit : BlockOkay options m g.free (list_of l g.first all) =
    elim ok as (λ o. BlockOkay options m g.free (list_of l g.first all)) [
      | inl short ↦ inl (omega (arith, part-most options m l g.first all within_all, taken, used, short, le))
      | inr ends ↦ inr (led-ends (g.now ++ es) x.blocks ends)
    ] in
    item-parts-good options m l most k heads p b (record g { now = g.now ++ es }) x rest stands there within
    (omega (arith, taken, used, gap-least (is_none g.now) between))
    fits (fits (list_of l g.first all) fit) others
  where
    gap-least : (e : Bool) (n : ℕ) → gap_if e n ≤ n
    gap-least true n = omega arith
    gap-least false n = omega arith

filled-one : (n : ℕ) (content : Blocks)
    → nat_le (filled_count (items_of (replicate n no_blocks ++ content ∷ []))) 1 ≡ true
filled-one zero no_blocks = refl
filled-one zero (block b bs) = refl
filled-one (suc n) content = filled-one n content

cut-list-fresh : (options : DocumentOptions) (m : Margin) (l : ListShape) (most : ℕ) (p : Block → Type 0)
    (b : Bool) (done : List BlockPart) (free : ℕ) (continues : List Joint) (place k before least : ℕ)
    (parts : ℕ → List Part) → place + before ≡ k → k < l.count
    → ((room : ℕ) → SplitWell options (inside options m l k) l.is_tight most room least (parts room))
    → FreshList options m most p (empties_cost m l place before + least) b done free
    → IsGoodList options m l most p (suc k)
    (let cut_off = parts (free - (0 + 0 + empties_cost m l place before)) in
    with_item_parts most (gap m l.is_tight) l
    (record (fresh_list done place free continues) { now = [] ++ replicate before no_blocks }) k cut_off
    (empties_cost m l place before)
    (cost_of_last_blocks (bounds options most) (inside options m l k) l.is_tight cut_off))
cut-list-fresh options m l most p b done free continues place k before least parts up within well was =
    let heads = empties_cost m l place before in
    let room = free - (0 + 0 + heads) in
    elim (nat_le (heads + least) free)
    as (λ e. nat_le (heads + least) free ≡ e
    → IsGoodList options m l most p (suc k)
    (with_item_parts most (gap m l.is_tight) l
    (record (fresh_list done place free continues) { now = [] ++ replicate before no_blocks }) k (parts room) heads
    (cost_of_last_blocks (bounds options most) (inside options m l k) l.is_tight (parts room)))) [
      | true ↦ λ le.
          cut-behind options m l most p b (fresh_list done place free continues) place k before least (parts room)
          was.place (omega arith) up within
          (omega (arith, items-are (piece_options options) m l place [])) was.fits
          (omega (arith, leb-true (heads + least) free le)) (well room)
      | false ↦ λ no. loose no before up refl (parts room) (well room)
    ] refl
  where
    here : (x : Part) → is_none x.blocks ≡ false → (n : ℕ) → place + n ≡ k → n ≡ before
        → FirstPart options (inside options m l k) l.is_tight most (free - (0 + 0 + empties_cost m l place before))
        least x.blocks
        → free ≡ most → BlockFit options m most
        (list_of l place (replicate n no_blocks ++ blocks_of x.blocks ∷ []))
    here x some zero at is first all_free =
        let none : empties_cost m l place before ≡ 0 = ap (empties_cost m l place) (sym is) in
        let same : k ≡ place = omega (arith, at) in
        subst (λ n. BlockFit options m most (list_of l n (blocks_of x.blocks ∷ []))) same
        (one-item-fit options m l most k x.blocks some within
        (first.short (omega (arith, none, all_free))))
    here x some (suc n) at is first all_free =
        inr (ap (λ e. e || items_end_empty (items_of (replicate (suc n) no_blocks ++ blocks_of x.blocks ∷ [])))
        (filled-one n (blocks_of x.blocks)))

    loose : nat_le (empties_cost m l place before + least) free ≡ false → (n : ℕ) → place + n ≡ k
        → n ≡ before
        → (ps : List Part)
        → SplitWell options (inside options m l k) l.is_tight most (free - (0 + 0 + empties_cost m l place before))
        least ps
        → IsGoodList options m l most p (suc k)
        (with_item_parts most (gap m l.is_tight) l
        (record (fresh_list done place free continues) { now = [] ++ replicate before no_blocks }) k ps
        (empties_cost m l place before)
        (cost_of_last_blocks (bounds options most) (inside options m l k) l.is_tight ps))
    loose over n at is ps (parts_are x rest some first others) =
        let es = replicate before no_blocks in
        let there : place + length es ≡ k =
        ap (λ i. place + i) (length-replicate before no_blocks) ∙ up in
        item-parts-good options m l most k (empties_cost m l place before) p b
        (record (fresh_list done place free continues) { now = [] ++ es }) x rest was.place there within
        (omega (
          arith,
          led-taken options m l place place k before [] x.blocks some (omega arith) up,
          items-are (piece_options options) m l place [],
        ))
        was.fits
        (was.loose (list_of l place (es ++ blocks_of x.blocks ∷ [])) over
        (λ all_free. subst (λ i. BlockFit options m most
        (list_of l place (replicate i no_blocks ++ blocks_of x.blocks ∷ [])))
        is (here x some n at is first all_free)))
        others

cut-list-good : (options : DocumentOptions) (m : Margin) (l : ListShape) (most : ℕ) (p : Block → Type 0)
    (b : Bool) (f : ListFilling) (place k before least : ℕ) (parts : ℕ → List Part)
    → place + before ≡ k → k < l.count
    → ((room : ℕ) → SplitWell options (inside options m l k) l.is_tight most room least (parts room))
    → GoodList options m l most p place b f
    → IsGoodList options m l most p (suc k)
    (let heads = empties_cost m l place before in
    let g = list_with_room most (gap m l.is_tight) l f place (heads + least) in
    let cut_off = parts (g.free - (g.used + list_gap_in (gap m l.is_tight) g + heads)) in
    with_item_parts most (gap m l.is_tight) l (record g { now = g.now ++ replicate before no_blocks }) k cut_off heads
    (cost_of_last_blocks (bounds options most) (inside options m l k) l.is_tight cut_off))
cut-list-good options m l most p b f place k before least parts up within well good =
    let heads = empties_cost m l place before in
    let between = gap m l.is_tight in
    let bytes = heads + least in
    elim (is_none f.now || nat_le (f.used + list_gap_in between f + bytes) f.free)
    as (λ e. (is_none f.now || nat_le (f.used + list_gap_in between f + bytes) f.free) ≡ e
    → IsGoodList options m l most p (suc k) (put (cond e f (list_flushed most l f place [])))) [
      | true ↦ λ room.
          cut-behind options m l most p b f place k before least
          (parts (f.free - (f.used + list_gap_in between f + heads))) good.place good.up_to up within good.used
          good.fits
          (leb-true (f.used + list_gap_in between f + bytes) f.free
          (sym (ap (λ n. n || nat_le (f.used + list_gap_in between f + bytes) f.free) good.some) ∙ room))
          (well (f.free - (f.used + list_gap_in between f + heads)))
      | false ↦ λ full.
          cut-list-fresh options m l most p false (list_parts_in l f) most (list_joint l ∷ []) place k before least
          parts
          up within well (list-flushed-fresh options m l most p bytes place b f good)
    ] refl
  where
    put : ListFilling → ListFilling
    put g =
        let heads = empties_cost m l place before in
        let cut_off = parts (g.free - (g.used + list_gap_in (gap m l.is_tight) g + heads)) in
        with_item_parts most (gap m l.is_tight) l (record g { now = g.now ++ replicate before no_blocks }) k cut_off
        heads
        (cost_of_last_blocks (bounds options most) (inside options m l k) l.is_tight cut_off)

-- ---- one more group

-- how what it takes at least is told for a list
abbrev pub group_least : DocumentOptions → Margin → ℕ → ListShape → ℕ → ℕ → ℕ → Blocks → ℕ
    → ℕ
group_least options m most l place k before content after =
    let heads = empties_cost m l place before in
    let all = group_cost (bounds options most) m l k heads content after in
    cond (nat_le all most) all
    (heads + least_among (bounds options most) (inside options m l k) l.is_tight 0 content)

pub group-good : (options : DocumentOptions) (m : Margin) (l : ListShape) (most : ℕ) (p : Block → Type 0) (b : Bool)
    (f : ListFilling) (place k before : ℕ) (content : Blocks) (after : ℕ) (parts : ℕ → List Part)
    → place + before ≡ k → suc k + after ≤ l.count
    → ((room : ℕ) → SplitWell options (inside options m l k) l.is_tight most room
    (least_among (bounds options most) (inside options m l k) l.is_tight 0 content) (parts room))
    → GoodList options m l most p place b f
    → IsGoodList options m l most p (suc k + after) (group options m most l f place k before content after parts)
group-good options m l most p b f place k before content after parts up within well good =
    let heads = empties_cost m l place before in
    let all = group_cost (bounds options most) m l k heads content after in
    let least = least_among (bounds options most) (inside options m l k) l.is_tight 0 content in
    let xs = group_items before content after in
    let between = gap m l.is_tight in
    let g = list_with_room most between l f place (heads + least) in
    let cut_off = parts (g.free - (g.used + list_gap_in between g + heads)) in
    let begun = with_item_parts most between l (record g { now = g.now ++ replicate before no_blocks }) k cut_off heads
    (cost_of_last_blocks (bounds options most) (inside options m l k) l.is_tight cut_off) in
    elim (nat_le all most)
    as (λ e. nat_le all most ≡ e
    → IsGoodList options m l most p (suc k + after)
    (cond e (with_whole_items most between l f place xs all)
    (with_empty_items begun after (empties_cost m l (suc k) after)))) [
      | true ↦ λ le.
          whole-list-good options m l most p b f place xs all (suc k + after) (group-some before after content)
          (group-taken options m l most place k before content after up)
          (omega (arith, group-length before after content, up)) within (leb-true all most le) good
      | false ↦ λ no.
          (let cut = cut-list-good options m l most p b f place k before least parts up (omega (arith, within)) well
          good in
          (cut.0, empties-good options m l most (suc k) p cut.0 begun after cut.1))
    ] refl

pub group-first : (options : DocumentOptions) (m : Margin) (l : ListShape) (most : ℕ) (p : Block → Type 0)
    (b : Bool)
    (done : List BlockPart) (free : ℕ) (continues : List Joint) (place k before : ℕ) (content : Blocks)
    (after : ℕ)
    (parts : ℕ → List Part) → place + before ≡ k → suc k + after ≤ l.count
    → ((room : ℕ) → SplitWell options (inside options m l k) l.is_tight most room
    (least_among (bounds options most) (inside options m l k) l.is_tight 0 content) (parts room))
    → FreshList options m most p (group_least options m most l place k before content after) b done free
    → IsGoodList options m l most p (suc k + after)
    (group options m most l (fresh_list done place free continues) place k before content after parts)
group-first options m l most p b done free continues place k before content after parts up within well was =
    let heads = empties_cost m l place before in
    let all = group_cost (bounds options most) m l k heads content after in
    let least = least_among (bounds options most) (inside options m l k) l.is_tight 0 content in
    let xs = group_items before content after in
    let between = gap m l.is_tight in
    let g = fresh_list done place free continues in
    let cut_off = parts (free - (0 + 0 + heads)) in
    let begun = with_item_parts most between l (record g { now = [] ++ replicate before no_blocks }) k cut_off heads
    (cost_of_last_blocks (bounds options most) (inside options m l k) l.is_tight cut_off) in
    elim (nat_le all most)
    as (λ e. nat_le all most ≡ e
    → FreshList options m most p (cond e all (heads + least)) b done free
    → IsGoodList options m l most p (suc k + after)
    (cond e (with_whole_items most between l g place xs all)
    (with_empty_items begun after (empties_cost m l (suc k) after)))) [
      | true ↦ λ le fresh. (
        b,
        whole-list-fresh options m l most p b done place free continues xs all (suc k + after)
            (group-some before after content) (group-taken options m l most place k before content after up)
            (omega (arith, group-length before after content, up)) within (leb-true all most le) fresh,
      )
      | false ↦ λ no fresh.
          (let cut = cut-list-fresh options m l most p b done free continues place k before least parts up
          (omega (arith, within)) well fresh in
          (cut.0, empties-good options m l most (suc k) p cut.0 begun after cut.1))
    ] refl was
