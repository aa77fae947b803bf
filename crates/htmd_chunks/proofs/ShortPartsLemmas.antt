-- Parts that are filled block by block fit, or can't be cut.
use Rattle.std.proofs.Common.{◌≡◌, ℕ, ◌+◌, ◌-◌, ◌≤◌, Bool, true, false, not, cond, List, [], ◌∷◌, ◌++◌}
use Rattle.std.proofs.Common.{refl, sym, ap, ◌∙◌, subst, ◌⊎◌, inl, inr, arith, leb-true}
use Rattle.std.specs.Prelude.{◌&&◌, ◌||◌, nat_le, nat_lt}
use Rattle.std.specs.List.{list_all}
use Rattle.std.proofs.lemmas.Bool.{and_parts}
use Rattle.std.proofs.lemmas.Bool.Decides.{nat_tests}
use Rattle.htmd_document.specs.Documents.{Block, Blocks, no_blocks, block, blocks_of}
use Rattle.htmd_document.specs.TightItems.{is_filled}
use Rattle.htmd_commonmark.specs.declared.options.DocumentOptions.{DocumentOptions}
use Rattle.htmd_chunks.specs.Cuts.{cost_of_last}
use Rattle.htmd_chunks.specs.Fillings.{Part, BlockPart, Filling, part_in, parts_in, flushed, has_room}
use Rattle.htmd_chunks.specs.Fillings.{with_blocks, with_whole, with_heads, with_further, with_parts}
use Rattle.htmd_chunks.specs.Least.{is_heading, is_rule, is_too_large}
use Rattle.htmd_chunks.specs.Measures.{blocks_size, gap, block_cost, heads_cost}
use Rattle.htmd_chunks.specs.Pieces.{piece_options}
use Rattle.htmd_chunks.specs.Runs.{is_none}
use Rattle.htmd_chunks.specs.ShortPieces.{are_headings, are_least, is_least, end_empty, ends_empty, may_be_longer}
use Rattle.htmd_chunks.specs.Sizes.{cost}
use Rattle.htmd_chunks.specs.declared.bounds.Bounds.{Bounds}
use Rattle.htmd_chunks.specs.declared.joint.Joint.{Joint}
use Rattle.htmd_chunks.specs.declared.size.Margin.{Margin}
use Rattle.htmd_chunks.proofs.CostsLemmas.{gap_if, blocks-cost, heads-append, costs-behind, one-cost, unit-cost}
use Rattle.htmd_chunks.proofs.CostsLemmas.{none-append}

abbrev pub bounds : DocumentOptions → ℕ → Bounds
bounds options most = record { most = most; options = piece_options options }

-- what blocks take
abbrev pub taken_by : DocumentOptions → Margin → Bool → List Block → ℕ
taken_by options m t bs = cost m (blocks_size (piece_options options) t (blocks_of bs))

-- ---- what is short

-- they take no more than this, or end in an empty item
abbrev pub Okay : DocumentOptions → Margin → Bool → ℕ → List Block → Type 0
Okay options m t bound bs = (taken_by options m t bs ≤ bound) ⊎ (end_empty (blocks_of bs) ≡ true)

-- or may take more
abbrev pub Fit : DocumentOptions → Margin → Bool → ℕ → List Block → Type 0
Fit options m t most bs = (taken_by options m t bs ≤ most) ⊎ (may_be_longer (blocks_of bs) ≡ true)

-- the same of one block
abbrev pub BlockOkay : DocumentOptions → Margin → ℕ → Block → Type 0
BlockOkay options m bound b = (block_cost (piece_options options) m b ≤ bound) ⊎ (ends_empty b ≡ true)

abbrev pub BlockFit : DocumentOptions → Margin → ℕ → Block → Type 0
BlockFit options m most b = (block_cost (piece_options options) m b ≤ most) ⊎
    ((is_least b || ends_empty b) ≡ true)

or_left : (a b : Bool) → a ≡ true → (a || b) ≡ true
or_left a b e = ap (λ x. x || b) e

or_right : (a b : Bool) → b ≡ true → (a || b) ≡ true
or_right true b e = refl
or_right false b e = e

pub okay-fit : (options : DocumentOptions) (m : Margin) (t : Bool) (most : ℕ) (bs : List Block)
    → Okay options m t most bs → Fit options m t most bs
okay-fit options m t most bs (inl le) = inl le
okay-fit options m t most bs (inr ends) = inr (or_right (are_least (blocks_of bs)) (end_empty (blocks_of bs)) ends)

pub one-okay : (options : DocumentOptions) (m : Margin) (t : Bool) (bound : ℕ) (b : Block)
    → BlockOkay options m bound b → Okay options m t bound (b ∷ [])
one-okay options m t bound b (inl le) = inl (omega (arith, one-cost (piece_options options) m t b, le))
one-okay options m t bound b (inr ends) = inr ends

one-least : (b : Block) → is_least b ≡ true → are_least (block b no_blocks) ≡ true
one-least b least =
    or_right (are_headings (block b no_blocks)) (is_least b && true) (ap (λ x. x && true) least)

pub one-fit : (options : DocumentOptions) (m : Margin) (t : Bool) (most : ℕ) (b : Block)
    → BlockFit options m most b → Fit options m t most (b ∷ [])
one-fit options m t most b (inl le) = inl (omega (arith, one-cost (piece_options options) m t b, le))
one-fit options m t most b (inr longer) = inr (either (is_least b) refl longer)
  where
    either : (e : Bool) → is_least b ≡ e → (e || ends_empty b) ≡ true
        → may_be_longer (block b no_blocks) ≡ true
    either true is h = or_left (are_least (block b no_blocks)) (ends_empty b) (one-least b is)
    either false is h = or_right (are_least (block b no_blocks)) (ends_empty b) h

-- ---- headings

abbrev pub AreHeadings : List Block → Type 0
AreHeadings bs = list_all is_heading bs ≡ true

headings-are : (bs : List Block) → AreHeadings bs → are_headings (blocks_of bs) ≡ true
headings-are [] all = refl
headings-are (b ∷ bs) all =
    let p = and_parts (is_heading b) (list_all is_heading bs) all in
    or_left (is_heading b && are_headings (blocks_of bs)) (is_rule b && not (is_filled (blocks_of bs)))
    (ap (λ e. e && are_headings (blocks_of bs)) p.0 ∙ headings-are bs p.1)

headings-rule : (bs : List Block) (b : Block) → AreHeadings bs → is_rule b ≡ true
    → are_headings (blocks_of (bs ++ b ∷ [])) ≡ true
headings-rule [] b all rule =
    or_right (is_heading b && true) (is_rule b && true) (ap (λ e. e && true) rule)
headings-rule (h ∷ bs) b all rule =
    let p = and_parts (is_heading h) (list_all is_heading bs) all in
    let rest = blocks_of (bs ++ b ∷ []) in
    or_left (is_heading h && are_headings rest) (is_rule h && not (is_filled rest))
    (ap (λ e. e && are_headings rest) p.0 ∙ headings-rule bs b p.1 rule)

headings-longer : (bs : Blocks) → are_headings bs ≡ true → may_be_longer bs ≡ true
headings-longer no_blocks all = refl
headings-longer (block b rest) all =
    or_left (are_least (block b rest)) (end_empty (block b rest))
    (or_left (are_headings (block b rest)) (is_least b && not (is_filled rest)) all)

pub headings-fit : (options : DocumentOptions) (m : Margin) (t : Bool) (most : ℕ) (bs : List Block)
    → AreHeadings bs → Fit options m t most bs
headings-fit options m t most bs all = inr (headings-longer (blocks_of bs) (headings-are bs all))

pub headings-more : (bs : List Block) (b : Block) → AreHeadings bs → is_heading b ≡ true
    → AreHeadings (bs ++ b ∷ [])
headings-more [] b all is = ap (λ e. e && true) is
headings-more (h ∷ bs) b all is =
    let p = and_parts (is_heading h) (list_all is_heading bs) all in
    ap (λ e. e && list_all is_heading (bs ++ b ∷ [])) p.0 ∙ headings-more bs b p.1 is

-- what is behind others ends as it does alone
pub end-behind : (xs : List Block) (b : Block) → ends_empty b ≡ true
    → end_empty (blocks_of (xs ++ b ∷ [])) ≡ true
end-behind [] b ends = ends
end-behind (x ∷ []) b ends = ends
end-behind (x ∷ y ∷ xs) b ends = end-behind (y ∷ xs) b ends

-- ---- parts

-- there is something in each, and this holds of it
pub data AllParts (q : List Block → Type 0) : List Part → Type 0 where
  no_more : AllParts q []
  one_more : (p : Part) (rest : List Part) → is_none p.blocks ≡ false → q p.blocks → AllParts q rest
      → AllParts q (p ∷ rest)

-- the first one
pub data Parts (p q : List Block → Type 0) : List Part → Type 0 where
  parts_are : (first : Part) (rest : List Part) → is_none first.blocks ≡ false → p first.blocks
      → AllParts q rest
      → Parts p q (first ∷ rest)

-- parts so far: none, or some
pub data Place (p q : List Block → Type 0) : Bool → List Part → Type 0 where
  at_first : Place p q true []
  later : (done : List Part) → Parts p q done → Place p q false done

-- what is asked of the next one
abbrev pub Here : (p q : List Block → Type 0) → Bool → List Block → Type 0
Here p q true bs = p bs
Here p q false bs = q bs

all-behind : (q : List Block → Type 0) (parts : List Part) (x : Part) → AllParts q parts
    → is_none x.blocks ≡ false
    → q x.blocks → AllParts q (parts ++ x ∷ [])
all-behind q parts x no_more some is = one_more x [] some is no_more
all-behind q parts x (one_more y rest has here others) some is =
    one_more y (rest ++ x ∷ []) has here (all-behind q rest x others some is)

pub parts-behind : (p q : List Block → Type 0) (b : Bool) (done : List Part) (x : Part) → Place p q b done
    → is_none x.blocks ≡ false → Here p q b x.blocks → Parts p q (done ++ x ∷ [])
parts-behind p q b done x at_first some is = parts_are x [] some is no_more
parts-behind p q b done x (later parts (parts_are first rest has here others)) some is =
    parts_are first (rest ++ x ∷ []) has here (all-behind q rest x others some is)

-- ---- fillings

-- something stands in the part, and it is short; so is what fits
pub record Good (options : DocumentOptions) (m : Margin) (t : Bool) (most : ℕ) (p : List Block → Type 0) (b : Bool)
    (f : Filling) : Type 0 where
  pub place : Place p (Fit options m t most) b f.done
  pub some : is_none f.now ≡ false
  pub used : taken_by options m t f.now ≤ f.used
  pub fits : (bs : List Block) → Okay options m t f.free bs → Here p (Fit options m t most) b bs
  pub here : Here p (Fit options m t most) b f.now

abbrev pub fresh : List Part → ℕ → List Joint → Filling
fresh done free continues = record { done = done; now = []; used = 0; free = free; continues = continues }

-- Nothing stands in it. If the least that comes doesn't fit, more may stand where all of a part was free.
pub record Fresh (options : DocumentOptions) (m : Margin) (t : Bool) (most : ℕ) (p : List Block → Type 0)
    (least : ℕ)
    (b : Bool) (done : List Part) (free : ℕ) : Type 0 where
  pub place : Place p (Fit options m t most) b done
  pub fits : (bs : List Block) → Okay options m t free bs → Here p (Fit options m t most) b bs
  pub loose : (bs : List Block) → nat_le least free ≡ false → (free ≡ most → Fit options m t most bs)
      → Here p (Fit options m t most) b bs

-- in some place
abbrev pub IsGood : DocumentOptions → Margin → Bool → ℕ → (List Block → Type 0) → Filling → Type 0
IsGood options m t most p f = (b : Bool) × Good options m t most p b f

pub good-parts : (options : DocumentOptions) (m : Margin) (t : Bool) (most : ℕ) (p : List Block → Type 0) (b : Bool)
    (f : Filling) → Good options m t most p b f → Parts p (Fit options m t most) (parts_in f)
good-parts options m t most p b f good =
    parts-behind p (Fit options m t most) b f.done (part_in f) good.place good.some good.here

pub flushed-fresh : (options : DocumentOptions) (m : Margin) (t : Bool) (most : ℕ) (p : List Block → Type 0)
    (least : ℕ) (b : Bool) (f : Filling) → Good options m t most p b f
    → Fresh options m t most p least false (parts_in f) most
flushed-fresh options m t most p least b f good =
    record {
      place = later (parts_in f) (good-parts options m t most p b f good);
      fits = λ bs ok. okay-fit options m t most bs ok;
      loose = λ bs no longer. longer refl;
    }

-- ---- blocks that stay together

whole-fresh : (options : DocumentOptions) (m : Margin) (t : Bool) (most gap_bytes : ℕ) (p : List Block → Type 0)
    (b : Bool) (done : List Part) (free : ℕ) (continues : List Joint) (bs : List Block) (bytes : ℕ)
    → is_none bs ≡ false → taken_by options m t bs ≡ bytes → Fit options m t most bs
    → Fresh options m t most p bytes b done free
    → Good options m t most p b (with_blocks gap_bytes (fresh done free continues) bs bytes)
whole-fresh options m t most gap_bytes p b done free continues bs bytes some is fit was =
    let q = Fit options m t most in
    let here : (e : Bool) → nat_le bytes free ≡ e → Here p q b bs =
    (λ e. elim e as (λ e. nat_le bytes free ≡ e → Here p q b bs) [
      | true ↦ λ le. was.fits bs (inl (omega (arith, is, leb-true bytes free le)))
      | false ↦ λ no. was.loose bs no (λ all. fit)
    ]) in
    record {
      place = was.place;
      some = some;
      used = omega (arith, is);
      fits = was.fits;
      here = here (nat_le bytes free) refl;
    }

whole-behind : (options : DocumentOptions) (m : Margin) (t : Bool) (most : ℕ) (p : List Block → Type 0)
    (b : Bool) (f : Filling) (bs : List Block) (bytes : ℕ)
    → is_none bs ≡ false → taken_by options m t bs ≡ bytes → has_room (gap m t) f bytes ≡ true
    → Good options m t most p b f → Good options m t most p b (with_blocks (gap m t) f bs bytes)
whole-behind options m t most p b f bs bytes some is room good =
    let all : taken_by options m t (f.now ++ bs) ≤ f.used + gap_if (is_none f.now) (gap m t) + bytes =
    omega (arith, costs-behind (piece_options options) m t f.now bs some, is, good.used) in
    let le : f.used + gap_if (is_none f.now) (gap m t) + bytes ≤ f.free =
    leb-true (f.used + gap_if (is_none f.now) (gap m t) + bytes) f.free room in
    record {
      place = good.place;
      some = none-append f.now bs some;
      used = all;
      fits = good.fits;
      here = good.fits (f.now ++ bs) (inl (omega (arith, all, le)));
    }

pub whole-good : (options : DocumentOptions) (m : Margin) (t : Bool) (most : ℕ) (p : List Block → Type 0)
    (b : Bool) (f : Filling) (bs : List Block) (bytes : ℕ)
    → is_none bs ≡ false → taken_by options m t bs ≡ bytes → Fit options m t most bs
    → Good options m t most p b f → IsGood options m t most p (with_whole most (gap m t) f bs bytes)
whole-good options m t most p b f bs bytes some is fit good =
    elim (is_none f.now || has_room (gap m t) f bytes)
    as (λ e. (is_none f.now || has_room (gap m t) f bytes) ≡ e
    → IsGood options m t most p (with_blocks (gap m t) (cond e f (flushed most f)) bs bytes)) [
      | true ↦ λ room. (
        b,
        whole-behind options m t most p b f bs bytes some is
            (sym (ap (λ n. n || has_room (gap m t) f bytes) good.some) ∙ room) good,
      )
      | false ↦ λ full. (
        false,
        whole-fresh options m t most (gap m t) p false (parts_in f) most [] bs bytes some is fit
            (flushed-fresh options m t most p bytes b f good),
      )
    ] refl

pub whole-first : (options : DocumentOptions) (m : Margin) (t : Bool) (most : ℕ) (p : List Block → Type 0)
    (b : Bool) (done : List Part) (free : ℕ) (continues : List Joint) (bs : List Block) (bytes : ℕ)
    → is_none bs ≡ false → taken_by options m t bs ≡ bytes → Fit options m t most bs
    → Fresh options m t most p bytes b done free
    → IsGood options m t most p (with_whole most (gap m t) (fresh done free continues) bs bytes)
whole-first options m t most p b done free continues bs bytes some is fit was =
    (b, whole-fresh options m t most (gap m t) p b done free continues bs bytes some is fit was)

-- a block that isn't too large, behind headings
pub small-fit : (options : DocumentOptions) (m : Margin) (t : Bool) (most : ℕ) (heads : List Block) (b : Block)
    → AreHeadings heads
    → is_too_large (bounds options most) m (heads_cost (piece_options options) m t heads) b ≡ false
    → Fit options m t most (heads ++ b ∷ [])
small-fit options m t most heads b all small =
    let o = piece_options options in
    let bytes = heads_cost o m t heads + block_cost o m b in
    elim (is_rule b)
    as (λ e. is_rule b ≡ e → (not e && nat_lt most bytes) ≡ false → Fit options m t most (heads ++ b ∷ [])) [
      | true ↦ λ rule no. inr (headings-longer (blocks_of (heads ++ b ∷ [])) (headings-rule heads b all rule))
      | false ↦ λ rule no. inl (let le : bytes ≤ most = grind (arith, nat_tests, no) in
          omega (arith, unit-cost o m t heads b, le))
    ] refl small

-- ---- parts of a block

pub data AllBlocks (q : Block → Type 0) : List BlockPart → Type 0 where
  none_left : AllBlocks q []
  one_left : (p : BlockPart) (rest : List BlockPart) → q p.block → AllBlocks q rest → AllBlocks q (p ∷ rest)

pub data BlockParts (p q : Block → Type 0) : List BlockPart → Type 0 where
  cut_into : (first : BlockPart) (rest : List BlockPart) → p first.block → AllBlocks q rest
      → BlockParts p q (first ∷ rest)

-- the first part where it has so much room: if the least fits, it does, and if it has all of a part, it is short
pub record FirstBlock (options : DocumentOptions) (m : Margin) (most first least : ℕ) (b : Block) : Type 0 where
  pub fits : least ≤ first → BlockOkay options m first b
  pub short : first ≡ most → BlockFit options m most b

abbrev pub CutWell : DocumentOptions → Margin → ℕ → ℕ → ℕ → List BlockPart → Type 0
CutWell options m most first least parts =
    BlockParts (FirstBlock options m most first least) (BlockFit options m most) parts

further-good : (options : DocumentOptions) (m : Margin) (t : Bool) (most : ℕ) (p : List Block → Type 0) (b : Bool)
    (f : Filling) (x : BlockPart) (parts : List BlockPart) → Place p (Fit options m t most) b f.done
    → is_none f.now ≡ false → Here p (Fit options m t most) b f.now → BlockFit options m most x.block
    → AllBlocks (BlockFit options m most) parts
    → Good options m t most p false
    (record (with_further most f (x ∷ parts)) { used = cost_of_last (bounds options most) m (x ∷ parts) })
further-good options m t most p b f x parts place some here fit none_left =
    record {
      place = later (parts_in f) (parts-behind p (Fit options m t most) b f.done (part_in f) place some here);
      some = refl;
      used = omega (arith, one-cost (piece_options options) m t x.block);
      fits = λ bs ok. okay-fit options m t most bs ok;
      here = one-fit options m t most x.block fit;
    }
further-good options m t most p b f x parts place some here fit (one_left y rest fit2 others) =
    let g : Filling = record (flushed most f) { now = x.block ∷ []; continues = x.continues } in
    further-good options m t most p false g y rest
    (later (parts_in f) (parts-behind p (Fit options m t most) b f.done (part_in f) place some here))
    refl (one-fit options m t most x.block fit) fit2 others

-- the first part stands behind what is there
parts-good : (options : DocumentOptions) (m : Margin) (t : Bool) (most : ℕ) (p : List Block → Type 0) (b : Bool)
    (f : Filling) (x : BlockPart) (parts : List BlockPart) → Place p (Fit options m t most) b f.done
    → taken_by options m t (f.now ++ x.block ∷ []) ≤ f.used + block_cost (piece_options options) m x.block
    → ((bs : List Block) → Okay options m t f.free bs → Here p (Fit options m t most) b bs)
    → Here p (Fit options m t most) b (f.now ++ x.block ∷ []) → AllBlocks (BlockFit options m most) parts
    → IsGood options m t most p (with_parts most f (x ∷ parts) (cost_of_last (bounds options most) m (x ∷ parts)))
parts-good options m t most p b f x parts place used fits here none_left = (
  b,
  record {
    place = place;
    some = none-append f.now (x.block ∷ []) refl;
    used = used;
    fits = fits;
    here = here;
  },
)
parts-good options m t most p b f x parts place used fits here (one_left y rest fit others) = (
  false,
  further-good options m t most p b (record f { now = f.now ++ x.block ∷ [] }) y rest place
      (none-append f.now (x.block ∷ []) refl) here fit others,
)

-- a block cut into these parts, where so much room is left
abbrev pub cut_in : DocumentOptions → Margin → ℕ → (ℕ → List BlockPart) → Filling → Filling
cut_in options m most parts g =
    with_parts most g (parts (g.free - g.used)) (cost_of_last (bounds options most) m (parts (g.free - g.used)))

-- headings stand before it, and the least of it fits
behind-good : (options : DocumentOptions) (m : Margin) (t : Bool) (most : ℕ) (p : List Block → Type 0) (b : Bool)
    (g : Filling) (least : ℕ) (parts : List BlockPart) → Place p (Fit options m t most) b g.done
    → ((x : Block) → taken_by options m t (g.now ++ x ∷ []) ≤ g.used + block_cost (piece_options options) m x)
    → ((bs : List Block) → Okay options m t g.free bs → Here p (Fit options m t most) b bs)
    → g.used + least ≤ g.free → CutWell options m most (g.free - g.used) least parts
    → IsGood options m t most p (with_parts most g parts (cost_of_last (bounds options most) m parts))
behind-good options m t most p b g least parts place used fits le (cut_into x rest first others) =
    let ok : BlockOkay options m (g.free - g.used) x.block = first.fits (omega (arith, le)) in
    parts-good options m t most p b g x rest place (used x.block) fits
    (fits (g.now ++ x.block ∷ []) (either x.block ok)) others
  where
    either : (x : Block) → BlockOkay options m (g.free - g.used) x
        → Okay options m t g.free (g.now ++ x ∷ [])
    either x (inl fit) = inl (omega (arith, used x, fit, le))
    either x (inr ends) = inr (end-behind g.now x ends)

-- it stands in a part that was all free
alone-good : (options : DocumentOptions) (m : Margin) (t : Bool) (most : ℕ) (p : List Block → Type 0) (b : Bool)
    (done : List Part) (free : ℕ) (continues : List Joint) (room least : ℕ) (parts : List BlockPart)
    → Place p (Fit options m t most) b done
    → ((bs : List Block) → Okay options m t free bs → Here p (Fit options m t most) b bs)
    → ((x : Block) → FirstBlock options m most room least x → Here p (Fit options m t most) b (x ∷ []))
    → CutWell options m most room least parts
    → IsGood options m t most p
    (with_parts most (fresh done free continues) parts (cost_of_last (bounds options most) m parts))
alone-good options m t most p b done free continues room least parts place fits here (cut_into x rest first others) =
    parts-good options m t most p b (fresh done free continues) x rest place
    (omega (arith, one-cost (piece_options options) m t x.block)) fits (here x.block first) others

pub cut-first : (options : DocumentOptions) (m : Margin) (t : Bool) (most : ℕ) (p : List Block → Type 0) (b : Bool)
    (done : List Part) (free : ℕ) (continues : List Joint) (heads : List Block) (least : ℕ)
    (parts : ℕ → List BlockPart) → AreHeadings heads
    → ((room : ℕ) → CutWell options m most room least (parts room))
    → Fresh options m t most p (heads_cost (piece_options options) m t heads + least) b done free
    → IsGood options m t most p
    (cut_in options m most parts
    (with_heads most (gap m t) (fresh done free continues) heads (heads_cost (piece_options options) m t heads)
    (heads_cost (piece_options options) m t heads + least)))
cut-first options m t most p b done free continues [] least parts all well was =
    alone-good options m t most p b done free continues (free - 0) least (parts (free - 0)) was.place was.fits
    (λ x first. elim (nat_le least free)
    as (λ e. nat_le least free ≡ e → Here p (Fit options m t most) b (x ∷ [])) [
      | true ↦ λ le. was.fits (x ∷ []) (one-okay options m t free x
          (subst (λ n. BlockOkay options m n x) (omega arith)
          (first.fits (omega (arith, leb-true least free le)))))
      | false ↦ λ no. was.loose (x ∷ []) (ap (λ n. nat_le n free) (omega arith) ∙ no)
          (λ all_free. one-fit options m t most x (first.short (omega (arith, all_free))))
    ] refl)
    (well (free - 0))
cut-first options m t most p b done free continues (h ∷ hs) least parts all well was =
    let o = piece_options options in
    let heads = h ∷ hs in
    let taken = heads_cost o m t heads in
    let g : Filling = with_blocks (gap m t) (fresh done free continues) heads taken in
    let q = Fit options m t most in
    elim (nat_le (taken + least) free)
    as (λ e. nat_le (taken + least) free ≡ e
    → IsGood options m t most p (cut_in options m most parts (cond (not e) (flushed most g) g))) [
      | true ↦ λ le.
          behind-good options m t most p b g least (parts (g.free - g.used)) was.place
          (λ x. omega (arith, unit-cost o m t heads x)) was.fits
          (omega (arith, leb-true (taken + least) free le)) (well (g.free - g.used))
      | false ↦ λ no.
          alone-good options m t most p false (parts_in g) most [] (most - 0) least (parts (most - 0))
          (later (parts_in g)
          (parts-behind p q b done (part_in g) was.place refl
          (was.loose heads no (λ all_free. headings-fit options m t most heads all))))
          (λ bs ok. okay-fit options m t most bs ok)
          (λ x first. one-fit options m t most x (first.short (omega arith)))
          (well (most - 0))
    ] refl

-- with headings, or behind them
abbrev led : ℕ → ℕ → List Block → ℕ → ℕ → Filling → Filling
led most gap_bytes heads taken bytes g =
    let h = with_blocks gap_bytes g heads taken in
    cond (is_none g.now && not (is_none heads) && not (nat_le bytes g.free)) (flushed most h) h

pub cut-good : (options : DocumentOptions) (m : Margin) (t : Bool) (most : ℕ) (p : List Block → Type 0) (b : Bool)
    (f : Filling) (heads : List Block) (least : ℕ) (parts : ℕ → List BlockPart) → AreHeadings heads
    → ((room : ℕ) → CutWell options m most room least (parts room)) → Good options m t most p b f
    → IsGood options m t most p
    (cut_in options m most parts
    (with_heads most (gap m t) f heads (heads_cost (piece_options options) m t heads)
    (heads_cost (piece_options options) m t heads + least)))
cut-good options m t most p b f heads least parts all well good =
    let o = piece_options options in
    let taken = heads_cost o m t heads in
    let bytes = taken + least in
    elim (is_none f.now || has_room (gap m t) f bytes)
    as (λ e. (is_none f.now || has_room (gap m t) f bytes) ≡ e
    → IsGood options m t most p
    (cut_in options m most parts (led most (gap m t) heads taken bytes (cond e f (flushed most f))))) [
      | true ↦ λ room. here (sym (ap (λ n. n || has_room (gap m t) f bytes) good.some) ∙ room)
      | false ↦ λ full.
          cut-first options m t most p false (parts_in f) most [] heads least parts all well
          (flushed-fresh options m t most p bytes b f good)
    ] refl
  where
    -- what stands there with the headings and a gap
    grown : (hs : List Block)
        → taken_by options m t (f.now ++ hs) + gap_if (is_none (f.now ++ hs)) (gap m t)
        ≡ (taken_by options m t f.now + gap_if (is_none f.now) (gap m t))
        + heads_cost (piece_options options) m t hs
    grown hs =
        blocks-cost (piece_options options) m t (f.now ++ hs) ∙ heads-append (piece_options options) m t f.now hs
        ∙ ap (λ n. n + heads_cost (piece_options options) m t hs)
        (sym (blocks-cost (piece_options options) m t f.now))

    here : has_room (gap m t) f (heads_cost (piece_options options) m t heads + least) ≡ true
        → IsGood options m t most p
        (cut_in options m most parts
        (led most (gap m t) heads (heads_cost (piece_options options) m t heads)
        (heads_cost (piece_options options) m t heads + least) f))
    here room =
        let o = piece_options options in
        let taken = heads_cost o m t heads in
        let h : Filling = with_blocks (gap m t) f heads taken in
        let le : f.used + gap_if (is_none f.now) (gap m t) + (taken + least) ≤ f.free =
        leb-true (f.used + gap_if (is_none f.now) (gap m t) + (taken + least)) f.free room in
        let not_alone : (is_none f.now && not (is_none heads) && not (nat_le (taken + least) f.free)) ≡ false =
        ap (λ n. n && not (is_none heads) && not (nat_le (taken + least) f.free)) good.some in
        subst (λ e. IsGood options m t most p (cut_in options m most parts (cond e (flushed most h) h)))
        (sym not_alone)
        (behind-good options m t most p b h least (parts (h.free - h.used)) good.place
        (λ x. omega (
          arith,
          costs-behind o m t (f.now ++ heads) (x ∷ []) refl,
          good.used,
          one-cost o m t x,
          grown heads,
        ))
        good.fits (omega (arith, le)) (well (h.free - h.used)))
