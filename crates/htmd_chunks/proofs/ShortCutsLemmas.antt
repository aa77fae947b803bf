-- What blocks are cut into fits, or can't be cut.
use Rattle.std.proofs.Common.{◌≡◌, ℕ, zero, suc, ◌+◌, ◌-◌, ◌≤◌, Bool, true, false, not, cond, List, [], ◌∷◌, ◌++◌, map}
use Rattle.std.proofs.Common.{refl, sym, ap, ◌∙◌, subst, inl, inr, arith, leb-false, Option}
use Rattle.std.specs.Prelude.{◌&&◌, ◌||◌, nat_le}
use Rattle.std.proofs.lemmas.Bool.{and_parts}
use Rattle.htmd_document.specs.Documents.{Block, paragraph, heading, code_block, quote, thematic_break, list, table}
use Rattle.htmd_document.specs.Documents.{element, tags, Blocks, no_blocks, block, blocks_of, Items, no_items, item}
use Rattle.htmd_document.specs.FlatDocuments.{flat_all, flat_items}
use Rattle.htmd_document.specs.NormalDocuments.{item_count as count_of}
use Rattle.htmd_document.specs.NormalDocuments.{is_normal_block, are_normal_blocks, are_normal_items, is_normal_list}
use Rattle.htmd_document.specs.NormalDocuments.{has_filled_item, are_short_numbers, has_right_distance}
use Rattle.htmd_document.specs.TightItems.{is_filled}
use Rattle.htmd_commonmark.specs.BlockMarkdown.{item_count}
use Rattle.htmd_commonmark.specs.declared.options.DocumentOptions.{DocumentOptions}
use Rattle.htmd_chunks.specs.Cuts.{block_part, whole, quote_part, quote_parts, cut, filled, items_filled}
use Rattle.htmd_chunks.specs.Fillings.{Part, BlockPart, Filling, ListFilling, parts_in, list_parts_in, with_whole}
use Rattle.htmd_chunks.specs.Fillings.{with_heads}
use Rattle.htmd_chunks.specs.Least.{is_heading, is_too_large, empties_before, group_cost, least, least_among}
use Rattle.htmd_chunks.specs.Least.{least_item}
use Rattle.htmd_chunks.specs.Measures.{gap, block_cost, blocks_size, heads_cost, empties_cost, item_width}
use Rattle.htmd_chunks.specs.Measures.{empty_item_size}
use Rattle.htmd_chunks.specs.Pieces.{piece_options}
use Rattle.htmd_chunks.specs.Runs.{is_none}
use Rattle.htmd_chunks.specs.ShortPieces.{is_least, ends_empty}
use Rattle.htmd_chunks.specs.Sizes.{cost, in_quote, in_item}
use Rattle.htmd_chunks.specs.declared.bounds.ListShape.{ListShape}
use Rattle.htmd_chunks.specs.declared.joint.Joint.{Joint}
use Rattle.htmd_chunks.specs.declared.size.Margin.{Margin}
use Rattle.htmd_chunks.proofs.CostsLemmas.{cost-quoted, heads-append, heads-cons, unit-cost, heads-alone}
use Rattle.htmd_chunks.proofs.ShortItemsLemmas.{GoodList, FreshList, fresh_list, IsGoodList, block-okay-fit}
use Rattle.htmd_chunks.proofs.ShortItemsLemmas.{good-list-parts, first_part, FirstPart, SplitWell, group, group_least}
use Rattle.htmd_chunks.proofs.ShortItemsLemmas.{group-good, group-first}
use Rattle.htmd_chunks.proofs.ShortCodeLemmas.{code-well}
use Rattle.htmd_chunks.proofs.ShortLeavesLemmas.{paragraph-well}
use Rattle.htmd_chunks.proofs.ShortTablesLemmas.{table-well}
use Rattle.htmd_chunks.proofs.ShortPartsLemmas.{bounds, Okay, Fit, BlockOkay, BlockFit, okay-fit, AreHeadings}
use Rattle.htmd_chunks.proofs.ShortPartsLemmas.{headings-fit, headings-more, AllParts, no_more, one_more}
use Rattle.htmd_chunks.proofs.ShortPartsLemmas.{parts_are, at_first, Good, fresh, Fresh, IsGood, good-parts, whole-good}
use Rattle.htmd_chunks.proofs.ShortPartsLemmas.{whole-first, small-fit, AllBlocks, none_left, one_left}
use Rattle.htmd_chunks.proofs.ShortPartsLemmas.{cut_into, FirstBlock, CutWell, cut_in, cut-first, cut-good}

-- ---- what isn't cut

whole-well : (options : DocumentOptions) (m : Margin) (most first : ℕ) (b : Block) → is_least b ≡ true
    → CutWell options m most first (block_cost (piece_options options) m b) (whole b)
whole-well options m most first b least =
    cut_into (block_part [] b) []
    (record { fits = λ le. inl le; short = λ is. inr (ap (λ e. e || ends_empty b) least) }) none_left

-- ---- quotes

quote-okay : (options : DocumentOptions) (m : Margin) (bound : ℕ) (bs : List Block)
    → Okay options (in_quote m) false bound bs → BlockOkay options m bound (quote (blocks_of bs))
quote-okay options m bound bs (inl le) =
    inl (omega (arith, cost-quoted m (blocks_size (piece_options options) false (blocks_of bs)), le))
quote-okay options m bound bs (inr ends) = inr ends

quote-fit : (options : DocumentOptions) (m : Margin) (most : ℕ) (bs : List Block)
    → Fit options (in_quote m) false most bs → BlockFit options m most (quote (blocks_of bs))
quote-fit options m most bs (inl le) =
    inl (omega (arith, cost-quoted m (blocks_size (piece_options options) false (blocks_of bs)), le))
quote-fit options m most bs (inr longer) = inr longer

quotes-later : (options : DocumentOptions) (m : Margin) (most : ℕ) (parts : List Part)
    → AllParts (Fit options (in_quote m) false most) parts
    → AllBlocks (BlockFit options m most) (map quote_part parts)
quotes-later options m most parts no_more = none_left
quotes-later options m most parts (one_more p rest some here others) =
    one_left (quote_part p) (map quote_part rest) (quote-fit options m most p.blocks here)
    (quotes-later options m most rest others)

quotes-well : (options : DocumentOptions) (m : Margin) (most first least : ℕ) (parts : List Part)
    → SplitWell options (in_quote m) false most first least parts
    → CutWell options m most first least (quote_parts parts)
quotes-well options m most first least parts (parts_are p rest some here others) =
    cut_into (block_part [] (quote (blocks_of p.blocks))) (map quote_part rest)
    (record {
      fits = λ le. quote-okay options m first p.blocks (here.fits le);
      short = λ is. quote-fit options m most p.blocks (here.short is);
    })
    (quotes-later options m most rest others)

-- ---- where filling begins

too-much : (least free : ℕ) → nat_le least free ≡ false → least ≤ free → {X : Type 0} → X
too-much least free over le {X} = absurd (let lt = leb-false least free over in omega (arith, lt, le))

pub first-fresh : (options : DocumentOptions) (m : Margin) (t : Bool) (most first least : ℕ)
    → Fresh options m t most (FirstPart options m t most first least) least true [] first
first-fresh options m t most first least =
    record {
      place = at_first;
      fits = λ bs ok. (record {
        fits = λ le. ok;
        short = λ is. okay-fit options m t most bs (subst (λ n. Okay options m t n bs) is ok);
      });
      loose = λ bs no longer. (record { fits = λ le. too-much least first no le; short = longer });
    }

first-fresh-list : (options : DocumentOptions) (m : Margin) (most first least : ℕ)
    → FreshList options m most (FirstBlock options m most first least) least true [] first
first-fresh-list options m most first least =
    record {
      place = first_part;
      fits = λ x ok. (record {
        fits = λ le. ok;
        short = λ is. block-okay-fit options m most x (subst (λ n. BlockOkay options m n x) is ok);
      });
      loose = λ x no longer. (record { fits = λ le. too-much least first no le; short = longer });
    }

-- ---- headings before blocks

-- what stands there with these headings takes at least
abbrev lead : DocumentOptions → Margin → Bool → ℕ → List Block → Blocks → ℕ
lead options m t most heads blocks =
    let taken = heads_cost (piece_options options) m t heads in
    cond (is_filled blocks) (least_among (bounds options most) m t taken blocks) (taken - gap m t)

-- the same with a heading more
lead-more : (options : DocumentOptions) (m : Margin) (t : Bool) (most : ℕ) (heads : List Block) (b : Block)
    (rest : Blocks)
    → cond (is_filled rest)
    (least_among (bounds options most) m t
    ((heads_cost (piece_options options) m t heads + block_cost (piece_options options) m b) + gap m t) rest)
    (heads_cost (piece_options options) m t heads + block_cost (piece_options options) m b)
    ≡ lead options m t most (heads ++ b ∷ []) rest
lead-more options m t most heads b rest =
    let o = piece_options options in
    let taken = heads_cost o m t heads + block_cost o m b in
    let more : taken + gap m t ≡ heads_cost o m t (heads ++ b ∷ []) =
    omega (arith, heads-append o m t heads (b ∷ []), heads-cons o m t b []) in
    elim (is_filled rest)
    as (λ e. cond e (least_among (bounds options most) m t (taken + gap m t) rest) taken
    ≡ cond e (least_among (bounds options most) m t (heads_cost o m t (heads ++ b ∷ [])) rest)
    (heads_cost o m t (heads ++ b ∷ []) - gap m t)) [
      | true ↦ ap (λ n. least_among (bounds options most) m t n rest) more
      | false ↦ omega (arith, more)
    ]

-- ---- items

empties-snoc : (m : Margin) (l : ListShape) (k n : ℕ)
    → empties_cost m l k (suc n)
    ≡ empties_cost m l k n + (cost m (empty_item_size l (k + n)) + gap m l.is_tight)
empties-snoc m l k zero =
    let same : k + 0 ≡ k = omega arith in
    omega (arith, ap (λ i. cost m (empty_item_size l i)) same)
empties-snoc m l k (suc n) =
    let same : suc k + n ≡ k + suc n = omega arith in
    omega (arith, empties-snoc m l (suc k) n, ap (λ i. cost m (empty_item_size l i)) same)

zero-plus : (k : ℕ) → 0 + k ≡ k
zero-plus k = omega arith

few-empties : (items : Items) → empties_before items ≤ item_count items
few-empties no_items = omega arith
few-empties (item no_blocks rest) = omega (arith, few-empties rest)
few-empties (item (block b bs) rest) = omega arith

flat-none : (content : Blocks) → is_filled (flat_all content no_blocks) ≡ true → is_filled content ≡ true
flat-none no_blocks some = absurd (cc)
flat-none (block b bs) some = refl

some-filled : (items : Items) → has_filled_item (flat_items items) ≡ true → has_filled_item items ≡ true
some-filled no_items some = absurd (cc)
some-filled (item no_blocks rest) some = some-filled rest some
some-filled (item (block b bs) rest) some = refl

normal-filled : (start : Option ℕ) (is_tight : Bool) (items : Items)
    → is_normal_list start is_tight (flat_items items) ≡ true → has_filled_item items ≡ true
normal-filled start is_tight items normal =
    let flat = flat_items items in
    let p = and_parts (has_filled_item flat && are_short_numbers start (count_of flat))
    (has_right_distance is_tight flat) normal in
    some-filled items (and_parts (has_filled_item flat) (are_short_numbers start (count_of flat)) p.0).0

-- up to some place
abbrev SomeList : DocumentOptions → Margin → ListShape → ℕ → (Block → Type 0) → ListFilling → Type 0
SomeList options m l most p f = (next : ℕ) × IsGoodList options m l most p next f

-- the parts of an item's blocks
split-parts : (options : DocumentOptions) (most : ℕ) (m : Margin) (t : Bool) (room : ℕ) (content : Blocks)
    → IsGood options m t most (FirstPart options m t most room (least_among (bounds options most) m t 0 content))
    (filled (bounds options most) m t (fresh [] room []) [] content)
    → SplitWell options m t most room (least_among (bounds options most) m t 0 content)
    (parts_in (filled (bounds options most) m t (fresh [] room []) [] content))
split-parts options most m t room content good =
    good-parts options m t most
    (FirstPart options m t most room (least_among (bounds options most) m t 0 content)) good.0
    (filled (bounds options most) m t (fresh [] room []) [] content) good.1

some-behind : (heads : List Block) (b : Block) → is_none (heads ++ b ∷ []) ≡ false
some-behind [] b = refl
some-behind (h ∷ heads) b = refl

some-heads : (heads : List Block) (b : Block) (e : Bool) → (e || not (is_none (heads ++ b ∷ []))) ≡ true
some-heads [] b true = refl
some-heads [] b false = refl
some-heads (h ∷ heads) b true = refl
some-heads (h ∷ heads) b false = refl

-- ---- all of it

mutual
  pub cut-well : (options : DocumentOptions) (most : ℕ) (m : Margin) (first : ℕ) (in_item : Bool) (b : Block)
      → is_normal_block in_item b ≡ true
      → CutWell options m most first (least (bounds options most) m b) (cut (bounds options most) m first b)
  cut-well options most m first in_item (quote no_blocks) normal = absurd (cc)
  cut-well options most m first in_item (quote (block b bs)) normal =
      let content = block b bs in
      let inner = in_quote m in
      let least_bytes = least_among (bounds options most) inner false 0 content in
      let p = FirstPart options inner false most first least_bytes in
      let good = fill-first options most inner false first least_bytes false true [] first [] [] (block b bs) refl
      refl normal
      (first-fresh options inner false most first least_bytes) in
      quotes-well options m most first least_bytes
      (parts_in (filled (bounds options most) inner false (fresh [] first []) [] content))
      (good-parts options inner false most p good.0
      (filled (bounds options most) inner false (fresh [] first []) [] content) good.1)
  cut-well options most m first in_item (list start is_tight items) normal =
      let c = bounds options most in
      let l : ListShape = record { start = start; is_tight = is_tight; count = item_count items } in
      let q = and_parts (is_normal_list start is_tight (flat_items items)) (are_normal_items items) normal in
      let least_bytes = least_item c m l 0 0 items in
      let p = FirstBlock options m most first least_bytes in
      let f = items_filled c m l (fresh_list [] 0 first []) 0 (empties_before items) items in
      let some = normal-filled start is_tight items q.0 in
      let good = fill-items-first options most m l first least_bytes true [] first [] 0 (empties_before items) items 0
      (omega arith) (omega arith) q.1 some refl (first-fresh-list options m most first least_bytes) in
      let parts = good-list-parts options m l most p good.0 good.1.0 f good.1.1 in
      subst (λ e. CutWell options m most first least_bytes
      (cond e (list_parts_in l f) (whole (list start is_tight items)))) (sym some) parts
  cut-well options most m first in_item (table alignments header rows) normal =
      table-well options m most first alignments header rows normal
  cut-well options most m first in_item (code_block language s) normal =
      code-well options m most first language s normal
  cut-well options most m first in_item (paragraph content) normal =
      paragraph-well options m most first in_item content normal
  cut-well options most m first in_item (heading level content) normal =
      whole-well options m most first (heading level content) refl
  cut-well options most m first in_item thematic_break normal =
      whole-well options m most first thematic_break refl
  cut-well options most m first in_item (element name attributes content) normal =
      whole-well options m most first (element name attributes content) refl
  cut-well options most m first in_item (tags s) normal = whole-well options m most first (tags s) refl

  -- where nothing stands in the part
  pub fill-first : (options : DocumentOptions) (most : ℕ) (m : Margin) (t : Bool) (limit bound : ℕ)
      (in_item b : Bool) (done : List Part) (free : ℕ) (continues : List Joint) (heads : List Block) (blocks : Blocks)
      → AreHeadings heads → (is_filled blocks || not (is_none heads)) ≡ true
      → are_normal_blocks in_item blocks ≡ true
      → Fresh options m t most (FirstPart options m t most limit bound) (lead options m t most heads blocks) b done
      free
      → IsGood options m t most (FirstPart options m t most limit bound)
      (filled (bounds options most) m t (fresh done free continues) heads blocks)
  fill-first options most m t limit bound in_item b done free continues [] no_blocks all some normal was = absurd (cc)
  fill-first options most m t limit bound in_item b done free continues (h ∷ hs) no_blocks all some normal was =
      let o = piece_options options in
      let heads = h ∷ hs in
      whole-first options m t most (FirstPart options m t most limit bound) b done free continues heads
      (heads_cost o m t heads - gap m t) refl
      (heads-alone o m t heads refl) (headings-fit options m t most heads all) was
  fill-first options most m t limit bound in_item b done free continues heads (block first rest) all some normal was =
      let o = piece_options options in
      let c = bounds options most in
      let q = and_parts (is_normal_block in_item first) (are_normal_blocks false rest) normal in
      let taken = heads_cost o m t heads in
      let bytes = taken + block_cost o m first in
      let least_bytes = least c m first in
      let f = fresh done free continues in
      let parts : ℕ → List BlockPart = (λ room. cut c m room first) in
      let well : (room : ℕ) → CutWell options m most room least_bytes (parts room) =
      (λ room. cut-well options most m room in_item first q.0) in
      let cut_off = cut_in options m most parts (with_heads most (gap m t) f heads taken (taken + least_bytes)) in
      let kept = with_whole most (gap m t) f (heads ++ first ∷ []) bytes in
      elim (is_heading first)
      as (λ e. is_heading first ≡ e
      → Fresh options m t most (FirstPart options m t most limit bound)
      (cond e (cond (is_filled rest) (least_among c m t (bytes + gap m t) rest) bytes)
      (cond (is_too_large c m taken first) (taken + least_bytes) bytes)) b done free
      → IsGood options m t most (FirstPart options m t most limit bound)
      (cond e (filled c m t f (heads ++ first ∷ []) rest)
      (filled c m t (cond (is_too_large c m taken first) cut_off kept) [] rest))) [
        | true ↦ λ is fresh_here.
            fill-first options most m t limit bound false b done free continues (heads ++ first ∷ []) rest
            (headings-more heads first all is) (some-heads heads first (is_filled rest)) q.1
            (subst (λ n. Fresh options m t most (FirstPart options m t most limit bound) n b done free)
            (lead-more options m t most heads first rest)
            fresh_here)
        | false ↦ λ other.
            elim (is_too_large c m taken first)
            as (λ e. is_too_large c m taken first ≡ e
            → Fresh options m t most (FirstPart options m t most limit bound) (cond e (taken + least_bytes) bytes) b
            done free
            → IsGood options m t most (FirstPart options m t most limit bound)
            (filled c m t (cond e cut_off kept) [] rest)) [
              | true ↦ λ large fresh_here.
                  (let good = cut-first options m t most (FirstPart options m t most limit bound) b done free
                  continues heads least_bytes parts all well
                  fresh_here in
                  fill-good options most m t limit bound false good.0 cut_off [] rest refl q.1 good.1)
              | false ↦ λ small fresh_here.
                  (let good = whole-first options m t most (FirstPart options m t most limit bound) b done free
                  continues (heads ++ first ∷ []) bytes
                  (some-behind heads first) (unit-cost o m t heads first)
                  (small-fit options m t most heads first all small) fresh_here in
                  fill-good options most m t limit bound false good.0 kept [] rest refl q.1 good.1)
            ] refl
      ] refl was

  -- where something does
  pub fill-good : (options : DocumentOptions) (most : ℕ) (m : Margin) (t : Bool) (limit bound : ℕ)
      (in_item b : Bool) (f : Filling) (heads : List Block) (blocks : Blocks)
      → AreHeadings heads → are_normal_blocks in_item blocks ≡ true → Good options m t most
      (FirstPart options m t most limit bound) b f
      → IsGood options m t most (FirstPart options m t most limit bound) (filled (bounds options most) m t f heads
      blocks)
  fill-good options most m t limit bound in_item b f [] no_blocks all normal good = (b, good)
  fill-good options most m t limit bound in_item b f (h ∷ hs) no_blocks all normal good =
      let o = piece_options options in
      let heads = h ∷ hs in
      whole-good options m t most (FirstPart options m t most limit bound) b f heads
      (heads_cost o m t heads - gap m t) refl
      (heads-alone o m t heads refl) (headings-fit options m t most heads all) good
  fill-good options most m t limit bound in_item b f heads (block first rest) all normal good =
      let o = piece_options options in
      let c = bounds options most in
      let q = and_parts (is_normal_block in_item first) (are_normal_blocks false rest) normal in
      let taken = heads_cost o m t heads in
      let bytes = taken + block_cost o m first in
      let least_bytes = least c m first in
      let parts : ℕ → List BlockPart = (λ room. cut c m room first) in
      let well : (room : ℕ) → CutWell options m most room least_bytes (parts room) =
      (λ room. cut-well options most m room in_item first q.0) in
      let cut_off = cut_in options m most parts (with_heads most (gap m t) f heads taken (taken + least_bytes)) in
      let kept = with_whole most (gap m t) f (heads ++ first ∷ []) bytes in
      elim (is_heading first)
      as (λ e. is_heading first ≡ e
      → IsGood options m t most (FirstPart options m t most limit bound)
      (cond e (filled c m t f (heads ++ first ∷ []) rest)
      (filled c m t (cond (is_too_large c m taken first) cut_off kept) [] rest))) [
        | true ↦ λ is.
            fill-good options most m t limit bound false b f (heads ++ first ∷ []) rest
            (headings-more heads first all is) q.1
            good
        | false ↦ λ other.
            elim (is_too_large c m taken first)
            as (λ e. is_too_large c m taken first ≡ e
            → IsGood options m t most (FirstPart options m t most limit bound)
            (filled c m t (cond e cut_off kept) [] rest)) [
              | true ↦ λ large.
                  (let next = cut-good options m t most (FirstPart options m t most limit bound) b f heads least_bytes
                  parts all well good in
                  fill-good options most m t limit bound false next.0 cut_off [] rest refl q.1 next.1)
              | false ↦ λ small.
                  (let next = whole-good options m t most (FirstPart options m t most limit bound) b f
                  (heads ++ first ∷ []) bytes (some-behind heads first)
                  (unit-cost o m t heads first) (small-fit options m t most heads first all small) good in
                  fill-good options most m t limit bound false next.0 kept [] rest refl q.1 next.1)
            ] refl
      ] refl

  fill-items-first : (options : DocumentOptions) (most : ℕ) (m : Margin) (l : ListShape) (limit bound : ℕ)
      (b : Bool) (done : List BlockPart) (free : ℕ) (continues : List Joint) (k before : ℕ) (items : Items)
      (heads : ℕ)
      → before ≡ k + empties_before items → k + item_count items ≤ l.count → are_normal_items items ≡ true
      → has_filled_item items ≡ true → heads ≡ empties_cost m l 0 k
      → FreshList options m most (FirstBlock options m most limit bound) (least_item (bounds options most) m l k heads
      items) b done free
      → SomeList options m l most (FirstBlock options m most limit bound)
      (items_filled (bounds options most) m l (fresh_list done 0 free continues) k before items)
  fill-items-first options most m l limit bound b done free continues k before no_items heads at within normal some is
      was =
      absurd (cc)
  fill-items-first options most m l limit bound b done free continues k before (item no_blocks rest) heads at within
      normal some is was =
      fill-items-first options most m l limit bound b done free continues (suc k) before rest
      (heads + (cost m (empty_item_size l k) + gap m l.is_tight)) (omega (arith, at)) (omega (arith, within)) normal
      some (omega (arith, is, empties-snoc m l 0 k, ap (λ i. cost m (empty_item_size l i)) (zero-plus k))) was
  fill-items-first options most m l limit bound b done free continues k before (item (block first bs) rest) heads at
      within normal some is was =
      let c = bounds options most in
      let content = block first bs in
      let after = empties_before rest in
      let q = and_parts (are_normal_blocks true content) (are_normal_items rest) normal in
      let few = few-empties rest in
      let inner = in_item (item_width (piece_options options) l k) m in
      let parts : ℕ → List Part =
      (λ room. parts_in (filled c inner l.is_tight (fresh [] room []) [] content)) in
      let well : (room : ℕ) → SplitWell options inner l.is_tight most room
      (least_among c inner l.is_tight 0 content) (parts room) =
      (λ room. split-parts options most inner l.is_tight room content
      (fill-first options most inner l.is_tight room (least_among c inner l.is_tight 0 content) true true [] room [] []
      (block first bs) refl refl q.0
      (first-fresh options inner l.is_tight most room (least_among c inner l.is_tight 0 content)))) in
      let same : heads ≡ empties_cost m l 0 before = is ∙ ap (empties_cost m l 0) (omega (arith, at)) in
      let fresh_here : FreshList options m most (FirstBlock options m most limit bound)
      (group_least options m most l 0 k before content after) b done free =
      subst (λ n. FreshList options m most (FirstBlock options m most limit bound)
      (cond (nat_le (group_cost c m l k n content after) most) (group_cost c m l k n content after)
      (n + least_among c inner l.is_tight 0 content)) b done free) same was in
      let good = group-first options m l most (FirstBlock options m most limit bound) b done free continues 0 k before
      content after parts
      (omega (arith, at)) (omega (arith, within, few)) well fresh_here in
      let here : IsGoodList options m l most (FirstBlock options m most limit bound) (suc k + after)
      (group options m most l (fresh_list done 0 free continues) (k - before) k before content after parts) =
      subst (λ n. IsGoodList options m l most (FirstBlock options m most limit bound) (suc k + after)
      (group options m most l (fresh_list done 0 free continues) n k before content after parts)) (omega (arith, at))
      good in
      fill-items-good options most m l limit bound (suc k + after) here.0
      (group options m most l (fresh_list done 0 free continues) (k - before) k before content after parts) (suc k) rest
      refl (omega (arith, within)) q.1 here.1

  fill-items-good : (options : DocumentOptions) (most : ℕ) (m : Margin) (l : ListShape) (limit bound : ℕ)
      (next : ℕ) (b : Bool) (f : ListFilling) (k : ℕ) (items : Items)
      → next ≡ k + empties_before items → k + item_count items ≤ l.count → are_normal_items items ≡ true
      → GoodList options m l most (FirstBlock options m most limit bound) next b f
      → SomeList options m l most (FirstBlock options m most limit bound) (items_filled (bounds options most) m l f k
      0 items)
  fill-items-good options most m l limit bound next b f k no_items at within normal good = (next, (b, good))
  fill-items-good options most m l limit bound next b f k (item no_blocks rest) at within normal good =
      fill-items-good options most m l limit bound next b f (suc k) rest (omega (arith, at)) (omega (arith, within))
      normal good
  fill-items-good options most m l limit bound next b f k (item (block first bs) rest) at within normal good =
      let c = bounds options most in
      let content = block first bs in
      let after = empties_before rest in
      let q = and_parts (are_normal_blocks true content) (are_normal_items rest) normal in
      let few = few-empties rest in
      let inner = in_item (item_width (piece_options options) l k) m in
      let parts : ℕ → List Part =
      (λ room. parts_in (filled c inner l.is_tight (fresh [] room []) [] content)) in
      let well : (room : ℕ) → SplitWell options inner l.is_tight most room
      (least_among c inner l.is_tight 0 content) (parts room) =
      (λ room. split-parts options most inner l.is_tight room content
      (fill-first options most inner l.is_tight room (least_among c inner l.is_tight 0 content) true true [] room [] []
      (block first bs) refl refl q.0
      (first-fresh options inner l.is_tight most room (least_among c inner l.is_tight 0 content)))) in
      let good_here : GoodList options m l most (FirstBlock options m most limit bound) (k - 0) b f =
      subst (λ n. GoodList options m l most (FirstBlock options m most limit bound) n b f) (omega (arith, at)) good in
      let here = group-good options m l most (FirstBlock options m most limit bound) b f (k - 0) k 0 content after
      parts (omega arith)
      (omega (arith, within, few)) well good_here in
      fill-items-good options most m l limit bound (suc k + after) here.0
      (group options m most l f (k - 0) k 0 content after parts) (suc k) rest refl (omega (arith, within)) q.1 here.1
