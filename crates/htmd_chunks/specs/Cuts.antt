-- What blocks are cut into, each part with as much as fits and the least of something at least.
use Rattle.std.specs.Prelude.{ℕ, suc, ◌+◌, ◌-◌, Bool, false, nat_le, if◌then◌else◌, List, [], ◌∷◌, ◌++◌, map}
use Rattle.std.specs.Prelude.{replicate}
use Rattle.htmd_document.specs.Documents.{inlines_of, Block, paragraph, heading, code_block, quote}
use Rattle.htmd_document.specs.Documents.{thematic_break, list, table, element, tags, Blocks, no_blocks, block}
use Rattle.htmd_document.specs.Documents.{blocks_of, Items, no_items, item}
use Rattle.htmd_document.specs.NormalDocuments.{has_filled_item}
use Rattle.htmd_commonmark.specs.BlockMarkdown.{item_count}
use Rattle.htmd_chunks.specs.CodeLines.{code_parts}
use Rattle.htmd_chunks.specs.Fillings.{Part, BlockPart, Filling, ListFilling, filling, parts_in, with_whole}
use Rattle.htmd_chunks.specs.Fillings.{with_heads}
use Rattle.htmd_chunks.specs.Fillings.{with_parts, list_filling, list_parts_in, list_with_room, list_gap_in}
use Rattle.htmd_chunks.specs.Fillings.{with_whole_items, with_item_parts, with_empty_items}
use Rattle.htmd_chunks.specs.Least.{is_heading, is_too_large, empties_before, group_cost, least}
use Rattle.htmd_chunks.specs.Least.{least_among}
use Rattle.htmd_chunks.specs.Measures.{gap, block_cost, blocks_size, heads_cost, empties_cost, item_width}
use Rattle.htmd_chunks.specs.Rows.{table_parts}
use Rattle.htmd_chunks.specs.Runs.{is_none}
use Rattle.htmd_chunks.specs.Sizes.{cost, in_quote, in_item}
use Rattle.htmd_chunks.specs.Words.{paragraph_parts}
use Rattle.htmd_chunks.specs.declared.bounds.Bounds.{Bounds}
use Rattle.htmd_chunks.specs.declared.bounds.ListShape.{ListShape}
use Rattle.htmd_chunks.specs.declared.joint.Joint.{Joint}
use Rattle.htmd_chunks.specs.declared.joint.Joint.TheVariants as joint
use Rattle.htmd_chunks.specs.declared.size.Margin.{Margin}

-- ---- parts of leaves

abbrev pub block_part : List Joint → Block → BlockPart
block_part continues b = record { block = b; continues = continues }

-- the first begins the block, the others go on so
abbrev pub leaf_parts : Joint → List Block → List BlockPart
leaf_parts name [] = []
leaf_parts name (b ∷ bs) = block_part [] b ∷ map (block_part (name ∷ [])) bs

abbrev pub whole : Block → List BlockPart
whole b = block_part [] b ∷ []

-- ---- parts of quotes

abbrev pub quote_part : Part → BlockPart
quote_part p = block_part (joint.Quote ∷ p.continues) (quote (blocks_of p.blocks))

abbrev pub quote_parts : List Part → List BlockPart
quote_parts [] = []
quote_parts (p ∷ parts) = block_part [] (quote (blocks_of p.blocks)) ∷ map quote_part parts

-- ---- how many bytes the last part takes

abbrev pub cost_of_last : Bounds → Margin → List BlockPart → ℕ
cost_of_last c m [] = 0
cost_of_last c m (p ∷ []) = block_cost c.options m p.block
cost_of_last c m (p ∷ q ∷ parts) = cost_of_last c m (q ∷ parts)

abbrev pub cost_of_last_blocks : Bounds → Margin → Bool → List Part → ℕ
cost_of_last_blocks c m is_tight [] = 0
cost_of_last_blocks c m is_tight (p ∷ []) = cost m (blocks_size c.options is_tight (blocks_of p.blocks))
cost_of_last_blocks c m is_tight (p ∷ q ∷ parts) = cost_of_last_blocks c m is_tight (q ∷ parts)

-- ---- one more

-- headings and a block behind what was filled so far; `taken`: what the headings take; `parts`: what it is cut into
-- where it is too large, the first with so much room
abbrev pub with_unit : Bounds → Margin → ℕ → Filling → List Block → ℕ → Block
    → (ℕ → List BlockPart) → Filling
with_unit c m gap f heads taken b parts =
    if is_too_large c m taken b
    then (let g = with_heads c.most gap f heads taken (taken + least c m b) in
    let cut_off = parts (g.free - g.used) in
    with_parts c.most g cut_off (cost_of_last c m cut_off))
    else with_whole c.most gap f (heads ++ b ∷ []) (taken + block_cost c.options m b)

-- the item at this place, with so many empty ones before it and behind it; `parts`: what it is cut into
abbrev pub with_group : Bounds → Margin → ListShape → ListFilling → ℕ → ℕ → Blocks → ℕ
    → (ℕ → List Part) → ListFilling
with_group c m l f k before content after parts =
    let heads = empties_cost m l (k - before) before in
    let all = group_cost c m l k heads content after in
    let within = in_item (item_width c.options l k) m in
    let between = gap m l.is_tight in
    if nat_le all c.most
    then with_whole_items c.most between l f (k - before)
    (replicate before no_blocks ++ content ∷ replicate after no_blocks) all
    else (let least = heads + least_among c within l.is_tight 0 content in
    let g = list_with_room c.most between l f (k - before) least in
    let cut_off = parts (g.free - (g.used + list_gap_in between g + heads)) in
    let last = cost_of_last_blocks c within l.is_tight cut_off in
    let begun = with_item_parts c.most between l (record g { now = g.now ++ replicate before no_blocks }) k cut_off
    heads last in
    with_empty_items begun after (empties_cost m l (suc k) after))

-- ---- all of it

abbrev mutual
  -- the parts of a block, of which the first may take so many bytes
  pub cut : Bounds → Margin → ℕ → Block → List BlockPart
  cut c m first (quote content) =
      quote_parts (parts_in (filled c (in_quote m) false (filling first) [] content))
  cut c m first (list start is_tight items) =
      let l : ListShape = record { start = start; is_tight = is_tight; count = item_count items } in
      if has_filled_item items
      then list_parts_in l (items_filled c m l (list_filling first) 0 (empties_before items) items)
      else whole (list start is_tight items)
  cut c m first (table alignments header rows) =
      leaf_parts joint.Table (map (table alignments header) (table_parts c m first alignments header rows))
  cut c m first (code_block language s) =
      leaf_parts joint.Code (map (code_block language) (code_parts c m first language s))
  cut c m first (paragraph content) =
      leaf_parts joint.Paragraph (map (λ xs. paragraph (inlines_of xs)) (paragraph_parts c m first content))
  cut c m first (heading level content) = whole (heading level content)
  cut c m first thematic_break = whole thematic_break
  cut c m first (element name attributes content) = whole (element name attributes content)
  cut c m first (tags s) = whole (tags s)

  -- what these blocks fill behind what was filled so far and behind headings
  pub filled : Bounds → Margin → Bool → Filling → List Block → Blocks → Filling
  filled c m is_tight f heads no_blocks =
      if is_none heads then f
      else with_whole c.most (gap m is_tight) f heads (heads_cost c.options m is_tight heads - gap m is_tight)
  filled c m is_tight f heads (block first rest) =
      if is_heading first then filled c m is_tight f (heads ++ first ∷ []) rest
      else filled c m is_tight
      (with_unit c m (gap m is_tight) f heads (heads_cost c.options m is_tight heads) first
      (λ room. cut c m room first))
      [] rest

  -- The same of items, the first at this place, with so many empty ones before it. Empty items stay with the one before
  -- them, the first ones with the one behind them.
  pub items_filled : Bounds → Margin → ListShape → ListFilling → ℕ → ℕ → Items → ListFilling
  items_filled c m l f k before no_items = f
  items_filled c m l f k before (item no_blocks rest) = items_filled c m l f (suc k) before rest
  items_filled c m l f k before (item (block b bs) rest) =
      items_filled c m l
      (with_group c m l f k before (block b bs) (empties_before rest) (λ room. parts_in
      (filled c (in_item (item_width c.options l k) m) l.is_tight (filling room) [] (block b bs))))
      (suc k) 0 rest

-- the parts of blocks, of which the first may take so many bytes
abbrev pub split : Bounds → Margin → Bool → ℕ → Blocks → List Part
split c m is_tight first blocks = parts_in (filled c m is_tight (filling first) [] blocks)
