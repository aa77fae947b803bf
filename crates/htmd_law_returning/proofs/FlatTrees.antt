-- The trees of flat documents, with the tags of elements in lines: those of what is read.
use Rattle.std.proofs.Common.{◌≡◌, ℕ, Bool, true, false, not, ◌&&◌, ◌||◌, refl, ap, ◌∙◌, List, []}
use Rattle.std.proofs.Common.{codes}
use Rattle.std.proofs.Common.{Option, Some, None}
use Rattle.std.proofs.lemmas.Bool.{and_parts, and_from}
use Rattle.htmd_document.specs.Documents.{Block, paragraph, quote, list, element, tags, BlockAttribute}
use Rattle.htmd_document.specs.Documents.{Blocks, no_blocks, block, Items, no_items, item}
use Rattle.htmd_document.specs.declared.document.BlockElement.{BlockElement}
use Rattle.htmd_document.specs.FlatDocuments.{lines_of, line_before, element_before, flat_before, flat_all, flat_items}
use Rattle.htmd_document.specs.FlatDocuments.{flattened, text_in_line}
use Rattle.htmd_document.specs.NormalDocuments.{are_tight, may_be_tight, is_normal_block, are_normal_blocks}
use Rattle.htmd_document.specs.NormalDocuments.{are_normal_items, is_normal_list, is_normal_element, has_filled_item}
use Rattle.htmd_document.specs.NormalDocuments.{has_right_distance, are_short_numbers, item_count}
use Rattle.htmd_document.specs.Tags.{element_tag, end_of_element, element_line}
use Rattle.htmd_document.specs.TightItems.{goes_on_a_paragraph, is_filled}
use Rattle.htmd_commonmark_reading.specs.Markup as markup
use Rattle.htmd_law_rendering.specs.RenderedTrees.{Open, onto, with_lines, line_end, lines_before, block_trees}
use Rattle.htmd_law_rendering.specs.RenderedTrees.{blocks_open, blocks_trees, items_trees, inlines_trees}
use Rattle.htmd_law_rendering.specs.RenderedTrees.{heading_name, list_name, pairs_of_start}
use Rattle.htmd_law_rendering.specs.SpelledTrees as trees
use Rattle.htmd_law_rendering.specs.SpelledTrees.{SpelledForest}
use Rattle.htmd_law_returning.proofs.RawReadings.{has_no_raw, cells_have_no_raw, rows_have_no_raw, block_has_no_raw}
use Rattle.htmd_law_returning.proofs.RawReadings.{blocks_have_no_raw, items_have_no_raw}
use Rattle.htmd_law_returning.proofs.StartLemmas.{false-true}
use Rattle.htmd_law_returning.proofs.LineEndLemmas.{ended_before, inlines-ended}
use Rattle.htmd_law_returning.proofs.TreesLemmas.{spelled_line, line-trees}
use Rattle.htmd_law_returning.proofs.BlockTrees.{page_block, page_blocks, page_items, cut_block, cut_blocks, cut_items}
use Rattle.htmd_law_returning.proofs.BlockTrees.{behind_both, spelled_before, spelled_before_line, table-from}

-- ---- the trees of flat documents

-- other trees in the place of those behind the first; and they begin a line
abbrev pub tail_of : SpelledForest → SpelledForest → SpelledForest
tail_of trees.none ts = trees.none
tail_of (trees.more t us) ts = trees.more t ts

abbrev pub with_tail : SpelledForest → SpelledForest → SpelledForest
with_tail us ts = tail_of us (line_end ts)

-- what is in an item, by its blocks and their trees
abbrev pub flat_item : Bool → Blocks → SpelledForest → SpelledForest
flat_item is_tight no_blocks ts = trees.none
flat_item true (block (paragraph xs) no_blocks) ts = spelled_line xs
flat_item true (block (paragraph xs) (block b bs)) ts = ended_before (behind_both ts) (spelled_line xs)
flat_item is_tight bs ts = line_end ts

abbrev mutual
  pub own_trees : Block → SpelledForest
  own_trees (quote bs) = lines_before (codes "blockquote") [] (flat_open bs).first trees.none
  own_trees (list start is_tight items) =
      lines_before (list_name start) (pairs_of_start start) (item_trees_of is_tight items) trees.none
  own_trees b = spelled_before b trees.none

  -- trees, and those behind end tags that nothing before them opens
  pub flat_open : Blocks → Open
  flat_open no_blocks = record { first = trees.none; behind = [] }
  flat_open (block (tags s) bs) = with_lines (lines_of s) (flat_open bs)
  flat_open (block b bs) = onto (with_tail (own_trees b)) (flat_open bs)

  pub item_trees_of : Bool → Items → SpelledForest
  item_trees_of is_tight no_items = trees.none
  item_trees_of is_tight (item bs rest) =
      trees.more (trees.element trees.spaced (codes "li") [] (flat_item is_tight bs (flat_open bs).first))
      (line_end (item_trees_of is_tight rest))

-- items of tight lists are short
abbrev mutual
  pub is_good : Block → Bool
  is_good (quote bs) = are_good bs
  is_good (list start is_tight items) = (not is_tight || are_tight items) && are_good_items items
  is_good b = true

  pub are_good : Blocks → Bool
  are_good no_blocks = true
  are_good (block b bs) = is_good b && are_good bs

  pub are_good_items : Items → Bool
  are_good_items no_items = true
  are_good_items (item bs rest) = are_good bs && are_good_items rest

-- ---- the trees of what is read

if-tight : (is_tight b : Bool) → is_tight ≡ true → (not is_tight || b) ≡ true → b ≡ true
if-tight true b t h = h
if-tight false b t h = false-true t

-- what is read has these trees
abbrev pub IsOpen : markup.Blocks → Type 0
IsOpen bs = blocks_open false false bs ≡ flat_open (page_blocks bs)

abbrev IsInItem : Bool → markup.Blocks → Type 0
IsInItem is_tight bs = blocks_trees is_tight true bs ≡ flat_item is_tight (page_blocks bs)
    (flat_open (page_blocks bs)).first

abbrev behind_block : markup.Blocks → markup.Blocks
behind_block markup.no_blocks = markup.no_blocks
behind_block (markup.block b bs) = bs

-- blocks begin a line of their own in a loose item
loose-item : (b : markup.Block) (bs : markup.Blocks) → IsOpen (markup.block b bs)
    → IsInItem false (markup.block b bs)
loose-item (markup.paragraph xs) bs e = ap (λ o. line_end o.first) e
loose-item (markup.heading level xs) bs e = ap (λ o. line_end o.first) e
loose-item (markup.code_block language s) bs e = ap (λ o. line_end o.first) e
loose-item (markup.quote content) bs e = ap (λ o. line_end o.first) e
loose-item markup.thematic_break bs e = ap (λ o. line_end o.first) e
loose-item (markup.list start is_tight items) bs e = ap (λ o. line_end o.first) e
loose-item (markup.table alignments header rows) bs e = ap (λ o. line_end o.first) e
loose-item (markup.html_block s) bs e = ap (λ o. line_end o.first) e

-- the only block of a tight item
lone-item : (b : markup.Block) → block_has_no_raw b ≡ true → IsOpen (markup.block b markup.no_blocks)
    → IsInItem true (markup.block b markup.no_blocks)
lone-item (markup.paragraph xs) h e = line-trees xs h
lone-item (markup.heading level xs) h e = ap (λ o. line_end o.first) e
lone-item (markup.code_block language s) h e = ap (λ o. line_end o.first) e
lone-item (markup.quote content) h e = ap (λ o. line_end o.first) e
lone-item markup.thematic_break h e = ap (λ o. line_end o.first) e
lone-item (markup.list start is_tight items) h e = ap (λ o. line_end o.first) e
lone-item (markup.table alignments header rows) h e = ap (λ o. line_end o.first) e
lone-item (markup.html_block s) h e = ap (λ o. line_end o.first) e

-- a list behind a paragraph
list-behind : (xs : markup.Inlines) (c : markup.Block) → has_no_raw xs ≡ true
    → goes_on_a_paragraph (cut_block (page_block c)) ≡ true → IsOpen (markup.block c markup.no_blocks)
    → IsInItem true (markup.block (markup.paragraph xs) (markup.block c markup.no_blocks))
list-behind xs (markup.list start is_tight items) h goes e =
    let others : SpelledForest = (flat_open (page_blocks (markup.block (markup.list start is_tight items)
    markup.no_blocks))).first in
    ap (λ o. inlines_trees xs (line_end o.first)) e
    ∙ (inlines-ended xs others h ∙ ap (ended_before others) (line-trees xs h))
list-behind xs c h goes e = false-true goes

-- a tight item of two blocks is a paragraph and a list
pair-item : (b c : markup.Block) → block_has_no_raw b ≡ true
    → may_be_tight (cut_blocks (page_blocks (markup.block b (markup.block c markup.no_blocks)))) ≡ true
    → IsOpen (markup.block c markup.no_blocks) → IsInItem true (markup.block b (markup.block c markup.no_blocks))
pair-item (markup.paragraph xs) c h tight e = list-behind xs c h tight e
pair-item b c h tight e = false-true tight

item-from : (is_tight : Bool) (bs : markup.Blocks) → blocks_have_no_raw bs ≡ true
    → (is_tight ≡ true → may_be_tight (cut_blocks (page_blocks bs)) ≡ true) → IsOpen bs
    → IsOpen (behind_block bs)
    → IsInItem is_tight bs
item-from is_tight markup.no_blocks h tight e later = refl
item-from false (markup.block b bs) h tight e later = loose-item b bs e
item-from true (markup.block b markup.no_blocks) h tight e later =
    lone-item b (and_parts (block_has_no_raw b) true h).0 e
item-from true (markup.block b (markup.block c markup.no_blocks)) h tight e later =
    pair-item b c (and_parts (block_has_no_raw b) (block_has_no_raw c && true) h).0 (tight refl) later
item-from true (markup.block b (markup.block c (markup.block d bs))) h tight e later = false-true (tight refl)

mutual
  -- the trees of what is read
  pub open-from : (bs : markup.Blocks) → blocks_have_no_raw bs ≡ true
      → are_good (cut_blocks (page_blocks bs)) ≡ true → IsOpen bs
  open-from markup.no_blocks h good = refl
  open-from (markup.block b bs) h good =
      let raw = and_parts (block_has_no_raw b) (blocks_have_no_raw bs) h in
      let own = and_parts (is_good (cut_block (page_block b))) (are_good (cut_blocks (page_blocks bs))) good in
      one-from b bs raw.0 own.0 (open-from bs raw.1 own.1)

  one-from : (b : markup.Block) (bs : markup.Blocks) → block_has_no_raw b ≡ true
      → is_good (cut_block (page_block b)) ≡ true → IsOpen bs → IsOpen (markup.block b bs)
  one-from (markup.paragraph xs) bs h good e =
      ap (onto (block_trees false (markup.paragraph xs))) e
      ∙ ap (λ us. onto (with_tail (trees.more (trees.element trees.spaced (codes "p") [] us)
      (spelled_before_line trees.none))) (flat_open (page_blocks bs))) (line-trees xs h)
  one-from (markup.heading level xs) bs h good e =
      ap (onto (block_trees false (markup.heading level xs))) e
      ∙ ap (λ us. onto (with_tail (trees.more (trees.element trees.spaced (heading_name level) [] us)
      (spelled_before_line trees.none))) (flat_open (page_blocks bs))) (line-trees xs h)
  one-from (markup.code_block language s) bs h good e =
      ap (onto (block_trees false (markup.code_block language s))) e
  one-from (markup.quote content) bs h good e =
      ap (onto (block_trees false (markup.quote content))) e
      ∙ ap (λ o. onto (with_tail (lines_before (codes "blockquote") [] o.first trees.none))
      (flat_open (page_blocks bs))) (open-from content h good)
  one-from markup.thematic_break bs h good e = ap (onto (block_trees false markup.thematic_break)) e
  one-from (markup.list start is_tight items) bs h good e =
      let d : Items = cut_items (page_items items) in
      let parts = and_parts (not is_tight || are_tight d) (are_good_items d) good in
      ap (onto (block_trees false (markup.list start is_tight items))) e
      ∙ ap (λ us. onto (with_tail (lines_before (list_name start) (pairs_of_start start) us trees.none))
      (flat_open (page_blocks bs)))
      (items-from is_tight items h (λ t. if-tight is_tight (are_tight d) t parts.0) parts.1)
  one-from (markup.table alignments header rows) bs h good e =
      let raw = and_parts (cells_have_no_raw header) (rows_have_no_raw rows) h in
      ap (onto (block_trees false (markup.table alignments header rows))) e
      ∙ ap (λ us. onto (with_tail us) (flat_open (page_blocks bs)))
      (table-from alignments header rows trees.none raw.0 raw.1 refl)
  one-from (markup.html_block s) bs h good e = ap (with_lines (lines_of s)) e

  items-from : (is_tight : Bool) (items : markup.Items) → items_have_no_raw items ≡ true
      → (is_tight ≡ true → are_tight (cut_items (page_items items)) ≡ true)
      → are_good_items (cut_items (page_items items)) ≡ true
      → items_trees is_tight items ≡ item_trees_of is_tight (page_items items)
  items-from is_tight markup.no_items h tight good = refl
  items-from is_tight (markup.item bs rest) h tight good =
      let first : Blocks = cut_blocks (page_blocks bs) in
      let others : Items = cut_items (page_items rest) in
      let raw = and_parts (blocks_have_no_raw bs) (items_have_no_raw rest) h in
      let own = and_parts (are_good first) (are_good_items others) good in
      rw (
        item-from is_tight bs raw.0 (λ t. (and_parts (may_be_tight first) (are_tight others) (tight t)).0)
            (open-from bs raw.0 own.0) (rest-from bs raw.0 own.0),
        items-from is_tight rest raw.1 (λ t. (and_parts (may_be_tight first) (are_tight others) (tight t)).1) own.1,
      ) refl

  -- without the first block
  rest-from : (bs : markup.Blocks) → blocks_have_no_raw bs ≡ true
      → are_good (cut_blocks (page_blocks bs)) ≡ true
      → IsOpen (behind_block bs)
  rest-from markup.no_blocks h good = refl
  rest-from (markup.block b bs) h good =
      open-from bs (and_parts (block_has_no_raw b) (blocks_have_no_raw bs) h).1
      (and_parts (is_good (cut_block (page_block b))) (are_good (cut_blocks (page_blocks bs))) good).1

-- ---- what is flat of a normal document is good

line-good : (line : List ℕ) (rest : Blocks) → are_good rest ≡ true → are_good (line_before line rest) ≡ true
line-good line (block (tags s) bs) h = h
line-good line rest h = h

element-good : (name : BlockElement) (attributes : List BlockAttribute) (t : Option (List ℕ)) (inner rest : Blocks)
    → are_good inner ≡ true → are_good rest ≡ true
    → are_good (element_before name attributes t inner rest) ≡ true
element-good name attributes None inner rest h k = line-good (element_tag name attributes) inner h
element-good name attributes (Some s) inner rest h k = line-good (element_line name attributes s) rest k

tight-good : (is_tight : Bool) (items : Items) → has_right_distance is_tight items ≡ true
    → (not is_tight || are_tight items) ≡ true
tight-good true items h = h
tight-good false items h = refl

mutual
  pub flat-good : (in_item : Bool) (d rest : Blocks) → are_normal_blocks in_item d ≡ true → are_good rest ≡ true
      → are_good (flat_all d rest) ≡ true
  flat-good in_item no_blocks rest normal h = h
  flat-good in_item (block b bs) rest normal h =
      let form = and_parts (is_normal_block in_item b) (are_normal_blocks false bs) normal in
      one-good in_item b (flat_all bs rest) form.0 (flat-good false bs rest form.1 h)

  one-good : (in_item : Bool) (b : Block) (r : Blocks) → is_normal_block in_item b ≡ true → are_good r ≡ true
      → are_good (flat_before b r) ≡ true
  one-good in_item (quote content) r normal h =
      let form = and_parts (is_filled content) (are_normal_blocks false content) normal in
      and_from (are_good (flattened content)) (are_good r) (flat-good false content no_blocks form.1 refl) h
  one-good in_item (list start is_tight items) r normal h =
      let flat : Items = flat_items items in
      let form = and_parts (is_normal_list start is_tight flat) (are_normal_items items) normal in
      let distance = (and_parts (has_filled_item flat && are_short_numbers start (item_count flat))
      (has_right_distance is_tight flat) form.0).1 in
      and_from ((not is_tight || are_tight flat) && are_good_items flat) (are_good r)
      (and_from (not is_tight || are_tight flat) (are_good_items flat) (tight-good is_tight flat distance)
      (items-good items form.1)) h
  one-good in_item (element name attributes content) r normal h =
      let form = and_parts (is_normal_element name attributes content) (are_normal_blocks false content) normal in
      let last = line_before (end_of_element name) r in
      element-good name attributes (text_in_line content) (flat_all content last) r
      (flat-good false content last form.1 (line-good (end_of_element name) r h)) h
  one-good in_item b r normal h = h

  items-good : (items : Items) → are_normal_items items ≡ true → are_good_items (flat_items items) ≡ true
  items-good no_items normal = refl
  items-good (item bs rest) normal =
      let form = and_parts (are_normal_blocks true bs) (are_normal_items rest) normal in
      and_from (are_good (flattened bs)) (are_good_items (flat_items rest))
      (flat-good true bs no_blocks form.0 refl) (items-good rest form.1)
