-- What stays where a document has other addresses.
use Rattle.std.proofs.Common.{◌≡◌, ℕ, suc, ◌==◌, Bool, true, false, not, ◌&&◌, ◌||◌, List, []}
use Rattle.std.proofs.Common.{◌∷◌, length, map}
use Rattle.std.proofs.Common.{Option, refl}
use Rattle.std.proofs.Common.{ap}
use Rattle.std.specs.List.{list_all, list_any}
use Rattle.htmd_document.specs.Documents.{Inline, text, code, formatted, link, image, anchor, line_break, task}
use Rattle.htmd_document.specs.Documents.{Inlines, no_inlines, inline, Block, paragraph, heading, code_block, quote}
use Rattle.htmd_document.specs.Documents.{thematic_break, list, table, element, tags, Blocks, no_blocks, block}
use Rattle.htmd_document.specs.Documents.{Items, no_items, item}
use Rattle.htmd_document.specs.Formats.{Format}
use Rattle.htmd_document.specs.NormalInlines.{sort, is_code, is_break, begins_with_space, ends_with_space, meets}
use Rattle.htmd_document.specs.NormalInlines.{has_none, first_passes, last_passes, are_whole, is_anchor, are_anchors}
use Rattle.htmd_document.specs.NormalInlines.{is_gap, shows_after, stands_well, anchors_stand_well}
use Rattle.htmd_document.specs.NormalDocuments.{item_count, has_filled_item, are_tight, is_spread}
use Rattle.htmd_document.specs.NormalDocuments.{has_cell, ends_filled}
use Rattle.htmd_document.specs.NormalDocuments.{has_right_distance, depth_of, depth_among, depth_of_items}
use Rattle.htmd_document.specs.TightItems.{is_filled, is_paragraph, is_table, are_tags, begins_with_blocks}
use Rattle.htmd_document.specs.TightItems.{goes_on_a_paragraph, is_tight_item, is_short, is_one_or_none}
use Rattle.htmd_flow.specs.Lists.{holds_paragraph}
use Rattle.htmd_law_rendering.specs.PlainReadings.{block_has_no_elements, blocks_have_no_elements}
use Rattle.htmd_law_rendering.specs.PlainReadings.{items_have_no_elements}
use Rattle.htmd_law_returning.specs.EncodedDocuments.{changed_inline, changed_inlines, changed_block, changed}
use Rattle.htmd_law_returning.specs.EncodedDocuments.{changed_items, changed_cells}
use Rattle.htmd_law_returning.specs.PageFormats.{format_shows, inline_shows, line_shows, block_shows, formats_show}
use Rattle.htmd_law_returning.specs.PageFormats.{items_show}
use Rattle.htmd_law_returning.specs.SettledDocuments.{shows_last_column, shows_header, has_bare_header}
use Rattle.htmd_law_returning.specs.SettledDocuments.{have_bare_headers, items_have_bare_headers}

module _ (change : List ℕ → List ℕ) where
  -- ---- inlines

  -- what doesn't depend on what is in a format, a link or an image
  pub kind-same : {A : Type 0} (p : Inline → A)
      → ((f : Format) (c : Inlines) → p (formatted f (changed_inlines change c)) ≡ p (formatted f c))
      → ((a : List ℕ) (t : Option (List ℕ)) (c : Inlines)
      → p (link (change a) t (changed_inlines change c)) ≡ p (link a t c))
      → ((a : List ℕ) (t : Option (List ℕ)) (d : List ℕ) → p (image (change a) t d) ≡ p (image a t d))
      → (x : Inline) → p (changed_inline change x) ≡ p x
  kind-same p f l i (text s) = refl
  kind-same p f l i (code s) = refl
  kind-same p f l i (formatted g c) = f g c
  kind-same p f l i (link a t c) = l a t c
  kind-same p f l i (image a t d) = i a t d
  kind-same p f l i (anchor id) = refl
  kind-same p f l i line_break = refl
  kind-same p f l i (task d) = refl

  abbrev Stays : (Inline → Bool) → Type 0
  Stays p = (x : Inline) → p (changed_inline change x) ≡ p x

  code-same : Stays is_code
  code-same x = kind-same is_code (λ f c. refl) (λ a t c. refl) (λ a t d. refl) x

  break-same : Stays is_break
  break-same x = kind-same is_break (λ f c. refl) (λ a t c. refl) (λ a t d. refl) x

  begins-same : Stays begins_with_space
  begins-same x = kind-same begins_with_space (λ f c. refl) (λ a t c. refl) (λ a t d. refl) x

  ends-same : Stays ends_with_space
  ends-same x = kind-same ends_with_space (λ f c. refl) (λ a t c. refl) (λ a t d. refl) x

  anchor-same : Stays is_anchor
  anchor-same x = kind-same is_anchor (λ f c. refl) (λ a t c. refl) (λ a t d. refl) x

  gap-same : Stays is_gap
  gap-same x = kind-same is_gap (λ f c. refl) (λ a t c. refl) (λ a t d. refl) x

  pub none-same : (xs : Inlines) → has_none (changed_inlines change xs) ≡ has_none xs
  none-same no_inlines = refl
  none-same (inline x xs) = refl

  first-same : (p : Inline → Bool) → Stays p → (xs : Inlines)
      → first_passes p (changed_inlines change xs) ≡ first_passes p xs
  first-same p e no_inlines = refl
  first-same p e (inline x xs) = e x

  last-same : (p : Inline → Bool) → Stays p → (xs : Inlines)
      → last_passes p (changed_inlines change xs) ≡ last_passes p xs
  last-same p e no_inlines = refl
  last-same p e (inline x no_inlines) = e x
  last-same p e (inline x (inline y xs)) = last-same p e (inline y xs)

  pub whole-same : (xs : Inlines) → are_whole (changed_inlines change xs) ≡ are_whole xs
  whole-same xs =
      rw (
        first-same begins_with_space begins-same xs,
        last-same ends_with_space ends-same xs,
        first-same is_break break-same xs,
        last-same is_break break-same xs,
      ) refl

  -- where a line begins with a space, and ends with none and with no break
  pub ends-same-as : (xs : Inlines)
      → ((first_passes begins_with_space (changed_inlines change xs)
      && not (last_passes ends_with_space (changed_inlines change xs)))
      && not (last_passes is_break (changed_inlines change xs)))
      ≡ ((first_passes begins_with_space xs && not (last_passes ends_with_space xs))
      && not (last_passes is_break xs))
  ends-same-as xs =
      rw (
        first-same begins_with_space begins-same xs,
        last-same ends_with_space ends-same xs,
        last-same is_break break-same xs,
      ) refl

  pub meets-same : (x : Inline) (xs : Inlines)
      → meets (changed_inline change x) (changed_inlines change xs) ≡ meets x xs
  meets-same x no_inlines = refl
  meets-same x (inline y xs) =
      rw (
        kind-same sort (λ f c. refl) (λ a t c. refl) (λ a t d. refl) x,
        kind-same sort (λ f c. refl) (λ a t c. refl) (λ a t d. refl) y,
        code-same x,
        code-same y,
        ends-same x,
        break-same y,
        break-same x,
        begins-same y,
      ) refl

  -- ---- where anchors stand

  pub anchors-same : (xs : Inlines) → are_anchors (changed_inlines change xs) ≡ are_anchors xs
  anchors-same no_inlines = refl
  anchors-same (inline x xs) = rw (anchor-same x, anchors-same xs) refl

  after-same : (x : Inline) (xs : Inlines)
      → shows_after (changed_inline change x) (changed_inlines change xs) ≡ shows_after x xs
  after-same x xs = rw (anchor-same x, none-same xs, first-same is_gap gap-same xs) refl

  mutual
    stands-same : (x : Inline) → stands_well (changed_inline change x) ≡ stands_well x
    stands-same (text s) = refl
    stands-same (code s) = refl
    stands-same (formatted f c) = rw (first-same is_anchor anchor-same c, stand-same c) refl
    stands-same (link a t c) = refl
    stands-same (image a t d) = refl
    stands-same (anchor id) = refl
    stands-same line_break = refl
    stands-same (task d) = refl

    pub stand-same : (xs : Inlines) → anchors_stand_well (changed_inlines change xs) ≡ anchors_stand_well xs
    stand-same no_inlines = refl
    stand-same (inline x xs) = rw (stands-same x, after-same x xs, stand-same xs) refl

  -- ---- blocks

  abbrev StaysBlock : (Block → Bool) → Type 0
  StaysBlock p = (b : Block) → p (changed_block change b) ≡ p b

  paragraph-same : StaysBlock is_paragraph
  paragraph-same (paragraph xs) = refl
  paragraph-same (heading n xs) = refl
  paragraph-same (code_block language s) = refl
  paragraph-same (quote bs) = refl
  paragraph-same thematic_break = refl
  paragraph-same (list start is_tight items) = refl
  paragraph-same (table alignments header rows) = refl
  paragraph-same (element name attributes bs) = refl
  paragraph-same (tags s) = refl

  table-same : StaysBlock is_table
  table-same (paragraph xs) = refl
  table-same (heading n xs) = refl
  table-same (code_block language s) = refl
  table-same (quote bs) = refl
  table-same thematic_break = refl
  table-same (list start is_tight items) = refl
  table-same (table alignments header rows) = refl
  table-same (element name attributes bs) = refl
  table-same (tags s) = refl

  tags-same : StaysBlock are_tags
  tags-same (paragraph xs) = refl
  tags-same (heading n xs) = refl
  tags-same (code_block language s) = refl
  tags-same (quote bs) = refl
  tags-same thematic_break = refl
  tags-same (list start is_tight items) = refl
  tags-same (table alignments header rows) = refl
  tags-same (element name attributes bs) = refl
  tags-same (tags s) = refl

  pub filled-same : (bs : Blocks) → is_filled (changed change bs) ≡ is_filled bs
  filled-same no_blocks = refl
  filled-same (block b bs) = refl

  begins-blocks : (items : Items) → begins_with_blocks (changed_items change items) ≡ begins_with_blocks items
  begins-blocks no_items = refl
  begins-blocks (item bs rest) = filled-same bs

  goes-same : StaysBlock goes_on_a_paragraph
  goes-same (paragraph xs) = refl
  goes-same (heading n xs) = refl
  goes-same (code_block language s) = refl
  goes-same (quote bs) = refl
  goes-same thematic_break = refl
  goes-same (list start is_tight items) = ap (λ b. is_one_or_none start && b) (begins-blocks items)
  goes-same (table alignments header rows) = refl
  goes-same (element name attributes bs) = refl
  goes-same (tags s) = refl

  pub tight-item-same : (bs : Blocks) → is_tight_item (changed change bs) ≡ is_tight_item bs
  tight-item-same no_blocks = refl
  tight-item-same (block b no_blocks) = rw (table-same b, tags-same b) refl
  tight-item-same (block b (block c no_blocks)) = rw (paragraph-same b, goes-same c) refl
  tight-item-same (block b (block c (block d bs))) = refl

  short-same : (bs : Blocks) → is_short (changed change bs) ≡ is_short bs
  short-same no_blocks = refl
  short-same (block b no_blocks) = refl
  short-same (block b (block c bs)) = refl

  pub holds-same : (bs : Blocks) → holds_paragraph (changed change bs) ≡ holds_paragraph bs
  holds-same no_blocks = refl
  holds-same (block b bs) = rw (paragraph-same b, holds-same bs) refl

  -- ---- lists

  pub count-same : (items : Items) → item_count (changed_items change items) ≡ item_count items
  count-same no_items = refl
  count-same (item bs rest) = ap suc (count-same rest)

  pub filled-items : (items : Items) → has_filled_item (changed_items change items) ≡ has_filled_item items
  filled-items no_items = refl
  filled-items (item bs rest) = rw (filled-same bs, filled-items rest) refl

  tight-same : (items : Items) → are_tight (changed_items change items) ≡ are_tight items
  tight-same no_items = refl
  tight-same (item bs rest) = rw (short-same bs, tight-item-same bs, tight-same rest) refl

  spread-same : (items : Items) → is_spread (changed_items change items) ≡ is_spread items
  spread-same no_items = refl
  spread-same (item bs no_items) = ap not (short-same bs)
  spread-same (item bs (item cs rest)) = refl

  pub distance-same : (is_tight : Bool) (items : Items)
      → has_right_distance is_tight (changed_items change items) ≡ has_right_distance is_tight items
  distance-same true items = tight-same items
  distance-same false items = spread-same items

  -- ---- whole documents

  mutual
    block-elements : (b : Block) → block_has_no_elements (changed_block change b) ≡ block_has_no_elements b
    block-elements (paragraph xs) = refl
    block-elements (heading n xs) = refl
    block-elements (code_block language s) = refl
    block-elements (quote bs) = elements-same bs
    block-elements thematic_break = refl
    block-elements (list start is_tight items) = item-elements items
    block-elements (table alignments header rows) = refl
    block-elements (element name attributes bs) = refl
    block-elements (tags s) = refl

    pub elements-same : (bs : Blocks) → blocks_have_no_elements (changed change bs) ≡ blocks_have_no_elements bs
    elements-same no_blocks = refl
    elements-same (block b bs) = rw (block-elements b, elements-same bs) refl

    item-elements : (items : Items)
        → items_have_no_elements (changed_items change items) ≡ items_have_no_elements items
    item-elements no_items = refl
    item-elements (item bs rest) = rw (elements-same bs, item-elements rest) refl

  mutual
    block-depth : (b : Block) → depth_of (changed_block change b) ≡ depth_of b
    block-depth (paragraph xs) = refl
    block-depth (heading n xs) = refl
    block-depth (code_block language s) = refl
    block-depth (quote bs) = ap suc (depth-same bs)
    block-depth thematic_break = refl
    block-depth (list start is_tight items) = ap suc (item-depth items)
    block-depth (table alignments header rows) = refl
    block-depth (element name attributes bs) = depth-same bs
    block-depth (tags s) = refl

    pub depth-same : (bs : Blocks) → depth_among (changed change bs) ≡ depth_among bs
    depth-same no_blocks = refl
    depth-same (block b bs) = rw (block-depth b, depth-same bs) refl

    item-depth : (items : Items) → depth_of_items (changed_items change items) ≡ depth_of_items items
    item-depth no_items = refl
    item-depth (item bs rest) = rw (depth-same bs, item-depth rest) refl

  -- ---- tables

  pub cells-length : (cells : List Inlines) → length (changed_cells change cells) ≡ length cells
  cells-length [] = refl
  cells-length (c ∷ cells) = ap suc (cells-length cells)

  pub cell-same : (cells : List Inlines) → has_cell (changed_cells change cells) ≡ has_cell cells
  cell-same [] = refl
  cell-same (c ∷ cells) = refl

  pub filled-ends : (cells : List Inlines) → ends_filled (changed_cells change cells) ≡ ends_filled cells
  filled-ends [] = refl
  filled-ends (c ∷ []) = ap not (none-same c)
  filled-ends (c ∷ next ∷ cells) = filled-ends (next ∷ cells)

  any-length : (n : ℕ) (rows : List (List Inlines))
      → list_any (λ row. length row == n) (map (changed_cells change) rows)
      ≡ list_any (λ row. length row == n) rows
  any-length n [] = refl
  any-length n (r ∷ rows) = rw (cells-length r, any-length n rows) refl

  pub columns-same : (header : List Inlines) (rows : List (List Inlines))
      → shows_last_column (changed_cells change header) (map (changed_cells change) rows)
      ≡ shows_last_column header rows
  columns-same header rows =
      rw (filled-ends header, cells-length header)
      (ap (λ b. ends_filled header || b) (any-length (length header) rows))

  header-shows : (cells : List Inlines) → shows_header (changed_cells change cells) ≡ shows_header cells
  header-shows [] = refl
  header-shows (c ∷ cells) = rw (none-same c, header-shows cells) refl

  mutual
    block-tables : (b : Block) → has_bare_header (changed_block change b) ≡ has_bare_header b
    block-tables (quote bs) = tables-same bs
    block-tables (list start is_tight items) = item-tables items
    block-tables (element name attributes bs) = tables-same bs
    block-tables (table alignments header rows) = ap not (header-shows header)
    block-tables b = refl

    pub tables-same : (bs : Blocks) → have_bare_headers (changed change bs) ≡ have_bare_headers bs
    tables-same no_blocks = refl
    tables-same (block b bs) = rw (block-tables b, tables-same bs) refl

    item-tables : (items : Items) → items_have_bare_headers (changed_items change items)
        ≡ items_have_bare_headers items
    item-tables no_items = refl
    item-tables (item bs rest) = rw (tables-same bs, item-tables rest) refl

  -- ---- formats

  module _ (is_rich : Bool) where
    mutual
      inline-formats : (x : Inline) → inline_shows is_rich (changed_inline change x) ≡ inline_shows is_rich x
      inline-formats (formatted f c) = ap (λ b. format_shows is_rich f && b) (line-formats c)
      inline-formats (link a t c) = line-formats c
      inline-formats x = refl

      line-formats : (xs : Inlines) → line_shows is_rich (changed_inlines change xs) ≡ line_shows is_rich xs
      line-formats no_inlines = refl
      line-formats (inline x xs) = rw (inline-formats x, line-formats xs) refl

    cell-formats : (cells : List Inlines)
        → list_all (line_shows is_rich) (changed_cells change cells) ≡ list_all (line_shows is_rich) cells
    cell-formats [] = refl
    cell-formats (c ∷ cells) = rw (line-formats c, cell-formats cells) refl

    row-formats : (rows : List (List Inlines))
        → list_all (list_all (line_shows is_rich)) (map (changed_cells change) rows)
        ≡ list_all (list_all (line_shows is_rich)) rows
    row-formats [] = refl
    row-formats (r ∷ rows) = rw (cell-formats r, row-formats rows) refl

    mutual
      block-formats : (b : Block) → block_shows is_rich (changed_block change b) ≡ block_shows is_rich b
      block-formats (paragraph xs) = line-formats xs
      block-formats (heading n xs) = line-formats xs
      block-formats (quote bs) = formats-same bs
      block-formats (list start is_tight items) = item-formats items
      block-formats (table alignments header rows) = rw (cell-formats header, row-formats rows) refl
      block-formats (element name attributes bs) = ap (λ b. is_rich && b) (formats-same bs)
      block-formats b = refl

      pub formats-same : (bs : Blocks) → formats_show is_rich (changed change bs) ≡ formats_show is_rich bs
      formats-same no_blocks = refl
      formats-same (block b bs) = rw (block-formats b, formats-same bs) refl

      item-formats : (items : Items) → items_show is_rich (changed_items change items) ≡ items_show is_rich items
      item-formats no_items = refl
      item-formats (item bs rest) = rw (formats-same bs, item-formats rest) refl
