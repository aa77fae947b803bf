-- A document with its addresses encoded: its leaves, its lines, and its lists.
use Rattle.std.proofs.Common.{◌≡◌, ℕ, suc, Bool, true, false, ◌&&◌, List, [], ◌∷◌, map, refl, sym, ap, ◌∙◌}
use Rattle.std.specs.Prelude.{◌||◌, if◌then◌else◌}
use Rattle.std.specs.List.{list_all}
use Rattle.std.proofs.lemmas.Bool.{and_parts}
use Rattle.htmd_document.specs.Documents.{Inline, text, formatted, link, image, anchor, line_break, task}
use Rattle.htmd_document.specs.Documents.{Inlines, no_inlines, inline, Block, paragraph, heading, code_block, quote}
use Rattle.htmd_document.specs.Documents.{thematic_break, list, table, element, tags, Blocks, no_blocks, block}
use Rattle.htmd_document.specs.Documents.{Items, no_items, item, BlockAttribute}
use Rattle.htmd_document.specs.declared.document.BlockElement.{BlockElement}
use Rattle.htmd_document.specs.declared.document.BlockElement.TheVariants as an
use Rattle.htmd_document.specs.FlatDocuments.{flattened}
use Rattle.htmd_document.specs.TightItems.{is_tight_item}
use Rattle.htmd_law_rendering.specs.RenderedTrees.{encoded_address}
use Rattle.htmd_law_returning.specs.EncodedDocuments.{changed_inline, changed_inlines, changed_cells, changed_block}
use Rattle.htmd_law_returning.specs.EncodedDocuments.{changed, changed_items, encoded}
use Rattle.htmd_law_returning.specs.NoAnchors.{has_no_anchors, have_no_anchors, block_has_no_anchors}
use Rattle.htmd_law_returning.specs.NoAnchors.{blocks_have_no_anchors, items_have_no_anchors}
use Rattle.htmd_flow.specs.DescriptionViews.{is_filled_element}
use Rattle.htmd_law_returning.specs.SettledDocuments.{has_filled_element, is_of_figure, has_caption}
use Rattle.htmd_law_returning.specs.SettledDocuments.{is_white_at_break, show_loose, is_right_list, are_tight_items}
use Rattle.htmd_law_returning.specs.SettledDocuments.{stay_tight, shows_last_column, behind_box}
use Rattle.htmd_law_returning.specs.SettledDocuments.{is_settled_address, is_settled_title, is_one_line}
use Rattle.htmd_law_returning.specs.SettledDocuments.{block_numbers_fit, numbers_fit, item_numbers_fit}
use Rattle.htmd_document.specs.NormalInlines.{is_anchor, has_none}
use Rattle.htmd_law_returning.specs.LastingAnchors.{past_gaps, goes_on, heading_keeps, is_unseen, are_unseen}
use Rattle.htmd_law_returning.specs.LastingAnchors.{items_unseen, cells_lead, block_leads, title_keeps, items_lead}
use Rattle.htmd_law_returning.specs.WholeLines.{begins_white, ends_white, is_gap, is_same_around, is_apart}
use Rattle.htmd_law_returning.specs.WholeLines.{is_whole_inside, are_whole_inside}
use Rattle.htmd_law_returning.proofs.AddressLemmas.{encoded-stays}
use Rattle.htmd_law_returning.proofs.ChangedLemmas.{filled-same}
use Rattle.htmd_law_returning.proofs.ChangedLemmas.{tight-item-same, holds-same, count-same, columns-same}
use Rattle.htmd_law_returning.proofs.FlatLemmas.{flat-changed}
use Rattle.htmd_law_returning.specs.LastingAnchors.{inline_keeps, all_keep}
use Rattle.htmd_law_settled.specs.NeatLeaves.{any_id}
use Rattle.htmd_law_settled.proofs.EncodedTables.{neat-table}
use Rattle.htmd_law_settled.specs.BareBreaks.{is_bare_inside, has_bare_breaks}
use Rattle.htmd_law_settled.specs.Leaves.{Leaves, is_inline_of, is_line_of, is_whole_line_of, are_cells_of, is_block_of}
use Rattle.htmd_law_settled.specs.Leaves.{are_blocks_of, are_items_of}
use Rattle.htmd_law_settled.specs.NeatLeaves.{neat, is_box_spaced, is_neat_line, is_neat_element}
use Rattle.htmd_law_settled.specs.NeatLeaves.{has_neat_attributes}

module _ (change : List ℕ → List ℕ) where
  -- ---- lines

  begins-same : (xs : Inlines) → begins_white (changed_inlines change xs) ≡ begins_white xs
  begins-same no_inlines = refl
  begins-same (inline (text s) xs) = refl
  begins-same (inline line_break xs) = refl
  begins-same (inline x xs) = refl

  ends-same : (xs : Inlines) → ends_white (changed_inlines change xs) ≡ ends_white xs
  ends-same no_inlines = refl
  ends-same (inline (text s) no_inlines) = refl
  ends-same (inline line_break no_inlines) = refl
  ends-same (inline x no_inlines) = refl
  ends-same (inline x (inline y ys)) = ends-same (inline y ys)

  gap-same : (x : Inline) → is_gap (changed_inline change x) ≡ is_gap x
  gap-same (text s) = refl
  gap-same line_break = refl
  gap-same x = refl

  around-same : (x y : Inline)
      → is_same_around (changed_inline change x) (changed_inline change y) ≡ is_same_around x y
  around-same (formatted f c) (formatted g d) = refl
  around-same x y = refl

  apart-same : (x : Inline) (xs : Inlines)
      → is_apart (changed_inline change x) (changed_inlines change xs) ≡ is_apart x xs
  apart-same x no_inlines = refl
  apart-same x (inline y no_inlines) = refl
  apart-same x (inline y (inline z zs)) = rw (gap-same y, around-same x z) refl

  white-same : (x : Inline) (xs : Inlines)
      → is_white_at_break (changed_inline change x) (changed_inlines change xs) ≡ is_white_at_break x xs
  white-same line_break no_inlines = refl
  white-same x no_inlines = refl
  white-same (text s) (inline line_break xs) = refl
  white-same line_break (inline line_break xs) = refl
  white-same x (inline line_break xs) = refl
  white-same line_break (inline (text s) xs) = refl
  white-same line_break (inline y xs) = refl
  white-same x (inline y xs) = refl

  mutual
    inside-same : (x : Inline) → is_whole_inside (changed_inline change x) ≡ is_whole_inside x
    inside-same (formatted f c) = rw (insides-same c, begins-same c, ends-same c) refl
    inside-same (link a t c) = rw (insides-same c, begins-same c, ends-same c) refl
    inside-same x = refl

    insides-same : (xs : Inlines) → are_whole_inside (changed_inlines change xs) ≡ are_whole_inside xs
    insides-same no_inlines = refl
    insides-same (inline x xs) = rw (inside-same x, apart-same x xs, insides-same xs) refl

  mutual
    bare-inside : (x : Inline) → is_bare_inside (changed_inline change x) ≡ is_bare_inside x
    bare-inside (formatted f c) = bare-same c
    bare-inside (link a t c) = bare-same c
    bare-inside x = refl

    bare-same : (xs : Inlines) → has_bare_breaks (changed_inlines change xs) ≡ has_bare_breaks xs
    bare-same no_inlines = refl
    bare-same (inline x xs) = rw (bare-inside x, white-same x xs, bare-same xs) refl

  behind-same : (xs : Inlines) → behind_box (changed_inlines change xs) ≡ changed_inlines change (behind_box xs)
  behind-same no_inlines = refl
  behind-same (inline (task d) no_inlines) = refl
  behind-same (inline (task d) (inline (text []) xs)) = refl
  behind-same (inline (task d) (inline (text (b ∷ [])) xs)) = refl
  behind-same (inline (task d) (inline (text (b ∷ c ∷ s)) xs)) = refl
  behind-same (inline (task d) (inline x xs)) = refl
  behind-same (inline x xs) = refl

  spaced-same : (xs : Inlines) → is_box_spaced (changed_inlines change xs) ≡ is_box_spaced xs
  spaced-same no_inlines = refl
  spaced-same (inline (task d) no_inlines) = refl
  spaced-same (inline (task d) (inline (text s) xs)) = refl
  spaced-same (inline (task d) (inline x xs)) = refl
  spaced-same (inline x xs) = refl

  -- what shows next is the same
  on-same : (v : Inline) (xs : Inlines)
      → goes_on (changed_inline change v) (past_gaps (changed_inlines change xs)) ≡ goes_on v (past_gaps xs)
  on-same v no_inlines = refl
  on-same v (inline x xs) =
      ap (λ b. goes_on (changed_inline change v)
      (if b then past_gaps (changed_inlines change xs) else changed_inlines change (inline x xs))) (passed-same x)
      ∙ by (is_gap x || is_anchor x) (on-same v xs)
    where
      passed-same : (x : Inline) → (is_gap (changed_inline change x) || is_anchor (changed_inline change x))
          ≡ (is_gap x || is_anchor x)
      passed-same (text s) = refl
      passed-same line_break = refl
      passed-same (anchor id) = refl
      passed-same x = refl

      by : (b : Bool)
          → goes_on (changed_inline change v) (past_gaps (changed_inlines change xs)) ≡ goes_on v (past_gaps xs)
          → goes_on (changed_inline change v)
          (if b then past_gaps (changed_inlines change xs) else changed_inlines change (inline x xs))
          ≡ goes_on v (if b then past_gaps xs else inline x xs)
      by true e = e
      by false e = around-same v x

  anchor-same : (x : Inline) → is_anchor (changed_inline change x) ≡ is_anchor x
  anchor-same (anchor id) = refl
  anchor-same x = refl

  mutual
    kept-inside : (x : Inline) → inline_keeps any_id (changed_inline change x) ≡ inline_keeps any_id x
    kept-inside (formatted f c) = kept-same c
    kept-inside (link a t c) = kept-same c
    kept-inside x = refl

    kept-same : (xs : Inlines) → all_keep any_id (changed_inlines change xs) ≡ all_keep any_id xs
    kept-same no_inlines = refl
    kept-same (inline x xs) =
        rw (kept-inside x, anchor-same x, begins-same xs, on-same x xs, kept-same xs) refl

  neat-line : (xs : Inlines) → is_neat_line (changed_inlines change xs) ≡ is_neat_line xs
  neat-line xs =
      let ys : Inlines = behind_box xs in
      rw (
        spaced-same xs,
        behind-same xs,
        insides-same ys,
        begins-same ys,
        ends-same ys,
        bare-same ys,
        kept-same xs,
      ) refl

  -- ---- elements

  element-filled : (b : Block) → is_filled_element (changed_block change b) ≡ is_filled_element b
  element-filled (element name attributes bs) = filled-same change bs
  element-filled b = refl

  some-filled : (bs : Blocks) → has_filled_element (changed change bs) ≡ has_filled_element bs
  some-filled no_blocks = refl
  some-filled (block b bs) = rw (element-filled b, some-filled bs) refl

  caption-same : (b : Block) → is_of_figure (changed_block change b) ≡ is_of_figure b
  caption-same (element an.FigureCaption attributes bs) = refl
  caption-same (element name attributes bs) = refl
  caption-same b = refl

  some-caption : (bs : Blocks) → has_caption (changed change bs) ≡ has_caption bs
  some-caption no_blocks = refl
  some-caption (block b bs) = rw (caption-same b, some-caption bs) refl

  -- ---- anchors

  mutual
    no-anchors : (x : Inline) → has_no_anchors (changed_inline change x) ≡ has_no_anchors x
    no-anchors (formatted f c) = line-anchorless c
    no-anchors (link a t c) = line-anchorless c
    no-anchors x = refl

    line-anchorless : (xs : Inlines) → have_no_anchors (changed_inlines change xs) ≡ have_no_anchors xs
    line-anchorless no_inlines = refl
    line-anchorless (inline x xs) = rw (no-anchors x, line-anchorless xs) refl

  pub heading-same : (xs : Inlines) → heading_keeps (changed_inlines change xs) ≡ heading_keeps xs
  heading-same no_inlines = refl
  heading-same (inline (anchor id) xs) = heading-same xs
  heading-same (inline x xs) = line-anchorless (inline x xs)

  cells-anchorless : (cells : List Inlines)
      → list_all have_no_anchors (changed_cells change cells) ≡ list_all have_no_anchors cells
  cells-anchorless [] = refl
  cells-anchorless (c ∷ cells) = rw (line-anchorless c, cells-anchorless cells) refl

  rows-anchorless : (rows : List (List Inlines))
      → list_all (list_all have_no_anchors) (map (changed_cells change) rows)
      ≡ list_all (list_all have_no_anchors) rows
  rows-anchorless [] = refl
  rows-anchorless (r ∷ rows) = rw (cells-anchorless r, rows-anchorless rows) refl

  mutual
    block-anchorless : (b : Block) → block_has_no_anchors (changed_block change b) ≡ block_has_no_anchors b
    block-anchorless (paragraph xs) = line-anchorless xs
    block-anchorless (heading n xs) = line-anchorless xs
    block-anchorless (quote bs) = anchorless-same bs
    block-anchorless (list start is_tight items) = items-anchorless items
    block-anchorless (table alignments header rows) = rw (cells-anchorless header, rows-anchorless rows) refl
    block-anchorless (element name attributes bs) = anchorless-same bs
    block-anchorless b = refl

    pub anchorless-same : (bs : Blocks) → blocks_have_no_anchors (changed change bs) ≡ blocks_have_no_anchors bs
    anchorless-same no_blocks = refl
    anchorless-same (block b bs) = rw (block-anchorless b, anchorless-same bs) refl

    items-anchorless : (items : Items)
        → items_have_no_anchors (changed_items change items) ≡ items_have_no_anchors items
    items-anchorless no_items = refl
    items-anchorless (item bs rest) = rw (anchorless-same bs, items-anchorless rest) refl

  -- ---- titles

  mutual
    block-unseen : (b : Block) → is_unseen (changed_block change b) ≡ is_unseen b
    block-unseen (quote bs) = unseen-same bs
    block-unseen (list start is_tight items) = items-same items
    block-unseen (element name attributes bs) = unseen-same bs
    block-unseen b = refl

    unseen-same : (bs : Blocks) → are_unseen (changed change bs) ≡ are_unseen bs
    unseen-same no_blocks = refl
    unseen-same (block b bs) = rw (block-unseen b, unseen-same bs) refl

    items-same : (items : Items) → items_unseen (changed_items change items) ≡ items_unseen items
    items-same no_items = refl
    items-same (item bs rest) = rw (unseen-same bs, items-same rest) refl

  none-same : (xs : Inlines) → has_none (changed_inlines change xs) ≡ has_none xs
  none-same no_inlines = refl
  none-same (inline x xs) = refl

  cells-lead : (cells : List Inlines) → cells_lead (changed_cells change cells) ≡ cells_lead cells
  cells-lead [] = refl
  cells-lead (c ∷ cells) = rw (heading-same c, none-same c, cells-lead cells, cells-anchorless cells) refl

  mutual
    block-leads-same : (b : Block) → block_leads (changed_block change b) ≡ block_leads b
    block-leads-same (paragraph xs) = ap heading_keeps (behind-same xs) ∙ heading-same (behind_box xs)
    block-leads-same (quote bs) = title-same bs
    block-leads-same (list start is_tight items) = items-lead items
    block-leads-same (table alignments header rows) = rw (cells-lead header, rows-anchorless rows) refl
    block-leads-same (element name attributes bs) = rw (title-same bs) refl
    block-leads-same b = refl

    title-same : (bs : Blocks) → title_keeps (changed change bs) ≡ title_keeps bs
    title-same no_blocks = refl
    title-same (block b bs) =
        rw (block-leads-same b, block-unseen b, title-same bs, anchorless-same bs) refl

    items-lead : (items : Items) → items_lead (changed_items change items) ≡ items_lead items
    items-lead no_items = refl
    items-lead (item bs rest) = rw (title-same bs, unseen-same bs, items-lead rest, items-anchorless rest) refl

  -- ---- elements of a kind

  neat-element : (name : BlockElement) (attributes : List BlockAttribute) (bs : Blocks)
      → is_neat_element name attributes (changed change bs) ≡ is_neat_element name attributes bs
  neat-element an.Terms attributes bs = ap (λ b. has_neat_attributes an.Terms attributes && b) (some-filled bs)
  neat-element an.Figure attributes bs = ap (λ b. has_neat_attributes an.Figure attributes && b) (some-caption bs)
  neat-element an.Table attributes bs =
      ap (λ b. has_neat_attributes an.Table attributes && b) (neat-table change attributes bs)
  neat-element an.Summary attributes bs = ap (λ b. has_neat_attributes an.Summary attributes && b) (title-same bs)
  neat-element an.Term attributes bs = ap (λ b. has_neat_attributes an.Term attributes && b) (title-same bs)
  neat-element an.FigureCaption attributes bs =
      ap (λ b. has_neat_attributes an.FigureCaption attributes && b) (title-same bs)
  neat-element an.Caption attributes bs = ap (λ b. has_neat_attributes an.Caption attributes && b) (title-same bs)
  neat-element name attributes bs = refl

  -- ---- lists

  flat-tight : (bs : Blocks) → is_tight_item (flattened (changed change bs)) ≡ is_tight_item (flattened bs)
  flat-tight bs = ap is_tight_item (sym (flat-changed change bs)) ∙ tight-item-same change (flattened bs)

  show-same : (items : Items) → show_loose (changed_items change items) ≡ show_loose items
  show-same no_items = refl
  show-same (item bs rest) = rw (holds-same change bs, flat-tight bs, show-same rest) refl

  tight-same : (items : Items) → are_tight_items (changed_items change items) ≡ are_tight_items items
  tight-same no_items = refl
  tight-same (item bs rest) = rw (flat-tight bs, tight-same rest) refl

  stay-same : (items : Items) → stay_tight (changed_items change items) ≡ stay_tight items
  stay-same no_items = refl
  stay-same (item bs no_items) = refl
  stay-same (item bs (item cs rest)) = tight-same (item bs (item cs rest))

  right-same : (is_tight : Bool) (items : Items)
      → is_right_list is_tight (changed_items change items) ≡ is_right_list is_tight items
  right-same true items = stay-same items
  right-same false items = show-same items

  mutual
    block-fits : (n : ℕ) (b : Block) → block_numbers_fit n (changed_block change b) ≡ block_numbers_fit n b
    block-fits n (quote bs) = fits-same (suc n) bs
    block-fits n (list start is_tight items) = rw (count-same change items, items-fit (suc n) items) refl
    block-fits n (element name attributes bs) = fits-same n bs
    block-fits n b = refl

    pub fits-same : (n : ℕ) (bs : Blocks) → numbers_fit n (changed change bs) ≡ numbers_fit n bs
    fits-same n no_blocks = refl
    fits-same n (block b bs) = rw (block-fits n b, fits-same n bs) refl

    items-fit : (n : ℕ) (items : Items)
        → item_numbers_fit n (changed_items change items) ≡ item_numbers_fit n items
    items-fit n no_items = refl
    items-fit n (item bs rest) = rw (fits-same n bs, items-fit n rest) refl

-- ---- leaves

-- so that they are of this kind with their addresses encoded
abbrev pub encoding : Leaves → Leaves
encoding k = record k {
  link = λ a t. k.link (encoded_address a) t;
  image = λ a t d. k.image (encoded_address a) t d;
}

abbrev line : Inlines → Inlines
line xs = changed_inlines encoded_address xs

mutual
  inline-leaves : (x : Inline) → is_inline_of neat (changed_inline encoded_address x)
      ≡ is_inline_of (encoding neat) x
  inline-leaves (formatted f c) = ap (λ b. neat.format f && b) (line-leaves c)
  inline-leaves (link a t c) = ap (λ b. neat.link (encoded_address a) t && b) (line-leaves c)
  inline-leaves (image a t d) = refl
  inline-leaves x = refl

  line-leaves : (xs : Inlines) → is_line_of neat (line xs) ≡ is_line_of (encoding neat) xs
  line-leaves no_inlines = refl
  line-leaves (inline x xs) = rw (inline-leaves x, line-leaves xs) refl

whole-leaves : (xs : Inlines) → is_whole_line_of neat (line xs) ≡ is_whole_line_of (encoding neat) xs
whole-leaves xs =
    ap (λ b. b && is_neat_line (line xs)) (line-leaves xs)
    ∙ ap (λ b. is_line_of (encoding neat) xs && b) (neat-line encoded_address xs)

cell-leaves : (cells : List Inlines)
    → are_cells_of neat (changed_cells encoded_address cells) ≡ are_cells_of (encoding neat) cells
cell-leaves [] = refl
cell-leaves (c ∷ cells) = rw (whole-leaves c, cell-leaves cells) refl

row-leaves : (rows : List (List Inlines)) → list_all (are_cells_of neat) (map (changed_cells encoded_address) rows)
    ≡ list_all (are_cells_of (encoding neat)) rows
row-leaves [] = refl
row-leaves (r ∷ rows) = rw (cell-leaves r, row-leaves rows) refl

mutual
  block-leaves : (b : Block) → is_block_of neat (changed_block encoded_address b) ≡ is_block_of (encoding neat) b
  block-leaves (paragraph xs) = whole-leaves xs
  block-leaves (heading n xs) =
      ap (λ b. b && heading_keeps (line xs)) (whole-leaves xs)
      ∙ ap (λ b. is_whole_line_of (encoding neat) xs && b) (heading-same encoded_address xs)
  block-leaves (code_block language s) = refl
  block-leaves (quote bs) = leaves-encoded bs
  block-leaves thematic_break = refl
  block-leaves (list start is_tight items) =
      rw (right-same encoded_address is_tight items, item-leaves items) refl
  block-leaves (table alignments header rows) =
      rw (columns-same encoded_address header rows, cell-leaves header, row-leaves rows) refl
  block-leaves (element name attributes bs) =
      rw (neat-element encoded_address name attributes bs, leaves-encoded bs) refl
  block-leaves (tags s) = refl

  pub leaves-encoded : (bs : Blocks) → are_blocks_of neat (encoded bs) ≡ are_blocks_of (encoding neat) bs
  leaves-encoded no_blocks = refl
  leaves-encoded (block b bs) = rw (block-leaves b, leaves-encoded bs) refl

  item-leaves : (items : Items)
      → are_items_of neat (changed_items encoded_address items) ≡ are_items_of (encoding neat) items
  item-leaves no_items = refl
  item-leaves (item bs rest) = rw (leaves-encoded bs, item-leaves rest) refl

-- ---- once encoded, addresses stay

mutual
  inline-stays : (x : Inline) → is_inline_of neat x ≡ true → changed_inline encoded_address x ≡ x
  inline-stays (formatted f c) h =
      ap (formatted f) (line-stays c (and_parts (neat.format f) (is_line_of neat c) h).1)
  inline-stays (link a t c) h =
      let p = and_parts (is_settled_address a && is_settled_title t) (is_line_of neat c) h in
      let e = encoded-stays a (and_parts (is_settled_address a) (is_settled_title t) p.0).0 in
      ap (λ s. link s t (line c)) e ∙ ap (link a t) (line-stays c p.1)
  inline-stays (image a t d) h =
      let p = and_parts (is_settled_address a && is_settled_title t) (is_one_line d) h in
      ap (λ s. image s t d) (encoded-stays a (and_parts (is_settled_address a) (is_settled_title t) p.0).0)
  inline-stays x h = refl

  line-stays : (xs : Inlines) → is_line_of neat xs ≡ true → line xs ≡ xs
  line-stays no_inlines h = refl
  line-stays (inline x xs) h =
      let p = and_parts (is_inline_of neat x) (is_line_of neat xs) h in
      ap (λ y. inline y (line xs)) (inline-stays x p.0) ∙ ap (inline x) (line-stays xs p.1)

whole-stays : (xs : Inlines) → is_whole_line_of neat xs ≡ true → line xs ≡ xs
whole-stays xs h = line-stays xs (and_parts (is_line_of neat xs) (is_neat_line xs) h).0

cells-stay : (cells : List Inlines) → are_cells_of neat cells ≡ true
    → changed_cells encoded_address cells ≡ cells
cells-stay [] h = refl
cells-stay (c ∷ cells) h =
    let p = and_parts (is_whole_line_of neat c) (are_cells_of neat cells) h in
    ap (λ y. y ∷ changed_cells encoded_address cells) (whole-stays c p.0)
    ∙ ap (λ ys. c ∷ ys) (cells-stay cells p.1)

rows-stay : (rows : List (List Inlines)) → list_all (are_cells_of neat) rows ≡ true
    → map (changed_cells encoded_address) rows ≡ rows
rows-stay [] h = refl
rows-stay (r ∷ rows) h =
    let p = and_parts (are_cells_of neat r) (list_all (are_cells_of neat) rows) h in
    ap (λ y. y ∷ map (changed_cells encoded_address) rows) (cells-stay r p.0)
    ∙ ap (λ ys. r ∷ ys) (rows-stay rows p.1)

mutual
  block-stays : (b : Block) → is_block_of neat b ≡ true → changed_block encoded_address b ≡ b
  block-stays (paragraph xs) h = ap paragraph (whole-stays xs h)
  block-stays (heading n xs) h =
      ap (heading n) (whole-stays xs (and_parts (is_whole_line_of neat xs) (heading_keeps xs) h).0)
  block-stays (code_block language s) h = refl
  block-stays (quote bs) h = ap quote (neat-stays bs h)
  block-stays thematic_break h = refl
  block-stays (list start is_tight items) h =
      ap (list start is_tight)
      (items-stay items (and_parts (is_right_list is_tight items) (are_items_of neat items) h).1)
  block-stays (table alignments header rows) h =
      let q = and_parts (shows_last_column header rows)
      (are_cells_of neat header && list_all (are_cells_of neat) rows) h in
      let p = and_parts (are_cells_of neat header) (list_all (are_cells_of neat) rows) q.1 in
      ap (λ y. table alignments y (map (changed_cells encoded_address) rows)) (cells-stay header p.0)
      ∙ ap (table alignments header) (rows-stay rows p.1)
  block-stays (element name attributes bs) h =
      ap (element name attributes)
      (neat-stays bs (and_parts (is_neat_element name attributes bs) (are_blocks_of neat bs) h).1)
  block-stays (tags s) h = refl

  pub neat-stays : (bs : Blocks) → are_blocks_of neat bs ≡ true → encoded bs ≡ bs
  neat-stays no_blocks h = refl
  neat-stays (block b bs) h =
      let p = and_parts (is_block_of neat b) (are_blocks_of neat bs) h in
      ap (λ c. block c (encoded bs)) (block-stays b p.0) ∙ ap (block b) (neat-stays bs p.1)

  items-stay : (items : Items) → are_items_of neat items ≡ true → changed_items encoded_address items ≡ items
  items-stay no_items h = refl
  items-stay (item bs rest) h =
      let p = and_parts (are_blocks_of neat bs) (are_items_of neat rest) h in
      ap (λ c. item c (changed_items encoded_address rest)) (neat-stays bs p.0)
      ∙ ap (item bs) (items-stay rest p.1)
