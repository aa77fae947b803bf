-- What is read, with other addresses that are encoded alike: it has the same trees, and the document with these.
use Rattle.std.proofs.Common.{◌≡◌, ℕ, Bool, true, false, ◌&&◌, List, [], ◌∷◌, map, drop, codes, refl}
use Rattle.std.proofs.Common.{sym, ap, ◌∙◌}
use Rattle.std.proofs.Common.{Option, Some, None, cond}
use Rattle.std.specs.Str.{bytes_eq}
use Rattle.std.proofs.lemmas.Bool.{and_parts}
use Rattle.htmd_lexical.specs.Characters.{space}
use Rattle.htmd_document.specs.declared.document.Alignment.{Alignment}
use Rattle.htmd_document.specs.Documents as document
use Rattle.htmd_document.specs.Tags.{end_of_anchor}
use Rattle.htmd_commonmark_reading.specs.Anchors.{anchor_id}
use Rattle.htmd_commonmark_reading.specs.Markup.{Inlines, no_inlines, letter, code, formatted, link, image, line_break}
use Rattle.htmd_commonmark_reading.specs.Markup.{task, raw, Block, paragraph, heading, code_block, quote}
use Rattle.htmd_commonmark_reading.specs.Markup.{thematic_break, list, table, html_block, Blocks, no_blocks, block}
use Rattle.htmd_commonmark_reading.specs.Markup.{Items, no_items, item, plain_text}
use Rattle.htmd_commonmark_reading.specs.Rendering.{is_bare}
use Rattle.htmd_commonmark_reading.specs.SeenMarkup.{seen_inlines, seen_row, seen_rows, has_none, has_no_cell}
use Rattle.htmd_commonmark_reading.specs.SeenMarkup.{filled_front, without_empty_end, seen_block, seen_blocks}
use Rattle.htmd_commonmark_reading.specs.SeenMarkup.{seen_items, with_first, with_letter, with_content, with_anchor}
use Rattle.htmd_commonmark_reading.specs.SeenMarkup.{document_inlines, document_row, document_rows, document_block}
use Rattle.htmd_commonmark_reading.specs.SeenMarkup.{document_blocks, document_items, and_list, option_of}
use Rattle.htmd_commonmark_reading.specs.SeenMarkup.{option_of_both}
use Rattle.htmd_law_rendering.specs.RenderedTrees.{encoded_address, pair, pairs_of_title, pairs_of_link, pairs_of_image}
use Rattle.htmd_law_rendering.specs.RenderedTrees.{inlines_trees, pairs_of_alignment, heading_name}
use Rattle.htmd_lexical.specs.AttributePairs.{AttributePair}
use Rattle.htmd_commonmark_reading.specs.Rendering.{first_alignment}
use Rattle.htmd_law_rendering.specs.RenderedTrees.{inlines_open, cells_trees, rows_trees, body_trees}
use Rattle.htmd_law_rendering.specs.RenderedTrees.{onto, element_before, block_trees, items_trees}
use Rattle.htmd_law_rendering.specs.RenderedTrees.{spelled_of, begun_line, line_end, Open, with_html, blocks_open}
use Rattle.htmd_law_rendering.specs.SpelledTrees.{SpelledForest, none}
use Rattle.htmd_law_returning.specs.EncodedDocuments.{changed_inline, changed_inlines, changed_cells, changed_block}
use Rattle.htmd_law_returning.specs.EncodedDocuments.{changed, changed_items}
use Rattle.htmd_law_rendering.proofs.PairedLemmas.{is_anchor, is_end}
use Rattle.htmd_law_returning.proofs.RawReadings.{has_no_raw, cells_have_no_raw, rows_have_no_raw, block_has_no_raw}
use Rattle.htmd_law_returning.proofs.RawReadings.{blocks_have_no_raw, items_have_no_raw}
use Rattle.htmd_law_returning.proofs.TreesLemmas.{described, whole-described}

module _ (change : List ℕ → List ℕ) where
  -- ---- other addresses

  -- in the description of an image no address counts
  abbrev pub addressed : Inlines → Inlines
  addressed no_inlines = no_inlines
  addressed (letter c xs) = letter c (addressed xs)
  addressed (code s xs) = code s (addressed xs)
  addressed (formatted f content xs) = formatted f (addressed content) (addressed xs)
  addressed (link a t content xs) = link (change a) t (addressed content) (addressed xs)
  addressed (image a t content xs) = image (change a) t content (addressed xs)
  addressed (line_break xs) = line_break (addressed xs)
  addressed (task d xs) = task d (addressed xs)
  addressed (raw tag xs) = raw tag (addressed xs)

  abbrev pub addressed_row : List Inlines → List Inlines
  addressed_row cells = map addressed cells

  abbrev mutual
    pub addressed_block : Block → Block
    addressed_block (paragraph xs) = paragraph (addressed xs)
    addressed_block (heading level xs) = heading level (addressed xs)
    addressed_block (code_block language s) = code_block language s
    addressed_block (quote bs) = quote (addressed_blocks bs)
    addressed_block thematic_break = thematic_break
    addressed_block (list start is_tight items) = list start is_tight (addressed_items items)
    addressed_block (table alignments header rows) =
        table alignments (addressed_row header) (map addressed_row rows)
    addressed_block (html_block s) = html_block s

    pub addressed_blocks : Blocks → Blocks
    addressed_blocks no_blocks = no_blocks
    addressed_blocks (block b bs) = block (addressed_block b) (addressed_blocks bs)

    pub addressed_items : Items → Items
    addressed_items no_items = no_items
    addressed_items (item bs rest) = item (addressed_blocks bs) (addressed_items rest)

  -- ---- the same trees

  module _ (same : (a : List ℕ) → encoded_address (change a) ≡ encoded_address a) where
    link-pairs : (a : List ℕ) (t : Option (List ℕ)) → pairs_of_link (change a) t ≡ pairs_of_link a t
    link-pairs a t = ap (λ s. pair (codes "href") s ∷ pairs_of_title t) (same a)

    image-pairs : (a : List ℕ) (t : Option (List ℕ)) (d : List ℕ)
        → pairs_of_image (change a) t d ≡ pairs_of_image a t d
    image-pairs a t d = ap (λ s. pair (codes "src") s ∷ pair (codes "alt") d ∷ pairs_of_title t) (same a)

    open-same : (xs : Inlines) (rest : SpelledForest) → inlines_open (addressed xs) rest ≡ inlines_open xs rest
    open-same no_inlines rest = refl
    open-same (letter c xs) rest = rw (open-same xs rest) refl
    open-same (code s xs) rest = rw (open-same xs rest) refl
    open-same (formatted f content xs) rest = rw (open-same content none, open-same xs rest) refl
    open-same (link a t content xs) rest =
        rw (open-same content none, open-same xs rest)
        (ap (λ ps. onto (element_before (codes "a") ps (inlines_open content none).first) (inlines_open xs rest))
        (link-pairs a t))
    open-same (image a t content xs) rest =
        rw (open-same xs rest)
        (ap (λ ps. onto (element_before (codes "img") ps none) (inlines_open xs rest))
        (image-pairs a t (plain_text content)))
    open-same (line_break xs) rest = rw (open-same xs rest) refl
    open-same (task d xs) rest = rw (open-same xs rest) refl
    open-same (raw tag xs) rest = rw (open-same xs rest) refl

    line-same : (xs : Inlines) (rest : SpelledForest) → inlines_trees (addressed xs) rest ≡ inlines_trees xs rest
    line-same xs rest = ap (λ o. o.first) (open-same xs rest)

    cells-same : (name : List ℕ) (alignments : List Alignment) (cells : List Inlines)
        → cells_trees name alignments (addressed_row cells) ≡ cells_trees name alignments cells
    cells-same name alignments [] = refl
    cells-same name alignments (c ∷ cells) =
        let pairs : List AttributePair = pairs_of_alignment (first_alignment alignments) in
        let rest : SpelledForest = cells_trees name (drop 1 alignments) (addressed_row cells) in
        ap (λ ts. element_before name pairs ts (line_end rest)) (line-same c none)
        ∙ ap (λ ts. element_before name pairs (inlines_trees c none) (line_end ts))
        (cells-same name (drop 1 alignments) cells)

    rows-same : (alignments : List Alignment) (rows : List (List Inlines))
        → rows_trees alignments (map addressed_row rows) ≡ rows_trees alignments rows
    rows-same alignments [] = refl
    rows-same alignments (r ∷ rows) = rw (cells-same (codes "td") alignments r, rows-same alignments rows) refl

    body-same : (alignments : List Alignment) (rows : List (List Inlines))
        → body_trees alignments (map addressed_row rows) ≡ body_trees alignments rows
    body-same alignments [] = refl
    body-same alignments (r ∷ rows) = rw (rows-same alignments (r ∷ rows)) refl

    bare-same : (is_tight : Bool) (b : Block) → is_bare is_tight (addressed_block b) ≡ is_bare is_tight b
    bare-same is_tight (paragraph xs) = refl
    bare-same is_tight (heading level xs) = refl
    bare-same is_tight (code_block language s) = refl
    bare-same is_tight (quote bs) = refl
    bare-same is_tight thematic_break = refl
    bare-same is_tight (list start tight items) = refl
    bare-same is_tight (table alignments header rows) = refl
    bare-same is_tight (html_block s) = refl

    html-same : (b : Block) (o : Open) → with_html (addressed_block b) o ≡ with_html b o
    html-same (paragraph xs) o = refl
    html-same (heading level xs) o = refl
    html-same (code_block language s) o = refl
    html-same (quote bs) o = refl
    html-same thematic_break o = refl
    html-same (list start tight items) o = refl
    html-same (table alignments header rows) o = refl
    html-same (html_block s) o = refl

    mutual
      block-same : (is_tight : Bool) (b : Block) (rest : SpelledForest)
          → block_trees is_tight (addressed_block b) rest ≡ block_trees is_tight b rest
      block-same true (paragraph xs) rest = line-same xs rest
      block-same false (paragraph xs) rest =
          ap (λ ts. element_before (codes "p") [] ts (line_end rest)) (line-same xs none)
      block-same is_tight (heading level xs) rest =
          ap (λ ts. element_before (heading_name level) [] ts (line_end rest)) (line-same xs none)
      block-same is_tight (code_block language s) rest = refl
      block-same is_tight (quote bs) rest = rw (blocks-same false false bs) refl
      block-same is_tight thematic_break rest = refl
      block-same is_tight (list start tight items) rest = rw (items-same tight items) refl
      block-same is_tight (table alignments header rows) rest =
          rw (cells-same (codes "th") alignments header, body-same alignments rows) refl
      block-same is_tight (html_block s) rest = refl

      blocks-same : (is_tight is_in_line : Bool) (bs : Blocks)
          → blocks_open is_tight is_in_line (addressed_blocks bs) ≡ blocks_open is_tight is_in_line bs
      blocks-same is_tight is_in_line no_blocks = refl
      blocks-same is_tight is_in_line (block b bs) =
          let bare : Bool = is_bare is_tight b in
          let o : Open = with_html b (blocks_open is_tight bare bs) in
          ap (λ x. onto (λ ts. begun_line is_in_line x (block_trees is_tight (addressed_block b) ts))
          (with_html (addressed_block b) (blocks_open is_tight x (addressed_blocks bs)))) (bare-same is_tight b)
          ∙ (ap (λ x. onto (λ ts. begun_line is_in_line bare (block_trees is_tight (addressed_block b) ts)) x)
          (html-same b (blocks_open is_tight bare (addressed_blocks bs))
          ∙ ap (with_html b) (blocks-same is_tight bare bs))
          ∙ ap (λ ts. record o { first = begun_line is_in_line bare ts }) (block-same is_tight b o.first))

      items-same : (is_tight : Bool) (items : Items)
          → items_trees is_tight (addressed_items items) ≡ items_trees is_tight items
      items-same is_tight no_items = refl
      items-same is_tight (item bs rest) = rw (blocks-same is_tight true bs, items-same is_tight rest) refl

    pub trees-same : (bs : Blocks) → spelled_of (addressed_blocks bs) ≡ spelled_of bs
    trees-same bs = ap (λ o. o.first) (blocks-same false false bs)

  -- ---- no raw tags but those of anchors

  no-raw : (xs : Inlines) → has_no_raw (addressed xs) ≡ has_no_raw xs
  no-raw no_inlines = refl
  no-raw (letter c xs) = no-raw xs
  no-raw (code s xs) = no-raw xs
  no-raw (formatted f content xs) = rw (no-raw content, no-raw xs) refl
  no-raw (link a t content xs) = rw (no-raw content, no-raw xs) refl
  no-raw (image a t content xs) = rw (no-raw xs) refl
  no-raw (line_break xs) = no-raw xs
  no-raw (task d xs) = no-raw xs
  no-raw (raw tag (raw end xs)) = ap (λ b. (is_anchor tag && is_end end) && b) (no-raw xs)
  no-raw (raw tag no_inlines) = refl
  no-raw (raw tag (letter c xs)) = refl
  no-raw (raw tag (code s xs)) = refl
  no-raw (raw tag (formatted f content xs)) = refl
  no-raw (raw tag (link a t content xs)) = refl
  no-raw (raw tag (image a t content xs)) = refl
  no-raw (raw tag (line_break xs)) = refl
  no-raw (raw tag (task d xs)) = refl

  no-raw-cells : (cells : List Inlines) → cells_have_no_raw (addressed_row cells) ≡ cells_have_no_raw cells
  no-raw-cells [] = refl
  no-raw-cells (c ∷ cells) = rw (no-raw c, no-raw-cells cells) refl

  no-raw-rows : (rows : List (List Inlines)) → rows_have_no_raw (map addressed_row rows) ≡ rows_have_no_raw rows
  no-raw-rows [] = refl
  no-raw-rows (r ∷ rows) = rw (no-raw-cells r, no-raw-rows rows) refl

  mutual
    no-raw-block : (b : Block) → block_has_no_raw (addressed_block b) ≡ block_has_no_raw b
    no-raw-block (paragraph xs) = no-raw xs
    no-raw-block (heading level xs) = no-raw xs
    no-raw-block (code_block language s) = refl
    no-raw-block (quote bs) = no-raw-blocks bs
    no-raw-block thematic_break = refl
    no-raw-block (list start is_tight items) = no-raw-items items
    no-raw-block (table alignments header rows) = rw (no-raw-cells header, no-raw-rows rows) refl
    no-raw-block (html_block s) = refl

    pub no-raw-blocks : (bs : Blocks) → blocks_have_no_raw (addressed_blocks bs) ≡ blocks_have_no_raw bs
    no-raw-blocks no_blocks = refl
    no-raw-blocks (block b bs) = rw (no-raw-block b, no-raw-blocks bs) refl

    no-raw-items : (items : Items) → items_have_no_raw (addressed_items items) ≡ items_have_no_raw items
    no-raw-items no_items = refl
    no-raw-items (item bs rest) = rw (no-raw-blocks bs, no-raw-items rest) refl

  -- ---- what is seen

  described-addressed : (xs : Inlines) → described (addressed xs) ≡ addressed (described xs)
  described-addressed no_inlines = refl
  described-addressed (letter c xs) = ap (letter c) (described-addressed xs)
  described-addressed (code s xs) = ap (code s) (described-addressed xs)
  described-addressed (formatted f content xs) = rw (described-addressed content, described-addressed xs) refl
  described-addressed (link a t content xs) = rw (described-addressed content, described-addressed xs) refl
  described-addressed (image a t content xs) = rw (described-addressed xs) refl
  described-addressed (line_break xs) = ap line_break (described-addressed xs)
  described-addressed (task d xs) = ap (task d) (described-addressed xs)
  described-addressed (raw tag xs) = ap (raw tag) (described-addressed xs)

  seen-addressed : (xs : Inlines) → has_no_raw xs ≡ true
      → seen_inlines (addressed xs) ≡ addressed (seen_inlines xs)
  seen-addressed xs h =
      whole-described (addressed xs) (no-raw xs ∙ h)
      ∙ (described-addressed xs ∙ ap addressed (sym (whole-described xs h)))

  row-seen : (cells : List Inlines) → cells_have_no_raw cells ≡ true
      → seen_row (addressed_row cells) ≡ addressed_row (seen_row cells)
  row-seen [] h = refl
  row-seen (c ∷ cells) h =
      let p = and_parts (has_no_raw c) (cells_have_no_raw cells) h in
      rw (seen-addressed c p.0, row-seen cells p.1) refl

  none-addressed : (xs : Inlines) → has_none (addressed xs) ≡ has_none xs
  none-addressed no_inlines = refl
  none-addressed (letter c xs) = refl
  none-addressed (code s xs) = refl
  none-addressed (formatted f content xs) = refl
  none-addressed (link a t content xs) = refl
  none-addressed (image a t content xs) = refl
  none-addressed (line_break xs) = refl
  none-addressed (task d xs) = refl
  none-addressed (raw tag xs) = refl

  no-cell-addressed : (cells : List Inlines) → has_no_cell (addressed_row cells) ≡ has_no_cell cells
  no-cell-addressed [] = refl
  no-cell-addressed (c ∷ cells) = refl

  front-addressed : (cells : List Inlines) → filled_front (addressed_row cells) ≡ addressed_row (filled_front cells)
  front-addressed [] = refl
  front-addressed (c ∷ cells) =
      rw (front-addressed cells, none-addressed c, no-cell-addressed (filled_front cells))
      (either (has_none c && has_no_cell (filled_front cells)))
    where
      either : (b : Bool) → cond b [] (addressed c ∷ addressed_row (filled_front cells))
          ≡ addressed_row (cond b [] (c ∷ filled_front cells))
      either true = refl
      either false = refl

  end-addressed : (cells : List Inlines)
      → without_empty_end (addressed_row cells) ≡ addressed_row (without_empty_end cells)
  end-addressed [] = refl
  end-addressed (c ∷ cells) = ap (λ cs. addressed c ∷ cs) (front-addressed cells)

  rows-seen : (rows : List (List Inlines)) → rows_have_no_raw rows ≡ true
      → seen_rows (map addressed_row rows) ≡ map addressed_row (seen_rows rows)
  rows-seen [] h = refl
  rows-seen (r ∷ rows) h =
      let p = and_parts (cells_have_no_raw r) (rows_have_no_raw rows) h in
      rw (row-seen r p.0, rows-seen rows p.1)
      (ap (λ cs. cs ∷ map addressed_row (seen_rows rows)) (end-addressed (seen_row r)))

  mutual
    block-seen : (b : Block) → block_has_no_raw b ≡ true
        → seen_block (addressed_block b) ≡ addressed_block (seen_block b)
    block-seen (paragraph xs) h = ap paragraph (seen-addressed xs h)
    block-seen (heading level xs) h = ap (heading level) (seen-addressed xs h)
    block-seen (code_block language s) h = refl
    block-seen (quote bs) h = ap quote (blocks-seen bs h)
    block-seen thematic_break h = refl
    block-seen (list start is_tight items) h = ap (list start is_tight) (items-seen items h)
    block-seen (table alignments header rows) h =
        let p = and_parts (cells_have_no_raw header) (rows_have_no_raw rows) h in
        rw (row-seen header p.0, rows-seen rows p.1) refl
    block-seen (html_block s) h = refl

    blocks-seen : (bs : Blocks) → blocks_have_no_raw bs ≡ true
        → seen_blocks (addressed_blocks bs) ≡ addressed_blocks (seen_blocks bs)
    blocks-seen no_blocks h = refl
    blocks-seen (block b bs) h =
        let p = and_parts (block_has_no_raw b) (blocks_have_no_raw bs) h in
        rw (block-seen b p.0, blocks-seen bs p.1) refl

    items-seen : (items : Items) → items_have_no_raw items ≡ true
        → seen_items (addressed_items items) ≡ addressed_items (seen_items items)
    items-seen no_items h = refl
    items-seen (item bs rest) h =
        let p = and_parts (blocks_have_no_raw bs) (items_have_no_raw rest) h in
        rw (blocks-seen bs p.0, items-seen rest p.1) refl

  -- ---- the document

  abbrev line : document.Inlines → document.Inlines
  line xs = changed_inlines change xs

  letter-changed : (c : ℕ) (o : Option document.Inlines)
      → with_letter c (option_of line o) ≡ option_of line (with_letter c o)
  letter-changed c None = refl
  letter-changed c (Some document.no_inlines) = refl
  letter-changed c (Some (document.inline (document.text s) xs)) = refl
  letter-changed c (Some (document.inline (document.code s) xs)) = refl
  letter-changed c (Some (document.inline (document.formatted f d) xs)) = refl
  letter-changed c (Some (document.inline (document.link a t d) xs)) = refl
  letter-changed c (Some (document.inline (document.image a t d) xs)) = refl
  letter-changed c (Some (document.inline (document.anchor id) xs)) = refl
  letter-changed c (Some (document.inline document.line_break xs)) = refl
  letter-changed c (Some (document.inline (document.task d) xs)) = refl

  first-changed : (x : document.Inline) (o : Option document.Inlines)
      → with_first (changed_inline change x) (option_of line o) ≡ option_of line (with_first x o)
  first-changed x None = refl
  first-changed x (Some xs) = refl

  content-changed : (make other : document.Inlines → document.Inline)
      → ((xs : document.Inlines) → other (line xs) ≡ changed_inline change (make xs))
      → (content rest : Option document.Inlines)
      → with_content other (option_of line content) (option_of line rest)
      ≡ option_of line (with_content make content rest)
  content-changed make other e None rest = refl
  content-changed make other e (Some content) None = refl
  content-changed make other e (Some content) (Some rest) =
      ap (λ x. Some (document.inline x (line rest))) (e content)

  anchor-changed : (id : Option (List ℕ)) (end : List ℕ) (o : Option document.Inlines)
      → with_anchor id end (option_of line o) ≡ option_of line (with_anchor id end o)
  anchor-changed None end o = refl
  anchor-changed (Some id) end o = either (bytes_eq end end_of_anchor)
    where
      either : (b : Bool) → cond b (with_first (document.anchor id) (option_of line o)) None
          ≡ option_of line (cond b (with_first (document.anchor id) o) None)
      either true = first-changed (document.anchor id) o
      either false = refl

  inlines-changed : (xs : Inlines) → document_inlines (addressed xs) ≡ option_of line (document_inlines xs)
  inlines-changed no_inlines = refl
  inlines-changed (letter c xs) = ap (with_letter c) (inlines-changed xs) ∙ letter-changed c (document_inlines xs)
  inlines-changed (code s xs) =
      ap (with_first (document.code s)) (inlines-changed xs) ∙ first-changed (document.code s) (document_inlines xs)
  inlines-changed (formatted f content xs) =
      rw (inlines-changed content, inlines-changed xs)
      (content-changed (document.formatted f) (document.formatted f) (λ d. refl) (document_inlines content)
      (document_inlines xs))
  inlines-changed (link a t content xs) =
      rw (inlines-changed content, inlines-changed xs)
      (content-changed (document.link a t) (document.link (change a) t) (λ d. refl) (document_inlines content)
      (document_inlines xs))
  inlines-changed (image a t content xs) =
      let x : document.Inline = document.image a t (plain_text content) in
      ap (with_first (changed_inline change x)) (inlines-changed xs) ∙ first-changed x (document_inlines xs)
  inlines-changed (line_break xs) =
      ap (with_first document.line_break) (inlines-changed xs)
      ∙ first-changed document.line_break (document_inlines xs)
  inlines-changed (task d xs) =
      ap (λ o. with_first (document.task d) (with_letter space o)) (inlines-changed xs)
      ∙ (ap (with_first (document.task d)) (letter-changed space (document_inlines xs))
      ∙ first-changed (document.task d) (with_letter space (document_inlines xs)))
  inlines-changed (raw tag (raw end xs)) =
      ap (with_anchor (anchor_id tag) end) (inlines-changed xs)
      ∙ anchor-changed (anchor_id tag) end (document_inlines xs)
  inlines-changed (raw tag no_inlines) = refl
  inlines-changed (raw tag (letter c xs)) = refl
  inlines-changed (raw tag (code s xs)) = refl
  inlines-changed (raw tag (formatted f content xs)) = refl
  inlines-changed (raw tag (link a t content xs)) = refl
  inlines-changed (raw tag (image a t content xs)) = refl
  inlines-changed (raw tag (line_break xs)) = refl
  inlines-changed (raw tag (task d xs)) = refl

  -- what is made of an option, and of two
  one-moved : {A B : Type 0} (make : A → B) (f : A → A) (g : B → B) → ((x : A) → make (f x) ≡ g (make x))
      → (o : Option A) → option_of make (option_of f o) ≡ option_of g (option_of make o)
  one-moved make f g e None = refl
  one-moved make f g e (Some x) = ap Some (e x)

  two-moved : {A B C : Type 0} (make : A → B → C) (f : A → A) (g : B → B) (h : C → C)
      → ((x : A) (y : B) → make (f x) (g y) ≡ h (make x y)) → (o : Option A) (p : Option B)
      → option_of_both make (option_of f o) (option_of g p) ≡ option_of h (option_of_both make o p)
  two-moved make f g h e None p = refl
  two-moved make f g h e (Some x) None = refl
  two-moved make f g h e (Some x) (Some y) = ap Some (e x y)

  list-moved : {A : Type 0} (f : A → A) (o : Option A) (p : Option (List A))
      → and_list (option_of f o) (option_of (map f) p) ≡ option_of (map f) (and_list o p)
  list-moved f None p = refl
  list-moved f (Some x) None = refl
  list-moved f (Some x) (Some xs) = refl

  abbrev cells : List document.Inlines → List document.Inlines
  cells cs = changed_cells change cs

  row-changed : (cs : List Inlines) → document_row (addressed_row cs) ≡ option_of cells (document_row cs)
  row-changed [] = refl
  row-changed (c ∷ cs) =
      rw (inlines-changed c, row-changed cs) (list-moved line (document_inlines c) (document_row cs))

  rows-changed : (rows : List (List Inlines))
      → document_rows (map addressed_row rows) ≡ option_of (map cells) (document_rows rows)
  rows-changed [] = refl
  rows-changed (r ∷ rows) =
      rw (row-changed r, rows-changed rows) (list-moved cells (document_row r) (document_rows rows))

  mutual
    block-changed : (b : Block)
        → document_block (addressed_block b) ≡ option_of (changed_block change) (document_block b)
    block-changed (paragraph xs) =
        ap (option_of document.paragraph) (inlines-changed xs)
        ∙ one-moved document.paragraph line (changed_block change) (λ x. refl) (document_inlines xs)
    block-changed (heading level xs) =
        ap (option_of (document.heading level)) (inlines-changed xs)
        ∙ one-moved (document.heading level) line (changed_block change) (λ x. refl) (document_inlines xs)
    block-changed (code_block language s) = refl
    block-changed (quote bs) =
        ap (option_of document.quote) (blocks-changed bs)
        ∙ one-moved document.quote (changed change) (changed_block change) (λ x. refl) (document_blocks bs)
    block-changed thematic_break = refl
    block-changed (list start is_tight items) =
        ap (option_of (document.list start is_tight)) (items-changed items)
        ∙ one-moved (document.list start is_tight) (changed_items change) (changed_block change) (λ x. refl)
        (document_items items)
    block-changed (table alignments header rows) =
        rw (row-changed header, rows-changed rows)
        (two-moved (document.table alignments) cells (map cells) (changed_block change) (λ x y. refl)
        (document_row header) (document_rows rows))
    block-changed (html_block s) = refl

    blocks-changed : (bs : Blocks) → document_blocks (addressed_blocks bs)
        ≡ option_of (changed change) (document_blocks bs)
    blocks-changed no_blocks = refl
    blocks-changed (block b bs) =
        rw (block-changed b, blocks-changed bs)
        (two-moved document.block (changed_block change) (changed change) (changed change) (λ x y. refl)
        (document_block b) (document_blocks bs))

    items-changed : (items : Items)
        → document_items (addressed_items items) ≡ option_of (changed_items change) (document_items items)
    items-changed no_items = refl
    items-changed (item bs rest) =
        rw (blocks-changed bs, items-changed rest)
        (two-moved document.item (changed change) (changed_items change) (changed_items change) (λ x y. refl)
        (document_blocks bs) (document_items rest))

  pub document-changed : (bs : Blocks) (d : document.Blocks) → blocks_have_no_raw bs ≡ true
      → document_blocks (seen_blocks bs) ≡ Some d
      → document_blocks (seen_blocks (addressed_blocks bs)) ≡ Some (changed change d)
  document-changed bs d h e =
      ap document_blocks (blocks-seen bs h)
      ∙ (blocks-changed (seen_blocks bs) ∙ ap (option_of (changed change)) e)
