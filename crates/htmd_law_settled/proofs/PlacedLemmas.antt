-- The anchors of a page's document stay, if they stand where they come back.
use Rattle.std.proofs.Common.{◌≡◌, ℕ, Bool, true, false, not, ◌&&◌, ◌||◌, List, [], ◌∷◌, ◌++◌, map, refl, sym, ap, ◌∙◌}
use Rattle.std.specs.List.{list_all, flat_map}
use Rattle.std.proofs.lemmas.Bool.{and_from, and_parts}
use Rattle.std.proofs.lemmas.List.{append_assoc, append-nil}
use Rattle.htmd_document.specs.AnchorIds.{ids_of_inline, ids_of_line}
use Rattle.htmd_document.specs.Documents.{Inline, text, code, formatted, link, image, anchor, line_break, task}
use Rattle.htmd_document.specs.Documents.{Inlines, no_inlines, inline, Block, paragraph, heading, code_block, quote}
use Rattle.htmd_document.specs.Documents.{thematic_break, list, table, element, tags, Blocks, no_blocks, block}
use Rattle.htmd_document.specs.Documents.{Items, no_items, item, BlockAttribute}
use Rattle.htmd_document.specs.declared.document.BlockElement.{BlockElement}
use Rattle.htmd_document.specs.declared.document.BlockElement.TheVariants as an
use Rattle.htmd_document.specs.NormalInlines.{is_anchor}
use Rattle.htmd_law_anchors.specs.AnchorLaws.{id_of}
use Rattle.htmd_law_anchors.specs.AnchorLaws as anchors
use Rattle.htmd_law_anchors.specs.DocumentMarks.{Mark, letter, marks_of_inline, marks_of_line, marks_of_cells}
use Rattle.htmd_law_anchors.specs.DocumentMarks.{marks_of_block, marks_of_blocks, marks_of_items}
use Rattle.htmd_law_returning.specs.EncodedDocuments.{changed_inline, changed_inlines, changed_cells, changed_block}
use Rattle.htmd_law_returning.specs.EncodedDocuments.{changed, changed_items}
use Rattle.htmd_law_returning.specs.LastingAnchors.{Line, line, cells_of, lines_of, lines_in, lines_among}
use Rattle.htmd_law_returning.specs.LastingAnchors.{line_keeps, block_lines_stand, lines_stand}
use Rattle.htmd_law_returning.proofs.KeptBlocks.{keeps_anchors}
use Rattle.htmd_law_returning.specs.LastingAnchors.{item_lines_stand, past_gaps, goes_on}
use Rattle.htmd_law_returning.specs.LastingAnchors.{heading_keeps}
use Rattle.htmd_law_returning.specs.LastingAnchors.{title_keeps, is_headed_element}
use Rattle.htmd_law_documents.specs.DocumentTexts.{visible}
use Rattle.htmd_law_returning.specs.SettledDocuments.{is_one_line, shows_last_column, is_right_list}
use Rattle.htmd_law_returning.specs.WholeLines.{begins_white}
use Rattle.htmd_law_returning.specs.LastingAnchors.{inline_keeps, all_keep}
use Rattle.htmd_law_returning.proofs.LineIds.{ids_in_lines, ids-both}
use Rattle.htmd_law_settled.specs.NeatLeaves.{any_id}
use Rattle.htmd_law_settled.specs.Leaves.{is_line_of, is_whole_line_of, is_block_of, are_blocks_of, are_items_of}
use Rattle.htmd_law_settled.specs.Leaves.{are_cells_of}
use Rattle.htmd_law_settled.specs.NeatLeaves.{neat, is_neat_line, is_neat_element, has_neat_attributes}
use Rattle.htmd_law_settled.specs.CommonDocuments.{is_common_element, is_common_block, are_common_blocks}
use Rattle.htmd_law_settled.specs.CommonDocuments.{are_common_items}

-- ---- the ids of lines

marks-both : (xs ys : List Mark) → anchors.ids_of (xs ++ ys) ≡ anchors.ids_of xs ++ anchors.ids_of ys
marks-both [] ys = refl
marks-both (x ∷ xs) ys =
    ap (λ ids. id_of x ++ ids) (marks-both xs ys)
    ∙ sym (append_assoc (id_of x) (anchors.ids_of xs) (anchors.ids_of ys))

no-letters : (cs : List ℕ) → anchors.ids_of (map letter cs) ≡ []
no-letters [] = refl
no-letters (c ∷ cs) = no-letters cs

-- they are those of the marks of the document
mutual
  inline-marks : (x : Inline) → anchors.ids_of (marks_of_inline x) ≡ ids_of_inline x
  inline-marks (text s) = no-letters (visible s)
  inline-marks (code s) = no-letters (visible s)
  inline-marks (formatted f content) = line-marks content
  inline-marks (link address title content) = line-marks content
  inline-marks (image address title description) = no-letters (visible description)
  inline-marks (anchor id) = refl
  inline-marks line_break = refl
  inline-marks (task is_checked) = refl

  line-marks : (xs : Inlines) → anchors.ids_of (marks_of_line xs) ≡ ids_of_line xs
  line-marks no_inlines = refl
  line-marks (inline x xs) =
      marks-both (marks_of_inline x) (marks_of_line xs)
      ∙ (ap (λ ids. ids ++ anchors.ids_of (marks_of_line xs)) (inline-marks x)
      ∙ ap (λ ids. ids_of_inline x ++ ids) (line-marks xs))

one-line-marks : (h : Bool) (xs : Inlines) → anchors.ids_of (marks_of_line xs) ≡ ids_in_lines (line h xs ∷ [])
one-line-marks h xs = line-marks xs ∙ sym (append-nil (ids_of_line xs))

cells-marks : (cells : List Inlines) → anchors.ids_of (marks_of_cells cells) ≡ ids_in_lines (cells_of cells)
cells-marks [] = refl
cells-marks (c ∷ cs) =
    marks-both (marks_of_line c) (marks_of_cells cs)
    ∙ (ap (λ ids. ids ++ anchors.ids_of (marks_of_cells cs)) (line-marks c)
    ∙ ap (λ ids. ids_of_line c ++ ids) (cells-marks cs))

rows-marks : (rows : List (List Inlines))
    → anchors.ids_of (flat_map marks_of_cells rows) ≡ ids_in_lines (flat_map cells_of rows)
rows-marks [] = refl
rows-marks (r ∷ rs) =
    marks-both (marks_of_cells r) (flat_map marks_of_cells rs)
    ∙ (ap (λ ids. ids ++ anchors.ids_of (flat_map marks_of_cells rs)) (cells-marks r)
    ∙ (ap (λ ids. ids_in_lines (cells_of r) ++ ids) (rows-marks rs)
    ∙ sym (ids-both (cells_of r) (flat_map cells_of rs))))

mutual
  block-marks : (b : Block) → anchors.ids_of (marks_of_block b) ≡ ids_in_lines (lines_of b)
  block-marks (paragraph content) = one-line-marks false content
  block-marks (heading level content) = one-line-marks true content
  block-marks (code_block language s) = no-letters (visible s)
  block-marks (quote content) = blocks-marks content
  block-marks thematic_break = refl
  block-marks (list start is_tight items) = items-marks items
  block-marks (table alignments header rows) =
      marks-both (marks_of_cells header) (flat_map marks_of_cells rows)
      ∙ (ap (λ ids. ids ++ anchors.ids_of (flat_map marks_of_cells rows)) (cells-marks header)
      ∙ (ap (λ ids. ids_in_lines (cells_of header) ++ ids) (rows-marks rows)
      ∙ sym (ids-both (cells_of header) (flat_map cells_of rows))))
  block-marks (element name attributes content) = blocks-marks content
  block-marks (tags s) = refl

  pub blocks-marks : (d : Blocks) → anchors.ids_of (marks_of_blocks d) ≡ ids_in_lines (lines_in d)
  blocks-marks no_blocks = refl
  blocks-marks (block b bs) =
      marks-both (marks_of_block b) (marks_of_blocks bs)
      ∙ (ap (λ ids. ids ++ anchors.ids_of (marks_of_blocks bs)) (block-marks b)
      ∙ (ap (λ ids. ids_in_lines (lines_of b) ++ ids) (blocks-marks bs)
      ∙ sym (ids-both (lines_of b) (lines_in bs))))

  items-marks : (items : Items) → anchors.ids_of (marks_of_items items) ≡ ids_in_lines (lines_among items)
  items-marks no_items = refl
  items-marks (item bs rest) =
      marks-both (marks_of_blocks bs) (marks_of_items rest)
      ∙ (ap (λ ids. ids ++ anchors.ids_of (marks_of_items rest)) (blocks-marks bs)
      ∙ (ap (λ ids. ids_in_lines (lines_in bs) ++ ids) (items-marks rest)
      ∙ sym (ids-both (lines_in bs) (lines_among rest))))

-- ---- with other addresses

module _ (change : List ℕ → List ℕ) where
  mutual
    inline-same : (x : Inline) → marks_of_inline (changed_inline change x) ≡ marks_of_inline x
    inline-same (text s) = refl
    inline-same (code s) = refl
    inline-same (formatted f content) = line-same content
    inline-same (link address title content) = line-same content
    inline-same (image address title description) = refl
    inline-same (anchor id) = refl
    inline-same line_break = refl
    inline-same (task is_checked) = refl

    line-same : (xs : Inlines) → marks_of_line (changed_inlines change xs) ≡ marks_of_line xs
    line-same no_inlines = refl
    line-same (inline x xs) = rw (inline-same x, line-same xs) refl

  cells-same : (cells : List Inlines) → marks_of_cells (changed_cells change cells) ≡ marks_of_cells cells
  cells-same [] = refl
  cells-same (c ∷ cs) = rw (line-same c, cells-same cs) refl

  rows-same : (rows : List (List Inlines))
      → flat_map marks_of_cells (map (changed_cells change) rows) ≡ flat_map marks_of_cells rows
  rows-same [] = refl
  rows-same (r ∷ rs) = rw (cells-same r, rows-same rs) refl

  mutual
    block-same : (b : Block) → marks_of_block (changed_block change b) ≡ marks_of_block b
    block-same (paragraph content) = line-same content
    block-same (heading level content) = line-same content
    block-same (code_block language s) = refl
    block-same (quote content) = blocks-same content
    block-same thematic_break = refl
    block-same (list start is_tight items) = items-same items
    block-same (table alignments header rows) = rw (cells-same header, rows-same rows) refl
    block-same (element name attributes content) = blocks-same content
    block-same (tags s) = refl

    pub blocks-same : (d : Blocks) → marks_of_blocks (changed change d) ≡ marks_of_blocks d
    blocks-same no_blocks = refl
    blocks-same (block b bs) = rw (block-same b, blocks-same bs) refl

    items-same : (items : Items) → marks_of_items (changed_items change items) ≡ marks_of_items items
    items-same no_items = refl
    items-same (item bs rest) = rw (blocks-same bs, items-same rest) refl

-- ---- what keeps them

all-both : (p : List ℕ → Bool) (xs ys : List (List ℕ)) → list_all p (xs ++ ys) ≡ true
    → (list_all p xs ≡ true) × (list_all p ys ≡ true)
all-both p [] ys h = (refl, h)
all-both p (x ∷ xs) ys h =
    let q = and_parts (p x) (list_all p (xs ++ ys)) h in
    let r = all-both p xs ys q.1 in
    (and_from (p x) (list_all p xs) q.0 r.0, r.1)

-- each id in these is one line
abbrev pub are_lines : List (List ℕ) → Bool
are_lines ids = list_all is_one_line ids

mutual
  inline-keeps : (x : Inline) → inline_keeps any_id x ≡ true → are_lines (ids_of_inline x) ≡ true
      → keeps_anchors x ≡ true
  inline-keeps (text s) n h = refl
  inline-keeps (code s) n h = refl
  inline-keeps (formatted f content) n h = line-keeps content n h
  inline-keeps (link address title content) n h = line-keeps content n h
  inline-keeps (image address title description) n h = refl
  inline-keeps (anchor id) n h = (and_parts (is_one_line id) true h).0
  inline-keeps line_break n h = refl
  inline-keeps (task is_checked) n h = refl

  line-keeps : (xs : Inlines) → all_keep any_id xs ≡ true → are_lines (ids_of_line xs) ≡ true
      → line_keeps xs ≡ true
  line-keeps no_inlines n h = refl
  line-keeps (inline x xs) n h =
      let white : Bool = not (is_anchor x && begins_white xs) in
      let on : Bool = not (goes_on x (past_gaps xs)) in
      let p = and_parts ((inline_keeps any_id x && white) && on) (all_keep any_id xs) n in
      let q = and_parts (inline_keeps any_id x && white) on p.0 in
      let r = and_parts (inline_keeps any_id x) white q.0 in
      let ids = all-both is_one_line (ids_of_inline x) (ids_of_line xs) h in
      and_from ((keeps_anchors x && white) && on) (line_keeps xs)
      (and_from (keeps_anchors x && white) on
      (and_from (keeps_anchors x) white (inline-keeps x r.0 ids.0) r.1) q.1) (line-keeps xs p.1 ids.1)

whole-keeps : (xs : Inlines) → is_whole_line_of neat xs ≡ true → are_lines (ids_of_line xs) ≡ true
    → line_keeps xs ≡ true
whole-keeps xs n h =
    let p = and_parts (is_line_of neat xs) (is_neat_line xs) n in
    line-keeps xs (and_parts _ (all_keep any_id xs) p.1).1 h

one-line-keeps : (h : Bool) (xs : Inlines) → is_whole_line_of neat xs ≡ true
    → are_lines (ids_in_lines (line h xs ∷ [])) ≡ true → line_keeps xs ≡ true
one-line-keeps h xs n e = whole-keeps xs n (all-both is_one_line (ids_of_line xs) [] e).0

cells-keep : (cells : List Inlines) → are_cells_of neat cells ≡ true
    → are_lines (ids_in_lines (cells_of cells)) ≡ true
    → list_all line_keeps cells ≡ true
cells-keep [] n h = refl
cells-keep (c ∷ cs) n h =
    let p = and_parts (is_whole_line_of neat c) (are_cells_of neat cs) n in
    let ids = all-both is_one_line (ids_of_line c) (ids_in_lines (cells_of cs)) h in
    and_from (line_keeps c) (list_all line_keeps cs) (whole-keeps c p.0 ids.0) (cells-keep cs p.1 ids.1)

-- ids of both
parted : (ks ls : List Line) → are_lines (ids_in_lines (ks ++ ls)) ≡ true
    → (are_lines (ids_in_lines ks) ≡ true) × (are_lines (ids_in_lines ls) ≡ true)
parted ks ls h = all-both is_one_line (ids_in_lines ks) (ids_in_lines ls) (sym (ap are_lines (ids-both ks ls)) ∙ h)

rows-keep : (rows : List (List Inlines)) → list_all (are_cells_of neat) rows ≡ true
    → are_lines (ids_in_lines (flat_map cells_of rows)) ≡ true → list_all (list_all line_keeps) rows ≡ true
rows-keep [] n h = refl
rows-keep (r ∷ rs) n h =
    let p = and_parts (are_cells_of neat r) (list_all (are_cells_of neat) rs) n in
    let ids = parted (cells_of r) (flat_map cells_of rs) h in
    and_from (list_all line_keeps r) (list_all (list_all line_keeps) rs) (cells-keep r p.0 ids.0)
    (rows-keep rs p.1 ids.1)

title-first : (name : BlockElement) (attributes : List BlockAttribute) (content : Blocks)
    → is_neat_element name attributes content ≡ true
    → (not (is_headed_element name) || title_keeps content) ≡ true
title-first an.Summary attributes content n =
    (and_parts (has_neat_attributes an.Summary attributes) (title_keeps content) n).1
title-first an.Term attributes content n =
    (and_parts (has_neat_attributes an.Term attributes) (title_keeps content) n).1
title-first an.FigureCaption attributes content n =
    (and_parts (has_neat_attributes an.FigureCaption attributes) (title_keeps content) n).1
title-first an.Caption attributes content n =
    (and_parts (has_neat_attributes an.Caption attributes) (title_keeps content) n).1
title-first name attributes content n = refl

mutual
  block-stands : (b : Block) → is_block_of neat b ≡ true → is_common_block b ≡ true
      → are_lines (ids_in_lines (lines_of b)) ≡ true → block_lines_stand b ≡ true
  block-stands (paragraph content) n l h = one-line-keeps false content n h
  block-stands (heading level content) n l h =
      let m = and_parts (is_whole_line_of neat content) (heading_keeps content) n in
      and_from (line_keeps content) (heading_keeps content) (one-line-keeps true content m.0 h) m.1
  block-stands (code_block language s) n l h = refl
  block-stands (quote content) n l h = lines-stand content n l h
  block-stands thematic_break n l h = refl
  block-stands (list start is_tight items) n l h =
      items-stand items (and_parts (is_right_list is_tight items) (are_items_of neat items) n).1 l h
  block-stands (table alignments header rows) n l h =
      let m = and_parts (shows_last_column header rows) (are_cells_of neat header && list_all (are_cells_of neat) rows)
      n in
      let c = and_parts (are_cells_of neat header) (list_all (are_cells_of neat) rows) m.1 in
      let ids = parted (cells_of header) (flat_map cells_of rows) h in
      and_from (list_all line_keeps header) (list_all (list_all line_keeps) rows) (cells-keep header c.0 ids.0)
      (rows-keep rows c.1 ids.1)
  block-stands (element name attributes content) n l h =
      let first : Bool = not (is_headed_element name) || title_keeps content in
      let p = and_parts (is_common_element name attributes content) (are_common_blocks content) l in
      let m = and_parts (is_neat_element name attributes content) (are_blocks_of neat content) n in
      and_from (lines_stand content) first (lines-stand content m.1 p.1 h) (title-first name attributes content m.0)
  block-stands (tags s) n l h = refl

  pub lines-stand : (d : Blocks) → are_blocks_of neat d ≡ true → are_common_blocks d ≡ true
      → are_lines (ids_in_lines (lines_in d)) ≡ true → lines_stand d ≡ true
  lines-stand no_blocks n l h = refl
  lines-stand (block b bs) n l h =
      let m = and_parts (is_block_of neat b) (are_blocks_of neat bs) n in
      let p = and_parts (is_common_block b) (are_common_blocks bs) l in
      let ids = parted (lines_of b) (lines_in bs) h in
      and_from (block_lines_stand b) (lines_stand bs) (block-stands b m.0 p.0 ids.0) (lines-stand bs m.1 p.1 ids.1)

  items-stand : (items : Items) → are_items_of neat items ≡ true → are_common_items items ≡ true
      → are_lines (ids_in_lines (lines_among items)) ≡ true → item_lines_stand items ≡ true
  items-stand no_items n l h = refl
  items-stand (item bs rest) n l h =
      let m = and_parts (are_blocks_of neat bs) (are_items_of neat rest) n in
      let p = and_parts (are_common_blocks bs) (are_common_items rest) l in
      let ids = parted (lines_in bs) (lines_among rest) h in
      and_from (lines_stand bs) (item_lines_stand rest) (lines-stand bs m.0 p.0 ids.0) (items-stand rest m.1 p.1 ids.1)
