-- What is neat, plain and common is settled.
use Rattle.std.proofs.Common.{Bool, false, ◌≡◌, ℕ, true, not, ◌&&◌, List, [], ◌∷◌, None, refl, sym, ap}
use Rattle.std.proofs.Common.{◌∙◌, subst}
use Rattle.std.specs.Prelude.{◌==◌, ◌||◌}
use Rattle.std.specs.List.{list_all}
use Rattle.std.specs.Str.{chars}
use Rattle.std.proofs.lemmas.Bool.{and_from, and_parts, eqb-true}
use Rattle.htmd_lexical.specs.Characters.{space}
use Rattle.htmd_document.specs.Documents.{Inline, text, code, formatted, link, image, anchor, line_break, task}
use Rattle.htmd_document.specs.Documents.{Inlines, no_inlines, inline, Block, paragraph, heading, code_block, quote}
use Rattle.htmd_document.specs.Documents.{thematic_break, list, table, element, tags, Blocks, no_blocks, block}
use Rattle.htmd_document.specs.Documents.{Items, no_items, item, BlockAttribute}
use Rattle.htmd_document.specs.declared.document.BlockElement.{BlockElement}
use Rattle.htmd_document.specs.declared.document.BlockElement.TheVariants as an
use Rattle.htmd_law_returning.specs.LastingAnchors.{heading_keeps, title_keeps}
use Rattle.htmd_law_returning.specs.SettledDocuments.{are_away}
use Rattle.htmd_law_returning.specs.SettledDocuments.{is_white_at_break}
use Rattle.htmd_law_returning.specs.SettledDocuments.{is_right_list, shows_last_column}
use Rattle.htmd_law_returning.specs.SettledDocuments.{is_settled_inline, are_settled_inlines, is_settled_line}
use Rattle.htmd_law_returning.specs.SettledDocuments.{is_settled_link, is_settled_block, is_settled_element}
use Rattle.htmd_law_returning.specs.SettledDocuments.{are_settled_blocks, are_settled_items}
use Rattle.htmd_law_returning.specs.SettledDocuments.{are_settled_in}
use Rattle.htmd_law_returning.specs.WholeLines.{is_whole}
use Rattle.htmd_law_returning.proofs.BoxLemmas.{characters-behind-space}
use Rattle.htmd_shown.specs.ShownTexts.{is_shown}
use Rattle.std.proofs.lemmas.Bool.{false≢true}
use Rattle.htmd_law_settled.specs.Leaves.{is_inline_of, is_line_of, is_whole_line_of, is_block_of, are_blocks_of}
use Rattle.htmd_law_settled.specs.Leaves.{are_items_of, are_cells_of}
use Rattle.htmd_law_returning.specs.LastingAnchors.{all_keep}
use Rattle.htmd_law_settled.specs.NeatLeaves.{any_id}
use Rattle.htmd_law_settled.specs.BareBreaks.{is_bare_inside, has_bare_breaks}
use Rattle.htmd_law_settled.specs.NeatLeaves.{neat, is_box_spaced, is_neat_line, has_neat_attributes}
use Rattle.htmd_law_settled.specs.NeatLeaves.{is_neat_element}
use Rattle.htmd_law_settled.proofs.PlainBlocks.{is_plain_inline, are_plain_inlines, is_plain_block, are_plain_blocks}
use Rattle.htmd_law_settled.proofs.PlainBlocks.{are_plain_items, no-box}
use Rattle.htmd_law_returning.specs.ElementPlaces.{Holder, in_flow, inside, is_mixed, stands_here}
use Rattle.htmd_law_settled.specs.StandingElements.{block_stands, blocks_stand, items_stand}
use Rattle.htmd_law_returning.specs.SettledDocuments.{behind_box, is_settled_paragraph}
use Rattle.htmd_law_settled.specs.CommonDocuments.{is_common_block, are_common_blocks, are_common_items}
use Rattle.htmd_law_returning.specs.SettledTables.{is_border_at_most, are_rows_of_element, rows_in, rows_are_read}
use Rattle.htmd_law_returning.specs.SettledTables.{are_of_cell, end_at_captions}
use Rattle.htmd_law_settled.specs.NeatLeaves.{is_neat_cell, is_neat_table, are_read_cells, are_read_rows}
use Rattle.htmd_law_settled.specs.CommonDocuments.{is_common_element}
use Rattle.htmd_law_returning.specs.SettledDocuments.{has_no_attributes, has_filled_element, blocks_are_away}
use Rattle.htmd_law_returning.specs.SettledDocuments.{has_caption}

-- ---- settled

mutual
  inline-settled : (x : Inline) → is_inline_of neat x ≡ true → is_bare_inside x ≡ true
      → is_plain_inline x ≡ true
      → is_settled_inline x ≡ true
  inline-settled (text s) n b c = n
  inline-settled (code s) n b c = n
  inline-settled (formatted f content) n b c =
      line-settled content (and_parts (neat.format f) (is_line_of neat content) n).1 b c
  inline-settled (link address title content) n b c =
      let m = and_parts (is_settled_link address title) (is_line_of neat content) n in
      and_from (is_settled_link address title) (are_settled_inlines content) m.0 (line-settled content m.1 b c)
  inline-settled (image address title description) n b c = n
  inline-settled line_break n b c = refl
  inline-settled (anchor id) n b c = refl
  inline-settled (task is_checked) n b c = c

  line-settled : (xs : Inlines) → is_line_of neat xs ≡ true → has_bare_breaks xs ≡ true
      → are_plain_inlines xs ≡ true
      → are_settled_inlines xs ≡ true
  line-settled no_inlines n b c = refl
  line-settled (inline x xs) n b c =
      let m = and_parts (is_inline_of neat x) (is_line_of neat xs) n in
      let bare = not (is_white_at_break x xs) in
      let p = and_parts (is_bare_inside x && bare) (has_bare_breaks xs) b in
      let q = and_parts (is_bare_inside x) bare p.0 in
      let r = and_parts (is_plain_inline x) (are_plain_inlines xs) c in
      and_from (is_settled_inline x && bare) (are_settled_inlines xs)
      (and_from (is_settled_inline x) bare (inline-settled x m.0 q.0 r.0) q.1) (line-settled xs m.1 p.1 r.1)

-- without the space
shown-behind : (c : ℕ) (s : List ℕ) → (c == space) ≡ true → list_all is_shown (chars (c ∷ s)) ≡ true
    → list_all is_shown (chars s) ≡ true
shown-behind c s e h =
    let p : list_all is_shown (space ∷ chars s) ≡ true = sym (ap (list_all is_shown) (characters-behind-space s))
    ∙ subst (λ (b : ℕ). list_all is_shown (chars (b ∷ s)) ≡ true) (eqb-true c space e) h in
    (and_parts (is_shown space) (list_all is_shown (chars s)) p).1

line-behind : (xs : Inlines) → is_line_of neat xs ≡ true → is_box_spaced xs ≡ true
    → is_line_of neat (behind_box xs) ≡ true
line-behind no_inlines n s = refl
line-behind (inline (task d) no_inlines) n s = n
line-behind (inline (task d) (inline (text []) xs)) n s = n
line-behind (inline (task d) (inline (text (c ∷ [])) xs)) n s =
    (and_parts (is_inline_of neat (text (c ∷ []))) (is_line_of neat xs) n).1
line-behind (inline (task d) (inline (text (c ∷ b ∷ t)) xs)) n s =
    let m = and_parts (is_inline_of neat (text (c ∷ b ∷ t))) (is_line_of neat xs) n in
    and_from (is_inline_of neat (text (b ∷ t))) (is_line_of neat xs) (shown-behind c (b ∷ t) s m.0) m.1
line-behind (inline (task d) (inline x xs)) n s = n
line-behind (inline x xs) n s = n

paragraph-settled : (xs : Inlines) → is_whole_line_of neat xs ≡ true → are_plain_inlines (behind_box xs) ≡ true
    → is_settled_paragraph xs ≡ true
paragraph-settled xs n c =
    let ys : Inlines = behind_box xs in
    let m = and_parts (is_line_of neat xs) (is_neat_line xs) n in
    let o = and_parts (is_box_spaced xs && is_whole ys && has_bare_breaks ys) (all_keep any_id xs) m.1 in
    let p = and_parts (is_box_spaced xs && is_whole ys) (has_bare_breaks ys) o.0 in
    let q = and_parts (is_box_spaced xs) (is_whole ys) p.0 in
    and_from (is_whole ys) (are_settled_inlines ys) q.1 (line-settled ys (line-behind xs m.0 q.0) p.1 c)

whole-settled : (xs : Inlines) → is_whole_line_of neat xs ≡ true → are_plain_inlines xs ≡ true
    → is_settled_line xs ≡ true
whole-settled xs n c =
    subst (λ ys. is_settled_line ys ≡ true) (no-box xs c)
    (paragraph-settled xs n (ap are_plain_inlines (no-box xs c) ∙ c))

cells-settled : (cells : List Inlines) → are_cells_of neat cells ≡ true
    → list_all are_plain_inlines cells ≡ true
    → list_all is_settled_line cells ≡ true
cells-settled [] n c = refl
cells-settled (x ∷ xs) n c =
    let m = and_parts (is_whole_line_of neat x) (are_cells_of neat xs) n in
    let p = and_parts (are_plain_inlines x) (list_all are_plain_inlines xs) c in
    and_from (is_settled_line x) (list_all is_settled_line xs) (whole-settled x m.0 p.0) (cells-settled xs m.1 p.1)

rows-settled : (rows : List (List Inlines)) → list_all (are_cells_of neat) rows ≡ true
    → list_all (list_all are_plain_inlines) rows ≡ true → list_all (list_all is_settled_line) rows ≡ true
rows-settled [] n c = refl
rows-settled (r ∷ rs) n c =
    let m = and_parts (are_cells_of neat r) (list_all (are_cells_of neat) rs) n in
    let p = and_parts (list_all are_plain_inlines r) (list_all (list_all are_plain_inlines) rs) c in
    and_from (list_all is_settled_line r) (list_all (list_all is_settled_line) rs) (cells-settled r m.0 p.0)
    (rows-settled rs m.1 p.1)

-- ---- blocks

no-attributes : (name : BlockElement) (attributes : List BlockAttribute)
    → ((a : BlockAttribute) (rest : List BlockAttribute) → has_neat_attributes name (a ∷ rest) ≡ false)
    → has_neat_attributes name attributes ≡ true → has_no_attributes attributes ≡ true
no-attributes name [] none n = refl
no-attributes name (a ∷ rest) none n = absurd (false≢true (sym (none a rest) ∙ n))

border-settled : (attributes : List BlockAttribute) → has_neat_attributes an.Table attributes ≡ true
    → is_border_at_most attributes ≡ true
border-settled [] n = refl
border-settled (a ∷ rest) n = n

own-cell : (attributes : List BlockAttribute) → has_neat_attributes an.Cell attributes ≡ true
    → is_neat_cell attributes ≡ true
own-cell [] n = refl
own-cell (a ∷ rest) n = n

own-header : (attributes : List BlockAttribute) → has_neat_attributes an.HeaderCell attributes ≡ true
    → is_neat_cell attributes ≡ true
own-header [] n = refl
own-header (a ∷ rest) n = n

cell-settled : (attributes : List BlockAttribute) → is_neat_cell attributes ≡ true
    → rows_are_read attributes ≡ true → are_of_cell attributes ≡ true
cell-settled attributes n c = sym (ap (λ b. not b || are_of_cell attributes) c) ∙ n

-- ---- where they stand

abbrev is_element : Block → Bool
is_element (element name attributes content) = true
is_element b = false

-- what is no element stands where anything does
other-placed : (o : Holder) (b : Block) → is_element b ≡ false → block_stands o b ≡ true
    → (is_mixed o ≡ true) × (block_stands in_flow b ≡ true)
other-placed o (element name attributes content) e h = absurd (false≢true (sym e))
other-placed o (quote content) e h = and_parts (is_mixed o) (blocks_stand in_flow content) h
other-placed o (list start is_tight items) e h = and_parts (is_mixed o) (items_stand items) h
other-placed o b e h = (h, refl)

-- ---- the rows of common cells are read as they are

read-cell : (name : BlockElement) (attributes : List BlockAttribute) (content : Blocks)
    → stands_here (inside an.Row) name ≡ true → is_common_element name attributes content ≡ true
    → rows_are_read attributes ≡ true
read-cell an.Cell attributes content e c = c
read-cell an.HeaderCell attributes content e c = c
read-cell name attributes content e c = absurd (false≢true e)

read-cells : (bs : Blocks) → blocks_stand (inside an.Row) bs ≡ true → are_common_blocks bs ≡ true
    → are_read_cells bs ≡ true
read-cells no_blocks s c = refl
read-cells (block (element name attributes content) bs) s c =
    let o = inside an.Row in
    let is_common = is_common_element name attributes content in
    let r = and_parts (is_common && are_common_blocks content) (are_common_blocks bs) c in
    let u = and_parts (stands_here o name && blocks_stand (inside name) content) (blocks_stand o bs) s in
    and_from (rows_are_read attributes) (are_read_cells bs)
    (read-cell name attributes content (and_parts (stands_here o name) (blocks_stand (inside name) content) u.0).0
    (and_parts is_common (are_common_blocks content) r.0).0) (read-cells bs u.1 r.1)
read-cells (block b bs) s c =
    let o = inside an.Row in
    absurd (false≢true (other-placed o b refl (and_parts (block_stands o b) (blocks_stand o bs) s).0).0)

read-row : (name : BlockElement) (attributes : List BlockAttribute) (content bs : Blocks)
    → stands_here (inside an.Table) name ≡ true → is_common_element name attributes content ≡ true
    → blocks_stand (inside name) content ≡ true → are_common_blocks content ≡ true → are_read_rows bs ≡ true
    → are_read_rows (block (element name attributes content) bs) ≡ true
read-row an.Row attributes content bs e c s d rest =
    and_from (are_read_cells content) (are_read_rows bs) (read-cells content s d) rest
read-row an.Caption attributes content bs e c s d rest = rest
read-row name attributes content bs e c s d rest = absurd (false≢true e)

read-rows : (bs : Blocks) → blocks_stand (inside an.Table) bs ≡ true → are_common_blocks bs ≡ true
    → are_read_rows bs ≡ true
read-rows no_blocks s c = refl
read-rows (block (element name attributes content) bs) s c =
    let o = inside an.Table in
    let is_common = is_common_element name attributes content in
    let r = and_parts (is_common && are_common_blocks content) (are_common_blocks bs) c in
    let t = and_parts is_common (are_common_blocks content) r.0 in
    let u = and_parts (stands_here o name && blocks_stand (inside name) content) (blocks_stand o bs) s in
    let v = and_parts (stands_here o name) (blocks_stand (inside name) content) u.0 in
    read-row name attributes content bs v.0 t.0 v.1 t.1 (read-rows bs u.1 r.1)
read-rows (block b bs) s c =
    let o = inside an.Table in
    absurd (false≢true (other-placed o b refl (and_parts (block_stands o b) (blocks_stand o bs) s).0).0)

element-settled : (name : BlockElement) (attributes : List BlockAttribute) (content : Blocks)
    → is_neat_element name attributes content ≡ true → is_common_element name attributes content ≡ true
    → blocks_stand (inside name) content ≡ true → are_common_blocks content ≡ true
    → is_settled_element name attributes content ≡ true
element-settled an.Details [] content n c s d = refl
element-settled an.Details (a ∷ rest) content n c s d = n
element-settled an.Summary attributes content n c s d =
    let p = and_parts (has_neat_attributes an.Summary attributes) (title_keeps content) n in
    and_from (has_no_attributes attributes) (blocks_are_away content)
    (no-attributes an.Summary attributes (λ a rest. refl) p.0) c
element-settled an.Terms attributes content n c s d =
    let p = and_parts (has_neat_attributes an.Terms attributes) (has_filled_element content) n in
    and_from (has_no_attributes attributes) (has_filled_element content)
    (no-attributes an.Terms attributes (λ a rest. refl) p.0) p.1
element-settled an.Term attributes content n c s d =
    let p = and_parts (has_neat_attributes an.Term attributes) (title_keeps content) n in
    and_from (has_no_attributes attributes) (blocks_are_away content)
    (no-attributes an.Term attributes (λ a rest. refl) p.0) c
element-settled an.Meaning attributes content n c s d = no-attributes an.Meaning attributes (λ a rest. refl) n
element-settled an.Figure attributes content n c s d =
    let p = and_parts (has_neat_attributes an.Figure attributes) (has_caption content) n in
    and_from (has_no_attributes attributes) (has_caption content)
    (no-attributes an.Figure attributes (λ a rest. refl) p.0) p.1
element-settled an.FigureCaption attributes content n c s d =
    let p = and_parts (has_neat_attributes an.FigureCaption attributes) (title_keeps content) n in
    and_from (has_no_attributes attributes) (blocks_are_away content)
    (no-attributes an.FigureCaption attributes (λ a rest. refl) p.0) c
element-settled an.Table attributes content n c s d =
    let p = and_parts (has_neat_attributes an.Table attributes) (is_neat_table attributes content) n in
    let is_so = are_rows_of_element attributes (rows_in None content) in
    and_from (is_border_at_most attributes) (end_at_captions (rows_in None content) && is_so)
    (border-settled attributes p.0)
    (and_from (end_at_captions (rows_in None content)) is_so c
    (sym (ap (λ b. not b || is_so) (read-rows content s d)) ∙ p.1))
element-settled an.Caption attributes content n c s d =
    let p = and_parts (has_neat_attributes an.Caption attributes) (title_keeps content) n in
    and_from (has_no_attributes attributes) (blocks_are_away content)
    (no-attributes an.Caption attributes (λ a rest. refl) p.0) c
element-settled an.Row attributes content n c s d = no-attributes an.Row attributes (λ a rest. refl) n
element-settled an.Cell attributes content n c s d = cell-settled attributes (own-cell attributes n) c
element-settled an.HeaderCell attributes content n c s d = cell-settled attributes (own-header attributes n) c

mutual
  block-settled : (b : Block) → is_block_of neat b ≡ true → is_plain_block b ≡ true
      → block_stands in_flow b ≡ true → is_common_block b ≡ true → is_settled_block b ≡ true
  block-settled (paragraph content) n p s c = paragraph-settled content n p
  block-settled (heading level content) n p s c =
      and_from (is_settled_line content) (are_away content)
      (whole-settled content (and_parts (is_whole_line_of neat content) (heading_keeps content) n).0 p) c
  block-settled (code_block language t) n p s c = n
  block-settled (quote content) n p s c = blocks-settled content n p s c
  block-settled thematic_break n p s c = refl
  block-settled (list start is_tight items) n p s c =
      let m = and_parts (is_right_list is_tight items) (are_items_of neat items) n in
      and_from (is_right_list is_tight items) (are_settled_items items) m.0 (items-settled items m.1 p s c)
  block-settled (table alignments header rows) n p s c =
      let m = and_parts (shows_last_column header rows) (are_cells_of neat header && list_all (are_cells_of neat) rows)
      n in
      let l = and_parts (are_cells_of neat header) (list_all (are_cells_of neat) rows) m.1 in
      let q = and_parts (list_all are_plain_inlines header) (list_all (list_all are_plain_inlines) rows) p in
      and_from (list_all is_settled_line header && list_all (list_all is_settled_line) rows)
      (shows_last_column header rows)
      (and_from (list_all is_settled_line header) (list_all (list_all is_settled_line) rows)
      (cells-settled header l.0 q.0) (rows-settled rows l.1 q.1)) m.0
  block-settled (element name attributes content) n p s c =
      let m = and_parts (is_neat_element name attributes content) (are_blocks_of neat content) n in
      let r = and_parts (stands_here in_flow name) (blocks_stand (inside name) content) s in
      let q = and_parts (is_common_element name attributes content) (are_common_blocks content) c in
      and_from (stands_here in_flow name && is_settled_element name attributes content) (are_settled_in name content)
      (and_from (stands_here in_flow name) (is_settled_element name attributes content) r.0
      (element-settled name attributes content m.0 q.0 r.1 q.1)) (parts-settled name content m.1 p r.1 q.1)
  block-settled (tags t) n p s c = p

  parts-settled : (outer : BlockElement) (bs : Blocks) → are_blocks_of neat bs ≡ true
      → are_plain_blocks bs ≡ true
      → blocks_stand (inside outer) bs ≡ true → are_common_blocks bs ≡ true → are_settled_in outer bs ≡ true
  parts-settled outer no_blocks n p s c = refl
  parts-settled outer (block (element name attributes content) bs) n p s c =
      let o = inside outer in
      let is_common = is_common_element name attributes content in
      let is_settled = is_settled_element name attributes content in
      let is_placed = stands_here o name && blocks_stand (inside name) content in
      let m = and_parts (is_block_of neat (element name attributes content)) (are_blocks_of neat bs) n in
      let k = and_parts (is_neat_element name attributes content) (are_blocks_of neat content) m.0 in
      let q = and_parts (are_plain_blocks content) (are_plain_blocks bs) p in
      let r = and_parts (is_common && are_common_blocks content) (are_common_blocks bs) c in
      let t = and_parts is_common (are_common_blocks content) r.0 in
      let u = and_parts is_placed (blocks_stand o bs) s in
      let v = and_parts (stands_here o name) (blocks_stand (inside name) content) u.0 in
      and_from ((stands_here o name && is_settled) && are_settled_in name content) (are_settled_in outer bs)
      (and_from (stands_here o name && is_settled) (are_settled_in name content)
      (and_from (stands_here o name) is_settled v.0
      (element-settled name attributes content k.0 t.0 v.1 t.1))
      (parts-settled name content k.1 q.0 v.1 t.1)) (parts-settled outer bs m.1 q.1 u.1 r.1)
  parts-settled outer (block b bs) n p s c =
      let o = inside outer in
      let m = and_parts (is_block_of neat b) (are_blocks_of neat bs) n in
      let q = and_parts (is_plain_block b) (are_plain_blocks bs) p in
      let r = and_parts (is_common_block b) (are_common_blocks bs) c in
      let u = and_parts (block_stands o b) (blocks_stand o bs) s in
      let v = other-placed o b refl u.0 in
      and_from (is_mixed o && is_settled_block b) (are_settled_in outer bs)
      (and_from (is_mixed o) (is_settled_block b) v.0 (block-settled b m.0 q.0 v.1 r.0))
      (parts-settled outer bs m.1 q.1 u.1 r.1)

  pub blocks-settled : (bs : Blocks) → are_blocks_of neat bs ≡ true → are_plain_blocks bs ≡ true
      → blocks_stand in_flow bs ≡ true → are_common_blocks bs ≡ true → are_settled_blocks bs ≡ true
  blocks-settled no_blocks n p s c = refl
  blocks-settled (block b bs) n p s c =
      let m = and_parts (is_block_of neat b) (are_blocks_of neat bs) n in
      let q = and_parts (is_plain_block b) (are_plain_blocks bs) p in
      let t = and_parts (block_stands in_flow b) (blocks_stand in_flow bs) s in
      let r = and_parts (is_common_block b) (are_common_blocks bs) c in
      and_from (is_settled_block b) (are_settled_blocks bs) (block-settled b m.0 q.0 t.0 r.0)
      (blocks-settled bs m.1 q.1 t.1 r.1)

  items-settled : (items : Items) → are_items_of neat items ≡ true → are_plain_items items ≡ true
      → items_stand items ≡ true → are_common_items items ≡ true → are_settled_items items ≡ true
  items-settled no_items n p s c = refl
  items-settled (item bs items) n p s c =
      let m = and_parts (are_blocks_of neat bs) (are_items_of neat items) n in
      let q = and_parts (are_plain_blocks bs) (are_plain_items items) p in
      let t = and_parts (blocks_stand in_flow bs) (items_stand items) s in
      let r = and_parts (are_common_blocks bs) (are_common_items items) c in
      and_from (are_settled_blocks bs) (are_settled_items items) (blocks-settled bs m.0 q.0 t.0 r.0)
      (items-settled items m.1 q.1 t.1 r.1)
