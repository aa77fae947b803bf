-- A title whose anchors come before all that is to see in it has them at its beginning.
use Rattle.std.proofs.Common.{◌≡◌, ℕ, Bool, true, false, not, ◌&&◌, ◌||◌, List, [], ◌++◌, refl}
use Rattle.std.proofs.Common.{sym, ap, ◌∙◌, subst, Option}
use Rattle.std.specs.Prelude.{◌==◌, length, if◌then◌else◌}
use Rattle.std.specs.List.{list_all, flat_map}
use Rattle.std.specs.Str.{chars, is_utf8}
use Rattle.std.proofs.lemmas.Bool.{and_from, and_parts, or_parts, or_right, false≢true, true≢false}
use Rattle.htmd_lexical.proofs.Cases.{test}
use Rattle.htmd_document.specs.Documents.{Inlines, Block, paragraph, heading, code_block, quote}
use Rattle.htmd_document.specs.Documents.{thematic_break, list, table, element, tags, Blocks, no_blocks, block}
use Rattle.htmd_document.specs.Documents.{Items, no_items, item}
use Rattle.htmd_document.specs.Documents.{BlockAttribute}
use Rattle.htmd_document.specs.declared.document.Alignment.{Alignment}
use Rattle.htmd_document.specs.declared.document.BlockElement.{BlockElement}
use Rattle.htmd_document.specs.FlatDocuments.{flat_items}
use Rattle.htmd_document.specs.LoneAnchors.{is_alone, stand_alone, stand_inside, all_stand, items_stand_well}
use Rattle.htmd_document.specs.NormalDocuments.{is_normal_heading, is_level, is_normal_list, has_cell}
use Rattle.htmd_document.specs.NormalDocuments.{are_normal_cells, is_normal_row, is_normal_element}
use Rattle.htmd_document.specs.NormalDocuments.{is_normal_block, are_normal_blocks, are_normal_items}
use Rattle.htmd_document.specs.NormalInlines.{has_none}
use Rattle.htmd_document.specs.NormalInlines.{is_normal_line}
use Rattle.htmd_document.specs.NormalInlines.{anchors_stand_well}
use Rattle.htmd_document.specs.TightItems.{is_filled}
use Rattle.htmd_shown.specs.ShownTexts.{is_shown}
use Rattle.htmd_shown.specs.Spaces.{is_blank_text}
use Rattle.htmd_law_returning.proofs.StartLemmas.{from-not}
use Rattle.htmd_law_returning.specs.LastingAnchors.{is_headed_element, is_unseen, are_unseen, items_unseen, cells_lead}
use Rattle.htmd_law_returning.specs.LastingAnchors.{block_leads, title_keeps, items_lead}
use Rattle.htmd_law_returning.specs.NoAnchors.{have_no_anchors, block_has_no_anchors}
use Rattle.htmd_law_returning.specs.NoAnchors.{blocks_have_no_anchors, items_have_no_anchors}
use Rattle.htmd_law_returning.specs.SettledDocuments.{is_settled_code, shows_header, has_bare_header}
use Rattle.htmd_law_returning.specs.SettledDocuments.{have_bare_headers, items_have_bare_headers}
use Rattle.htmd_law_settled.specs.Leaves.{Leaves, is_whole_line_of, are_cells_of}
use Rattle.htmd_law_settled.specs.Leaves.{is_block_of, are_blocks_of, are_items_of}
use Rattle.htmd_law_settled.specs.NeatLeaves.{is_neat_line}
use Rattle.htmd_law_settled.proofs.Things.{Thing, in_order, things_in}
use Rattle.htmd_law_settled.proofs.Things.{things_of_line, things_of_cells, things_of_block, things_of, things_of_items}
use Rattle.htmd_law_settled.proofs.OrderedLines.{Shows, passed, order-parts, order-behind, true-parts, not-false}
use Rattle.htmd_law_settled.proofs.OrderedLines.{passed-more, shows-left, shows-right, line-none, cells-none}
use Rattle.htmd_law_settled.proofs.OrderedLines.{rows-none, some-black, paragraph-led, normal-led, cells-lead}
use Rattle.htmd_law_settled.proofs.OrderedLines.{header-shows, stand-some}

-- ---- no anchor comes behind a thing

mutual
  block-none : (b : Block) → in_order true (things_of_block b) ≡ true → block_has_no_anchors b ≡ true
  block-none (paragraph content) h = line-none content h
  block-none (heading level content) h = line-none content h
  block-none (code_block language s) h = refl
  block-none (quote content) h = blocks-none content h
  block-none thematic_break h = refl
  block-none (list start is_tight items) h = items-none items h
  block-none (table alignments header rows) h =
      let p = true-parts (things_of_cells header) (flat_map things_of_cells rows) h in
      and_from (list_all have_no_anchors header) (list_all (list_all have_no_anchors) rows) (cells-none header p.0)
      (rows-none rows p.1)
  block-none (element name attributes content) h = blocks-none content h
  block-none (tags s) h = refl

  blocks-none : (bs : Blocks) → in_order true (things_of bs) ≡ true → blocks_have_no_anchors bs ≡ true
  blocks-none no_blocks h = refl
  blocks-none (block b bs) h =
      let p = true-parts (things_of_block b) (things_of bs) h in
      and_from (block_has_no_anchors b) (blocks_have_no_anchors bs) (block-none b p.0) (blocks-none bs p.1)

  items-none : (items : Items) → in_order true (things_of_items items) ≡ true
      → items_have_no_anchors items ≡ true
  items-none no_items h = refl
  items-none (item bs rest) h =
      let p = true-parts (things_of bs) (things_of_items rest) h in
      and_from (blocks_have_no_anchors bs) (items_have_no_anchors rest) (blocks-none bs p.0) (items-none rest p.1)

-- ---- blocks in which nothing is

nothing-both : (xs ys : List Thing) → xs ≡ [] → ys ≡ [] → (xs ++ ys) ≡ []
nothing-both xs ys e f = ap (λ zs. zs ++ ys) e ∙ f

mutual
  block-nothing : (b : Block) → is_unseen b ≡ true → things_of_block b ≡ []
  block-nothing (quote content) h = blocks-nothing content h
  block-nothing thematic_break h = refl
  block-nothing (list start is_tight items) h = items-nothing items h
  block-nothing (element name attributes content) h = blocks-nothing content h
  block-nothing b h = absurd (false≢true h)

  blocks-nothing : (bs : Blocks) → are_unseen bs ≡ true → things_of bs ≡ []
  blocks-nothing no_blocks h = refl
  blocks-nothing (block b bs) h =
      let p = and_parts (is_unseen b) (are_unseen bs) h in
      nothing-both (things_of_block b) (things_of bs) (block-nothing b p.0) (blocks-nothing bs p.1)

  items-nothing : (items : Items) → items_unseen items ≡ true → things_of_items items ≡ []
  items-nothing no_items h = refl
  items-nothing (item bs rest) h =
      let p = and_parts (are_unseen bs) (items_unseen rest) h in
      nothing-both (things_of bs) (things_of_items rest) (blocks-nothing bs p.0) (items-nothing rest p.1)

module _ (k : Leaves) (shown : (n : ℕ) → k.character n ≡ true → is_shown n ≡ true)
    (lines : (xs : Inlines) → k.line xs ≡ true → is_neat_line xs ≡ true)
    (codes : (language : Option (List ℕ)) (s : List ℕ) → k.code language s ≡ true
    → is_settled_code s ≡ true) where
  -- ---- blocks

  code-shows : (language : Option (List ℕ)) (s : List ℕ) → k.code language s ≡ true → Shows (things_in s)
  code-shows language s h =
      let p = and_parts (is_utf8 s && list_all is_shown (chars s)) (not (is_blank_text s)) (codes language s h) in
      some-black (chars s) (and_parts (is_utf8 s) (list_all is_shown (chars s)) p.0).1
      (from-not (is_blank_text s) p.1)

  -- behind anchors alone comes code
  behind-alone : (bs : Blocks) → stand_alone false bs ≡ true → are_blocks_of k bs ≡ true
      → Shows (things_of bs)
  behind-alone no_blocks h e = absurd (false≢true h)
  behind-alone (block (code_block language s) bs) h e =
      shows-left (things_in s) (things_of bs)
      (code-shows language s (and_parts (is_block_of k (code_block language s)) (are_blocks_of k bs) e).0)
  behind-alone (block b bs) h e = absurd (false≢true h)

  alone-none : (b : Bool) (bs : Blocks) → stand_alone false bs ≡ true → are_blocks_of k bs ≡ true
      → in_order b (things_of bs) ≡ true → blocks_have_no_anchors bs ≡ true
  alone-none b no_blocks h e o = absurd (false≢true h)
  alone-none b (block (code_block language s) bs) h e o =
      let p = order-parts b (things_in s) (things_of bs) o in
      let shows = code-shows language s (and_parts (is_block_of k (code_block language s)) (are_blocks_of k bs) e).0 in
      blocks-none bs (order-behind (passed b (things_in s)) (things_of bs) (passed-more b (things_in s) shows) p.1)
  alone-none b (block x bs) h e o = absurd (false≢true h)

  -- what is asked of the table's parts
  table-parts : (header : List Inlines) (rows : List (List Inlines)) (b : Bool)
      → (b && are_normal_cells header && list_all (is_normal_row (length header)) rows) ≡ true
      → (list_all is_normal_line header ≡ true) × (list_all anchors_stand_well header ≡ true)
  table-parts header rows b n =
      let p = and_parts (b && are_normal_cells header) (list_all (is_normal_row (length header)) rows) n in
      let q = and_parts b (are_normal_cells header) p.0 in
      and_parts (list_all is_normal_line header) (list_all anchors_stand_well header) q.1

  -- so it is of all blocks that stand like these
  abbrev Fits : Bool → Block → Type 0
  Fits is_item b =
      (is_normal_block is_item b ≡ true) × (is_block_of k b ≡ true) × (stand_inside b ≡ true)
      × (has_bare_header b ≡ false)

  abbrev AllFit : Bool → Blocks → Type 0
  AllFit is_item bs =
      (are_normal_blocks is_item bs ≡ true) × (are_blocks_of k bs ≡ true) × (all_stand false bs ≡ true)
      × (have_bare_headers bs ≡ false)

  abbrev ItemsFit : Items → Type 0
  ItemsFit items =
      (are_normal_items items ≡ true) × (are_items_of k items ≡ true) × (items_stand_well items ≡ true)
      × (items_have_bare_headers items ≡ false)

  fit-parts : (is_item : Bool) (b : Block) (bs : Blocks) → AllFit is_item (block b bs)
      → Fits is_item b × ((not (is_alone b) || stand_alone false bs) ≡ true) × AllFit false bs
  fit-parts is_item b bs h =
      let alone = not (is_alone b) || stand_alone false bs in
      let n = and_parts (is_normal_block is_item b) (are_normal_blocks false bs) h.0 in
      let m = and_parts (is_block_of k b) (are_blocks_of k bs) h.1 in
      let s = and_parts (stand_inside b && alone) (all_stand false bs) h.2 in
      let t = and_parts (stand_inside b) alone s.0 in
      let e = or_parts (has_bare_header b) (have_bare_headers bs) h.3 in
      ((n.0, m.0, t.0, e.0), t.1, (n.1, m.1, s.1, e.1))

  item-parts : (bs : Blocks) (rest : Items) → ItemsFit (item bs rest) → AllFit true bs × ItemsFit rest
  item-parts bs rest h =
      let n = and_parts (are_normal_blocks true bs) (are_normal_items rest) h.0 in
      let m = and_parts (are_blocks_of k bs) (are_items_of k rest) h.1 in
      let s = and_parts (all_stand false bs) (items_stand_well rest) h.2 in
      let e = or_parts (have_bare_headers bs) (items_have_bare_headers rest) h.3 in
      ((n.0, m.0, s.0, e.0), (n.1, m.1, s.1, e.1))

  quote-fits : (is_item : Bool) (content : Blocks) → Fits is_item (quote content) → AllFit false content
  quote-fits is_item content h =
      ((and_parts (is_filled content) (are_normal_blocks false content) h.0).1, h.1, h.2, h.3)

  element-fits : (is_item : Bool) (name : BlockElement) (attributes : List BlockAttribute) (content : Blocks)
      → Fits is_item (element name attributes content) → AllFit false content
  element-fits is_item name attributes content h = (
    (and_parts (is_normal_element name attributes content) (are_normal_blocks false content) h.0).1,
    (and_parts (k.element name attributes content) (are_blocks_of k content) h.1).1,
    h.2,
    h.3,
  )

  list-fits : (is_item : Bool) (start : Option ℕ) (is_tight : Bool) (items : Items)
      → Fits is_item (list start is_tight items) → ItemsFit items
  list-fits is_item start is_tight items h = (
    (and_parts (is_normal_list start is_tight (flat_items items)) (are_normal_items items) h.0).1,
    (and_parts (k.list is_tight items) (are_items_of k items) h.1).1,
    h.2,
    h.3,
  )

  header-cells : (header : List Inlines) (rows : List (List Inlines))
      → (k.table header rows && (are_cells_of k header && list_all (are_cells_of k) rows)) ≡ true
      → are_cells_of k header ≡ true
  header-cells header rows h =
      let both = are_cells_of k header && list_all (are_cells_of k) rows in
      (and_parts (are_cells_of k header) (list_all (are_cells_of k) rows) (and_parts (k.table header rows) both h).1).0

  heading-shows : (level : ℕ) (xs : Inlines) → is_normal_heading level xs ≡ true
      → (is_whole_line_of k xs && k.heading xs) ≡ true → Shows (things_of_line xs)
  heading-shows level xs n h =
      let p = and_parts (is_level level && not (has_none xs) && is_normal_line xs) (anchors_stand_well xs) n in
      let q = and_parts (is_level level && not (has_none xs)) (is_normal_line xs) p.0 in
      let some = and_parts (is_level level) (not (has_none xs)) q.0 in
      (normal-led k shown lines xs q.1 p.1 (and_parts (is_whole_line_of k xs) (k.heading xs) h).0).1
      (stand-some xs p.1 (from-not (has_none xs) some.1))

  table-shows : (alignments : List Alignment) (header : List Inlines) (rows : List (List Inlines)) (is_item : Bool)
      → Fits is_item (table alignments header rows) → Shows (things_of_cells header)
  table-shows alignments header rows is_item h =
      let n = table-parts header rows (has_cell header && (length alignments == length header)) h.0 in
      header-shows k shown lines header n.0 n.1 (header-cells header rows h.1) (not-false (shows_header header) h.3)

  mutual
    block-shows : (is_item : Bool) (b : Block) → Fits is_item b → is_unseen b ≡ false → is_alone b ≡ false
        → Shows (things_of_block b)
    block-shows is_item (paragraph content) h e a = (paragraph-led k shown lines is_item content h.0 h.1).1 a
    block-shows is_item (heading level content) h e a = heading-shows level content h.0 h.1
    block-shows is_item (code_block language s) h e a = code-shows language s h.1
    block-shows is_item (quote content) h e a = blocks-show false content (quote-fits is_item content h) e
    block-shows is_item thematic_break h e a = absurd (true≢false e)
    block-shows is_item (list start is_tight items) h e a =
        items-show items (list-fits is_item start is_tight items h) e
    block-shows is_item (table alignments header rows) h e a =
        shows-left (things_of_cells header) (flat_map things_of_cells rows)
        (table-shows alignments header rows is_item h)
    block-shows is_item (element name attributes content) h e a =
        blocks-show false content (element-fits is_item name attributes content h) e
    block-shows is_item (tags s) h e a = absurd (false≢true h.0)

    blocks-show : (is_item : Bool) (bs : Blocks) → AllFit is_item bs → are_unseen bs ≡ false
        → Shows (things_of bs)
    blocks-show is_item no_blocks h e = absurd (true≢false e)
    blocks-show is_item (block b bs) h e =
        let p = fit-parts is_item b bs h in
        test (is_unseen b)
        (λ u. shows-right (things_of_block b) (things_of bs)
        (blocks-show false bs p.2 (sym (ap (λ c. c && are_unseen bs) u) ∙ e)))
        (λ u. test (is_alone b)
        (λ a. shows-right (things_of_block b) (things_of bs)
        (behind-alone bs (sym (ap (λ c. not c || stand_alone false bs) a) ∙ p.1) p.2.1))
        (λ a. shows-left (things_of_block b) (things_of bs) (block-shows is_item b p.0 u a)))

    items-show : (items : Items) → ItemsFit items → items_unseen items ≡ false → Shows (things_of_items items)
    items-show no_items h e = absurd (true≢false e)
    items-show (item bs rest) h e =
        let p = item-parts bs rest h in
        test (are_unseen bs)
        (λ u. shows-right (things_of bs) (things_of_items rest)
        (items-show rest p.1 (sym (ap (λ c. c && items_unseen rest) u) ∙ e)))
        (λ u. shows-left (things_of bs) (things_of_items rest) (blocks-show true bs p.0 u))

  -- ---- titles

  -- behind what is unseen nothing came
  order-behind-nothing : (xs ys : List Thing) → xs ≡ [] → in_order (passed false xs) ys ≡ true
      → in_order false ys ≡ true
  order-behind-nothing xs ys e h = subst (λ (zs : List Thing). in_order (passed false zs) ys ≡ true) e h

  mutual
    block-led : (is_item : Bool) (b : Block) → Fits is_item b → in_order false (things_of_block b) ≡ true
        → block_leads b ≡ true
    block-led is_item (paragraph content) h o = (paragraph-led k shown lines is_item content h.0 h.1).0 o
    block-led is_item (heading level content) h o = refl
    block-led is_item (code_block language s) h o = refl
    block-led is_item (quote content) h o = title-led false content (quote-fits is_item content h) o
    block-led is_item thematic_break h o = refl
    block-led is_item (list start is_tight items) h o =
        items-led items (list-fits is_item start is_tight items h) o
    block-led is_item (table alignments header rows) h o =
        let n = table-parts header rows (has_cell header && (length alignments == length header)) h.0 in
        let p = order-parts false (things_of_cells header) (flat_map things_of_cells rows) o in
        and_from (cells_lead header) (list_all (list_all have_no_anchors) rows)
        (cells-lead k shown lines header n.0 n.1 (header-cells header rows h.1) p.0)
        (rows-none rows (order-behind (passed false (things_of_cells header)) (flat_map things_of_cells rows)
        (table-shows alignments header rows is_item h) p.1))
    block-led is_item (element name attributes content) h o =
        or_right (is_headed_element name) (title_keeps content)
        (title-led false content (element-fits is_item name attributes content h) o)
    block-led is_item (tags s) h o = refl

    title-led : (is_item : Bool) (bs : Blocks) → AllFit is_item bs → in_order false (things_of bs) ≡ true
        → title_keeps bs ≡ true
    title-led is_item no_blocks h o = refl
    title-led is_item (block b bs) h o =
        let p = fit-parts is_item b bs h in
        let q = order-parts false (things_of_block b) (things_of bs) o in
        let rest = λ (c : Bool). if c then title_keeps bs else blocks_have_no_anchors bs in
        and_from (block_leads b) (rest (is_unseen b)) (block-led is_item b p.0 q.0)
        (test (is_unseen b)
        (λ u. ap rest u ∙ title-led false bs p.2
        (order-behind-nothing (things_of_block b) (things_of bs) (block-nothing b u) q.1))
        (λ u. ap rest u ∙ test (is_alone b)
        (λ a. alone-none (passed false (things_of_block b)) bs
        (sym (ap (λ c. not c || stand_alone false bs) a) ∙ p.1) p.2.1 q.1)
        (λ a. blocks-none bs (order-behind (passed false (things_of_block b)) (things_of bs)
        (block-shows is_item b p.0 u a) q.1))))

    items-led : (items : Items) → ItemsFit items → in_order false (things_of_items items) ≡ true
        → items_lead items ≡ true
    items-led no_items h o = refl
    items-led (item bs items) h o =
        let p = item-parts bs items h in
        let q = order-parts false (things_of bs) (things_of_items items) o in
        let rest = λ (c : Bool). if c then items_lead items else items_have_no_anchors items in
        and_from (title_keeps bs) (rest (are_unseen bs)) (title-led true bs p.0 q.0)
        (test (are_unseen bs)
        (λ u. ap rest u ∙ items-led items p.1
        (order-behind-nothing (things_of bs) (things_of_items items) (blocks-nothing bs u) q.1))
        (λ u. ap rest u ∙ items-none items (order-behind (passed false (things_of bs)) (things_of_items items)
        (blocks-show true bs p.0 u) q.1)))

  pub title-ordered : (is_item : Bool) (d : Blocks) → are_normal_blocks is_item d ≡ true
      → are_blocks_of k d ≡ true
      → all_stand false d ≡ true → have_bare_headers d ≡ false → in_order false (things_of d) ≡ true
      → title_keeps d ≡ true
  title-ordered is_item d n h s e o = title-led is_item d (n, h, s, e) o
