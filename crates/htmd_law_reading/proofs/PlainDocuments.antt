-- What is read of the Markdown of a flat document has text alone in descriptions of images, breaks that are tags only
-- in
-- headings and cells, and no row of more cells than its header.
use Rattle.std.proofs.Common.{◌≡◌, ℕ, zero, suc, Bool, true, false, not, List, [], ◌∷◌, ◌++◌, refl, sym}
use Rattle.std.proofs.Common.{Option, None, subst, ap, ◌∙◌, arith}
use Rattle.std.specs.List.{list_all}
use Rattle.std.specs.Prelude.{⊤, if◌then◌else◌, length, nat_le}
use Rattle.std.proofs.lemmas.Bool.{and_parts, and_from}
use Rattle.std.proofs.lemmas.Bool.Decides.{nat_tests}
use Rattle.htmd_document.specs.Documents.{Inlines, Block, Blocks, Items, paragraph, heading, code_block, quote}
use Rattle.htmd_document.specs.Documents.{thematic_break, list, table, element, tags, no_blocks, block, no_items, item}
use Rattle.htmd_document.specs.NormalDocuments.{is_flat_block, are_flat_blocks, are_flat_items}
use Rattle.htmd_document.specs.NormalInlines.{is_normal_line, is_normal_item}
use Rattle.htmd_commonmark.specs.declared.blocks.Place.{Place}
use Rattle.htmd_commonmark.specs.declared.line.LineKind.{LineKind}
use Rattle.htmd_commonmark.specs.declared.line.LineKind.TheVariants.{Paragraph, Heading, Cell}
use Rattle.htmd_commonmark.specs.declared.markers.Markers.{Markers}
use Rattle.htmd_commonmark.specs.declared.markers.Sign.{Sign}
use Rattle.htmd_commonmark.specs.declared.options.DocumentOptions.{DocumentOptions}
use Rattle.htmd_commonmark.specs.BlockMarkdown.{line_of, is_underlined, written_heading, written_cells, written_rows}
use Rattle.htmd_commonmark.specs.BlockMarkdown.{item_count, markers_of, place_in_item, place_in_quote, behind_first}
use Rattle.htmd_commonmark.specs.BlockMarkdown.{sign_of, written_blocks, further_blocks, written_block, written_items}
use Rattle.htmd_commonmark.specs.BlockMarkdown.{further_items}
use Rattle.htmd_commonmark.specs.InlineMarkdown.{written_line}
use Rattle.htmd_commonmark.specs.WrittenText.{is_one_line}
use Rattle.htmd_commonmark_reading.specs.Brackets.{References, inlines}
use Rattle.htmd_commonmark_reading.specs.Lists.{item_text, cell_inlines, row_inlines}
use Rattle.htmd_commonmark_reading.specs.Markup as markup
use Rattle.htmd_commonmark_reading.specs.Tables.{fitted}
use Rattle.htmd_law_blocks.specs.DocumentBlocks.{first_read, further_read, block_read, items_read}
use Rattle.htmd_law_blocks.specs.DocumentParts.{cell_texts, row_texts, filled_rows, heading_text}
use Rattle.htmd_law_inlines.specs.PlainReadings.{is_untagged, is_break_tag, is_read_plainly}
use Rattle.htmd_law_inlines.specs.ReadBack.{references, AreFew}
use Rattle.htmd_law_inlines.proofs.InlineLaws.{inlines_are_plain}
use Rattle.htmd_law_inlines.proofs.ItemLaws.{items_are_plain}
use Rattle.htmd_law_inlines.proofs.TextPieces.{test}
use Rattle.htmd_law_texts.proofs.NormalForm.{paragraph_parts, heading_parts, quote_parts, list_parts, table_parts}
use Rattle.htmd_law_texts.proofs.Growth.{Numbered, numbers_are, grown_numbered, line_grown, cells_grown}
use Rattle.htmd_law_texts.proofs.Growth.{rows_grown, blocks_grown, further_grown, block_grown, further_items_grown}
use Rattle.htmd_law_reading.proofs.WholeDocuments.{few_before, rest_of_all, after_is, reads_of}

abbrev pub PlainCells : List markup.Inlines → Type 0
PlainCells [] = ⊤
PlainCells (c ∷ cs) = (is_read_plainly true c ≡ true) × PlainCells cs

abbrev pub PlainRows : List (List markup.Inlines) → Type 0
PlainRows [] = ⊤
PlainRows (r ∷ rs) = PlainCells r × PlainRows rs

-- no row has more cells than that
abbrev pub RowsFit : ℕ → List (List markup.Inlines) → Type 0
RowsFit n rows = list_all (λ r. nat_le (length r) n) rows ≡ true

abbrev mutual
  pub PlainBlock : markup.Block → Type 0
  PlainBlock (markup.paragraph xs) = is_read_plainly false xs ≡ true
  PlainBlock (markup.heading level xs) = is_read_plainly true xs ≡ true
  PlainBlock (markup.code_block language s) = ⊤
  PlainBlock (markup.quote bs) = PlainBlocks bs
  PlainBlock markup.thematic_break = ⊤
  PlainBlock (markup.list start tight items) = PlainItems items
  PlainBlock (markup.table alignments header rows) =
      PlainCells header × (PlainRows rows × RowsFit (length header) rows)
  PlainBlock (markup.html_block s) = ⊤

  pub PlainBlocks : markup.Blocks → Type 0
  PlainBlocks markup.no_blocks = ⊤
  PlainBlocks (markup.block b bs) = PlainBlock b × PlainBlocks bs

  pub PlainItems : markup.Items → Type 0
  PlainItems markup.no_items = ⊤
  PlainItems (markup.item bs rest) = PlainBlocks bs × PlainItems rest

-- what may have no tags for breaks may have some
pub more_plain : (xs : markup.Inlines) → is_read_plainly false xs ≡ true → is_read_plainly true xs ≡ true
more_plain markup.no_inlines h = refl
more_plain (markup.letter c xs) h = more_plain xs h
more_plain (markup.code s xs) h = more_plain xs h
more_plain (markup.formatted f content xs) h =
    let p = and_parts (is_read_plainly false content) (is_read_plainly false xs) h in
    and_from (is_read_plainly true content) (is_read_plainly true xs) (more_plain content p.0) (more_plain xs p.1)
more_plain (markup.link a t content xs) h =
    let p = and_parts (is_read_plainly false content) (is_read_plainly false xs) h in
    and_from (is_read_plainly true content) (is_read_plainly true xs) (more_plain content p.0) (more_plain xs p.1)
more_plain (markup.image a t content xs) h =
    let p = and_parts (is_untagged content) (is_read_plainly false xs) h in
    and_from (is_untagged content) (is_read_plainly true xs) p.0 (more_plain xs p.1)
more_plain (markup.line_break xs) h = more_plain xs h
more_plain (markup.task d xs) h = more_plain xs h
more_plain (markup.raw s xs) h = more_plain xs (and_parts (not (is_break_tag s)) (is_read_plainly false xs) h).1

-- ---- lines

line_plain : (options : DocumentOptions) (kind : LineKind) (all ds after : List (List ℕ)) (xs : Inlines)
    → AreFew all
    → Numbered 1 ds → is_normal_line xs ≡ true
    → (written_line (line_of options kind) ds xs).definitions ++ after ≡ all
    → is_read_plainly (is_one_line kind) (inlines (references all) (written_line (line_of options kind) ds xs).text)
    ≡ true
line_plain options kind all ds after xs h d n e =
    let line = line_of options kind in
    let w = written_line line ds xs in
    subst (λ y. is_read_plainly (is_one_line kind) (inlines (references y) w.text) ≡ true) e
    (inlines_are_plain line ds after xs refl (numbers_are 1 ds d) n (few_before w.definitions after all e h))

first_plain : (options : DocumentOptions) (all ds after : List (List ℕ)) (xs : Inlines) → AreFew all
    → Numbered 1 ds → is_normal_item xs ≡ true
    → (written_line (line_of options Paragraph) ds xs).definitions ++ after ≡ all
    → is_read_plainly false (item_text (references all) (written_line (line_of options Paragraph) ds xs).text)
    ≡ true
first_plain options all ds after xs h d n e =
    let line = line_of options Paragraph in
    let w = written_line line ds xs in
    subst (λ y. is_read_plainly false (item_text (references y) w.text) ≡ true) e
    (items_are_plain line ds after xs refl (numbers_are 1 ds d) n (few_before w.definitions after all e h))

paragraph_plain : (options : DocumentOptions) (b : Bool) (all ds after : List (List ℕ)) (xs : Inlines) → AreFew all
    → Numbered 1 ds → (if b then is_normal_item xs else is_normal_line xs) ≡ true
    → (written_line (line_of options Paragraph) ds xs).definitions ++ after ≡ all
    → is_read_plainly false (reads_of b all (written_line (line_of options Paragraph) ds xs).text) ≡ true
paragraph_plain options true all ds after xs h d n e = first_plain options all ds after xs h d n e
paragraph_plain options false all ds after xs h d n e = line_plain options Paragraph all ds after xs h d n e

heading_plain : (options : DocumentOptions) (level : ℕ) (all ds after : List (List ℕ)) (xs : Inlines) → AreFew all
    → Numbered 1 ds → is_normal_line xs ≡ true
    → (written_heading options ds level xs).definitions ++ after ≡ all
    → is_read_plainly true (inlines (references all) (heading_text options ds level xs)) ≡ true
heading_plain options level all ds after xs h d n e =
    test (is_underlined options level xs)
    (λ u. let e' : (written_line (line_of options Paragraph) ds xs).definitions ++ after ≡ all = rw u at e in
    rw u (more_plain (inlines (references all) (written_line (line_of options Paragraph) ds xs).text)
    (line_plain options Paragraph all ds after xs h d n e')))
    (λ u. let e' : (written_line (line_of options Heading) ds xs).definitions ++ after ≡ all = rw u at e in
    rw u (line_plain options Heading all ds after xs h d n e'))

-- ---- tables

cells_plain : (options : DocumentOptions) (all ds after : List (List ℕ)) (cells : List Inlines) → AreFew all
    → Numbered 1 ds → list_all is_normal_line cells ≡ true
    → (written_cells (line_of options Cell) ds cells).definitions ++ after ≡ all
    → PlainCells (cell_inlines (references all) (cell_texts options ds cells))
cells_plain options all ds after [] h d n e = tt
cells_plain options all ds after (xs ∷ cells) h d n e =
    let p = and_parts (is_normal_line xs) (list_all is_normal_line cells) n in
    let w = written_line (line_of options Cell) ds xs in
    let g = cells_grown options w.definitions cells p.1 in
    let d' = grown_numbered ds w.definitions (line_grown options Cell ds xs p.0) d in (
      line_plain options Cell all ds (g.more ++ after) xs h d p.0
          (rest_of_all w.definitions (written_cells (line_of options Cell) w.definitions cells).definitions after all g
          e),
      cells_plain options all w.definitions after cells h d' p.1 e,
    )

-- what a row lacks is empty
fitted_plain : (refs : References) (n : ℕ) (ts : List (List ℕ)) → PlainCells (cell_inlines refs ts)
    → PlainCells (cell_inlines refs (fitted n ts))
fitted_plain refs zero ts h = tt
fitted_plain refs (suc n) [] h = (refl, fitted_plain refs n [] tt)
fitted_plain refs (suc n) (t ∷ ts) h = (h.0, fitted_plain refs n ts h.1)

cells_length : (refs : References) (ts : List (List ℕ)) → length (cell_inlines refs ts) ≡ length ts
cells_length refs [] = refl
cells_length refs (t ∷ ts) = ap suc (cells_length refs ts)

fitted_length : (n : ℕ) (ts : List (List ℕ)) → length (fitted n ts) ≡ n
fitted_length zero ts = refl
fitted_length (suc n) [] = ap suc (fitted_length n [])
fitted_length (suc n) (t ∷ ts) = ap suc (fitted_length n ts)

rows_fit : (refs : References) (n k : ℕ) (rows : List (List (List ℕ))) → n ≡ k
    → RowsFit k (row_inlines refs (filled_rows n rows))
rows_fit refs n k [] e = refl
rows_fit refs n k (r ∷ rs) e =
    let same : length (cell_inlines refs (fitted n r)) ≡ k =
    cells_length refs (fitted n r) ∙ (fitted_length n r ∙ e) in
    and_from (nat_le (length (cell_inlines refs (fitted n r))) k)
    (list_all (λ r. nat_le (length r) k) (row_inlines refs (filled_rows n rs)))
    (grind (arith, nat_tests, same)) (rows_fit refs n k rs e)

rows_plain : (options : DocumentOptions) (all ds after : List (List ℕ)) (m : ℕ) (rows : List (List Inlines))
    → AreFew all → Numbered 1 ds → list_all (list_all is_normal_line) rows ≡ true
    → (written_rows (line_of options Cell) ds rows).definitions ++ after ≡ all
    → PlainRows (row_inlines (references all) (filled_rows m (row_texts options ds rows)))
rows_plain options all ds after m [] h d p e = tt
rows_plain options all ds after m (cells ∷ rows) h d p e =
    let q = and_parts (list_all is_normal_line cells) (list_all (list_all is_normal_line) rows) p in
    let es = (written_cells (line_of options Cell) ds cells).definitions in
    let g = rows_grown options es rows q.1 in
    let d' = grown_numbered ds es (cells_grown options ds cells q.0) d in
    let e' = rest_of_all es (written_rows (line_of options Cell) es rows).definitions after all g e in (
      fitted_plain (references all) m (cell_texts options ds cells)
          (cells_plain options all ds (g.more ++ after) cells h d q.0 e'),
      subst (λ y. PlainRows (row_inlines (references all) (filled_rows m (row_texts options y rows))))
          (sym (after_is options ds cells)) (rows_plain options all es after m rows h d' q.1 e),
    )

-- ---- blocks

mutual
  pub first_plainly : (options : DocumentOptions) (place : Place) (b : Bool) (all ds after : List (List ℕ))
      (bs : Blocks)
      → AreFew all → Numbered 1 ds → are_flat_blocks b bs ≡ true
      → (written_blocks options place ds bs).definitions ++ after ≡ all
      → PlainBlocks (first_read (references all) (reads_of b all) options place ds bs)
  first_plainly options place b all ds after no_blocks h d n e = tt
  first_plainly options place b all ds after (block first rest) h d n e =
      let p = and_parts (is_flat_block b first) (are_flat_blocks false rest) n in
      let es = (written_block options place None ds first).definitions in
      let sign = sign_of options None place.outer first in
      let g = further_grown options (behind_first place) sign es rest p.1 in
      let d' = grown_numbered ds es (block_grown options place None ds b first p.0) d in (
        one_plainly options place None b all ds (g.more ++ after) first h d p.0
            (rest_of_all es (further_blocks options (behind_first place) sign es rest).definitions after all g e),
        further_plainly options (behind_first place) sign all es after rest h d' p.1 e,
      )

  further_plainly : (options : DocumentOptions) (place : Place) (before : Option Sign) (all ds after : List (List ℕ))
      (bs : Blocks) → AreFew all → Numbered 1 ds → are_flat_blocks false bs ≡ true
      → (further_blocks options place before ds bs).definitions ++ after ≡ all
      → PlainBlocks (further_read (references all) options place before ds bs)
  further_plainly options place before all ds after no_blocks h d n e = tt
  further_plainly options place before all ds after (block first rest) h d n e =
      let p = and_parts (is_flat_block false first) (are_flat_blocks false rest) n in
      let es = (written_block options place before ds first).definitions in
      let sign = sign_of options before place.outer first in
      let g = further_grown options place sign es rest p.1 in
      let d' = grown_numbered ds es (block_grown options place before ds false first p.0) d in (
        one_plainly options place before false all ds (g.more ++ after) first h d p.0
            (rest_of_all es (further_blocks options place sign es rest).definitions after all g e),
        further_plainly options place sign all es after rest h d' p.1 e,
      )

  one_plainly : (options : DocumentOptions) (place : Place) (before : Option Sign) (b : Bool)
      (all ds after : List (List ℕ)) (x : Block) → AreFew all → Numbered 1 ds → is_flat_block b x ≡ true
      → (written_block options place before ds x).definitions ++ after ≡ all
      → PlainBlock (block_read (references all) (reads_of b all) options place before ds x)
  one_plainly options place before b all ds after (paragraph content) h d n e =
      paragraph_plain options b all ds after content h d (paragraph_parts b content n) e
  one_plainly options place before b all ds after (heading level content) h d n e =
      heading_plain options level all ds after content h d (heading_parts level content n).2 e
  one_plainly options place before b all ds after (code_block language s) h d n e = tt
  one_plainly options place before b all ds after (quote content) h d n e =
      first_plainly options (place_in_quote place.in_item) false all ds after content h d (quote_parts b content n).1 e
  one_plainly options place before b all ds after thematic_break h d n e = tt
  one_plainly options place before b all ds after (element name attributes content) h d n e = absurd (cc)
  one_plainly options place before b all ds after (tags s) h d n e = tt
  one_plainly options place before b all ds after (list start is_tight items) h d n e =
      items_plainly options (markers_of options before place.outer start (item_count items)) is_tight all ds after items
      h d (list_parts b start is_tight items n).1 e
  one_plainly options place before b all ds after (table alignments header rows) h d n e =
      let p = table_parts alignments header rows n in
      let es = (written_cells (line_of options Cell) ds header).definitions in
      let g = rows_grown options es rows p.1 in
      let d' = grown_numbered ds es (cells_grown options ds header p.0) d in (
        cells_plain options all ds (g.more ++ after) header h d p.0
            (rest_of_all es (written_rows (line_of options Cell) es rows).definitions after all g e),
        (
          subst (λ y. PlainRows (row_inlines (references all)
              (filled_rows (length (cell_texts options ds header)) (row_texts options y rows))))
              (sym (after_is options ds header))
              (rows_plain options all es after (length (cell_texts options ds header)) rows h d' p.1 e),
          rows_fit (references all) (length (cell_texts options ds header))
              (length (cell_inlines (references all) (cell_texts options ds header))) _
              (sym (cells_length (references all) (cell_texts options ds header))),
        ),
      )

  items_plainly : (options : DocumentOptions) (markers : Markers) (is_tight : Bool) (all ds after : List (List ℕ))
      (items : Items) → AreFew all → Numbered 1 ds → are_flat_items items ≡ true
      → (written_items options markers is_tight ds items).definitions ++ after ≡ all
      → PlainItems (items_read (references all) options markers is_tight ds items)
  items_plainly options markers is_tight all ds after no_items h d n e = tt
  items_plainly options markers is_tight all ds after (item first rest) h d n e =
      let p = and_parts (are_flat_blocks true first) (are_flat_items rest) n in
      let es = (written_blocks options (place_in_item markers is_tight) ds first).definitions in
      let g = further_items_grown options markers is_tight 1 es rest p.1 in
      let d' = grown_numbered ds es (blocks_grown options (place_in_item markers is_tight) ds true first p.0) d in (
        first_plainly options (place_in_item markers is_tight) true all ds (g.more ++ after) first h d p.0
            (rest_of_all es (further_items options markers is_tight 1 es rest).definitions after all g e),
        further_plain_items options markers is_tight 1 all es after rest h d' p.1 e,
      )

  further_plain_items : (options : DocumentOptions) (markers : Markers) (is_tight : Bool) (k : ℕ)
      (all ds after : List (List ℕ)) (items : Items) → AreFew all → Numbered 1 ds
      → are_flat_items items ≡ true
      → (further_items options markers is_tight k ds items).definitions ++ after ≡ all
      → PlainItems (items_read (references all) options markers is_tight ds items)
  further_plain_items options markers is_tight k all ds after no_items h d n e = tt
  further_plain_items options markers is_tight k all ds after (item first rest) h d n e =
      let p = and_parts (are_flat_blocks true first) (are_flat_items rest) n in
      let es = (written_blocks options (place_in_item markers is_tight) ds first).definitions in
      let g = further_items_grown options markers is_tight (suc k) es rest p.1 in
      let d' = grown_numbered ds es (blocks_grown options (place_in_item markers is_tight) ds true first p.0) d in (
        first_plainly options (place_in_item markers is_tight) true all ds (g.more ++ after) first h d p.0
            (rest_of_all es (further_items options markers is_tight (suc k) es rest).definitions after all g e),
        further_plain_items options markers is_tight (suc k) all es after rest h d' p.1 e,
      )
