-- What is read of the flat blocks that are written, with the inlines in them, is what was written.
use Rattle.std.proofs.Common.{◌≡◌, ◌∙◌, ◌≤◌, refl, ap, sym, ℕ, zero, suc, Bool, true, false, List, [], ◌∷◌, ◌++◌}
use Rattle.std.proofs.Common.{Option, Some}
use Rattle.std.proofs.Common.{None, append_assoc, arith}
use Rattle.std.specs.Prelude.{length, ◌&&◌, if◌then◌else◌}
use Rattle.std.specs.List.{list_all}
use Rattle.std.proofs.lemmas.Bool.{and_parts, and_right, not-true}
use Rattle.std.proofs.lemmas.List.{length-append}
use Rattle.htmd_document.specs.Documents.{Inlines, Block, Blocks, Items, paragraph, heading, code_block, quote}
use Rattle.htmd_document.specs.Documents.{thematic_break, list, table, element, tags, no_blocks, block, no_items, item}
use Rattle.htmd_commonmark.specs.declared.blocks.Place.{Place}
use Rattle.htmd_commonmark.specs.declared.line.LineKind.{LineKind}
use Rattle.htmd_commonmark.specs.declared.line.LineKind.TheVariants.{Paragraph, Heading, Cell}
use Rattle.htmd_commonmark.specs.declared.markers.Sign.{Sign}
use Rattle.htmd_commonmark.specs.declared.markers.Markers.{Markers}
use Rattle.htmd_commonmark.specs.declared.options.DocumentOptions.{DocumentOptions}
use Rattle.htmd_commonmark.specs.BlockMarkdown.{line_of, is_underlined, written_heading, written_cells, written_rows}
use Rattle.htmd_commonmark.specs.BlockMarkdown.{item_count, markers_of, place_in_item, place_in_quote, behind_first}
use Rattle.htmd_commonmark.specs.BlockMarkdown.{sign_of, written_blocks, further_blocks, written_block, written_items}
use Rattle.htmd_commonmark.specs.BlockMarkdown.{further_items}
use Rattle.htmd_commonmark.specs.InlineMarkdown.{written_line}
use Rattle.htmd_commonmark_reading.specs.Brackets.{inlines}
use Rattle.htmd_commonmark_reading.specs.Lists.{item_text, cell_inlines, row_inlines}
use Rattle.htmd_commonmark_reading.specs.Markup as markup
use Rattle.htmd_commonmark_reading.specs.SeenMarkup.{seen_block, seen_blocks, seen_items, seen_row, seen_rows}
use Rattle.htmd_commonmark_reading.specs.SeenMarkup.{document_block, document_blocks, document_items, document_row}
use Rattle.htmd_commonmark_reading.specs.SeenMarkup.{document_rows, and_list, option_of, option_of_both}
use Rattle.htmd_commonmark_reading.specs.SeenMarkup.{document_inlines, seen_inlines, filled_front, has_no_cell}
use Rattle.htmd_commonmark_reading.specs.SeenMarkup.{without_empty_end}
use Rattle.htmd_commonmark_reading.specs.SeenMarkup as seen
use Rattle.htmd_commonmark_reading.specs.Tables.{fitted}
use Rattle.htmd_law_blocks.specs.DocumentBlocks.{first_read, further_read, block_read, items_read}
use Rattle.htmd_law_blocks.specs.DocumentParts.{cell_texts, after_cells, row_texts, filled_rows, heading_text}
use Rattle.htmd_document.specs.NormalInlines.{has_none, is_normal_line, is_normal_item}
use Rattle.htmd_document.specs.NormalDocuments.{is_flat_block, are_flat_blocks, are_flat_items, ends_filled}
use Rattle.htmd_document.specs.NormalDocuments.{is_normal_row}
use Rattle.htmd_law_inlines.specs.ReadBack.{seen_document, references, AreFew}
use Rattle.htmd_law_inlines.proofs.InlineLaws.{inlines_read_back}
use Rattle.htmd_law_inlines.proofs.ItemLaws.{items_read_back}
use Rattle.htmd_law_inlines.proofs.TextPieces.{test}
use Rattle.htmd_law_texts.proofs.NormalForm.{paragraph_parts, heading_parts, quote_parts, list_parts, table_parts}
use Rattle.htmd_law_texts.proofs.NormalForm.{table_rows_are, row_parts}
use Rattle.htmd_law_texts.proofs.Growth.{Grown, Numbered, numbers_are, grown_numbered, line_grown, cells_grown}
use Rattle.htmd_law_texts.proofs.Growth.{rows_grown, blocks_grown, further_grown, block_grown, further_items_grown}

-- ---- lines

pub few_before : (es after all : List (List ℕ)) → es ++ after ≡ all → AreFew all → AreFew es
few_before es after all e f =
    let l = ap length e in
    let m = length-append es after in
    omega arith

line_seen : (options : DocumentOptions) (kind : LineKind) (all ds after : List (List ℕ)) (xs : Inlines) → AreFew all
    → Numbered 1 ds → is_normal_line xs ≡ true
    → (written_line (line_of options kind) ds xs).definitions ++ after ≡ all
    → seen_document (inlines (references all) (written_line (line_of options kind) ds xs).text) ≡ Some xs
line_seen options kind all ds after xs h d n e =
    let line = line_of options kind in
    let w = written_line line ds xs in
    ap (λ y. seen_document (inlines (references y) w.text)) (sym e)
    ∙ inlines_read_back line ds after xs refl (numbers_are 1 ds d) n (few_before w.definitions after all e h)

first_seen : (options : DocumentOptions) (all ds after : List (List ℕ)) (xs : Inlines) → AreFew all
    → Numbered 1 ds → is_normal_item xs ≡ true
    → (written_line (line_of options Paragraph) ds xs).definitions ++ after ≡ all
    → seen_document (item_text (references all) (written_line (line_of options Paragraph) ds xs).text) ≡ Some xs
first_seen options all ds after xs h d n e =
    let line = line_of options Paragraph in
    let w = written_line line ds xs in
    ap (λ y. seen_document (item_text (references y) w.text)) (sym e)
    ∙ items_read_back line ds after xs refl (numbers_are 1 ds d) n (few_before w.definitions after all e h)

-- what a reader takes a paragraph's text for, which may begin an item
abbrev pub reads_of : Bool → List (List ℕ) → List ℕ → markup.Inlines
reads_of begins_item all = if begins_item then item_text (references all) else inlines (references all)

paragraph_seen : (options : DocumentOptions) (b : Bool) (all ds after : List (List ℕ)) (xs : Inlines) → AreFew all
    → Numbered 1 ds → (if b then is_normal_item xs else is_normal_line xs) ≡ true
    → (written_line (line_of options Paragraph) ds xs).definitions ++ after ≡ all
    → seen_document (reads_of b all (written_line (line_of options Paragraph) ds xs).text) ≡ Some xs
paragraph_seen options true all ds after xs h d n e = first_seen options all ds after xs h d n e
paragraph_seen options false all ds after xs h d n e = line_seen options Paragraph all ds after xs h d n e

heading_seen : (options : DocumentOptions) (level : ℕ) (all ds after : List (List ℕ)) (xs : Inlines) → AreFew all
    → Numbered 1 ds → is_normal_line xs ≡ true → (written_heading options ds level xs).definitions ++ after
    ≡ all
    → seen_document (inlines (references all) (heading_text options ds level xs)) ≡ Some xs
heading_seen options level all ds after xs h d n e =
    test (is_underlined options level xs)
    (λ u. let e' : (written_line (line_of options Paragraph) ds xs).definitions ++ after ≡ all = rw u at e in
    rw u (line_seen options Paragraph all ds after xs h d n e'))
    (λ u. let e' : (written_line (line_of options Heading) ds xs).definitions ++ after ≡ all = rw u at e in
    rw u (line_seen options Heading all ds after xs h d n e'))

-- ---- tables

pub after_is : (options : DocumentOptions) (ds : List (List ℕ)) (cells : List Inlines)
    → after_cells options ds cells ≡ (written_cells (line_of options Cell) ds cells).definitions
after_is options ds [] = refl
after_is options ds (xs ∷ cells) = after_is options (written_line (line_of options Cell) ds xs).definitions cells

-- lines that grow further, before others
pub rest_of_all : (ds es after all : List (List ℕ)) (g : Grown ds es) → es ++ after ≡ all
    → ds ++ (g.more ++ after) ≡ all
rest_of_all ds es after all g e = sym (append_assoc ds g.more after) ∙ ap (λ l. l ++ after) (sym g.is) ∙ e

both_some : {A : Type 0} (x : A) (xs : List A) (o : Option A) (os : Option (List A)) → o ≡ Some x → os ≡ Some xs
    → and_list o os ≡ Some (x ∷ xs)
both_some x xs o os e f = ap (λ y. and_list y os) e ∙ ap (and_list (Some x)) f

cells_seen : (options : DocumentOptions) (all ds after : List (List ℕ)) (cells : List Inlines) → AreFew all
    → Numbered 1 ds → list_all is_normal_line cells ≡ true
    → (written_cells (line_of options Cell) ds cells).definitions ++ after ≡ all
    → document_row (seen_row (cell_inlines (references all) (cell_texts options ds cells))) ≡ Some cells
cells_seen options all ds after [] h d n e = refl
cells_seen options all ds after (xs ∷ cells) h d n e =
    let p = and_parts (is_normal_line xs) (list_all is_normal_line cells) n in
    let w = written_line (line_of options Cell) ds xs in
    let g = cells_grown options w.definitions cells p.1 in
    let d' = grown_numbered ds w.definitions (line_grown options Cell ds xs p.0) d in
    both_some xs cells _ _
    (line_seen options Cell all ds (g.more ++ after) xs h d p.0
    (rest_of_all w.definitions (written_cells (line_of options Cell) w.definitions cells).definitions after all g e))
    (cells_seen options all w.definitions after cells h d' p.1 e)

-- what isn't nothing is seen as something
abbrev is_no_document : Option Inlines → Bool
is_no_document None = true
is_no_document (Some xs) = has_none xs

something_seen : (xs : markup.Inlines) (ys : Inlines) → document_inlines xs ≡ Some ys → has_none ys ≡ false
    → seen.has_none xs ≡ false
something_seen markup.no_inlines ys e h = let z = ap is_no_document e ∙ h in absurd (cc)
something_seen (markup.letter c xs) ys e h = refl
something_seen (markup.code s xs) ys e h = refl
something_seen (markup.formatted f content xs) ys e h = refl
something_seen (markup.link a t content xs) ys e h = refl
something_seen (markup.image a t content xs) ys e h = refl
something_seen (markup.line_break xs) ys e h = refl
something_seen (markup.task d xs) ys e h = refl
something_seen (markup.raw tag xs) ys e h = refl

-- the cells that a row lacks are taken away
lacking_gone : (options : DocumentOptions) (all : List (List ℕ)) (n : ℕ)
    → filled_front (seen_row (cell_inlines (references all) (fitted n []))) ≡ []
lacking_gone options all zero = refl
lacking_gone options all (suc n) = rw (lacking_gone options all n) refl

last_kept : (x : markup.Inlines) (rest : List markup.Inlines) → seen.has_none x ≡ false → filled_front rest ≡ []
    → filled_front (x ∷ rest) ≡ x ∷ []
last_kept x rest h e = rw (h, e) refl

next_kept : (x y : markup.Inlines) (rest ys : List markup.Inlines) → filled_front rest ≡ y ∷ ys
    → filled_front (x ∷ rest) ≡ x ∷ y ∷ ys
next_kept x y rest ys e =
    ap (λ l. if seen.has_none x && has_no_cell l then [] else x ∷ l) e
    ∙ ap (λ b. if b then [] else x ∷ y ∷ ys) (and_right (seen.has_none x) false refl)

cells_kept : (options : DocumentOptions) (all ds after : List (List ℕ)) (n : ℕ) (cells : List Inlines)
    → AreFew all → Numbered 1 ds → list_all is_normal_line cells ≡ true
    → (written_cells (line_of options Cell) ds cells).definitions ++ after ≡ all
    → length cells ≤ n → ends_filled cells ≡ true
    → filled_front (seen_row (cell_inlines (references all) (fitted n (cell_texts options ds cells))))
    ≡ seen_row (cell_inlines (references all) (cell_texts options ds cells))
cells_kept options all ds after n [] h d p e l f = absurd (cc)
cells_kept options all ds after zero (xs ∷ cells) h d p e l f = absurd (omega arith)
cells_kept options all ds after (suc n) (xs ∷ []) h d p e l f =
    let w = written_line (line_of options Cell) ds xs in
    let x = seen_inlines (inlines (references all) w.text) in
    let q = and_parts (is_normal_line xs) true p in
    last_kept x (seen_row (cell_inlines (references all) (fitted n [])))
    (something_seen x xs (line_seen options Cell all ds after xs h d q.0 e) (not-true (has_none xs) f))
    (lacking_gone options all n)
cells_kept options all ds after (suc n) (xs ∷ ys ∷ cells) h d p e l f =
    let q = and_parts (is_normal_line xs) (list_all is_normal_line (ys ∷ cells)) p in
    let w = written_line (line_of options Cell) ds xs in
    let v = written_line (line_of options Cell) w.definitions ys in
    let d' = grown_numbered ds w.definitions (line_grown options Cell ds xs q.0) d in
    next_kept (seen_inlines (inlines (references all) w.text)) (seen_inlines (inlines (references all) v.text))
    (seen_row (cell_inlines (references all) (fitted n (cell_texts options w.definitions (ys ∷ cells)))))
    (seen_row (cell_inlines (references all) (cell_texts options v.definitions cells)))
    (cells_kept options all w.definitions after n (ys ∷ cells) h d' q.1 e (omega (arith, l)) f)

row_kept : (options : DocumentOptions) (all ds after : List (List ℕ)) (n : ℕ) (cells : List Inlines) → AreFew all
    → Numbered 1 ds → list_all is_normal_line cells ≡ true
    → (written_cells (line_of options Cell) ds cells).definitions ++ after ≡ all
    → length cells ≤ n → ends_filled cells ≡ true
    → without_empty_end (seen_row (cell_inlines (references all) (fitted n (cell_texts options ds cells))))
    ≡ seen_row (cell_inlines (references all) (cell_texts options ds cells))
row_kept options all ds after n [] h d p e l f = absurd (cc)
row_kept options all ds after zero (xs ∷ cells) h d p e l f = absurd (omega arith)
row_kept options all ds after (suc n) (xs ∷ []) h d p e l f =
    let w = written_line (line_of options Cell) ds xs in
    ap (λ r. seen_inlines (inlines (references all) w.text) ∷ r) (lacking_gone options all n)
row_kept options all ds after (suc n) (xs ∷ ys ∷ cells) h d p e l f =
    let q = and_parts (is_normal_line xs) (list_all is_normal_line (ys ∷ cells)) p in
    let w = written_line (line_of options Cell) ds xs in
    let d' = grown_numbered ds w.definitions (line_grown options Cell ds xs q.0) d in
    ap (λ r. seen_inlines (inlines (references all) w.text) ∷ r)
    (cells_kept options all w.definitions after n (ys ∷ cells) h d' q.1 e (omega (arith, l)) f)

rows_seen : (options : DocumentOptions) (all ds after : List (List ℕ)) (n : ℕ) (rows : List (List Inlines))
    → AreFew all → Numbered 1 ds → list_all (list_all is_normal_line) rows ≡ true
    → list_all (is_normal_row n) rows ≡ true
    → (written_rows (line_of options Cell) ds rows).definitions ++ after ≡ all
    → document_rows (seen_rows (row_inlines (references all) (filled_rows n (row_texts options ds rows))))
    ≡ Some rows
rows_seen options all ds after n [] h d p r e = refl
rows_seen options all ds after n (cells ∷ rows) h d p r e =
    let q = and_parts (list_all is_normal_line cells) (list_all (list_all is_normal_line) rows) p in
    let s = and_parts (is_normal_row n cells) (list_all (is_normal_row n) rows) r in
    let c = row_parts n cells s.0 in
    let es = (written_cells (line_of options Cell) ds cells).definitions in
    let g = rows_grown options es rows q.1 in
    let d' = grown_numbered ds es (cells_grown options ds cells q.0) d in
    let e' = rest_of_all es (written_rows (line_of options Cell) es rows).definitions after all g e in
    both_some cells rows _ _
    (ap document_row (row_kept options all ds (g.more ++ after) n cells h d q.0 e' c.0 c.1)
    ∙ cells_seen options all ds (g.more ++ after) cells h d q.0 e')
    (ap (λ y. document_rows (seen_rows (row_inlines (references all) (filled_rows n (row_texts options y rows)))))
    (after_is options ds cells)
    ∙ rows_seen options all es after n rows h d' q.1 s.1 e)

texts_count : (options : DocumentOptions) (ds : List (List ℕ)) (cells : List Inlines)
    → length (cell_texts options ds cells) ≡ length cells
texts_count options ds [] = refl
texts_count options ds (xs ∷ cells) =
    ap suc (texts_count options (written_line (line_of options Cell) ds xs).definitions cells)

-- ---- blocks

both_are : {A B C : Type 0} (f : A → B → C) (x : A) (y : B) (o : Option A) (p : Option B) → o ≡ Some x → p
    ≡ Some y
    → option_of_both f o p ≡ Some (f x y)
both_are f x y o p d e = ap (λ z. option_of_both f z p) d ∙ ap (option_of_both f (Some x)) e

mutual
  pub first_blocks : (options : DocumentOptions) (place : Place) (b : Bool) (all ds after : List (List ℕ))
      (bs : Blocks)
      → AreFew all → Numbered 1 ds → are_flat_blocks b bs ≡ true
      → (written_blocks options place ds bs).definitions ++ after ≡ all
      → document_blocks (seen_blocks (first_read (references all) (reads_of b all) options place ds bs)) ≡ Some bs
  first_blocks options place b all ds after no_blocks h d n e = refl
  first_blocks options place b all ds after (block first rest) h d n e =
      let p = and_parts (is_flat_block b first) (are_flat_blocks false rest) n in
      let es = (written_block options place None ds first).definitions in
      let sign = sign_of options None place.outer first in
      let g = further_grown options (behind_first place) sign es rest p.1 in
      let d' = grown_numbered ds es (block_grown options place None ds b first p.0) d in
      both_are block first rest _ _
      (one_block options place None b all ds (g.more ++ after) first h d p.0
      (rest_of_all es (further_blocks options (behind_first place) sign es rest).definitions after all g e))
      (further_seen options (behind_first place) sign all es after rest h d' p.1 e)

  further_seen : (options : DocumentOptions) (place : Place) (before : Option Sign) (all ds after : List (List ℕ))
      (bs : Blocks) → AreFew all → Numbered 1 ds → are_flat_blocks false bs ≡ true
      → (further_blocks options place before ds bs).definitions ++ after ≡ all
      → document_blocks (seen_blocks (further_read (references all) options place before ds bs)) ≡ Some bs
  further_seen options place before all ds after no_blocks h d n e = refl
  further_seen options place before all ds after (block first rest) h d n e =
      let p = and_parts (is_flat_block false first) (are_flat_blocks false rest) n in
      let es = (written_block options place before ds first).definitions in
      let sign = sign_of options before place.outer first in
      let g = further_grown options place sign es rest p.1 in
      let d' = grown_numbered ds es (block_grown options place before ds false first p.0) d in
      both_are block first rest _ _
      (one_block options place before false all ds (g.more ++ after) first h d p.0
      (rest_of_all es (further_blocks options place sign es rest).definitions after all g e))
      (further_seen options place sign all es after rest h d' p.1 e)

  one_block : (options : DocumentOptions) (place : Place) (before : Option Sign) (b : Bool)
      (all ds after : List (List ℕ)) (x : Block) → AreFew all → Numbered 1 ds → is_flat_block b x ≡ true
      → (written_block options place before ds x).definitions ++ after ≡ all
      → document_block (seen_block (block_read (references all) (reads_of b all) options place before ds x))
      ≡ Some x
  one_block options place before b all ds after (paragraph content) h d n e =
      ap (option_of paragraph) (paragraph_seen options b all ds after content h d (paragraph_parts b content n) e)
  one_block options place before b all ds after (heading level content) h d n e =
      ap (option_of (heading level)) (heading_seen options level all ds after content h d
      (heading_parts level content n).2 e)
  one_block options place before b all ds after (code_block language s) h d n e = refl
  one_block options place before b all ds after (quote content) h d n e =
      ap (option_of quote) (first_blocks options (place_in_quote place.in_item) false all ds after content h d
      (quote_parts b content n).1 e)
  one_block options place before b all ds after thematic_break h d n e = refl
  one_block options place before b all ds after (element name attributes content) h d n e = absurd (cc)
  one_block options place before b all ds after (tags s) h d n e = refl
  one_block options place before b all ds after (list start is_tight items) h d n e =
      ap (option_of (list start is_tight))
      (all_items options (markers_of options before place.outer start (item_count items)) is_tight all ds after items
      h d (list_parts b start is_tight items n).1 e)
  one_block options place before b all ds after (table alignments header rows) h d n e =
      let p = table_parts alignments header rows n in
      let es = (written_cells (line_of options Cell) ds header).definitions in
      let g = rows_grown options es rows p.1 in
      let d' = grown_numbered ds es (cells_grown options ds header p.0) d in
      both_are (table alignments) header rows _ _
      (cells_seen options all ds (g.more ++ after) header h d p.0
      (rest_of_all es (written_rows (line_of options Cell) es rows).definitions after all g e))
      (ap (λ m. document_rows (seen_rows (row_inlines (references all) (filled_rows m
      (row_texts options (after_cells options ds header) rows))))) (texts_count options ds header)
      ∙ ap (λ y. document_rows (seen_rows (row_inlines (references all)
      (filled_rows (length header) (row_texts options y rows))))) (after_is options ds header)
      ∙ rows_seen options all es after (length header) rows h d' p.1 (table_rows_are alignments header rows n) e)

  all_items : (options : DocumentOptions) (markers : Markers) (is_tight : Bool) (all ds after : List (List ℕ))
      (items : Items) → AreFew all → Numbered 1 ds → are_flat_items items ≡ true
      → (written_items options markers is_tight ds items).definitions ++ after ≡ all
      → document_items (seen_items (items_read (references all) options markers is_tight ds items)) ≡ Some items
  all_items options markers is_tight all ds after no_items h d n e = refl
  all_items options markers is_tight all ds after (item first rest) h d n e =
      let p = and_parts (are_flat_blocks true first) (are_flat_items rest) n in
      let es = (written_blocks options (place_in_item markers is_tight) ds first).definitions in
      let g = further_items_grown options markers is_tight 1 es rest p.1 in
      let d' = grown_numbered ds es (blocks_grown options (place_in_item markers is_tight) ds true first p.0) d in
      both_are item first rest _ _
      (first_blocks options (place_in_item markers is_tight) true all ds (g.more ++ after) first h d p.0
      (rest_of_all es (further_items options markers is_tight 1 es rest).definitions after all g e))
      (further_items_seen options markers is_tight 1 all es after rest h d' p.1 e)

  further_items_seen : (options : DocumentOptions) (markers : Markers) (is_tight : Bool) (k : ℕ)
      (all ds after : List (List ℕ)) (items : Items) → AreFew all → Numbered 1 ds → are_flat_items items
      ≡ true
      → (further_items options markers is_tight k ds items).definitions ++ after ≡ all
      → document_items (seen_items (items_read (references all) options markers is_tight ds items)) ≡ Some items
  further_items_seen options markers is_tight k all ds after no_items h d n e = refl
  further_items_seen options markers is_tight k all ds after (item first rest) h d n e =
      let p = and_parts (are_flat_blocks true first) (are_flat_items rest) n in
      let es = (written_blocks options (place_in_item markers is_tight) ds first).definitions in
      let g = further_items_grown options markers is_tight (suc k) es rest p.1 in
      let d' = grown_numbered ds es (blocks_grown options (place_in_item markers is_tight) ds true first p.0) d in
      both_are item first rest _ _
      (first_blocks options (place_in_item markers is_tight) true all ds (g.more ++ after) first h d p.0
      (rest_of_all es (further_items options markers is_tight (suc k) es rest).definitions after all g e))
      (further_items_seen options markers is_tight (suc k) all es after rest h d' p.1 e)
