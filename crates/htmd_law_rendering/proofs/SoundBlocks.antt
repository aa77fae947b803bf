-- Where a document in normal form is seen, the blocks of what is read have no words with carriage returns or U+0000.
use Rattle.std.proofs.Common.{◌≡◌, ℕ, Bool, true, false, not, ◌&&◌, List, [], ◌∷◌, refl, sym, ap, ◌∙◌, Option, Some}
use Rattle.std.proofs.Common.{None}
use Rattle.std.proofs.Common.{◌++◌, codes, length, subst}
use Rattle.std.specs.List.{list_all, list_any}
use Rattle.std.specs.Prelude.{⊤, ◌||◌, ◌==◌, nat_le}
use Rattle.std.proofs.lemmas.Bool.{and_parts, and_from}
use Rattle.htmd_lexical.proofs.Cases.{test}
use Rattle.htmd_document.specs.Documents as document
use Rattle.htmd_document.specs.FlatDocuments.{lines_of}
use Rattle.htmd_document.specs.NormalInlines as normal
use Rattle.htmd_document.specs.NormalInlines.{is_kept}
use Rattle.htmd_document.specs.NormalDocuments.{begins_with_tag_of, is_tag_line, are_tag_lines, names}
use Rattle.htmd_document.specs.NormalInlines.{is_normal_line, is_normal_item, are_anchors, anchors_stand_well}
use Rattle.htmd_document.specs.NormalDocuments.{is_code_byte, is_language_byte, has_language}
use Rattle.htmd_document.specs.NormalDocuments.{is_normal_paragraph, is_level, is_normal_heading}
use Rattle.htmd_document.specs.NormalDocuments.{has_cell, ends_filled, are_normal_cells, is_normal_row}
use Rattle.htmd_document.specs.NormalDocuments.{is_normal_list}
use Rattle.htmd_document.specs.NormalDocuments.{is_flat_block, are_flat_blocks, are_flat_items}
use Rattle.htmd_document.specs.TightItems.{is_filled}
use Rattle.htmd_lexical.specs.CharacterClasses.{is_empty}
use Rattle.htmd_commonmark_reading.specs.Markup.{Inlines, no_inlines, letter, code, formatted, link, image}
use Rattle.htmd_commonmark_reading.specs.Markup.{line_break}
use Rattle.htmd_commonmark_reading.specs.Markup.{task, raw, Block, paragraph, heading, code_block, quote}
use Rattle.htmd_commonmark_reading.specs.Markup.{thematic_break, list, table, html_block, Blocks, no_blocks, block}
use Rattle.htmd_commonmark_reading.specs.Markup.{Items, no_items, item}
use Rattle.htmd_commonmark_reading.specs.SeenMarkup.{seen_inlines, seen_row, seen_rows, has_none, has_no_cell}
use Rattle.htmd_commonmark_reading.specs.SeenMarkup.{filled_front, without_empty_end, seen_block, seen_blocks}
use Rattle.htmd_commonmark_reading.specs.SeenMarkup.{seen_items}
use Rattle.htmd_commonmark_reading.specs.SeenMarkup.{document_inlines, document_row, document_rows, document_block}
use Rattle.htmd_commonmark_reading.specs.SeenMarkup.{document_blocks, document_items}
use Rattle.htmd_law_texts.proofs.PieceTexts.{all_append}
use Rattle.htmd_law_rendering.proofs.LineLemmas.{ended_lines, split-ended}
use Rattle.htmd_law_rendering.proofs.PairedBlocks.{both-some, one-some, two-some, no-cells}
use Rattle.htmd_law_rendering.proofs.SoundTags.{is_sound}
use Rattle.htmd_law_rendering.proofs.SoundWords.{is_sound_if, has_sound_words, seen-words}
use Rattle.htmd_law_rendering.proofs.SoundDocuments.{bytes-are, are_sound, line-words, item-words, document-words}

abbrev pub CellWords : List Inlines → Type 0
CellWords [] = ⊤
CellWords (c ∷ cs) = (has_sound_words true c ≡ true) × CellWords cs

abbrev pub RowWords : List (List Inlines) → Type 0
RowWords [] = ⊤
RowWords (r ∷ rs) = CellWords r × RowWords rs

abbrev mutual
  -- in HTML blocks too
  pub BlockWords : Block → Type 0
  BlockWords (paragraph xs) = has_sound_words true xs ≡ true
  BlockWords (heading level xs) = has_sound_words true xs ≡ true
  BlockWords (code_block language s) = (is_sound_if language ≡ true) × (is_sound s ≡ true)
  BlockWords (quote bs) = BlocksWords bs
  BlockWords thematic_break = ⊤
  BlockWords (list start tight items) = ItemsWords items
  BlockWords (table alignments header rows) = CellWords header × RowWords rows
  BlockWords (html_block s) = is_sound s ≡ true

  pub BlocksWords : Blocks → Type 0
  BlocksWords no_blocks = ⊤
  BlocksWords (block b bs) = BlockWords b × BlocksWords bs

  pub ItemsWords : Items → Type 0
  ItemsWords no_items = ⊤
  ItemsWords (item bs rest) = BlocksWords bs × ItemsWords rest

-- ---- leaves

read-words : (xs : Inlines) (d : document.Inlines) → document_inlines (seen_inlines xs) ≡ Some d
    → are_sound d ≡ true → has_sound_words true xs ≡ true
read-words xs d e h = seen-words xs (document-words (seen_inlines xs) d e h)

paragraph-sound : (in_item : Bool) (xs : document.Inlines) → is_normal_paragraph in_item xs ≡ true
    → are_sound xs ≡ true
paragraph-sound true xs e =
    let p = and_parts (not (normal.has_none xs) && is_normal_item xs) (are_anchors xs || anchors_stand_well xs) e in
    item-words xs (and_parts (not (normal.has_none xs)) (is_normal_item xs) p.0).1
paragraph-sound false xs e =
    let p = and_parts (not (normal.has_none xs) && is_normal_line xs) (are_anchors xs || anchors_stand_well xs) e in
    line-words xs (and_parts (not (normal.has_none xs)) (is_normal_line xs) p.0).1

heading-sound : (level : ℕ) (xs : document.Inlines) → is_normal_heading level xs ≡ true → are_sound xs ≡ true
heading-sound level xs e =
    let p = and_parts (is_level level && not (normal.has_none xs) && is_normal_line xs) (anchors_stand_well xs) e in
    line-words xs (and_parts (is_level level && not (normal.has_none xs)) (is_normal_line xs) p.0).1

language-sound : (language : Option (List ℕ)) → has_language language ≡ true → is_sound_if language ≡ true
language-sound None h = refl
language-sound (Some s) h =
    bytes-are is_language_byte s refl refl (and_parts (not (is_empty s)) (list_all is_language_byte s) h).1

-- ---- tables

lines_of_cells : (cells : List document.Inlines) → are_normal_cells cells ≡ true
    → list_all is_normal_line cells ≡ true
lines_of_cells cells e =
    (and_parts (list_all is_normal_line cells) (list_all anchors_stand_well cells) e).0

row-words : (r : List Inlines) (d : List document.Inlines) → document_row (seen_row r) ≡ Some d
    → list_all is_normal_line d ≡ true → CellWords r
row-words [] d e h = tt
row-words (c ∷ cs) d e h =
    let k = both-some (document_inlines (seen_inlines c)) (document_row (seen_row cs)) d e in
    let p = and_parts (is_normal_line k.0) (list_all is_normal_line k.1)
    (subst (λ y. list_all is_normal_line y ≡ true) (sym k.4) h) in
    (read-words c k.0 k.2 (line-words k.0 p.0), row-words cs k.1 k.3 p.1)

nothing : (c xs : Inlines) → seen_inlines c ≡ xs → has_none xs ≡ true → has_sound_words true c ≡ true
nothing c no_inlines s e = seen-words c (rw s refl)
nothing c (letter b xs) s e = absurd (cc)
nothing c (code t xs) s e = absurd (cc)
nothing c (formatted f content xs) s e = absurd (cc)
nothing c (link a t content xs) s e = absurd (cc)
nothing c (image a t content xs) s e = absurd (cc)
nothing c (line_break xs) s e = absurd (cc)
nothing c (task b xs) s e = absurd (cc)
nothing c (raw t xs) s e = absurd (cc)

filled-words : (cs : List Inlines) (d : List document.Inlines) → document_row (filled_front (seen_row cs)) ≡ Some d
    → list_all is_normal_line d ≡ true → CellWords cs
filled-words [] d e h = tt
filled-words (c ∷ cs) d e h =
    test (has_none (seen_inlines c) && has_no_cell (filled_front (seen_row cs)))
    (λ t.
    let p = and_parts (has_none (seen_inlines c)) (has_no_cell (filled_front (seen_row cs))) t in
    let n = no-cells (filled_front (seen_row cs)) p.1 in
    (nothing c (seen_inlines c) refl p.0, filled-words cs [] (ap document_row n) refl))
    (λ t.
    let w = rw t at e in
    let k = both-some (document_inlines (seen_inlines c)) (document_row (filled_front (seen_row cs))) d w in
    let p = and_parts (is_normal_line k.0) (list_all is_normal_line k.1)
    (subst (λ y. list_all is_normal_line y ≡ true) (sym k.4) h) in
    (read-words c k.0 k.2 (line-words k.0 p.0), filled-words cs k.1 k.3 p.1))

body_row-words : (r : List Inlines) (d : List document.Inlines)
    → document_row (without_empty_end (seen_row r)) ≡ Some d → list_all is_normal_line d ≡ true → CellWords r
body_row-words [] d e h = tt
body_row-words (c ∷ cs) d e h =
    let k = both-some (document_inlines (seen_inlines c)) (document_row (filled_front (seen_row cs))) d e in
    let p = and_parts (is_normal_line k.0) (list_all is_normal_line k.1)
    (subst (λ y. list_all is_normal_line y ≡ true) (sym k.4) h) in
    (read-words c k.0 k.2 (line-words k.0 p.0), filled-words cs k.1 k.3 p.1)

rows-words : (columns : ℕ) (rs : List (List Inlines)) (d : List (List document.Inlines))
    → document_rows (seen_rows rs) ≡ Some d → list_all (is_normal_row columns) d ≡ true → RowWords rs
rows-words columns [] d e h = tt
rows-words columns (r ∷ rs) d e h =
    let k = both-some (document_row (without_empty_end (seen_row r))) (document_rows (seen_rows rs)) d e in
    let p = and_parts (is_normal_row columns k.0) (list_all (is_normal_row columns) k.1)
    (subst (λ y. list_all (is_normal_row columns) y ≡ true) (sym k.4) h) in
    let q = and_parts (nat_le (length k.0) columns && ends_filled k.0) (are_normal_cells k.0) p.0 in
    (body_row-words r k.0 k.2 (lines_of_cells k.0 q.1), rows-words columns rs k.1 k.3 p.1)

-- ---- lines of tags

ended-sound : (ls : List (List ℕ)) → list_all is_tag_line ls ≡ true → is_sound (ended_lines ls) ≡ true
ended-sound [] h = refl
ended-sound (s ∷ rest) h =
    let p = and_parts (is_tag_line s) (list_all is_tag_line rest) h in
    all_append is_code_byte s (10 ∷ ended_lines rest)
    (bytes-are is_kept s refl refl (and_parts (list_all is_kept s) (list_any (begins_with_tag_of s) names) p.0).0)
    (ended-sound rest p.1)

front-sound : (s t : List ℕ) → is_sound (s ++ t) ≡ true → is_sound s ≡ true
front-sound [] t h = refl
front-sound (b ∷ s) t h =
    let p = and_parts (is_code_byte b) (is_sound (s ++ t)) h in
    and_from (is_code_byte b) (is_sound s) p.0 (front-sound s t p.1)

tags-sound : (s : List ℕ) → are_tag_lines s ≡ true → is_sound s ≡ true
tags-sound s h =
    front-sound s (codes "\n") (subst (λ x. is_sound x ≡ true) (split-ended s) (ended-sound (lines_of s) h))

-- ---- blocks

mutual
  block-words : (in_item : Bool) (b : Block) (d : document.Block) → document_block (seen_block b) ≡ Some d
      → is_flat_block in_item d ≡ true → BlockWords b
  block-words i (paragraph xs) d e h =
      let k = one-some document.paragraph (document_inlines (seen_inlines xs)) d e in
      read-words xs k.0 k.1 (paragraph-sound i k.0 (ap (is_flat_block i) k.2 ∙ h))
  block-words i (heading level xs) d e h =
      let k = one-some (document.heading level) (document_inlines (seen_inlines xs)) d e in
      read-words xs k.0 k.1 (heading-sound level k.0 (ap (is_flat_block i) k.2 ∙ h))
  block-words i (code_block language s) d e h =
      let x : document.code_block language s ≡ d = cc in
      let p = and_parts (has_language language) (list_all is_code_byte s) (ap (is_flat_block i) x ∙ h) in
      (language-sound language p.0, p.1)
  block-words i (quote bs) d e h =
      let k = one-some document.quote (document_blocks (seen_blocks bs)) d e in
      blocks-words false bs k.0 k.1
      (and_parts (is_filled k.0) (are_flat_blocks false k.0) (ap (is_flat_block i) k.2 ∙ h)).1
  block-words i thematic_break d e h = tt
  block-words i (list start tight items) d e h =
      let k = one-some (document.list start tight) (document_items (seen_items items)) d e in
      items-words items k.0 k.1
      (and_parts (is_normal_list start tight k.0) (are_flat_items k.0)
      (ap (is_flat_block i) k.2 ∙ h)).1
  block-words i (table alignments header rows) d e h =
      let k = two-some (document.table alignments) (document_row (seen_row header)) (document_rows (seen_rows rows))
      d e in
      let p = and_parts (has_cell k.0 && (length alignments == length k.0) && are_normal_cells k.0)
      (list_all (is_normal_row (length k.0)) k.1) (ap (is_flat_block i) k.4 ∙ h) in
      let q = and_parts (has_cell k.0 && (length alignments == length k.0)) (are_normal_cells k.0) p.0 in
      (row-words header k.0 k.2 (lines_of_cells k.0 q.1), rows-words (length k.0) rows k.1 k.3 p.1)
  block-words i (html_block s) d e h =
      let x : document.tags s ≡ d = cc in tags-sound s (ap (is_flat_block i) x ∙ h)

  pub blocks-words : (in_item : Bool) (bs : Blocks) (d : document.Blocks)
      → document_blocks (seen_blocks bs) ≡ Some d
      → are_flat_blocks in_item d ≡ true → BlocksWords bs
  blocks-words i no_blocks d e h = tt
  blocks-words i (block b bs) d e h =
      let k = two-some document.block (document_block (seen_block b)) (document_blocks (seen_blocks bs)) d e in
      let p = and_parts (is_flat_block i k.0) (are_flat_blocks false k.1) (ap (are_flat_blocks i) k.4 ∙ h) in
      (block-words i b k.0 k.2 p.0, blocks-words false bs k.1 k.3 p.1)

  items-words : (items : Items) (d : document.Items) → document_items (seen_items items) ≡ Some d
      → are_flat_items d ≡ true → ItemsWords items
  items-words no_items d e h = tt
  items-words (item bs rest) d e h =
      let k = two-some document.item (document_blocks (seen_blocks bs)) (document_items (seen_items rest)) d e in
      let p = and_parts (are_flat_blocks true k.0) (are_flat_items k.1) (ap are_flat_items k.4 ∙ h) in
      (blocks-words true bs k.0 k.2 p.0, items-words rest k.1 k.3 p.1)
