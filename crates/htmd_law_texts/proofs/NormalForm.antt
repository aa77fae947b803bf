-- What the normal form of a document says of its parts, and its blocks as their laws ask for them.
use Rattle.std.proofs.Common.{◌≡◌, ◌∙◌, refl, ap, sym, ℕ, suc, Bool, true, false, List, [], ◌∷◌, ◌++◌, Option, Some}
use Rattle.std.proofs.Common.{None, arith, ◌≤◌}
use Rattle.std.specs.Prelude.{◌==◌, ◌&&◌, ◌||◌, if◌then◌else◌, not, length, reverse, nat_le}
use Rattle.std.specs.List.{list_all}
use Rattle.std.proofs.lemmas.Bool.{and_parts, not-true}
use Rattle.std.proofs.lemmas.Bool.Decides.{nat_tests}
use Rattle.std.proofs.lemmas.List.{reverse-reverse}
use Rattle.htmd_lexical.specs.Characters.{grave_accent, tilde, ampersand, backslash}
use Rattle.htmd_lexical.specs.CharacterClasses.{is_empty, first_is, leading_run, behind_run}
use Rattle.htmd_document.specs.declared.document.Alignment.{Alignment}
use Rattle.htmd_document.specs.Documents.{Inlines, Block, Blocks, Items, paragraph, heading, code_block, quote}
use Rattle.htmd_document.specs.Documents.{thematic_break, list, table, element, tags, no_blocks, block, no_items, item}
use Rattle.htmd_document.specs.TightItems.{is_filled}
use Rattle.htmd_document.specs.NormalInlines.{has_none, is_normal_line, is_normal_item, are_anchors}
use Rattle.htmd_document.specs.NormalInlines.{anchors_stand_well}
use Rattle.htmd_document.specs.NormalDocuments as form
use Rattle.htmd_document.specs.NormalDocuments.{is_normal_paragraph, is_level, is_normal_heading, is_language_byte}
use Rattle.htmd_document.specs.NormalDocuments.{is_language, has_language, is_code_byte, is_normal_list}
use Rattle.htmd_document.specs.NormalDocuments.{has_filled_item, has_right_distance, are_tight, is_normal_row}
use Rattle.htmd_document.specs.NormalDocuments.{ends_filled}
use Rattle.htmd_document.specs.NormalDocuments.{are_normal_cells}
use Rattle.htmd_document.specs.NormalDocuments.{is_normal_table, has_cell, is_flat_block, are_flat_blocks}
use Rattle.htmd_document.specs.NormalDocuments.{are_flat_items, IsFlat}
use Rattle.htmd_commonmark.specs.BlockMarkdown.{item_count}
use Rattle.htmd_commonmark_reading.specs.Boxes.{is_end_of_word, nonempty}
use Rattle.htmd_commonmark_reading.specs.Characters.{is_space_or_tab, escaped, unescaped, resolved, itself, Piece}
use Rattle.htmd_law_blocks.specs.LineTexts.{is_line_character}
use Rattle.htmd_law_blocks.specs.NormalBlocks.{IsLanguage, HasLanguage, HasBlock, HasItem, HasCell, FitColumns}
use Rattle.htmd_law_blocks.specs.NormalBlocks.{are_short_numbers, is_spread, IsNormalBlock, AreNormalBlocks}
use Rattle.htmd_law_blocks.specs.NormalBlocks.{AreNormalItems}
use Rattle.htmd_law_inlines.proofs.NumberPieces.{all_reverse}
use Rattle.htmd_law_texts.proofs.PieceTexts.{is_allowed, all_by}
use Rattle.htmd_law_texts.proofs.WrittenLines.{clean_line}
use Rattle.htmd_law_texts.proofs.TagLines.{tags_are}

-- ---- parts

pub paragraph_parts : (b : Bool) (xs : Inlines) → is_normal_paragraph b xs ≡ true
    → (if b then is_normal_item xs else is_normal_line xs) ≡ true
paragraph_parts b xs h =
    let line = if b then is_normal_item xs else is_normal_line xs in
    let p = and_parts (not (has_none xs) && line) (are_anchors xs || anchors_stand_well xs) h in
    (and_parts (not (has_none xs)) line p.0).1

pub heading_parts : (level : ℕ) (xs : Inlines) → is_normal_heading level xs ≡ true
    → (is_level level ≡ true) × (has_none xs ≡ false) × (is_normal_line xs ≡ true)
heading_parts level xs h =
    let x = is_level level && not (has_none xs) in
    let w = and_parts (x && is_normal_line xs) (anchors_stand_well xs) h in
    let p = and_parts x (is_normal_line xs) w.0 in
    let q = and_parts (is_level level) (not (has_none xs)) p.0 in
    (q.0, not-true (has_none xs) q.1, p.1)

pub quote_parts : (b : Bool) (content : Blocks) → is_flat_block b (quote content) ≡ true
    → (is_filled content ≡ true) × (are_flat_blocks false content ≡ true)
quote_parts b content h = and_parts (is_filled content) (are_flat_blocks false content) h

pub list_parts : (b : Bool) (start : Option ℕ) (is_tight : Bool) (items : Items)
    → is_flat_block b (list start is_tight items) ≡ true
    → (is_normal_list start is_tight items ≡ true) × (are_flat_items items ≡ true)
list_parts b start is_tight items h = and_parts (is_normal_list start is_tight items) (are_flat_items items) h

cells_lines : (cells : List Inlines) → are_normal_cells cells ≡ true → list_all is_normal_line cells ≡ true
cells_lines cells h = (and_parts (list_all is_normal_line cells) (list_all anchors_stand_well cells) h).0

row_lines : (n : ℕ) (cells : List Inlines) → is_normal_row n cells ≡ true → list_all is_normal_line cells
    ≡ true
row_lines n cells h =
    cells_lines cells (and_parts (nat_le (length cells) n && ends_filled cells) (are_normal_cells cells) h).1

rows_lines : (n : ℕ) (rows : List (List Inlines)) → list_all (is_normal_row n) rows ≡ true
    → list_all (list_all is_normal_line) rows ≡ true
rows_lines n [] h = refl
rows_lines n (cells ∷ rows) h =
    let p = and_parts (is_normal_row n cells) (list_all (is_normal_row n) rows) h in
    rw (row_lines n cells p.0) (rows_lines n rows p.1)

record IsTable (alignments : List Alignment) (header : List Inlines) (rows : List (List Inlines)) : Type 0 where
  some : has_cell header ≡ true
  aligned : (length alignments == length header) ≡ true
  header_row : are_normal_cells header ≡ true
  other_rows : list_all (is_normal_row (length header)) rows ≡ true

is_table : (alignments : List Alignment) (header : List Inlines) (rows : List (List Inlines))
    → is_normal_table alignments header rows ≡ true → IsTable alignments header rows
is_table alignments header rows h =
    let x0 = has_cell header in
    let x1 = length alignments == length header in
    let x2 = are_normal_cells header in
    let x3 = list_all (is_normal_row (length header)) rows in
    let p = and_parts (x0 && x1 && x2) x3 h in
    let q = and_parts (x0 && x1) x2 p.0 in
    let r = and_parts x0 x1 q.0 in
    record { some = r.0; aligned = r.1; header_row = q.1; other_rows = p.1 }

pub table_parts : (alignments : List Alignment) (header : List Inlines) (rows : List (List Inlines))
    → is_normal_table alignments header rows ≡ true
    → (list_all is_normal_line header ≡ true) × (list_all (list_all is_normal_line) rows ≡ true)
table_parts alignments header rows h =
    let t = is_table alignments header rows h in
    (cells_lines header t.header_row, rows_lines (length header) rows t.other_rows)

pub table_rows_are : (alignments : List Alignment) (header : List Inlines) (rows : List (List Inlines))
    → is_normal_table alignments header rows ≡ true → list_all (is_normal_row (length header)) rows ≡ true
table_rows_are alignments header rows h = (is_table alignments header rows h).other_rows

small_number : (m n : ℕ) → nat_le m n ≡ true → m ≤ n
small_number m n e = grind (arith, nat_tests)

pub row_parts : (n : ℕ) (cells : List Inlines) → is_normal_row n cells ≡ true
    → (length cells ≤ n) × (ends_filled cells ≡ true)
row_parts n cells h =
    let q = and_parts (nat_le (length cells) n && ends_filled cells) (are_normal_cells cells) h in
    let l = and_parts (nat_le (length cells) n) (ends_filled cells) q.0 in
    (small_number (length cells) n l.0, l.1)

-- ---- languages

no_run : (p : ℕ → Bool) (s : List ℕ) → list_all (λ b. not (p b)) s ≡ true → behind_run p s ≡ s
no_run p [] h = refl
no_run p (b ∷ s) h =
    let q = and_parts (not (p b)) (list_all (λ c. not (p c)) s) h in
    rw (not-true (p b) q.0) refl

all_run : (p : ℕ → Bool) (s : List ℕ) → list_all p s ≡ true → leading_run p s ≡ s
all_run p [] h = refl
all_run p (b ∷ s) h =
    let q = and_parts (p b) (list_all p s) h in
    rw q.0 (ap (λ t. b ∷ t) (all_run p s q.1))

not_escaped : (b : ℕ) (s : List ℕ) → is_language_byte b ≡ true → escaped b s ≡ itself b
not_escaped b s h = rw (no_backslash b h, no_ampersand b h) refl
  where
    no_backslash : (b : ℕ) → is_language_byte b ≡ true → (b == backslash) ≡ false
    no_backslash b h = grind (arith, nat_tests)

    no_ampersand : (b : ℕ) → is_language_byte b ≡ true → (b == ampersand) ≡ false
    no_ampersand b h = grind (arith, nat_tests)

language_unescaped : (s : List ℕ) → list_all is_language_byte s ≡ true → unescaped s ≡ s
language_unescaped [] h = refl
language_unescaped (b ∷ s) h =
    let q = and_parts (is_language_byte b) (list_all is_language_byte s) h in
    ap (λ (p : Piece). p.meaning ++ resolved escaped p.following s) (not_escaped b s q.0)
    ∙ ap (λ t. b ∷ t) (language_unescaped s q.1)

no_tilde_first : (s : List ℕ) → list_all is_language_byte s ≡ true → first_is tilde s ≡ false
no_tilde_first [] h = refl
no_tilde_first (b ∷ s) h = no_tilde b (and_parts (is_language_byte b) (list_all is_language_byte s) h).0
  where
    no_tilde : (b : ℕ) → is_language_byte b ≡ true → (b == tilde) ≡ false
    no_tilde b h = grind (arith, nat_tests)

language_read : (s : List ℕ) → is_language s ≡ true → IsLanguage s
language_read s h =
    let q = and_parts (not (is_empty s)) (list_all is_language_byte s) h in
    let black = all_by is_language_byte (λ b. not (is_space_or_tab b)) black_byte s q.1 in
    record {
      plain = all_by is_language_byte is_line_character plain_byte s q.1;
      one_line = clean_line s (all_by is_language_byte (is_allowed false) line_byte s q.1);
      bare = ap (λ t. reverse (behind_run is_space_or_tab (reverse t))) (no_run is_space_or_tab s black)
          ∙ ap reverse (no_run is_space_or_tab (reverse s) (all_reverse (λ b. not (is_space_or_tab b)) s black))
          ∙ reverse-reverse s;
      word = ap (λ t. nonempty (leading_run (λ c. not (is_end_of_word c)) t)) (language_unescaped s q.1)
          ∙ ap nonempty (all_run (λ c. not (is_end_of_word c)) s
          (all_by is_language_byte (λ c. not (is_end_of_word c)) word_byte s q.1)) ∙ filled s q.0;
      no_accent = all_by is_language_byte (λ c. not (c == grave_accent)) accent_byte s q.1;
      no_tilde = no_tilde_first s q.1;
    }
  where
    black_byte : (b : ℕ) → is_language_byte b ≡ true → not (is_space_or_tab b) ≡ true
    black_byte b h = grind (arith, nat_tests)

    plain_byte : (b : ℕ) → is_language_byte b ≡ true → is_line_character b ≡ true
    plain_byte b h = grind (arith, nat_tests)

    line_byte : (b : ℕ) → is_language_byte b ≡ true → is_allowed false b ≡ true
    line_byte b h = grind (arith, nat_tests)

    word_byte : (b : ℕ) → is_language_byte b ≡ true → not (is_end_of_word b) ≡ true
    word_byte b h = grind (arith, nat_tests)

    accent_byte : (b : ℕ) → is_language_byte b ≡ true → not (b == grave_accent) ≡ true
    accent_byte b h = grind (arith, nat_tests)

    filled : (s : List ℕ) → not (is_empty s) ≡ true → nonempty s ≡ Some s
    filled [] e = absurd (cc)
    filled (b ∷ s) e = refl

language_is : (language : Option (List ℕ)) → has_language language ≡ true → HasLanguage language
language_is None h = tt
language_is (Some s) h = language_read s h

-- ---- blocks

has_block : (bs : Blocks) → is_filled bs ≡ true → HasBlock bs
has_block no_blocks e = absurd (cc)
has_block (block first rest) e = tt

has_item : (items : Items) → has_filled_item items ≡ true → HasItem items
has_item no_items e = absurd (cc)
has_item (item first rest) e = tt

has_one_cell : (cells : List Inlines) → has_cell cells ≡ true → HasCell cells
has_one_cell [] e = absurd (cc)
has_one_cell (xs ∷ cells) e = tt

same_number : (m n : ℕ) → (m == n) ≡ true → m ≡ n
same_number m n e = grind (arith, nat_tests)

filled_cell : (cells : List Inlines) → ends_filled cells ≡ true → HasCell cells
filled_cell [] h = absurd (cc)
filled_cell (xs ∷ cells) h = tt

fit_columns : (n : ℕ) (rows : List (List Inlines)) → list_all (is_normal_row n) rows ≡ true → FitColumns n rows
fit_columns n [] h = tt
fit_columns n (cells ∷ rows) h =
    let p = and_parts (is_normal_row n cells) (list_all (is_normal_row n) rows) h in
    let q = row_parts n cells p.0 in
    (q.0, filled_cell cells q.1, fit_columns n rows p.1)

same_spread : (items : Items) → form.is_spread items ≡ is_spread items
same_spread no_items = refl
same_spread (item first no_items) = refl
same_spread (item first (item second rest)) = refl

same_count : (items : Items) → form.item_count items ≡ item_count items
same_count no_items = refl
same_count (item first rest) = ap suc (same_count rest)

same_numbers : (start : Option ℕ) (count : ℕ) → form.are_short_numbers start count
    ≡ are_short_numbers start count
same_numbers None count = refl
same_numbers (Some start) count = refl

seen_spread : (is_tight : Bool) (items : Items) → has_right_distance is_tight items ≡ true
    → (is_tight || is_spread items) ≡ true
seen_spread true items h = refl
seen_spread false items h = sym (same_spread items) ∙ h

-- what the items of a list may be, tight or not
abbrev Distance : Bool → Items → Type 0
Distance false items = Unit {0}
Distance true items = are_tight items ≡ true

distance : (is_tight : Bool) (items : Items) → has_right_distance is_tight items ≡ true → Distance is_tight items
distance true items h = h
distance false items h = tt

mutual
  block_is : (b : Bool) (x : Block) → is_flat_block b x ≡ true → IsNormalBlock x
  block_is b (paragraph content) h = tt
  block_is b (heading level content) h = (heading_parts level content h).0
  block_is b (code_block language s) h =
      let p = and_parts (has_language language) (list_all is_code_byte s) h in
      (language_is language p.0, p.1)
  block_is b (quote content) h =
      let p = quote_parts b content h in
      (has_block content p.0, blocks_are false content p.1)
  block_is b thematic_break h = tt
  block_is b (element name attributes content) h = absurd (cc)
  block_is b (tags s) h = tags_are s h
  block_is b (list start is_tight items) h =
      let p = list_parts b start is_tight items h in
      let numbers = form.are_short_numbers start (form.item_count items) in
      let q = and_parts (has_filled_item items && numbers) (has_right_distance is_tight items) p.0 in
      let r = and_parts (has_filled_item items) numbers q.0 in (
        has_item items r.0,
        sym (same_numbers start (item_count items)) ∙ ap (form.are_short_numbers start) (sym (same_count items))
            ∙ r.1,
        items_are is_tight items (distance is_tight items q.1) p.1,
        seen_spread is_tight items q.1,
      )
  block_is b (table alignments header rows) h =
      let t = is_table alignments header rows h in (
        has_one_cell header t.some,
        same_number (length alignments) (length header) t.aligned,
        fit_columns (length header) rows t.other_rows,
      )

  blocks_are : (b : Bool) (bs : Blocks) → are_flat_blocks b bs ≡ true → AreNormalBlocks bs
  blocks_are b no_blocks h = tt
  blocks_are b (block first rest) h =
      let p = and_parts (is_flat_block b first) (are_flat_blocks false rest) h in
      (block_is b first p.0, blocks_are false rest p.1)

  items_are : (is_tight : Bool) (items : Items) → Distance is_tight items → are_flat_items items ≡ true
      → AreNormalItems is_tight items
  items_are is_tight no_items d h = tt
  items_are false (item first rest) d h =
      let p = and_parts (are_flat_blocks true first) (are_flat_items rest) h in
      (refl, blocks_are true first p.0, items_are false rest tt p.1)
  items_are true (item first rest) d h =
      let p = and_parts (are_flat_blocks true first) (are_flat_items rest) h in
      let q = and_parts (form.may_be_tight first) (are_tight rest) d in
      (q.0, blocks_are true first p.0, items_are true rest q.1 p.1)

-- the blocks of a flat document are normal, as their laws ask for it
pub blocks_are_normal : (d : Blocks) → IsFlat d → AreNormalBlocks d
blocks_are_normal d h = blocks_are false d h
