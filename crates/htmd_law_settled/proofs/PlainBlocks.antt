-- What is normal has no tags, and tasks where paragraphs begin alone, with other addresses as well.
use Rattle.std.proofs.Common.{◌≡◌, Bool, true, false, not, ◌&&◌, List, [], ◌∷◌, refl, ap, ◌∙◌}
use Rattle.std.specs.Prelude.{ℕ, ◌||◌, nat_le, if◌then◌else◌, length, map}
use Rattle.std.specs.List.{list_all}
use Rattle.std.proofs.lemmas.Bool.{and_from, and_parts, false≢true}
use Rattle.htmd_document.specs.DocumentLimits.{most_nested}
use Rattle.htmd_document.specs.Documents.{Inline, text, code, formatted, link, image, anchor, line_break, task}
use Rattle.htmd_document.specs.Documents.{Inlines, no_inlines, inline, Block, paragraph, heading, code_block, quote}
use Rattle.htmd_document.specs.Documents.{thematic_break, list, table, element, tags, Blocks, no_blocks, block}
use Rattle.htmd_document.specs.Documents.{Items, no_items, item}
use Rattle.htmd_document.specs.Formats.{Format}
use Rattle.htmd_document.specs.FlatDocuments.{flat_items}
use Rattle.htmd_document.specs.NormalDocuments.{is_level, are_normal_cells, is_normal_row, is_normal_list}
use Rattle.htmd_document.specs.NormalDocuments.{is_normal_element}
use Rattle.htmd_document.specs.NormalDocuments.{is_normal_block, are_normal_blocks, are_normal_items, IsNormal}
use Rattle.htmd_document.specs.NormalDocuments.{depth_among}
use Rattle.htmd_document.specs.NormalInlines.{is_normal, are_normal, is_normal_line, is_normal_item, are_whole}
use Rattle.htmd_document.specs.NormalInlines.{has_none, are_anchors, anchors_stand_well, meets}
use Rattle.htmd_document.specs.TightItems.{is_filled}
use Rattle.htmd_law_returning.specs.EncodedDocuments.{changed_inline, changed_inlines, changed_cells, changed_block}
use Rattle.htmd_law_returning.specs.EncodedDocuments.{changed, changed_items}
use Rattle.htmd_law_returning.specs.SettledDocuments.{behind_box}

abbrev mutual
  pub is_plain_inline : Inline → Bool
  is_plain_inline (text s) = true
  is_plain_inline (code s) = true
  is_plain_inline (formatted f content) = are_plain_inlines content
  is_plain_inline (link address title content) = are_plain_inlines content
  is_plain_inline (image address title description) = true
  is_plain_inline (anchor id) = true
  is_plain_inline line_break = true
  is_plain_inline x = false

  pub are_plain_inlines : Inlines → Bool
  are_plain_inlines no_inlines = true
  are_plain_inlines (inline x rest) = is_plain_inline x && are_plain_inlines rest

abbrev mutual
  pub is_plain_block : Block → Bool
  is_plain_block (paragraph content) = are_plain_inlines (behind_box content)
  is_plain_block (heading level content) = are_plain_inlines content
  is_plain_block (code_block language s) = true
  is_plain_block (quote content) = are_plain_blocks content
  is_plain_block thematic_break = true
  is_plain_block (list start is_tight items) = are_plain_items items
  is_plain_block (table alignments header rows) =
      list_all are_plain_inlines header && list_all (list_all are_plain_inlines) rows
  is_plain_block (element name attributes content) = are_plain_blocks content
  is_plain_block b = false

  pub are_plain_blocks : Blocks → Bool
  are_plain_blocks no_blocks = true
  are_plain_blocks (block b bs) = is_plain_block b && are_plain_blocks bs

  pub are_plain_items : Items → Bool
  are_plain_items no_items = true
  are_plain_items (item bs rest) = are_plain_blocks bs && are_plain_items rest

-- a plain line has no box
pub no-box : (xs : Inlines) → are_plain_inlines xs ≡ true → behind_box xs ≡ xs
no-box no_inlines p = refl
no-box (inline (task d) xs) p = absurd (false≢true p)
no-box (inline x xs) p = refl

behind-plain : (xs : Inlines) → are_plain_inlines xs ≡ true → are_plain_inlines (behind_box xs) ≡ true
behind-plain xs p = ap are_plain_inlines (no-box xs p) ∙ p

module _ (change : List ℕ → List ℕ) where
  mutual
    inline-plain : (in_link : Bool) (around : List Format) (x : Inline) → is_normal in_link around x ≡ true
        → is_plain_inline (changed_inline change x) ≡ true
    inline-plain in_link around (text s) n = refl
    inline-plain in_link around (code s) n = refl
    inline-plain in_link around (formatted f content) n =
        line-plain in_link (f ∷ around) content (and_parts _ (are_normal in_link (f ∷ around) content) n).1
    inline-plain in_link around (link address title content) n =
        line-plain true around content (and_parts _ (are_normal true around content) n).1
    inline-plain in_link around (image address title description) n = refl
    inline-plain in_link around (anchor id) n = refl
    inline-plain in_link around line_break n = refl
    inline-plain in_link around (task is_checked) n = absurd (false≢true n)

    line-plain : (in_link : Bool) (around : List Format) (xs : Inlines) → are_normal in_link around xs ≡ true
        → are_plain_inlines (changed_inlines change xs) ≡ true
    line-plain in_link around no_inlines n = refl
    line-plain in_link around (inline x xs) n =
        let m = and_parts (is_normal in_link around x && meets x xs) (are_normal in_link around xs) n in
        and_from (is_plain_inline (changed_inline change x)) (are_plain_inlines (changed_inlines change xs))
        (inline-plain in_link around x (and_parts (is_normal in_link around x) (meets x xs) m.0).0)
        (line-plain in_link around xs m.1)

  whole-plain : (xs : Inlines) → is_normal_line xs ≡ true
      → are_plain_inlines (changed_inlines change xs) ≡ true
  whole-plain xs n = line-plain false [] xs (and_parts (are_whole xs) (are_normal false [] xs) n).1

  behind-whole : (xs : Inlines) → is_normal_line xs ≡ true
      → are_plain_inlines (behind_box (changed_inlines change xs)) ≡ true
  behind-whole xs n = behind-plain (changed_inlines change xs) (whole-plain xs n)

  -- behind a box
  task-plain : (d : Bool) (xs : Inlines) → is_normal_item (inline (task d) xs) ≡ true
      → are_plain_inlines (changed_inlines change xs) ≡ true
      → are_plain_inlines (behind_box (changed_inlines change (inline (task d) xs))) ≡ true
  task-plain d (inline (text (c ∷ [])) xs) n p = p
  task-plain d (inline (text (c ∷ b ∷ s)) xs) n p = p
  task-plain d no_inlines n p = absurd (false≢true n)
  task-plain d (inline x xs) n p = absurd (false≢true n)

  item-plain : (xs : Inlines) → is_normal_item xs ≡ true
      → are_plain_inlines (behind_box (changed_inlines change xs)) ≡ true
  item-plain no_inlines n = refl
  item-plain (inline (task d) xs) n =
      task-plain d xs n (line-plain false [] xs (and_parts _ (are_normal false [] xs) n).1)
  item-plain (inline x xs) n = behind-whole (inline x xs) n

  paragraph-plain : (in_item : Bool) (xs : Inlines)
      → (if in_item then is_normal_item xs else is_normal_line xs) ≡ true
      → are_plain_inlines (behind_box (changed_inlines change xs)) ≡ true
  paragraph-plain true xs n = item-plain xs n
  paragraph-plain false xs n = behind-whole xs n

  cells-plain : (cells : List Inlines) → list_all is_normal_line cells ≡ true
      → list_all are_plain_inlines (changed_cells change cells) ≡ true
  cells-plain [] n = refl
  cells-plain (x ∷ xs) n =
      let m = and_parts (is_normal_line x) (list_all is_normal_line xs) n in
      and_from (are_plain_inlines (changed_inlines change x)) (list_all are_plain_inlines (changed_cells change xs))
      (whole-plain x m.0) (cells-plain xs m.1)

  normal-cells : (cells : List Inlines) → are_normal_cells cells ≡ true
      → list_all are_plain_inlines (changed_cells change cells) ≡ true
  normal-cells cells n =
      cells-plain cells (and_parts (list_all is_normal_line cells) (list_all anchors_stand_well cells) n).0

  rows-plain : (columns : ℕ) (rows : List (List Inlines)) → list_all (is_normal_row columns) rows ≡ true
      → list_all (list_all are_plain_inlines) (map (changed_cells change) rows) ≡ true
  rows-plain columns [] n = refl
  rows-plain columns (r ∷ rs) n =
      let m = and_parts (is_normal_row columns r) (list_all (is_normal_row columns) rs) n in
      and_from (list_all are_plain_inlines (changed_cells change r))
      (list_all (list_all are_plain_inlines) (map (changed_cells change) rs))
      (normal-cells r (and_parts _ (are_normal_cells r) m.0).1) (rows-plain columns rs m.1)

  mutual
    block-plain : (in_item : Bool) (b : Block) → is_normal_block in_item b ≡ true
        → is_plain_block (changed_block change b) ≡ true
    block-plain in_item (paragraph xs) n =
        let line = if in_item then is_normal_item xs else is_normal_line xs in
        let m = and_parts (not (has_none xs) && line) (are_anchors xs || anchors_stand_well xs) n in
        paragraph-plain in_item xs (and_parts (not (has_none xs)) line m.0).1
    block-plain in_item (heading level xs) n =
        let front = is_level level && not (has_none xs) in
        let m = and_parts (front && is_normal_line xs) (anchors_stand_well xs) n in
        whole-plain xs (and_parts front (is_normal_line xs) m.0).1
    block-plain in_item (code_block language s) n = refl
    block-plain in_item (quote bs) n =
        blocks-plain false bs (and_parts (is_filled bs) (are_normal_blocks false bs) n).1
    block-plain in_item thematic_break n = refl
    block-plain in_item (list start is_tight items) n =
        items-plain items
        (and_parts (is_normal_list start is_tight (flat_items items)) (are_normal_items items) n).1
    block-plain in_item (table alignments header rows) n =
        let columns = length header in
        let m = and_parts _ (list_all (is_normal_row columns) rows) n in
        and_from (list_all are_plain_inlines (changed_cells change header))
        (list_all (list_all are_plain_inlines) (map (changed_cells change) rows))
        (normal-cells header (and_parts _ (are_normal_cells header) m.0).1) (rows-plain columns rows m.1)
    block-plain in_item (element name attributes bs) n =
        blocks-plain false bs (and_parts (is_normal_element name attributes bs) (are_normal_blocks false bs) n).1
    block-plain in_item (tags s) n = absurd (false≢true n)

    blocks-plain : (in_item : Bool) (bs : Blocks) → are_normal_blocks in_item bs ≡ true
        → are_plain_blocks (changed change bs) ≡ true
    blocks-plain in_item no_blocks n = refl
    blocks-plain in_item (block b bs) n =
        let m = and_parts (is_normal_block in_item b) (are_normal_blocks false bs) n in
        and_from (is_plain_block (changed_block change b)) (are_plain_blocks (changed change bs))
        (block-plain in_item b m.0) (blocks-plain false bs m.1)

    items-plain : (items : Items) → are_normal_items items ≡ true
        → are_plain_items (changed_items change items) ≡ true
    items-plain no_items n = refl
    items-plain (item bs items) n =
        let m = and_parts (are_normal_blocks true bs) (are_normal_items items) n in
        and_from (are_plain_blocks (changed change bs)) (are_plain_items (changed_items change items))
        (blocks-plain true bs m.0) (items-plain items m.1)

  pub all-plain : (d : Blocks) → IsNormal d
      → are_plain_blocks (changed change d) ≡ true
  all-plain d n =
      blocks-plain false d (and_parts (are_normal_blocks false d) (nat_le (depth_among d) most_nested) n).0
