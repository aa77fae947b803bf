-- Normal documents that are settled with their addresses encoded are normal with these.
use Rattle.std.proofs.Common.{◌≡◌, ℕ, Bool, true, false, not, ◌&&◌, ◌||◌, cond, List, [], ◌∷◌}
use Rattle.std.proofs.Common.{refl, sym, ap, ◌∙◌}
use Rattle.std.proofs.Common.{Option, arith, length, map, ◌==◌}
use Rattle.std.specs.Prelude.{nat_le}
use Rattle.std.specs.List.{list_all}
use Rattle.std.specs.Str.{is_utf8}
use Rattle.std.proofs.lemmas.Bool.{and_parts, and_from}
use Rattle.std.proofs.lemmas.Bool.Decides.{nat_tests}
use Rattle.std.proofs.lemmas.Str.{IsUtf8-from_ascii, is_utf8-from_IsUtf8}
use Rattle.htmd_lexical.proofs.Cases.{test}
use Rattle.htmd_document.specs.DocumentLimits.{most_nested}
use Rattle.htmd_document.specs.Documents.{Inline, text, code, formatted, link, image, anchor, line_break, task}
use Rattle.htmd_document.specs.Documents.{Inlines, no_inlines, inline, Block, paragraph, heading, code_block, quote}
use Rattle.htmd_document.specs.Documents.{thematic_break, list, table, element, tags, Blocks, no_blocks, block}
use Rattle.htmd_document.specs.Documents.{Items, no_items, item}
use Rattle.htmd_document.specs.FlatDocuments.{flat_items}
use Rattle.htmd_document.specs.Formats.{Format}
use Rattle.htmd_document.specs.NormalInlines.{is_attribute, is_kept, is_title, is_line, has_none, has_title, is_barred}
use Rattle.htmd_document.specs.NormalInlines.{are_whole, meets, is_normal, are_normal, is_normal_line, is_normal_item}
use Rattle.htmd_document.specs.NormalInlines.{are_anchors, anchors_stand_well}
use Rattle.htmd_document.specs.NormalDocuments.{IsNormal, is_level, is_normal_list, is_normal_block, are_normal_blocks}
use Rattle.htmd_document.specs.declared.document.Alignment.{Alignment}
use Rattle.htmd_document.specs.NormalDocuments.{are_normal_items, depth_among, is_normal_element, may_be_empty}
use Rattle.htmd_document.specs.NormalDocuments.{has_cell, ends_filled, are_normal_cells, is_normal_row, is_normal_table}
use Rattle.htmd_document.specs.TightItems.{is_filled}
use Rattle.htmd_commonmark_reading.specs.Rendering.{stays_in_address}
use Rattle.htmd_law_rendering.specs.RenderedTrees.{encoded_address}
use Rattle.htmd_law_returning.proofs.FlatLemmas.{items-changed}
use Rattle.htmd_law_returning.specs.EncodedDocuments.{changed_inline, changed_inlines, changed_block, changed}
use Rattle.htmd_law_returning.specs.EncodedDocuments.{changed_items, changed_cells, encoded}
use Rattle.htmd_law_returning.specs.SettledDocuments.{is_settled_address, is_settled_title, is_settled_link}
use Rattle.htmd_law_returning.specs.SettledDocuments.{is_settled_line, are_away, is_one_line, is_settled_inline}
use Rattle.htmd_law_returning.specs.SettledDocuments.{are_settled_inlines}
use Rattle.htmd_law_returning.specs.SettledDocuments.{is_white_at_break, is_right_list}
use Rattle.htmd_law_returning.specs.SettledDocuments.{is_settled_table, shows_last_column}
use Rattle.htmd_law_returning.specs.SettledDocuments.{are_settled_blocks, are_settled_items}
use Rattle.htmd_law_returning.specs.SettledDocuments.{are_settled, numbers_fit, is_light}
use Rattle.htmd_law_returning.specs.WholeLines.{is_whole}
use Rattle.htmd_law_returning.proofs.ElementForms.{is_settled_alone, are_settled_alone, settled-alone, is_bounded}
use Rattle.htmd_law_returning.proofs.StartLemmas.{false-true}
use Rattle.htmd_law_returning.proofs.AddressLemmas.{ascii-bytes, encoded-stays}
use Rattle.htmd_law_returning.proofs.ChangedLemmas.{none-same, whole-same, meets-same, anchors-same, stand-same}
use Rattle.htmd_law_returning.proofs.ChangedLemmas.{count-same, filled-items, distance-same, depth-same}
use Rattle.htmd_law_returning.proofs.ChangedLemmas.{filled-same, ends-same-as, cells-length, cell-same, filled-ends}
use Rattle.htmd_law_returning.specs.SettledDocuments.{is_settled_paragraph}
use Rattle.htmd_document.specs.NormalInlines.{first_passes, last_passes, begins_with_space, ends_with_space, is_break}

-- ---- addresses

-- encoded, where that has bytes alone that stay
abbrev pub kept_address : List ℕ → List ℕ
kept_address a = cond (is_settled_address (encoded_address a)) (encoded_address a) a

-- it is encoded alike
pub kept-same : (a : List ℕ) → encoded_address (kept_address a) ≡ encoded_address a
kept-same a =
    test (is_settled_address (encoded_address a))
    (λ e. ap (λ b. encoded_address (cond b (encoded_address a) a)) e ∙ encoded-stays (encoded_address a) e)
    (λ e. ap (λ b. encoded_address (cond b (encoded_address a) a)) e)

kept-is : (a : List ℕ) → is_settled_address (encoded_address a) ≡ true → kept_address a ≡ encoded_address a
kept-is a e = ap (λ b. cond b (encoded_address a) a) e

kept-bytes : (s : List ℕ) → list_all stays_in_address s ≡ true → list_all is_kept s ≡ true
kept-bytes [] h = refl
kept-bytes (b ∷ s) h =
    let p = and_parts (stays_in_address b) (list_all stays_in_address s) h in
    and_from (is_kept b) (list_all is_kept s) (one b p.0) (kept-bytes s p.1)
  where
    one : (b : ℕ) → stays_in_address b ≡ true → is_kept b ≡ true
    one b e = grind (arith, nat_tests, e)

attribute-settled : (s : List ℕ) → is_settled_address s ≡ true → is_attribute s ≡ true
attribute-settled s h =
    and_from (is_utf8 s) (list_all is_kept s) (is_utf8-from_IsUtf8 s (IsUtf8-from_ascii s (ascii-bytes s h)))
    (kept-bytes s h)

-- ---- lines

abbrev line : Inlines → Inlines
line xs = changed_inlines encoded_address xs

link-settled : (a : List ℕ) (t : Option (List ℕ)) → is_settled_link a t ≡ true → is_settled_address a ≡ true
link-settled a t h = (and_parts (is_settled_address a) (is_settled_title t) h).0

image-settled : (a : List ℕ) (t : Option (List ℕ)) (d : List ℕ) → is_settled_inline (image a t d) ≡ true
    → is_settled_address a ≡ true
image-settled a t d h =
    let p = and_parts (is_settled_address a && is_settled_title t) (is_one_line d) h in
    (and_parts (is_settled_address a) (is_settled_title t) p.0).0

-- the first of settled inlines, and the others
parts-settled : (x : Inline) (xs : Inlines) → are_settled_inlines (inline x xs) ≡ true
    → (is_settled_inline x ≡ true) × (are_settled_inlines xs ≡ true)
parts-settled x xs h =
    let p = and_parts (is_settled_inline x && not (is_white_at_break x xs)) (are_settled_inlines xs) h in
    ((and_parts (is_settled_inline x) (not (is_white_at_break x xs)) p.0).0, p.1)

mutual
  inline-kept : (x : Inline) → is_settled_inline (changed_inline encoded_address x) ≡ true
      → changed_inline kept_address x ≡ changed_inline encoded_address x
  inline-kept (text s) h = refl
  inline-kept (code s) h = refl
  inline-kept (formatted f c) h = ap (formatted f) (line-kept c h)
  inline-kept (link a t c) h =
      let p = and_parts (is_settled_link (encoded_address a) t) (are_settled_inlines (line c)) h in
      let e = kept-is a (link-settled (encoded_address a) t p.0) in
      ap (λ s. link s t (changed_inlines kept_address c)) e ∙ ap (link (encoded_address a) t) (line-kept c p.1)
  inline-kept (image a t d) h = ap (λ s. image s t d) (kept-is a (image-settled (encoded_address a) t d h))
  inline-kept (anchor id) h = refl
  inline-kept line_break h = refl
  inline-kept (task d) h = refl

  line-kept : (xs : Inlines) → are_settled_inlines (line xs) ≡ true → changed_inlines kept_address xs ≡ line xs
  line-kept no_inlines h = refl
  line-kept (inline x xs) h =
      let p = parts-settled (changed_inline encoded_address x) (line xs) h in
      ap (λ y. inline y (changed_inlines kept_address xs)) (inline-kept x p.0)
      ∙ ap (inline (changed_inline encoded_address x)) (line-kept xs p.1)

-- a paragraph, which may begin with a task
behind-settled : (xs : Inlines) → is_settled_line xs ≡ true → are_settled_inlines xs ≡ true
behind-settled xs h = (and_parts (is_whole xs) (are_settled_inlines xs) h).1

no-task : {A : Type 0} (d : Bool) (xs : Inlines) → is_settled_line (inline (task d) xs) ≡ true → A
no-task d xs h = false-true (behind-settled (inline (task d) xs) h)

box-kept : (d : Bool) (xs : Inlines) → is_settled_paragraph (line (inline (task d) xs)) ≡ true
    → changed_inlines kept_address xs ≡ line xs
box-kept d no_inlines h = refl
box-kept d (inline (text []) xs) h = no-task d (line (inline (text []) xs)) h
box-kept d (inline (text (c ∷ [])) xs) h =
    ap (inline (text (c ∷ []))) (line-kept xs (behind-settled (line xs) h))
box-kept d (inline (text (c ∷ b ∷ s)) xs) h =
    ap (inline (text (c ∷ b ∷ s))) (line-kept xs
    (parts-settled (text (b ∷ s)) (line xs) (behind-settled (inline (text (b ∷ s)) (line xs)) h)).1)
box-kept d (inline (code s) xs) h = no-task d (line (inline (code s) xs)) h
box-kept d (inline (formatted f c) xs) h = no-task d (line (inline (formatted f c) xs)) h
box-kept d (inline (link a t c) xs) h = no-task d (line (inline (link a t c) xs)) h
box-kept d (inline (image a t c) xs) h = no-task d (line (inline (image a t c) xs)) h
box-kept d (inline (anchor id) xs) h = no-task d (line (inline (anchor id) xs)) h
box-kept d (inline line_break xs) h = no-task d (line (inline line_break xs)) h
box-kept d (inline (task b) xs) h = no-task d (line (inline (task b) xs)) h

paragraph-kept : (xs : Inlines) → is_settled_paragraph (line xs) ≡ true
    → changed_inlines kept_address xs ≡ line xs
paragraph-kept no_inlines h = refl
paragraph-kept (inline (text s) xs) h = line-kept (inline (text s) xs) (behind-settled (line (inline (text s) xs)) h)
paragraph-kept (inline (code s) xs) h = line-kept (inline (code s) xs) (behind-settled (line (inline (code s) xs)) h)
paragraph-kept (inline (formatted f c) xs) h =
    line-kept (inline (formatted f c) xs) (behind-settled (line (inline (formatted f c) xs)) h)
paragraph-kept (inline (link a t c) xs) h =
    line-kept (inline (link a t c) xs) (behind-settled (line (inline (link a t c) xs)) h)
paragraph-kept (inline (image a t d) xs) h =
    line-kept (inline (image a t d) xs) (behind-settled (line (inline (image a t d) xs)) h)
paragraph-kept (inline (anchor id) xs) h =
    line-kept (inline (anchor id) xs) (behind-settled (line (inline (anchor id) xs)) h)
paragraph-kept (inline line_break xs) h =
    line-kept (inline line_break xs) (behind-settled (line (inline line_break xs)) h)
paragraph-kept (inline (task d) xs) h = ap (inline (task d)) (box-kept d xs h)

mutual
  inline-normal : (b : Bool) (fs : List Format) (x : Inline) → is_normal b fs x ≡ true
      → is_settled_inline (changed_inline encoded_address x) ≡ true
      → is_normal b fs (changed_inline encoded_address x) ≡ true
  inline-normal b fs (text s) h e = h
  inline-normal b fs (code s) h e = h
  inline-normal b fs (formatted f c) h e =
      let front = not (is_barred fs f) && has_title f in
      let p = and_parts ((front && not (has_none c)) && are_whole c) (are_normal b (f ∷ fs) c) h in
      and_from ((front && not (has_none (line c))) && are_whole (line c)) (are_normal b (f ∷ fs) (line c))
      (ap (λ n. (front && not n) && are_whole (line c)) (none-same encoded_address c)
      ∙ (ap (λ w. (front && not (has_none c)) && w) (whole-same encoded_address c) ∙ p.0))
      (line-normal b (f ∷ fs) c p.1 e)
  inline-normal b fs (link a t c) h e =
      let p = and_parts (((not b && is_attribute a) && is_title t) && not (has_none c)) (are_normal true fs c) h in
      let q = and_parts ((not b && is_attribute a) && is_title t) (not (has_none c)) p.0 in
      let r = and_parts (not b && is_attribute a) (is_title t) q.0 in
      let s = and_parts (not b) (is_attribute a) r.0 in
      let held = and_parts (is_settled_link (encoded_address a) t) (are_settled_inlines (line c)) e in
      let address = attribute-settled (encoded_address a) (link-settled (encoded_address a) t held.0) in
      and_from (((not b && is_attribute (encoded_address a)) && is_title t) && not (has_none (line c)))
      (are_normal true fs (line c))
      (and_from ((not b && is_attribute (encoded_address a)) && is_title t) (not (has_none (line c)))
      (and_from (not b && is_attribute (encoded_address a)) (is_title t)
      (and_from (not b) (is_attribute (encoded_address a)) s.0 address) r.1)
      (ap not (none-same encoded_address c) ∙ q.1))
      (line-normal true fs c p.1 held.1)
  inline-normal b fs (image a t d) h e =
      let p = and_parts (is_attribute a && is_title t) (is_line d) h in
      let title = (and_parts (is_attribute a) (is_title t) p.0).1 in
      let address = attribute-settled (encoded_address a) (image-settled (encoded_address a) t d e) in
      and_from (is_attribute (encoded_address a) && is_title t) (is_line d)
      (and_from (is_attribute (encoded_address a)) (is_title t) address title) p.1
  inline-normal b fs (anchor id) h e = h
  inline-normal b fs line_break h e = h
  inline-normal b fs (task d) h e = h

  line-normal : (b : Bool) (fs : List Format) (xs : Inlines) → are_normal b fs xs ≡ true
      → are_settled_inlines (line xs) ≡ true → are_normal b fs (line xs) ≡ true
  line-normal b fs no_inlines h e = refl
  line-normal b fs (inline x xs) h e =
      let y = changed_inline encoded_address x in
      let p = and_parts (is_normal b fs x && meets x xs) (are_normal b fs xs) h in
      let q = and_parts (is_normal b fs x) (meets x xs) p.0 in
      let r = parts-settled y (line xs) e in
      and_from (is_normal b fs y && meets y (line xs)) (are_normal b fs (line xs))
      (and_from (is_normal b fs y) (meets y (line xs)) (inline-normal b fs x q.0 r.0)
      (meets-same encoded_address x xs ∙ q.1))
      (line-normal b fs xs p.1 r.1)

whole-normal : (xs : Inlines) → is_normal_line xs ≡ true → are_settled_inlines (line xs) ≡ true
    → is_normal_line (line xs) ≡ true
whole-normal xs h e =
    let p = and_parts (are_whole xs) (are_normal false [] xs) h in
    and_from (are_whole (line xs)) (are_normal false [] (line xs)) (whole-same encoded_address xs ∙ p.0)
    (line-normal false [] xs p.1 e)

line-whole : (xs : Inlines) → is_normal_line xs ≡ true → is_settled_line (line xs) ≡ true
    → is_normal_line (line xs) ≡ true
line-whole xs h e = whole-normal xs h (behind-settled (line xs) e)

text-normal : (s : List ℕ) (xs : Inlines) → are_normal false [] (inline (text s) xs) ≡ true
    → are_settled_inlines (line xs) ≡ true → are_normal false [] (inline (text s) (line xs)) ≡ true
text-normal s xs h e =
    let p = and_parts (is_normal false [] (text s) && meets (text s) xs) (are_normal false [] xs) h in
    let q = and_parts (is_normal false [] (text s)) (meets (text s) xs) p.0 in
    and_from (is_normal false [] (text s) && meets (text s) (line xs)) (are_normal false [] (line xs))
    (and_from (is_normal false [] (text s)) (meets (text s) (line xs)) q.0
    (meets-same encoded_address (text s) xs ∙ q.1))
    (line-normal false [] xs p.1 e)

-- behind a task
box-normal : (d : Bool) (xs : Inlines) → are_normal false [] xs ≡ true
    → is_settled_paragraph (line (inline (task d) xs)) ≡ true → are_normal false [] (line xs) ≡ true
box-normal d no_inlines h e = refl
box-normal d (inline (text []) xs) h e = no-task d (line (inline (text []) xs)) e
box-normal d (inline (text (c ∷ [])) xs) h e = text-normal (c ∷ []) xs h (behind-settled (line xs) e)
box-normal d (inline (text (c ∷ b ∷ s)) xs) h e =
    text-normal (c ∷ b ∷ s) xs h
    (parts-settled (text (b ∷ s)) (line xs) (behind-settled (inline (text (b ∷ s)) (line xs)) e)).1
box-normal d (inline (code s) xs) h e = no-task d (line (inline (code s) xs)) e
box-normal d (inline (formatted f c) xs) h e = no-task d (line (inline (formatted f c) xs)) e
box-normal d (inline (link a t c) xs) h e = no-task d (line (inline (link a t c) xs)) e
box-normal d (inline (image a t c) xs) h e = no-task d (line (inline (image a t c) xs)) e
box-normal d (inline (anchor id) xs) h e = no-task d (line (inline (anchor id) xs)) e
box-normal d (inline line_break xs) h e = no-task d (line (inline line_break xs)) e
box-normal d (inline (task b) xs) h e = no-task d (line (inline (task b) xs)) e

task-normal : (d : Bool) (xs : Inlines) → is_normal_item (inline (task d) xs) ≡ true
    → is_settled_paragraph (line (inline (task d) xs)) ≡ true
    → is_normal_item (line (inline (task d) xs)) ≡ true
task-normal d xs h e =
    let ends = (first_passes begins_with_space xs && not (last_passes ends_with_space xs))
    && not (last_passes is_break xs) in
    let others = (first_passes begins_with_space (line xs) && not (last_passes ends_with_space (line xs)))
    && not (last_passes is_break (line xs)) in
    let p = and_parts ends (are_normal false [] xs) h in
    and_from others (are_normal false [] (line xs)) (ends-same-as encoded_address xs ∙ p.0) (box-normal d xs p.1 e)

item-normal : (xs : Inlines) → is_normal_item xs ≡ true → is_settled_paragraph (line xs) ≡ true
    → is_normal_item (line xs) ≡ true
item-normal no_inlines h e = refl
item-normal (inline (text s) xs) h e = line-whole (inline (text s) xs) h e
item-normal (inline (code s) xs) h e = line-whole (inline (code s) xs) h e
item-normal (inline (formatted f c) xs) h e = line-whole (inline (formatted f c) xs) h e
item-normal (inline (link a t c) xs) h e = line-whole (inline (link a t c) xs) h e
item-normal (inline (image a t d) xs) h e = line-whole (inline (image a t d) xs) h e
item-normal (inline (anchor id) xs) h e = line-whole (inline (anchor id) xs) h e
item-normal (inline line_break xs) h e = line-whole (inline line_break xs) h e
item-normal (inline (task d) xs) h e = task-normal d xs h e

-- no task is in a line
plain-normal : (xs : Inlines) → is_normal_line xs ≡ true → is_settled_paragraph (line xs) ≡ true
    → is_normal_line (line xs) ≡ true
plain-normal no_inlines h e = refl
plain-normal (inline (text s) xs) h e = line-whole (inline (text s) xs) h e
plain-normal (inline (code s) xs) h e = line-whole (inline (code s) xs) h e
plain-normal (inline (formatted f c) xs) h e = line-whole (inline (formatted f c) xs) h e
plain-normal (inline (link a t c) xs) h e = line-whole (inline (link a t c) xs) h e
plain-normal (inline (image a t d) xs) h e = line-whole (inline (image a t d) xs) h e
plain-normal (inline (anchor id) xs) h e = line-whole (inline (anchor id) xs) h e
plain-normal (inline line_break xs) h e = line-whole (inline line_break xs) h e
plain-normal (inline (task d) xs) h e = false-true (and_parts (are_whole (inline (task d) xs)) false h).1

first-normal : (in_item : Bool) (xs : Inlines) → cond in_item (is_normal_item xs) (is_normal_line xs) ≡ true
    → is_settled_paragraph (line xs) ≡ true
    → cond in_item (is_normal_item (line xs)) (is_normal_line (line xs)) ≡ true
first-normal true xs h e = item-normal xs h e
first-normal false xs h e = plain-normal xs h e

-- ---- blocks

list-same : (start : Option ℕ) (is_tight : Bool) (items : Items)
    → is_normal_list start is_tight (flat_items (changed_items encoded_address items))
    ≡ is_normal_list start is_tight (flat_items items)
list-same start is_tight items =
    let flat : Items = flat_items items in
    ap (is_normal_list start is_tight) (sym (items-changed encoded_address items))
    ∙ rw (
      filled-items encoded_address flat,
      count-same encoded_address flat,
      distance-same encoded_address is_tight flat,
    ) refl

-- ---- cells

cells-kept : (cells : List Inlines) → list_all is_settled_line (changed_cells encoded_address cells) ≡ true
    → changed_cells kept_address cells ≡ changed_cells encoded_address cells
cells-kept [] h = refl
cells-kept (c ∷ cells) h =
    let p = and_parts (is_settled_line (line c)) (list_all is_settled_line (changed_cells encoded_address cells)) h in
    ap (λ x. x ∷ changed_cells kept_address cells)
    (line-kept c (and_parts (is_whole (line c)) (are_settled_inlines (line c)) p.0).1)
    ∙ ap (λ xs. line c ∷ xs) (cells-kept cells p.1)

rows-kept : (rows : List (List Inlines))
    → list_all (list_all is_settled_line) (map (changed_cells encoded_address) rows) ≡ true
    → map (changed_cells kept_address) rows ≡ map (changed_cells encoded_address) rows
rows-kept [] h = refl
rows-kept (r ∷ rows) h =
    let cells : List Inlines = changed_cells encoded_address r in
    let p = and_parts (list_all is_settled_line cells)
    (list_all (list_all is_settled_line) (map (changed_cells encoded_address) rows)) h in
    ap (λ x. x ∷ map (changed_cells kept_address) rows) (cells-kept r p.0)
    ∙ ap (λ xs. cells ∷ xs) (rows-kept rows p.1)

lines-normal : (cells : List Inlines) → list_all is_normal_line cells ≡ true
    → list_all is_settled_line (changed_cells encoded_address cells) ≡ true
    → list_all is_normal_line (changed_cells encoded_address cells) ≡ true
lines-normal [] h e = refl
lines-normal (c ∷ cells) h e =
    let others : List Inlines = changed_cells encoded_address cells in
    let p = and_parts (is_normal_line c) (list_all is_normal_line cells) h in
    let q = and_parts (is_settled_line (line c)) (list_all is_settled_line others) e in
    let r = and_parts (is_whole (line c)) (are_settled_inlines (line c)) q.0 in
    and_from (is_normal_line (line c)) (list_all is_normal_line others) (whole-normal c p.0 r.1)
    (lines-normal cells p.1 q.1)

cells-stand : (cells : List Inlines)
    → list_all anchors_stand_well (changed_cells encoded_address cells) ≡ list_all anchors_stand_well cells
cells-stand [] = refl
cells-stand (c ∷ cells) = rw (stand-same encoded_address c, cells-stand cells) refl

cells-normal : (cells : List Inlines) → are_normal_cells cells ≡ true
    → list_all is_settled_line (changed_cells encoded_address cells) ≡ true
    → are_normal_cells (changed_cells encoded_address cells) ≡ true
cells-normal cells h e =
    let others : List Inlines = changed_cells encoded_address cells in
    let p = and_parts (list_all is_normal_line cells) (list_all anchors_stand_well cells) h in
    and_from (list_all is_normal_line others) (list_all anchors_stand_well others) (lines-normal cells p.0 e)
    (cells-stand cells ∙ p.1)

rows-normal : (k : ℕ) (rows : List (List Inlines)) → list_all (is_normal_row k) rows ≡ true
    → list_all (list_all is_settled_line) (map (changed_cells encoded_address) rows) ≡ true
    → list_all (is_normal_row k) (map (changed_cells encoded_address) rows) ≡ true
rows-normal k [] h e = refl
rows-normal k (r ∷ rows) h e =
    let cells : List Inlines = changed_cells encoded_address r in
    let others : List (List Inlines) = map (changed_cells encoded_address) rows in
    let p = and_parts (is_normal_row k r) (list_all (is_normal_row k) rows) h in
    let q = and_parts (list_all is_settled_line cells) (list_all (list_all is_settled_line) others) e in
    let shape : Bool = nat_le (length r) k && ends_filled r in
    let s = and_parts shape (are_normal_cells r) p.0 in
    let same : (nat_le (length cells) k && ends_filled cells) ≡ shape =
    rw (cells-length encoded_address r, filled-ends encoded_address r) refl in
    and_from (is_normal_row k cells) (list_all (is_normal_row k) others)
    (and_from (nat_le (length cells) k && ends_filled cells) (are_normal_cells cells) (same ∙ s.0)
    (cells-normal r s.1 q.0))
    (rows-normal k rows p.1 q.1)

table-normal : (alignments : List Alignment) (header : List Inlines) (rows : List (List Inlines))
    → is_normal_table alignments header rows ≡ true
    → is_settled_table (changed_cells encoded_address header) (map (changed_cells encoded_address) rows) ≡ true
    → is_normal_table alignments (changed_cells encoded_address header) (map (changed_cells encoded_address) rows)
    ≡ true
table-normal alignments header rows h e =
    let cells : List Inlines = changed_cells encoded_address header in
    let others : List (List Inlines) = map (changed_cells encoded_address) rows in
    let good = and_parts (list_all is_settled_line cells && list_all (list_all is_settled_line) others)
    (shows_last_column cells others) e in
    let all = and_parts (list_all is_settled_line cells) (list_all (list_all is_settled_line) others) good.0 in
    let shape : Bool = has_cell header && (length alignments == length header) in
    let p = and_parts (shape && are_normal_cells header) (list_all (is_normal_row (length header)) rows) h in
    let q = and_parts shape (are_normal_cells header) p.0 in
    let same : (has_cell cells && (length alignments == length cells)) ≡ shape =
    rw (cell-same encoded_address header, cells-length encoded_address header) refl in
    and_from ((has_cell cells && (length alignments == length cells)) && are_normal_cells cells)
    (list_all (is_normal_row (length cells)) others)
    (and_from (has_cell cells && (length alignments == length cells)) (are_normal_cells cells) (same ∙ q.0)
    (cells-normal header q.1 all.0))
    (ap (λ k. list_all (is_normal_row k) others) (cells-length encoded_address header)
    ∙ rows-normal (length header) rows p.1 all.1)

mutual
  block-kept : (b : Block) → is_settled_alone (changed_block encoded_address b) ≡ true
      → changed_block kept_address b ≡ changed_block encoded_address b
  block-kept (paragraph xs) h = ap paragraph (paragraph-kept xs h)
  block-kept (heading n xs) h =
      let own = (and_parts (is_settled_line (line xs)) (are_away (line xs)) h).0 in
      ap (heading n) (line-kept xs (and_parts (is_whole (line xs)) (are_settled_inlines (line xs)) own).1)
  block-kept (code_block language s) h = refl
  block-kept (quote bs) h = ap quote (blocks-kept bs h)
  block-kept thematic_break h = refl
  block-kept (list start is_tight items) h =
      let others : Items = changed_items encoded_address items in
      ap (list start is_tight)
      (items-kept items (and_parts (is_right_list is_tight others) (are_settled_items others) h).1)
  block-kept (table alignments header rows) h =
      let cells : List Inlines = changed_cells encoded_address header in
      let others : List (List Inlines) = map (changed_cells encoded_address) rows in
      let good = and_parts (list_all is_settled_line cells && list_all (list_all is_settled_line) others)
      (shows_last_column cells others) h in
      let all = and_parts (list_all is_settled_line cells) (list_all (list_all is_settled_line) others) good.0 in
      ap (λ xs. table alignments xs (map (changed_cells kept_address) rows)) (cells-kept header all.0)
      ∙ ap (table alignments cells) (rows-kept rows all.1)
  block-kept (element name attributes bs) h =
      ap (element name attributes) (blocks-kept bs
      (and_parts (is_bounded name (encoded bs)) (are_settled_alone (encoded bs)) h).1)
  block-kept (tags s) h = false-true h

  pub blocks-kept : (bs : Blocks) → are_settled_alone (encoded bs) ≡ true
      → changed kept_address bs ≡ encoded bs
  blocks-kept no_blocks h = refl
  blocks-kept (block b bs) h =
      let c = changed_block encoded_address b in
      let p = and_parts (is_settled_alone c) (are_settled_alone (encoded bs)) h in
      ap (λ x. block x (changed kept_address bs)) (block-kept b p.0) ∙ ap (block c) (blocks-kept bs p.1)

  items-kept : (items : Items) → are_settled_items (changed_items encoded_address items) ≡ true
      → changed_items kept_address items ≡ changed_items encoded_address items
  items-kept no_items h = refl
  items-kept (item bs rest) h =
      let p = and_parts (are_settled_blocks (encoded bs))
      (are_settled_items (changed_items encoded_address rest)) h in
      ap (λ x. item x (changed_items kept_address rest)) (blocks-kept bs (settled-alone (encoded bs) p.0))
      ∙ ap (item (encoded bs)) (items-kept rest p.1)

mutual
  block-normal : (in_item : Bool) (b : Block) → is_normal_block in_item b ≡ true
      → is_settled_alone (changed_block encoded_address b) ≡ true
      → is_normal_block in_item (changed_block encoded_address b) ≡ true
  block-normal in_item (paragraph xs) h e =
      let own = cond in_item (is_normal_item xs) (is_normal_line xs) in
      let other = cond in_item (is_normal_item (line xs)) (is_normal_line (line xs)) in
      let p = and_parts (not (has_none xs) && own) (are_anchors xs || anchors_stand_well xs) h in
      let q = and_parts (not (has_none xs)) own p.0 in
      and_from (not (has_none (line xs)) && other) (are_anchors (line xs) || anchors_stand_well (line xs))
      (and_from (not (has_none (line xs))) other (ap not (none-same encoded_address xs) ∙ q.0)
      (first-normal in_item xs q.1 e))
      (ap (λ b. b || anchors_stand_well (line xs)) (anchors-same encoded_address xs)
      ∙ (ap (λ b. are_anchors xs || b) (stand-same encoded_address xs) ∙ p.1))
  block-normal in_item (heading n xs) h e =
      let own = (and_parts (is_settled_line (line xs)) (are_away (line xs)) e).0 in
      let settled = (and_parts (is_whole (line xs)) (are_settled_inlines (line xs)) own).1 in
      let p = and_parts ((is_level n && not (has_none xs)) && is_normal_line xs) (anchors_stand_well xs) h in
      let q = and_parts (is_level n && not (has_none xs)) (is_normal_line xs) p.0 in
      and_from ((is_level n && not (has_none (line xs))) && is_normal_line (line xs)) (anchors_stand_well (line xs))
      (and_from (is_level n && not (has_none (line xs))) (is_normal_line (line xs))
      (ap (λ b. is_level n && not b) (none-same encoded_address xs) ∙ q.0) (whole-normal xs q.1 settled))
      (stand-same encoded_address xs ∙ p.1)
  block-normal in_item (code_block language s) h e = h
  block-normal in_item (quote bs) h e =
      let p = and_parts (is_filled bs) (are_normal_blocks false bs) h in
      and_from (is_filled (encoded bs)) (are_normal_blocks false (encoded bs))
      (filled-same encoded_address bs ∙ p.0) (blocks-normal false bs p.1 e)
  block-normal in_item thematic_break h e = refl
  block-normal in_item (list start is_tight items) h e =
      let others : Items = changed_items encoded_address items in
      let settled = (and_parts (is_right_list is_tight others) (are_settled_items others) e).1 in
      let p = and_parts (is_normal_list start is_tight (flat_items items)) (are_normal_items items) h in
      and_from (is_normal_list start is_tight (flat_items others)) (are_normal_items others)
      (list-same start is_tight items ∙ p.0) (items-normal items p.1 settled)
  block-normal in_item (table alignments header rows) h e = table-normal alignments header rows h e
  block-normal in_item (element name attributes bs) h e =
      let settled = (and_parts (is_bounded name (encoded bs)) (are_settled_alone (encoded bs)) e).1 in
      let p = and_parts (is_normal_element name attributes bs) (are_normal_blocks false bs) h in
      and_from (is_normal_element name attributes (encoded bs)) (are_normal_blocks false (encoded bs))
      (ap (λ b. list_all (λ a. is_attribute a.value) attributes && (b || may_be_empty name))
      (filled-same encoded_address bs) ∙ p.0) (blocks-normal false bs p.1 settled)
  block-normal in_item (tags s) h e = false-true e

  blocks-normal : (in_item : Bool) (bs : Blocks) → are_normal_blocks in_item bs ≡ true
      → are_settled_alone (encoded bs) ≡ true
      → are_normal_blocks in_item (encoded bs) ≡ true
  blocks-normal in_item no_blocks h e = refl
  blocks-normal in_item (block b bs) h e =
      let c = changed_block encoded_address b in
      let p = and_parts (is_normal_block in_item b) (are_normal_blocks false bs) h in
      let r = and_parts (is_settled_alone c) (are_settled_alone (encoded bs)) e in
      and_from (is_normal_block in_item c) (are_normal_blocks false (encoded bs))
      (block-normal in_item b p.0 r.0) (blocks-normal false bs p.1 r.1)

  items-normal : (items : Items) → are_normal_items items ≡ true
      → are_settled_items (changed_items encoded_address items) ≡ true
      → are_normal_items (changed_items encoded_address items) ≡ true
  items-normal no_items h e = refl
  items-normal (item bs rest) h e =
      let others : Items = changed_items encoded_address rest in
      let p = and_parts (are_normal_blocks true bs) (are_normal_items rest) h in
      let r = and_parts (are_settled_blocks (encoded bs)) (are_settled_items others) e in
      and_from (are_normal_blocks true (encoded bs)) (are_normal_items others)
      (blocks-normal true bs p.0 (settled-alone (encoded bs) r.0)) (items-normal rest p.1 r.1)

pub encoded-normal : (d : Blocks) → IsNormal d → are_settled_blocks (encoded d) ≡ true → IsNormal (encoded d)
encoded-normal d h e =
    let p = and_parts (are_normal_blocks false d) (nat_le (depth_among d) most_nested) h in
    and_from (are_normal_blocks false (encoded d)) (nat_le (depth_among (encoded d)) most_nested)
    (blocks-normal false d p.0 (settled-alone (encoded d) e))
    (ap (λ n. nat_le n most_nested) (depth-same encoded_address d) ∙ p.1)

pub settled-blocks : (d : Blocks) → are_settled d ≡ true → are_settled_blocks d ≡ true
settled-blocks d h =
    let p = and_parts (are_settled_blocks d && numbers_fit 0 d) (is_light d) h in
    (and_parts (are_settled_blocks d) (numbers_fit 0 d) p.0).0
