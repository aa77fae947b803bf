-- What is written of a normal document is a flat one.
use Rattle.std.proofs.Common.{◌≡◌, ◌∙◌, refl, ap, sym, subst, ℕ, Bool, true, false, List, [], ◌∷◌, ◌++◌, Option, Some, None}
use Rattle.std.specs.Prelude.{◌&&◌, ◌||◌, not, nat_le}
use Rattle.std.specs.List.{list_all}
use Rattle.std.specs.Str.{is_utf8}
use Rattle.std.proofs.lemmas.Bool.{and_parts, and_from}
use Rattle.htmd_lexical.specs.CharacterClasses.{is_empty}
use Rattle.htmd_document.specs.DocumentLimits.{most_nested}
use Rattle.htmd_document.specs.Documents.{Inline, Inlines, Block, Blocks, Items, paragraph, heading, code_block, quote}
use Rattle.htmd_document.specs.Documents.{thematic_break, list, table, element, tags, no_blocks, block, no_items, item}
use Rattle.htmd_document.specs.Documents.{text, code, formatted, link, image, anchor, line_break, task, no_inlines, inline}
use Rattle.htmd_document.specs.FlatDocuments.{text_of, text_alone, text_in_line, line_before}
use Rattle.htmd_document.specs.FlatDocuments.{element_before, flat_before, flat_all, flat_items, flattened}
use Rattle.htmd_document.specs.NormalInlines.{is_text, is_line, is_line_byte, is_kept, is_attribute, has_none, is_normal}
use Rattle.htmd_document.specs.NormalInlines.{are_normal, are_whole, meets, is_normal_line, are_anchors, anchors_stand_well}
use Rattle.htmd_document.specs.NormalInlines.{has_double_space}
use Rattle.htmd_document.specs.NormalDocuments.{is_normal_block, are_normal_blocks, are_normal_items, is_normal_list}
use Rattle.htmd_document.specs.NormalDocuments.{is_normal_element, may_be_empty, is_normal_paragraph, depth_among, IsNormal}
use Rattle.htmd_document.specs.NormalDocuments.{is_tag_line, are_tag_lines, are_flat_blocks}
use Rattle.htmd_document.specs.NormalDocuments.{are_flat_items, IsFlat}
use Rattle.htmd_document.specs.TightItems.{is_filled}
use Rattle.htmd_document.specs.Tags.{element_tag, end_of_element, element_line}
use Rattle.htmd_law_blocks.specs.LineTexts.{lines_of}
use Rattle.htmd_law_blocks.proofs.TextsLemmas.{written_one, written_last}
use Rattle.htmd_law_inlines.proofs.TextPieces.{differs}
use Rattle.htmd_law_texts.proofs.TagTexts.{tag_line, end_line, whole_line, tag_clean}

-- ---- lines of tags before flat blocks

alone : (line : List ℕ) → is_tag_line line ≡ true → are_tag_lines line ≡ true
alone line h = ap (list_all is_tag_line) (written_last line (tag_clean line h))
    ∙ and_from (is_tag_line line) true h refl

before_others : (line s : List ℕ) → is_tag_line line ≡ true → are_tag_lines s ≡ true
    → are_tag_lines (line ++ (10 ∷ s)) ≡ true
before_others line s h k =
    ap (list_all is_tag_line) (written_one line s (tag_clean line h))
    ∙ and_from (is_tag_line line) (list_all is_tag_line (lines_of s)) h k

-- the same block at the beginning of an item or not
one_line : (i : Bool) (line : List ℕ) (rest : Blocks) → is_tag_line line ≡ true
    → are_flat_blocks false rest ≡ true
    → are_flat_blocks i (block (tags line) rest) ≡ true
one_line i line rest h k = and_from (are_tag_lines line) (are_flat_blocks false rest) (alone line h) k

line_flat : (i : Bool) (line : List ℕ) (rest : Blocks) → is_tag_line line ≡ true
    → are_flat_blocks false rest ≡ true
    → are_flat_blocks i (line_before line rest) ≡ true
line_flat i line no_blocks h k = one_line i line no_blocks h k
line_flat i line (block (paragraph content) bs) h k = one_line i line (block (paragraph content) bs) h k
line_flat i line (block (heading level content) bs) h k = one_line i line (block (heading level content) bs) h k
line_flat i line (block (code_block language s) bs) h k = one_line i line (block (code_block language s) bs) h k
line_flat i line (block (quote content) bs) h k = one_line i line (block (quote content) bs) h k
line_flat i line (block thematic_break bs) h k = one_line i line (block thematic_break bs) h k
line_flat i line (block (list start is_tight items) bs) h k =
    one_line i line (block (list start is_tight items) bs) h k
line_flat i line (block (table alignments header rows) bs) h k =
    one_line i line (block (table alignments header rows) bs) h k
line_flat i line (block (element name attributes content) bs) h k =
    one_line i line (block (element name attributes content) bs) h k
line_flat i line (block (tags s) bs) h k =
    let p = and_parts (are_tag_lines s) (are_flat_blocks false bs) k in
    and_from (are_tag_lines (line ++ (10 ∷ s))) (are_flat_blocks false bs) (before_others line s h p.0) p.1

-- ---- what is written in one line

-- a text of a line has no end of a line in it
kept_byte : (b : ℕ) → is_line_byte b ≡ true → is_kept b ≡ true
kept_byte b h =
    rw (differs is_line_byte b 0 h refl, differs is_line_byte b 10 h refl, differs is_line_byte b 13 h refl) refl

kept_text : (s : List ℕ) → list_all is_line_byte s ≡ true → list_all is_kept s ≡ true
kept_text [] h = refl
kept_text (b ∷ s) h =
    let p = and_parts (is_line_byte b) (list_all is_line_byte s) h in
    and_from (is_kept b) (list_all is_kept s) (kept_byte b p.0) (kept_text s p.1)

-- the text of a normal paragraph
pub normal_text : (s : List ℕ) → is_normal_paragraph false (inline (text s) no_inlines) ≡ true
    → is_text s ≡ true
normal_text s h =
    let xs = inline (text s) no_inlines in
    let p = (and_parts (not (has_none xs) && is_normal_line xs) (are_anchors xs || anchors_stand_well xs) h).0 in
    let q = (and_parts (not (has_none xs)) (is_normal_line xs) p).1 in
    let r = (and_parts (are_whole xs) (are_normal false [] xs) q).1 in
    let u = (and_parts (is_normal false [] (text s) && meets (text s) no_inlines) (are_normal false [] no_inlines)
    r).0 in
    (and_parts (is_normal false [] (text s)) (meets (text s) no_inlines) u).0

pub text_is_kept : (s : List ℕ) → is_text s ≡ true → list_all is_kept s ≡ true
text_is_kept s h =
    let p = (and_parts (is_line s && not (is_empty s)) (not (has_double_space s)) h).0 in
    let q = (and_parts (is_line s) (not (is_empty s)) p).0 in
    kept_text s (and_parts (is_utf8 s) (list_all is_line_byte s) q).1

other_text : (x : Inline) (rest : Inlines) → text_of x ≡ None → text_alone (inline x rest) ≡ None
other_text x no_inlines e = e
other_text x (inline y rest) e = refl

by_none : (P : Blocks → Option (List ℕ) → Type 0) (v : Inline) (rest : Inlines) → text_of v ≡ None
    → are_normal_blocks false (block (paragraph (inline v rest)) no_blocks) ≡ true
    → ((c : Blocks) → are_normal_blocks false c ≡ true → P c None)
    → P (block (paragraph (inline v rest)) no_blocks) (text_alone (inline v rest))
by_none P v rest e h z =
    let c = block (paragraph (inline v rest)) no_blocks in
    subst (P c) (sym (other_text v rest e)) (z c h)

-- what stands in one line is nothing, or a text that isn't empty
pub in_line_cases : (P : Blocks → Option (List ℕ) → Type 0) (content : Blocks)
    → are_normal_blocks false content ≡ true
    → P no_blocks (Some [])
    → ((s : List ℕ) → is_text s ≡ true
    → P (block (paragraph (inline (text s) no_inlines)) no_blocks) (Some s))
    → ((c : Blocks) → are_normal_blocks false c ≡ true → P c None) → P content (text_in_line content)
in_line_cases P no_blocks h x y z = x
in_line_cases P (block b (block c bs)) h x y z = z (block b (block c bs)) h
in_line_cases P (block (heading level content) no_blocks) h x y z = z (block (heading level content) no_blocks) h
in_line_cases P (block (code_block language s) no_blocks) h x y z = z (block (code_block language s) no_blocks) h
in_line_cases P (block (quote content) no_blocks) h x y z = z (block (quote content) no_blocks) h
in_line_cases P (block thematic_break no_blocks) h x y z = z (block thematic_break no_blocks) h
in_line_cases P (block (list start is_tight items) no_blocks) h x y z =
    z (block (list start is_tight items) no_blocks) h
in_line_cases P (block (table alignments header rows) no_blocks) h x y z =
    z (block (table alignments header rows) no_blocks) h
in_line_cases P (block (element name attributes content) no_blocks) h x y z =
    z (block (element name attributes content) no_blocks) h
in_line_cases P (block (tags s) no_blocks) h x y z = z (block (tags s) no_blocks) h
in_line_cases P (block (paragraph no_inlines) no_blocks) h x y z = z (block (paragraph no_inlines) no_blocks) h
in_line_cases P (block (paragraph (inline (text s) no_inlines)) no_blocks) h x y z =
    let xs = inline (text s) no_inlines in
    y s (normal_text s (and_parts (is_normal_paragraph false xs) (are_normal_blocks false no_blocks) h).0)
in_line_cases P (block (paragraph (inline (text s) (inline v rest))) no_blocks) h x y z =
    z (block (paragraph (inline (text s) (inline v rest))) no_blocks) h
in_line_cases P (block (paragraph (inline (code s) rest)) no_blocks) h x y z = by_none P (code s) rest refl h z
in_line_cases P (block (paragraph (inline (formatted f content) rest)) no_blocks) h x y z =
    by_none P (formatted f content) rest refl h z
in_line_cases P (block (paragraph (inline (link a t content) rest)) no_blocks) h x y z =
    by_none P (link a t content) rest refl h z
in_line_cases P (block (paragraph (inline (image a t d) rest)) no_blocks) h x y z =
    by_none P (image a t d) rest refl h z
in_line_cases P (block (paragraph (inline (anchor id) rest)) no_blocks) h x y z = by_none P (anchor id) rest refl h z
in_line_cases P (block (paragraph (inline line_break rest)) no_blocks) h x y z = by_none P line_break rest refl h z
in_line_cases P (block (paragraph (inline (task d) rest)) no_blocks) h x y z = by_none P (task d) rest refl h z

-- ---- all blocks

line_filled : (line : List ℕ) (rest : Blocks) → is_filled (line_before line rest) ≡ true
line_filled line no_blocks = refl
line_filled line (block (paragraph content) bs) = refl
line_filled line (block (heading level content) bs) = refl
line_filled line (block (code_block language s) bs) = refl
line_filled line (block (quote content) bs) = refl
line_filled line (block thematic_break bs) = refl
line_filled line (block (list start is_tight items) bs) = refl
line_filled line (block (table alignments header rows) bs) = refl
line_filled line (block (element name attributes content) bs) = refl
line_filled line (block (tags s) bs) = refl

first_filled : (b : Block) (rest : Blocks) → is_filled (flat_before b rest) ≡ true
first_filled (paragraph content) rest = refl
first_filled (heading level content) rest = refl
first_filled (code_block language s) rest = refl
first_filled (quote content) rest = refl
first_filled thematic_break rest = refl
first_filled (list start is_tight items) rest = refl
first_filled (table alignments header rows) rest = refl
first_filled (element name attributes content) rest = go (text_in_line content)
  where
    go : (o : Option (List ℕ)) → is_filled (element_before name attributes o
        (flat_all content (line_before (end_of_element name) rest)) rest) ≡ true
    go None = line_filled (element_tag name attributes) (flat_all content (line_before (end_of_element name) rest))
    go (Some s) = line_filled (element_line name attributes s) rest
first_filled (tags s) rest = refl

all_filled : (bs rest : Blocks) → is_filled bs ≡ true → is_filled (flat_all bs rest) ≡ true
all_filled no_blocks rest h = absurd (cc)
all_filled (block b bs) rest h = first_filled b (flat_all bs rest)

mutual
  all_flat : (i : Bool) (bs rest : Blocks) → are_normal_blocks i bs ≡ true → are_flat_blocks i rest ≡ true
      → are_flat_blocks false rest ≡ true → are_flat_blocks i (flat_all bs rest) ≡ true
  all_flat i no_blocks rest h k l = k
  all_flat i (block b bs) rest h k l =
      let p = and_parts (is_normal_block i b) (are_normal_blocks false bs) h in
      first_flat i b (flat_all bs rest) p.0 (all_flat false bs rest p.1 l l)

  first_flat : (i : Bool) (b : Block) (rest : Blocks) → is_normal_block i b ≡ true
      → are_flat_blocks false rest ≡ true
      → are_flat_blocks i (flat_before b rest) ≡ true
  first_flat i (paragraph content) rest h k =
      and_from (is_normal_block i (paragraph content)) (are_flat_blocks false rest) h k
  first_flat i (heading level content) rest h k =
      and_from (is_normal_block i (heading level content)) (are_flat_blocks false rest) h k
  first_flat i (code_block language s) rest h k =
      and_from (is_normal_block i (code_block language s)) (are_flat_blocks false rest) h k
  first_flat i (quote content) rest h k =
      let p = and_parts (is_filled content) (are_normal_blocks false content) h in
      let bs = flat_all content no_blocks in
      and_from (is_filled bs && are_flat_blocks false bs) (are_flat_blocks false rest)
      (and_from (is_filled bs) (are_flat_blocks false bs) (all_filled content no_blocks p.0)
      (all_flat false content no_blocks p.1 refl refl)) k
  first_flat i thematic_break rest h k = k
  first_flat i (list start is_tight items) rest h k =
      let p = and_parts (is_normal_list start is_tight (flat_items items)) (are_normal_items items) h in
      let is = flat_items items in
      and_from (is_normal_list start is_tight is && are_flat_items is) (are_flat_blocks false rest)
      (and_from (is_normal_list start is_tight is) (are_flat_items is) p.0 (items_flat items p.1)) k
  first_flat i (table alignments header rows) rest h k =
      and_from (is_normal_block i (table alignments header rows)) (are_flat_blocks false rest) h k
  first_flat i (element name attributes content) rest h k =
      let p = and_parts (is_normal_element name attributes content) (are_normal_blocks false content) h in
      let values = (and_parts (list_all (λ a. is_attribute a.value) attributes)
      (is_filled content || may_be_empty name) p.0).0 in
      let last = line_before (end_of_element name) rest in
      let ended = line_flat false (end_of_element name) rest (end_line name) k in
      let inner = all_flat false content last p.1 ended ended in
      in_line_cases (λ c o. are_flat_blocks i (element_before name attributes o (flat_all content last) rest) ≡ true)
      content p.1
      (line_flat i (element_line name attributes []) rest (whole_line name attributes [] values refl) k)
      (λ s t. line_flat i (element_line name attributes s) rest
      (whole_line name attributes s values (text_is_kept s t)) k)
      (λ c n. line_flat i (element_tag name attributes) (flat_all content last) (tag_line name attributes values)
      inner)
  first_flat i (tags s) rest h k = absurd (cc)

  items_flat : (items : Items) → are_normal_items items ≡ true → are_flat_items (flat_items items) ≡ true
  items_flat no_items h = refl
  items_flat (item bs rest) h =
      let p = and_parts (are_normal_blocks true bs) (are_normal_items rest) h in
      and_from (are_flat_blocks true (flat_all bs no_blocks)) (are_flat_items (flat_items rest))
      (all_flat true bs no_blocks p.0 refl refl) (items_flat rest p.1)

pub normal_is_flat : (d : Blocks) → IsNormal d → IsFlat (flattened d)
normal_is_flat d h =
    all_flat false d no_blocks (and_parts (are_normal_blocks false d) (nat_le (depth_among d) most_nested) h).0 refl
    refl
