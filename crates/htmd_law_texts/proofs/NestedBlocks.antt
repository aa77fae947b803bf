-- The tags of a flat document pair: what they stand for is the document that was written.
use Rattle.std.proofs.Common.{◌≡◌, ◌∙◌, refl, ap, sym, ℕ, Bool, true, false, List, [], ◌∷◌, Option, Some, None}
use Rattle.std.specs.Prelude.{◌&&◌, ◌||◌, if◌then◌else◌, not, nat_le}
use Rattle.std.specs.List.{list_all}
use Rattle.std.proofs.lemmas.Bool.{and_parts}
use Rattle.htmd_lexical.proofs.BytesLemmas.{bytes_same}
use Rattle.htmd_lexical.specs.CharacterClasses.{is_empty}
use Rattle.htmd_document.specs.declared.document.BlockElement.{BlockElement}
use Rattle.htmd_document.specs.DocumentLimits.{most_nested}
use Rattle.htmd_document.specs.Documents.{text, no_inlines, inline, Block, Blocks, Items, paragraph, heading, code_block}
use Rattle.htmd_document.specs.Documents.{quote, thematic_break, list, table, element, tags, no_blocks, block, no_items}
use Rattle.htmd_document.specs.Documents.{item, BlockAttribute}
use Rattle.htmd_document.specs.FlatDocuments.{line_before, element_before, flat_before, flat_all, flat_items}
use Rattle.htmd_document.specs.FlatDocuments.{flattened}
use Rattle.htmd_document.specs.NormalInlines.{is_text, is_line, is_attribute, has_double_space}
use Rattle.htmd_document.specs.NormalDocuments.{is_normal_block, are_normal_blocks, are_normal_items, is_normal_list}
use Rattle.htmd_document.specs.NormalDocuments.{is_normal_element, may_be_empty, depth_among, IsNormal, is_tag_line}
use Rattle.htmd_document.specs.TightItems.{is_filled}
use Rattle.htmd_document.specs.Tags.{element_name, element_tag, end_of_element, element_line}
use Rattle.htmd_commonmark_reading.specs.Elements.{Stack, outside, inside, joined, with_blocks, with_block, text_blocks}
use Rattle.htmd_commonmark_reading.specs.Elements.{line_of, with_line}
use Rattle.htmd_commonmark_reading.specs.Elements.{with_lines, nested, nested_items}
use Rattle.htmd_commonmark_reading.specs.Elements.{nested_document}
use Rattle.htmd_commonmark_reading.specs.SeenMarkup.{option_of, option_of_both}
use Rattle.htmd_law_blocks.specs.LineTexts.{lines_of}
use Rattle.htmd_law_blocks.proofs.TextsLemmas.{IsClean, written_one, written_last}
use Rattle.htmd_law_texts.proofs.TagTexts.{tag_line, end_line, whole_line, tag_clean}
use Rattle.htmd_law_texts.proofs.NestedLines.{opening_read, closing_read, whole_read}
use Rattle.htmd_law_texts.proofs.FlatForm.{in_line_cases, text_is_kept}

-- ---- blocks after others

joined_joined : (xs bs cs : Blocks) → joined (joined xs bs) cs ≡ joined xs (joined bs cs)
joined_joined no_blocks bs cs = refl
joined_joined (block a xs) bs cs = ap (block a) (joined_joined xs bs cs)

joined_none : (bs : Blocks) → joined bs no_blocks ≡ bs
joined_none no_blocks = refl
joined_none (block b bs) = ap (block b) (joined_none bs)

blocks_more : (o : Stack) (b : Block) (bs : Blocks) → with_blocks (with_block o b) bs ≡ with_blocks o (block b bs)
blocks_more (outside done) b bs = ap outside (joined_joined done (block b no_blocks) bs)
blocks_more (inside name attributes done below) b bs =
    ap (λ d. inside name attributes d below) (joined_joined done (block b no_blocks) bs)

none_more : (o : Stack) → with_blocks o no_blocks ≡ o
none_more (outside done) = ap outside (joined_none done)
none_more (inside name attributes done below) = ap (λ d. inside name attributes d below) (joined_none done)

-- ---- lines

no_lines : (o : Option Stack) → with_lines o [] ≡ o
no_lines None = refl
no_lines (Some o) = refl

one_line : (o : Stack) (line : List ℕ) → IsClean line
    → with_lines (Some o) (lines_of line) ≡ with_line o (line_of line)
one_line o line c = ap (with_lines (Some o)) (written_last line c) ∙ no_lines (with_line o (line_of line))

-- a line of tags before flat blocks is read first
line_nested : (o : Stack) (line : List ℕ) (rest : Blocks) → IsClean line
    → nested (Some o) (line_before line rest) ≡ nested (with_line o (line_of line)) rest
line_nested o line no_blocks c = ap (λ p. nested p no_blocks) (one_line o line c)
line_nested o line (block (paragraph xs) bs) c = ap (λ p. nested p (block (paragraph xs) bs)) (one_line o line c)
line_nested o line (block (heading l xs) bs) c = ap (λ p. nested p (block (heading l xs) bs)) (one_line o line c)
line_nested o line (block (code_block l s) bs) c = ap (λ p. nested p (block (code_block l s) bs)) (one_line o line c)
line_nested o line (block (quote cs) bs) c = ap (λ p. nested p (block (quote cs) bs)) (one_line o line c)
line_nested o line (block thematic_break bs) c = ap (λ p. nested p (block thematic_break bs)) (one_line o line c)
line_nested o line (block (list s t is) bs) c = ap (λ p. nested p (block (list s t is) bs)) (one_line o line c)
line_nested o line (block (table a h rs) bs) c = ap (λ p. nested p (block (table a h rs) bs)) (one_line o line c)
line_nested o line (block (element n xs cs) bs) c =
    ap (λ p. nested p (block (element n xs cs) bs)) (one_line o line c)
line_nested o line (block (tags s) bs) c =
    ap (λ ls. nested (with_lines (Some o) ls) bs) (written_one line s c)

opened_nested : (o : Stack) (name : BlockElement) (attributes : List BlockAttribute) (rest : Blocks)
    → list_all (λ a. is_attribute a.value) attributes ≡ true
    → nested (Some o) (line_before (element_tag name attributes) rest)
    ≡ nested (Some (inside name attributes no_blocks o)) rest
opened_nested o name attributes rest h =
    line_nested o (element_tag name attributes) rest
    (tag_clean (element_tag name attributes) (tag_line name attributes h))
    ∙ ap (λ l. nested (with_line o l) rest) (opening_read name attributes)

closed_nested : (o : Stack) (name : BlockElement) (attributes : List BlockAttribute) (content rest : Blocks)
    → nested (Some (inside name attributes content o)) (line_before (end_of_element name) rest)
    ≡ nested (Some (with_block o (element name attributes content))) rest
closed_nested o name attributes content rest =
    let p = inside name attributes content o in
    line_nested p (end_of_element name) rest (tag_clean (end_of_element name) (end_line name))
    ∙ ap (λ l. nested (with_line p l) rest) (closing_read name)
    ∙ ap (λ b. nested (if b then Some (with_block o (element name attributes content)) else None) rest)
    (bytes_same (element_name name))

whole_nested : (o : Stack) (name : BlockElement) (attributes : List BlockAttribute) (s : List ℕ) (rest : Blocks)
    → list_all (λ a. is_attribute a.value) attributes ≡ true
    → is_tag_line (element_line name attributes s) ≡ true
    → nested (Some o) (line_before (element_line name attributes s) rest)
    ≡ nested (Some (with_block o (element name attributes (text_blocks s)))) rest
whole_nested o name attributes s rest h k =
    line_nested o (element_line name attributes s) rest (tag_clean (element_line name attributes s) k)
    ∙ ap (λ l. nested (with_line o l) rest) (whole_read name attributes s)

some_text : (s : List ℕ) → is_text s ≡ true
    → text_blocks s ≡ block (paragraph (inline (text s) no_inlines)) no_blocks
some_text [] h = absurd (no_text h)
  where
    no_text : is_text [] ≡ true → ⊥
    no_text h =
        let p = (and_parts (is_line [] && not (is_empty [])) (not (has_double_space [])) h).0 in
        let q = (and_parts (is_line []) (not (is_empty [])) p).1 in
        cc
some_text (c ∷ s) h = refl

-- ---- all blocks

mutual
  all_nested : (o : Stack) (i : Bool) (bs rest : Blocks) → are_normal_blocks i bs ≡ true
      → nested (Some o) (flat_all bs rest) ≡ nested (Some (with_blocks o bs)) rest
  all_nested o i no_blocks rest h = ap (λ p. nested (Some p) rest) (sym (none_more o))
  all_nested o i (block b bs) rest h =
      let p = and_parts (is_normal_block i b) (are_normal_blocks false bs) h in
      first_nested o i b (flat_all bs rest) p.0 ∙ all_nested (with_block o b) false bs rest p.1
      ∙ ap (λ q. nested (Some q) rest) (blocks_more o b bs)

  first_nested : (o : Stack) (i : Bool) (b : Block) (rest : Blocks) → is_normal_block i b ≡ true
      → nested (Some o) (flat_before b rest) ≡ nested (Some (with_block o b)) rest
  first_nested o i (paragraph xs) rest h = refl
  first_nested o i (heading level xs) rest h = refl
  first_nested o i (code_block language s) rest h = refl
  first_nested o i (quote content) rest h =
      let p = and_parts (is_filled content) (are_normal_blocks false content) h in
      ap (λ c. nested (option_of_both with_block (Some o) (option_of quote c)) rest)
      (all_nested (outside no_blocks) false content no_blocks p.1)
  first_nested o i thematic_break rest h = refl
  first_nested o i (list start is_tight items) rest h =
      let p = and_parts (is_normal_list start is_tight (flat_items items)) (are_normal_items items) h in
      ap (λ c. nested (option_of_both with_block (Some o) (option_of (list start is_tight) c)) rest)
      (items_nested items p.1)
  first_nested o i (table alignments header rows) rest h = refl
  first_nested o i (element name attributes content) rest h =
      let p = and_parts (is_normal_element name attributes content) (are_normal_blocks false content) h in
      let values = (and_parts (list_all (λ a. is_attribute a.value) attributes)
      (is_filled content || may_be_empty name) p.0).0 in
      let last = line_before (end_of_element name) rest in
      in_line_cases (λ c t. nested (Some (inside name attributes no_blocks o)) (flat_all c last)
      ≡ nested (Some (inside name attributes c o)) last
      → nested (Some o) (element_before name attributes t (flat_all c last) rest)
      ≡ nested (Some (with_block o (element name attributes c))) rest)
      content p.1
      (λ e. whole_nested o name attributes [] rest values (whole_line name attributes [] values refl))
      (λ s t e. whole_nested o name attributes s rest values (whole_line name attributes s values (text_is_kept s t))
      ∙ ap (λ c. nested (Some (with_block o (element name attributes c))) rest) (some_text s t))
      (λ c n e. opened_nested o name attributes (flat_all c last) values ∙ e
      ∙ closed_nested o name attributes c rest)
      (all_nested (inside name attributes no_blocks o) false content last p.1)
  first_nested o i (tags s) rest h = absurd (cc)

  items_nested : (items : Items) → are_normal_items items ≡ true → nested_items (flat_items items) ≡ Some items
  items_nested no_items h = refl
  items_nested (item bs rest) h =
      let p = and_parts (are_normal_blocks true bs) (are_normal_items rest) h in
      ap (λ c. option_of_both item c (nested_items (flat_items rest)))
      (all_nested (outside no_blocks) true bs no_blocks p.0)
      ∙ ap (option_of_both item (Some bs)) (items_nested rest p.1)

pub nested_is : (d : Blocks) → IsNormal d → nested_document (flattened d) ≡ Some d
nested_is d h =
    all_nested (outside no_blocks) false d no_blocks
    (and_parts (are_normal_blocks false d) (nat_le (depth_among d) most_nested) h).0
