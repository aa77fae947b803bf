-- The trees of elements: flat documents have their tags in lines, and their trees are those of the document.
use Rattle.std.proofs.Common.{◌≡◌, ℕ, Bool, true, false, ◌||◌, refl, sym, ap, ◌∙◌, List, []}
use Rattle.std.proofs.Common.{◌∷◌, Option, Some, None, codes, subst}
use Rattle.std.specs.List.{list_all}
use Rattle.std.proofs.lemmas.Bool.{and_parts}
use Rattle.htmd_lexical.proofs.Cases.{test}
use Rattle.htmd_grammar.specs.Nesting.{is_table}
use Rattle.htmd_grammar.proofs.NestingLemmas.{one_name}
use Rattle.htmd_document.specs.Documents.{Inlines, Block, paragraph, heading, code_block, quote, thematic_break, list}
use Rattle.htmd_document.specs.Documents.{table, element, tags, Blocks, no_blocks, block, Items, no_items, item}
use Rattle.htmd_document.specs.Documents.{BlockAttribute}
use Rattle.htmd_document.specs.declared.document.BlockElement.{BlockElement}
use Rattle.htmd_document.specs.declared.document.BlockElement.TheVariants as an
use Rattle.htmd_document.specs.FlatDocuments.{line_before, element_before, flat_before, flat_all, flattened}
use Rattle.htmd_document.specs.FlatDocuments.{flat_items, text_in_line}
use Rattle.htmd_document.specs.NormalDocuments.{is_normal_block, are_normal_blocks, is_normal_element, may_be_empty}
use Rattle.htmd_document.specs.NormalDocuments.{are_normal_items, is_normal_list}
use Rattle.htmd_document.specs.NormalInlines.{is_attribute, is_kept}
use Rattle.htmd_document.specs.Tags.{element_name, element_tag, end_of_element, element_line}
use Rattle.htmd_document.specs.TightItems.{is_filled}
use Rattle.htmd_commonmark_reading.specs.Elements as lines
use Rattle.htmd_commonmark_reading.specs.Elements.{line_of}
use Rattle.htmd_law_blocks.proofs.TextsLemmas.{IsClean, written_one, written_last}
use Rattle.htmd_law_texts.proofs.FlatForm.{in_line_cases, text_is_kept}
use Rattle.htmd_law_texts.proofs.TagTexts.{tag_line, end_line, whole_line, tag_clean}
use Rattle.htmd_law_texts.proofs.NestedLines.{opening_read, closing_read, whole_read}
use Rattle.htmd_law_rendering.specs.RenderedTrees.{Open, Behind, onto, with_line, with_lines, line_end, lines_before}
use Rattle.htmd_law_rendering.specs.RenderedTrees.{sectioned}
use Rattle.htmd_law_rendering.specs.RenderedTrees.{list_name, pairs_of_start}
use Rattle.htmd_law_rendering.specs.RenderedTrees.{pairs_of_element, with_raw, bounds_section, is_caption}
use Rattle.htmd_law_rendering.specs.RawTags.{opening, closing}
use Rattle.htmd_law_rendering.specs.SpelledTrees as trees
use Rattle.htmd_law_rendering.specs.SpelledTrees.{SpelledForest}
use Rattle.htmd_law_returning.specs.SettledDocuments.{are_settled_blocks}
use Rattle.htmd_law_returning.specs.SettledDocuments.{is_right_list, are_settled_items}
use Rattle.htmd_law_returning.proofs.ElementForms.{is_settled_alone, are_settled_alone, settled-alone}
use Rattle.htmd_law_returning.proofs.ElementForms.{is_bounded, are_table_parts, parts-long}
use Rattle.htmd_law_returning.proofs.SectionTrees.{is_outside, is_no_table, no-section, inside-plain, rows-apart}
use Rattle.htmd_law_returning.proofs.SectionTrees.{parts-apart, table-closing, table-opening, in_section, row-before}
use Rattle.htmd_law_returning.proofs.SectionTrees.{caption-before, caption-closing, caption-opening, caption-whole}
use Rattle.htmd_law_returning.proofs.SectionTrees.{inner-closing, inner-opening, inner-whole}
use Rattle.htmd_law_returning.proofs.SectionTrees.{is_bound, IsOutside, rest-outside, first-outside}
use Rattle.htmd_law_returning.proofs.BlockTrees.{spelled_inside, Parts, table_parts}
use Rattle.htmd_law_returning.proofs.BlockTrees.{spelled_element, element-apart}
use Rattle.htmd_law_returning.proofs.StartLemmas.{false-true, true-false}
use Rattle.htmd_law_returning.proofs.ListLemmas.{before-filled}
use Rattle.htmd_law_returning.proofs.LineEndLemmas.{ended_before}
use Rattle.htmd_law_returning.proofs.TreesLemmas.{spelled_line}
use Rattle.htmd_law_returning.proofs.BlockTrees.{cut_block, cut_blocks, cut_items, behind_both, item_trees}
use Rattle.htmd_law_returning.proofs.BlockTrees.{spelled_before, spelled_in, spelled_items, spelled_before_line}
use Rattle.htmd_law_returning.proofs.BlockTrees.{line-apart, items-apart}
use Rattle.htmd_law_returning.proofs.FlatTrees.{tail_of, with_tail, flat_item, flat_open, item_trees_of}

-- ---- lines of tags

-- a line of tags before flat blocks stands before their trees
line-open : (line : List ℕ) (rest : Blocks) → IsClean line
    → flat_open (line_before line rest) ≡ with_line (line_of line) (flat_open rest)
line-open line no_blocks c = ap (λ ls. with_lines ls (flat_open no_blocks)) (written_last line c)
line-open line (block (paragraph xs) bs) c =
    ap (λ ls. with_lines ls (flat_open (block (paragraph xs) bs))) (written_last line c)
line-open line (block (heading level xs) bs) c =
    ap (λ ls. with_lines ls (flat_open (block (heading level xs) bs))) (written_last line c)
line-open line (block (code_block language s) bs) c =
    ap (λ ls. with_lines ls (flat_open (block (code_block language s) bs))) (written_last line c)
line-open line (block (quote content) bs) c =
    ap (λ ls. with_lines ls (flat_open (block (quote content) bs))) (written_last line c)
line-open line (block thematic_break bs) c =
    ap (λ ls. with_lines ls (flat_open (block thematic_break bs))) (written_last line c)
line-open line (block (list start is_tight items) bs) c =
    ap (λ ls. with_lines ls (flat_open (block (list start is_tight items) bs))) (written_last line c)
line-open line (block (table alignments header rows) bs) c =
    ap (λ ls. with_lines ls (flat_open (block (table alignments header rows) bs))) (written_last line c)
line-open line (block (element name attributes content) bs) c =
    ap (λ ls. with_lines ls (flat_open (block (element name attributes content) bs))) (written_last line c)
line-open line (block (tags s) bs) c = ap (λ ls. with_lines ls (flat_open bs)) (written_one line s c)

-- ---- documents with elements

-- the trees of blocks before others
abbrev trees_onto : Blocks → SpelledForest → SpelledForest
trees_onto no_blocks ts = ts
trees_onto (block b bs) ts = spelled_before b (trees_onto bs ts)

pub onto-none : (bs : Blocks) → trees_onto bs trees.none ≡ spelled_in bs
onto-none no_blocks = refl
onto-none (block b bs) = ap (spelled_before b) (onto-none bs)

-- a line's end before them is a text of its own
abbrev IsApart : SpelledForest → Type 0
IsApart ts = line_end ts ≡ spelled_before_line ts

onto-apart : (bs : Blocks) (ts : SpelledForest) → IsApart ts → IsApart (trees_onto bs ts)
onto-apart no_blocks ts e = e
onto-apart (block (paragraph xs) bs) ts e = refl
onto-apart (block (heading level xs) bs) ts e = refl
onto-apart (block (code_block language s) bs) ts e = refl
onto-apart (block (quote content) bs) ts e = refl
onto-apart (block thematic_break bs) ts e = refl
onto-apart (block (list start is_tight items) bs) ts e = refl
onto-apart (block (table alignments header rows) bs) ts e = refl
onto-apart (block (element name attributes content) bs) ts e =
    element-apart name attributes (text_in_line content) (spelled_inside name (spelled_in content)) (trees_onto bs ts)
onto-apart (block (tags s) bs) ts e = refl

pub cut-text : (bs : Blocks) → text_in_line (cut_blocks bs) ≡ text_in_line bs
cut-text no_blocks = refl
cut-text (block (paragraph xs) no_blocks) = refl
cut-text (block (heading level xs) no_blocks) = refl
cut-text (block (code_block language s) no_blocks) = refl
cut-text (block (quote content) no_blocks) = refl
cut-text (block thematic_break no_blocks) = refl
cut-text (block (list start is_tight items) no_blocks) = refl
cut-text (block (table alignments header rows) no_blocks) = refl
cut-text (block (element name attributes content) no_blocks) = refl
cut-text (block (tags s) no_blocks) = refl
cut-text (block b (block c bs)) = refl

-- a settled element
pub record IsElement (name : BlockElement) (attributes : List BlockAttribute) (content : Blocks) : Type 0 where
  pub bounded : is_bounded name content ≡ true
  pub values : list_all (λ a. is_attribute a.value) attributes ≡ true
  pub settled : are_settled_alone content ≡ true
  pub normal : are_normal_blocks false content ≡ true

pub element-form : (name : BlockElement) (attributes : List BlockAttribute) (content : Blocks)
    → is_settled_alone (element name attributes content) ≡ true
    → is_normal_block false (element name attributes content) ≡ true → IsElement name attributes content
element-form name attributes content settled normal =
    let good = and_parts (is_bounded name content) (are_settled_alone content) settled in
    let form = and_parts (is_normal_element name attributes content) (are_normal_blocks false content) normal in
    let own = and_parts (list_all (λ a. is_attribute a.value) attributes) (is_filled content || may_be_empty name)
    form.0 in
    record {
      bounded = good.0;
      values = own.0;
      settled = good.1;
      normal = form.1;
    }

-- the trees of a block, with others behind them
abbrev behind_own : Block → Blocks → SpelledForest → Open
behind_own b r us = record (flat_open r) { first = tail_of (spelled_before b trees.none) us }

no-caption : (n : List ℕ) → bounds_section n ≡ false → is_caption n ≡ false
no-caption n h =
    test (is_caption n)
    (λ t. let w = one_name (codes "caption") n t in
    true-false (subst (λ m. bounds_section m ≡ false) w h)) (λ t. t)

-- tags that bound no section
plain-opening : (name : BlockElement) (attributes : List BlockAttribute) (o : Open)
    → bounds_section (element_name name) ≡ false
    → with_line (lines.opening name attributes) o
    ≡ with_raw (opening (element_name name) (pairs_of_element attributes)) (onto line_end o)
plain-opening name attributes o h = rw (h, no-caption (element_name name) h) refl

plain-closing : (name : BlockElement) (o : Open) → bounds_section (element_name name) ≡ false
    → with_line (lines.closing name) o ≡ with_raw (closing (element_name name)) (onto line_end o)
plain-closing name o h =
    let n = element_name name in
    test (is_table n)
    (λ t. let w = one_name (codes "table") n t in
    true-false (subst (λ m. bounds_section m ≡ false) w h)) (λ t. rw (h, t) refl)

plain-whole : (name : BlockElement) (attributes : List BlockAttribute) (s : List ℕ) (o : Open)
    → bounds_section (element_name name) ≡ false
    → with_line (lines.whole name attributes s) o
    ≡ onto (λ ts. trees.more (trees.lone (element_name name) (pairs_of_element attributes) s) (line_end ts)) o
plain-whole name attributes s o h = rw (h, no-caption (element_name name) h) refl

-- the tags of an element, whatever stands around it
record IsPlain (name : BlockElement) (attributes : List BlockAttribute) (o : Open) : Type 0 where
  closes : with_line (lines.closing name) o ≡ record {
    first = trees.none;
    behind = record { name = element_name name; trees = line_end o.first } ∷ o.behind;
  }
  opens : (us ts : SpelledForest)
      → with_line (lines.opening name attributes)
      (record { first = us; behind = record { name = element_name name; trees = ts } ∷ o.behind })
      ≡ record {
        first = trees.more
            (trees.element trees.spaced (element_name name) (pairs_of_element attributes) (line_end us)) ts;
        behind = o.behind;
      }
  whole : (s : List ℕ) → with_line (lines.whole name attributes s) o ≡ record {
    first = trees.more (trees.lone (element_name name) (pairs_of_element attributes) s) (line_end o.first);
    behind = o.behind;
  }

plain-tags : (name : BlockElement) (attributes : List BlockAttribute) (o : Open)
    → bounds_section (element_name name) ≡ false → IsPlain name attributes o
plain-tags name attributes o h = record {
  closes = plain-closing name o h;
  opens = λ us ts. plain-opening name attributes
      (record { first = us; behind = record { name = element_name name; trees = ts } ∷ o.behind }) h;
  whole = λ s. plain-whole name attributes s o h;
}

is-plain : (name : BlockElement) (attributes : List BlockAttribute) (o : Open) → is_no_table name ≡ true
    → (bounds_section (element_name name) ≡ true → is_outside o.behind ≡ true) → IsPlain name attributes o
is-plain an.Table attributes o h outside = false-true h
is-plain an.Caption attributes o h outside = record {
  closes = caption-closing attributes o (outside refl);
  opens = caption-opening attributes o (outside refl);
  whole = caption-whole attributes o (outside refl);
}
is-plain name attributes o h outside = plain-tags name attributes o refl

element-ends : (name : BlockElement) (attributes : List BlockAttribute) (content r : Blocks)
    → is_no_table name ≡ true → IsPlain name attributes (flat_open r) → IsApart (flat_open r).first
    → with_line (lines.opening name attributes) (onto (trees_onto content)
    (with_line (lines.closing name) (flat_open r)))
    ≡ onto (spelled_element name attributes None (spelled_inside name (spelled_in content))) (flat_open r)
element-ends name attributes content r h plain e =
    let o = flat_open r in
    let tree : SpelledForest → SpelledForest → Open = λ us ts. record {
      first = trees.more (trees.element trees.spaced (element_name name) (pairs_of_element attributes) us) ts;
      behind = o.behind;
    } in
    ap (λ u. with_line (lines.opening name attributes) (onto (trees_onto content) u)) plain.closes
    ∙ (plain.opens (trees_onto content trees.none) (line_end o.first)
    ∙ (ap (λ us. tree (line_end us) (line_end o.first)) (onto-none content)
    ∙ (ap (λ us. tree us (line_end o.first)) (line-apart content)
    ∙ (ap (tree (spelled_before_line (spelled_in content))) e
    ∙ ap (λ us. tree (spelled_before_line us) (spelled_before_line o.first))
    (sym (inside-plain name (spelled_in content) h))))))

-- in one line or in more
element-flat : (name : BlockElement) (attributes : List BlockAttribute) (content r : Blocks)
    → IsElement name attributes (cut_blocks content) → is_no_table name ≡ true
    → IsPlain name attributes (flat_open r) → IsApart (flat_open r).first
    → (IsApart (flat_open (line_before (end_of_element name) r)).first
    → is_outside (flat_open (line_before (end_of_element name) r)).behind ≡ true
    → flat_open (flat_all content (line_before (end_of_element name) r))
    ≡ onto (trees_onto content) (flat_open (line_before (end_of_element name) r)))
    → flat_open (flat_before (element name attributes content) r)
    ≡ onto (spelled_before (element name attributes content)) (flat_open r)
element-flat name attributes content r own other plain e inner =
    subst IsFlat (cut-text content)
    (in_line_cases (λ c t. IsFlat t) (cut_blocks content) own.normal (in_line [] refl)
    (λ s k. in_line s (text_is_kept s k)) (λ c n. in_lines))
  where
    IsFlat : Option (List ℕ) → Type 0
    IsFlat t =
        flat_open (element_before name attributes t (flat_all content (line_before (end_of_element name) r)) r)
        ≡ onto (spelled_element name attributes t (spelled_inside name (spelled_in content))) (flat_open r)

    in_line : (s : List ℕ) → list_all is_kept s ≡ true → IsFlat (Some s)
    in_line s k =
        line-open (element_line name attributes s) r
        (tag_clean (element_line name attributes s) (whole_line name attributes s own.values k))
        ∙ (ap (λ l. with_line l (flat_open r)) (whole_read name attributes s)
        ∙ (plain.whole s ∙ ap (λ ts. record {
          first = trees.more (trees.lone (element_name name) (pairs_of_element attributes) s) ts;
          behind = (flat_open r).behind;
        }) e))

    in_lines : IsFlat None
    in_lines =
        let last = line_before (end_of_element name) r in
        let closed : flat_open last ≡ with_line (lines.closing name) (flat_open r) =
        line-open (end_of_element name) r (tag_clean (end_of_element name) (end_line name))
        ∙ ap (λ l. with_line l (flat_open r)) (closing_read name) in
        let inside : flat_open (flat_all content last) ≡ onto (trees_onto content) (flat_open last) =
        inner (subst (λ (o : Open). IsApart o.first) (sym (closed ∙ plain.closes)) refl)
        (subst (λ (o : Open). is_outside o.behind ≡ true) (sym (closed ∙ plain.closes)) (no-section name other)) in
        line-open (element_tag name attributes) (flat_all content last)
        (tag_clean (element_tag name attributes) (tag_line name attributes own.values))
        ∙ (ap (λ l. with_line l (flat_open (flat_all content last))) (opening_read name attributes)
        ∙ (ap (with_line (lines.opening name attributes)) (inside ∙ ap (onto (trees_onto content)) closed)
        ∙ element-ends name attributes content r other plain e))

-- a caption in a table: behind it rows are in a section, and before it
caption-flat : (attributes : List BlockAttribute) (content r : Blocks) (rows after vs : SpelledForest)
    (behind : List Behind)
    → IsElement an.Caption attributes (cut_blocks content)
    → flat_open r ≡ in_section rows after vs behind → IsApart (sectioned rows after)
    → (IsApart (flat_open (line_before (end_of_element an.Caption) r)).first
    → is_outside (flat_open (line_before (end_of_element an.Caption) r)).behind ≡ true
    → flat_open (flat_all content (line_before (end_of_element an.Caption) r))
    ≡ onto (trees_onto content) (flat_open (line_before (end_of_element an.Caption) r)))
    → flat_open (flat_before (element an.Caption attributes content) r)
    ≡ in_section trees.none (spelled_element an.Caption attributes (text_in_line content) (spelled_in content)
    (sectioned rows after)) vs behind
caption-flat attributes content r rows after vs behind own is e inner =
    subst IsFlat (cut-text content)
    (in_line_cases (λ c t. IsFlat t) (cut_blocks content) own.normal (in_line [] refl)
    (λ s k. in_line s (text_is_kept s k)) (λ c n. in_lines))
  where
    IsFlat : Option (List ℕ) → Type 0
    IsFlat t =
        flat_open (element_before an.Caption attributes t (flat_all content (line_before (end_of_element an.Caption)
        r)) r)
        ≡ in_section trees.none (spelled_element an.Caption attributes t (spelled_in content) (sectioned rows after))
        vs behind

    in_line : (s : List ℕ) → list_all is_kept s ≡ true → IsFlat (Some s)
    in_line s k =
        line-open (element_line an.Caption attributes s) r
        (tag_clean (element_line an.Caption attributes s) (whole_line an.Caption attributes s own.values k))
        ∙ (ap (λ l. with_line l (flat_open r)) (whole_read an.Caption attributes s)
        ∙ (ap (with_line (lines.whole an.Caption attributes s)) is
        ∙ (inner-whole attributes rows after vs behind s
        ∙ ap (λ us. in_section trees.none
        (trees.more (trees.lone (codes "caption") (pairs_of_element attributes) s) us) vs behind) e)))

    in_lines : IsFlat None
    in_lines =
        let last = line_before (end_of_element an.Caption) r in
        let others : SpelledForest = sectioned rows after in
        let ended : Open = record {
          first = trees.none;
          behind = record { name = codes "caption"; trees = line_end others }
              ∷ record { name = codes "table"; trees = vs } ∷ behind;
        } in
        let closed : flat_open last ≡ ended =
        line-open (end_of_element an.Caption) r (tag_clean (end_of_element an.Caption) (end_line an.Caption))
        ∙ (ap (λ l. with_line l (flat_open r)) (closing_read an.Caption)
        ∙ (ap (with_line (lines.closing an.Caption)) is ∙ inner-closing attributes rows after vs behind)) in
        let inside : flat_open (flat_all content last) ≡ onto (trees_onto content) (flat_open last) =
        inner (subst (λ (o : Open). IsApart o.first) (sym closed) refl)
        (subst (λ (o : Open). is_outside o.behind ≡ true) (sym closed) refl) in
        let tree : SpelledForest → SpelledForest → Open = λ us ts.
        in_section trees.none (trees.more (trees.element trees.spaced (codes "caption") (pairs_of_element attributes)
        us) ts) vs behind in
        line-open (element_tag an.Caption attributes) (flat_all content last)
        (tag_clean (element_tag an.Caption attributes) (tag_line an.Caption attributes own.values))
        ∙ (ap (λ l. with_line l (flat_open (flat_all content last))) (opening_read an.Caption attributes)
        ∙ (ap (with_line (lines.opening an.Caption attributes)) (inside ∙ ap (onto (trees_onto content)) closed)
        ∙ (inner-opening attributes rows after vs behind (trees_onto content trees.none) (line_end others)
        ∙ (ap (λ us. tree (line_end us) (line_end others)) (onto-none content)
        ∙ (ap (λ us. tree us (line_end others)) (line-apart content)
        ∙ ap (tree (spelled_before_line (spelled_in content))) e)))))

-- a table: its rows are in sections
table-flat : (attributes : List BlockAttribute) (content r : Blocks)
    → IsElement an.Table attributes (cut_blocks content) → text_in_line content ≡ None
    → are_table_parts content ≡ true
    → IsApart (flat_open r).first → is_outside (flat_open r).behind ≡ true
    → (flat_open (line_before (end_of_element an.Table) r)
    ≡ in_section trees.none trees.none (line_end (flat_open r).first) (flat_open r).behind
    → flat_open (flat_all content (line_before (end_of_element an.Table) r))
    ≡ in_section (table_parts (spelled_in content)).rows (table_parts (spelled_in content)).after
    (line_end (flat_open r).first) (flat_open r).behind)
    → flat_open (flat_before (element an.Table attributes content) r)
    ≡ onto (spelled_before (element an.Table attributes content)) (flat_open r)
table-flat attributes content r own long parts e outside inner =
    let o = flat_open r in
    let ps : Parts = table_parts (spelled_in content) in
    let whole : SpelledForest = spelled_inside an.Table (spelled_in content) in
    let last = line_before (end_of_element an.Table) r in
    let closed : flat_open last ≡ in_section trees.none trees.none (line_end o.first) o.behind =
    line-open (end_of_element an.Table) r (tag_clean (end_of_element an.Table) (end_line an.Table))
    ∙ (ap (λ l. with_line l o) (closing_read an.Table) ∙ table-closing o outside) in
    let tree : SpelledForest → SpelledForest → Open = λ us ts. record {
      first = trees.more (trees.element trees.spaced (codes "table") (pairs_of_element attributes) us) ts;
      behind = o.behind;
    } in
    ap (λ t. flat_open (element_before an.Table attributes t (flat_all content last) r)) long
    ∙ (line-open (element_tag an.Table attributes) (flat_all content last)
    (tag_clean (element_tag an.Table attributes) (tag_line an.Table attributes own.values))
    ∙ (ap (λ l. with_line l (flat_open (flat_all content last))) (opening_read an.Table attributes)
    ∙ (ap (with_line (lines.opening an.Table attributes)) (inner closed)
    ∙ (table-opening attributes ps.rows ps.after (line_end o.first) o.behind
    ∙ (ap (λ us. tree us (line_end o.first)) (parts-apart content parts)
    ∙ (ap (tree (spelled_before_line whole)) e
    ∙ ap (λ t. onto (spelled_element an.Table attributes t whole) o) (sym long)))))))

-- whole cells or cut ones
pub uncut-parts : (bs : Blocks) → are_table_parts (cut_blocks bs) ≡ true → are_table_parts bs ≡ true
uncut-parts no_blocks h = refl
uncut-parts (block (element an.Row attributes content) bs) h = uncut-parts bs h
uncut-parts (block (element an.Caption attributes content) bs) h = uncut-parts bs h
uncut-parts (block b bs) h = false-true h

table-filled : (attributes : List BlockAttribute) (content : Blocks)
    → is_normal_block false (element an.Table attributes content) ≡ true → is_filled content ≡ true
table-filled attributes content normal =
    let form = and_parts (is_normal_element an.Table attributes content) (are_normal_blocks false content) normal in
    or-none (is_filled content)
    (and_parts (list_all (λ a. is_attribute a.value) attributes) (is_filled content || false) form.0).1
  where
    or-none : (b : Bool) → (b || false) ≡ true → b ≡ true
    or-none true h = refl
    or-none false h = false-true h

-- ---- items

line-item : (line : List ℕ) (rest : Blocks) (ts : SpelledForest)
    → flat_item true (line_before line rest) ts ≡ line_end ts
line-item line (block (tags s) bs) ts = refl
line-item line rest ts = refl

element-item : (name : BlockElement) (attributes : List BlockAttribute) (t : Option (List ℕ)) (inner rest : Blocks)
    (ts : SpelledForest) → flat_item true (element_before name attributes t inner rest) ts ≡ line_end ts
element-item name attributes None inner rest ts = line-item (element_tag name attributes) inner ts
element-item name attributes (Some s) inner rest ts = line-item (element_line name attributes s) rest ts

loose-flat : (d : Blocks) (ts : SpelledForest) → is_filled d ≡ true → flat_item false d ts ≡ line_end ts
loose-flat no_blocks ts h = false-true h
loose-flat (block b bs) ts h = refl

line-flat : (xs : Inlines) (d : Blocks) (ts : SpelledForest) → is_filled d ≡ true
    → flat_item true (block (paragraph xs) d) ts ≡ ended_before (behind_both ts) (spelled_line xs)
line-flat xs no_blocks ts h = false-true h
line-flat xs (block b bs) ts h = refl

-- what is in an item is in a flat one
same-item : (is_tight : Bool) (bs : Blocks)
    → flat_item is_tight (flattened bs) (spelled_in bs) ≡ item_trees is_tight bs (spelled_in bs)
same-item is_tight no_blocks = refl
same-item false (block b bs) =
    loose-flat (flattened (block b bs)) (spelled_in (block b bs)) (before-filled b (flattened bs))
    ∙ line-apart (block b bs)
same-item true (block (paragraph xs) no_blocks) = refl
same-item true (block (paragraph xs) (block b bs)) =
    line-flat xs (flattened (block b bs)) (spelled_in (block (paragraph xs) (block b bs)))
    (before-filled b (flattened bs))
same-item true (block (heading level xs) bs) = line-apart (block (heading level xs) bs)
same-item true (block (code_block language s) bs) = line-apart (block (code_block language s) bs)
same-item true (block (quote content) bs) = line-apart (block (quote content) bs)
same-item true (block thematic_break bs) = line-apart (block thematic_break bs)
same-item true (block (list start is_tight items) bs) = line-apart (block (list start is_tight items) bs)
same-item true (block (table alignments header rows) bs) = line-apart (block (table alignments header rows) bs)
same-item true (block (element name attributes content) bs) =
    element-item name attributes (text_in_line content)
    (flat_all content (line_before (end_of_element name) (flattened bs))) (flattened bs)
    (spelled_in (block (element name attributes content) bs))
    ∙ line-apart (block (element name attributes content) bs)
same-item true (block (tags s) bs) = line-apart (block (tags s) bs)

mutual
  pub open-flat : (in_item : Bool) (p rest : Blocks) → are_settled_alone (cut_blocks p) ≡ true
      → are_normal_blocks in_item (cut_blocks p) ≡ true → IsOutside (cut_blocks p) (flat_open rest).behind
      → IsApart (flat_open rest).first
      → flat_open (flat_all p rest) ≡ onto (trees_onto p) (flat_open rest)
  open-flat in_item no_blocks rest settled normal outside e = refl
  open-flat in_item (block b bs) rest settled normal outside e =
      let good = and_parts (is_settled_alone (cut_block b)) (are_settled_alone (cut_blocks bs)) settled in
      let form = and_parts (is_normal_block in_item (cut_block b)) (are_normal_blocks false (cut_blocks bs)) normal in
      let further : IsOutside (cut_blocks bs) (flat_open rest).behind =
      rest-outside (cut_block b) (cut_blocks bs) (flat_open rest).behind outside in
      let later = open-flat false bs rest good.1 form.1 further e in
      let apart : IsApart (flat_open (flat_all bs rest)).first =
      subst (λ (o : Open). IsApart o.first) (sym later) (onto-apart bs (flat_open rest).first e) in
      one-flat in_item b (flat_all bs rest) good.0 form.0
      (λ t. first-outside (cut_block b) (cut_blocks bs) (flat_open (flat_all bs rest)).behind t
      (subst (λ (o : Open). IsOutside (block (cut_block b) (cut_blocks bs)) o.behind) (sym later) outside))
      apart ∙ ap (onto (spelled_before b)) later

  one-flat : (in_item : Bool) (b : Block) (r : Blocks) → is_settled_alone (cut_block b) ≡ true
      → is_normal_block in_item (cut_block b) ≡ true
      → (is_bound (cut_block b) ≡ true → is_outside (flat_open r).behind ≡ true)
      → IsApart (flat_open r).first
      → flat_open (flat_before b r) ≡ onto (spelled_before b) (flat_open r)
  one-flat in_item (paragraph xs) r settled normal outside e = ap (behind_own (paragraph xs) r) e
  one-flat in_item (heading level xs) r settled normal outside e = ap (behind_own (heading level xs) r) e
  one-flat in_item (code_block language s) r settled normal outside e = ap (behind_own (code_block language s) r) e
  one-flat in_item (quote content) r settled normal outside e =
      let form = and_parts (is_filled (cut_blocks content)) (are_normal_blocks false (cut_blocks content)) normal in
      let inner : (flat_open (flattened content)).first ≡ spelled_in content =
      ap (λ o. o.first) (open-flat false content no_blocks settled form.1 (λ h. refl) refl) ∙ onto-none content in
      ap (λ us. onto (with_tail (lines_before (codes "blockquote") [] us trees.none)) (flat_open r)) inner
      ∙ (ap (λ us. onto (with_tail (trees.more (trees.element trees.spaced (codes "blockquote") [] us) trees.none))
      (flat_open r)) (line-apart content)
      ∙ ap (behind_own (quote content) r) e)
  one-flat in_item thematic_break r settled normal outside e = ap (behind_own thematic_break r) e
  one-flat in_item (list start is_tight items) r settled normal outside e =
      let d : Items = cut_items items in
      let good = and_parts (is_right_list is_tight d) (are_settled_items d) settled in
      let form = and_parts (is_normal_list start is_tight (flat_items d)) (are_normal_items d) normal in
      let name : List ℕ = list_name start in
      ap (λ us. onto (with_tail (lines_before name (pairs_of_start start) us trees.none)) (flat_open r))
      (items-flat is_tight items good.1 form.1)
      ∙ (ap (λ us. onto (with_tail
      (trees.more (trees.element trees.spaced name (pairs_of_start start) us) trees.none))
      (flat_open r)) (items-apart is_tight items)
      ∙ ap (behind_own (list start is_tight items) r) e)
  one-flat in_item (table alignments header rows) r settled normal outside e =
      ap (behind_own (table alignments header rows) r) e
  one-flat in_item (element an.Table attributes content) r settled normal outside e =
      let own = element-form an.Table attributes (cut_blocks content) settled normal in
      table-flat attributes content r own
      (sym (cut-text content) ∙ parts-long (cut_blocks content) own.bounded
      (table-filled attributes (cut_blocks content) normal)) (uncut-parts content own.bounded) e (outside refl)
      (parts-flat content (line_before (end_of_element an.Table) r) (line_end (flat_open r).first)
      (flat_open r).behind own.bounded own.settled own.normal)
  one-flat in_item (element name attributes content) r settled normal outside e =
      let own = element-form name attributes (cut_blocks content) settled normal in
      element-flat name attributes content r own refl (is-plain name attributes (flat_open r) refl outside) e
      (λ a o. open-flat false content (line_before (end_of_element name) r) own.settled own.normal (λ h. o) a)
  one-flat in_item (tags s) r settled normal outside e = false-true settled

  -- what stands in a table
  parts-flat : (p last : Blocks) (vs : SpelledForest) (behind : List Behind)
      → are_table_parts (cut_blocks p) ≡ true → are_settled_alone (cut_blocks p) ≡ true
      → are_normal_blocks false (cut_blocks p) ≡ true
      → flat_open last ≡ in_section trees.none trees.none vs behind
      → flat_open (flat_all p last)
      ≡ in_section (table_parts (spelled_in p)).rows (table_parts (spelled_in p)).after vs behind
  parts-flat no_blocks last vs behind parts settled normal is = is
  parts-flat (block (element an.Row attributes content) bs) last vs behind parts settled normal is =
      let b : Block = element an.Row attributes content in
      let good = and_parts (is_settled_alone (cut_block b)) (are_settled_alone (cut_blocks bs)) settled in
      let form = and_parts (is_normal_block false (cut_block b)) (are_normal_blocks false (cut_blocks bs)) normal in
      let later = parts-flat bs last vs behind parts good.1 form.1 is in
      let own = element-form an.Row attributes (cut_blocks content) good.0 form.0 in
      let r : Blocks = flat_all bs last in
      element-flat an.Row attributes content r own refl
      (is-plain an.Row attributes (flat_open r) refl (λ t. false-true t))
      (subst (λ (o : Open). IsApart o.first) (sym later) (rows-apart bs (uncut-parts bs parts)))
      (λ a o. open-flat false content (line_before (end_of_element an.Row) r) own.settled own.normal (λ h. o) a)
      ∙ (ap (onto (spelled_before b)) later
      ∙ ap (λ (ps : Parts). in_section ps.rows ps.after vs behind)
      (sym (row-before attributes (spelled_in content) (spelled_in bs) (text_in_line content))))
  parts-flat (block (element an.Caption attributes content) bs) last vs behind parts settled normal is =
      let b : Block = element an.Caption attributes content in
      let good = and_parts (is_settled_alone (cut_block b)) (are_settled_alone (cut_blocks bs)) settled in
      let form = and_parts (is_normal_block false (cut_block b)) (are_normal_blocks false (cut_blocks bs)) normal in
      let own = element-form an.Caption attributes (cut_blocks content) good.0 form.0 in
      let ps : Parts = table_parts (spelled_in bs) in
      caption-flat attributes content (flat_all bs last) ps.rows ps.after vs behind own
      (parts-flat bs last vs behind parts good.1 form.1 is) (parts-apart bs (uncut-parts bs parts))
      (λ a o. open-flat false content (line_before (end_of_element an.Caption) (flat_all bs last)) own.settled
      own.normal (λ h. o) a)
      ∙ ap (λ (ps : Parts). in_section ps.rows ps.after vs behind)
      (sym (caption-before attributes (spelled_in content) (spelled_in bs) (text_in_line content)))
  parts-flat (block b bs) last vs behind parts settled normal is = false-true parts

  -- in an item the lines stand as they do elsewhere
  items-flat : (is_tight : Bool) (items : Items) → are_settled_items (cut_items items) ≡ true
      → are_normal_items (cut_items items) ≡ true
      → item_trees_of is_tight (flat_items items) ≡ spelled_items is_tight items
  items-flat is_tight no_items settled normal = refl
  items-flat is_tight (item bs rest) settled normal =
      let good = and_parts (are_settled_blocks (cut_blocks bs)) (are_settled_items (cut_items rest)) settled in
      let form = and_parts (are_normal_blocks true (cut_blocks bs)) (are_normal_items (cut_items rest)) normal in
      let inner : (flat_open (flattened bs)).first ≡ spelled_in bs =
      ap (λ o. o.first) (open-flat true bs no_blocks (settled-alone (cut_blocks bs) good.0) form.0 (λ h. refl) refl)
      ∙ onto-none bs in
      let one : SpelledForest → SpelledForest → SpelledForest =
      λ us. trees.more (trees.element trees.spaced (codes "li") [] us) in
      let later : SpelledForest = line_end (item_trees_of is_tight (flat_items rest)) in
      ap (λ us. one (flat_item is_tight (flattened bs) us) later) inner
      ∙ (ap (λ us. one us later) (same-item is_tight bs)
      ∙ ap (one (item_trees is_tight bs (spelled_in bs)))
      (ap line_end (items-flat is_tight rest good.1 form.1) ∙ items-apart is_tight rest))
