-- The document that a page shows where what is read is seen as the flat one of a settled document, with its elements.
use Rattle.std.proofs.Common.{◌≡◌, ℕ, Bool, true, false, refl, sym, ap, ◌∙◌, List, []}
use Rattle.std.proofs.Common.{◌∷◌, ◌++◌, Option, Some, None}
use Rattle.std.proofs.lemmas.Bool.{and_parts}
use Rattle.htmd_lexical.specs.Characters.{line_feed}
use Rattle.htmd_document.specs.Documents.{Block, paragraph, heading, code_block, quote, thematic_break, list}
use Rattle.htmd_document.specs.Documents.{table, element, tags, Blocks, no_blocks, block, Items, no_items, item}
use Rattle.htmd_document.specs.Documents.{BlockAttribute, text, no_inlines, inline}
use Rattle.htmd_document.specs.declared.document.BlockElement.{BlockElement}
use Rattle.htmd_document.specs.FlatDocuments.{line_before, element_before, flat_before, flat_all, flattened}
use Rattle.htmd_document.specs.FlatDocuments.{flat_items, text_in_line}
use Rattle.htmd_document.specs.NormalDocuments.{is_normal_block, are_normal_blocks}
use Rattle.htmd_document.specs.NormalDocuments.{are_normal_items, is_normal_list}
use Rattle.htmd_document.specs.Tags.{element_tag, end_of_element, element_line}
use Rattle.htmd_document.specs.TightItems.{is_filled}
use Rattle.htmd_commonmark_reading.specs.Markup as markup
use Rattle.htmd_law_texts.proofs.FlatForm.{in_line_cases}
use Rattle.htmd_law_rendering.specs.RenderedTrees.{blocks_trees}
use Rattle.htmd_law_returning.specs.SettledDocuments.{are_settled_blocks}
use Rattle.htmd_law_returning.specs.SettledDocuments.{is_right_list, are_settled_items}
use Rattle.htmd_law_returning.proofs.RawReadings.{blocks_have_no_raw}
use Rattle.htmd_law_returning.proofs.ElementForms.{is_settled_alone, are_settled_alone, settled-alone}
use Rattle.htmd_law_returning.proofs.StartLemmas.{false-true}
use Rattle.htmd_law_returning.proofs.BlockTrees.{page_blocks, cut_block, cut_blocks, cut_items}
use Rattle.htmd_law_returning.proofs.BlockTrees.{spelled_in}
use Rattle.htmd_law_returning.proofs.FlatTrees.{flat_open}
use Rattle.htmd_law_returning.proofs.FlatTrees.{are_good, flat-good, open-from}
use Rattle.htmd_law_returning.proofs.ElementTrees.{cut-text, element-form, onto-none, open-flat}

-- without the empty cells at the ends of rows, blocks are a flat document
record IsCut (d rest q : Blocks) : Type 0 where
  page : Blocks
  behind : Blocks
  is : flat_all page behind ≡ q
  same : cut_blocks page ≡ d
  others : cut_blocks behind ≡ rest

record IsCutBlock (b : Block) (r q : Blocks) : Type 0 where
  page : Block
  behind : Blocks
  is : flat_before page behind ≡ q
  same : cut_block page ≡ b
  others : cut_blocks behind ≡ r

record IsCutLine (line : List ℕ) (r q : Blocks) : Type 0 where
  behind : Blocks
  is : line_before line behind ≡ q
  others : cut_blocks behind ≡ r

record AreCutItems (items q : Items) : Type 0 where
  page : Items
  is : flat_items page ≡ q
  same : cut_items page ≡ items

record IsFirst (b : Block) (r q : Blocks) : Type 0 where
  first : Block
  behind : Blocks
  is : q ≡ block first behind
  same : cut_block first ≡ b
  others : cut_blocks behind ≡ r

first-cut : (q : Blocks) (b : Block) (r : Blocks) → cut_blocks q ≡ block b r → IsFirst b r q
first-cut no_blocks b r e = absurd (cc)
first-cut (block c q) b r e = record { first = c; behind = q; is = refl; same = (cc); others = (cc) }

none-cut : (q : Blocks) → cut_blocks q ≡ no_blocks → q ≡ no_blocks
none-cut no_blocks e = refl
none-cut (block c q) e = absurd (cc)

tags-cut : (b : Block) (s : List ℕ) → cut_block b ≡ tags s → b ≡ tags s
tags-cut (paragraph xs) s e = absurd (cc)
tags-cut (heading level xs) s e = absurd (cc)
tags-cut (code_block language t) s e = absurd (cc)
tags-cut (quote content) s e = absurd (cc)
tags-cut thematic_break s e = absurd (cc)
tags-cut (list start is_tight items) s e = absurd (cc)
tags-cut (table alignments header rows) s e = absurd (cc)
tags-cut (element name attributes content) s e = absurd (cc)
tags-cut (tags t) s e = e

quote-cut : (b : Block) (d : Blocks) → cut_block b ≡ quote d
    → (content : Blocks) × (b ≡ quote content) × (cut_blocks content ≡ d)
quote-cut (paragraph xs) d e = absurd (cc)
quote-cut (heading level xs) d e = absurd (cc)
quote-cut (code_block language t) d e = absurd (cc)
quote-cut (quote content) d e = (content, refl, cc)
quote-cut thematic_break d e = absurd (cc)
quote-cut (list start is_tight items) d e = absurd (cc)
quote-cut (table alignments header rows) d e = absurd (cc)
quote-cut (element name attributes content) d e = absurd (cc)
quote-cut (tags t) d e = absurd (cc)

list-cut : (b : Block) (start : Option ℕ) (is_tight : Bool) (d : Items) → cut_block b ≡ list start is_tight d
    → (items : Items) × (b ≡ list start is_tight items) × (cut_items items ≡ d)
list-cut (paragraph xs) start is_tight d e = absurd (cc)
list-cut (heading level xs) start is_tight d e = absurd (cc)
list-cut (code_block language t) start is_tight d e = absurd (cc)
list-cut (quote content) start is_tight d e = absurd (cc)
list-cut thematic_break start is_tight d e = absurd (cc)
list-cut (list s t items) start is_tight d e = (items, cc, cc)
list-cut (table alignments header rows) start is_tight d e = absurd (cc)
list-cut (element name attributes content) start is_tight d e = absurd (cc)
list-cut (tags t) start is_tight d e = absurd (cc)

record AreFirstItems (bs : Blocks) (rest q : Items) : Type 0 where
  first : Blocks
  behind : Items
  is : q ≡ item first behind
  same : cut_blocks first ≡ bs
  others : cut_items behind ≡ rest

first-item : (q : Items) (bs : Blocks) (rest : Items) → cut_items q ≡ item bs rest → AreFirstItems bs rest q
first-item no_items bs rest e = absurd (cc)
first-item (item cs q) bs rest e = record { first = cs; behind = q; is = refl; same = (cc); others = (cc) }

no-item-cut : (q : Items) → cut_items q ≡ no_items → q ≡ no_items
no-item-cut no_items e = refl
no-item-cut (item bs q) e = absurd (cc)

-- what begins with no tags
abbrev begins_plain : Blocks → Bool
begins_plain (block (tags s) bs) = false
begins_plain bs = true

begins-cut : (q : Blocks) → begins_plain (cut_blocks q) ≡ begins_plain q
begins-cut no_blocks = refl
begins-cut (block (paragraph xs) q) = refl
begins-cut (block (heading level xs) q) = refl
begins-cut (block (code_block language s) q) = refl
begins-cut (block (quote content) q) = refl
begins-cut (block thematic_break q) = refl
begins-cut (block (list start is_tight items) q) = refl
begins-cut (block (table alignments header rows) q) = refl
begins-cut (block (element name attributes content) q) = refl
begins-cut (block (tags s) q) = refl

line-first : (line : List ℕ) (q : Blocks) → begins_plain q ≡ true → line_before line q ≡ block (tags line) q
line-first line (block (tags s) q) h = false-true h
line-first line q h = refl

uncut-first : (line : List ℕ) (r q : Blocks) → begins_plain r ≡ true → cut_blocks q ≡ block (tags line) r
    → IsCutLine line r q
uncut-first line r q h e =
    let f = first-cut q (tags line) r e in
    record {
      behind = f.behind;
      is = line-first line f.behind (sym (begins-cut f.behind) ∙ (ap begins_plain f.others ∙ h))
          ∙ (ap (λ b. block b f.behind) (sym (tags-cut f.first line f.same)) ∙ sym f.is);
      others = f.others;
    }

uncut-line : (line : List ℕ) (r q : Blocks) → cut_blocks q ≡ line_before line r → IsCutLine line r q
uncut-line line (block (tags s) r) q e =
    let f = first-cut q (tags (line ++ line_feed ∷ s)) r e in
    record {
      behind = block (tags s) f.behind;
      is = ap (λ b. block b f.behind) (sym (tags-cut f.first (line ++ line_feed ∷ s) f.same)) ∙ sym f.is;
      others = ap (block (tags s)) f.others;
    }
uncut-line line r q e = uncut-first line r q refl e

-- no blocks stand in it, and it stays
abbrev is_leaf : Block → Bool
is_leaf (quote content) = false
is_leaf (list start is_tight items) = false
is_leaf (element name attributes content) = false
is_leaf b = true

cut-leaf : (b : Block) → is_leaf (cut_block b) ≡ is_leaf b
cut-leaf (paragraph xs) = refl
cut-leaf (heading level xs) = refl
cut-leaf (code_block language s) = refl
cut-leaf (quote content) = refl
cut-leaf thematic_break = refl
cut-leaf (list start is_tight items) = refl
cut-leaf (table alignments header rows) = refl
cut-leaf (element name attributes content) = refl
cut-leaf (tags s) = refl

kept-leaf : (b : Block) (r : Blocks) → is_leaf b ≡ true → flat_before b r ≡ block b r
kept-leaf (quote content) r h = false-true h
kept-leaf (list start is_tight items) r h = false-true h
kept-leaf (element name attributes content) r h = false-true h
kept-leaf b r h = refl

uncut-leaf : (b : Block) (r q : Blocks) → is_leaf b ≡ true → cut_blocks q ≡ block b r → IsCutBlock b r q
uncut-leaf b r q h e =
    let f = first-cut q b r e in
    record {
      page = f.first;
      behind = f.behind;
      is = kept-leaf f.first f.behind (sym (cut-leaf f.first) ∙ (ap is_leaf f.same ∙ h)) ∙ sym f.is;
      same = f.same;
      others = f.others;
    }

uncut-element : (name : BlockElement) (attributes : List BlockAttribute) (content r q : Blocks)
    → are_normal_blocks false content ≡ true
    → ((rest p : Blocks) → cut_blocks p ≡ flat_all content rest → IsCut content rest p)
    → cut_blocks q ≡ flat_before (element name attributes content) r
    → IsCutBlock (element name attributes content) r q
uncut-element name attributes content r q normal inner e =
    in_line_cases Uncut content normal (λ k t is. in_line no_blocks [] t refl is)
    (λ s n k t is. in_line (block (paragraph (inline (text s) no_inlines)) no_blocks) s t refl is)
    (λ c n all t is. in_lines c all t is) inner refl e
  where
    Uncut : Blocks → Option (List ℕ) → Type 0
    Uncut c t =
        ((rest p : Blocks) → cut_blocks p ≡ flat_all c rest → IsCut c rest p) → text_in_line c ≡ t
        → cut_blocks q ≡ element_before name attributes t (flat_all c (line_before (end_of_element name) r)) r
        → IsCutBlock (element name attributes c) r q

    in_line : (c : Blocks) (s : List ℕ) → text_in_line c ≡ Some s → cut_blocks c ≡ c
        → cut_blocks q ≡ line_before (element_line name attributes s) r
        → IsCutBlock (element name attributes c) r q
    in_line c s t same is =
        let line = uncut-line (element_line name attributes s) r q is in
        let last : Blocks = line_before (end_of_element name) line.behind in
        record {
          page = element name attributes c;
          behind = line.behind;
          is = ap (λ o. element_before name attributes o (flat_all c last) line.behind) t ∙ line.is;
          same = ap (element name attributes) same;
          others = line.others;
        }

    in_lines : (c : Blocks) → ((rest p : Blocks) → cut_blocks p ≡ flat_all c rest → IsCut c rest p)
        → text_in_line c ≡ None
        → cut_blocks q
        ≡ line_before (element_tag name attributes) (flat_all c (line_before (end_of_element name) r))
        → IsCutBlock (element name attributes c) r q
    in_lines c all long is =
        let last = line_before (end_of_element name) r in
        let tag = uncut-line (element_tag name attributes) (flat_all c last) q is in
        let within = all last tag.behind tag.others in
        let end = uncut-line (end_of_element name) r within.behind within.others in
        record {
          page = element name attributes within.page;
          behind = end.behind;
          is = ap (λ t. element_before name attributes t (flat_all within.page (line_before (end_of_element name)
              end.behind)) end.behind) (sym (cut-text within.page) ∙ (ap text_in_line within.same ∙ long))
              ∙ (ap (λ k. line_before (element_tag name attributes) (flat_all within.page k)) end.is
              ∙ (ap (line_before (element_tag name attributes)) within.is ∙ tag.is));
          same = ap (element name attributes) within.same;
          others = end.others;
        }

mutual
  uncut : (in_item : Bool) (d rest q : Blocks) → are_settled_alone d ≡ true → are_normal_blocks in_item d ≡ true
      → cut_blocks q ≡ flat_all d rest → IsCut d rest q
  uncut in_item no_blocks rest q settled normal e =
      record { page = no_blocks; behind = q; is = refl; same = refl; others = e }
  uncut in_item (block b bs) rest q settled normal e =
      let good = and_parts (is_settled_alone b) (are_settled_alone bs) settled in
      let form = and_parts (is_normal_block in_item b) (are_normal_blocks false bs) normal in
      let one = uncut-one in_item b (flat_all bs rest) q good.0 form.0 e in
      let more = uncut false bs rest one.behind good.1 form.1 one.others in
      record {
        page = block one.page more.page;
        behind = more.behind;
        is = ap (flat_before one.page) more.is ∙ one.is;
        same = ap (λ x. block x (cut_blocks more.page)) one.same ∙ ap (block b) more.same;
        others = more.others;
      }

  uncut-one : (in_item : Bool) (b : Block) (r q : Blocks) → is_settled_alone b ≡ true
      → is_normal_block in_item b ≡ true
      → cut_blocks q ≡ flat_before b r → IsCutBlock b r q
  uncut-one in_item (quote content) r q settled normal e =
      let form = and_parts (is_filled content) (are_normal_blocks false content) normal in
      let f = first-cut q (quote (flattened content)) r e in
      let own = quote-cut f.first (flattened content) f.same in
      let inner = uncut false content no_blocks own.0 settled form.1 own.2 in
      record {
        page = quote inner.page;
        behind = f.behind;
        is = ap (λ k. block (quote (flat_all inner.page k)) f.behind) (sym (none-cut inner.behind inner.others))
            ∙ (ap (λ c. block (quote c) f.behind) inner.is
            ∙ (ap (λ b. block b f.behind) (sym own.1) ∙ sym f.is));
        same = ap quote inner.same;
        others = f.others;
      }
  uncut-one in_item (list start is_tight items) r q settled normal e =
      let good = and_parts (is_right_list is_tight items) (are_settled_items items) settled in
      let form = and_parts (is_normal_list start is_tight (flat_items items)) (are_normal_items items) normal in
      let f = first-cut q (list start is_tight (flat_items items)) r e in
      let own = list-cut f.first start is_tight (flat_items items) f.same in
      let inner = uncut-items items own.0 good.1 form.1 own.2 in
      record {
        page = list start is_tight inner.page;
        behind = f.behind;
        is = ap (λ x. block (list start is_tight x) f.behind) inner.is
            ∙ (ap (λ b. block b f.behind) (sym own.1) ∙ sym f.is);
        same = ap (list start is_tight) inner.same;
        others = f.others;
      }
  uncut-one in_item (element name attributes content) r q settled normal e =
      let own = element-form name attributes content settled normal in
      uncut-element name attributes content r q own.normal
      (λ rest p same. uncut false content rest p own.settled own.normal same) e
  uncut-one in_item (paragraph xs) r q settled normal e = uncut-leaf (paragraph xs) r q refl e
  uncut-one in_item (heading level xs) r q settled normal e = uncut-leaf (heading level xs) r q refl e
  uncut-one in_item (code_block language s) r q settled normal e = uncut-leaf (code_block language s) r q refl e
  uncut-one in_item thematic_break r q settled normal e = uncut-leaf thematic_break r q refl e
  uncut-one in_item (table alignments header rows) r q settled normal e =
      uncut-leaf (table alignments header rows) r q refl e
  uncut-one in_item (tags s) r q settled normal e = false-true settled

  uncut-items : (items q : Items) → are_settled_items items ≡ true → are_normal_items items ≡ true
      → cut_items q ≡ flat_items items → AreCutItems items q
  uncut-items no_items q settled normal e =
      record { page = no_items; is = sym (no-item-cut q e); same = refl }
  uncut-items (item bs rest) q settled normal e =
      let good = and_parts (are_settled_blocks bs) (are_settled_items rest) settled in
      let form = and_parts (are_normal_blocks true bs) (are_normal_items rest) normal in
      let f = first-item q (flattened bs) (flat_items rest) e in
      let inner = uncut true bs no_blocks f.first (settled-alone bs good.0) form.0 f.same in
      let more = uncut-items rest f.behind good.1 form.1 f.others in
      record {
        page = item inner.page more.page;
        is = ap (λ k. item (flat_all inner.page k) (flat_items more.page)) (sym (none-cut inner.behind inner.others))
            ∙ (ap (λ c. item c (flat_items more.page)) inner.is ∙ (ap (item f.first) more.is ∙ sym f.is));
        same = ap (λ c. item c (cut_items more.page)) inner.same ∙ ap (item bs) more.same;
      }

-- the document that a page shows where what is read is seen as the flat one of a settled document
pub record IsPage (bs : markup.Blocks) (d : Blocks) : Type 0 where
  pub page : Blocks
  pub same : cut_blocks page ≡ d
  pub flat : flattened page ≡ page_blocks bs
  pub trees : blocks_trees false false bs ≡ spelled_in page

pub elements-from : (bs : markup.Blocks) (d : Blocks) → blocks_have_no_raw bs ≡ true
    → cut_blocks (page_blocks bs) ≡ flattened d → are_settled_alone d ≡ true
    → are_normal_blocks false d ≡ true
    → IsPage bs d
elements-from bs d h e settled normal =
    let u = uncut false d no_blocks (page_blocks bs) settled normal e in
    let is : flattened u.page ≡ page_blocks bs = ap (flat_all u.page) (sym (none-cut u.behind u.others)) ∙ u.is in
    record {
      page = u.page;
      same = u.same;
      flat = is;
      trees = ap (λ o. o.first) (open-from bs h (ap are_good e ∙ flat-good false d no_blocks normal refl))
          ∙ (ap (λ q. (flat_open q).first) (sym is)
          ∙ (ap (λ o. o.first) (open-flat false u.page no_blocks (ap are_settled_alone u.same ∙ settled)
          (ap (are_normal_blocks false) u.same ∙ normal) (λ h. refl) refl)
          ∙ onto-none u.page));
    }
