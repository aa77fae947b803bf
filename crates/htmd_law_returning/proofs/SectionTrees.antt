-- The trees of a table whose rows are elements: its captions and its end tag end the sections of its rows, which have
-- no tags.
use Rattle.std.proofs.Common.{◌≡◌, ℕ, Bool, true, false, not, ◌&&◌, ◌||◌, List, [], ◌∷◌, Option, Some, None}
use Rattle.std.proofs.Common.{codes, refl, ap}
use Rattle.std.proofs.Common.{◌∙◌}
use Rattle.htmd_grammar.specs.Nesting.{is_tbody, is_table}
use Rattle.htmd_values.specs.ValueTrees as value
use Rattle.htmd_document.specs.Documents.{Block}
use Rattle.htmd_document.specs.Documents.{element, Blocks, no_blocks, block, BlockAttribute}
use Rattle.htmd_document.specs.declared.document.BlockElement.{BlockElement}
use Rattle.htmd_document.specs.declared.document.BlockElement.TheVariants as an
use Rattle.htmd_document.specs.FlatDocuments.{text_in_line}
use Rattle.htmd_document.specs.Tags.{element_name}
use Rattle.htmd_commonmark_reading.specs.Elements as lines
use Rattle.htmd_law_rendering.specs.RenderedTrees.{Open, Behind, with_line, line_end, left_of_section, onto}
use Rattle.htmd_law_rendering.specs.RenderedTrees.{section_name, pairs_of_element, bounds_section, sectioned, in_table}
use Rattle.htmd_law_rendering.specs.RenderedTrees.{before_caption}
use Rattle.htmd_law_rendering.specs.SpelledTrees as trees
use Rattle.htmd_law_rendering.specs.SpelledTrees.{SpelledForest, value_forest as forest_of}
use Rattle.htmd_law_returning.proofs.ElementForms.{are_table_parts}
use Rattle.htmd_law_returning.proofs.PageLemmas.{and-false}
use Rattle.htmd_law_returning.proofs.BlockTrees.{spelled_in, spelled_element, spelled_before_line}
use Rattle.htmd_law_returning.proofs.BlockTrees.{spelled_inside, Parts, table_parts}
use Rattle.htmd_law_returning.proofs.StartLemmas.{false-true, true-false, from-not}

-- ---- sections

-- the innermost element is no section and no table
abbrev pub is_outside : List Behind → Bool
is_outside [] = true
is_outside (b ∷ behind) = not (is_tbody b.name || is_table b.name)

neither : (a b : Bool) → not (a || b) ≡ true → (a ≡ false) × (b ≡ false)
neither true b h = false-true h
neither false b h = (refl, from-not b h)

left-outside : (first : SpelledForest) (behind : List Behind) → is_outside behind ≡ true
    → left_of_section first behind ≡ record { first = first; behind = behind }
left-outside first [] h = refl
left-outside first (b ∷ behind) h = rw (neither (is_tbody b.name) (is_table b.name) h).0 refl

no-table : (behind : List Behind) → is_outside behind ≡ true → in_table behind ≡ false
no-table [] h = refl
no-table (b ∷ behind) h = (neither (is_tbody b.name) (is_table b.name) h).1

-- the end tag of a table
pub table-closing : (o : Open) → is_outside o.behind ≡ true
    → with_line (lines.closing an.Table) o ≡ record {
      first = trees.none;
      behind = record { name = section_name; trees = trees.none } ∷ record {
        name = codes "table";
        trees = line_end o.first;
      } ∷ o.behind;
    }
table-closing o h =
    ap (λ (p : Open). record {
      first = trees.none;
      behind = record { name = section_name; trees = trees.none } ∷ record {
        name = codes "table";
        trees = line_end p.first;
      } ∷ p.behind;
    }) (left-outside o.first o.behind h)

-- and the one that begins it, before its rows
pub table-opening : (attributes : List BlockAttribute) (rows after ts : SpelledForest) (behind : List Behind)
    → with_line (lines.opening an.Table attributes) (record {
      first = rows;
      behind = record { name = section_name; trees = after } ∷ record { name = codes "table"; trees = ts } ∷ behind;
    })
    ≡ record {
      first = trees.more (trees.element trees.spaced (codes "table") (pairs_of_element attributes)
          (line_end (sectioned rows after))) ts;
      behind = behind;
    }
table-opening attributes rows after ts behind = refl

-- what a table is not
abbrev pub is_no_table : BlockElement → Bool
is_no_table an.Table = false
is_no_table name = true

pub no-section : (name : BlockElement) → is_no_table name ≡ true
    → not (is_tbody (element_name name) || is_table (element_name name)) ≡ true
no-section an.Table h = false-true h
no-section an.Details h = refl
no-section an.Summary h = refl
no-section an.Terms h = refl
no-section an.Term h = refl
no-section an.Meaning h = refl
no-section an.Figure h = refl
no-section an.FigureCaption h = refl
no-section an.Caption h = refl
no-section an.Row h = refl
no-section an.Cell h = refl
no-section an.HeaderCell h = refl

-- ---- captions outside of tables

module _ (attributes : List BlockAttribute) (o : Open) (h : is_outside o.behind ≡ true) where
  -- tags in lines before trees, as elsewhere
  pub caption-closing : with_line (lines.closing an.Caption) o ≡ record {
    first = trees.none;
    behind = record { name = codes "caption"; trees = line_end o.first } ∷ o.behind;
  }
  caption-closing =
      ap (λ (p : Open). record {
        first = trees.none;
        behind = record { name = codes "caption"; trees = line_end p.first } ∷ p.behind;
      }) (left-outside o.first o.behind h)

  apart-from : (first : SpelledForest)
      → before_caption (codes "caption") (record { first = first; behind = o.behind })
      ≡ record { first = first; behind = o.behind }
  apart-from first = rw (no-table o.behind h) refl

  pub caption-opening : (us ts : SpelledForest)
      → with_line (lines.opening an.Caption attributes)
      (record { first = us; behind = record { name = codes "caption"; trees = ts } ∷ o.behind })
      ≡ record {
        first = trees.more (trees.element trees.spaced (codes "caption") (pairs_of_element attributes) (line_end us))
            ts;
        behind = o.behind;
      }
  caption-opening us ts = apart-from (trees.more (trees.element trees.spaced (codes "caption")
      (pairs_of_element attributes) (line_end us)) ts)

  pub caption-whole : (s : List ℕ)
      → with_line (lines.whole an.Caption attributes s) o ≡ record {
        first = trees.more (trees.lone (codes "caption") (pairs_of_element attributes) s) (line_end o.first);
        behind = o.behind;
      }
  caption-whole s =
      let tree : Open → Open = λ p. before_caption (codes "caption") (onto (λ ts. trees.more
      (trees.lone (codes "caption") (pairs_of_element attributes) s) (line_end ts)) p) in
      ap tree (left-outside o.first o.behind h)
      ∙ apart-from (trees.more (trees.lone (codes "caption") (pairs_of_element attributes) s) (line_end o.first))

-- ---- and in them

-- where rows stand in a section, before what is behind that in a table
abbrev pub in_section : SpelledForest → SpelledForest → SpelledForest → List Behind → Open
in_section rows after ts behind = record {
  first = rows;
  behind = record { name = section_name; trees = after } ∷ record { name = codes "table"; trees = ts } ∷ behind;
}

module _ (attributes : List BlockAttribute) (rows after ts : SpelledForest) (behind : List Behind) where
  pub inner-closing : with_line (lines.closing an.Caption) (in_section rows after ts behind) ≡ record {
    first = trees.none;
    behind = record { name = codes "caption"; trees = line_end (sectioned rows after) }
        ∷ record { name = codes "table"; trees = ts } ∷ behind;
  }
  inner-closing = refl

  pub inner-opening : (us vs : SpelledForest)
      → with_line (lines.opening an.Caption attributes) (record {
        first = us;
        behind = record { name = codes "caption"; trees = vs } ∷ record { name = codes "table"; trees = ts }
            ∷ behind;
      })
      ≡ in_section trees.none (trees.more (trees.element trees.spaced (codes "caption") (pairs_of_element attributes)
      (line_end us)) vs) ts behind
  inner-opening us vs = refl

  pub inner-whole : (s : List ℕ)
      → with_line (lines.whole an.Caption attributes s) (in_section rows after ts behind)
      ≡ in_section trees.none (trees.more (trees.lone (codes "caption") (pairs_of_element attributes) s)
      (line_end (sectioned rows after))) ts behind
  inner-whole s = refl

-- ---- a line's end before a section is a text of its own

abbrev pub begins_text : SpelledForest → Bool
begins_text (trees.more (trees.text s) ts) = true
begins_text ts = false

plain-apart : (ts : SpelledForest) → begins_text ts ≡ false → line_end ts ≡ spelled_before_line ts
plain-apart trees.none h = refl
plain-apart (trees.more (trees.text s) ts) h = true-false h
plain-apart (trees.more t ts) h = refl

sectioned-apart : (ts after : SpelledForest) → begins_text ts ≡ false → begins_text after ≡ false
    → line_end (sectioned ts after) ≡ spelled_before_line (sectioned ts after)
sectioned-apart trees.none after h k = plain-apart after k
sectioned-apart (trees.more (trees.text s) ts) after h k = true-false h
sectioned-apart (trees.more t ts) after h k = refl

element-begins : (name : BlockElement) (attributes : List BlockAttribute) (t : Option (List ℕ))
    (content ts : SpelledForest) → begins_text (spelled_element name attributes t content ts) ≡ false
element-begins name attributes None content ts = refl
element-begins name attributes (Some s) content ts = refl

module _ (attributes : List BlockAttribute) (content ts : SpelledForest) where
  pub row-before : (t : Option (List ℕ))
      → table_parts (spelled_element an.Row attributes t content ts) ≡ record {
        rows = spelled_element an.Row attributes t content (table_parts ts).rows;
        after = (table_parts ts).after;
      }
  row-before None = refl
  row-before (Some s) = refl

  pub caption-before : (t : Option (List ℕ))
      → table_parts (spelled_element an.Caption attributes t content ts) ≡ record {
        rows = trees.none;
        after = spelled_element an.Caption attributes t content
            (sectioned (table_parts ts).rows (table_parts ts).after);
      }
  caption-before None = refl
  caption-before (Some s) = refl

pub parts-begin : (bs : Blocks) → are_table_parts bs ≡ true
    → (begins_text (table_parts (spelled_in bs)).rows ≡ false)
    × (begins_text (table_parts (spelled_in bs)).after ≡ false)
parts-begin no_blocks h = (refl, refl)
parts-begin (block (element an.Row attributes content) bs) h =
    let ps : Parts = table_parts (spelled_in bs) in
    let t : Option (List ℕ) = text_in_line content in
    let later = parts-begin bs h in
    let is = row-before attributes (spelled_in content) (spelled_in bs) t in (
      ap (λ (p : Parts). begins_text p.rows) is ∙ element-begins an.Row attributes t (spelled_in content) ps.rows,
      ap (λ (p : Parts). begins_text p.after) is ∙ later.1,
    )
parts-begin (block (element an.Caption attributes content) bs) h =
    let ps : Parts = table_parts (spelled_in bs) in
    let t : Option (List ℕ) = text_in_line content in
    let is = caption-before attributes (spelled_in content) (spelled_in bs) t in (
      ap (λ (p : Parts). begins_text p.rows) is,
      ap (λ (p : Parts). begins_text p.after) is
          ∙ element-begins an.Caption attributes t (spelled_in content) (sectioned ps.rows ps.after),
    )
parts-begin (block b bs) h = false-true h

pub parts-apart : (bs : Blocks) → are_table_parts bs ≡ true
    → line_end (spelled_inside an.Table (spelled_in bs))
    ≡ spelled_before_line (spelled_inside an.Table (spelled_in bs))
parts-apart bs h =
    let ps : Parts = table_parts (spelled_in bs) in
    let begin = parts-begin bs h in
    sectioned-apart ps.rows ps.after begin.0 begin.1

-- and before the rows in one
pub rows-apart : (bs : Blocks) → are_table_parts bs ≡ true
    → line_end (table_parts (spelled_in bs)).rows ≡ spelled_before_line (table_parts (spelled_in bs)).rows
rows-apart bs h = plain-apart (table_parts (spelled_in bs)).rows (parts-begin bs h).0

-- trees in all but tables
pub inside-plain : (name : BlockElement) (ts : SpelledForest) → is_no_table name ≡ true
    → spelled_inside name ts ≡ ts
inside-plain an.Table ts h = false-true h
inside-plain name ts h = refl

-- ---- where tables and captions are

abbrev pub is_bound : Block → Bool
is_bound (element name attributes content) = bounds_section (element_name name)
is_bound b = false

abbrev pub without_bounds : Blocks → Bool
without_bounds no_blocks = true
without_bounds (block b bs) = not (is_bound b) && without_bounds bs

-- where one is, no section is the innermost element, nor a table
abbrev pub IsOutside : Blocks → List Behind → Type 0
IsOutside d behind = without_bounds d ≡ false → is_outside behind ≡ true

pub rest-outside : (b : Block) (d : Blocks) (behind : List Behind) → IsOutside (block b d) behind
    → IsOutside d behind
rest-outside b d behind h e = h (ap (λ x. not (is_bound b) && x) e ∙ and-false (not (is_bound b)))

pub first-outside : (b : Block) (d : Blocks) (behind : List Behind) → is_bound b ≡ true
    → IsOutside (block b d) behind → is_outside behind ≡ true
first-outside b d behind t h = h (ap (λ x. not x && without_bounds d) t)

-- ---- and as they are on a page

-- rows are in a section
pub section-first : (attributes : List BlockAttribute) (t : Option (List ℕ)) (content rows after : SpelledForest)
    → forest_of (sectioned (spelled_element an.Row attributes t content rows) after)
    ≡ value.more (value.element section_name [] (forest_of (spelled_element an.Row attributes t content rows)))
    (forest_of after)
section-first attributes None content rows after = refl
section-first attributes (Some s) content rows after = refl
