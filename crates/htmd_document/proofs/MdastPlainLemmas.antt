-- No number of a document in the form of mdast is a float.
use Rattle.std.proofs.Common.{◌≡◌, ℕ, Bool, true, false, ◌||◌, List, [], ◌∷◌, map, Option, Some, None, if◌then◌else◌}
use Rattle.std.proofs.Common.{refl}
use Rattle.serde_json.specs.Data as json
use Rattle.serde_json.specs.Data.{Data}
use Rattle.serde_json.specs.View.{items_of}
use Rattle.serde_json.specs.Written.{has_float, items_have_float}
use Rattle.htmd_document.specs.declared.document.Alignment.{Alignment}
use Rattle.htmd_document.specs.declared.document.Alignment.TheVariants as aligned
use Rattle.htmd_document.specs.Documents as value
use Rattle.htmd_document.specs.Documents.{Inlines, no_inlines, inline, Inline, text, code, formatted, link, image}
use Rattle.htmd_document.specs.Formats.{Format}
use Rattle.htmd_document.specs.Formats.{Emphasis, Strong, Deleted, Superscript, Subscript, Inserted, Underlined, Marked}
use Rattle.htmd_document.specs.Formats.{Small, Keyboard, Abbreviation}
use Rattle.htmd_document.specs.FlatDocuments.{flattened}
use Rattle.htmd_document.specs.Documents.{anchor, line_break, task, Blocks, no_blocks, block, Block, paragraph, heading}
use Rattle.htmd_document.specs.Documents.{code_block, quote}
use Rattle.htmd_document.specs.Documents.{thematic_break, table, element, tags}
use Rattle.htmd_document.specs.Mdast.{beside, parent, text_or_null, format_data, node_data, children_data, inlines_data}
use Rattle.htmd_document.specs.Mdast.{cell_data, row_data, alignment_data, without_box, checked_data}
use Rattle.htmd_document.specs.Mdast.{block_data, within_data, blocks_data, items_data}
use Rattle.htmd_document.specs.Mdast.{number_or_null, root_data, root_data_with}

or-false : (a b : Bool) → a ≡ false → b ≡ false → (a || b) ≡ false
or-false true b h k = cc
or-false false b h k = k

parts : (a b : Bool) {P : Type 0} → (a || b) ≡ false → (a ≡ false → b ≡ false → P) → P
parts true b h f = absurd (cc)
parts false b h f = f refl h

beside-plain : (cs ds : json.Items) → items_have_float cs ≡ false → items_have_float ds ≡ false
    → items_have_float (beside cs ds) ≡ false
beside-plain json.no_items ds h k = k
beside-plain (json.item c cs) ds h k = parts (has_float c) (items_have_float cs) h
    (λ a b. or-false (has_float c) (items_have_float (beside cs ds)) a (beside-plain cs ds b k))

parent-plain : (kind : List ℕ) (cs : json.Items) → items_have_float cs ≡ false
    → has_float (parent kind cs) ≡ false
parent-plain kind cs h = rw h refl

title-plain : (title : Option (List ℕ)) → has_float (text_or_null title) ≡ false
title-plain None = refl
title-plain (Some s) = refl

start-plain : (start : Option ℕ) → has_float (number_or_null start) ≡ false
start-plain None = refl
start-plain (Some n) = refl

format-plain : (format : Format) (cs : json.Items) → items_have_float cs ≡ false
    → items_have_float (format_data format cs) ≡ false
format-plain Emphasis cs h = rw h refl
format-plain Strong cs h = rw h refl
format-plain Deleted cs h = rw h refl
format-plain Superscript cs h = beside-plain cs _ h refl
format-plain Subscript cs h = beside-plain cs _ h refl
format-plain Inserted cs h = beside-plain cs _ h refl
format-plain Underlined cs h = beside-plain cs _ h refl
format-plain Marked cs h = beside-plain cs _ h refl
format-plain Small cs h = beside-plain cs _ h refl
format-plain Keyboard cs h = beside-plain cs _ h refl
format-plain (Abbreviation title) cs h = beside-plain cs _ h refl

node-plain : (x : Inline) (cs : json.Items) → items_have_float cs ≡ false
    → items_have_float (node_data x cs) ≡ false
node-plain (text s) cs h = refl
node-plain (code s) cs h = refl
node-plain (formatted format xs) cs h = format-plain format cs h
node-plain (link address title xs) cs h = rw (h, title-plain title) refl
node-plain (image address title description) cs h = rw (title-plain title) refl
node-plain (anchor id) cs h = beside-plain cs _ h refl
node-plain line_break cs h = refl
node-plain (task is_checked) cs h = refl

mutual
  children-plain : (x : Inline) → items_have_float (children_data x) ≡ false
  children-plain (text s) = refl
  children-plain (code s) = refl
  children-plain (formatted format xs) = inlines-plain xs
  children-plain (link address title xs) = inlines-plain xs
  children-plain (image address title description) = refl
  children-plain (anchor id) = refl
  children-plain line_break = refl
  children-plain (task is_checked) = refl

  inlines-plain : (xs : Inlines) → items_have_float (inlines_data xs) ≡ false
  inlines-plain no_inlines = refl
  inlines-plain (inline x xs) = beside-plain (node_data x (children_data x)) (inlines_data xs)
      (node-plain x (children_data x) (children-plain x)) (inlines-plain xs)

mapped-plain : {A : Type 0} (f : A → Data) → ((x : A) → has_float (f x) ≡ false) → (xs : List A)
    → items_have_float (items_of (map f xs)) ≡ false
mapped-plain f h [] = refl
mapped-plain f h (x ∷ xs) =
    or-false (has_float (f x)) (items_have_float (items_of (map f xs))) (h x) (mapped-plain f h xs)

row-plain : (cells : List Inlines) → has_float (row_data cells) ≡ false
row-plain cells = rw (mapped-plain cell_data (λ cell. rw (inlines-plain cell) refl) cells) refl

alignment-plain : (a : Alignment) → has_float (alignment_data a) ≡ false
alignment-plain aligned.None = refl
alignment-plain aligned.Left = refl
alignment-plain aligned.Center = refl
alignment-plain aligned.Right = refl

block-plain : (is_first : Bool) (b : Block) (cs : json.Items) → items_have_float cs ≡ false
    → has_float (block_data is_first b cs) ≡ false
block-plain is_first (paragraph xs) cs h = rw (inlines-plain (if is_first then without_box xs else xs)) refl
block-plain is_first (heading level xs) cs h = rw (inlines-plain xs) refl
block-plain is_first (code_block language s) cs h = rw (title-plain language) refl
block-plain is_first (quote bs) cs h = rw h refl
block-plain is_first thematic_break cs h = refl
block-plain is_first (value.list start is_tight items) cs h = rw (h, start-plain start) refl
block-plain is_first (table alignments header rows) cs h =
    rw (
      mapped-plain alignment_data alignment-plain alignments,
      row-plain header,
      mapped-plain row_data row-plain
          rows,
    ) refl
block-plain is_first (element name attributes bs) cs h = refl
block-plain is_first (tags s) cs h = refl

first-plain : (x : Inline) (xs : Inlines) (bs : Blocks)
    → has_float (checked_data (block (paragraph (inline x xs)) bs)) ≡ false
first-plain (text s) xs bs = refl
first-plain (code s) xs bs = refl
first-plain (formatted format ys) xs bs = refl
first-plain (link address title ys) xs bs = refl
first-plain (image address title description) xs bs = refl
first-plain (anchor id) xs bs = refl
first-plain line_break xs bs = refl
first-plain (task is_checked) xs bs = refl

checked-plain : (bs : Blocks) → has_float (checked_data bs) ≡ false
checked-plain no_blocks = refl
checked-plain (block (paragraph no_inlines) bs) = refl
checked-plain (block (paragraph (inline x xs)) bs) = first-plain x xs bs
checked-plain (block (heading level xs) bs) = refl
checked-plain (block (code_block language s) bs) = refl
checked-plain (block (quote cs) bs) = refl
checked-plain (block thematic_break bs) = refl
checked-plain (block (value.list start is_tight items) bs) = refl
checked-plain (block (table alignments header rows) bs) = refl
checked-plain (block (element name attributes cs) bs) = refl
checked-plain (block (tags s) bs) = refl

mutual
  within-plain : (b : Block) → items_have_float (within_data b) ≡ false
  within-plain (paragraph xs) = refl
  within-plain (heading level xs) = refl
  within-plain (code_block language s) = refl
  within-plain (quote bs) = blocks-plain false bs
  within-plain thematic_break = refl
  within-plain (value.list start is_tight items) = items-plain is_tight items
  within-plain (table alignments header rows) = refl
  within-plain (element name attributes bs) = refl
  within-plain (tags s) = refl

  blocks-plain : (in_item : Bool) (bs : Blocks) → items_have_float (blocks_data in_item bs) ≡ false
  blocks-plain in_item no_blocks = refl
  blocks-plain in_item (block b bs) = or-false (has_float (block_data in_item b (within_data b)))
      (items_have_float (blocks_data false bs)) (block-plain in_item b (within_data b) (within-plain b))
      (blocks-plain false bs)

  items-plain : (is_tight : Bool) (items : value.Items) → items_have_float (items_data is_tight items) ≡ false
  items-plain is_tight value.no_items = refl
  items-plain is_tight (value.item bs items) = rw (checked-plain bs, blocks-plain true bs, items-plain is_tight items)
      refl

pub root-plain : (bs : Blocks) → has_float (root_data bs) ≡ false
root-plain bs = rw (blocks-plain false (flattened bs)) refl

pub root-with-plain : (yaml : List ℕ) (bs : Blocks) → has_float (root_data_with yaml bs) ≡ false
root-with-plain yaml bs = rw (blocks-plain false (flattened bs)) refl
