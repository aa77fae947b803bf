-- A document in the form of mdast 4, as JSON. The members of an object stand in the order of their keys.
use Rattle.std.specs.Prelude.{ℕ, Bool, true, false, not, List, [], ◌∷◌, ◌==◌, map, codes, Option, Some, None}
use Rattle.std.specs.Prelude.{if◌then◌else◌}
use Rattle.serde_json.specs.Data as json
use Rattle.serde_json.specs.View.{items_of}
use Rattle.serde_json.specs.Written.{compact_text}
use Rattle.serde_json.specs.Data.{Data, null, boolean, number, unsigned, string, array, object}
use Rattle.htmd_lexical.specs.Characters.{space}
use Rattle.htmd_document.specs.Documents as value
use Rattle.htmd_document.specs.Documents.{Inlines, no_inlines, inline, Inline, text, code, formatted, link, image}
use Rattle.htmd_document.specs.Documents.{anchor}
use Rattle.htmd_document.specs.Formats.{Format, Emphasis, Strong, Deleted, Abbreviation}
use Rattle.htmd_document.specs.Tags.{anchor_tag, end_of_anchor, format_tag, end_of_format}
use Rattle.htmd_document.specs.FlatDocuments.{flattened}
use Rattle.htmd_document.specs.Documents.{line_break, task, Blocks, no_blocks, block, Block, paragraph, heading}
use Rattle.htmd_document.specs.Documents.{code_block, quote}
use Rattle.htmd_document.specs.Documents.{thematic_break, table, element, tags}
use Rattle.htmd_document.specs.declared.document.Alignment.{Alignment}
use Rattle.htmd_document.specs.declared.document.Alignment.TheVariants as aligned

-- ---- nodes

-- values after others
abbrev pub beside : json.Items → json.Items → json.Items
beside json.no_items ds = ds
beside (json.item c cs) ds = json.item c (beside cs ds)

abbrev pub one_item : Data → json.Items
one_item d = json.item d json.no_items

abbrev pub kind_alone : List ℕ → json.Members
kind_alone kind = json.member (codes "type") (string kind) json.no_members

-- a node with nothing but its type, with a text, and with children
abbrev pub bare : List ℕ → Data
bare kind = object (kind_alone kind)

abbrev pub with_value : List ℕ → List ℕ → Data
with_value kind s = object (json.member (codes "type") (string kind)
    (json.member (codes "value") (string s) json.no_members))

abbrev pub parent : List ℕ → json.Items → Data
parent kind children = object (json.member (codes "children") (array children) (kind_alone kind))

abbrev pub text_or_null : Option (List ℕ) → Data
text_or_null None = null
text_or_null (Some s) = string s

abbrev pub number_or_null : Option ℕ → Data
number_or_null None = null
number_or_null (Some n) = number (unsigned n)

abbrev pub is_some : Option ℕ → Bool
is_some None = false
is_some (Some n) = true

-- ---- inlines

abbrev pub link_data : List ℕ → Option (List ℕ) → json.Items → Data
link_data address title children = object (json.member (codes "children") (array children)
    (json.member (codes "title") (text_or_null title)
    (json.member (codes "type") (string (codes "link"))
    (json.member (codes "url") (string address) json.no_members))))

abbrev pub image_data : List ℕ → Option (List ℕ) → List ℕ → Data
image_data address title description = object (json.member (codes "alt") (string description)
    (json.member (codes "title") (text_or_null title)
    (json.member (codes "type") (string (codes "image"))
    (json.member (codes "url") (string address) json.no_members))))

-- nodes between two pieces of HTML
abbrev pub between : List ℕ → json.Items → List ℕ → json.Items
between before children after =
    json.item (with_value (codes "html") before) (beside children (one_item (with_value (codes "html") after)))

-- the box of a task that is not the first of an item, as its text
abbrev pub box_text : Bool → List ℕ
box_text is_checked = if is_checked then codes "[x]" else codes "[ ]"

-- a format, by what stands in it; what mdast has no node for stands between two pieces of HTML
abbrev pub format_data : Format → json.Items → json.Items
format_data Emphasis children = one_item (parent (codes "emphasis") children)
format_data Strong children = one_item (parent (codes "strong") children)
format_data Deleted children = one_item (parent (codes "delete") children)
format_data f children = between (format_tag f) children (end_of_format f)

-- an anchor, by what stands in it
abbrev pub anchor_data : List ℕ → json.Items → json.Items
anchor_data id children = between (anchor_tag id) children end_of_anchor

-- an abbreviation, by what stands in it
abbrev pub abbreviation_data : List ℕ → json.Items → json.Items
abbreviation_data title children = format_data (Abbreviation title) children

-- an inline, by what stands in it
abbrev pub node_data : Inline → json.Items → json.Items
node_data (text s) children = one_item (with_value (codes "text") s)
node_data (code s) children = one_item (with_value (codes "inlineCode") s)
node_data (formatted format xs) children = format_data format children
node_data (link address title xs) children = one_item (link_data address title children)
node_data (image address title description) children = one_item (image_data address title description)
node_data (anchor id) children = anchor_data id children
node_data line_break children = one_item (bare (codes "break"))
node_data (task is_checked) children = one_item (with_value (codes "text") (box_text is_checked))

abbrev mutual
  -- what stands in an inline
  pub children_data : Inline → json.Items
  children_data (formatted format xs) = inlines_data xs
  children_data (link address title xs) = inlines_data xs
  children_data x = json.no_items

  pub inlines_data : Inlines → json.Items
  inlines_data no_inlines = json.no_items
  inlines_data (inline x xs) = beside (node_data x (children_data x)) (inlines_data xs)

-- ---- tables

abbrev pub cell_data : Inlines → Data
cell_data cell = parent (codes "tableCell") (inlines_data cell)

abbrev pub row_data : List Inlines → Data
row_data cells = parent (codes "tableRow") (items_of (map cell_data cells))

abbrev pub alignment_data : Alignment → Data
alignment_data aligned.None = null
alignment_data aligned.Left = string (codes "left")
alignment_data aligned.Center = string (codes "center")
alignment_data aligned.Right = string (codes "right")

abbrev pub table_node : json.Items → json.Items → Data
table_node align children = object (json.member (codes "align") (array align)
    (json.member (codes "children") (array children) (kind_alone (codes "table"))))

abbrev pub table_data : List Alignment → List Inlines → List (List Inlines) → Data
table_data alignments header rows =
    table_node (items_of (map alignment_data alignments)) (items_of (map row_data (header ∷ rows)))

-- ---- tasks

abbrev pub text_before : List ℕ → Inlines → Inlines
text_before [] xs = xs
text_before (b ∷ s) xs = inline (text (b ∷ s)) xs

abbrev pub without_space : List ℕ → List ℕ
without_space [] = []
without_space (b ∷ s) = if b == space then s else b ∷ s

-- what follows the box of a task, without a space after it
abbrev pub after_box : Inlines → Inlines
after_box (inline (text s) xs) = text_before (without_space s) xs
after_box xs = xs

abbrev pub without_box : Inlines → Inlines
without_box (inline (task is_checked) xs) = after_box xs
without_box xs = xs

-- whether an item is a task, and whether it is checked
abbrev pub checked_data : Blocks → Data
checked_data (block (paragraph (inline (task is_checked) xs)) bs) = boolean is_checked
checked_data bs = null

-- ---- blocks

abbrev pub heading_data : ℕ → json.Items → Data
heading_data level children = object (json.member (codes "children") (array children)
    (json.member (codes "depth") (number (unsigned level)) (kind_alone (codes "heading"))))

abbrev pub code_data : Option (List ℕ) → List ℕ → Data
code_data language s = object (json.member (codes "lang") (text_or_null language)
    (json.member (codes "type") (string (codes "code"))
    (json.member (codes "value") (string s) json.no_members)))

abbrev pub list_data : Option ℕ → Bool → json.Items → Data
list_data start is_tight children = object (json.member (codes "children") (array children)
    (json.member (codes "ordered") (boolean (is_some start))
    (json.member (codes "spread") (boolean (not is_tight))
    (json.member (codes "start") (number_or_null start) (kind_alone (codes "list"))))))

abbrev pub item_data : Bool → Data → json.Items → Data
item_data is_tight checked children = object (json.member (codes "checked") checked
    (json.member (codes "children") (array children)
    (json.member (codes "spread") (boolean (not is_tight)) (kind_alone (codes "listItem")))))

-- a block, by what stands in it; the first block of an item has no box; flat documents have no elements
abbrev pub block_data : Bool → Block → json.Items → Data
block_data is_first (paragraph xs) children =
    parent (codes "paragraph") (inlines_data (if is_first then without_box xs else xs))
block_data is_first (heading level xs) children = heading_data level (inlines_data xs)
block_data is_first (code_block language s) children = code_data language s
block_data is_first (quote bs) children = parent (codes "blockquote") children
block_data is_first thematic_break children = bare (codes "thematicBreak")
block_data is_first (value.list start is_tight items) children = list_data start is_tight children
block_data is_first (table alignments header rows) children = table_data alignments header rows
block_data is_first (tags s) children = with_value (codes "html") s
block_data is_first (element name attributes bs) children = null

abbrev mutual
  -- what stands in a block
  pub within_data : Block → json.Items
  within_data (quote bs) = blocks_data false bs
  within_data (value.list start is_tight items) = items_data is_tight items
  within_data b = json.no_items

  pub blocks_data : Bool → Blocks → json.Items
  blocks_data in_item no_blocks = json.no_items
  blocks_data in_item (block b bs) = json.item (block_data in_item b (within_data b)) (blocks_data false bs)

  pub items_data : Bool → value.Items → json.Items
  items_data is_tight value.no_items = json.no_items
  items_data is_tight (value.item bs items) =
      json.item (item_data is_tight (checked_data bs) (blocks_data true bs)) (items_data is_tight items)

-- the whole document
abbrev pub root_data : Blocks → Data
root_data bs = parent (codes "root") (blocks_data false (flattened bs))

-- its JSON
abbrev pub mdast_of : Blocks → List ℕ
mdast_of bs = compact_text (root_data bs)

-- nodes after one with YAML
abbrev pub after_yaml : List ℕ → json.Items → json.Items
after_yaml yaml nodes = json.item (with_value (codes "yaml") yaml) nodes

-- the whole document after its front matter, which is YAML
abbrev pub root_data_with : List ℕ → Blocks → Data
root_data_with yaml bs = parent (codes "root") (after_yaml yaml (blocks_data false (flattened bs)))

-- its JSON
abbrev pub mdast_with_front_matter : List ℕ → Blocks → List ℕ
mdast_with_front_matter yaml bs = compact_text (root_data_with yaml bs)
