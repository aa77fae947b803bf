-- Nodes with what they give: what follows each other, and lists.
use Rattle.std.specs.Prelude.{ℕ, Bool, true, false, ◌||◌, if◌then◌else◌, List, [], ◌∷◌, ◌++◌}
use Rattle.std.specs.Prelude.{Option, Some, None, codes, ℤ}
use Rattle.std.specs.List.{list_any, list_all, flat_map}
use Rattle.htmd_lexical.specs.Characters.{space}
use Rattle.htmd_lexical.specs.AttributePairs.{AttributePair}
use Rattle.htmd_lexical.specs.WhiteSpace.{is_ascii_white_space}
use Rattle.htmd_document.specs.Documents.{Inlines}
use Rattle.htmd_document.specs.Documents.{Block, Blocks, block}
use Rattle.htmd_shown.specs.Attributes.{number_at}
use Rattle.htmd_shown.specs.Kinds.{has, content_of}
use Rattle.htmd_shown.specs.Roles as roles
use Rattle.htmd_shown.specs.SimpleTrees.{Simple, text, element}
use Rattle.htmd_flow.specs.Contexts.{Context, is_lined}
use Rattle.htmd_flow.specs.Contexts.{deeper, apart}
use Rattle.htmd_flow.specs.Levels.{list_of}
use Rattle.htmd_flow.specs.Lists as lists
use Rattle.htmd_flow.specs.Paragraphs.{begun, fed_all, blocks_in, line_in}
use Rattle.htmd_flow.specs.Parts.{Part, edge, whole}

-- ---- nodes with what they give

-- a node with what it gives, and what its content gives, in any context
pub record Node : Type 0 where
  pub tree : Simple
  pub whole : Context → List Part
  pub content : Context → List Part

-- the cells of a row, the number of the part that it stands in, and whether that is the head
pub record Row : Type 0 where
  pub part : Option ℕ
  pub is_in_head : Bool
  pub cells : List Node

-- a caption of a table, or a row
pub data TablePiece : Type 0 where
  of_caption : (node : Node) → TablePiece
  of_row : (r : Row) → TablePiece

-- a part of a list of terms; a gap is an end of a group
pub data TermPart : Type 0 where
  gap : TermPart
  of_node : (node : Node) → TermPart

-- the attributes of an element
abbrev pub attributes_of : Simple → List AttributePair
attributes_of (element id role facts attributes content) = attributes
attributes_of _ = []

abbrev pub is_item : Node → Bool
is_item n = has roles.is_item n.tree

-- parts as blocks, and as one line
abbrev pub blocks_of : Bool → List Part → Blocks
blocks_of in_item parts = blocks_in (fed_all (begun in_item false) parts)

abbrev pub line_of : List Part → Inlines
line_of parts = line_in (fed_all (begun false true) parts)

-- a block, if there is one
abbrev pub block_part : Option Block → List Part
block_part None = []
block_part (Some b) = whole b ∷ []

-- ---- lists

-- what stands before the first item comes before the list
abbrev pub before_items : List Node → Context → List Part
before_items [] context = []
before_items (n ∷ nodes) context =
    if is_item n then [] else n.whole context ++ before_items nodes context

-- what stands between items belongs to the one before, as a block of its own
abbrev pub behind_item : List Node → Context → List Part
behind_item [] context = []
behind_item (n ∷ nodes) context =
    if is_item n then [] else edge ∷ n.whole context ++ behind_item nodes context

abbrev pub item_of : Node → List Part → lists.ListItem
item_of n parts = record {
  value = number_at (codes "value") (attributes_of n.tree);
  has_paragraph = list_any (has roles.is_paragraph) (list_of (content_of n.tree));
  blocks = blocks_of true parts;
}

abbrev pub items_of : List Node → Context → List lists.ListItem
items_of [] context = []
items_of (n ∷ nodes) context =
    if is_item n
    then item_of n (n.content context ++ behind_item nodes context) ∷ items_of nodes context
    else items_of nodes context

-- all of each node; an item is a block
abbrev pub each_whole : List Node → Context → List Part
each_whole nodes context = flat_map (λ (n : Node). n.whole context) nodes

-- in one line, or too deep, a list is its items
abbrev pub list_parts : Option ℤ → List Node → Context → List Part
list_parts start nodes context =
    if is_lined context then apart (each_whole nodes context)
    else (edge ∷ before_items nodes context)
    ++ edge ∷ lists.lists_if_filled context.nested start (items_of nodes (deeper context)) ++ edge ∷ []

-- ---- what follows each other

-- a text of white space alone
abbrev pub is_spaces : Simple → Bool
is_spaces (text s) = list_all is_ascii_white_space s
is_spaces _ = false

abbrev pub goes_on : Node → Bool
goes_on n = is_item n || is_spaces n.tree

-- the items that follow each other, with white space between
abbrev pub items_in_a_row : List Node → List Node
items_in_a_row [] = []
items_in_a_row (n ∷ nodes) = if goes_on n then n ∷ items_in_a_row nodes else []

abbrev mutual
  -- Items that stand in no list, with white space between, are a list.
  pub flow_all : List Node → Context → List Part
  flow_all [] context = []
  flow_all (n ∷ nodes) context =
      if is_item n
      then list_parts None (n ∷ items_in_a_row nodes) context ++ flow_after nodes context
      else n.whole context ++ flow_all nodes context

  -- after the items that began before
  pub flow_after : List Node → Context → List Part
  flow_after [] context = []
  flow_after (n ∷ nodes) context =
      if goes_on n then flow_after nodes context else n.whole context ++ flow_all nodes context
