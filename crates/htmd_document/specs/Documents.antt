-- Documents: what a reader sees of a page. A text is the list of its UTF-8 bytes.
use Rattle.std.specs.Prelude.{ℕ, Bool, List, [], ◌∷◌, Option}
use Rattle.htmd_document.specs.declared.document.Alignment.{Alignment}
use Rattle.htmd_document.specs.declared.document.AttributeName.{AttributeName}
use Rattle.htmd_document.specs.declared.document.BlockElement.{BlockElement}
use Rattle.htmd_document.specs.Formats.{Format}

mutual
  -- a part of a line of text
  pub data Inline : Type 0 where
    text : (s : List ℕ) → Inline
    code : (s : List ℕ) → Inline
    formatted : (format : Format) (content : Inlines) → Inline
    link : (address : List ℕ) (title : Option (List ℕ)) (content : Inlines) → Inline
    image : (address : List ℕ) (title : Option (List ℕ)) (description : List ℕ) → Inline
    anchor : (id : List ℕ) → Inline
    line_break : Inline
    task : (is_checked : Bool) → Inline

  pub data Inlines : Type 0 where
    no_inlines : Inlines
    inline : (first : Inline) (rest : Inlines) → Inlines

-- an attribute of an element, and its value
pub record BlockAttribute : Type 0 where
  pub name : AttributeName
  pub value : List ℕ

mutual
  -- A block; a list without a start has bullets. Lines of tags stand for elements where they are written.
  pub data Block : Type 0 where
    paragraph : (content : Inlines) → Block
    heading : (level : ℕ) (content : Inlines) → Block
    code_block : (language : Option (List ℕ)) (s : List ℕ) → Block
    quote : (content : Blocks) → Block
    thematic_break : Block
    list : (start : Option ℕ) (is_tight : Bool) (items : Items) → Block
    table : (alignments : List Alignment) (header : List Inlines) (rows : List (List Inlines)) → Block
    element : (name : BlockElement) (attributes : List BlockAttribute) (content : Blocks) → Block
    tags : (s : List ℕ) → Block

  pub data Blocks : Type 0 where
    no_blocks : Blocks
    block : (first : Block) (rest : Blocks) → Blocks

  -- the items of a list, each of blocks
  pub data Items : Type 0 where
    no_items : Items
    item : (first : Blocks) (rest : Items) → Items

-- inlines in order, and what stands in them
abbrev pub inlines_of : List Inline → Inlines
inlines_of [] = no_inlines
inlines_of (x ∷ xs) = inline x (inlines_of xs)

abbrev pub blocks_of : List Block → Blocks
blocks_of [] = no_blocks
blocks_of (b ∷ bs) = block b (blocks_of bs)

abbrev pub items_of : List Blocks → Items
items_of [] = no_items
items_of (bs ∷ rest) = item bs (items_of rest)
