-- What a reader makes of a text: blocks and inlines, with raw HTML as it stands. A list of inlines has its first one
-- and the rest; of text each byte is one.
use Rattle.std.specs.Prelude.{ℕ, zero, suc, Bool, List, [], ◌∷◌, ◌++◌, Option}
use Rattle.htmd_document.specs.declared.document.Alignment.{Alignment}
use Rattle.htmd_document.specs.Formats.{Format}
use Rattle.htmd_lexical.specs.Characters.{space}

pub data Inlines : Type 0 where
  no_inlines : Inlines
  letter : (c : ℕ) (rest : Inlines) → Inlines
  code : (s : List ℕ) (rest : Inlines) → Inlines
  formatted : (format : Format) (content rest : Inlines) → Inlines
  link : (address : List ℕ) (title : Option (List ℕ)) (content rest : Inlines) → Inlines
  image : (address : List ℕ) (title : Option (List ℕ)) (content rest : Inlines) → Inlines
  line_break : (rest : Inlines) → Inlines
  task : (is_checked : Bool) (rest : Inlines) → Inlines
  raw : (tag : List ℕ) (rest : Inlines) → Inlines

mutual
  pub data Block : Type 0 where
    paragraph : (content : Inlines) → Block
    heading : (level : ℕ) (content : Inlines) → Block
    code_block : (language : Option (List ℕ)) (s : List ℕ) → Block
    quote : (content : Blocks) → Block
    thematic_break : Block
    list : (start : Option ℕ) (is_tight : Bool) (items : Items) → Block
    table : (alignments : List Alignment) (header : List Inlines) (rows : List (List Inlines)) → Block
    html_block : (s : List ℕ) → Block

  pub data Blocks : Type 0 where
    no_blocks : Blocks
    block : (first : Block) (rest : Blocks) → Blocks

  pub data Items : Type 0 where
    no_items : Items
    item : (first : Blocks) (rest : Items) → Items

-- inlines after others
abbrev pub joined : Inlines → Inlines → Inlines
joined no_inlines ys = ys
joined (letter c xs) ys = letter c (joined xs ys)
joined (code s xs) ys = code s (joined xs ys)
joined (formatted f content xs) ys = formatted f content (joined xs ys)
joined (link a t content xs) ys = link a t content (joined xs ys)
joined (image a t content xs) ys = image a t content (joined xs ys)
joined (line_break xs) ys = line_break (joined xs ys)
joined (task d xs) ys = task d (joined xs ys)
joined (raw tag xs) ys = raw tag (joined xs ys)

-- a text before inlines
abbrev pub letters : List ℕ → Inlines → Inlines
letters [] xs = xs
letters (c ∷ s) xs = letter c (letters s xs)

-- so many of one sign before inlines
abbrev pub signs : ℕ → ℕ → Inlines → Inlines
signs c zero xs = xs
signs c (suc n) xs = letter c (signs c n xs)

-- the text of inlines, as in an image's description (6.4); raw tags as they stand
abbrev pub plain_text : Inlines → List ℕ
plain_text no_inlines = []
plain_text (letter c xs) = c ∷ plain_text xs
plain_text (code s xs) = s ++ plain_text xs
plain_text (formatted f content xs) = plain_text content ++ plain_text xs
plain_text (link a t content xs) = plain_text content ++ plain_text xs
plain_text (image a t content xs) = plain_text content ++ plain_text xs
plain_text (line_break xs) = space ∷ plain_text xs
plain_text (task d xs) = plain_text xs
plain_text (raw tag xs) = tag ++ plain_text xs
