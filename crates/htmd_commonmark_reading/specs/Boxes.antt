-- Open blocks and what they leave when they are closed (CommonMark 0.31.2, 3.2 and appendix, phase 1). Closed blocks
-- keep raw text, since inlines can be read only when the last link reference definition is known.
use Rattle.std.specs.Prelude.{ℕ, Bool, true, false, not, ◌&&◌, ◌||◌, if◌then◌else◌, nat_lt}
use Rattle.std.specs.Prelude.{List, [], ◌∷◌, ◌++◌, length, Option, Some, None}
use Rattle.htmd_document.specs.declared.document.Alignment.{Alignment}
use Rattle.htmd_lexical.specs.Characters.{line_feed}
use Rattle.htmd_lexical.specs.CharacterClasses.{is_empty, leading_run}
use Rattle.htmd_commonmark_reading.specs.Characters.{unescaped, is_white}
use Rattle.htmd_commonmark_reading.specs.Lines.{is_blank_text}
use Rattle.htmd_commonmark_reading.specs.LinkDefinitions.{Definition, Definitions, definitions}
use Rattle.htmd_commonmark_reading.specs.Tables.{fitted, cells}

-- A container: a block quote (5.1), or a list item with its marker's sign, its number if it has one, and the columns
-- before its content (5.2).
pub data Container : Type 0 where
  quoting : Container
  listing : (sign : ℕ) (number : Option ℕ) (columns : ℕ) → Container

mutual
  -- a closed block; an item is one of its own, and cells are raw
  pub data ClosedBlock : Type 0 where
    text : (s : List ℕ) → ClosedBlock
    headed : (level : ℕ) (s : List ℕ) → ClosedBlock
    code : (language : Option (List ℕ)) (s : List ℕ) → ClosedBlock
    rule : ClosedBlock
    html : (s : List ℕ) → ClosedBlock
    grid : (alignments : List Alignment) (header : List (List ℕ)) (rows : List (List (List ℕ))) → ClosedBlock
    defined : (d : Definition) → ClosedBlock
    boxed : (kind : Container) (content : ClosedBlocks) → ClosedBlock

  -- closed blocks, each with whether a blank line stands before it
  pub data ClosedBlocks : Type 0 where
    no_closed_blocks : ClosedBlocks
    closed_block : (gap : Bool) (first : ClosedBlock) (rest : ClosedBlocks) → ClosedBlocks

-- An open leaf with its lines: a paragraph (4.8), indented code (4.4), fenced code with the fence's indentation, sign
-- and length and the info string (4.5), raw HTML with what ends it, by nothing if a blank line does (4.6), or a table's
-- rows (GFM 4.10).
pub data Leaf : Type 0 where
  paragraph : (earlier : List (List ℕ)) (last : List ℕ) → Leaf
  indented : (rows : List (List ℕ)) → Leaf
  fenced : (columns sign count : ℕ) (info : List ℕ) (rows : List (List ℕ)) → Leaf
  raw : (ends : List (List ℕ)) (rows : List (List ℕ)) → Leaf
  table : (alignments : List Alignment) (header : List (List ℕ)) (rows : List (List ℕ)) → Leaf

-- An open block: none, a leaf, or a container with the fields of a box.
pub data Open : Type 0 where
  nothing : Open
  leaf : (l : Leaf) → Open
  within : (kind : Container) (done : ClosedBlocks) (gap : Bool) (inner : Open) → Open

-- What is closed in a container, whether a blank line stands before the block that is open in it (or, if none is open,
-- before what comes next), and that block.
pub record Box : Type 0 where
  pub done : ClosedBlocks
  pub gap : Bool
  pub inner : Open

abbrev pub box : ClosedBlocks → Bool → Open → Box
box d g o = record { done = d; gap = g; inner = o }

abbrev pub joined : ClosedBlocks → ClosedBlocks → ClosedBlocks
joined no_closed_blocks qs = qs
joined (closed_block g p ps) qs = closed_block g p (joined ps qs)

abbrev pub one_closed_block : Bool → ClosedBlock → ClosedBlocks
one_closed_block g p = closed_block g p no_closed_blocks

-- ---- closing

abbrev pub end_line : List (List ℕ) → List ℕ → List ℕ
end_line [] rest = []
end_line (l ∷ ls) rest = line_feed ∷ rest

-- lines as one text, with a line feed between two
abbrev pub joined_lines : List (List ℕ) → List ℕ
joined_lines [] = []
joined_lines (l ∷ ls) = l ++ end_line ls (joined_lines ls)

abbrev pub unless_empty : List (List ℕ) → List ℕ → List (List ℕ)
unless_empty [] l = if is_blank_text l then [] else l ∷ []
unless_empty (m ∷ ms) l = l ∷ m ∷ ms

-- lines without the blank ones at their end
abbrev pub without_last_blanks : List (List ℕ) → List (List ℕ)
without_last_blanks [] = []
without_last_blanks (l ∷ ls) = unless_empty (without_last_blanks ls) l

abbrev pub is_end_of_word : ℕ → Bool
is_end_of_word c = is_white c || nat_lt 10 c && nat_lt c 14

abbrev pub nonempty : List ℕ → Option (List ℕ)
nonempty [] = None
nonempty (c ∷ s) = Some (c ∷ s)

-- the language of code is the first word of its info string (4.5)
abbrev pub language : List ℕ → Option (List ℕ)
language info = nonempty (leading_run (λ c. not (is_end_of_word c)) (unescaped info))

abbrev pub definition_parts : Bool → List Definition → ClosedBlocks → ClosedBlocks
definition_parts g [] ps = ps
definition_parts g (d ∷ ds) ps = closed_block g (defined d) (definition_parts false ds ps)

abbrev pub is_first : Bool → List Definition → Bool
is_first g [] = g
is_first g (d ∷ ds) = false

-- what the text of a paragraph or of a setext heading leaves: the definitions that it begins with, and the rest if
-- there is any (4.7)
abbrev pub parts_of : Bool → (List ℕ → ClosedBlock) → Definitions → ClosedBlocks
parts_of g whole d =
    definition_parts g d.found
    (if is_empty d.rest then no_closed_blocks else one_closed_block (is_first g d.found) (whole d.rest))

-- the cells of a table's rows
abbrev pub fitted_rows : ℕ → List (List ℕ) → List (List (List ℕ))
fitted_rows count [] = []
fitted_rows count (r ∷ rs) = fitted count (cells r) ∷ fitted_rows count rs

abbrev pub closed_leaf : Bool → Leaf → ClosedBlocks
closed_leaf g (paragraph earlier last) = parts_of g text (definitions (joined_lines (earlier ++ (last ∷ []))))
closed_leaf g (indented ls) = one_closed_block g (code None (joined_lines (without_last_blanks ls)))
closed_leaf g (fenced columns sign count info ls) = one_closed_block g (code (language info) (joined_lines ls))
closed_leaf g (raw ends ls) = one_closed_block g (html (joined_lines ls))
closed_leaf g (table alignments header ls) = one_closed_block g
    (grid alignments header (fitted_rows (length alignments) ls))

abbrev pub closed : Bool → Open → ClosedBlocks
closed g nothing = no_closed_blocks
closed g (leaf l) = closed_leaf g l
closed g (within k done h o) = one_closed_block g (boxed k (joined done (closed h o)))

-- all that a box leaves
abbrev pub shut : Box → ClosedBlocks
shut b = joined b.done (closed b.gap b.inner)

-- ---- blank lines

abbrev pub ends_blank : List (List ℕ) → Bool
ends_blank [] = false
ends_blank (l ∷ []) = is_blank_text l
ends_blank (l ∷ m ∷ ls) = ends_blank (m ∷ ls)

-- was the last line of a box blank?
abbrev pub was_blank : Bool → Open → Bool
was_blank g nothing = g
was_blank g (leaf (indented ls)) = ends_blank ls
was_blank g (leaf _) = false
was_blank g (within quoting done h o) = false
was_blank g (within (listing sign number columns) done h o) = was_blank h o

-- is the innermost open block a paragraph?
abbrev pub in_paragraph : Open → Bool
in_paragraph nothing = false
in_paragraph (leaf (paragraph earlier last)) = true
in_paragraph (leaf _) = false
in_paragraph (within k done g o) = in_paragraph o
