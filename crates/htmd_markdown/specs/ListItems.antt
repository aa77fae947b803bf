-- The items of bullet lists and of ordered lists (CommonMark 0.31.2, 5.2).
use Rattle.std.specs.Prelude.{ℕ, ◌+◌, ◌-◌, true, List, [], ◌∷◌, ◌++◌, length, replicate}
use Rattle.std.specs.Fmt.{decimal}
use Rattle.htmd_lexical.specs.Characters.{line_feed, space, asterisk, hyphen, full_stop}
use Rattle.htmd_lexical.specs.WhiteSpace.{is_document_white_space}
use Rattle.htmd_text.specs.Trims.{trimmed_start, is_line_feed}
use Rattle.htmd_text.specs.Indents.{indented_text}
use Rattle.htmd_text.specs.Digits.{digits}
use Rattle.htmd_markdown.specs.declared.list.BulletListMarker.{BulletListMarker}
use Rattle.htmd_markdown.specs.declared.list.BulletListMarker.TheVariants.{Asterisk, Dash}

-- An item in a line of its own: the list marker with its spaces, and the content. Further lines of the content stand
-- after as many spaces as these take, without white space at their ends.
abbrev pub list_item : List ℕ → List ℕ → List ℕ
list_item marker content = line_feed ∷ marker ++ indented_text content (length marker) true

abbrev pub bullet : BulletListMarker → ℕ
bullet Asterisk = asterisk
bullet Dash = hyphen

-- a bullet and this many spaces
abbrev pub bullet_marker : BulletListMarker → ℕ → List ℕ
bullet_marker marker spacing = bullet marker ∷ replicate spacing space

-- the item of a bullet list, without document white space at the start of its content
abbrev pub bullet_item : BulletListMarker → ℕ → List ℕ → List ℕ
bullet_item marker spacing content =
    list_item (bullet_marker marker spacing) (trimmed_start is_document_white_space content)

-- what an item of an ordered list hands on to its list, which puts the number before it
abbrev pub unnumbered_item : List ℕ → List ℕ
unnumbered_item content = line_feed ∷ trimmed_start is_document_white_space content ++ line_feed ∷ []

-- the spaces after the dot of a number: as many as stand after the highest number of the list, or more where that has
-- more digits
abbrev pub aligned_spaces : ℕ → ℕ → ℕ → ℕ
aligned_spaces spacing highest number = spacing + (digits highest - digits number)

-- the number, a dot, and these spaces
abbrev pub number_marker : ℕ → ℕ → ℕ → List ℕ
number_marker spacing highest number =
    decimal number ++ full_stop ∷ replicate (aligned_spaces spacing highest number) space

-- the item of an ordered list, without line feeds at the start of its content
abbrev pub numbered_item : ℕ → ℕ → ℕ → List ℕ → List ℕ
numbered_item spacing highest number content =
    list_item (number_marker spacing highest number) (trimmed_start is_line_feed content)
