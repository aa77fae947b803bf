-- Where the contents of an ordered list's items begin.
use Rattle.std.specs.Prelude.{◌≡◌, ℕ, ◌+◌, true, List, [], ◌∷◌, ◌++◌, length}
use Rattle.htmd_lexical.specs.Characters.{line_feed}
use Rattle.htmd_text.specs.Digits.{digits}
use Rattle.htmd_text.specs.Trims.{trimmed_start, trimmed_end, is_line_feed}
use Rattle.htmd_text.specs.Indents.{indented_text}
use Rattle.htmd_markdown.specs.ListItems.{number_marker}
use Rattle.htmd_markdown.specs.Lists.{Block, item, item_count, highest_number}

-- the content of an item as it stands in its list
abbrev pub item_content : ℕ → List ℕ → List ℕ
item_content column content =
    trimmed_end is_line_feed (indented_text (trimmed_start is_line_feed content) column true)

-- In the text a line begins with the marker, which takes this many characters, and then with the content.
pub record StandsInColumn (column : ℕ) (marker content text : List ℕ) : Type 0 where
  pub before : List ℕ
  pub behind : List ℕ
  pub whole : text ≡ (before ++ line_feed ∷ []) ++ marker ++ content ++ behind
  pub width : length marker ≡ column

-- The content of each item begins in the column that the highest number, its dot and the spacing leave for it.
abbrev pub HasEqualColumns : ℕ → ℕ → List Block → List ℕ → Type 0
HasEqualColumns first spacing blocks text =
    let highest = highest_number first blocks in
    let column = spacing + digits highest + 1 in
    (earlier later : List Block) (content : List ℕ) → blocks ≡ earlier ++ item content ∷ later
    → StandsInColumn column (number_marker spacing highest (first + item_count earlier)) (item_content column content)
    text
