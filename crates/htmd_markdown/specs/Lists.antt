-- Ordered lists, and a list among the blocks around it (CommonMark 0.31.2, 5.3).
use Rattle.std.specs.Prelude.{ℕ, suc, ◌+◌, ◌-◌, ◌^◌, Bool, ◌&&◌, nat_lt, if◌then◌else◌, List, [], ◌∷◌, ◌++◌, length}
use Rattle.std.specs.Prelude.{replicate, Option, Some, None, string_bytes}
use Rattle.std.specs.Option.{option_map}
use Rattle.std.specs.Str.{all_ascii_digits}
use Rattle.std.specs.Str.Parse.{without_leading_plus, digits_value}
use Rattle.htmd_lexical.specs.Characters.{line_feed}
use Rattle.htmd_text.specs.Trims.{trimmed_text, some_text, is_line_feed}
use Rattle.htmd_text.specs.Joins.{joined_blocks}
use Rattle.htmd_markdown.specs.ListItems.{numbered_item}
use Rattle.htmd_markdown.specs.declared.list.ListBlock.{ListBlock}
use Rattle.htmd_markdown.specs.declared.list.ListBlock.TheVariants.{Item, Other}

-- The number of the first item, by the attribute `start` (HTML, 4.4.5) read as Rust reads an `i32`: a sign or none, one
-- or more ASCII digits and nothing else, below 2^31. A number below 1 counts as 1, and so does what is no such number.
abbrev pub first_number : Option (List ℕ) → ℕ
first_number None = 1
first_number (Some start) =
    let numeral = without_leading_plus start in
    let number = digits_value 10 numeral in
    if nat_lt 0 (length numeral) && all_ascii_digits numeral && nat_lt 0 number && nat_lt number (2 ^ 31)
    then number
    else 1

-- what a child of an ordered list gives: an item its content, another child a text
pub data Block : Type 0 where
  item : List ℕ → Block
  other : List ℕ → Block

abbrev pub block_of : ListBlock → Block
block_of (Item content) = item (string_bytes content)
block_of (Other text) = other (string_bytes text)

abbrev pub item_count : List Block → ℕ
item_count [] = 0
item_count (item content ∷ blocks) = suc (item_count blocks)
item_count (other text ∷ blocks) = item_count blocks

-- the highest number of a list that begins with this one
abbrev pub highest_number : ℕ → List Block → ℕ
highest_number first blocks = first + item_count blocks - 1

-- each item after its number, and the other texts as they are; the first item has this number
abbrev pub numbered_blocks : ℕ → ℕ → ℕ → List Block → List (List ℕ)
numbered_blocks spacing highest number [] = []
numbered_blocks spacing highest number (item content ∷ blocks) =
    numbered_item spacing highest number content ∷ numbered_blocks spacing highest (suc number) blocks
numbered_blocks spacing highest number (other text ∷ blocks) = text ∷ numbered_blocks spacing highest number blocks

-- an ordered list
abbrev pub ordered_list : ℕ → ℕ → List Block → List ℕ
ordered_list first spacing blocks = joined_blocks (numbered_blocks spacing (highest_number first blocks) first blocks)

-- this many line feeds on each side
abbrev pub between_line_feeds : ℕ → List ℕ → List ℕ
between_line_feeds count text = replicate count line_feed ++ text ++ replicate count line_feed

-- A list without line feeds at its ends, nothing if it is empty: inside an item it begins and ends a line, elsewhere
-- blank lines stand around it.
abbrev pub list_block : Bool → List ℕ → Option (List ℕ)
list_block is_in_item list = option_map (between_line_feeds (if is_in_item then 1 else 2))
    (some_text (trimmed_text is_line_feed list))
