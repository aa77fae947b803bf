-- Worked examples of the definitions. Each holds by computing.
use Rattle.std.proofs.Common.{◌≡◌, refl, Some, None, codes, [], ◌∷◌}
use Rattle.std.specs.Str.{chars, trim_start, trim_end}
use Rattle.htmd_markdown.specs.declared.emphasis.Emphasis.TheVariants.{Regular, Strong}
use Rattle.htmd_markdown.specs.declared.heading.HeadingStyle.TheVariants.{Atx, Setex}
use Rattle.htmd_markdown.specs.Emphases.{emphasised_text}
use Rattle.htmd_markdown.specs.Headings.{heading}
use Rattle.htmd_markdown.specs.Quotes.{quote}
use Rattle.htmd_markdown.specs.Tables.{row, table, cell_width}
use Rattle.htmd_markdown.specs.TableReading.{read_row}
use lib.Utf8.{encode}

pub strong : emphasised_text Strong (codes "C ") ≡ Some (codes "**C** ")
unfolding chars trim_start trim_end encode
strong = refl

pub white_space_alone : emphasised_text Regular (codes " \n ") ≡ None
unfolding chars trim_start trim_end encode
white_space_alone = refl

pub atx_heading : heading Atx 1 (codes "Hello") ≡ codes "\n\n# Hello\n\n"
atx_heading = refl

pub setext_heading : heading Setex 1 (codes " Heading\n") ≡ codes "\n\nHeading\n=======\n\n"
unfolding chars
setext_heading = refl

pub blank_line_of_a_quote : quote (codes "\n\na\n\nb\n\n") ≡ codes "\n\n> a\n> \n> b\n\n"
blank_line_of_a_quote = refl

pub row_of_cells : row (codes "a|b" ∷ codes "" ∷ []) (3 ∷ 1 ∷ []) ≡ codes "| a&#124;b |   |\n"
unfolding chars
row_of_cells = refl

pub row_of_line_ends : row (codes "a\rb\nc" ∷ []) (0 ∷ []) ≡ codes "| ab c |\n"
unfolding chars
row_of_line_ends = refl

pub row_is_read : read_row (codes "| a&#124;b |   |\n") ≡ codes "a&#124;b" ∷ codes "" ∷ []
unfolding chars
row_is_read = refl

-- " é", whose bytes are these
pub bytes_of_a_character : cell_width (32 ∷ 195 ∷ 169 ∷ []) ≡ 1
unfolding chars encode
bytes_of_a_character = refl

pub table_with_missing_cells : table (codes "A" ∷ []) ((codes "b|c" ∷ codes "d" ∷ []) ∷ [])
    ≡ codes "| A        |   |\n| -------- | - |\n| b&#124;c | d |\n"
unfolding chars
table_with_missing_cells = refl
