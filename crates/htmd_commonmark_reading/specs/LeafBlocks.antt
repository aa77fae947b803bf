-- How an open leaf takes a line (CommonMark 0.31.2, 4.3 to 4.9; GFM 0.29, 4.10).
use Rattle.std.specs.Prelude.{ℕ, Bool, true, false, ◌&&◌, ◌==◌, ◌||◌, nat_le, if◌then◌else◌}
use Rattle.std.specs.Prelude.{List, [], ◌∷◌, ◌++◌, length, Option, Some, None}
use Rattle.std.specs.List.{list_all}
use Rattle.htmd_document.specs.declared.document.Alignment.{Alignment}
use Rattle.htmd_lexical.specs.Characters.{hyphen, equals_sign}
use Rattle.htmd_lexical.specs.CharacterClasses.{is_empty, first_is}
use Rattle.htmd_commonmark_reading.specs.Characters.{past_blanks, stripped}
use Rattle.htmd_commonmark_reading.specs.Lines.{Line, is_blank, indent, cut}
use Rattle.htmd_commonmark_reading.specs.LinkDefinitions.{Definitions, definitions}
use Rattle.htmd_commonmark_reading.specs.Tables.{cells, delimiter_row}
use Rattle.htmd_commonmark_reading.specs.Boxes.{text, headed, ClosedBlocks, Leaf, paragraph, indented, fenced, raw}
use Rattle.htmd_commonmark_reading.specs.Boxes.{table, nothing, leaf, Box, box, joined, joined_lines, parts_of}
use Rattle.htmd_commonmark_reading.specs.Boxes.{closed_leaf, was_blank}
use Rattle.htmd_commonmark_reading.specs.BlockStarts.{alone, under, is_same, closes_fence, has_end, Start, no_start}
use Rattle.htmd_commonmark_reading.specs.BlockStarts.{whole, first_line, opened, started}

-- a box in which nothing is open, after a line that starts this
abbrev pub begun : ClosedBlocks → Bool → Line → Start → Box
begun done g l s = if is_blank l then box done true nothing else opened done g l s

-- a box whose open leaf ends before a line that starts this
abbrev pub after_leaf : ClosedBlocks → Bool → Leaf → Line → Start → Box
after_leaf done g f l s = begun (joined done (closed_leaf g f)) (was_blank g (leaf f)) l s

abbrev pub with_leaf : ClosedBlocks → Bool → Leaf → Box
with_leaf done g f = box done g (leaf f)

-- a box whose open leaf ends with this line
abbrev pub ended : ClosedBlocks → Bool → Leaf → Box
ended done g f = box (joined done (closed_leaf g f)) false nothing

-- ---- code and HTML

-- fenced code (4.5): its lines lose as much indentation as the opening fence has
abbrev pub on_fence : ClosedBlocks → Bool → ℕ → ℕ → ℕ → List ℕ → List (List ℕ) → Line → Box
on_fence done g columns sign count info ls l =
    if closes_fence sign count l
    then ended done g (fenced columns sign count info ls)
    else with_leaf done g (fenced columns sign count info (ls ++ ((cut columns l).text ∷ [])))

-- indented code (4.4)
abbrev pub on_code : ClosedBlocks → Bool → List (List ℕ) → Line → Box
on_code done g ls l =
    if is_blank l || nat_le 4 (indent l)
    then with_leaf done g (indented (ls ++ ((cut 4 l).text ∷ [])))
    else after_leaf done g (indented ls) l (started alone l)

-- an HTML block (4.6) that ends at a blank line, or in a line that has one of its ends
abbrev pub on_html : ClosedBlocks → Bool → List (List ℕ) → List (List ℕ) → Line → Box
on_html done g ends ls l =
    if is_empty_list ends && is_blank l
    then box (joined done (closed_leaf g (raw ends ls))) true nothing
    else if has_end ends l.text
    then ended done g (raw ends (ls ++ (l.text ∷ [])))
    else with_leaf done g (raw ends (ls ++ (l.text ∷ [])))
  where
    is_empty_list : List (List ℕ) → Bool
    is_empty_list [] = true
    is_empty_list (e ∷ es) = false

-- ---- tables (GFM 4.10)

abbrev pub is_row : List (List ℕ) → Start → Bool
is_row (c ∷ cs) no_start = true
is_row _ _ = false

abbrev pub on_table : ClosedBlocks → Bool → List Alignment → List (List ℕ) → List (List ℕ) → Line
    → Start → Box
on_table done g alignments header ls l s =
    if is_row (cells l.text) s
    then with_leaf done g (table alignments header (ls ++ (l.text ∷ [])))
    else after_leaf done g (table alignments header ls) l s

-- ---- paragraphs (4.8)

-- what is earlier in a paragraph, and its last line
abbrev pub longer : List (List ℕ) → List ℕ → Line → Leaf
longer earlier last l = paragraph (earlier ++ (last ∷ [])) (past_blanks l.text)

-- the level of the heading that a line underlines (4.3)
abbrev pub underline : List ℕ → Option ℕ
underline s =
    if first_is equals_sign s && list_all (is_same equals_sign) s
    then Some 1
    else if first_is hyphen s && list_all (is_same hyphen) s then Some 2 else None

abbrev pub underline_of : Line → Option ℕ
underline_of l = if nat_le (indent l) 3 then underline (stripped l.text) else None

-- a paragraph's last line is the header of a table with this delimiter row
abbrev pub is_header : List ℕ → List Alignment → Bool
is_header last [] = false
is_header last (a ∷ more) = length (cells last) == length (a ∷ more)

abbrev pub table_after : ClosedBlocks → Bool → List (List ℕ) → List ℕ → List Alignment → Box
table_after done g [] last alignments = with_leaf done g (table alignments (cells last) [])
table_after done g (e ∷ es) last alignments =
    with_leaf (joined done (parts_before (e ∷ es))) false (table alignments (cells last) [])
  where
    parts_before : List (List ℕ) → ClosedBlocks
    parts_before es = parts_of g text (definitions (joined_lines es))

-- under a paragraph: a delimiter row below its header, or one more line
abbrev pub table_or_text : ClosedBlocks → Bool → List (List ℕ) → List ℕ → Line → Option (List Alignment)
    → Box
table_or_text done g earlier last l None = with_leaf done g (longer earlier last l)
table_or_text done g earlier last l (Some alignments) =
    if is_header last alignments
    then table_after done g earlier last alignments
    else with_leaf done g (longer earlier last l)

abbrev pub delimiter_row_of : Line → Option (List Alignment)
delimiter_row_of l = if nat_le (indent l) 3 then delimiter_row (stripped l.text) else None

-- under a paragraph, a line that isn't blank and is no underline
abbrev pub on_text : ClosedBlocks → Bool → List (List ℕ) → List ℕ → Line → Start → Box
on_text done g earlier last l no_start = table_or_text done g earlier last l (delimiter_row_of l)
on_text done g earlier last l (whole p) =
    opened (joined done (closed_leaf g (paragraph earlier last))) false l (whole p)
on_text done g earlier last l (first_line o) =
    opened (joined done (closed_leaf g (paragraph earlier last))) false l (first_line o)

-- under a paragraph, a line that may underline what its definitions leave
abbrev pub on_underline : ClosedBlocks → Bool → Option ℕ → Definitions → Box → Box
on_underline done g None d other = other
on_underline done g (Some level) d other =
    if is_empty d.rest then other else box (joined done (parts_of g (headed level) d)) false nothing

abbrev pub on_paragraph : ClosedBlocks → Bool → List (List ℕ) → List ℕ → Line → Box
on_paragraph done g earlier last l =
    if is_blank l
    then box (joined done (closed_leaf g (paragraph earlier last))) true nothing
    else on_underline done g (underline_of l) (definitions (joined_lines (earlier ++ (last ∷ []))))
    (on_text done g earlier last l (started under l))

-- a box with an open leaf after one more line
abbrev pub on_leaf : ClosedBlocks → Bool → Leaf → Line → Box
on_leaf done g (paragraph earlier last) l = on_paragraph done g earlier last l
on_leaf done g (indented ls) l = on_code done g ls l
on_leaf done g (fenced columns sign count info ls) l = on_fence done g columns sign count info ls l
on_leaf done g (raw ends ls) l = on_html done g ends ls l
on_leaf done g (table alignments header ls) l = on_table done g alignments header ls l (started alone l)
