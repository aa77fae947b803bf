-- The lines of a document, each after the prefix of the quotes and items that it stands in.
use Rattle.std.specs.Prelude.{◌≡◌, ℕ, ◌≤◌, true, false, ◌==◌, nat_lt, min, if◌then◌else◌, List, [], ◌∷◌, ◌++◌}
use Rattle.std.specs.Prelude.{◌+◌, length, map, take}
use Rattle.std.specs.Prelude.{drop, replicate, codes}
use Rattle.std.specs.List.{list_all, list_any, slice_split}
use Rattle.std.specs.Char.{is_ascii}
use Rattle.htmd_lexical.specs.Characters.{line_feed, space}
use Rattle.htmd_text.specs.Trims.{trimmed_end, is_line_feed, is_space}
use Rattle.htmd_text.specs.Indents.{indented_lines}
use Rattle.htmd_text.specs.Joins.{joined_texts}

-- ---- the lines of a quote and of an item

-- a line of a quote: an empty one has the marker alone (CommonMark 0.31.2, 5.1)
abbrev pub quoted_line : List ℕ → List ℕ
quoted_line [] = codes ">"
quoted_line (b ∷ line) = codes "> " ++ b ∷ line

abbrev pub quoted : List ℕ → List ℕ
quoted s = joined_texts (line_feed ∷ []) (map quoted_line (slice_split is_line_feed s))

-- the spaces after a marker, if something follows
abbrev pub gap : ℕ → List ℕ → List ℕ
gap spaces [] = []
gap spaces (b ∷ s) = replicate spaces space

-- An item: the marker and this many spaces before the first line, and as many as both take before the others that
-- aren't empty (5.2).
abbrev pub indented : List ℕ → ℕ → List ℕ → List ℕ
indented marker spaces s =
    marker ++ gap spaces s ++ indented_lines (length marker + spaces) (slice_split is_line_feed s)

-- a text in one line that is not empty, as markers are
pub record IsMarker (s : List ℕ) : Type 0 where
  pub some : (length s == 0) ≡ false
  pub line : list_any is_line_feed s ≡ false

-- ---- what was written so far

-- `out`: the text; `prefix`: what stands before a line of what follows, of which the last line has so many bytes, and
-- then so many spaces are due if something follows
pub record Page : Type 0 where
  pub out : List ℕ
  pub prefix : List ℕ
  pub written : ℕ
  pub gap : ℕ

pub record IsPage (page : Page) : Type 0 where
  pub within : page.written ≤ length page.prefix
  pub ascii : list_all is_ascii page.prefix ≡ true

abbrev pub nothing : Page
nothing = record { out = []; prefix = []; written = 0; gap = 0 }

-- what is due before a character, and before a line feed
abbrev pub due : Page → List ℕ
due page = replicate page.gap space ++ drop page.written page.prefix

abbrev pub due_at_end : Page → List ℕ
due_at_end page = replicate page.gap space ++ trimmed_end is_space (drop page.written page.prefix)

-- the line has its prefix
abbrev pub begun : Page → List ℕ → Page
begun page out = record { out = out; prefix = page.prefix; written = length page.prefix; gap = 0 }

abbrev pub with_byte : Page → ℕ → Page
with_byte page b =
    if b == line_feed
    then record { out = (page.out ++ due_at_end page) ++ line_feed ∷ []; prefix = page.prefix; written = 0; gap = 0 }
    else begun page ((page.out ++ due page) ++ b ∷ [])

-- with this text behind
abbrev pub wrote : Page → List ℕ → Page
wrote page [] = page
wrote page (b ∷ s) = wrote (with_byte page b) s

-- ---- quotes and items begin and end

-- without what the prefix has beyond this length
abbrev pub left : Page → ℕ → Page
left page outside =
    let prefix = take outside page.prefix in
    record { out = page.out; prefix = prefix; written = min page.written (length prefix); gap = page.gap }

abbrev pub in_quote : Page → Page
in_quote page = record page { prefix = page.prefix ++ codes "> " }

-- the last line has its marker, even if it is empty
abbrev pub behind_quote : Page → ℕ → Page
behind_quote page outside =
    left (if nat_lt page.written (length page.prefix) then begun page (page.out ++ due_at_end page) else page) outside

abbrev pub in_item : Page → List ℕ → ℕ → Page
in_item page marker spaces =
    let at = wrote page marker in
    let prefix = (at.prefix ++ replicate (length marker) space) ++ replicate spaces space in
    record { out = at.out; prefix = prefix; written = length prefix; gap = spaces }

abbrev pub behind_item : Page → ℕ → Page
behind_item page outside = left (record page { gap = 0 }) outside
