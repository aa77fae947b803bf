-- A block of raw HTML: a blank line would end it (CommonMark 0.31.2, 4.6, end conditions 6 and 7), so a line end that
-- would make one is written by references.
use Rattle.std.specs.Prelude.{◌≡◌, ℕ, Bool, true, false, ◌&&◌, ◌==◌, if◌then◌else◌, List, [], ◌∷◌, ◌++◌, codes}
use Rattle.std.specs.Char.{is_whitespace}
use Rattle.std.specs.List.{list_any, list_all}
use Rattle.std.specs.Str.{chars, encode_utf8_all}
use Rattle.htmd_lexical.specs.BlankLines.{with_blank_lines}
use Rattle.htmd_lexical.specs.Characters.{line_feed, carriage_return}

abbrev pub line_feed_reference : List ℕ
line_feed_reference = codes "&#10;"

abbrev pub carriage_return_reference : List ℕ
carriage_return_reference = codes "&#13;"

abbrev pub begins_line : List ℕ → Bool
begins_line [] = false
begins_line (c ∷ cs) = c == line_feed

-- The characters of a text from left to right, where `after` says that a line end was written as it is, and nothing but
-- white space since. A line end after one is written by references, CR LF by two, and what follows starts afresh. A
-- lone CR isn't a line end, and what follows it starts afresh too.
abbrev pub without_blank_lines : Bool → List ℕ → List ℕ
without_blank_lines after [] = []
without_blank_lines after (c ∷ cs) =
    if c == line_feed
    then (if after then line_feed_reference ++ without_blank_lines false cs else c ∷ without_blank_lines true cs)
    else (if c == carriage_return
    then (if after && begins_line cs
    then carriage_return_reference ++ without_blank_lines true cs
    else c ∷ without_blank_lines false cs)
    else c ∷ without_blank_lines (after && is_whitespace c) cs)

-- the block of a serialisation
abbrev pub raw_block : List ℕ → List ℕ
raw_block s = with_blank_lines (encode_utf8_all (without_blank_lines false (chars s)))

-- ---- blank lines

-- two line feeds have only white space between them
pub record HasBlankLine (cs : List ℕ) : Type 0 where
  pub before : List ℕ
  pub between : List ℕ
  pub behind : List ℕ
  pub white : list_all is_whitespace between ≡ true
  pub text : cs ≡ before ++ line_feed ∷ between ++ line_feed ∷ behind

-- ---- texts without CR

abbrev pub has_carriage_return : List ℕ → Bool
has_carriage_return s = list_any (λ c. c == carriage_return) (chars s)

-- Each line feed after a raw one, with only white space between them, is written as a reference, and that one is not
-- raw.
abbrev pub raw_html_from : Bool → List ℕ → List ℕ
raw_html_from after [] = []
raw_html_from after (c ∷ cs) =
    if c == line_feed
    then (if after then line_feed_reference ++ raw_html_from false cs else c ∷ raw_html_from true cs)
    else c ∷ raw_html_from (after && is_whitespace c) cs

abbrev pub raw_html : List ℕ → List ℕ
raw_html cs = raw_html_from false cs

-- the second text is the first one with references in place of some line feeds, and else the same
pub data RefersToLineFeeds : List ℕ → List ℕ → Type 0 where
  nothing : RefersToLineFeeds [] []
  same : {s t : List ℕ} (c : ℕ) → RefersToLineFeeds s t → RefersToLineFeeds (c ∷ s) (c ∷ t)
  reference : {s t : List ℕ} → RefersToLineFeeds s t
      → RefersToLineFeeds (line_feed ∷ s) (line_feed_reference ++ t)

-- What the block of a text without CR is: the text, with no blank line in it, since references stand in place of some
-- of its line feeds.
pub record IsRawBlock (s text : List ℕ) : Type 0 where
  pub block : text ≡ with_blank_lines (encode_utf8_all (raw_html (chars s)))
  pub line_feeds_alone : RefersToLineFeeds s (encode_utf8_all (raw_html (chars s)))
  pub no_blank_line : HasBlankLine (raw_html (chars s)) → ⊥
