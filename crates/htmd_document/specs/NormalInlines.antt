-- The normal form of inlines: what the inlines of a page's document are like, and what is read back.
use Rattle.std.specs.Prelude.{ℕ, Bool, true, false, not, ◌&&◌, ◌||◌, ◌==◌, nat_le, if◌then◌else◌, List, [], ◌∷◌, reverse}
use Rattle.std.specs.Prelude.{Option, Some, None}
use Rattle.std.specs.Prelude.{codes}
use Rattle.std.specs.List.{list_all, list_any}
use Rattle.std.specs.Str.{is_utf8}
use Rattle.htmd_lexical.specs.Characters.{space, is_one_of}
use Rattle.htmd_lexical.specs.CharacterClasses.{is_empty, first_is}
use Rattle.htmd_document.specs.DocumentLimits.{most_raised}
use Rattle.htmd_document.specs.Documents.{Inline, text, code, formatted, link, image, anchor, line_break, task}
use Rattle.htmd_document.specs.Documents.{Inlines, no_inlines, inline}
use Rattle.htmd_document.specs.Formats.{Format, Abbreviation, is_same_format, is_same_kind, is_raised, raised_count}

-- ---- texts

-- no U+0000 and no white space of ASCII but the space
abbrev pub is_line_byte : ℕ → Bool
is_line_byte b = not (is_one_of (codes "\0\t\n\r") b || (b == 0x0C))

-- UTF-8 in one line
abbrev pub is_line : List ℕ → Bool
is_line s = is_utf8 s && list_all is_line_byte s

abbrev pub has_double_space : List ℕ → Bool
has_double_space [] = false
has_double_space (b ∷ s) = ((b == space) && first_is space s) || has_double_space s

-- one line that isn't empty, with single spaces
abbrev pub is_text : List ℕ → Bool
is_text s = is_line s && not (is_empty s) && not (has_double_space s)

abbrev pub ends_in_space : List ℕ → Bool
ends_in_space s = first_is space (reverse s)

-- no space is at its ends
abbrev pub is_trimmed : List ℕ → Bool
is_trimmed s = not (first_is space s) && not (ends_in_space s)

-- an address or title holds no line's end and no U+0000
abbrev pub is_kept : ℕ → Bool
is_kept b = not (is_one_of (codes "\0\n\r") b)

abbrev pub is_attribute : List ℕ → Bool
is_attribute s = is_utf8 s && list_all is_kept s

-- a title isn't blank
abbrev pub is_title : Option (List ℕ) → Bool
is_title None = true
is_title (Some s) = is_attribute s && list_any is_line_byte s && list_any (λ b. not (b == space)) s

-- ---- neighbours

-- what an inline is to those beside it: texts and codes are each one sort, and so is each format
pub data Sort : Type 0 where
  words : Sort
  of_format : (f : Format) → Sort
  breaks : Sort
  others : Sort

abbrev pub sort : Inline → Sort
sort (text s) = words
sort (code s) = words
sort (formatted f content) = of_format f
sort (link address title content) = others
sort (image address title description) = others
sort (anchor id) = others
sort line_break = breaks
sort (task is_checked) = others

abbrev pub is_same_sort : Sort → Sort → Bool
is_same_sort words words = true
is_same_sort (of_format f) (of_format g) = is_same_format f g
is_same_sort breaks breaks = true
is_same_sort _ _ = false

-- a text and a code are two sorts of words
abbrev pub is_code : Inline → Bool
is_code (code s) = true
is_code _ = false

abbrev pub is_break : Inline → Bool
is_break line_break = true
is_break _ = false

abbrev pub begins_with_space : Inline → Bool
begins_with_space (text s) = first_is space s
begins_with_space _ = false

abbrev pub ends_with_space : Inline → Bool
ends_with_space (text s) = ends_in_space s
ends_with_space _ = false

-- one may stand right before the other: neither is both alike, nor is white space beside a break
abbrev pub may_meet : Inline → Inline → Bool
may_meet x y =
    not (is_same_sort (sort x) (sort y) && not (is_code x && not (is_code y)) && not (is_code y && not (is_code x)))
    && not (ends_with_space x && is_break y)
    && not (is_break x && begins_with_space y)

abbrev pub meets : Inline → Inlines → Bool
meets x no_inlines = true
meets x (inline y rest) = may_meet x y

-- ---- ends

abbrev pub has_none : Inlines → Bool
has_none no_inlines = true
has_none (inline x rest) = false

abbrev pub first_passes : (Inline → Bool) → Inlines → Bool
first_passes p no_inlines = false
first_passes p (inline x rest) = p x

abbrev pub last_passes : (Inline → Bool) → Inlines → Bool
last_passes p no_inlines = false
last_passes p (inline x no_inlines) = p x
last_passes p (inline x (inline y rest)) = last_passes p (inline y rest)

-- no space is at the ends
abbrev pub are_trimmed : Inlines → Bool
are_trimmed xs = not (first_passes begins_with_space xs) && not (last_passes ends_with_space xs)

-- nor a break
abbrev pub are_whole : Inlines → Bool
are_whole xs = are_trimmed xs && not (first_passes is_break xs) && not (last_passes is_break xs)

-- ---- inlines

abbrev pub is_around : List Format → Format → Bool
is_around [] f = false
is_around (g ∷ around) f = is_same_kind g f || is_around around f

-- a format can't stand in itself, but what is above or below the line can stand in that, up to so many
abbrev pub is_barred : List Format → Format → Bool
is_barred around f = if is_raised f then nat_le most_raised (raised_count around) else is_around around f

-- the title of an abbreviation says something
abbrev pub has_title : Format → Bool
has_title (Abbreviation title) = is_text title && is_trimmed title
has_title f = true

-- within these formats, in a link or not: no format stands where it can't, no link and no anchor in a link, and nothing
-- is empty; no space and no break is at the ends of a format
abbrev mutual
  pub is_normal : Bool → List Format → Inline → Bool
  is_normal in_link around (text s) = is_text s
  is_normal in_link around (code s) = is_text s && is_trimmed s
  is_normal in_link around (formatted f content) =
      not (is_barred around f) && has_title f && not (has_none content) && are_whole content
      && are_normal in_link (f ∷ around) content
  is_normal in_link around (link address title content) =
      not in_link && is_attribute address && is_title title && not (has_none content)
      && are_normal true around content
  is_normal in_link around (image address title description) =
      is_attribute address && is_title title && is_line description
  is_normal in_link around (anchor id) = not in_link && is_text id && is_trimmed id
  is_normal in_link around line_break = true
  is_normal in_link around (task is_checked) = false

  pub are_normal : Bool → List Format → Inlines → Bool
  are_normal in_link around no_inlines = true
  are_normal in_link around (inline x rest) =
      is_normal in_link around x && meets x rest && are_normal in_link around rest

-- the inlines of a paragraph, a heading or a cell
abbrev pub is_normal_line : Inlines → Bool
is_normal_line xs = are_whole xs && are_normal false [] xs

-- the inlines of an item's first paragraph: they may begin with a task, after which a space stands
abbrev pub is_normal_item : Inlines → Bool
is_normal_item (inline (task is_checked) rest) =
    first_passes begins_with_space rest && not (last_passes ends_with_space rest)
    && not (last_passes is_break rest)
    && are_normal false [] rest
is_normal_item xs = is_normal_line xs

-- ---- where anchors stand

abbrev pub is_anchor : Inline → Bool
is_anchor (anchor id) = true
is_anchor _ = false

-- anchors and nothing else
abbrev pub are_anchors : Inlines → Bool
are_anchors no_inlines = true
are_anchors (inline x rest) = is_anchor x && are_anchors rest

-- a space or a break
abbrev pub is_gap : Inline → Bool
is_gap x = is_break x || begins_with_space x

-- after an anchor something that shows, or another one
abbrev pub shows_after : Inline → Inlines → Bool
shows_after x rest = not (is_anchor x) || not (has_none rest) && not (first_passes is_gap rest)

-- each anchor stands right before what shows, and none at the beginning of a format
abbrev mutual
  pub stands_well : Inline → Bool
  stands_well (formatted f content) = not (first_passes is_anchor content) && anchors_stand_well content
  stands_well x = true

  pub anchors_stand_well : Inlines → Bool
  anchors_stand_well no_inlines = true
  anchors_stand_well (inline x rest) = stands_well x && shows_after x rest && anchors_stand_well rest
