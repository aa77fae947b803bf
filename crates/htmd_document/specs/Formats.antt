-- Formats: what can stand around inlines, links aside.
use Rattle.std.specs.Prelude.{ℕ, suc, Bool, true, false, ◌&&◌, ◌==◌, if◌then◌else◌, List, [], ◌∷◌}
use Rattle.std.specs.Str.{bytes_eq}
use Rattle.htmd_document.specs.declared.document.Format as declared_format
use Rattle.htmd_document.specs.declared.document.Format.TheVariants as marked
use Rattle.htmd_document.specs.declared.document.InlineElement as declared_element
use Rattle.htmd_document.specs.declared.document.InlineElement.TheVariants as element

-- those that Markdown has marks for, and then elements of HTML
pub data Format : Type 0 where
  Emphasis : Format
  Strong : Format
  Deleted : Format
  Superscript : Format
  Subscript : Format
  Inserted : Format
  Underlined : Format
  Marked : Format
  Small : Format
  Keyboard : Format
  Abbreviation : (title : List ℕ) → Format

-- what the source has for each
abbrev pub of_format : declared_format.Format → Format
of_format marked.Emphasis = Emphasis
of_format marked.Strong = Strong
of_format marked.Deleted = Deleted

abbrev pub of_element : declared_element.InlineElement → Format
of_element element.Superscript = Superscript
of_element element.Subscript = Subscript
of_element element.Inserted = Inserted
of_element element.Underlined = Underlined
of_element element.Marked = Marked
of_element element.Small = Small
of_element element.Keyboard = Keyboard

-- each kind of format has a number of its own
abbrev pub number : Format → ℕ
number Emphasis = 0
number Strong = 1
number Deleted = 2
number Superscript = 3
number Subscript = 4
number Inserted = 5
number Underlined = 6
number Marked = 7
number Small = 8
number Keyboard = 9
number (Abbreviation title) = 10

abbrev pub title_of : Format → List ℕ
title_of (Abbreviation title) = title
title_of f = []

abbrev pub is_same_kind : Format → Format → Bool
is_same_kind f g = number f == number g

-- of the same kind, and with the same title
abbrev pub is_same_format : Format → Format → Bool
is_same_format f g = is_same_kind f g && bytes_eq (title_of f) (title_of g)

-- what stands above or below the line
abbrev pub is_raised : Format → Bool
is_raised Superscript = true
is_raised Subscript = true
is_raised f = false

abbrev pub raised_count : List Format → ℕ
raised_count [] = 0
raised_count (f ∷ around) = if is_raised f then suc (raised_count around) else raised_count around
