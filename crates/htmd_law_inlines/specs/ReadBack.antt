-- What is written of normal inlines is read back, in each place.
use Rattle.std.specs.Prelude.{◌≡◌, ◌<◌, ◌^◌, length, ℕ, suc, Bool, true, false, ◌&&◌, List, [], ◌∷◌, ◌++◌, Option, Some}
use Rattle.std.specs.Prelude.{None}
use Rattle.std.specs.Prelude.{bytes_eq}
use Rattle.std.specs.Fmt.{decimal}
use Rattle.htmd_document.specs.Documents.{text, Inlines, inline, no_inlines}
use Rattle.htmd_commonmark.specs.declared.line.Line.{Line}
use Rattle.htmd_commonmark.specs.InlineMarkdown.{written_line}
use Rattle.htmd_commonmark_reading.specs.LinkDefinitions.{Definition, definition, Defined}
use Rattle.htmd_commonmark_reading.specs.Brackets.{References, inlines}
use Rattle.htmd_commonmark_reading.specs.Lists.{item_text}
use Rattle.htmd_commonmark_reading.specs.Markup as markup
use Rattle.htmd_commonmark_reading.specs.SeenMarkup.{seen_inlines, document_inlines}
use Rattle.htmd_document.specs.NormalInlines.{is_normal_line, is_normal_item}
use Rattle.htmd_commonmark.specs.WrittenText.{is_one_line}
use Rattle.htmd_law_inlines.specs.PlainReadings.{is_read_plainly}

-- the inlines of a document that a reader sees
abbrev pub seen_document : markup.Inlines → Option Inlines
seen_document xs = document_inlines (seen_inlines xs)

-- the definition that the line is, if it is one
abbrev pub of_defined : Option Defined → List Definition
of_defined None = []
of_defined (Some d) = d.definition ∷ []

-- the definitions that these lines are
abbrev pub references : List (List ℕ) → References
references [] = []
references (s ∷ lines) = of_defined (definition s) ++ references lines

-- the lines define these numbers, one after another
abbrev pub is_number : ℕ → Option Defined → Bool
is_number n None = false
is_number n (Some d) = bytes_eq d.definition.key (decimal n)

abbrev pub are_numbered : ℕ → List (List ℕ) → Bool
are_numbered n [] = true
are_numbered n (s ∷ lines) = is_number n (definition s) && are_numbered (suc n) lines

-- the definitions before, those of these inlines, and those after
abbrev pub references_of : Line → List (List ℕ) → List (List ℕ) → Inlines → References
references_of line before after xs = references ((written_line line before xs).definitions ++ after)

-- no more definitions than fit the memory of any machine: beyond, numbers are no longer written whole
abbrev pub AreFew : List (List ℕ) → Type 0
AreFew lines = length lines < 2 ^ 64

-- In each place, whatever definitions were written before and come after: the inlines of what was written are those
-- that were given.
abbrev pub InlinesReadBack : Type 0
InlinesReadBack = (line : Line) (before after : List (List ℕ)) (xs : Inlines) → line.in_link ≡ false
    → are_numbered 1 before ≡ true → is_normal_line xs ≡ true
    → AreFew (written_line line before xs).definitions
    → seen_document (inlines (references_of line before after xs) (written_line line before xs).text) ≡ Some xs

-- the same of the paragraph that an item begins with
abbrev pub ItemsReadBack : Type 0
ItemsReadBack = (line : Line) (before after : List (List ℕ)) (xs : Inlines) → line.in_link ≡ false
    → are_numbered 1 before ≡ true → is_normal_item xs ≡ true
    → AreFew (written_line line before xs).definitions
    → seen_document (item_text (references_of line before after xs) (written_line line before xs).text) ≡ Some xs

-- The same of a text alone, whatever is defined.
abbrev pub TextsReadBack : Type 0
TextsReadBack = (line : Line) (before : List (List ℕ)) (refs : References) (s : List ℕ) → line.in_link
    ≡ false
    → is_normal_line (inline (text s) no_inlines) ≡ true
    → seen_document (inlines refs (written_line line before (inline (text s) no_inlines)).text)
    ≡ Some (inline (text s) no_inlines)

-- And what is read has text alone in descriptions of images, and a break is a tag only in a line that has to be one.
abbrev pub InlinesArePlain : Type 0
InlinesArePlain = (line : Line) (before after : List (List ℕ)) (xs : Inlines) → line.in_link ≡ false
    → are_numbered 1 before ≡ true → is_normal_line xs ≡ true
    → AreFew (written_line line before xs).definitions
    → is_read_plainly (is_one_line line.kind)
    (inlines (references_of line before after xs) (written_line line before xs).text) ≡ true

-- the same of the paragraph that an item begins with
abbrev pub ItemsArePlain : Type 0
ItemsArePlain = (line : Line) (before after : List (List ℕ)) (xs : Inlines) → line.in_link ≡ false
    → are_numbered 1 before ≡ true → is_normal_item xs ≡ true
    → AreFew (written_line line before xs).definitions
    → is_read_plainly (is_one_line line.kind)
    (item_text (references_of line before after xs) (written_line line before xs).text) ≡ true
