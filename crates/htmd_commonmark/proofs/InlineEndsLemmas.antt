-- The first and the last of some inlines.
use Rattle.std.proofs.Common.{◌≡◌, ℕ, ◌-◌, ◌≤◌, List, [], ◌∷◌, length, get_or, refl, sym, ap, ◌∙◌, arith}
use Rattle.std.specs.Prelude.{Option, Some, None, Vec, String}
use Rattle.std.specs.declared.alloc.Global.{Global}
use Rattle.htmd_lexical.specs.Characters.{asterisk, less_than_sign, greater_than_sign}
use Rattle.htmd_document.specs.declared.document.Format.{Format}
use Rattle.htmd_document.specs.declared.document.Format.TheVariants.{Emphasis, Strong, Deleted}
use Rattle.htmd_document.specs.declared.document.InlineElement.{InlineElement}
use Rattle.htmd_document.specs.declared.document.InlineElement.TheVariants.{Superscript, Subscript, Inserted}
use Rattle.htmd_document.specs.declared.document.InlineElement.TheVariants.{Underlined, Marked, Small, Keyboard}
use Rattle.htmd_document.specs.declared.document.Inline.{Inline}
use Rattle.htmd_document.specs.declared.document.Inline.TheVariants.{Formatted, Element, Abbreviation}
use Rattle.htmd_document.specs.Formats.{of_format, of_element}
use Rattle.htmd_document.proofs.MdastLemmas.{inline-formatted, inline-element, inline-abbreviation}
use Rattle.htmd_document.specs.DocumentViews.{inline_of, inlines_of}
use Rattle.htmd_commonmark.specs.declared.line.LineKind.{LineKind}
use Rattle.htmd_commonmark.specs.InlineEnds.{first_of_format, last_of_format, first_of, last_of, last_after, last_of_all}

last_after-is : (o : Option ℕ) (x : Inline) (xs : List Inline) (d : Inline)
    → last_after o (inlines_of (x ∷ xs)) ≡ last_of (inline_of (get_or (x ∷ xs) (length xs) d))
last_after-is o x [] d = refl
last_after-is o x (y ∷ xs) d = last_after-is (last_of (inline_of x)) y xs d

pub last_of_all-is : (xs : List Inline) (x : Inline) → 1 ≤ length xs → x ≡ get_or xs (length xs - 1) x
    → last_of (inline_of x) ≡ last_of_all (inlines_of xs)
last_of_all-is [] x filled is = absurd (omega arith)
last_of_all-is (y ∷ xs) x filled is =
    let at : length (y ∷ xs) - 1 ≡ length xs = omega arith in
    ap (λ z. last_of (inline_of z)) (is ∙ ap (λ n. get_or (y ∷ xs) n x) at) ∙ sym (last_after-is None y xs x)

-- ---- formats and elements of the source

mark_first : (f : Format) → first_of_format (of_format f) ≡ asterisk
mark_first Emphasis = refl
mark_first Strong = refl
mark_first Deleted = refl

mark_last : (f : Format) → last_of_format (of_format f) ≡ asterisk
mark_last Emphasis = refl
mark_last Strong = refl
mark_last Deleted = refl

tag_first : (e : InlineElement) → first_of_format (of_element e) ≡ less_than_sign
tag_first Superscript = refl
tag_first Subscript = refl
tag_first Inserted = refl
tag_first Underlined = refl
tag_first Marked = refl
tag_first Small = refl
tag_first Keyboard = refl

tag_last : (e : InlineElement) → last_of_format (of_element e) ≡ greater_than_sign
tag_last Superscript = refl
tag_last Subscript = refl
tag_last Inserted = refl
tag_last Underlined = refl
tag_last Marked = refl
tag_last Small = refl
tag_last Keyboard = refl

pub format_first : (kind : LineKind) (f : Format) (xs : Vec Inline Global)
    → first_of kind (inline_of (Formatted f xs)) ≡ Some asterisk
format_first kind f xs = ap (first_of kind) (inline-formatted f xs) ∙ ap (λ c. Some c) (mark_first f)

pub format_last : (f : Format) (xs : Vec Inline Global) → last_of (inline_of (Formatted f xs)) ≡ Some asterisk
format_last f xs = ap last_of (inline-formatted f xs) ∙ ap (λ c. Some c) (mark_last f)

pub element_first : (kind : LineKind) (e : InlineElement) (xs : Vec Inline Global)
    → first_of kind (inline_of (Element e xs)) ≡ Some less_than_sign
element_first kind e xs = ap (first_of kind) (inline-element e xs) ∙ ap (λ c. Some c) (tag_first e)

pub element_last : (e : InlineElement) (xs : Vec Inline Global)
    → last_of (inline_of (Element e xs)) ≡ Some greater_than_sign
element_last e xs = ap last_of (inline-element e xs) ∙ ap (λ c. Some c) (tag_last e)

pub abbreviation_first : (kind : LineKind) (title : String Global) (xs : Vec Inline Global)
    → first_of kind (inline_of (Abbreviation title xs)) ≡ Some less_than_sign
abbreviation_first kind title xs = ap (first_of kind) (inline-abbreviation title xs)

pub abbreviation_last : (title : String Global) (xs : Vec Inline Global)
    → last_of (inline_of (Abbreviation title xs)) ≡ Some greater_than_sign
abbreviation_last title xs = ap last_of (inline-abbreviation title xs)

-- what inlines that stand for more than text begin with
pub ruleset first_steps = (format_first, element_first, abbreviation_first)

-- what they end with
pub ruleset last_steps = (format_last, element_last, abbreviation_last)
