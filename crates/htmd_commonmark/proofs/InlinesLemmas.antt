-- Inlines that are written one after the other.
use Rattle.std.proofs.Common.{◌≡◌, ℕ, ◌+◌, ◌<◌, ◌≤◌, false, List, [], ◌∷◌, length, drop, get_or}
use Rattle.std.proofs.Common.{refl, sym, ap, ◌∙◌, arith}
use Rattle.std.specs.Prelude.{◌||◌, nat_eq, Option, Vec, String, string_bytes}
use Rattle.std.specs.declared.alloc.Global.{Global}
use Rattle.std.specs.List.{starts_with}
use Rattle.std.proofs.lemmas.List.{drop_more}
use Rattle.htmd_document.specs.declared.document.Inline.{Inline}
use Rattle.htmd_document.specs.declared.document.Inline.TheVariants.{Element, Abbreviation}
use Rattle.htmd_document.specs.declared.document.InlineElement.{InlineElement}
use Rattle.htmd_document.specs.declared.document.InlineElement.TheVariants.{Superscript, Subscript, Inserted}
use Rattle.htmd_document.specs.declared.document.InlineElement.TheVariants.{Underlined, Marked, Small, Keyboard}
use Rattle.htmd_document.specs.Formats as format
use Rattle.htmd_document.specs.Formats.{of_element}
use Rattle.htmd_document.proofs.MdastLemmas.{inline-element, inline-abbreviation}
use Rattle.htmd_document.specs.DocumentViews.{inline_of, inlines_of}
use Rattle.htmd_commonmark.specs.declared.inline_ends.Following.{Following}
use Rattle.htmd_commonmark.specs.declared.line.Line.{Line}
use Rattle.htmd_commonmark.specs.InlineEnds.{follows}
use Rattle.htmd_commonmark.specs.InlineMarkdown.{written, with_inline, between, sides_of, holds, is_text_alone}
use Rattle.htmd_commonmark.specs.Marks.{tags_of, mark_for}
use Rattle.htmd_commonmark.specs.declared.marks.Sides.{Sides}
use Rattle.htmd_commonmark.specs.WrittenText.{Written}

-- what is left after an inline is written with it
pub written-next : (line : Line) (w next : Written) (closing : Option ℕ) (xs : List Inline) (i : ℕ) (x : Inline)
    (f : Following) → i < length xs → x ≡ get_or xs i x
    → f ≡ follows line.kind closing (inlines_of (drop (i + 1) xs))
    → next ≡ with_inline line w f (inline_of x)
    → written line next closing (inlines_of (drop (i + 1) xs)) ≡ written line w closing (inlines_of (drop i xs))
written-next line w next closing xs i x f within is behind wrote =
    let rest = inlines_of (drop (i + 1) xs) in
    let split : drop i xs ≡ get_or xs i x ∷ drop (i + 1) xs = drop_more xs i x within in
    ap (λ v. written line v closing rest)
    (wrote ∙ ap (λ g. with_inline line w g (inline_of x)) behind
    ∙ ap (λ y. with_inline line w (follows line.kind closing rest) (inline_of y)) is)
    ∙ sym (ap (λ l. written line w closing (inlines_of l)) split)

-- where the signs don't begin, the rest holds them or none does
pub holds-more : (signs s : List ℕ) (i : ℕ) → i < length s → starts_with nat_eq (drop i s) signs ≡ false
    → holds signs (drop (i + 1) s) ≡ holds signs (drop i s)
holds-more signs s i within none =
    let split : drop i s ≡ get_or s i 0 ∷ drop (i + 1) s = drop_more s i 0 within in
    let begins : starts_with nat_eq (get_or s i 0 ∷ drop (i + 1) s) signs ≡ false =
    ap (λ l. starts_with nat_eq l signs) (sym split) ∙ none in
    sym (ap (holds signs) split ∙ ap (λ b. b || holds signs (drop (i + 1) s)) begins)

-- a text with something after it isn't alone
pub not_alone : (address : List ℕ) (xs : List Inline) → 2 ≤ length xs
    → false ≡ is_text_alone address (inlines_of xs)
not_alone address [] two = absurd (omega arith)
not_alone address (x ∷ []) two = absurd (omega arith)
not_alone address (x ∷ y ∷ xs) two = refl

-- what is written of an element

tags_written : (e : InlineElement) (s : Sides) → mark_for (of_element e) s ≡ tags_of (of_element e)
tags_written Superscript s = refl
tags_written Subscript s = refl
tags_written Inserted s = refl
tags_written Underlined s = refl
tags_written Marked s = refl
tags_written Small s = refl
tags_written Keyboard s = refl

pub element_written : (line : Line) (w : Written) (f : Following) (e : InlineElement) (xs : Vec Inline Global)
    → with_inline line w f (inline_of (Element e xs))
    ≡ between line w (tags_of (of_element e)) (inlines_of xs.items)
element_written line w f e xs =
    let content = inlines_of xs.items in
    ap (with_inline line w f) (inline-element e xs)
    ∙ ap (λ m. between line w m content) (tags_written e (sides_of line w.text f content))

pub abbreviation_written : (line : Line) (w : Written) (f : Following) (title : String Global) (xs : Vec Inline Global)
    → with_inline line w f (inline_of (Abbreviation title xs))
    ≡ between line w (tags_of (format.Abbreviation (string_bytes title))) (inlines_of xs.items)
abbreviation_written line w f title xs = ap (with_inline line w f) (inline-abbreviation title xs)

-- what of an inline is written
pub ruleset written_steps = (element_written, abbreviation_written)
