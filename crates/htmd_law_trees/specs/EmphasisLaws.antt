-- The law of the marks of emphasis.
use Rattle.std.specs.Prelude.{◌≡◌, List, ℕ, codes, IfSome}
use Rattle.htmd_markdown.specs.declared.emphasis.Emphasis.{Emphasis}
use Rattle.htmd_markdown.specs.declared.emphasis.Emphasis.TheVariants.{Regular, Strong}
use Rattle.htmd_markdown.specs.Emphases.{mark, AreMarksInside}
use Rattle.htmd_walk.specs.declared.options.TranslationMode.TheVariants.{Pure}
use Rattle.htmd_walk.specs.Elements.{Occurrence, content_of, answer_after}
use Rattle.htmd_walk.specs.BuiltIn.{built_in}

abbrev pub short_tag : Emphasis → List ℕ
short_tag Regular = codes "i"
short_tag Strong = codes "b"

abbrev pub long_tag : Emphasis → List ℕ
long_tag Regular = codes "em"
long_tag Strong = codes "strong"

-- What the built-in handlers of a tag give of an element in Pure, if anything, is its content with the two marks, which
-- stand inside the white space at its ends.
abbrev pub MarksAreInside : Emphasis → List ℕ → List ℕ → Type 0
MarksAreInside emphasis tag content =
    (at : Occurrence) (definitions : List (List ℕ)) → at.conversion.config ≡ built_in at.view.options
    → at.view.options.translation_mode ≡ Pure → (content_of at definitions).text ≡ content
    → IfSome (answer_after 0 tag at definitions).result (λ r. AreMarksInside (mark emphasis) content r.content)

abbrev pub MarksStandInside : Emphasis → List ℕ → Type 0
MarksStandInside emphasis content =
    MarksAreInside emphasis (short_tag emphasis) content × MarksAreInside emphasis (long_tag emphasis) content
