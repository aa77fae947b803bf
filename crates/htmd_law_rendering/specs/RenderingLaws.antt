-- The HTML of what is read of Markdown, and the trees that it is of.
use Rattle.std.specs.Prelude.{◌≡◌, ℕ, Bool, true, List, ◌++◌, codes, Some}
use Rattle.htmd_lexical.specs.Characters.{null}
use Rattle.htmd_lexical.specs.CharacterClasses.{lacks}
use Rattle.htmd_grammar.specs.Rules.{project}
use Rattle.htmd_grammar.specs.HtmlDocuments.{below_body, skeleton}
use Rattle.htmd_grammar.specs.ReadBack.{DenotesAlone}
use Rattle.htmd_nodes.specs.Layout.{document_items}
use Rattle.htmd_html5.specs.Html5Documents.{html5_document}
use Rattle.htmd_commonmark_reading.specs.Markup.{Blocks}
use Rattle.htmd_commonmark_reading.specs.Elements.{nested_document}
use Rattle.htmd_commonmark_reading.specs.Reading.{read, flat_document, document}
use Rattle.htmd_commonmark_reading.specs.Rendering.{html_of}
use Rattle.htmd_document.specs.Documents as documents
use Rattle.htmd_document.specs.NormalDocuments.{IsFlat}
use Rattle.htmd_law_rendering.specs.RenderedTrees.{spelled_of, trees_of}
use Rattle.htmd_law_rendering.specs.SpelledTrees.{all_spelled}
use Rattle.htmd_law_rendering.specs.PlainReadings.{blocks_are_paired, elements_are_strict, blocks_are_strict, IsPlain}

-- If raw tags and lines of tags pair, the HTML of what is read is that of its trees.
abbrev pub RenderedIsSpelled : Type 0
RenderedIsSpelled = (bs : Blocks) → blocks_are_paired bs ≡ true → html_of bs ≡ all_spelled (spelled_of bs)

-- If it is plain, by the strict grammar its HTML denotes its trees, and nothing else, as the content of a body.
abbrev pub RenderedIsRead : Type 0
RenderedIsRead = (scripting : Bool) (bs : Blocks) → IsPlain bs
    → DenotesAlone (project scripting) below_body (html_of bs) (trees_of bs)

-- And if it has no U+0000, the reader of any page makes that document of it, also behind `<body>`.
abbrev pub RenderedIsParsed : Type 0
RenderedIsParsed = (scripting : Bool) (bs : Blocks) → IsPlain bs → lacks null (html_of bs) ≡ true
    → (html5_document scripting (html_of bs) ≡ document_items (skeleton (trees_of bs)))
    × (html5_document scripting (codes "<body>" ++ html_of bs) ≡ document_items (skeleton (trees_of bs)))

-- Where one sees a document in a text, raw tags and lines of tags pair.
abbrev pub SeenIsPaired : Type 0
SeenIsPaired = (s : List ℕ) (d : documents.Blocks) → document s ≡ Some d → blocks_are_paired (read s) ≡ true

-- And if its flat form is normal and its elements may stand where they do, no link or anchor stands in a link, headings
-- have six levels, and elements stand where HTML allows them.
abbrev pub SeenIsStrict : Type 0
SeenIsStrict = (s : List ℕ) (flat d : documents.Blocks) → flat_document s ≡ Some flat → IsFlat flat
    → nested_document flat ≡ Some d → elements_are_strict below_body d ≡ true
    → blocks_are_strict below_body (read s) ≡ true
