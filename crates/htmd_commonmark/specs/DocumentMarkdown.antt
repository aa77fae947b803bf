-- The Markdown of a document.
use Rattle.std.specs.Prelude.{ℕ, false, List, [], ◌∷◌, ◌++◌, None, codes}
use Rattle.std.specs.List.{flat_map}
use Rattle.htmd_document.specs.Documents.{Blocks}
use Rattle.htmd_document.specs.FlatDocuments.{flattened}
use Rattle.htmd_commonmark.specs.declared.blocks.Place.{Place}
use Rattle.htmd_commonmark.specs.declared.options.DocumentOptions.{DocumentOptions}
use Rattle.htmd_commonmark.specs.BlockMarkdown.{written_blocks}

-- the definitions of links (CommonMark 0.31.2, 4.7), a line each, after a blank line
abbrev pub written_definitions : List (List ℕ) → List ℕ
written_definitions [] = []
written_definitions (first ∷ rest) = codes "\n\n" ++ first ++ flat_map (λ definition. codes "\n" ++ definition) rest

abbrev pub outermost : Place
outermost = record { outer = None; in_item = false; tight = false }

-- flat blocks, and the definitions of the links in them
abbrev pub flat_markdown : DocumentOptions → Blocks → List ℕ
flat_markdown options document =
    let w = written_blocks options outermost [] document in w.text ++ written_definitions w.definitions

-- a document, with elements as tags around what stands in them
abbrev pub markdown_of : DocumentOptions → Blocks → List ℕ
markdown_of options document = flat_markdown options (flattened document)
