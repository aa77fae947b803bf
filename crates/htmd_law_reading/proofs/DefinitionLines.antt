-- Each definition is a line of the Markdown.
use Rattle.std.proofs.Common.{◌≤◌, ◌<◌, ◌^◌, ℕ, List, [], ◌∷◌, ◌++◌, length, arith}
use Rattle.std.specs.Prelude.{codes}
use Rattle.std.specs.List.{flat_map}
use Rattle.std.proofs.lemmas.List.{length-append}
use Rattle.htmd_document.specs.Documents.{Blocks}
use Rattle.htmd_document.specs.FlatDocuments.{flattened}
use Rattle.htmd_commonmark.specs.declared.options.DocumentOptions.{DocumentOptions}
use Rattle.htmd_commonmark.specs.BlockMarkdown.{written_blocks}
use Rattle.htmd_commonmark.specs.DocumentMarkdown.{outermost, written_definitions, markdown_of}
use Rattle.htmd_law_blocks.specs.BlockLaws.{definition_lines}
use Rattle.htmd_law_reading.specs.ReadingLaws.{DefinitionsAreLines, HasFewDefinitions}

after_feeds : (lines : List (List ℕ))
    → length lines ≤ length (flat_map (λ definition. codes "\n" ++ definition) lines)
after_feeds [] = omega arith
after_feeds (line ∷ lines) =
    omega (
      arith,
      after_feeds lines,
      length-append line (flat_map (λ definition. codes "\n" ++ definition) lines),
    )

written_lines : (lines : List (List ℕ)) → length lines ≤ length (written_definitions lines)
written_lines [] = omega arith
written_lines (first ∷ rest) =
    omega (
      arith,
      after_feeds rest,
      length-append first (flat_map (λ definition. codes "\n" ++ definition) rest),
    )

pub definitions_are_lines : DefinitionsAreLines
definitions_are_lines options d =
    let text : List ℕ = (written_blocks options outermost [] (flattened d)).text in
    let lines : List (List ℕ) = definition_lines options (flattened d) in
    omega (arith, length-append text (written_definitions lines), written_lines lines)

-- few of a text that fits
pub few_answered : (options : DocumentOptions) (d : Blocks) → length (markdown_of options d) < 2 ^ 64
    → HasFewDefinitions options d
few_answered options d l =
    less (length (definition_lines options (flattened d))) (length (markdown_of options d)) (2 ^ 64)
    (definitions_are_lines options d) l
  where
    less : (a b k : ℕ) → a ≤ b → b < k → a < k
    less a b k h g = omega arith
