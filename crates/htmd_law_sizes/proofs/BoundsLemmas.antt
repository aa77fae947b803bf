-- How long the Markdown of a document is at most.
use Rattle.std.proofs.Common.{ℕ, ◌+◌, ◌*◌, ◌≤◌, List, [], ◌∷◌, ◌++◌, length, add-mul, mul_assoc, mul-le-mul, mul-le-mul_right}
use Rattle.std.proofs.Common.{arith}
use Rattle.std.proofs.lemmas.List.{length-append}
use Rattle.std.specs.Prelude.{codes}
use Rattle.std.specs.List.{flat_map}
use Rattle.htmd_commonmark.specs.BlockMarkdown.{written_blocks}
use Rattle.htmd_document.specs.Documents.{Blocks}
use Rattle.htmd_document.specs.FlatDocuments.{flattened}
use Rattle.htmd_commonmark.specs.declared.options.DocumentOptions.{DocumentOptions}
use Rattle.htmd_commonmark.specs.DocumentMarkdown.{written_definitions, outermost, flat_markdown}
use Rattle.htmd_law_sizes.specs.DocumentSizes.{size_of, margin_of}
use Rattle.htmd_law_sizes.specs.SizeLaws.{MarkdownIsBounded, NormalMarkdownIsBounded}
use Rattle.htmd_law_sizes.proofs.InlineBounds.{lines_size}
use Rattle.htmd_law_sizes.proofs.BlockBounds.{blocks_fit}
use Rattle.htmd_law_sizes.proofs.FlatBounds.{flat_size, flat_margin}
use Rattle.htmd_law_sizes.proofs.MarginLemmas.{normal_margin}

further_length : (ls : List (List ℕ)) → length (flat_map (λ definition. codes "\n" ++ definition) ls) ≤
    lines_size ls
further_length [] = omega arith
further_length (l ∷ ls) =
    omega (arith, length-append l (flat_map (λ definition. codes "\n" ++ definition) ls), further_length ls)

definitions_length : (ls : List (List ℕ)) → length (written_definitions ls) ≤ lines_size ls
definitions_length [] = omega arith
definitions_length (l ∷ ls) =
    omega (arith, length-append l (flat_map (λ definition. codes "\n" ++ definition) ls), further_length ls)

flat_is_bounded : (options : DocumentOptions) (document : Blocks)
    → length (flat_markdown options document) ≤ (256 + 4 * margin_of document) * size_of document
flat_is_bounded options document =
    let w = written_blocks options outermost [] document in
    let g = margin_of document in
    let n = size_of document in
    let f = blocks_fit options outermost [] document g (omega arith) in
    omega (
      arith,
      length-append w.text (written_definitions w.definitions),
      definitions_length w.definitions,
      f.long,
      f.defined,
      add-mul 256 (4 * g) n,
      mul_assoc 4 g n,
    )

pub markdown_is_bounded : MarkdownIsBounded
markdown_is_bounded options document =
    let f = flattened document in
    let g : 256 + 4 * margin_of f ≤ 256 + 4 * margin_of document = omega (arith, flat_margin document) in
    omega (arith, flat_is_bounded options f, mul-le-mul g (flat_size document))

pub normal_markdown_is_bounded : NormalMarkdownIsBounded
normal_markdown_is_bounded options document h =
    let g = margin_of document in
    let n = size_of document in
    let i = normal_margin document h in
    let j : 256 + 4 * g ≤ 2048 = omega (arith, i) in
    omega (arith, markdown_is_bounded options document, mul-le-mul_right n j)
