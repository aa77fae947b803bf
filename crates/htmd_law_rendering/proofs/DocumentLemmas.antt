-- What is read of the Markdown of a document in normal form is plain.
use Rattle.std.proofs.Common.{◌≡◌, ◌≤◌, ◌+◌, ◌∙◌, ap, refl, [], ◌∷◌, true, false, Some, codes, arith}
use Rattle.std.specs.Prelude.{nat_le}
use Rattle.std.proofs.lemmas.Bool.{and_parts, and_from, le-leb}
use Rattle.std.proofs.lemmas.Bool.Decides.{nat_tests}
use Rattle.std.proofs.lemmas.List.{append-nil}
use Rattle.htmd_document.specs.Documents as documents
use Rattle.htmd_document.specs.Documents.{Block, Blocks, no_blocks, block}
use Rattle.htmd_document.specs.FlatDocuments.{flattened, flat_before, flat_items}
use Rattle.htmd_document.specs.DocumentLimits.{most_nested}
use Rattle.htmd_document.specs.NormalDocuments.{are_normal_blocks, depth_of, depth_among, depth_of_items, IsNormal}
use Rattle.htmd_grammar.specs.HtmlDocuments.{below_body}
use Rattle.htmd_grammar.specs.Nesting.{Context}
use Rattle.htmd_commonmark.specs.declared.options.DocumentOptions.{DocumentOptions}
use Rattle.htmd_commonmark.specs.DocumentMarkdown.{outermost, markdown_of}
use Rattle.htmd_commonmark_reading.specs.Reading.{flat_document}
use Rattle.htmd_commonmark_reading.specs.Rendering.{html_of}
use Rattle.htmd_commonmark_reading.specs.SeenMarkup.{seen_blocks}
use Rattle.htmd_commonmark_reading.specs.SeenMarkup.{document_blocks}
use Rattle.htmd_law_blocks.specs.BlockLaws.{definition_lines}
use Rattle.htmd_law_texts.proofs.DocumentLaws.{lists_read_back}
use Rattle.htmd_law_texts.proofs.FlatForm.{normal_is_flat}
use Rattle.htmd_law_texts.proofs.NestedBlocks.{nested_is}
use Rattle.htmd_law_reading.specs.ReadingLaws.{HasFewDefinitions}
use Rattle.htmd_law_reading.proofs.ReadingMain.{reads_back}
use Rattle.htmd_law_reading.proofs.WholeDocuments.{first_blocks}
use Rattle.htmd_law_html5.specs.StrictTrees.{PlainPagesAgree, PlainTextsAgree}
use Rattle.htmd_law_rendering.specs.PlainReadings.{block_has_no_elements, blocks_have_no_elements}
use Rattle.htmd_law_rendering.specs.PlainReadings.{items_have_no_elements, blocks_are_paired, elements_fit}
use Rattle.htmd_law_rendering.specs.PlainReadings.{block_elements_are_strict, elements_are_strict, takes_blocks}
use Rattle.htmd_law_rendering.specs.PlainReadings.{item_elements_are_strict, tree_depth, trees_depth, items_depth}
use Rattle.htmd_law_rendering.specs.RenderedTrees.{list_name}
use Rattle.htmd_law_rendering.specs.DocumentLaws.{reading_of, DocumentsAreSpelled, DocumentsAreParsed}
use Rattle.htmd_law_rendering.proofs.RenderedLemmas.{rendered}
use Rattle.htmd_law_rendering.proofs.ParsedLemmas.{parsed}
use Rattle.htmd_law_rendering.proofs.PairedBlocks.{seen-pairs}
use Rattle.htmd_law_rendering.proofs.StrictDocumentBlocks.{seen-strict}
use Rattle.htmd_law_rendering.proofs.ShallowBlocks.{shallow}
use Rattle.htmd_law_rendering.proofs.SoundTags.{is_sound}
use Rattle.htmd_law_rendering.proofs.SoundReadings.{flat-sound}
use Rattle.htmd_law_rendering.proofs.SoundBlocks.{blocks-words}
use Rattle.htmd_law_rendering.proofs.SoundHtml.{html-sound, no-returns, no-nulls}

-- what is seen is the flat document
pub seen-flat : (options : DocumentOptions) (d : Blocks) → IsNormal d → HasFewDefinitions options d
    → flat_document (markdown_of options d) ≡ Some (flattened d)
seen-flat options d n few =
    let flat = flattened d in
    let lines = definition_lines options flat in
    ap (λ bs. document_blocks (seen_blocks bs)) (lists_read_back options flat (normal_is_flat d n))
    ∙ first_blocks options outermost false lines [] [] flat few tt (normal_is_flat d n) (append-nil lines)

-- ---- documents without elements

mutual
  same-before : (b : Block) (rest : Blocks) → block_has_no_elements b ≡ true → flat_before b rest ≡ block b rest
  same-before (documents.paragraph content) rest e = refl
  same-before (documents.heading level content) rest e = refl
  same-before (documents.code_block language s) rest e = refl
  same-before (documents.quote content) rest e = ap (λ bs. block (documents.quote bs) rest) (same-flat content e)
  same-before documents.thematic_break rest e = refl
  same-before (documents.list start is_tight items) rest e =
      ap (λ xs. block (documents.list start is_tight xs) rest) (same-items items e)
  same-before (documents.table alignments header rows) rest e = refl
  same-before (documents.element name attributes content) rest e = absurd (cc)
  same-before (documents.tags s) rest e = absurd (cc)

  pub same-flat : (bs : Blocks) → blocks_have_no_elements bs ≡ true → flattened bs ≡ bs
  same-flat no_blocks e = refl
  same-flat (block b bs) e =
      let p = and_parts (block_has_no_elements b) (blocks_have_no_elements bs) e in
      ap (flat_before b) (same-flat bs p.1) ∙ same-before b bs p.0

  pub same-items : (items : documents.Items) → items_have_no_elements items ≡ true → flat_items items ≡ items
  same-items documents.no_items e = refl
  same-items (documents.item bs rest) e =
      let p = and_parts (blocks_have_no_elements bs) (items_have_no_elements rest) e in
      ap (λ cs. documents.item cs (flat_items rest)) (same-flat bs p.0)
      ∙ ap (documents.item bs) (same-items rest p.1)

mutual
  plain-block : (c : Context) (b : Block) → takes_blocks c ≡ true → block_has_no_elements b ≡ true
      → (block_elements_are_strict c b ≡ true) × (tree_depth b ≤ depth_of b + depth_of b)
  plain-block c (documents.paragraph content) t e = (t, omega arith)
  plain-block c (documents.heading level content) t e = (t, omega arith)
  plain-block c (documents.code_block language s) t e = (t, omega arith)
  plain-block c (documents.quote content) t e =
      let i = plain-blocks (codes "blockquote" ∷ c) content refl e in
      let l = i.1 in (
        and_from (takes_blocks c) (elements_are_strict (codes "blockquote" ∷ c) content) t i.0,
        omega (arith, l),
      )
  plain-block c documents.thematic_break t e = (t, omega arith)
  plain-block c (documents.list start is_tight items) t e =
      let i = plain-items (codes "li" ∷ list_name start ∷ c) items refl e in
      let l = i.1 in (
        and_from (takes_blocks c) (item_elements_are_strict (codes "li" ∷ list_name start ∷ c) items) t i.0,
        omega (arith, l),
      )
  plain-block c (documents.table alignments header rows) t e = (t, omega arith)
  plain-block c (documents.element name attributes content) t e = absurd (cc)
  plain-block c (documents.tags s) t e = absurd (cc)

  plain-blocks : (c : Context) (bs : Blocks) → takes_blocks c ≡ true
      → blocks_have_no_elements bs ≡ true
      → (elements_are_strict c bs ≡ true) × (trees_depth bs ≤ depth_among bs + depth_among bs)
  plain-blocks c no_blocks t e = (refl, omega arith)
  plain-blocks c (block b bs) t e =
      let p = and_parts (block_has_no_elements b) (blocks_have_no_elements bs) e in
      let i = plain-block c b t p.0 in
      let j = plain-blocks c bs t p.1 in
      let l = i.1 in
      let m = j.1 in (
        and_from (block_elements_are_strict c b) (elements_are_strict c bs) i.0 j.0,
        omega (arith, l, m),
      )

  plain-items : (c : Context) (items : documents.Items) → takes_blocks c ≡ true
      → items_have_no_elements items ≡ true
      → (item_elements_are_strict c items ≡ true)
      × (items_depth items ≤ depth_of_items items + depth_of_items items)
  plain-items c documents.no_items t e = (refl, omega arith)
  plain-items c (documents.item bs rest) t e =
      let p = and_parts (blocks_have_no_elements bs) (items_have_no_elements rest) e in
      let i = plain-blocks c bs t p.0 in
      let j = plain-items c rest t p.1 in
      let l = i.1 in
      let m = j.1 in
      (and_from (elements_are_strict c bs) (item_elements_are_strict c rest) i.0 j.0, omega (arith, l, m))

-- they fit
pub plain-fit : (d : Blocks) → IsNormal d → blocks_have_no_elements d ≡ true → elements_fit d ≡ true
plain-fit d n e =
    let p = and_parts (are_normal_blocks false d) (nat_le (depth_among d) most_nested) n in
    let few : depth_among d ≤ most_nested = grind (arith, nat_tests, p.1) in
    let i = plain-blocks below_body d refl e in
    let l = i.1 in
    and_from (elements_are_strict below_body d) (nat_le (trees_depth d) 998) i.0
    (le-leb (trees_depth d) 998 (omega (arith, few, l)))

-- ---- the laws

paired : (options : DocumentOptions) (d : Blocks) → IsNormal d → HasFewDefinitions options d
    → blocks_are_paired (reading_of options d) ≡ true
paired options d n few = seen-pairs (markdown_of options d) d (reads_back options d n few)

sound : (options : DocumentOptions) (d : Blocks) → IsNormal d → HasFewDefinitions options d
    → is_sound (html_of (reading_of options d)) ≡ true
sound options d n few =
    let flat = normal_is_flat d n in
    html-sound (reading_of options d)
    (blocks-words false (reading_of options d) (flattened d) (seen-flat options d n few) flat)
    (flat-sound options (flattened d) flat)

pub documents-spelled : DocumentsAreSpelled
documents-spelled options d n few = rendered (reading_of options d) (paired options d n few)

pub documents-parsed : PlainPagesAgree → PlainTextsAgree → DocumentsAreParsed
documents-parsed pages texts z options d n few fit =
    let html = html_of (reading_of options d) in
    let whole = sound options d n few in
    let seen = seen-flat options d n few in
    let flat = normal_is_flat d n in
    let p = and_parts (elements_are_strict below_body d) (nat_le (trees_depth d) 998) fit in
    let deep : trees_depth d ≤ 998 = grind (arith, nat_tests, p.1) in
    (parsed pages texts z (reading_of options d) (record {
      paired = paired options d n few;
      strict = seen-strict (markdown_of options d) (flattened d) d seen flat (nested_is d n) p.0;
      no_returns = no-returns html whole;
      shallow = shallow (reading_of options d) (flattened d) d seen flat (nested_is d n) deep;
    }) (no-nulls html whole)).0
