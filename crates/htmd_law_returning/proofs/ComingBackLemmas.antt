-- Both laws in one: what the reader of any page makes of the HTML is the page of what is read, and that has the
-- document that one sees.
use Rattle.std.proofs.Common.{◌≡◌, Bool, true, false, not, ◌||◌, List, [], ◌∷◌, refl, sym, ap}
use Rattle.std.proofs.Common.{◌∙◌, subst}
use Rattle.std.specs.List.{list_all}
use Rattle.std.proofs.lemmas.Bool.{and_from}
use Rattle.std.proofs.lemmas.List.{append-nil}
use Rattle.htmd_commonmark.specs.declared.options.DocumentOptions.{DocumentOptions}
use Rattle.htmd_commonmark.specs.DocumentMarkdown.{outermost}
use Rattle.htmd_commonmark_reading.specs.Markup as markup
use Rattle.htmd_commonmark_reading.specs.Markup.{Inlines}
use Rattle.htmd_document.specs.Documents.{Blocks}
use Rattle.htmd_document.specs.FlatDocuments.{flattened}
use Rattle.htmd_document.specs.NormalDocuments.{IsNormal}
use Rattle.htmd_law_blocks.specs.BlockLaws.{definition_lines}
use Rattle.htmd_law_inlines.specs.PlainReadings.{is_read_plainly}
use Rattle.htmd_law_texts.proofs.DocumentLaws.{lists_read_back}
use Rattle.htmd_law_texts.proofs.FlatForm.{normal_is_flat}
use Rattle.htmd_law_reading.specs.ReadingLaws.{HasFewDefinitions}
use Rattle.htmd_law_reading.proofs.PlainDocuments.{PlainCells, PlainRows, PlainBlock, PlainBlocks, PlainItems}
use Rattle.htmd_law_reading.proofs.PlainDocuments.{more_plain, first_plainly}
use Rattle.htmd_nodes.specs.NumberedTrees.{tree_of}
use Rattle.htmd_document_of_tree.specs.TreeDocuments.{document_of_tree}
use Rattle.htmd_law_rendering.specs.DocumentLaws.{reading_of, DocumentsAreParsed}
use Rattle.htmd_law_rendering.proofs.DocumentLemmas.{seen-flat}
use Rattle.htmd_law_returning.specs.PlainImages.{block_has_plain_images, blocks_have_plain_images}
use Rattle.htmd_law_returning.specs.PlainImages.{items_have_plain_images}
use Rattle.htmd_law_returning.specs.FittedRows.{block_has_fitted_rows, blocks_have_fitted_rows}
use Rattle.htmd_law_returning.specs.FittedRows.{items_have_fitted_rows}
use Rattle.htmd_law_returning.specs.ReturningLaws.{whole_sight}
use Rattle.htmd_law_returning.specs.ComingBack.{SettledComeBack}
use Rattle.htmd_law_returning.proofs.ReturnedLemmas.{returned}

-- the Markdown of a document is read plainly
plain-reading : (options : DocumentOptions) (d : Blocks) → IsNormal d → HasFewDefinitions options d
    → PlainBlocks (reading_of options d)
plain-reading options d normal few =
    let flat = flattened d in
    let lines = definition_lines options flat in
    subst PlainBlocks (sym (lists_read_back options flat (normal_is_flat d normal)))
    (first_plainly options outermost false lines [] [] flat few tt (normal_is_flat d normal) (append-nil lines))

cells-described : (cs : List Inlines) → PlainCells cs → list_all (is_read_plainly true) cs ≡ true
cells-described [] p = refl
cells-described (c ∷ cs) p =
    and_from (is_read_plainly true c) (list_all (is_read_plainly true) cs) p.0 (cells-described cs p.1)

rows-described : (rs : List (List Inlines)) → PlainRows rs → list_all (list_all (is_read_plainly true)) rs ≡ true
rows-described [] p = refl
rows-described (r ∷ rs) p =
    and_from (list_all (is_read_plainly true) r) (list_all (list_all (is_read_plainly true)) rs) (cells-described r p.0)
    (rows-described rs p.1)

mutual
  block-described : (b : markup.Block) → PlainBlock b → block_has_plain_images b ≡ true
  block-described (markup.paragraph xs) p = more_plain xs p
  block-described (markup.heading level xs) p = p
  block-described (markup.code_block language s) p = refl
  block-described (markup.quote bs) p = blocks-described bs p
  block-described markup.thematic_break p = refl
  block-described (markup.list start tight items) p = items-described items p
  block-described (markup.table alignments header rows) p =
      and_from (list_all (is_read_plainly true) header) (list_all (list_all (is_read_plainly true)) rows)
      (cells-described header p.0) (rows-described rows p.1.0)
  block-described (markup.html_block s) p = refl

  blocks-described : (bs : markup.Blocks) → PlainBlocks bs → blocks_have_plain_images bs ≡ true
  blocks-described markup.no_blocks p = refl
  blocks-described (markup.block b bs) p =
      and_from (block_has_plain_images b) (blocks_have_plain_images bs) (block-described b p.0)
      (blocks-described bs p.1)

  items-described : (items : markup.Items) → PlainItems items → items_have_plain_images items ≡ true
  items-described markup.no_items p = refl
  items-described (markup.item bs rest) p =
      and_from (blocks_have_plain_images bs) (items_have_plain_images rest) (blocks-described bs p.0)
      (items-described rest p.1)

-- its rows have no more cells than their headers
mutual
  block-fitted : (b : markup.Block) → PlainBlock b → block_has_fitted_rows b ≡ true
  block-fitted (markup.paragraph xs) p = refl
  block-fitted (markup.heading level xs) p = refl
  block-fitted (markup.code_block language s) p = refl
  block-fitted (markup.quote bs) p = blocks-fitted bs p
  block-fitted markup.thematic_break p = refl
  block-fitted (markup.list start tight items) p = items-fitted items p
  block-fitted (markup.table alignments header rows) p = p.1.1
  block-fitted (markup.html_block s) p = refl

  blocks-fitted : (bs : markup.Blocks) → PlainBlocks bs → blocks_have_fitted_rows bs ≡ true
  blocks-fitted markup.no_blocks p = refl
  blocks-fitted (markup.block b bs) p =
      and_from (block_has_fitted_rows b) (blocks_have_fitted_rows bs) (block-fitted b p.0) (blocks-fitted bs p.1)

  items-fitted : (items : markup.Items) → PlainItems items → items_have_fitted_rows items ≡ true
  items-fitted markup.no_items p = refl
  items-fitted (markup.item bs rest) p =
      and_from (blocks_have_fitted_rows bs) (items_have_fitted_rows rest) (blocks-fitted bs p.0)
      (items-fitted rest p.1)

-- on any page
page-fitted : (is_rich b : Bool) → b ≡ true → (not is_rich || b) ≡ true
page-fitted true b h = h
page-fitted false b h = refl

pub come-back : DocumentsAreParsed → SettledComeBack
come-back parsed which scripting is_rich options d normal few fits settled stay formats tables =
    ap (λ items. document_of_tree which (whole_sight scripting is_rich) (tree_of items 0))
    (parsed scripting options d normal few fits)
    ∙ returned which scripting is_rich (reading_of options d) d
    (blocks-described (reading_of options d) (plain-reading options d normal few))
    (seen-flat options d normal few)
    normal settled stay formats tables
    (page-fitted is_rich (blocks_have_fitted_rows (reading_of options d))
    (blocks-fitted (reading_of options d) (plain-reading options d normal few)))
