-- What is read comes back from its page.
use Rattle.std.specs.Prelude.{◌≡◌, Bool, true, false, not, ◌&&◌, ◌||◌, [], Some}
use Rattle.htmd_document.specs.Documents as documents
use Rattle.htmd_document.specs.FlatDocuments.{flattened}
use Rattle.htmd_document.specs.NormalDocuments.{IsNormal}
use Rattle.htmd_shown.specs.Shown.{Sight}
use Rattle.htmd_commonmark_reading.specs.Markup.{Blocks}
use Rattle.htmd_commonmark_reading.specs.SeenMarkup.{seen_blocks, document_blocks}
use Rattle.htmd_document_of_tree.specs.declared.anchors.Anchors.{Anchors}
use Rattle.htmd_document_of_tree.specs.TreeDocuments.{document_of_tree}
use Rattle.htmd_law_returning.specs.PlainImages.{blocks_have_plain_images}
use Rattle.htmd_law_returning.specs.FittedRows.{blocks_have_fitted_rows}
use Rattle.htmd_law_returning.specs.LastingAnchors.{anchors_stay}
use Rattle.htmd_law_returning.specs.RenderedPages.{page_of}
use Rattle.htmd_law_returning.specs.EncodedDocuments.{encoded}
use Rattle.htmd_law_returning.specs.SettledDocuments.{are_settled, have_bare_headers}
use Rattle.htmd_law_returning.specs.PageFormats.{formats_show}

-- nothing is skipped
abbrev pub whole_sight : Bool → Bool → Sight
whole_sight scripting is_rich = record { scripting = scripting; skip = []; is_rich = is_rich }

-- If what is read is as one sees it a normal document, with the tags of its elements in lines, which is settled with
-- its addresses encoded and whose anchors stay, and no raw tag stands in the description of an image, then its page has
-- that document with these, with scripting or without, rich or not, if such a page shows its formats and elements; on a
-- rich page a table is an element where nothing shows in its header, or a row has more cells.
abbrev pub SettledReturns : Type 0
SettledReturns = (which : Anchors) (scripting is_rich : Bool) (bs : Blocks) (d : documents.Blocks)
    → blocks_have_plain_images bs ≡ true → document_blocks (seen_blocks bs) ≡ Some (flattened d) → IsNormal d
    → are_settled (encoded d) ≡ true → anchors_stay which (encoded d) ≡ true → formats_show is_rich d ≡ true
    → (is_rich && have_bare_headers d) ≡ false → (not is_rich || blocks_have_fitted_rows bs) ≡ true
    → document_of_tree which (whole_sight scripting is_rich) (page_of bs) ≡ encoded d
