-- The document of a page comes back if it is common: it is normal and neat, and so settled.
use Rattle.std.proofs.Common.{◌≡◌, Bool, true, false, not, refl, sym, ap, ◌∙◌, ◌&&◌, []}
use Rattle.std.specs.Prelude.{◌||◌, nat_le}
use Rattle.std.proofs.lemmas.Bool.{and_from, and_parts}
use Rattle.htmd_lexical.specs.CharacterClasses.{are_distinct}
use Rattle.htmd_document.specs.AnchorIds.{has_unique_ids}
use Rattle.htmd_lexical.proofs.Cases.{test}
use Rattle.htmd_law_documents.proofs.VisibleLemmas.{and-false}
use Rattle.htmd_nodes.specs.NumberedTrees.{NumberedTree, tree_of}
use Rattle.htmd_document.specs.Documents.{Blocks}
use Rattle.htmd_shown.specs.Shown.{Sight}
use Rattle.htmd_document_of_tree.specs.declared.anchors.Anchors.{Anchors}
use Rattle.htmd_document_of_tree.specs.declared.anchors.Anchors.TheVariants as which
use Rattle.htmd_document_of_tree.specs.TreeDocuments.{document_of_tree}
use Rattle.htmd_commonmark.specs.DocumentMarkdown.{markdown_of}
use Rattle.htmd_law_anchors.proofs.Main.{none_stand}
use Rattle.htmd_law_documents.specs.TreeForms.{is_text_tree}
use Rattle.htmd_law_documents.proofs.NormalMain.{documents_are_normal, lone_anchors_stand}
use Rattle.htmd_html5.specs.Html5Documents.{html5_document}
use Rattle.htmd_commonmark_reading.specs.Rendering.{html_of}
use Rattle.htmd_law_reading.specs.ReadingLaws.{file_of}
use Rattle.htmd_law_reading.proofs.LineEnds.{files_read}
use Rattle.htmd_law_reading.proofs.DefinitionLines.{few_answered}
use Rattle.htmd_law_rendering.specs.DocumentLaws.{DocumentsAreParsed}
use Rattle.htmd_law_rendering.specs.RenderedTrees.{encoded_address}
use Rattle.htmd_law_rendering.specs.PlainReadings.{elements_are_strict, trees_depth}
use Rattle.htmd_law_rendering.specs.PlainReadings.{elements_fit}
use Rattle.htmd_grammar.specs.HtmlDocuments.{below_body}
use Rattle.htmd_law_rendering.proofs.DocumentLemmas.{plain-fit}
use Rattle.htmd_law_returning.specs.EncodedDocuments.{encoded}
use Rattle.htmd_law_returning.specs.PageFormats.{formats_show}
use Rattle.htmd_law_returning.specs.SettledDocuments.{are_settled, are_settled_blocks, numbers_fit, is_light}
use Rattle.htmd_law_returning.specs.SettledDocuments.{have_bare_headers}
use Rattle.htmd_law_anchors.specs.AnchorLaws as anchors
use Rattle.htmd_law_anchors.specs.DocumentMarks.{marks_of_blocks}
use Rattle.htmd_law_returning.specs.LastingAnchors.{anchors_stay, anchors_stand, are_led_to, lines_stand}
use Rattle.htmd_law_returning.specs.LastingAnchors.{lines_in}
use Rattle.htmd_document.specs.LoneAnchors.{all_stand}
use Rattle.htmd_law_settled.proofs.LoneBlocks.{stand-same}
use Rattle.htmd_law_returning.proofs.LineIds.{ids_in_lines, blocks-ids}
use Rattle.htmd_law_settled.proofs.LastingIds.{ids-lines, ids-differ}
use Rattle.htmd_law_settled.proofs.PlacedLemmas.{are_lines, blocks-marks, blocks-same, lines-stand}
use Rattle.htmd_law_returning.proofs.UnplacedAnchors.{unplaced-stay}
use Rattle.htmd_law_returning.proofs.ChangedLemmas.{formats-same}
use Rattle.htmd_law_returning.proofs.ChangedLemmas.{tables-same}
use Rattle.htmd_law_returning.proofs.EncodedForms.{encoded-normal, settled-blocks}
use Rattle.htmd_law_returning.specs.ReturningLaws.{whole_sight}
use Rattle.htmd_law_returning.specs.ComingBack.{SettledComeBack}
use Rattle.htmd_law_settled.specs.CommonDocuments.{is_common, keeps_by, are_common_blocks, has_common_anchors}
use Rattle.htmd_law_settled.specs.CommonDocuments.{is_shallow}
use Rattle.htmd_law_settled.specs.PageLaws.{DocumentsAreSettled, PagesAreParsed, PagesComeBack, ConversionIsStable}
use Rattle.htmd_law_settled.specs.PageLaws.{FilesAreStable}
use Rattle.htmd_law_settled.specs.PageLaws.{AddressesStay, ComesBackAgain, ShowsAll, ShowHeaders}
use Rattle.htmd_law_settled.proofs.EncodedLeaves.{anchorless-same, fits-same, neat-stays}
use Rattle.htmd_law_returning.specs.ElementPlaces.{in_flow}
use Rattle.htmd_law_settled.proofs.NeatDocuments.{leaves-neat}
use Rattle.htmd_law_settled.proofs.NeatPages.{numbers-fit}
use Rattle.htmd_law_settled.proofs.PlacedElements.{placed-same}
use Rattle.htmd_law_settled.proofs.HeadedPages.{headers-show}
use Rattle.htmd_law_settled.proofs.PlainFormats.{formats-shown, neat-shown, no-element}
use Rattle.htmd_law_settled.proofs.AnchorlessLemmas.{blocks-anchorless}
use Rattle.htmd_law_settled.proofs.CommonLemmas.{blocks-settled}
use Rattle.htmd_law_settled.proofs.PlainBlocks.{all-plain}
use Rattle.htmd_law_settled.proofs.FitLemmas.{fit-same, all-depth}
use Rattle.htmd_law_settled.proofs.StandingLemmas.{elements-stand}

-- ---- what is common

record Common (which : Anchors) (d : Blocks) : Type 0 where
  blocks : are_common_blocks d ≡ true
  anchors : has_common_anchors which d ≡ true
  stand : is_shallow d ≡ true
  light : is_light d ≡ true

common-parts : (which : Anchors) (d : Blocks) → is_common which d ≡ true → Common which d
common-parts which d c =
    let front : Bool = are_common_blocks d && has_common_anchors which d in
    let p = and_parts (front && is_shallow d) (is_light d) c in
    let q = and_parts front (is_shallow d) p.0 in
    let r = and_parts (are_common_blocks d) (has_common_anchors which d) q.0 in
    record { blocks = r.0; anchors = r.1; stand = q.1; light = p.1 }

pub settled : DocumentsAreSettled
settled which sight tree texts common =
    let d : Blocks = document_of_tree which sight tree in
    let c : Common which (encoded d) = common-parts which (encoded d) common in
    let plain = all-plain encoded_address d (documents_are_normal which sight tree texts) in
    let placed = placed-same encoded_address in_flow d ∙ (elements-stand which sight tree texts).1 in
    let fit = fits-same encoded_address 0 d ∙ numbers-fit which sight tree texts in
    and_from (are_settled_blocks (encoded d) && numbers_fit 0 (encoded d)) (is_light (encoded d))
    (and_from (are_settled_blocks (encoded d)) (numbers_fit 0 (encoded d))
    (blocks-settled (encoded d) (leaves-neat which sight tree texts) plain placed c.blocks) fit) c.light

-- its formats show on a page that shows all
all-shown : (which : Anchors) (sight : Sight) (tree : NumberedTree) → is_text_tree tree ≡ true → (is_rich : Bool)
    → ShowsAll sight.is_rich is_rich → formats_show is_rich (document_of_tree which sight tree) ≡ true
all-shown which sight tree texts true all =
    let d : Blocks = document_of_tree which sight tree in
    sym (formats-same encoded_address true d) ∙ neat-shown (encoded d) (leaves-neat which sight tree texts)
all-shown which sight tree texts false all =
    formats-shown which sight tree (plain sight.is_rich all) texts false
  where
    plain : (b : Bool) → ShowsAll b false → b ≡ false
    plain true e = e
    plain false e = refl

-- and something shows in the headers of its tables, where one must
headed : (which : Anchors) (sight : Sight) (tree : NumberedTree) → is_text_tree tree ≡ true → (is_rich : Bool)
    → ShowHeaders sight.is_rich is_rich (document_of_tree which sight tree)
    → (is_rich && have_bare_headers (document_of_tree which sight tree)) ≡ false
headed which sight tree texts is_rich h = by sight.is_rich refl h
  where
    bare : Bool
    bare = have_bare_headers (document_of_tree which sight tree)

    by : (b : Bool) → sight.is_rich ≡ b → (not b && is_rich && bare) ≡ false → (is_rich && bare) ≡ false
    by true e g = ap (λ x. is_rich && x) (headers-show which sight tree e texts) ∙ and-false is_rich
    by false e g = g

-- and elements stand where they may
all-stand : (which : Anchors) (sight : Sight) (tree : NumberedTree) → is_text_tree tree ≡ true
    → is_shallow (document_of_tree which sight tree) ≡ true
    → elements_fit (document_of_tree which sight tree) ≡ true
all-stand which sight tree texts stand =
    let d : Blocks = document_of_tree which sight tree in
    and_from (elements_are_strict below_body d) (nat_le (trees_depth d) 998) (elements-stand which sight tree texts).0
    stand

all-fit : (which : Anchors) (sight : Sight) (tree : NumberedTree) → is_text_tree tree ≡ true
    → is_shallow (encoded (document_of_tree which sight tree)) ≡ true
    → elements_fit (document_of_tree which sight tree) ≡ true
all-fit which sight tree texts stand =
    all-stand which sight tree texts
    (sym (ap (λ n. nat_le n 998) (all-depth encoded_address (document_of_tree which sight tree))) ∙ stand)

-- of pages that aren't rich all are so
pub all-parsed : DocumentsAreParsed → PagesAreParsed
all-parsed parsed which sight tree options texts stand fits scripting =
    let d : Blocks = document_of_tree which sight tree in
    let normal = documents_are_normal which sight tree texts in
    parsed scripting options d normal (few_answered options d fits)
    (test sight.is_rich
    (λ t. all-stand which sight tree texts (sym (ap (λ r. not r || is_shallow d) t) ∙ stand))
    (λ t. plain-fit d normal (no-element which sight tree t texts)))

-- where its anchors stand where they come back they are places of their own
anchors-stand : (which : Anchors) (sight : Sight) (tree : NumberedTree) → is_text_tree tree ≡ true
    → are_common_blocks (encoded (document_of_tree which sight tree)) ≡ true
    → anchors_stand (encoded (document_of_tree which sight tree)) ≡ true
anchors-stand which sight tree texts common =
    let d : Blocks = document_of_tree which sight tree in
    let e : Blocks = encoded d in
    let ids : ids_in_lines (lines_in e) ≡ anchors.ids_of (marks_of_blocks d) =
    sym (blocks-marks e) ∙ ap anchors.ids_of (blocks-same encoded_address d) in
    and_from (lines_stand e && all_stand true e) (has_unique_ids e)
    (and_from (lines_stand e) (all_stand true e)
    (lines-stand e (leaves-neat which sight tree texts) common (ap are_lines ids ∙ ids-lines which sight tree texts))
    (stand-same encoded_address true d ∙ lone_anchors_stand which sight tree texts))
    (ap are_distinct (sym (blocks-ids e) ∙ ids) ∙ ids-differ which sight tree texts)

-- by its own choice of anchors they stay, by All, and by another that keeps them
anchors-stay : (which again : Anchors) (sight : Sight) (tree : NumberedTree) → is_text_tree tree ≡ true
    → is_common which (encoded (document_of_tree which sight tree)) ≡ true
    → keeps_by which again (encoded (document_of_tree which sight tree)) ≡ true
    → anchors_stay again (encoded (document_of_tree which sight tree)) ≡ true
anchors-stay which.None again sight tree texts common keeps =
    let d : Blocks = document_of_tree which.None sight tree in
    let good = settled-blocks (encoded d) (settled which.None sight tree texts common) in
    unplaced-stay again (encoded d)
    (anchorless-same encoded_address d ∙ blocks-anchorless d (none_stand sight tree texts))
    (encoded-normal d (documents_are_normal which.None sight tree texts) good) good
anchors-stay which.Linked which.None sight tree texts common keeps = keeps
anchors-stay which.Linked which.All sight tree texts common keeps =
    let e : Blocks = encoded (document_of_tree which.Linked sight tree) in
    anchors-stand which.Linked sight tree texts (common-parts which.Linked e common).blocks
anchors-stay which.Linked which.Linked sight tree texts common keeps =
    let e : Blocks = encoded (document_of_tree which.Linked sight tree) in
    let c : Common which.Linked e = common-parts which.Linked e common in
    and_from (anchors_stand e) (are_led_to [] (lines_in e)) (anchors-stand which.Linked sight tree texts c.blocks)
    c.anchors
anchors-stay which.All which.None sight tree texts common keeps = keeps
anchors-stay which.All which.All sight tree texts common keeps =
    anchors-stand which.All sight tree texts
    (common-parts which.All (encoded (document_of_tree which.All sight tree)) common).blocks
anchors-stay which.All which.Linked sight tree texts common keeps =
    let e : Blocks = encoded (document_of_tree which.All sight tree) in
    and_from (anchors_stand e) (are_led_to [] (lines_in e))
    (anchors-stand which.All sight tree texts (common-parts which.All e common).blocks) keeps

pub come-back : SettledComeBack → PagesComeBack
come-back returned which sight tree options texts common fits again scripting is_rich keeps all tables =
    let d : Blocks = document_of_tree which sight tree in
    let c : Common which (encoded d) = common-parts which (encoded d) common in
    let normal = documents_are_normal which sight tree texts in
    returned again scripting is_rich options d normal (few_answered options d fits)
    (all-fit which sight tree texts c.stand) (settled which sight tree texts common)
    (anchors-stay which again sight tree texts common keeps)
    (all-shown which sight tree texts is_rich all) (headed which sight tree texts is_rich tables)

pub stable : PagesComeBack → ConversionIsStable
stable returned which sight tree options texts common fits again scripting is_rich keeps all tables =
    ap (markdown_of options)
    (returned which sight tree options texts common fits again scripting is_rich keeps all tables)

-- ---- once more

pub addresses-stay : AddressesStay
addresses-stay which sight tree texts =
    neat-stays (encoded (document_of_tree which sight tree)) (leaves-neat which sight tree texts)

pub come-again : SettledComeBack → ComesBackAgain
come-again returned which sight tree options texts common fits again scripting is_rich keeps all tables =
    let d : Blocks = document_of_tree which sight tree in
    let c : Common which (encoded d) = common-parts which (encoded d) common in
    let good = settled which sight tree texts common in
    let stays = addresses-stay which sight tree texts in
    let normal = documents_are_normal which sight tree texts in
    let again_normal = encoded-normal d normal (settled-blocks (encoded d) good) in
    returned again scripting is_rich options (encoded d) again_normal (few_answered options (encoded d) fits)
    (fit-same encoded_address d ∙ all-fit which sight tree texts c.stand) (ap are_settled stays ∙ good)
    (ap (anchors_stay again) stays ∙ anchors-stay which again sight tree texts common keeps)
    (formats-same encoded_address is_rich d ∙ all-shown which sight tree texts is_rich all)
    (ap (λ x. is_rich && x) (tables-same encoded_address d) ∙ headed which sight tree texts is_rich tables) ∙ stays

-- ---- files

-- what is read of the file is what is read of the Markdown
pub stable-files : PagesComeBack → FilesAreStable
stable-files returned which sight tree options texts common fits again scripting is_rich keeps all tables =
    let d : Blocks = document_of_tree which sight tree in
    ap (λ bs. file_of options (document_of_tree again (whole_sight scripting is_rich)
    (tree_of (html5_document scripting (html_of bs)) 0)))
    (files_read options d (documents_are_normal which sight tree texts))
    ∙ ap (file_of options)
    (returned which sight tree options texts common fits again scripting is_rich keeps all tables)
