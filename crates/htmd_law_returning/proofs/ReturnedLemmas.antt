-- The law of settled documents.
use Rattle.std.proofs.Common.{◌≡◌, ℕ, ◌+◌, ◌≤◌, true, false, ◌&&◌, [], ap, ◌∙◌}
use Rattle.std.proofs.Common.{arith, Bool, Some, None, refl, sym, subst, not, ◌||◌}
use Rattle.std.proofs.Common.{◌<◌, ◌*◌}
use Rattle.std.specs.Prelude.{nat_le, nat_lt}
use Rattle.std.specs.Option.{unwrap_or}
use Rattle.std.proofs.lemmas.Bool.{and_parts}
use Rattle.std.proofs.lemmas.Bool.Decides.{nat_tests}
use Rattle.htmd_grammar.specs.HtmlDocuments.{skeleton}
use Rattle.htmd_commonmark_reading.specs.Markup.{Blocks}
use Rattle.htmd_commonmark_reading.specs.SeenMarkup.{seen_blocks, document_blocks}
use Rattle.htmd_document.specs.DocumentLimits.{most_nested}
use Rattle.htmd_document.specs.Documents as documents
use Rattle.htmd_document.specs.FlatDocuments.{flattened}
use Rattle.htmd_document.specs.NormalDocuments.{IsNormal}
use Rattle.htmd_document.specs.NormalDocuments.{is_normal_document, are_normal_blocks, depth_among}
use Rattle.htmd_flow.specs.Flows as flow
use Rattle.htmd_nodes.proofs.LayoutLemmas.{document_items-denotes}
use Rattle.htmd_nodes.specs.Layout.{document_items}
use Rattle.htmd_nodes.specs.NumberedTrees.{value_forest}
use Rattle.htmd_shown.specs.declared.role.Role.TheVariants as role
use Rattle.htmd_shown.specs.SimpleTrees.{Simples, none, more}
use Rattle.htmd_shown.specs.Facts.{made, facts_of}
use Rattle.htmd_document_of_tree.specs.TreeDocuments.{document_by, document_of_tree}
use Rattle.htmd_document_of_tree.specs.Limits.{always_written}
use Rattle.htmd_document_of_tree.specs.Limits.{Written}
use Rattle.htmd_document_of_tree.specs.declared.anchors.Anchors.{Anchors}
use Rattle.htmd_law_rendering.specs.RenderedTrees.{encoded_address, trees_of}
use Rattle.htmd_law_returning.specs.RenderedPages.{page_of}
use Rattle.htmd_law_returning.proofs.RawReadings.{blocks_have_no_raw}
use Rattle.htmd_law_returning.specs.PageFormats.{formats_show}
use Rattle.htmd_law_returning.specs.ReturningLaws.{whole_sight, SettledReturns}
use Rattle.htmd_law_returning.specs.SettledDocuments.{are_settled, have_bare_headers, is_light, said}
use Rattle.htmd_law_returning.proofs.BlockTrees.{page_blocks, cut_blocks, page-seen, trees_in}
use Rattle.htmd_law_returning.proofs.ElementForms.{settled-alone}
use Rattle.htmd_law_returning.proofs.ElementPages.{elements-from}
use Rattle.htmd_law_returning.proofs.FlatLemmas.{flat-changed, flattened-any}
use Rattle.htmd_law_returning.proofs.ReturnedBlocks.{AreReturned, list-in}
use Rattle.htmd_law_returning.proofs.TaskLemmas.{unboxed, may-always}
use Rattle.htmd_law_returning.proofs.BlockLemmas as blocks
use Rattle.htmd_law_returning.proofs.AloneLemmas.{frame-blocks}
use Rattle.htmd_law_returning.proofs.PageLemmas.{frame, shown_of, framed, fresh-first}
use Rattle.htmd_law_returning.proofs.CostLemmas.{AllSpend, spend-none, spend-more, spend-element, spend-within}
use Rattle.htmd_law_returning.proofs.CostLemmas.{within-budget}
use Rattle.htmd_shown.specs.Pieces.{greatest_count}
use Rattle.htmd_law_rendering.specs.SpelledTrees.{value_forest as forest_of}
use Rattle.htmd_law_returning.specs.SettledDocuments.{are_settled_blocks, numbers_fit, weight_in}
use Rattle.htmd_law_returning.specs.EncodedDocuments.{encoded}
use Rattle.htmd_law_returning.proofs.ChangedLemmas.{formats-same}
use Rattle.htmd_law_returning.specs.FittedRows.{blocks_have_fitted_rows}
use Rattle.htmd_law_returning.proofs.ChangedLemmas.{tables-same}
use Rattle.htmd_law_returning.proofs.OddTables.{have_odd_tables, own_blocks, none-odd, odd-any, bare-any}
use Rattle.htmd_law_returning.proofs.EncodedForms.{kept_address, kept-same, blocks-kept, encoded-normal, settled-blocks}
use Rattle.htmd_law_returning.proofs.EncodedReadings.{addressed_blocks, trees-same, no-raw-blocks, document-changed}
use Rattle.htmd_law_returning.proofs.PlainLines.{blocks-pairs}
use Rattle.htmd_law_returning.proofs.SeenBlocks.{line_blocks, without-raw}
use Rattle.htmd_law_returning.proofs.SoftLines.{soft_blocks, blocks-seen, softened-stands}
use Rattle.htmd_law_returning.proofs.StandLemmas.{Stands}
use Rattle.htmd_law_returning.proofs.StartLemmas.{in_blocks, begins_boxed}
use Rattle.htmd_law_returning.proofs.OrderLemmas.{page-ordered}
use Rattle.std.proofs.Common.{List}
use Rattle.htmd_shown.specs.Shown.{followed_by}
use Rattle.htmd_document_of_tree.specs.Anchors.{anchored}
use Rattle.htmd_document_of_tree.specs.FirstPieces.{pieced_all}
use Rattle.htmd_law_returning.specs.LastingAnchors.{Line, lines_in, anchors_stay}
use Rattle.htmd_law_returning.proofs.KeptBlocks.{blocks_keep}
use Rattle.htmd_law_returning.proofs.LocalAnchors.{local_all, pending_all, last_of}
use Rattle.htmd_law_returning.proofs.StayLemmas.{stay-keep}
use Rattle.htmd_law_returning.proofs.SoundBlocks.{AreSound, sound-none}
use Rattle.htmd_law_returning.proofs.SoundNodes.{sound-more, sound-element}
use Rattle.htmd_law_returning.proofs.HomeAnchors.{anchored-home}

frame-sound : (html head body : ℕ) (ts : Simples) (ls : List Line) → AreSound ts ls
    → AreSound (frame html head body ts) ls
frame-sound html head body ts ls h =
    let in_body : Simples = more (made body role.Block [] ts) none in
    sound-element html role.Block [] (more (made head role.Plain [] none) in_body) ls refl refl
    (sound-more (made head role.Plain [] none) in_body [] ls refl
    (sound-element head role.Plain [] none [] refl refl sound-none)
    (sound-element body role.Block [] ts ls refl refl h))

-- they have anchors before what shows, and those that wait behind
frame-home : (which : Anchors) (is_rich : Bool) (html head body : ℕ) (ts : Simples) (d : documents.Blocks)
    (left : List (List ℕ)) → AreSound ts (lines_in d) → pending_all [] ts ≡ left
    → anchors_stay which d ≡ true
    → pieced_all (anchored which is_rich (frame html head body ts))
    ≡ followed_by (local_all [] (frame html head body ts)) (last_of left)
frame-home which is_rich html head body ts d left sound waits stay =
    let whole : Simples = frame html head body ts in
    anchored-home which is_rich whole d (frame-sound html head body ts (lines_in d) sound) stay
    ∙ ap (λ ids. followed_by (local_all [] whole) (last_of ids)) waits

-- the elements around cost nothing
frame-spent : {g : Written → Written} → (k html head body : ℕ) (ts : Simples) → AllSpend k g ts
    → AllSpend k g (frame html head body ts)
frame-spent k html head body ts h =
    let in_body : Simples = more (made body role.Block [] ts) none in
    let in_html : Simples = more (made head role.Plain [] none) in_body in
    let bodies = spend-more k 0 (made body role.Block [] ts) none
    (spend-element k body role.Block (facts_of ts) [] ts refl h) spend-none in
    let heads = spend-more 0 (k + 0) (made head role.Plain [] none) in_body
    (spend-element 0 head role.Plain (facts_of none) [] none refl spend-none) bodies in
    let all = spend-more (0 + (k + 0)) 0 (made html role.Block [] in_html) none
    (spend-element (0 + (k + 0)) html role.Block (facts_of in_html) [] in_html refl heads) spend-none in
    spend-within ((0 + (k + 0)) + 0) k (frame html head body ts) (omega arith) all

-- so is the page of what is read where its trees stand for those of others that are seen as the document
pub returned-standing : (which : Anchors) (scripting is_rich : Bool) (bs cs : Blocks) (d : documents.Blocks)
    → Stands (trees_of bs) (trees_of cs) → blocks_have_no_raw cs ≡ true
    → document_blocks (seen_blocks cs) ≡ Some (flattened d) → IsNormal d → are_settled d ≡ true
    → anchors_stay which d ≡ true → formats_show is_rich d ≡ true
    → (is_rich && have_odd_tables (page_blocks cs)) ≡ false
    → document_of_tree which (whole_sight scripting is_rich) (page_of bs) ≡ d
unfolding document_of_tree document_by
returned-standing which scripting is_rich bs cs d stands raw seen normal settled stay formats plain =
    let form = and_parts (are_normal_blocks false d) (nat_le (depth_among d) most_nested) normal in
    let page = elements-from cs d raw (ap (λ o. unwrap_or o (flattened d)) (sym (page-seen cs raw) ∙ seen))
    (settled-alone d (settled-blocks d settled)) form.0 in
    let p : documents.Blocks = page.page in
    let is : cut_blocks p ≡ d = page.same in
    let good = and_parts (are_normal_blocks false (cut_blocks p)) (nat_le (depth_among (cut_blocks p)) most_nested)
    (ap is_normal_document is ∙ normal) in
    let ready = and_parts (are_settled_blocks (cut_blocks p) && numbers_fit 0 (cut_blocks p))
    (is_light (cut_blocks p)) (ap are_settled is ∙ settled) in
    let own = and_parts (are_settled_blocks (cut_blocks p)) (numbers_fit 0 (cut_blocks p)) ready.0 in
    let k : ℕ = weight_in (cut_blocks p) in
    let cheap = and_parts (nat_lt k greatest_count) (nat_le k (16 * said (cut_blocks p) + always_written)) ready.1 in
    let light : weight_in (cut_blocks p) < greatest_count = grind (arith, nat_tests, cheap.0) in
    let paid : weight_in (cut_blocks p) ≤ 16 * said (cut_blocks p) + always_written =
    grind (arith, nat_tests, cheap.1) in
    let fits : depth_among (cut_blocks p) + 0 ≤ most_nested = grind (arith, nat_tests, good.1) in
    let f =
    framed scripting is_rich (page_of bs) (trees_of bs) (document_items-denotes (skeleton (trees_of bs)))
    (page-ordered (document_items (skeleton (trees_of bs))) 0) in
    let body : Stands (value_forest f.inside) (trees_in p) =
    subst (λ us. Stands us (trees_in p)) (sym f.within)
    (subst (Stands (trees_of bs)) (ap forest_of page.trees) stands) in
    let all : AreReturned scripting is_rich true None f.inside 0 (cut_blocks p) =
    blocks.returned scripting is_rich p false true None f.inside 0 fresh-first body own.0
    (ap (blocks_keep true) is ∙ stay-keep which d stay form.0 (settled-blocks d settled))
    (ap (formats_show is_rich) is ∙ formats) good.0 fits own.1
    (ap (λ x. is_rich && x) (sym (flattened-any odd-any p) ∙ ap have_odd_tables page.flat) ∙ plain) light 0
    f.ordered in
    let ts : Simples = shown_of scripting is_rich None f.inside in
    let in_html : Simples = more (made f.head role.Plain [] none) (more (made f.body role.Block [] ts) none) in
    let whole : Simples = frame f.html f.head f.body ts in
    ap (λ us. document_by which is_rich us) f.is
    ∙ (ap (λ us. flow.document_of is_rich (pieced_all (anchored which is_rich us)))
    (within-budget k whole paid (frame-spent k f.html f.head f.body ts all.spent))
    ∙ ap (flow.document_of is_rich) (frame-home which is_rich f.html f.head f.body ts (cut_blocks p) all.left
    all.sound all.waits (ap (anchors_stay which) is ∙ stay))
    ∙ (frame-blocks is_rich f.html f.head f.body (facts_of in_html) (facts_of none) (facts_of ts) (local_all [] ts)
    all.left all.kept (λ w h. all.ready in_blocks w [] h
    (may-always (begins_boxed (cut_blocks p)) in_blocks [] (unboxed (cut_blocks p) good.0)))
    ∙ (ap documents.blocks_of all.whole ∙ (list-in (cut_blocks p) ∙ is))))

-- no table is another on a rich page
rich-even : (is_rich : Bool) (bs : Blocks) → (not is_rich || blocks_have_fitted_rows bs) ≡ true
    → (is_rich && have_bare_headers (cut_blocks (own_blocks kept_address bs))) ≡ false
    → (is_rich && have_odd_tables (own_blocks kept_address bs)) ≡ false
rich-even true bs h e = none-odd kept_address bs h e
rich-even false bs h e = refl

-- with tags of breaks as breaks, and its lines as one sees them, what is read has no raw tags; and with its addresses
-- encoded it has the same trees
pub returned : SettledReturns
returned which scripting is_rich bs d images same normal settled stay formats tables fitted =
    let soft : Blocks = soft_blocks bs in
    let good = settled-blocks (encoded d) settled in
    let flat : documents.Blocks = flattened d in
    let seen = without-raw soft flat (ap document_blocks (blocks-seen bs) ∙ same)
    (blocks-pairs bs flat images same) in
    let lines : Blocks = line_blocks soft in
    let cs : Blocks = addressed_blocks kept_address lines in
    let is_seen : document_blocks (seen_blocks cs) ≡ Some (flattened (encoded d)) =
    document-changed kept_address lines flat seen.none_raw seen.seen
    ∙ ap Some (flat-changed kept_address d ∙ ap flattened (blocks-kept d (settled-alone (encoded d) good))) in
    let none_raw : blocks_have_no_raw cs ≡ true = no-raw-blocks kept_address lines ∙ seen.none_raw in
    let is : cut_blocks (page_blocks cs) ≡ flattened (encoded d) =
    ap (λ o. unwrap_or o (flattened (encoded d))) (sym (page-seen cs none_raw) ∙ is_seen) in
    returned-standing which scripting is_rich bs cs (encoded d)
    (subst (Stands (trees_of bs)) (ap forest_of (sym seen.trees ∙ sym (trees-same kept_address kept-same lines)))
    (softened-stands bs))
    none_raw is_seen
    (encoded-normal d normal good) settled stay (formats-same encoded_address is_rich d ∙ formats)
    (rich-even is_rich bs fitted
    (ap (λ x. is_rich && have_bare_headers x) is ∙ (ap (λ x. is_rich && x)
    (flattened-any bare-any (encoded d) ∙ tables-same encoded_address d) ∙ tables)))
