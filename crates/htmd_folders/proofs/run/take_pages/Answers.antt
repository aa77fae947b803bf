-- One more page was taken.
use Rattle.std.proofs.Common.{◌++◌, List, [], ◌∷◌, ◌∙◌, ap, subst, sym, take, arith}
use Rattle.std.proofs.lemmas.List.{take_more}
use Rattle.htmd_files.specs.declared.planning.Page.{Page}
use Rattle.htmd_folders.specs.FolderConversions.{Takes}
use Rattle.htmd_folders.specs.Pages.{or_copy}
use Rattle.htmd_folders.proofs.FolderConversionsLemmas.{takes_more}
use Rattle.htmd_folders.proofs.run.take_pages.Goals as goal

pub loop-page-preserved : goal.loop-page-preserved
loop-page-preserved g c =
    let pages = c.args.pages.now in
    let i = c.loop-page.page-index in
    let page = c.page-item.result in
    let becomes = or_copy (g.C.Conversion.becomes c.args.conversion.now) in
    let before = g.S.Store.changes c.protect_inputs.new.store in
    let after = g.S.Store.changes c.take_page.new.store in
    let keeps = c.args.options.keeps_newer in
    let now = c.take_page.new.tally in
    let P : List Page → Type 0 = λ ps. Takes becomes keeps ps before after now.up_to_date now.failed in
    let more = take_more pages i page c.loop-page-test.true
    ∙ ap (λ p. take i pages ++ p ∷ []) (sym c.page-item.is) in
    let taken =
    takes_more becomes keeps (take i pages) page before (g.S.Store.changes c.loop-page.store) after 0 0
    c.loop-page.tally.up_to_date c.loop-page.tally.failed now.up_to_date now.failed c.loop-page.invariant.taken
    c.take_page.ensures.taken in
    record {
      all = grind (arith, c.loop-page.invariant.all, c.take_page.ensures.all);
      taken = subst P (sym more) taken;
    }
