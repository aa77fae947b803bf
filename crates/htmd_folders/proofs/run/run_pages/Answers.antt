-- What follows from how the pages were taken.
use Rattle.htmd_folders.specs.Pages.{or_copy}
use Rattle.htmd_folders.proofs.LawsLemmas.{converted_law, kept_law, others_law, obstacles_law, never_half_law}
use Rattle.htmd_folders.proofs.run.run_pages.Goals as goal

pub returns-clause-converted : goal.returns-clause-converted
returns-clause-converted g c =
    converted_law (or_copy (g.C.Conversion.becomes c.args.conversion.now)) c.args.options.keeps_newer c.args.pages.now
    (g.S.Store.changes c.args.store.now) (g.S.Store.changes c.take_pages.new.store)
    c.take_pages.result.up_to_date c.take_pages.result.failed c.take_pages.ensures.taken

pub returns-clause-kept : goal.returns-clause-kept
returns-clause-kept g c =
    kept_law (or_copy (g.C.Conversion.becomes c.args.conversion.now)) c.args.options.keeps_newer c.args.pages.now
    (g.S.Store.changes c.args.store.now) (g.S.Store.changes c.take_pages.new.store)
    c.take_pages.result.up_to_date c.take_pages.result.failed c.take_pages.ensures.taken

pub returns-clause-others : goal.returns-clause-others
returns-clause-others g c =
    others_law (or_copy (g.C.Conversion.becomes c.args.conversion.now)) c.args.options.keeps_newer c.args.pages.now
    (g.S.Store.changes c.args.store.now) (g.S.Store.changes c.take_pages.new.store)
    c.take_pages.result.up_to_date c.take_pages.result.failed c.take_pages.ensures.taken

pub returns-clause-obstacles : goal.returns-clause-obstacles
returns-clause-obstacles g c =
    obstacles_law (or_copy (g.C.Conversion.becomes c.args.conversion.now)) c.args.options.keeps_newer c.args.pages.now
    (g.S.Store.changes c.args.store.now) (g.S.Store.changes c.take_pages.new.store)
    c.take_pages.result.up_to_date c.take_pages.result.failed c.take_pages.ensures.taken

pub returns-clause-never_half : goal.returns-clause-never_half
returns-clause-never_half g c =
    never_half_law (or_copy (g.C.Conversion.becomes c.args.conversion.now)) c.args.options.keeps_newer c.args.pages.now
    (g.S.Store.changes c.args.store.now) (g.S.Store.changes c.take_pages.new.store)
    c.take_pages.result.up_to_date c.take_pages.result.failed c.take_pages.ensures.taken
