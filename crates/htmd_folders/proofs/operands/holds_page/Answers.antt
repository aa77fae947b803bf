-- A file is a page, or it isn't.
use Rattle.std.proofs.Common.{◌∙◌, ap, sym}
use Rattle.htmd_files.specs.Names.{is_page}
use Rattle.htmd_files.specs.NameViews.{kind_of}
use Rattle.htmd_folders.proofs.OperandsLemmas.{page_found, page_next}
use Rattle.htmd_folders.proofs.operands.holds_page.Goals as goal

pub returns-then-is_page : goal.returns-then-is_page
returns-then-is_page c =
    sym (c.loop-file.invariant
    ∙ page_found (kind_of c.args.kind) c.args.files.now c.loop-file.file-index c.file-item.result
    c.loop-file-test.true
    c.file-item.is
    (sym (ap (is_page (kind_of c.args.kind)) c.as_str.ensures.value) ∙ (sym c.is_page.ensures ∙ c.if-is_page.true)))

pub loop-file-preserved : goal.loop-file-preserved
loop-file-preserved c =
    c.loop-file.invariant
    ∙ page_next (kind_of c.args.kind) c.args.files.now c.loop-file.file-index c.file-item.result c.loop-file-test.true
    c.file-item.is
    (sym (ap (is_page (kind_of c.args.kind)) c.as_str.ensures.value) ∙ (sym c.is_page.ensures ∙ c.if-is_page.false))
