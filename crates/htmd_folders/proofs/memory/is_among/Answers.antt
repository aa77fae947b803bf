-- The file is the path, or it isn't.
use Rattle.std.proofs.Common.{◌∙◌, sym, ◌+◌, drop, string_bytes}
use Rattle.std.proofs.lemmas.Bool.{false≢true}
use Rattle.std.proofs.lemmas.Slice.Eq.{bytes_eq-Decides}
use Rattle.htmd_files.specs.WordViews.{texts_of}
use Rattle.htmd_folders.proofs.ListingsLemmas.{among_found, among_next, among_not}
use Rattle.htmd_folders.proofs.memory.is_among.Goals as goal

pub returns-then-eq-clause-yes : goal.returns-then-eq-clause-yes
returns-then-eq-clause-yes c = λ t.
    among_found c.args.path.now (string_bytes c.file-item.result) (texts_of c.args.files.now)
    (texts_of (drop (c.loop-file.file-index + 1) c.args.files.now))
    (c.loop-file.invariant
    ∙ among_next c.args.path.now c.args.files.now c.loop-file.file-index c.file-item.result c.loop-file-test.true
    c.file-item.is)
    (sym c.as_str.ensures.value ∙ (bytes_eq-Decides _ _).0 (sym c.eq.ensures ∙ c.if-eq.true))

pub loop-file-preserved : goal.loop-file-preserved
loop-file-preserved c =
    c.loop-file.invariant
    ∙ (among_next c.args.path.now c.args.files.now c.loop-file.file-index c.file-item.result c.loop-file-test.true
    c.file-item.is
    ∙ among_not c.args.path.now (string_bytes c.file-item.result)
    (texts_of (drop (c.loop-file.file-index + 1) c.args.files.now))
    (λ e. false≢true (sym c.if-eq.false ∙ c.eq.ensures
    ∙ (bytes_eq-Decides _ _).1 (c.as_str.ensures.value ∙ e))))
