-- The name is that of a folder.
use Rattle.std.proofs.Common.{◌∙◌, ap, refl, sym, string_bytes}
use Rattle.std.proofs.lemmas.Bool.{false≢true}
use Rattle.std.proofs.lemmas.Slice.Eq.{bytes_eq-Decides}
use Rattle.htmd_files.specs.declared.planning.Operand.TheVariants.{Folder}
use Rattle.htmd_files.specs.NameViews.{kind_of}
use Rattle.htmd_files.specs.WordViews.{texts_of}
use Rattle.htmd_folders.specs.PlanViews.{missed_in}
use Rattle.htmd_folders.proofs.OperandsLemmas.{folder_there, found_folder}
use Rattle.htmd_folders.proofs.operands.find_operand.Goals as goal

pub returns-then-is_folder-clause-found : goal.returns-then-is_folder-clause-found
returns-then-is_folder-clause-found g c =
    let before = g.S.Store.changes c.args.store.now in
    found_folder before (g.S.Store.changes c.is_folder.new.store) (kind_of c.args.kind) c.args.lists c.args.name.now
    (string_bytes c.in_ok-path.path) (texts_of c.in_ok-files.files.items)
    (Folder c.in_ok-path.path c.in_ok-files.files) (missed_in c.args.missed.now.items)
    (missed_in c.files_of.new.missed.items) c.is_folder.ensures.same refl
    (λ e. false≢true (sym c.if-eq.false ∙ (c.eq.ensures ∙ (bytes_eq-Decides _ _).1 e)))
    c.in_ok-path.ensures.ok (folder_there before c.args.name.now _ c.is_folder.ensures.folder c.if-is_folder.true)
    c.in_ok-files.ensures.files (λ f. ap missed_in (c.in_ok-files.ensures.unlisted f))
