-- No file below the folder, one that is listed, or a further one; and the end.
use Rattle.std.proofs.Common.{◌≡◌, ◌≢◌, ◌<◌, ◌≤◌, sym, subst, length, get_or, IfSome}
use Rattle.htmd_files.specs.WordViews.{texts_of}
use Rattle.htmd_folders.specs.Listings.{times}
use Rattle.htmd_folders.specs.MemoryViews.{changes_in}
use Rattle.htmd_folders.proofs.ListingsLemmas.{Listed, changes_done, listed_all, listed_push, listed_skip}
use Rattle.htmd_folders.proofs.memory.MemoryStore.files_below.Goals as goal

pub loop-change-preserved-in_default : goal.loop-change-preserved-in_default
loop-change-preserved-in_default c =
    let i = c.loop-change.change-index in
    let value = c.deref-change-items.ensures.value in
    listed_skip (changes_in c.args.self.now) c.args.folder.now c.args.self.now.changes.items i
    c.change-item.result c.file_below.result c.loop-change.files.items
    (subst (λ xs. i < length xs) value c.loop-change-test.true)
    (subst (λ xs. c.change-item.result ≡ get_or xs i c.change-item.result) value c.change-item.is)
    c.file_below.ensures
    (subst (λ r. IfSome r (λ path. times path.now (texts_of c.loop-change.files.items) ≢ 0))
    (sym c.in_default.is) tt)
    c.loop-change.invariant

pub loop-change-preserved-then-is_among : goal.loop-change-preserved-then-is_among
loop-change-preserved-then-is_among c =
    let i = c.loop-change.change-index in
    let value = c.deref-change-items.ensures.value in
    listed_skip (changes_in c.args.self.now) c.args.folder.now c.args.self.now.changes.items i
    c.change-item.result c.file_below.result c.loop-change.files.items
    (subst (λ xs. i < length xs) value c.loop-change-test.true)
    (subst (λ xs. c.change-item.result ≡ get_or xs i c.change-item.result) value c.change-item.is)
    c.file_below.ensures
    (subst (λ r. IfSome r (λ path. times path.now (texts_of c.loop-change.files.items) ≢ 0)) (sym c.in-Some.is)
    (subst (λ xs. times c.in-Some.path.now (texts_of xs) ≢ 0) c.deref.ensures.value
    (c.is_among.ensures.yes c.if-is_among.true)))
    c.loop-change.invariant

pub loop-change-preserved : goal.loop-change-preserved
loop-change-preserved c =
    let i = c.loop-change.change-index in
    let value = c.deref-change-items.ensures.value in
    listed_push (changes_in c.args.self.now) c.args.folder.now c.args.self.now.changes.items i
    c.change-item.result c.in-Some.path.now c.loop-change.files.items c.push.new.self.items c.in_ok-from_str.field-0
    (subst (λ xs. i < length xs) value c.loop-change-test.true)
    (subst (λ xs. c.change-item.result ≡ get_or xs i c.change-item.result) value c.change-item.is)
    c.in-Some.ensures.0 c.in-Some.ensures.1
    (subst (λ xs. times c.in-Some.path.now (texts_of xs) ≡ 0) c.deref.ensures.value
    (c.is_among.ensures.no c.if-is_among.false))
    c.in_ok-from_str.ensures.ok c.in_ok-push.ensures.items c.loop-change.invariant

pub returns : goal.returns
returns c =
    let i = c.loop-change.change-index in
    let value = c.deref-change-items.ensures.value in
    listed_all (changes_in c.args.self.now) c.args.folder.now _
    (subst (λ seen. Listed (changes_in c.args.self.now) c.args.folder.now seen (texts_of c.loop-change.files.items))
    (changes_done c.args.self.now.changes.items i (subst (λ xs. length xs ≤ i) value c.loop-change-test.false))
    c.loop-change.invariant)
