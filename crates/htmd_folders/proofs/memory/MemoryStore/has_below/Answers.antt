-- A change that leaves no file below the folder, and the end.
use Rattle.std.proofs.Common.{◌≡◌, ◌∙◌, ◌<◌, ◌≤◌, sym, subst, length, get_or}
use Rattle.std.proofs.lemmas.Bool.{false≢true}
use Rattle.htmd_folders.specs.MemoryViews.{changes_in}
use Rattle.htmd_folders.proofs.ListingsLemmas.{HasNone, changes_done, none_more, none_there}
use Rattle.htmd_folders.proofs.memory.MemoryStore.has_below.Goals as goal

pub loop-change-preserved : goal.loop-change-preserved
loop-change-preserved c =
    let i = c.loop-change.change-index in
    let value = c.deref-change-items.ensures.value in
    none_more (changes_in c.args.self.now) c.args.folder.now c.args.self.now.changes.items i
    c.change-item.result c.file_below.result (subst (λ xs. i < length xs) value c.loop-change-test.true)
    (subst (λ xs. c.change-item.result ≡ get_or xs i c.change-item.result) value c.change-item.is)
    c.file_below.ensures (sym c.is_some.ensures ∙ c.if-is_some.false) c.loop-change.invariant

pub returns : goal.returns
returns c =
    let i = c.loop-change.change-index in
    let value = c.deref-change-items.ensures.value in
    let none = none_there (changes_in c.args.self.now) c.args.folder.now
    (subst (HasNone (changes_in c.args.self.now) c.args.folder.now)
    (changes_done c.args.self.now.changes.items i (subst (λ xs. length xs ≤ i) value c.loop-change-test.false))
    c.loop-change.invariant) in
    ((λ t. absurd (false≢true t)), λ f. absurd (none f))
