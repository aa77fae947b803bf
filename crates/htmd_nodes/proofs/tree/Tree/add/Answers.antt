-- What is left to prove of `add`.
use Rattle.std.proofs.Common.{◌≡◌, ◌<◌, ◌∷◌, [], ◌++◌, List, length, set, arith, rules, refl, sym, ap, ◌∙◌}
use Rattle.std.proofs.Common.{subst, ◌+◌, ℕ}
use Rattle.std.proofs.lemmas.List.{length-map}
use Rattle.htmd_nodes.specs.declared.tree.Entry.{Entry}
use Rattle.htmd_nodes.specs.Items.{Item, new_item}
use Rattle.htmd_nodes.specs.Levels.{LevelValue}
use Rattle.htmd_nodes.specs.Views.{data_of}
use Rattle.htmd_nodes.specs.Entries.{item_of, items_of, IsStored}
use Rattle.htmd_nodes.proofs.EntriesLemmas.{items_of-set, items_of-added, item_of-level, IsStored-kept, IsStored-added}
use Rattle.htmd_nodes.proofs.EntriesLemmas.{last_item}
use Rattle.htmd_nodes.proofs.tree.Tree.add.Goals as goal

pub invariant_of-self-in_err-push_child : goal.invariant_of-self-in_err-push_child
invariant_of-self-in_err-push_child c =
    let entries : List Entry = c.reserve.new.self.items in
    let i : ℕ = c.parent.inside.index in
    let old : Entry = c.index_mut.result.now in
    let new : Entry = record { «data» = old.data; level = c.push_child.new.self } in
    let items : items_of entries ≡ c.args.self.now = ap items_of c.reserve.ensures.items ∙ c.self.view_is in
    let stored : IsStored entries = subst IsStored (sym c.reserve.ensures.items) c.self.invariant in
    let at : i ≡ c.args.parent = c.parent.view_is in
    let within : i < length entries = omega (arith, length-map entries item_of, ap length items, c.requires.within) in
    let same : item_of new ≡ item_of old =
    item_of-level old new refl (ap (λ (l : LevelValue). l.parent) c.in_err-push_child.ensures.err)
    (ap (λ (l : LevelValue). l.depth) c.in_err-push_child.ensures.err) in
    IsStored-kept entries i old new within c.index_mut.ensures.value same
    (ap (λ (l : LevelValue). l.children) c.in_err-push_child.ensures.err) stored

pub returns-in_err-push_child-clause-err : goal.returns-in_err-push_child-clause-err
returns-in_err-push_child-clause-err c =
    let entries : List Entry = c.reserve.new.self.items in
    let i : ℕ = c.parent.inside.index in
    let old : Entry = c.index_mut.result.now in
    let new : Entry = record { «data» = old.data; level = c.push_child.new.self } in
    let items : items_of entries ≡ c.args.self.now = ap items_of c.reserve.ensures.items ∙ c.self.view_is in
    let stored : IsStored entries = subst IsStored (sym c.reserve.ensures.items) c.self.invariant in
    let at : i ≡ c.args.parent = c.parent.view_is in
    let within : i < length entries = omega (arith, length-map entries item_of, ap length items, c.requires.within) in
    let same : item_of new ≡ item_of old =
    item_of-level old new refl (ap (λ (l : LevelValue). l.parent) c.in_err-push_child.ensures.err)
    (ap (λ (l : LevelValue). l.depth) c.in_err-push_child.ensures.err) in
    let unchanged : items_of (set entries i new) ≡ c.args.self.now =
    items_of-set entries i old new c.index_mut.ensures.value same ∙ items in
    search (rules, unchanged)

pub invariant_of-self-2 : goal.invariant_of-self-2
invariant_of-self-2 c =
    let entries : List Entry = c.reserve.new.self.items in
    let i : ℕ = c.parent.inside.index in
    let old : Entry = c.index_mut.result.now in
    let new : Entry = record { «data» = old.data; level = c.push_child.new.self } in
    let items : items_of entries ≡ c.args.self.now = ap items_of c.reserve.ensures.items ∙ c.self.view_is in
    let stored : IsStored entries = subst IsStored (sym c.reserve.ensures.items) c.self.invariant in
    let at : i ≡ c.args.parent = c.parent.view_is in
    let within : i < length entries = omega (arith, length-map entries item_of, ap length items, c.requires.within) in
    let same : item_of new ≡ item_of old =
    item_of-level old new refl (ap (λ (l : LevelValue). l.parent) c.in_ok-push_child.ensures.ok)
    (ap (λ (l : LevelValue). l.depth) c.in_ok-push_child.ensures.ok) in
    let last : Entry = record { «data» = c.args.node_data; level = c.new.result } in
    let this : item_of last ≡ new_item (items_of entries) i (data_of c.args.node_data) =
    last_item entries i last (ap (λ (l : LevelValue). l.parent) c.new.ensures)
    (ap (λ (l : LevelValue). l.depth) c.new.ensures ∙ rw (items, at) c.requires.depth) in
    let number : c.len.result ≡ length entries = c.len.ensures ∙ search rules in
    subst IsStored (sym c.push_reserved.ensures.items)
    (IsStored-added entries i old new last within c.index_mut.ensures.value same
    (ap (λ (l : LevelValue). l.children) c.in_ok-push_child.ensures.ok
    ∙ ap (λ n. old.level.children ++ n ∷ []) number)
    this (ap (λ (l : LevelValue). l.children) c.new.ensures) (rw (items, at) c.requires.holds)
    (rw (items, at) c.requires.shallow) stored)

pub returns-clause-ok : goal.returns-clause-ok
returns-clause-ok c =
    let entries : List Entry = c.reserve.new.self.items in
    let i : ℕ = c.parent.inside.index in
    let old : Entry = c.index_mut.result.now in
    let new : Entry = record { «data» = old.data; level = c.push_child.new.self } in
    let items : items_of entries ≡ c.args.self.now = ap items_of c.reserve.ensures.items ∙ c.self.view_is in
    let stored : IsStored entries = subst IsStored (sym c.reserve.ensures.items) c.self.invariant in
    let at : i ≡ c.args.parent = c.parent.view_is in
    let within : i < length entries = omega (arith, length-map entries item_of, ap length items, c.requires.within) in
    let same : item_of new ≡ item_of old =
    item_of-level old new refl (ap (λ (l : LevelValue). l.parent) c.in_ok-push_child.ensures.ok)
    (ap (λ (l : LevelValue). l.depth) c.in_ok-push_child.ensures.ok) in
    let last : Entry = record { «data» = c.args.node_data; level = c.new.result } in
    let this : item_of last ≡ new_item (items_of entries) i (data_of c.args.node_data) =
    last_item entries i last (ap (λ (l : LevelValue). l.parent) c.new.ensures)
    (ap (λ (l : LevelValue). l.depth) c.new.ensures ∙ rw (items, at) c.requires.depth) in
    ap items_of c.push_reserved.ensures.items
    ∙ (items_of-added entries i old new last c.index_mut.ensures.value same
    ∙ (ap (λ (x : Item). items_of entries ++ x ∷ []) this ∙ rw (items, at) refl))
