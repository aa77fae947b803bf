-- The lists of an `ol`, one item after another.
use Rattle.std.proofs.Common.{◌≡◌, ℕ, List, [], ◌∷◌, ◌++◌, Option, Some, None, refl, sym, ap, ◌∙◌, fold}
use Rattle.std.specs.Prelude.{ℤ}
use Rattle.std.proofs.lemmas.List.{append-nil}
use Rattle.std.proofs.Common.{map}
use Rattle.std.proofs.lemmas.List.Sums.{fold-append}
use Rattle.htmd_flow.specs.declared.list.Group as code
use Rattle.htmd_flow.specs.GroupViews.{group_of, AreWithItems}
use Rattle.htmd_flow.specs.ListViews.{item_of}
use Rattle.htmd_flow.specs.Lists.{Groups, ListItem, with_item, with_number, new_number, groups_at, numbered}
use Rattle.htmd_flow.specs.Lists.{numbered_lists}
use Rattle.htmd_flow.specs.Paragraphs.{Writing, fed, fed_all}

-- the same lists, with none before them
abbrev pub alone : Groups → Groups
alone g = record g { done = [] }

done_with : (g : Groups) (i : ListItem) (n : Option ℤ)
    → (with_number g i n).done ≡ g.done ++ (with_number (alone g) i n).done
done_with g i None = sym (append-nil g.done)
done_with g i (Some v) = refl

start_with : (g : Groups) (i : ListItem) (n : Option ℤ)
    → (with_number g i n).start ≡ (with_number (alone g) i n).start
start_with g i None = refl
start_with g i (Some v) = refl

next_with : (g : Groups) (i : ListItem) (n : Option ℤ)
    → (with_number g i n).next ≡ (with_number (alone g) i n).next
next_with g i None = refl
next_with g i (Some v) = refl

group_with : (g : Groups) (i : ListItem) (n : Option ℤ)
    → (with_number g i n).group ≡ (with_number (alone g) i n).group
group_with g i None = refl
group_with g i (Some v) = refl

-- what an item adds doesn't hang on the lists before
pub done_step : (g : Groups) (i : ListItem) → (with_item g i).done ≡ g.done ++ (with_item (alone g) i).done
done_step g i = done_with g i (new_number g.next i.value)

pub start_step : (g : Groups) (i : ListItem) → (with_item g i).start ≡ (with_item (alone g) i).start
start_step g i = start_with g i (new_number g.next i.value)

pub next_step : (g : Groups) (i : ListItem) → (with_item g i).next ≡ (with_item (alone g) i).next
next_step g i = next_with g i (new_number g.next i.value)

pub group_step : (g : Groups) (i : ListItem) → (with_item g i).group ≡ (with_item (alone g) i).group
group_step g i = group_with g i (new_number g.next i.value)

-- groups with no list before them are alike where their parts are
pub same_alone : (g h : Groups) → g.nested ≡ h.nested → g.start ≡ h.start → g.next ≡ h.next
    → g.group ≡ h.group
    → alone g ≡ alone h
same_alone g h n a b c =
    ap (λ (x : ℕ). record { nested = x; done = []; start = g.start; next = g.next; group = g.group }) n
    ∙ ap (λ (x : ℤ). record { nested = h.nested; done = []; start = x; next = g.next; group = g.group }) a
    ∙ ap (λ (x : ℤ). record { nested = h.nested; done = []; start = h.start; next = x; group = g.group }) b
    ∙ ap (λ (x : List ListItem). record { nested = h.nested; done = []; start = h.start; next = h.next; group = x })
    c

nested_with : (g : Groups) (i : ListItem) (n : Option ℤ) → (with_number g i n).nested ≡ g.nested
nested_with g i None = refl
nested_with g i (Some v) = refl

pub nested_all : (g : Groups) (items : List ListItem) → (fold with_item g items).nested ≡ g.nested
nested_all g [] = refl
nested_all g (i ∷ items) = nested_all (with_item g i) items ∙ nested_with g i (new_number g.next i.value)

-- the lists of all items
pub groups_ended : (w w1 w2 : Writing) (old new : code.Group) (nested : ℕ) (start : ℤ) (items : List ListItem)
    → group_of old ≡ groups_at nested start → AreWithItems w old items w1 new
    → w2 ≡ fed_all w1 (numbered new.nested new.start (map item_of new.items.items))
    → w2 ≡ fed_all w (numbered_lists nested start items)
groups_ended w w1 w2 old new nested start items none all e =
    let g : Groups = fold with_item (groups_at nested start) items in
    let same : fold with_item (group_of old) items ≡ g = ap (λ (x : Groups). fold with_item x items) none in
    let first : new.start ≡ g.start = all.start ∙ ap (λ (x : Groups). x.start) same in
    let group : map item_of new.items.items ≡ g.group = all.group ∙ ap (λ (x : Groups). x.group) same in
    let before : w1 ≡ fed_all w g.done = all.written ∙ ap (λ (x : Groups). fed_all w x.done) same in
    e
    ∙ ap (λ n. fed_all w1 (numbered n new.start (map item_of new.items.items)))
    (all.nested ∙ ap (λ (x : Groups). x.nested) none ∙ sym (nested_all (groups_at nested start) items))
    ∙ ap (λ z. fed_all w1 (numbered g.nested z (map item_of new.items.items))) first
    ∙ ap (λ xs. fed_all w1 (numbered g.nested g.start xs)) group
    ∙ ap (λ v. fed_all v (numbered g.nested g.start g.group)) before
    ∙ sym (fold-append fed w g.done (numbered g.nested g.start g.group))

-- no item yet
pub begun_with : (g : code.Group) (nested : ℕ) (start : ℤ) → g.nested ≡ nested → g.start ≡ start
    → g.next ≡ start
    → g.items.items ≡ [] → group_of g ≡ groups_at nested start
begun_with g nested start a b c e = same_alone (group_of g) (groups_at nested start) a b c (ap (map item_of) e)
