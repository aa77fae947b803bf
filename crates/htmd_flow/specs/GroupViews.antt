-- A list that goes on, as the source keeps it.
use Rattle.std.specs.Prelude.{◌≡◌, List, [], map, fold}
use Rattle.htmd_flow.specs.declared.list.Group as code
use Rattle.htmd_flow.specs.declared.list.ListItem as items
use Rattle.htmd_flow.specs.ListViews.{item_of}
use Rattle.htmd_flow.specs.Lists.{Groups, ListItem, with_item}
use Rattle.htmd_flow.specs.Paragraphs.{Writing, fed_all}

-- with no list before it
abbrev pub group_of : code.Group → Groups
group_of g = record { nested = g.nested; done = []; start = g.start; next = g.next; group = map item_of g.items.items }

-- one item more: the lists that it ended were written
pub record IsWithItem (before : Writing) (old : code.Group) (i : items.ListItem) (after : Writing) (new : code.Group)
    : Type 0 where
  pub written : after ≡ fed_all before (with_item (group_of old) (item_of i)).done
  pub nested : new.nested ≡ old.nested
  pub start : new.start ≡ (with_item (group_of old) (item_of i)).start
  pub next : new.next ≡ (with_item (group_of old) (item_of i)).next
  pub group : map item_of new.items.items ≡ (with_item (group_of old) (item_of i)).group

-- items more, in order
pub record AreWithItems (before : Writing) (old : code.Group) (all : List ListItem) (after : Writing) (new : code.Group)
    : Type 0 where
  pub written : after ≡ fed_all before (fold with_item (group_of old) all).done
  pub nested : new.nested ≡ old.nested
  pub start : new.start ≡ (fold with_item (group_of old) all).start
  pub next : new.next ≡ (fold with_item (group_of old) all).next
  pub group : map item_of new.items.items ≡ (fold with_item (group_of old) all).group
