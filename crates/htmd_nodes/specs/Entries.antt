-- How a tree lies in memory: each entry keeps its depth, the number of its parent and those of its children.
use Rattle.std.specs.Prelude.{◌≡◌, ◌==◌, ℕ, ◌<◌, List, length, map, slice_index_or, Option, Some, None, if◌then◌else◌}
use Rattle.htmd_nodes.specs.declared.tree.Entry.{Entry}
use Rattle.htmd_nodes.specs.Items.{Item, children_of, IsTree}
use Rattle.htmd_nodes.specs.Views.{data_of}

-- the parent of an entry: the Document, the only one at depth 0, has none
abbrev pub parent_of : Entry → Option ℕ
parent_of e = if e.level.depth == 0 then None else Some e.level.parent

abbrev pub item_of : Entry → Item
item_of e = record { parent = parent_of e; depth = e.level.depth; node_data = data_of e.data }

abbrev pub items_of : List Entry → List Item
items_of entries = map item_of entries

pub record IsStored (entries : List Entry) : Type 0 where
  pub tree : IsTree (items_of entries)
  pub children : (k : ℕ) (d : Entry) → k < length entries
      → (slice_index_or entries k d).level.children ≡ children_of (items_of entries) k
