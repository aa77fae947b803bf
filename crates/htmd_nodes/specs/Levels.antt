-- How the depth of a node, the number of its parent and those of its children lie in memory.
use Rattle.std.specs.Prelude.{ℕ, List, [], ◌∷◌, ◌++◌, take}
use Rattle.htmd_nodes.specs.declared.levels.Kept.{Kept}
use Rattle.htmd_nodes.specs.declared.levels.Kept.TheVariants as kept

pub record LevelValue : Type 0 where
  pub depth : ℕ
  pub parent : ℕ
  pub children : List ℕ

-- a node at this depth, under this parent, without children
abbrev pub childless : ℕ → ℕ → LevelValue
childless depth parent = record { depth = depth; parent = parent; children = [] }

-- with a new last child
abbrev pub with_last : ℕ → LevelValue → LevelValue
with_last id level = record level { children = level.children ++ id ∷ [] }

-- what is kept; of an array so many from the front are children
abbrev pub level_of : Kept → LevelValue
level_of (kept.None depth parent) = childless depth parent
level_of (kept.One depth parent ids) = record { depth = depth; parent = parent; children = ids }
level_of (kept.Three len depth parent ids) =
    record { depth = depth; parent = parent; children = take len ids.value }
level_of (kept.Seven len depth parent ids) =
    record { depth = depth; parent = parent; children = take len ids.value }
level_of (kept.More depth more) =
    record { depth = depth; parent = more.value.parent; children = more.value.ids.items }
