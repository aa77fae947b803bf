-- What the program's layout is, and what holds for it.
use Rattle.std.specs.Prelude.{◌≡◌, ℕ, ◌<◌, List, map, reverse, length, true, All}
use Rattle.htmd_nodes.specs.Items.{Item, data_at, depth_at, greatest_depth, holds_children}
use Rattle.htmd_html5_state.specs.Views.{nodes_of}
use Rattle.htmd_html5.specs.Layout.{Coming, Layout}
use Rattle.htmd_html5.specs.declared.layout.Coming as program
use Rattle.htmd_html5.specs.declared.layout.Layout as whole

abbrev pub coming_of : program.Coming → Coming
coming_of c = record { node = c.node; under = c.under }

-- the program's node that is to come
abbrev pub coming_under : ℕ → ℕ → program.Coming
coming_under under node = record { node = node; under = under }

-- the next last
abbrev pub work_of : List program.Coming → List Coming
work_of cs = reverse (map coming_of cs)

abbrev pub layout_of : whole.Layout → Layout
layout_of l = record { nodes = nodes_of l.nodes.items; items = l.tree; work = work_of l.coming.items }

-- an item may have children
pub record MayHold (items : List Item) (under : ℕ) : Type 0 where
  pub within : under < length items
  pub holds : holds_children (data_at items under) ≡ true
  pub shallow : depth_at items under < greatest_depth

-- all that comes has such a parent
abbrev pub AllMayHold : List Item → List program.Coming → Type 0
AllMayHold items cs = All (λ (c : program.Coming). MayHold items c.under) cs
