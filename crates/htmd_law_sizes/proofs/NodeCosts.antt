-- How much nodes that follow each other give, and the lists that they make.
use Rattle.std.proofs.Common.{◌≡◌, refl, ℕ, ◌+◌, ◌*◌, ◌≤◌, Bool, true, false, List, [], ◌∷◌, ◌++◌, length, map, arith}
use Rattle.std.specs.Prelude.{fold, if◌then◌else◌, Option, Some, None, ℤ}
use Rattle.htmd_document.specs.Documents as documents
use Rattle.htmd_flow.specs.Contexts.{Context, is_lined, deeper, apart}
use Rattle.htmd_flow.specs.Flows.{Node, is_item, before_items, behind_item, item_of, items_of, each_whole}
use Rattle.htmd_flow.specs.Flows.{list_parts, goes_on, items_in_a_row, flow_all, flow_after}
use Rattle.htmd_flow.specs.Lists.{ListItem, are_filled, list_of, start_of, numbered, new_number, Groups}
use Rattle.htmd_flow.specs.Lists.{groups_at, with_number, with_item, lists_of, lists_if_filled}
use Rattle.htmd_flow.specs.Parts.{Part, edge}
use Rattle.htmd_law_sizes.proofs.HeavySizes.{heavy, heavy_items}
use Rattle.htmd_law_sizes.specs.SimpleSizes.{size_of_simple}
use Rattle.htmd_law_sizes.proofs.ContextRooms.{Within}
use Rattle.htmd_law_sizes.proofs.PartCosts.{costs, costs_append, blocks_cost}

-- 400 for each unit of a node's size
pub record Fit (n : Node) : Type 0 where
  pub outer : (c : Context) → Within c.around → costs (n.whole c) + 50 ≤ 400 * size_of_simple n.tree
  pub inner : (c : Context) → Within c.around → costs (n.content c) + 400 ≤ 400 * size_of_simple n.tree

abbrev pub AllFit : List Node → Type 0
AllFit [] = Unit {0}
AllFit (n ∷ nodes) = Fit n × AllFit nodes

abbrev pub worth : List Node → ℕ
worth [] = 0
worth (n ∷ nodes) = 400 * size_of_simple n.tree + worth nodes

-- ---- lists

-- four more for each item
abbrev pub items_size : List ListItem → ℕ
items_size [] = 0
items_size (i ∷ items) = 4 + heavy i.blocks + items_size items

items_append : (a b : List ListItem) → items_size (a ++ b) ≡ items_size a + items_size b
items_append [] b = omega arith
items_append (i ∷ a) b = omega (arith, items_append a b)

blocks_size : (items : List ListItem)
    → heavy_items (documents.items_of (map (λ (i : ListItem). i.blocks) items)) + 3 * length items
    ≡ items_size items
blocks_size [] = refl
blocks_size (i ∷ items) = omega (arith, blocks_size items)

some : (items : List ListItem) → are_filled items ≡ true → 1 ≤ length items
some [] h = absurd (cc)
some (i ∷ items) h = omega arith

list_cost : (start : Option ℕ) (items : List ListItem) → are_filled items ≡ true
    → costs (list_of start items ∷ []) ≤ items_size items
list_cost start items h = omega (arith, blocks_size items, some items h)

numbered_cost : (k : ℕ) (start : ℤ) (items : List ListItem) → costs (numbered k start items) ≤ items_size items
numbered_cost k start items = go (are_filled items) refl
  where
    go : (t : Bool) → are_filled items ≡ t
        → costs (if t then list_of (start_of k start (length items)) items ∷ [] else []) ≤ items_size items
    go true e = list_cost (start_of k start (length items)) items e
    go false e = omega arith

abbrev groups_cost : Groups → ℕ
groups_cost g = costs g.done + items_size g.group

number_cost : (g : Groups) (i : ListItem) (v : Option ℤ)
    → groups_cost (with_number g i v) ≤ groups_cost g + (4 + heavy i.blocks)
number_cost g i None = omega (arith, items_append g.group (i ∷ []))
number_cost g i (Some v) =
    omega (arith, costs_append g.done (numbered g.nested g.start g.group), numbered_cost g.nested g.start g.group)

groups_le : (items : List ListItem) (g : Groups)
    → groups_cost (fold with_item g items) ≤ groups_cost g + items_size items
groups_le [] g = omega arith
groups_le (i ∷ items) g =
    omega (arith, groups_le items (with_item g i), number_cost g i (new_number g.next i.value))

lists_cost : (k : ℕ) (start : Option ℤ) (items : List ListItem) → are_filled items ≡ true
    → costs (lists_of k start items) ≤ items_size items
lists_cost k None items h = list_cost None items h
lists_cost k (Some start) items h =
    let g = fold with_item (groups_at k start) items in
    omega (
      arith,
      costs_append g.done (numbered g.nested g.start g.group),
      numbered_cost g.nested g.start g.group,
      groups_le items (groups_at k start),
    )

pub filled_cost : (k : ℕ) (start : Option ℤ) (items : List ListItem)
    → costs (lists_if_filled k start items) ≤ items_size items
filled_cost k start items = go (are_filled items) refl
  where
    go : (t : Bool) → are_filled items ≡ t
        → costs (if t then lists_of k start items else []) ≤ items_size items
    go true e = lists_cost k start items e
    go false e = omega arith

-- ---- the items of a list

behind_le : (nodes : List Node) (c : Context) → AllFit nodes → Within c.around
    → costs (behind_item nodes c) + items_size (items_of nodes c) ≤ worth nodes
behind_le [] c f w = omega arith
behind_le (n ∷ nodes) c f w = go (is_item n) (behind_le nodes c f.1 w)
  where
    inner : costs (n.content c) + 400 ≤ 400 * size_of_simple n.tree
    inner = f.0.inner c w

    outer : costs (n.whole c) + 50 ≤ 400 * size_of_simple n.tree
    outer = f.0.outer c w

    parts : List Part
    parts = n.content c ++ behind_item nodes c

    go : (t : Bool) → costs (behind_item nodes c) + items_size (items_of nodes c) ≤ worth nodes
        → costs (if t then [] else edge ∷ n.whole c ++ behind_item nodes c)
        + items_size (if t then item_of n parts ∷ items_of nodes c else items_of nodes c)
        ≤ 400 * size_of_simple n.tree + worth nodes
    go true i =
        omega (arith, i, inner, blocks_cost true parts, costs_append (n.content c) (behind_item nodes c))
    go false i = omega (arith, i, outer, costs_append (n.whole c) (behind_item nodes c))

-- an item takes all that comes before the next one
item_le : (n : Node) (nodes : List Node) (c : Context) → Fit n → AllFit nodes → Within c.around
    → items_size (item_of n (n.content c ++ behind_item nodes c) ∷ items_of nodes c) + 400
    ≤ 5 + (400 * size_of_simple n.tree + worth nodes)
item_le n nodes c f g w =
    omega (
      arith,
      behind_le nodes c g w,
      f.inner c w,
      blocks_cost true (n.content c ++ behind_item nodes c),
      costs_append (n.content c) (behind_item nodes c),
    )

before_le : (nodes : List Node) (c d : Context) → AllFit nodes → Within c.around → Within d.around
    → costs (before_items nodes c) + items_size (items_of nodes d) ≤ worth nodes
before_le [] c d f w v = omega arith
before_le (n ∷ nodes) c d f w v = go (is_item n) (before_le nodes c d f.1 w v)
  where
    outer : costs (n.whole c) + 50 ≤ 400 * size_of_simple n.tree
    outer = f.0.outer c w

    first : items_size (item_of n (n.content d ++ behind_item nodes d) ∷ items_of nodes d) + 400
        ≤ 5 + (400 * size_of_simple n.tree + worth nodes)
    first = item_le n nodes d f.0 f.1 v

    go : (t : Bool) → costs (before_items nodes c) + items_size (items_of nodes d) ≤ worth nodes
        → costs (if t then [] else n.whole c ++ before_items nodes c)
        + items_size
        (if t then item_of n (n.content d ++ behind_item nodes d) ∷ items_of nodes d else items_of nodes d)
        ≤ 400 * size_of_simple n.tree + worth nodes
    go true i = omega (arith, first)
    go false i = omega (arith, i, outer, costs_append (n.whole c) (before_items nodes c))

pub each_le : (nodes : List Node) (c : Context) → AllFit nodes → Within c.around
    → costs (each_whole nodes c) ≤ worth nodes
each_le [] c f w = omega arith
each_le (n ∷ nodes) c f w =
    omega (arith, each_le nodes c f.1 w, f.0.outer c w, costs_append (n.whole c) (each_whole nodes c))

pub list_le : (start : Option ℤ) (nodes : List Node) (c : Context) → AllFit nodes → Within c.around
    → costs (list_parts start nodes c) ≤ 3 + worth nodes
list_le start nodes c f w = go (is_lined c)
  where
    go : (t : Bool)
        → costs
        (if t then apart (each_whole nodes c)
        else (edge ∷ before_items nodes c)
        ++ edge ∷ lists_if_filled c.nested start (items_of nodes (deeper c)) ++ edge ∷ [])
        ≤ 3 + worth nodes
    go true = simp costs_append (omega (arith, each_le nodes c f w))
    go false =
        simp costs_append
        (omega (arith, before_le nodes c (deeper c) f w w, filled_cost c.nested start (items_of nodes (deeper c))))

-- items that stand in no list
loose_le : (n : Node) (nodes : List Node) (c : Context) → is_item n ≡ true → Fit n → AllFit nodes
    → Within c.around
    → costs (list_parts None (n ∷ nodes) c) + 40 ≤ 400 * size_of_simple n.tree + worth nodes
loose_le n nodes c e f g w = go (is_lined c) (is_item n) e
  where
    d : Context
    d = deeper c

    go : (t b : Bool) → b ≡ true
        → costs
        (if t then apart (each_whole (n ∷ nodes) c)
        else (edge ∷ (if b then [] else n.whole c ++ before_items nodes c))
        ++ edge ∷ lists_if_filled c.nested None
        (if b then item_of n (n.content d ++ behind_item nodes d) ∷ items_of nodes d else items_of nodes d)
        ++ edge ∷ []) + 40
        ≤ 400 * size_of_simple n.tree + worth nodes
    go true b i = simp costs_append (omega (arith, f.outer c w, each_le nodes c g w))
    go false true i =
        simp costs_append
        (omega (
          arith,
          item_le n nodes d f g w,
          filled_cost c.nested None (item_of n (n.content d ++ behind_item nodes d) ∷ items_of nodes d),
        ))
    go false false i = absurd (cc)

-- ---- what follows each other

row_fit : (nodes : List Node) → AllFit nodes → AllFit (items_in_a_row nodes)
row_fit [] f = tt
row_fit (n ∷ nodes) f = go (goes_on n) (row_fit nodes f.1)
  where
    go : (t : Bool) → AllFit (items_in_a_row nodes) → AllFit (if t then n ∷ items_in_a_row nodes else [])
    go true i = (f.0, i)
    go false i = tt

flow_step : (n : Node) (nodes : List Node) (c : Context) (t : Bool) → is_item n ≡ t → AllFit (n ∷ nodes)
    → Within c.around
    → costs (flow_all nodes c) ≤ worth nodes
    → worth (items_in_a_row nodes) + costs (flow_after nodes c) ≤ worth nodes
    → costs
    (if t
    then list_parts None (n ∷ items_in_a_row nodes) c ++ flow_after nodes c
    else n.whole c ++ flow_all nodes c)
    ≤ 400 * size_of_simple n.tree + worth nodes
flow_step n nodes c true e f w i j =
    omega (
      arith,
      loose_le n (items_in_a_row nodes) c e f.0 (row_fit nodes f.1) w,
      costs_append (list_parts None (n ∷ items_in_a_row nodes) c) (flow_after nodes c),
      j,
    )
flow_step n nodes c false e f w i j =
    omega (arith, f.0.outer c w, costs_append (n.whole c) (flow_all nodes c), i)

after_step : (n : Node) (nodes : List Node) (c : Context) (t : Bool)
    → costs (n.whole c) + 50 ≤ 400 * size_of_simple n.tree
    → costs (flow_all nodes c) ≤ worth nodes
    → worth (items_in_a_row nodes) + costs (flow_after nodes c) ≤ worth nodes
    → worth (if t then n ∷ items_in_a_row nodes else [])
    + costs (if t then flow_after nodes c else n.whole c ++ flow_all nodes c)
    ≤ 400 * size_of_simple n.tree + worth nodes
after_step n nodes c true o i j = omega (arith, j)
after_step n nodes c false o i j = omega (arith, o, i, costs_append (n.whole c) (flow_all nodes c))

mutual
  pub flow_le : (nodes : List Node) (c : Context) → AllFit nodes → Within c.around
      → costs (flow_all nodes c) ≤ worth nodes
  flow_le [] c f w = omega arith
  flow_le (n ∷ nodes) c f w =
      flow_step n nodes c (is_item n) refl f w (flow_le nodes c f.1 w) (after_le nodes c f.1 w)

  after_le : (nodes : List Node) (c : Context) → AllFit nodes → Within c.around
      → worth (items_in_a_row nodes) + costs (flow_after nodes c) ≤ worth nodes
  after_le [] c f w = omega arith
  after_le (n ∷ nodes) c f w =
      after_step n nodes c (goes_on n) (f.0.outer c w) (flow_le nodes c f.1 w) (after_le nodes c f.1 w)

-- one node alone
pub single_le : (n : Node) (c : Context) → Fit n → Within c.around
    → costs (flow_all (n ∷ []) c) + 40 ≤ 400 * size_of_simple n.tree
single_le n c f w = go (is_item n) refl
  where
    go : (t : Bool) → is_item n ≡ t
        → costs (if t then list_parts None (n ∷ []) c ++ [] else n.whole c ++ []) + 40 ≤ 400 * size_of_simple
        n.tree
    go true e = omega (arith, loose_le n [] c e f tt w, costs_append (list_parts None (n ∷ []) c) [])
    go false e = omega (arith, f.outer c w, costs_append (n.whole c) [])
