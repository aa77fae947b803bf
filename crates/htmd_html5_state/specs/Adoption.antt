-- The adoption agency algorithm (HTML Standard, 13.2.6.4.7).
use Rattle.std.specs.Prelude.{ℕ, zero, suc, ◌-◌, Bool, false, not, ◌&&◌, nat_lt, if◌then◌else◌, List, [], ◌∷◌, ◌++◌}
use Rattle.std.specs.Prelude.{length, find, Option, Some, None}
use Rattle.std.specs.List.{list_any}
use Rattle.htmd_html5_state.specs.Names.{known, html, is_tag}
use Rattle.htmd_html5_state.specs.Sets.{bounds}
use Rattle.htmd_html5_state.specs.Nodes.{NodeValue, KindValue, element, kind_at, detach, put, new_node, last_in}
use Rattle.htmd_html5_state.specs.Nodes.{attach, move_children}
use Rattle.htmd_html5_state.specs.OpenElements.{OpenValue, is_in, is_open_node, inside, around, pop, close_name}
use Rattle.htmd_html5_state.specs.State.{StateValue, on_nodes, on_stack, on_formatting}
use Rattle.htmd_html5_state.specs.Insertion.{current, opened, place}
use Rattle.htmd_html5_state.specs.Formatting.{since_marker, is_listed, without_entry, replace_entry, insert_after}
use Rattle.htmd_html5_state.specs.declared.names.TagName.{TagName}
use Rattle.htmd_html5_state.specs.declared.sets.NameSet.TheVariants.{Only}
use Rattle.htmd_html5_state.specs.declared.sets.Scope.TheVariants.{Default, Special}

-- ---- what the algorithm looks for

abbrev pub kind_is : TagName → KindValue → Bool
kind_is tag (element name attributes) = is_tag tag name
kind_is tag _ = false

abbrev pub node_is : List NodeValue → TagName → ℕ → Bool
node_is nodes tag n = kind_is tag (kind_at nodes n)

-- the newest formatting element with this name after the last marker
abbrev pub formatting_element : TagName → StateValue → Option ℕ
formatting_element tag s = find (node_is s.nodes tag) (since_marker s.formatting)

abbrev pub bounds_any : OpenValue → Bool
bounds_any e = bounds Default e.name

abbrev pub is_special_element : OpenValue → Bool
is_special_element e = bounds Special e.name

-- the furthest block, what is open inside it, and what is open around it
pub record Furthest : Type 0 where
  pub inner : List OpenValue
  pub block : OpenValue
  pub between : List OpenValue

abbrev pub furthest_with : OpenValue → List OpenValue → Option Furthest → Option Furthest
furthest_with e es None =
    if is_special_element e then Some (record { inner = []; block = e; between = es }) else None
furthest_with e es (Some f) = Some (record f { inner = e ∷ f.inner })

-- the outermost special element of these
abbrev pub furthest_block : List OpenValue → Option Furthest
furthest_block [] = None
furthest_block (e ∷ es) = furthest_with e es (furthest_block es)

-- ---- the elements between the furthest block and the formatting element

-- what has been made of them: the state, which copies are open, the last of them, and the first, after which the
-- bookmark is; without one it is where the formatting element is
pub record Chain : Type 0 where
  pub state : StateValue
  pub copies : List OpenValue
  pub last : ℕ
  pub bookmark : Option ℕ

abbrev pub begin_chain : ℕ → StateValue → Chain
begin_chain block s = record { state = s; copies = []; last = block; bookmark = None }

abbrev pub or_first : Option ℕ → ℕ → ℕ
or_first None n = n
or_first (Some first) n = first

-- a copy takes the place of an element on the list, and what was made last is moved into it
abbrev pub copy_into : ℕ → ℕ → StateValue → StateValue
copy_into n last s = record s {
  nodes = attach last (last_in (length s.nodes)) (s.nodes ++ new_node (kind_at s.nodes n) ∷ []);
  formatting = replace_entry n (length s.nodes) s.formatting;
}

abbrev pub with_copy : OpenValue → Chain → Chain
with_copy e c = record {
  state = copy_into e.node c.last c.state;
  copies = c.copies ++ opened (length c.state.nodes) e.name ∷ [];
  last = length c.state.nodes;
  bookmark = Some (or_first c.bookmark (length c.state.nodes));
}

-- this many may still be copied; those after, and those that aren't on the list, go
abbrev pub with_next : ℕ → OpenValue → Chain → Chain
with_next left e c =
    if nat_lt 0 left && is_listed e.node c.state.formatting then with_copy e c
    else record c { state = on_formatting (without_entry e.node) c.state }

abbrev pub chain : ℕ → List OpenValue → Chain → Chain
chain left [] c = c
chain left (e ∷ es) c = chain (left - 1) es (with_next left e c)

-- ---- one round, in which only what is around the formatting element is open

-- what was made last goes to the common ancestor; no table is inside the formatting element
unfoldable pub move_last : ℕ → StateValue → StateValue
move_last last s =
    let moved = on_nodes (detach last) s in
    on_nodes (put last (place moved)) moved

-- a copy of the formatting element takes all children of the furthest block, and is its only child then
unfoldable pub wrap_children : ℕ → ℕ → List NodeValue → List NodeValue
wrap_children formatting block nodes =
    put (length nodes) (last_in block)
    (move_children block (length nodes) (nodes ++ new_node (kind_at nodes formatting) ∷ []))

-- it takes the place of the formatting element, or goes after the bookmark
abbrev pub with_bookmark : ℕ → ℕ → Option ℕ → List (Option ℕ) → List (Option ℕ)
with_bookmark formatting copy None entries = replace_entry formatting copy entries
with_bookmark formatting copy (Some first) entries = without_entry formatting (insert_after first copy entries)

abbrev pub finish : ℕ → TagName → Furthest → Chain → StateValue → StateValue
finish formatting tag f c s = record s {
  nodes = wrap_children formatting f.block.node s.nodes;
  stack = f.inner ++ opened (length s.nodes) (html (known tag)) ∷ f.block ∷ (c.copies ++ s.stack);
  formatting = with_bookmark formatting (length s.nodes) c.bookmark s.formatting;
}

abbrev pub adopt_by : ℕ → TagName → Furthest → Chain → StateValue
adopt_by formatting tag f c = finish formatting tag f c (move_last c.last c.state)

abbrev pub adopt : ℕ → TagName → Furthest → StateValue → StateValue
adopt formatting tag f s = adopt_by formatting tag f (chain 3 f.between (begin_chain f.block.node s))

-- what a round leaves, and whether the next one follows
pub data Round : Type 0 where
  last_round : StateValue → Round
  goes_on : StateValue → Round

-- without a furthest block the formatting element is closed, with all inside it
abbrev pub round_by : ℕ → TagName → Option Furthest → StateValue → Round
round_by formatting tag None s = last_round (on_formatting (without_entry formatting) s)
round_by formatting tag (Some f) s = goes_on (adopt formatting tag f s)

-- with a formatting element that is open, and in scope
abbrev pub round_open : TagName → ℕ → StateValue → Round
round_open tag formatting s =
    round_by formatting tag (furthest_block (inside formatting s.stack)) (on_stack (around formatting) s)

-- with a formatting element; one that isn't open goes from the list, and one that isn't in scope stays
abbrev pub round_with : TagName → ℕ → StateValue → Round
round_with tag formatting s =
    if not (is_open_node formatting s.stack) then last_round (on_formatting (without_entry formatting) s)
    else if list_any bounds_any (inside formatting s.stack) then last_round s
    else round_open tag formatting s

abbrev pub round_of : TagName → Option ℕ → StateValue → Round
round_of tag None s = last_round (on_stack (close_name (known tag)) s)
round_of tag (Some formatting) s = round_with tag formatting s

abbrev pub round : TagName → StateValue → Round
round tag s = round_of tag (formatting_element tag s) s

abbrev pub go_on : (StateValue → StateValue) → Round → StateValue
go_on more (last_round s) = s
go_on more (goes_on s) = more s

-- at most this many rounds
abbrev pub rounds : ℕ → TagName → StateValue → StateValue
rounds zero tag s = s
rounds (suc k) tag s = go_on (rounds k tag) (round tag s)

-- ---- the algorithm

-- the current node has this name, and isn't on the list
abbrev pub closes_at_once : TagName → StateValue → Bool
closes_at_once tag s =
    is_in (Only tag) (current s.stack) && not (is_listed (current s.stack).node s.formatting)

abbrev pub adoption_agency : TagName → StateValue → StateValue
adoption_agency tag s = if closes_at_once tag s then on_stack pop s else rounds 8 tag s
