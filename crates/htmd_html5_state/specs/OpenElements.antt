-- The stack of open elements and its scopes (HTML Standard, 13.2.4.2), innermost first.
use Rattle.std.specs.Prelude.{ℕ, Bool, true, false, not, ◌&&◌, ◌||◌, ◌==◌, if◌then◌else◌, List, [], ◌∷◌}
use Rattle.std.specs.Prelude.{Option, Some, None}
use Rattle.std.specs.List.{list_any}
use Rattle.htmd_html5_state.specs.Names.{ElementNameValue, NameValue, html, same_element_name}
use Rattle.htmd_html5_state.specs.Sets.{is_of, bounds}
use Rattle.htmd_html5_state.specs.declared.sets.NameSet.{NameSet}
use Rattle.htmd_html5_state.specs.declared.sets.Scope.{Scope}
use Rattle.htmd_html5_state.specs.declared.sets.Scope.TheVariants.{Default, Special}

-- an open element: its node and its name
pub record OpenValue : Type 0 where
  pub node : ℕ
  pub name : ElementNameValue

abbrev pub is_in : NameSet → OpenValue → Bool
is_in set e = is_of set e.name

abbrev pub is_node : ℕ → OpenValue → Bool
is_node n e = e.node == n

abbrev pub has_name : ElementNameValue → OpenValue → Bool
has_name name e = same_element_name e.name name

-- ---- what is open

-- the current node is of the set
abbrev pub current_is : NameSet → List OpenValue → Bool
current_is set [] = false
current_is set (e ∷ es) = is_in set e

abbrev pub is_open : NameSet → List OpenValue → Bool
is_open set stack = list_any (is_in set) stack

abbrev pub is_open_node : ℕ → List OpenValue → Bool
is_open_node n stack = list_any (is_node n) stack

-- an element that passes is within the scope
abbrev pub scope_has : (OpenValue → Bool) → Scope → List OpenValue → Bool
scope_has wanted scope [] = false
scope_has wanted scope (e ∷ es) = wanted e || (not (bounds scope e.name) && scope_has wanted scope es)

abbrev pub is_in_scope : NameSet → Scope → List OpenValue → Bool
is_in_scope set scope stack = scope_has (is_in set) scope stack

-- whether any other end tag with this name closes an element
abbrev pub is_closable : NameValue → List OpenValue → Bool
is_closable name stack = scope_has (has_name (html name)) Special stack

abbrev pub current_name : List OpenValue → Option ElementNameValue
current_name [] = None
current_name (e ∷ es) = Some e.name

abbrev pub is_empty : List OpenValue → Bool
is_empty [] = true
is_empty (e ∷ es) = false

abbrev pub has_second : List OpenValue → Bool
has_second [] = false
has_second (e ∷ []) = false
has_second (e ∷ f ∷ es) = true

-- the outermost element
abbrev pub first_open : List OpenValue → Option ℕ
first_open [] = None
first_open (e ∷ []) = Some e.node
first_open (e ∷ f ∷ es) = first_open (f ∷ es)

-- the element right inside it, if it is one of these
abbrev pub second_open : NameSet → List OpenValue → Option ℕ
second_open set [] = None
second_open set (e ∷ []) = None
second_open set (e ∷ f ∷ []) = if is_in set e then Some e.node else None
second_open set (e ∷ f ∷ g ∷ es) = second_open set (f ∷ g ∷ es)

-- an element is open, and neither it nor one inside it bounds a scope
abbrev pub is_node_in_scope : ℕ → List OpenValue → Bool
is_node_in_scope n [] = false
is_node_in_scope n (e ∷ es) = not (bounds Default e.name) && (e.node == n || is_node_in_scope n es)

-- ---- elements are popped

abbrev pub pop : List OpenValue → List OpenValue
pop [] = []
pop (e ∷ es) = es

-- up to one that passes, with it
abbrev pub pop_through : (OpenValue → Bool) → List OpenValue → List OpenValue
pop_through wanted [] = []
pop_through wanted (e ∷ es) = if wanted e then es else pop_through wanted es

-- until one of these has been popped
abbrev pub pop_until : NameSet → List OpenValue → List OpenValue
pop_until set stack = pop_through (is_in set) stack

-- back to one of these
abbrev pub clear_to : NameSet → List OpenValue → List OpenValue
clear_to set [] = []
clear_to set (e ∷ es) = if is_in set e then e ∷ es else clear_to set es

-- as long as the current node is one of these (13.2.6.3)
abbrev pub pop_while : NameSet → List OpenValue → List OpenValue
pop_while set [] = []
pop_while set (e ∷ es) = if is_in set e then pop_while set es else e ∷ es

-- if one of these is in scope, until one has been popped
abbrev pub close : NameSet → Scope → List OpenValue → List OpenValue
close set scope stack = if is_in_scope set scope stack then pop_until set stack else stack

-- any other end tag (13.2.6.4.7)
abbrev pub close_name : NameValue → List OpenValue → List OpenValue
close_name name stack =
    if is_closable name stack then pop_through (has_name (html name)) stack else stack

-- all but the outermost
abbrev pub outermost : List OpenValue → List OpenValue
outermost [] = []
outermost (e ∷ []) = e ∷ []
outermost (e ∷ f ∷ es) = outermost (f ∷ es)

-- an element wherever it stands
abbrev pub without : ℕ → List OpenValue → List OpenValue
without n [] = []
without n (e ∷ es) = if e.node == n then es else e ∷ without n es

-- those inside an element, and those around it
abbrev pub inside : ℕ → List OpenValue → List OpenValue
inside n [] = []
inside n (e ∷ es) = if e.node == n then [] else e ∷ inside n es

abbrev pub around : ℕ → List OpenValue → List OpenValue
around n [] = []
around n (e ∷ es) = if e.node == n then es else around n es
