-- Where open elements stand on the stack, counted from 1 at the outermost; 0 is nowhere. No public clause cites it.
use Rattle.std.specs.Prelude.{◌≡◌, ℕ, suc, ◌<◌, ◌≤◌, Bool, true, ◌&&◌, nat_lt, nat_le, if◌then◌else◌, List, [], ◌∷◌}
use Rattle.std.specs.Prelude.{length, get_or, unwrap_or, is_some, vec_len}
use Rattle.std.specs.HashMap.{get_by_text}
use Rattle.std.specs.List.{list_any}
use Rattle.htmd_html5_state.specs.Foreign.{is_html}
use Rattle.htmd_html5_state.specs.ForeignPlaces.{AreNumbered, has_spelling, is_spelled, spelling_place}
use Rattle.htmd_html5_state.specs.Names.{NameValue, ElementNameValue, html, svg, math, known, other}
use Rattle.htmd_html5_state.specs.Sets.{bounds}
use Rattle.htmd_html5_state.specs.OpenElements.{OpenValue, has_name, is_in, is_node}
use Rattle.htmd_html5_state.specs.TagNumbers.{number}
use Rattle.htmd_html5_state.specs.declared.names.TagName.{TagName}
use Rattle.htmd_html5_state.specs.declared.sets.NameSet.TheVariants.{Only}
use Rattle.htmd_html5_state.specs.declared.sets.Scope.{Scope}
use Rattle.htmd_html5_state.specs.declared.sets.Scope.TheVariants.{Default, ListItem, Button as ButtonScope}
use Rattle.htmd_html5_state.specs.declared.sets.Scope.TheVariants.{Table as TableScope, Select}
use Rattle.htmd_html5_state.specs.declared.sets.Scope.TheVariants.{Template as TemplateScope, Special, Items}
use Rattle.htmd_html5_state.specs.declared.places.Bounds.{Bounds}
use Rattle.htmd_html5_state.specs.declared.places.Around.{Around}
use Rattle.htmd_html5_state.specs.declared.places.NamePlaces.{NamePlaces}
use Rattle.htmd_html5_state.specs.declared.places.Places.{Places}

-- ---- where an element stands

-- the place of the innermost element that passes
abbrev pub innermost : (OpenValue → Bool) → List OpenValue → ℕ
innermost p [] = 0
innermost p (e ∷ es) = if p e then suc (length es) else innermost p es

abbrev pub bounds_in : Scope → OpenValue → Bool
bounds_in scope e = bounds scope e.name

-- the element has one of these names
abbrev pub has_one : List TagName → OpenValue → Bool
has_one tags e = list_any (λ t. is_in (Only t) e) tags

-- from the innermost element that passes outwards
abbrev pub back_to : (OpenValue → Bool) → List OpenValue → List OpenValue
back_to p [] = []
back_to p (e ∷ es) = if p e then e ∷ es else back_to p es

-- a place that is somewhere, and no further out than this
abbrev pub is_from : ℕ → ℕ → Bool
is_from bound place = nat_lt 0 place && nat_le bound place

-- ---- what the program holds

abbrev pub bound_of : Bounds → Scope → ℕ
bound_of b Default = b.general
bound_of b ListItem = b.list_item
bound_of b ButtonScope = b.button
bound_of b TableScope = b.table
bound_of b Select = b.select
bound_of b TemplateScope = b.template
bound_of b Special = b.special
bound_of b Items = b.items

abbrev pub name_place : NamePlaces → NameValue → ℕ
name_place n (known tag) = get_or n.tags (number tag) 0
name_place n (other s) = unwrap_or (get_by_text n.others s) 0

-- of a name of foreign content, in any case
abbrev pub place_of_name : NamePlaces → ElementNameValue → ℕ
place_of_name n (html name) = name_place n name
place_of_name n (svg s) = spelling_place n.foreign s
place_of_name n (math s) = spelling_place n.foreign s

-- the place of the name can be written
abbrev pub has_room : NamePlaces → ElementNameValue → Bool
has_room n (html (known tag)) = true
has_room n (html (other s)) = is_some (get_by_text n.others s)
has_room n (svg s) = has_spelling n.foreign s
has_room n (math s) = has_spelling n.foreign s

-- ---- what it is to hold

-- the innermost of these elements that has the name
abbrev pub innermost_named : ElementNameValue → List OpenValue → ℕ
innermost_named (html name) es = innermost (has_name (html name)) es
innermost_named (svg s) es = innermost (is_spelled s) es
innermost_named (math s) es = innermost (is_spelled s) es

-- of an element, and those around it
pub record IsAround (a : Around) (e : OpenValue) (es : List OpenValue) : Type 0 where
  pub name : a.name ≡ innermost_named e.name es
  pub node : a.node ≡ innermost (is_node e.node) es
  pub html : a.html ≡ innermost is_html (e ∷ es)
  pub bounds : (scope : Scope) → bound_of a.bounds scope ≡ innermost (bounds_in scope) (e ∷ es)

abbrev pub IsLinked : List Around → List OpenValue → Type 0
IsLinked around [] = Unit {0}
IsLinked around (e ∷ es) =
    (length es < length around)
    × ((d : Around) → IsAround (get_or around (length es) d) e es) × IsLinked around es

pub record HasRoom (p : Places) (e : OpenValue) : Type 0 where
  pub name : has_room p.names e.name ≡ true
  pub node : e.node < vec_len p.nodes

abbrev pub AllHaveRoom : Places → List OpenValue → Type 0
AllHaveRoom p [] = Unit {0}
AllHaveRoom p (e ∷ es) = HasRoom p e × AllHaveRoom p es

-- the places of these elements
pub record IsPlaced (p : Places) (stack : List OpenValue) : Type 0 where
  pub names : (name : NameValue) → name_place p.names name ≡ innermost (has_name (html name)) stack
  pub spellings : (s : List ℕ) → spelling_place p.names.foreign s ≡ innermost (is_spelled s) stack
  pub numbered : AreNumbered p.names.foreign
  pub nodes : (n : ℕ) → get_or p.nodes.items n 0 ≡ innermost (is_node n) stack
  pub linked : IsLinked p.around.items stack
  pub within : length stack ≤ vec_len p.around
  pub room : AllHaveRoom p stack
