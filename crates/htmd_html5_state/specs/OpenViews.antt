-- The stack of open elements as the program holds it, which is outermost first.
use Rattle.std.specs.Prelude.{◌≡◌, ℕ, Bool, true, false, List, ◌∷◌, ◌++◌, map, reverse, length}
use Rattle.std.specs.List.{list_any}
use Rattle.htmd_html5_state.specs.Adoption.{Furthest, is_special_element}
use Rattle.htmd_html5_state.specs.Names.{element_name_of}
use Rattle.htmd_html5_state.specs.OpenElements.{OpenValue, is_open_node}
use Rattle.htmd_html5_state.specs.declared.open_elements.OpenElement.{OpenElement}
use Rattle.htmd_html5_state.specs.declared.open_elements.Furthest.{Furthest as FurthestParts}

abbrev pub open_of : OpenElement → OpenValue
open_of e = record { node = e.node; name = element_name_of e.name }

abbrev pub all_open_of : List OpenElement → List OpenValue
all_open_of elements = map open_of elements

-- innermost first
abbrev pub stack_of : List OpenElement → List OpenValue
stack_of elements = reverse (all_open_of elements)

abbrev pub furthest_of : FurthestParts → Furthest
furthest_of f = record {
  inner = stack_of f.inner.items;
  block = open_of f.block;
  between = stack_of f.between.items;
}

-- the innermost element with this node is at this place
pub record IsInnermost (n : ℕ) (elements : List OpenElement) (i : ℕ) : Type 0 where
  pub outer : List OpenElement
  pub element : OpenElement
  pub inner : List OpenElement
  pub whole : elements ≡ outer ++ element ∷ inner
  pub place : i ≡ length outer
  pub has_node : element.node ≡ n
  pub lacks : is_open_node n (stack_of inner) ≡ false

abbrev pub is_special : OpenElement → Bool
is_special e = is_special_element (open_of e)

-- the outermost special element is at this place
pub record IsFirstSpecial (elements : List OpenElement) (i : ℕ) : Type 0 where
  pub outer : List OpenElement
  pub element : OpenElement
  pub inner : List OpenElement
  pub whole : elements ≡ outer ++ element ∷ inner
  pub place : i ≡ length outer
  pub special : is_special element ≡ true
  pub lacks : list_any is_special outer ≡ false
