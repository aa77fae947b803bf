-- Worked rows of the definitions.
use Rattle.std.proofs.Common.{◌≡◌, ℕ, true, false, List, [], ◌∷◌, Option, Some, None, refl}
use Rattle.std.specs.Prelude.{codes}
use Rattle.htmd_html5_state.specs.Names.{NameValue, known, other, html, svg, ElementNameValue, name_of_text}
use Rattle.htmd_html5_state.specs.Nodes.{NodeValue, KindValue, document, text, element, add, add_text, last_in}
use Rattle.htmd_html5_state.specs.Nodes.{before_in, new_node}
use Rattle.htmd_html5_state.specs.OpenElements.{OpenValue, is_in_scope, close_name, clear_to}
use Rattle.htmd_html5_state.specs.State.{StateValue, initial_state}
use Rattle.htmd_html5_state.specs.Insertion.{opened, insert_text, insert_element}
use Rattle.htmd_html5_state.specs.Formatting.{insert_formatting, reconstruct}
use Rattle.htmd_html5_state.specs.Adoption.{adoption_agency, move_last, wrap_children}
use Rattle.htmd_html5_state.specs.Resetting.{reset_insertion_mode}
use Rattle.htmd_html5_state.specs.Foreign.{insert_foreign}
use Rattle.htmd_html5_state.specs.declared.names.TagName.{TagName}
use Rattle.htmd_html5_state.specs.declared.names.TagName.TheVariants.{A, B, Body, Html, I, Li, P, Table, TBody, Td, Tr}
use Rattle.htmd_html5_state.specs.declared.names.TagName.TheVariants.{Ul, Div}
use Rattle.htmd_html5_state.specs.declared.names.Namespace.TheVariants.{Svg}
use Rattle.htmd_html5_state.specs.declared.sets.NameSet.TheVariants.{Only, TableContext}
use Rattle.htmd_html5_state.specs.declared.sets.Scope.TheVariants as scope
use Rattle.htmd_html5_state.specs.declared.modes.InsertionMode.TheVariants.{InBody, InCell, InTable}

abbrev name : TagName → ElementNameValue
name tag = html (known tag)

abbrev is_open_as : ℕ → TagName → OpenValue
is_open_as n tag = opened n (name tag)

-- ---- names

known-name : name_of_text (codes "td") ≡ known Td
known-name = refl

other-name : name_of_text (codes "blink") ≡ other (codes "blink")
other-name = refl

-- ---- scopes

abbrev list_in_item : List OpenValue
list_in_item = is_open_as 5 Ul ∷ is_open_as 4 Li ∷ is_open_as 3 P ∷ is_open_as 2 Body ∷ is_open_as 1 Html ∷ []

a-list-bounds-items : is_in_scope (Only Li) scope.ListItem list_in_item ≡ false
a-list-bounds-items = refl

a-list-bounds-no-paragraph : is_in_scope (Only P) scope.Default list_in_item ≡ true
a-list-bounds-no-paragraph = refl

-- an end tag that closes nothing, since a special element stands between
closes-nothing : close_name (known B) (is_open_as 3 Div ∷ is_open_as 2 B ∷ is_open_as 1 Html ∷ [])
    ≡ is_open_as 3 Div ∷ is_open_as 2 B ∷ is_open_as 1 Html ∷ []
closes-nothing = refl

-- ---- documents

abbrev node : KindValue → Option ℕ → List ℕ → NodeValue
node kind parent children = record { kind = kind; parent = parent; children = children }

-- two texts in a row are one
texts-join : add_text (codes "b") (last_in 0) (add_text (codes "a") (last_in 0) (new_node document ∷ []))
    ≡ node document None (1 ∷ []) ∷ node (text (codes "ab")) (Some 0) [] ∷ []
texts-join = refl

-- ---- foster parents

-- in `<body><table>`
abbrev in_table : StateValue
in_table = record (initial_state false) {
  nodes = node document None (1 ∷ [])
      ∷ node (element (name Html) []) (Some 0) (2 ∷ [])
      ∷ node (element (name Body) []) (Some 1) (3 ∷ [])
      ∷ node (element (name Table) []) (Some 2) []
      ∷ [];
  stack = is_open_as 3 Table ∷ is_open_as 2 Body ∷ is_open_as 1 Html ∷ [];
  foster_parenting = true;
}

-- the text `a` goes before the table
text-before-table : (insert_text (codes "a") in_table).nodes
    ≡ node document None (1 ∷ [])
    ∷ node (element (name Html) []) (Some 0) (2 ∷ [])
    ∷ node (element (name Body) []) (Some 1) (4 ∷ 3 ∷ [])
    ∷ node (element (name Table) []) (Some 2) []
    ∷ node (text (codes "a")) (Some 2) []
    ∷ []
text-before-table = refl

-- ---- the adoption agency

-- in `<body><b><p>x`
abbrev in_paragraph : StateValue
in_paragraph = record (initial_state false) {
  nodes = node document None (1 ∷ [])
      ∷ node (element (name Body) []) (Some 0) (2 ∷ [])
      ∷ node (element (name B) []) (Some 1) (3 ∷ [])
      ∷ node (element (name P) []) (Some 2) (4 ∷ [])
      ∷ node (text (codes "x")) (Some 3) []
      ∷ [];
  stack = is_open_as 3 P ∷ is_open_as 2 B ∷ is_open_as 1 Body ∷ [];
  formatting = Some 2 ∷ [];
}

-- `</b>` makes `<b></b><p><b>x</b>` of it, where `p` is open
misnested : adoption_agency B in_paragraph
    ≡ record in_paragraph {
      nodes = node document None (1 ∷ [])
          ∷ node (element (name Body) []) (Some 0) (2 ∷ 3 ∷ [])
          ∷ node (element (name B) []) (Some 1) []
          ∷ node (element (name P) []) (Some 1) (5 ∷ [])
          ∷ node (text (codes "x")) (Some 5) []
          ∷ node (element (name B) []) (Some 3) (4 ∷ [])
          ∷ [];
      stack = is_open_as 3 P ∷ is_open_as 1 Body ∷ [];
      formatting = [];
    }
unfolding move_last wrap_children
misnested = refl

-- in `<body><p><b></p>`
abbrev after_paragraph : StateValue
after_paragraph = record (initial_state false) {
  nodes = node document None (1 ∷ [])
      ∷ node (element (name Body) []) (Some 0) (2 ∷ [])
      ∷ node (element (name P) []) (Some 1) (3 ∷ [])
      ∷ node (element (name B) []) (Some 2) []
      ∷ [];
  stack = is_open_as 1 Body ∷ [];
  formatting = Some 3 ∷ [];
}

-- `b` opens again before what comes next
opens-again : reconstruct after_paragraph
    ≡ record after_paragraph {
      nodes = node document None (1 ∷ [])
          ∷ node (element (name Body) []) (Some 0) (2 ∷ 4 ∷ [])
          ∷ node (element (name P) []) (Some 1) (3 ∷ [])
          ∷ node (element (name B) []) (Some 2) []
          ∷ node (element (name B) []) (Some 1) []
          ∷ [];
      stack = is_open_as 4 B ∷ is_open_as 1 Body ∷ [];
      formatting = Some 4 ∷ [];
    }
opens-again = refl

-- ---- the insertion mode

mode-in-cell : (reset_insertion_mode (record in_table { stack = is_open_as 4 Td ∷ is_open_as 3 Table ∷ [] })).mode
    ≡ InCell
mode-in-cell = refl

mode-in-table : (reset_insertion_mode in_table).mode ≡ InTable
mode-in-table = refl

-- ---- foreign content

names-with-capitals : (insert_foreign Svg (codes "foreignobject") [] true after_paragraph).nodes
    ≡ node document None (1 ∷ [])
    ∷ node (element (name Body) []) (Some 0) (2 ∷ 4 ∷ [])
    ∷ node (element (name P) []) (Some 1) (3 ∷ [])
    ∷ node (element (name B) []) (Some 2) []
    ∷ node (element (svg (codes "foreignObject")) []) (Some 1) []
    ∷ []
names-with-capitals = refl
