-- The front matter of a page as one JSON object, whose members are in the order of the lines.
use Rattle.std.specs.Prelude.{ℕ, List, [], ◌∷◌, ◌++◌, flat_map, Option, Some, None, codes}
use Rattle.htmd_nodes.specs.Items.{Item}
use Rattle.htmd_nodes.specs.NumberedTrees.{value_at}
use Rattle.htmd_text.specs.Joins.{joined_texts}
use Rattle.htmd_front_matter.specs.declared.values.Key.{Key}
use Rattle.htmd_front_matter.specs.Values.{name_of, value_in}
use Rattle.htmd_front_matter.specs.Lines.{keys, written}

abbrev pub member : Key → List ℕ → List ℕ
member key value = codes "\"" ++ name_of key ++ codes "\":" ++ written value

-- a member, if something is said
abbrev pub member_if : Key → Option (List ℕ) → List (List ℕ)
member_if key None = []
member_if key (Some value) = member key value ∷ []

-- the members of what the head of a page says of it
abbrev pub members : List Item → List (List ℕ)
members items = flat_map (λ key. member_if key (value_in key (value_at items 0))) keys

-- what the head of a page says of it, `{}` if it says nothing
abbrev pub front_object : List Item → List ℕ
front_object items = codes "{" ++ joined_texts (codes ",") (members items) ++ codes "}"
