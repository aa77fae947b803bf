-- The title of a page, as a text of one line.
use Rattle.std.specs.Prelude.{ℕ, if◌then◌else◌, List, Option, Some, None}
use Rattle.htmd_lexical.specs.CharacterClasses.{is_empty}
use Rattle.htmd_nodes.specs.Items.{Item}
use Rattle.htmd_nodes.specs.NumberedTrees.{value_at}
use Rattle.htmd_front_matter.specs.declared.values.Key.TheVariants.{Title}
use Rattle.htmd_front_matter.specs.Values.{value_in}
use Rattle.htmd_front_matter.specs.Lines.{tidied}

-- a text, unless it is empty
abbrev pub filled : List ℕ → Option (List ℕ)
filled s = if is_empty s then None else Some s

abbrev pub in_one_line : Option (List ℕ) → Option (List ℕ)
in_one_line None = None
in_one_line (Some value) = filled (tidied value)

-- what the page says is its title, in one line, unless that is blank
abbrev pub title_of : List Item → Option (List ℕ)
title_of items = in_one_line (value_in Title (value_at items 0))
