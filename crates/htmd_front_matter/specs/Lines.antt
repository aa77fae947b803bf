-- The front matter of a page: lines of YAML, whose values are JSON strings.
use Rattle.std.specs.Prelude.{ℕ, List, [], ◌∷◌, ◌++◌, flat_map, Option, Some, None, codes}
use Rattle.json.specs.Print.{quoted}
use Rattle.htmd_lexical.specs.Characters.{line_feed}
use Rattle.htmd_lexical.specs.WhiteSpace.{is_document_white_space}
use Rattle.htmd_nodes.specs.Items.{Item}
use Rattle.htmd_nodes.specs.NumberedTrees.{value_at}
use Rattle.htmd_text.specs.SqueezedTexts.{squeezed_text}
use Rattle.htmd_text.specs.Trims.{trimmed_text}
use Rattle.htmd_front_matter.specs.declared.values.Key.{Key}
use Rattle.htmd_front_matter.specs.declared.values.Key.TheVariants.{Title, Lang, Description, Author, Date, Canonical}
use Rattle.htmd_front_matter.specs.declared.values.Key.TheVariants.{Keywords}
use Rattle.htmd_front_matter.specs.Values.{name_of, value_in}

-- the value with single spaces, and none at its ends
abbrev pub tidied : List ℕ → List ℕ
tidied s = trimmed_text is_document_white_space (squeezed_text s)

-- a value as it is written: as a JSON string
abbrev pub written : List ℕ → List ℕ
written value = quoted (tidied value)

abbrev pub line : Key → List ℕ → List ℕ
line key value = name_of key ++ codes ": " ++ written value ++ line_feed ∷ []

-- a line, if something is said
abbrev pub line_if : Key → Option (List ℕ) → List ℕ
line_if key None = []
line_if key (Some value) = line key value

abbrev pub keys : List Key
keys = Title ∷ Lang ∷ Description ∷ Author ∷ Date ∷ Canonical ∷ Keywords ∷ []

-- what the head of a page says of it
abbrev pub front_matter : List Item → List ℕ
front_matter items = flat_map (λ key. line_if key (value_in key (value_at items 0))) keys
