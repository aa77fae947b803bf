-- What the head of a page says of it: of each source, the first element in document order that says it.
use Rattle.std.specs.Prelude.{ℕ, Bool, false, if◌then◌else◌, List, [], ◌∷◌, map, Option, Some, None, codes}
use Rattle.std.specs.Char.{to_ascii_lowercase}
use Rattle.std.specs.Option.{option_or}
use Rattle.std.specs.Str.{bytes_eq}
use Rattle.htmd_lexical.specs.AttributePairs.{AttributePair}
use Rattle.htmd_values.specs.ValueTrees.{ValueTree, document, doctype, text, comment, element}
use Rattle.htmd_values.specs.ValueTrees.{ValueForest, none, more}
use Rattle.htmd_nodes.specs.AttributeValues.{value_of}
use Rattle.htmd_front_matter.specs.declared.values.Key.{Key}
use Rattle.htmd_front_matter.specs.declared.values.Key.TheVariants.{Title, Lang, Description, Author, Date, Canonical}
use Rattle.htmd_front_matter.specs.declared.values.Key.TheVariants.{Keywords}
use Rattle.htmd_front_matter.specs.Sources.{Source, title_text, language, canonical_link, meta, sources}

-- the key as it is written
abbrev pub name_of : Key → List ℕ
name_of Title = codes "title"
name_of Lang = codes "lang"
name_of Description = codes "description"
name_of Author = codes "author"
name_of Date = codes "date"
name_of Canonical = codes "canonical"
name_of Keywords = codes "keywords"

-- ASCII letters in either case
abbrev pub is_same : List ℕ → List ℕ → Bool
is_same a b = bytes_eq (map to_ascii_lowercase a) (map to_ascii_lowercase b)

abbrev pub when : Bool → Option (List ℕ) → Option (List ℕ)
when b value = if b then value else None

-- the value of an attribute, where another one is `wanted`
abbrev pub if_same : List ℕ → Option (List ℕ) → Option (List ℕ) → Option (List ℕ)
if_same wanted None value = None
if_same wanted (Some given) value = when (is_same given wanted) value

abbrev pub value_if : List ℕ → List ℕ → List ℕ → List AttributePair → Option (List ℕ)
value_if given wanted name attributes = if_same wanted (value_of given attributes) (value_of name attributes)

abbrev pub attribute_value : Source → List ℕ → List AttributePair → Option (List ℕ)
attribute_value title_text name attributes = None
attribute_value language name attributes = when (bytes_eq name (codes "html")) (value_of (codes "lang") attributes)
attribute_value canonical_link name attributes = when (bytes_eq name (codes "link"))
    (value_if (codes "rel") (codes "canonical") (codes "href") attributes)
attribute_value (meta attribute word) name attributes = when (bytes_eq name (codes "meta"))
    (value_if attribute word (codes "content") attributes)

abbrev pub text_of : ValueTree → Option (List ℕ)
text_of (document children) = None
text_of doctype = None
text_of (text s) = Some s
text_of (comment s) = None
text_of (element name attributes children) = None

abbrev pub first_text : ValueForest → Option (List ℕ)
first_text none = None
first_text (more tree trees) = text_of tree

-- what an element says: a `title` by its text, another by its attributes
abbrev pub own_value : Source → List ℕ → List AttributePair → ValueForest → Option (List ℕ)
own_value title_text name attributes children = when (bytes_eq name (codes "title")) (first_text children)
own_value language name attributes children = attribute_value language name attributes
own_value canonical_link name attributes children = attribute_value canonical_link name attributes
own_value (meta attribute word) name attributes children = attribute_value (meta attribute word) name attributes

-- what an element has in it says nothing: in an `svg` a `title` is that of a picture
abbrev pub is_passed : Source → List ℕ → Bool
is_passed title_text name = bytes_eq name (codes "svg")
is_passed language name = false
is_passed canonical_link name = false
is_passed (meta attribute word) name = false

abbrev mutual
  -- what the first element says that says it, in document order
  pub first_found : Source → ValueForest → Option (List ℕ)
  first_found source none = None
  first_found source (more tree trees) = option_or (found_in source tree) (first_found source trees)

  pub found_in : Source → ValueTree → Option (List ℕ)
  found_in source (document children) = first_found source children
  found_in source doctype = None
  found_in source (text s) = None
  found_in source (comment s) = None
  found_in source (element name attributes children) =
      if is_passed source name then None
      else option_or (own_value source name attributes children) (first_found source children)

-- what the first source says that says something
abbrev pub first_said : List Source → ValueTree → Option (List ℕ)
first_said [] page = None
first_said (source ∷ sources) page = option_or (found_in source page) (first_said sources page)

-- what a page says under a key
abbrev pub value_in : Key → ValueTree → Option (List ℕ)
value_in key page = first_said (sources key) page
