-- HTML as it is spelled: the trees that it is of, and with them what their tags look like. As in the examples of
-- CommonMark, quotation marks and greater-than signs are references everywhere, and the tags of void elements end in a
-- slash, but for GitHub's `input` and for breaks that are written as raw HTML.
use Rattle.std.specs.Prelude.{ℕ, suc, max, ◌||◌, if◌then◌else◌, List, [], ◌∷◌, ◌++◌, codes}
use Rattle.std.specs.Str.{bytes_eq}
use Rattle.std.specs.List.{flat_map}
use Rattle.htmd_lexical.specs.AttributePairs.{AttributePair}
use Rattle.htmd_lexical.specs.CharacterClasses.{is_among}
use Rattle.htmd_document.specs.Tags.{escaped_value, escaped_text}
use Rattle.htmd_values.specs.ValueTrees as value
use Rattle.htmd_values.specs.ValueTrees.{ValueTree, ValueForest}
use Rattle.htmd_values.specs.Serialisation.{is_void, end_tag}
use Rattle.htmd_commonmark_reading.specs.Rendering.{escaped, attribute}

-- how the tag of a void element ends: with a space and a slash, with a slash alone, or with neither
pub data TagForm : Type 0 where
  spaced : TagForm
  slashed : TagForm
  short : TagForm

mutual
  pub data Spelled : Type 0 where
    text : (s : List ℕ) → Spelled
    element : (form : TagForm) (name : List ℕ) (attributes : List AttributePair) (content : SpelledForest) → Spelled
    -- an element around nothing or a text, in one line as documents write it
    lone : (name : List ℕ) (attributes : List AttributePair) (s : List ℕ) → Spelled
    -- rows of a table, in a section that has no tags
    section : (rows : SpelledForest) → Spelled

  pub data SpelledForest : Type 0 where
    none : SpelledForest
    more : (tree : Spelled) (trees : SpelledForest) → SpelledForest

abbrev pub lone_text : List ℕ → ValueForest
lone_text [] = value.none
lone_text (b ∷ s) = value.more (value.text (b ∷ s)) value.none

abbrev mutual
  -- a tree without the forms of its tags
  pub value_tree : Spelled → ValueTree
  value_tree (text s) = value.text s
  value_tree (element form name attributes content) = value.element name attributes (value_forest content)
  value_tree (lone name attributes s) = value.element name attributes (lone_text s)
  value_tree (section rows) = value.element (codes "tbody") [] (value_forest rows)

  pub value_forest : SpelledForest → ValueForest
  value_forest none = value.none
  value_forest (more t ts) = value.more (value_tree t) (value_forest ts)

-- the attributes that tags of documents have
abbrev pub document_keys : List (List ℕ)
document_keys =
    codes "id" ∷ codes "open" ∷ codes "border" ∷ codes "colspan" ∷ codes "rowspan" ∷ codes "align" ∷ []

-- these, and the titles of abbreviations, are spelled as documents spell them
abbrev pub value_in : List ℕ → List ℕ → List ℕ → List ℕ
value_in name key v =
    if bytes_eq name (codes "abbr") || is_among document_keys key then escaped_value v else escaped v

abbrev pub attribute_in : List ℕ → AttributePair → List ℕ
attribute_in name a = attribute a.name (value_in name a.name a.value)

abbrev pub end_of_void : TagForm → List ℕ
end_of_void spaced = codes " />"
end_of_void slashed = codes "/>"
end_of_void short = codes ">"

abbrev pub tag_end : TagForm → List ℕ → List ℕ
tag_end form name = if is_void name then end_of_void form else codes ">"

abbrev pub tag : TagForm → List ℕ → List AttributePair → List ℕ
tag form name attributes =
    codes "<" ++ name ++ flat_map (attribute_in name) attributes ++ tag_end form name

abbrev mutual
  pub spelled : Spelled → List ℕ
  spelled (text s) = escaped s
  spelled (element form name attributes content) =
      if is_void name
      then tag form name attributes
      else tag form name attributes ++ all_spelled content ++ end_tag name
  spelled (lone name attributes s) = tag spaced name attributes ++ escaped_text s ++ end_tag name
  spelled (section rows) = all_spelled rows

  pub all_spelled : SpelledForest → List ℕ
  all_spelled none = []
  all_spelled (more t ts) = spelled t ++ all_spelled ts

abbrev mutual
  -- how many elements and texts can be in each other
  pub levels_of : Spelled → ℕ
  levels_of (text s) = 1
  levels_of (element form name attributes content) = suc (levels content)
  levels_of (lone name attributes s) = 2
  levels_of (section rows) = suc (levels rows)

  pub levels : SpelledForest → ℕ
  levels none = 0
  levels (more t ts) = max (levels_of t) (levels ts)
