-- Parts of a page: the outermost elements that are named, and the page without all elements that are.
use Rattle.std.specs.Prelude.{ℕ, ◌+◌, Bool, true, false, ◌&&◌, if◌then◌else◌, List, [], ◌∷◌, length, map}
use Rattle.std.specs.Prelude.{Option, Some, None, codes}
use Rattle.std.specs.Str.{bytes_eq}
use Rattle.htmd_lexical.specs.AttributePairs.{AttributePair}
use Rattle.htmd_lexical.specs.CharacterClasses as characters
use Rattle.htmd_values.specs.ValueTrees.{ValueTree, document, doctype, text, comment, element, ValueForest, none, more}
use Rattle.htmd_nodes.specs.Items.{Item}
use Rattle.htmd_nodes.specs.Layout.{document_items}
use Rattle.htmd_nodes.specs.NumberedTrees.{value_at}
use Rattle.htmd_selectors.specs.SelectorSteps.{Step}
use Rattle.htmd_selectors.specs.Matching.{Element, Level, is_named}
use Rattle.htmd_selectors.specs.Rewriting.{unchanged, joined, rewritten, children_of_document}
use Rattle.htmd_selectors.specs.Types.{counts_between}

-- how many elements a tree is: one or none
abbrev pub count : ValueTree → ℕ
count (document children) = 0
count doctype = 0
count (text s) = 0
count (comment s) = 0
count (element name attributes children) = 1

-- how many of these trees are elements
abbrev pub elements_in : ValueForest → ℕ
elements_in none = 0
elements_in (more tree trees) = count tree + elements_in trees

-- these names after that of a tree that is an element
abbrev pub with_name : ValueTree → List (List ℕ) → List (List ℕ)
with_name (document children) names = names
with_name doctype names = names
with_name (text s) names = names
with_name (comment s) names = names
with_name (element name attributes children) names = name ∷ names

-- the names of those of these trees that are elements
abbrev pub element_names : ValueForest → List (List ℕ)
element_names none = []
element_names (more tree trees) = with_name tree (element_names trees)

-- a tree is neither an element nor a text, unless that is empty; white space is a text (Selectors Level 3,
-- 6.6.5.12)
abbrev pub is_nothing : ValueTree → Bool
is_nothing (document children) = true
is_nothing doctype = true
is_nothing (text s) = characters.is_empty s
is_nothing (comment s) = true
is_nothing (element name attributes children) = false

abbrev pub are_nothing : ValueForest → Bool
are_nothing none = true
are_nothing (more tree trees) = is_nothing tree && are_nothing trees

abbrev pub is_outside : List Level → Bool
is_outside [] = true
is_outside (level ∷ around) = false

-- an element, with the elements of its parent before it, nearest first, and the trees after it
abbrev pub this_element : List Level → List Element → ValueForest → List ℕ → List AttributePair
    → ValueForest
    → Element
this_element around earlier later name attributes children = record {
  name = name;
  attributes = attributes;
  place = record {
    among_all = record { before = length earlier; after = elements_in later };
    of_type = counts_between (map (λ e. e.name) earlier) name (element_names later);
    holds_nothing = are_nothing children;
    has_no_parent = is_outside around;
  };
}

-- a tree that is an element is named
abbrev pub names : List Step → List Level → List Element → ValueForest → ValueTree → Bool
names steps around earlier later (document children) = false
names steps around earlier later doctype = false
names steps around earlier later (text s) = false
names steps around earlier later (comment s) = false
names steps around earlier later (element name attributes children) =
    is_named steps (this_element around earlier later name attributes children) earlier around

-- the elements before the next tree
abbrev pub passed : List Level → List Element → ValueForest → ValueTree → List Element
passed around earlier later (document children) = earlier
passed around earlier later doctype = earlier
passed around earlier later (text s) = earlier
passed around earlier later (comment s) = earlier
passed around earlier later (element name attributes children) =
    this_element around earlier later name attributes children ∷ earlier

-- the elements around what is in an element
abbrev pub inside : List Level → List Element → ValueForest → List ℕ → List AttributePair → ValueForest
    → List Level
inside around earlier later name attributes children =
    (record { here = this_element around earlier later name attributes children; earlier = earlier }) ∷ around

abbrev mutual
  -- without the elements that are named, and what is below them
  pub without : List Step → List Level → List Element → ValueForest → ValueForest
  without steps around earlier none = none
  without steps around earlier (more tree trees) =
      if names steps around earlier trees tree
      then without steps around (passed around earlier trees tree) trees
      else more (without_below steps around earlier trees tree)
      (without steps around (passed around earlier trees tree) trees)

  pub without_below : List Step → List Level → List Element → ValueForest → ValueTree → ValueTree
  without_below steps around earlier later (document children) = document (without steps around [] children)
  without_below steps around earlier later doctype = doctype
  without_below steps around earlier later (text s) = text s
  without_below steps around earlier later (comment s) = comment s
  without_below steps around earlier later (element name attributes children) =
      element name attributes (without steps (inside around earlier later name attributes children) [] children)

-- ---- a match, as it stands in the new page

-- the attributes of the nearest `pre`, after an element more
abbrev pub pre_below : List ℕ → List AttributePair → Option (List AttributePair) → Option (List AttributePair)
pre_below name attributes pre = if bytes_eq name (codes "pre") then Some attributes else pre

-- the attributes of the nearest `pre` of these elements, nearest first
abbrev pub pre_around : List Level → Option (List AttributePair)
pre_around [] = None
pre_around (level ∷ around) = pre_below level.here.name level.here.attributes (pre_around around)

-- what is in a `pre` comes with it, so that its lines stay
abbrev pub in_pre : Option (List AttributePair) → ValueForest → ValueForest
in_pre None trees = trees
in_pre (Some attributes) trees = more (element (codes "pre") attributes trees) none

-- an empty paragraph keeps what follows apart; but items one after the other are a list
abbrev pub end_of : List ℕ → ValueForest
end_of name = if bytes_eq name (codes "li") then none else more (element (codes "p") [] none) none

-- an element that is named, where this `pre` is around it
abbrev pub match_of : Option (List AttributePair) → ValueTree → ValueForest
match_of pre (document children) = none
match_of pre doctype = none
match_of pre (text s) = none
match_of pre (comment s) = none
match_of pre (element name attributes children) =
    joined (in_pre pre (more (element name attributes children) none)) (end_of name)

abbrev mutual
  -- the elements that are named and not below one that is, in document order
  pub outermost : List Step → List Level → List Element → ValueForest → ValueForest
  outermost steps around earlier none = none
  outermost steps around earlier (more tree trees) =
      if names steps around earlier trees tree
      then joined (match_of (pre_around around) tree) (outermost steps around (passed around earlier trees tree) trees)
      else joined (outermost_below steps around earlier trees tree)
      (outermost steps around (passed around earlier trees tree) trees)

  pub outermost_below : List Step → List Level → List Element → ValueForest → ValueTree → ValueForest
  outermost_below steps around earlier later (document children) = none
  outermost_below steps around earlier later doctype = none
  outermost_below steps around earlier later (text s) = none
  outermost_below steps around earlier later (comment s) = none
  outermost_below steps around earlier later (element name attributes children) =
      outermost steps (inside around earlier later name attributes children) [] children

-- no Document is below another one: one that is isn't copied
abbrev pub one_document : ValueForest → ValueForest
one_document trees = rewritten unchanged trees

-- the page without the elements that are named
abbrev pub dropped : List Step → List Item → List Item
dropped steps items = document_items (one_document (without steps [] [] (children_of_document (value_at items 0))))

-- a page of these trees, unless there are none
abbrev pub page_of : ValueForest → Option (List Item)
page_of none = None
page_of (more tree trees) = Some (document_items (more tree trees))

-- the outermost elements that are named, as a page
abbrev pub selected : List Step → List Item → Option (List Item)
selected steps items = page_of (one_document (outermost steps [] [] (children_of_document (value_at items 0))))
