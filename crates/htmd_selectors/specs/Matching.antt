-- Which elements selectors name.
use Rattle.std.specs.Prelude.{ℕ, ◌+◌, ◌-◌, Bool, true, false, not, ◌&&◌, ◌||◌, ◌==◌, nat_le, if◌then◌else◌}
use Rattle.std.specs.Prelude.{List, [], ◌∷◌, length, take, drop, map, codes}
use Rattle.std.specs.Char.{to_ascii_lowercase}
use Rattle.std.specs.List.{list_any, slice_split}
use Rattle.std.specs.Str.{bytes_eq}
use Rattle.htmd_lexical.specs.AttributePairs.{AttributePair}
use Rattle.htmd_lexical.specs.CharacterClasses as text
use Rattle.htmd_lexical.specs.Characters.{hyphen}
use Rattle.htmd_lexical.specs.WhiteSpace.{is_ascii_white_space}
use Rattle.htmd_selectors.specs.declared.matching.Counts.{Counts}
use Rattle.htmd_selectors.specs.declared.selectors.Comparison.{Comparison}
use Rattle.htmd_selectors.specs.declared.selectors.Peers.{Peers}
use Rattle.htmd_selectors.specs.declared.selectors.Peers.TheVariants as peers
use Rattle.htmd_selectors.specs.declared.selectors.Row.{Row}
use Rattle.htmd_selectors.specs.declared.selectors.Side.{Side}
use Rattle.htmd_selectors.specs.declared.selectors.Side.TheVariants as side
use Rattle.htmd_selectors.specs.declared.selectors.Operator.{Operator}
use Rattle.htmd_selectors.specs.declared.selectors.Operator.TheVariants as operator
use Rattle.htmd_selectors.specs.declared.selectors.Relation.{Relation}
use Rattle.htmd_selectors.specs.declared.selectors.Relation.TheVariants as relation
use Rattle.htmd_selectors.specs.SelectorSteps.{Condition, is_any, is_type, has_class, has_id, has_attribute}
use Rattle.htmd_selectors.specs.SelectorSteps.{has_value, is_first, is_last, is_only, is_empty, is_root, is_nth}
use Rattle.htmd_selectors.specs.SelectorSteps.{Test, asks, among, Step}
use Rattle.htmd_selectors.specs.Series.{has}

-- where an element is: how many elements of its parent are before it and after it, and how many of these have its
-- name; whether it holds neither an element nor a text, and whether no element is around it
pub record Place : Type 0 where
  pub among_all : Counts
  pub of_type : Counts
  pub holds_nothing : Bool
  pub has_no_parent : Bool

-- an element, as a selector sees it
pub record Element : Type 0 where
  pub name : List ℕ
  pub attributes : List AttributePair
  pub place : Place

-- an element around others, and the elements of its parent before it, nearest first
pub record Level : Type 0 where
  pub here : Element
  pub earlier : List Element

-- names of elements and attributes are the same with ASCII letters in either case (HTML, 4.16.2)
abbrev pub same_name : List ℕ → List ℕ → Bool
same_name a b = bytes_eq (map to_ascii_lowercase a) (map to_ascii_lowercase b)

-- an attribute with this name has a value that passes
abbrev pub has_such : List ℕ → (List ℕ → Bool) → List AttributePair → Bool
has_such name test attributes = list_any (λ a. same_name a.name name && test a.value) attributes

-- ---- values

-- the same, or the same with ASCII letters in either case
abbrev pub same_value : Bool → List ℕ → List ℕ → Bool
same_value caseless a b = if caseless then same_name a b else bytes_eq a b

-- the text begins with this one
abbrev pub begins_with : Bool → List ℕ → List ℕ → Bool
begins_with caseless wanted s =
    nat_le (length wanted) (length s) && same_value caseless (take (length wanted) s) wanted

-- it ends with it
abbrev pub ends_with : Bool → List ℕ → List ℕ → Bool
ends_with caseless wanted s =
    nat_le (length wanted) (length s) && same_value caseless (drop (length s - length wanted) s) wanted

-- it has it somewhere; no text is in an empty one
abbrev pub contains : Bool → List ℕ → List ℕ → Bool
contains caseless wanted [] = false
contains caseless wanted (b ∷ s) = begins_with caseless wanted (b ∷ s) || contains caseless wanted s

-- one of the words between ASCII white space (HTML, 3.2.6)
abbrev pub has_word : Bool → List ℕ → List ℕ → Bool
has_word caseless word s =
    list_any (λ part. same_value caseless part word) (slice_split is_ascii_white_space s)

-- the text ends, or goes on with a hyphen
abbrev pub ends_or_hyphen : List ℕ → Bool
ends_or_hyphen [] = true
ends_or_hyphen (b ∷ s) = b == hyphen

-- a value is to the wanted one what the operator says; an empty one is no word and no part (Selectors Level 4, 6.1
-- and 6.2)
abbrev pub compares : Operator → Bool → List ℕ → List ℕ → Bool
compares operator.Equals caseless wanted s = same_value caseless s wanted
compares operator.Includes caseless wanted s = not (text.is_empty wanted) && has_word caseless wanted s
compares operator.Dash caseless wanted s =
    begins_with caseless wanted s && ends_or_hyphen (drop (length wanted) s)
compares operator.Prefix caseless wanted s = not (text.is_empty wanted) && begins_with caseless wanted s
compares operator.Suffix caseless wanted s = not (text.is_empty wanted) && ends_with caseless wanted s
compares operator.Substring caseless wanted s = not (text.is_empty wanted) && contains caseless wanted s

abbrev pub is_such : Comparison → List ℕ → List ℕ → Bool
is_such comparison wanted s = compares comparison.operator comparison.caseless wanted s

-- the case counts
abbrev pub exactly : Operator → Comparison
exactly operator = record { operator = operator; caseless = false }

-- ---- elements

-- among all elements of the parent, or those with the same name
abbrev pub counts_among : Peers → Place → Counts
counts_among peers.All place = place.among_all
counts_among peers.SameName place = place.of_type

-- how many elements are before a place, counted from this side
abbrev pub count_from : Side → Counts → ℕ
count_from side.First counts = counts.before
count_from side.Last counts = counts.after

abbrev pub count_in : Row → Place → ℕ
count_in row place = count_from row.side (counts_among row.peers place)

abbrev pub is_first_among : Peers → Place → Bool
is_first_among peers place = (counts_among peers place).before == 0

abbrev pub is_last_among : Peers → Place → Bool
is_last_among peers place = (counts_among peers place).after == 0

-- an element meets a condition (Selectors Level 4, 5, 6 and 14)
abbrev pub meets : Element → Condition → Bool
meets e is_any = true
meets e (is_type name) = same_name e.name name
meets e (has_class class) = has_such (codes "class") (is_such (exactly operator.Includes) class) e.attributes
meets e (has_id id) = has_such (codes "id") (is_such (exactly operator.Equals) id) e.attributes
meets e (has_attribute name) = has_such name (λ value. true) e.attributes
meets e (has_value name comparison wanted) = has_such name (is_such comparison wanted) e.attributes
meets e (is_first peers) = is_first_among peers e.place
meets e (is_last peers) = is_last_among peers e.place
meets e (is_only peers) = is_first_among peers e.place && is_last_among peers e.place
meets e is_empty = e.place.holds_nothing
meets e is_root = e.place.has_no_parent
meets e (is_nth row series) = has series (count_in row e.place + 1)

-- an element meets all conditions of a compound
abbrev pub meets_all : Element → List Condition → Bool
meets_all e [] = true
meets_all e (condition ∷ conditions) = meets e condition && meets_all e conditions

-- it meets all of one of the compounds
abbrev pub meets_any : Element → List (List Condition) → Bool
meets_any e [] = false
meets_any e (compound ∷ compounds) = meets_all e compound || meets_any e compounds

-- it passes what a step asks
abbrev pub passes : Element → Test → Bool
passes e (asks condition) = meets e condition
passes e (among negated compounds) = if negated then not (meets_any e compounds) else meets_any e compounds

-- what is asked of an element, the elements of its parent before it, nearest first, and those around it, innermost
-- first
abbrev pub Asked : Type 0
Asked = Element → List Element → List Level → Bool

-- the innermost of these elements passes
abbrev pub parent_passes : Asked → List Level → Bool
parent_passes test [] = false
parent_passes test (level ∷ around) = test level.here level.earlier around

-- one of these elements passes
abbrev pub some_passes : Asked → List Level → Bool
some_passes test [] = false
some_passes test (level ∷ around) = test level.here level.earlier around || some_passes test around

-- the nearest of these elements of one parent passes
abbrev pub nearest_passes : Asked → List Element → List Level → Bool
nearest_passes test [] around = false
nearest_passes test (e ∷ earlier) around = test e earlier around

-- one of these elements of one parent passes
abbrev pub earlier_passes : Asked → List Element → List Level → Bool
earlier_passes test [] around = false
earlier_passes test (e ∷ earlier) around = test e earlier around || earlier_passes test earlier around

-- the steps before one, by its relation to them, name what it needs (Selectors Level 4, 15)
abbrev pub is_reached : Relation → Asked → Asked
is_reached relation.Start test e earlier around = true
is_reached relation.Same test e earlier around = test e earlier around
is_reached relation.Child test e earlier around = parent_passes test around
is_reached relation.Below test e earlier around = some_passes test around
is_reached relation.Next test e earlier around = nearest_passes test earlier around
is_reached relation.After test e earlier around = earlier_passes test earlier around

-- the last step names an element, and the steps before it what it needs; last step first
abbrev pub matches : List Step → Asked
matches [] e earlier around = false
matches (step ∷ before) e earlier around =
    is_reached step.relation (matches before) e earlier around && passes e step.test

-- another selector begins
abbrev pub starts : Relation → Bool
starts relation.Start = true
starts relation.Same = false
starts relation.Child = false
starts relation.Below = false
starts relation.Next = false
starts relation.After = false

-- one of the selectors names an element, `before` or one of those that follow it
abbrev pub is_named_after : List Step → List Step → Asked
is_named_after before [] e earlier around = matches before e earlier around
is_named_after before (step ∷ steps) e earlier around =
    (starts step.relation && matches before e earlier around)
    || is_named_after (step ∷ before) steps e earlier around

-- one of the selectors names an element
abbrev pub is_named : List Step → Asked
is_named steps e earlier around = is_named_after [] steps e earlier around
