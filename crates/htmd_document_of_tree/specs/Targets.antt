-- What links can lead to: ids of elements, and names of `a`.
use Rattle.std.specs.Prelude.{ℕ, ◌+◌, Bool, true, false, not, ◌||◌, ◌&&◌, if◌then◌else◌, List, [], ◌∷◌, ◌++◌, codes}
use Rattle.std.specs.Prelude.{filter, map, Option, Some, None}
use Rattle.std.specs.Option.{unwrap_or}
use Rattle.htmd_lexical.specs.AttributePairs.{AttributePair}
use Rattle.htmd_shown.specs.Attributes.{text_of, in_line, is_filled}
use Rattle.htmd_shown.specs.declared.role.Role.{Role}
use Rattle.htmd_shown.specs.Roles.{is_among, is_anchor, is_headed, is_link, is_verbatim}
use Rattle.htmd_shown.specs.SimpleTrees.{Simple, text, image, formula, embedded, anchor, element, Simples, none, more}
use Rattle.htmd_document_of_tree.specs.Seen.{seen}

-- a value, whether it is a name, and how much was to see before the place that it stands for
pub record Target : Type 0 where
  pub value : List ℕ
  pub is_name : Bool
  pub seen : ℕ

-- the value of an attribute, in one line, if it is filled and counts
abbrev pub target_by : (List ℕ → Bool) → ℕ → Bool → List ℕ → List Target
target_by counts n is_name s =
    if is_filled (in_line s) && counts (in_line s)
    then record { value = in_line s; is_name = is_name; seen = n } ∷ []
    else []

-- by the id
abbrev pub id_target : (List ℕ → Bool) → ℕ → List AttributePair → List Target
id_target counts n attributes = target_by counts n false (text_of (codes "id") attributes)

-- of an `a` also by the name
abbrev pub name_target : (List ℕ → Bool) → ℕ → Role → List AttributePair → List Target
name_target counts n role attributes =
    if is_anchor role then target_by counts n true (text_of (codes "name") attributes) else []

-- all in it stands for the place before it: a link, a heading or the like, or a code block
abbrev pub is_whole : Role → Bool
is_whole role = is_link role || is_headed role || is_verbatim role

-- what was to see before the place that targets in an element stand for
abbrev pub whole_in : Option ℕ → ℕ → Role → Option ℕ
whole_in whole n role = if is_whole role then Some (unwrap_or whole n) else whole

-- of a node itself
abbrev pub own_targets : (List ℕ → Bool) → ℕ → Simple → List Target
own_targets counts n (text s) = []
own_targets counts n (image address attributes) = id_target counts n attributes
own_targets counts n (formula tex is_alone attributes) = id_target counts n attributes
own_targets counts n (embedded id address title attributes anchors) = id_target counts n attributes
own_targets counts n (anchor id) = []
own_targets counts n (element id role facts attributes content) =
    id_target counts n attributes ++ name_target counts n role attributes

abbrev mutual
  -- of what is in a node; n: how much was to see before it, and before the whole that it is part of
  pub targets_inside : (List ℕ → Bool) → Option ℕ → ℕ → Simple → List Target
  targets_inside counts whole n (text s) = []
  targets_inside counts whole n (image address attributes) = []
  targets_inside counts whole n (formula tex is_alone attributes) = []
  targets_inside counts whole n (embedded id address title attributes anchors) = []
  targets_inside counts whole n (anchor id) = []
  targets_inside counts whole n (element id role facts attributes content) =
      targets_among counts (whole_in whole n role) n content

  pub targets_among : (List ℕ → Bool) → Option ℕ → ℕ → Simples → List Target
  targets_among counts whole n none = []
  targets_among counts whole n (more tree trees) =
      own_targets counts (unwrap_or whole n) tree ++ targets_inside counts whole n tree
      ++ targets_among counts whole (n + seen tree) trees

-- ---- the first of each value

abbrev pub ids_among : List Target → List (List ℕ)
ids_among found = map (λ (t : Target). t.value) (filter (λ (t : Target). not t.is_name) found)

-- an id that no element before has, or a name that is no id and that no element before has
abbrev pub is_first : List (List ℕ) → List (List ℕ) → Target → Bool
is_first ids known t = not (is_among known t.value) && not (t.is_name && is_among ids t.value)

abbrev pub firsts_after : List (List ℕ) → List (List ℕ) → List Target → List Target
firsts_after ids known [] = []
firsts_after ids known (t ∷ found) =
    if is_first ids known t then t ∷ firsts_after ids (t.value ∷ known) found else firsts_after ids known found

abbrev pub firsts : List Target → List Target
firsts found = firsts_after (ids_among found) [] found

-- the targets in nodes whose values count
abbrev pub all_targets : (List ℕ → Bool) → Simples → List Target
all_targets counts trees = firsts (targets_among counts None 0 trees)
