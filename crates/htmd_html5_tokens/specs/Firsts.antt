-- Which attributes are the first of their name.
use Rattle.std.specs.Prelude.{ℕ, Bool, true, false, not, List, [], ◌∷◌, ◌++◌, Option, Some, None}
use Rattle.htmd_lexical.specs.AttributePairs.{AttributePair}
use Rattle.htmd_lexical.specs.CharacterClasses.{is_among}

-- for each attribute, whether its name is none of these names, nor that of an attribute before it
abbrev pub are_first : List (List ℕ) → List AttributePair → List Bool
are_first before [] = []
are_first before (a ∷ attributes) = not (is_among before a.name) ∷ are_first (a.name ∷ before) attributes

-- the first mark, and the others
abbrev pub split_mark : List Bool → Option (Bool × List Bool)
split_mark [] = None
split_mark (mark ∷ marks) = Some (mark, marks)

abbrev pub if_marked : Bool → AttributePair → List AttributePair
if_marked true a = a ∷ []
if_marked false a = []

abbrev pub those_marked : List AttributePair → List Bool → List AttributePair
those_marked [] marks = []
those_marked (a ∷ attributes) [] = []
those_marked (a ∷ attributes) (mark ∷ marks) = if_marked mark a ++ those_marked attributes marks
