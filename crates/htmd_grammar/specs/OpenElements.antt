-- The stack of open elements (HTML Standard, 13.2.4.2), what each holds so far, and the state between two steps.
use Rattle.std.specs.Prelude.{ℕ, Bool, true, false, ◌&&◌, ◌||◌, ◌==◌, if◌then◌else◌, List, []}
use Rattle.std.specs.Prelude.{◌∷◌, map, codes}
use Rattle.std.specs.Str.{bytes_eq}
use Rattle.std.specs.Char.{to_ascii_lowercase}
use Rattle.htmd_lexical.specs.Characters.{slash, less_than_sign}
use Rattle.htmd_lexical.specs.AttributePairs.{AttributePair}
use Rattle.htmd_values.specs.ValueTrees.{ValueTree, element, ValueForest, none, more}
use Rattle.htmd_lexical.specs.CharacterClasses.{leading_run, is_tag_name_byte}
use Rattle.htmd_grammar.specs.References.{Names, Piece, stands, wrong, piece_at}
use Rattle.htmd_grammar.specs.Nesting.{Context, is_table_part}
use Rattle.htmd_grammar.specs.Grammar.{tag_name_at}
use Rattle.htmd_grammar.specs.declared.fault.FaultKind.TheVariants.{UnknownReference}

infixl 10 ◌+++◌
abbrev pub ◌+++◌ : ValueForest → ValueForest → ValueForest
none +++ us = us
(more t ts) +++ us = more t (ts +++ us)

-- an open element, with what it holds so far
pub record OpenElement : Type 0 where
  pub name : List ℕ
  pub attributes : List AttributePair
  pub implied : Bool
  pub children : ValueForest

-- the open elements, innermost first; what the text at the end of the innermost one denotes so far; the text that is
-- left
pub record State : Type 0 where
  pub stack : List OpenElement
  pub run : List ℕ
  pub rest : List ℕ

-- the context of what comes next; the outermost open element has these ancestors
abbrev pub names_of : Context → List OpenElement → Context
names_of outer [] = outer
names_of outer (f ∷ fs) = f.name ∷ names_of outer fs

abbrev pub fresh : List ℕ → List AttributePair → Bool → OpenElement
fresh n attributes implied = record { name = n; attributes = attributes; implied = implied; children = none }

abbrev pub with_children : OpenElement → ValueForest → OpenElement
with_children f ts = record f { children = f.children +++ ts }

abbrev pub with_forest : List OpenElement → ValueForest → List OpenElement
with_forest [] ts = []
with_forest (f ∷ fs) ts = with_children f ts ∷ fs

abbrev pub with_tree : List OpenElement → ValueTree → List OpenElement
with_tree fs t = with_forest fs (more t none)

abbrev pub closed : OpenElement → ValueTree
closed f = element f.name f.attributes f.children

-- whether the innermost open element is a `tbody` that no tag opened
abbrev pub is_implied : List OpenElement → Bool
is_implied [] = false
is_implied (f ∷ fs) = f.implied

-- the name of the end tag with which the text begins, in lower case
abbrev pub end_tag_name_at : List ℕ → List ℕ
end_tag_name_at [] = []
end_tag_name_at (b ∷ []) = []
end_tag_name_at (b ∷ c ∷ s) =
    if b == less_than_sign && c == slash then map to_ascii_lowercase (leading_run is_tag_name_byte s) else []

-- an implied `tbody` ends before a part of the table, and at the table's end
abbrev pub ends_rows : List ℕ → Bool
ends_rows s = is_table_part (tag_name_at s) || bytes_eq (end_tag_name_at s) (codes "table")

-- somewhere in the value is a reference by an unknown name
abbrev pub is_unknown : Piece → Bool
is_unknown (stands n v) = false
is_unknown (wrong UnknownReference) = true
is_unknown (wrong _) = false

abbrev pub has_unknown_reference : Names → List ℕ → Bool
has_unknown_reference names [] = false
has_unknown_reference names (b ∷ s) = is_unknown (piece_at names b s) || has_unknown_reference names s
