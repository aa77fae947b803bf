-- The laws of the grammar that no reader calls.
use Rattle.std.specs.Prelude.{◌≡◌, ℕ, ◌≤◌, List, ◌∷◌, Some}
use Rattle.htmd_values.specs.ValueTrees.{ValueTree, ValueForest}
use Rattle.htmd_grammar.specs.Rules.{Rules, character_named}
use Rattle.htmd_grammar.specs.Nesting.{Context}
use Rattle.htmd_grammar.specs.Grammar.{reads}
use Rattle.htmd_grammar.specs.HtmlDocuments.{ReadsDocument}
use Rattle.htmd_grammar.specs.Faults.{IsFault}
use Rattle.htmd_grammar.specs.declared.fault.FaultKind.{FaultKind}

-- In a context that isn't empty a text denotes at most one list of trees.
abbrev pub AtMostOneForest : Rules → Type 0
AtMostOneForest rules =
    (p : List ℕ) (c : Context) (s : List ℕ) (ts us : ValueForest)
    → reads rules (p ∷ c) s ts → reads rules (p ∷ c) s us → ts ≡ us

-- A text denotes at most one document.
abbrev pub AtMostOneDocument : Rules → Type 0
AtMostOneDocument rules = (s : List ℕ) (t u : ValueTree) → ReadsDocument rules s t → ReadsDocument rules s u
    → t ≡ u

-- ---- more names and a greater depth

-- fewer names, which stand for the same, and a smaller depth
pub record AreFewer (less more : Rules) : Type 0 where
  pub names : (n : List ℕ) (c : ℕ) → character_named less.names n ≡ Some c
      → character_named more.names n ≡ Some c
  pub depth : less.depth ≤ more.depth
  pub scripting : less.scripting ≡ more.scripting

-- what a text denotes under fewer names and a smaller depth it denotes under more
abbrev pub MoreRulesReadMore : Type 0
MoreRulesReadMore =
    (less more : Rules) → AreFewer less more
    → (c : Context) (s : List ℕ) (ts : ValueForest) → reads less c s ts → reads more c s ts

abbrev pub MoreRulesReadMoreDocuments : Type 0
MoreRulesReadMoreDocuments =
    (less more : Rules) → AreFewer less more
    → (s : List ℕ) (t : ValueTree) → ReadsDocument less s t → ReadsDocument more s t

-- ---- refusals

-- A text has at most one right place and kind of a refusal.
abbrev pub FaultsAreOne : Rules → Type 0
FaultsAreOne rules =
    (s : List ℕ) (place other : ℕ) (kind another : FaultKind) → IsFault rules s place kind
    → IsFault rules s other another → (place ≡ other) × (kind ≡ another)
