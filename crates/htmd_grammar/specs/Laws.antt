-- The laws of a reader's steps and of their faults.
use Rattle.std.specs.Prelude.{◌≡◌, ℕ, ◌+◌, ◌≤◌, ◌<◌, true, false, ◌&&◌, List, [], ◌∷◌, ◌++◌, length, Err}
use Rattle.htmd_lexical.specs.Characters.{null}
use Rattle.htmd_values.specs.ValueTrees.{ValueTree, ValueForest}
use Rattle.htmd_lexical.specs.CharacterClasses.{lacks}
use Rattle.htmd_grammar.specs.Rules.{Rules}
use Rattle.htmd_grammar.specs.Grammar.{reads}
use Rattle.htmd_grammar.specs.HtmlDocuments.{above_body, below_body, body_text, ReadsDocument}
use Rattle.htmd_grammar.specs.ReaderSteps.{OpenElement, State, Reaches, step, started, finished, ends_rows}
use Rattle.htmd_grammar.specs.Fronts.{IsViablePrefix, with_text}
use Rattle.htmd_grammar.specs.Faults.{IsFault}
use Rattle.htmd_grammar.specs.declared.fault.FaultKind.{FaultKind}

-- ---- the steps

-- the steps reach the end, with these trees read
abbrev pub ReachesEnd : Rules → List ℕ → ValueForest → Type 0
ReachesEnd rules s content = Reaches rules above_body (started s) (finished content)

-- complete: the steps reach the end of each text that denotes something
abbrev pub StepsReadAll : Rules → Type 0
StepsReadAll rules = (s : List ℕ) (content : ValueForest) → reads rules below_body (body_text s) content
    → ReachesEnd rules s content

-- sound: if the steps reach the end, the text denotes what they read
abbrev pub StepsReadRightly : Rules → Type 0
StepsReadRightly rules = (s : List ℕ) (content : ValueForest) → ReachesEnd rules s content
    → reads rules below_body (body_text s) content

-- if a step finds a fault before the end, the text denotes nothing
abbrev pub FaultsRefuse : Rules → Type 0
FaultsRefuse rules =
    (s : List ℕ) (st : State) (kind : FaultKind) → Reaches rules above_body (started s) st
    → step rules above_body st ≡ Err kind
    → ((content : ValueForest) → st ≡ finished content → ⊥)
    → (content : ValueForest) → reads rules below_body (body_text s) content → ⊥

-- what has been read is a viable prefix, even in the middle of a text, except where an implied `tbody` is about to end
abbrev pub PrefixesAreViable : Rules → Type 0
PrefixesAreViable rules =
    (s : List ℕ) (f : OpenElement) (fs : List OpenElement) (run rest : List ℕ)
    → Reaches rules above_body (started s) (record { stack = f ∷ fs; run = run; rest = rest })
    → (f.implied && ends_rows rest) ≡ false
    → (before : List ℕ) × (body_text s ≡ before ++ rest) × IsViablePrefix rules (with_text f run) fs before rest

-- ---- refusals

-- Where a step finds a fault, and the text goes on or an element is open, the fault's kind is right of the place
-- after which this much is left.
abbrev pub FaultsAreRight : Rules → Type 0
FaultsAreRight rules =
    (s : List ℕ) (st : State) (kind : FaultKind) (place : ℕ) → lacks null s ≡ true
    → Reaches rules above_body (started s) st → step rules above_body st ≡ Err kind
    → (st.rest ≡ [] → 1 < length st.stack) → place + length st.rest ≡ length s → IsFault rules s place kind

-- and the text denotes nothing
abbrev pub FaultsRefuseDocuments : Rules → Type 0
FaultsRefuseDocuments rules =
    (s : List ℕ) (st : State) (kind : FaultKind) → Reaches rules above_body (started s) st
    → step rules above_body st ≡ Err kind
    → (st.rest ≡ [] → 1 < length st.stack) → (t : ValueTree) → ReadsDocument rules s t → ⊥

-- what is left at a state is an end of the text
abbrev pub RestIsAnEnd : Rules → Type 0
RestIsAnEnd rules =
    (s : List ℕ) (st : State) → Reaches rules above_body (started s) st
    → (taken : List ℕ) × (s ≡ taken ++ st.rest)
