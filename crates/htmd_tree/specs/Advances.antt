-- What a call of a reader left and answered, by the grammar's steps.
use Rattle.std.specs.Prelude.{◌≡◌, ℕ, ◌<◌, Bool, false, ◌&&◌, List, [], ◌∷◌, ◌++◌, length, true, ⊤, Result, Ok, Err}
use Rattle.htmd_values.specs.ValueTrees.{ValueTree, ValueForest, none, doctype, text, comment, element}
use Rattle.htmd_lexical.specs.CharacterClasses.{is_empty}
use Rattle.htmd_grammar.specs.Rules.{Rules, project}
use Rattle.htmd_grammar.specs.RawContent.{ends_text, holds_raw_text}
use Rattle.htmd_grammar.specs.HtmlDocuments.{above_body}
use Rattle.htmd_grammar.specs.ReaderSteps.{OpenElement, State, Step, step, Reaches, is_implied, ends_rows}
use Rattle.htmd_grammar.specs.ReaderSteps.{with_children, body, finished, is_too_deep}
use Rattle.htmd_grammar.specs.declared.fault.FaultKind.TheVariants.{TooDeep}
use Rattle.htmd_nodes.specs.Items.{Data, document_node, doctype_node, text_node, comment_node, element_node, new_item}
use Rattle.htmd_tree.specs.OpenItems.{stack_items, innermost_number}
use Rattle.htmd_tree.specs.OpenNodes.{Holds, WhateverIsOpen, innermost_name}
use Rattle.htmd_tree.specs.declared.reader.Reader.{Reader}
use Rattle.htmd_tree.specs.declared.reader.Stop.{Stop}
use Rattle.htmd_tree.specs.declared.reader.Stop.TheVariants.{Memory, Refused}

-- what a reader's call answers
abbrev pub Answer : Type 0
Answer = Result (Unit {0}) Stop

-- between two pieces
abbrev pub state_at : List OpenElement → List ℕ → State
state_at fs rest = record { stack = fs; run = []; rest = rest }

abbrev pub rules_of : Reader → Rules
rules_of reader = project reader.scripting

-- the reader is at this state, and reads as before
pub record IsAt (old new : Reader) (has_doctype : Bool) (st : State) : Type 0 where
  pub holds : Holds new has_doctype st.stack
  pub run : st.run ≡ []
  pub rest : new.rest.now ≡ st.rest
  pub scripting : new.scripting ≡ old.scripting

-- What a call left and answered is what the step says, unless memory was refused.
abbrev pub Follows : Reader → Reader → Bool → Answer → Step → Type 0
Follows old new has_doctype (Ok x) (Ok st) = IsAt old new has_doctype st
Follows old new has_doctype (Ok x) (Err kind) = ⊥
Follows old new has_doctype (Err Memory) taken = ⊤
Follows old new has_doctype (Err (Refused left kind)) (Ok st) = ⊥
Follows old new has_doctype (Err (Refused left kind)) (Err fault) = (kind ≡ fault) × (left ≡ length old.rest.now)

-- The same, whatever is open: the step is told from the open elements.
abbrev pub Steps : Reader → Reader → Answer → (List OpenElement → Step) → Type 0
Steps old new answer taken = WhateverIsOpen old (λ has_doctype fs. Follows old new has_doctype answer (taken fs))

-- Some steps lead from where these elements are open to what a call left, or to the fault that it answered.
abbrev pub Advances : Reader → Reader → Bool → List OpenElement → Answer → Type 0
Advances old new has_doctype fs (Ok x) =
    (st : State) × IsAt old new has_doctype st × Reaches (rules_of old) above_body (state_at fs old.rest.now) st
Advances old new has_doctype fs (Err Memory) = ⊤
Advances old new has_doctype fs (Err (Refused left kind)) =
    (st : State) × Reaches (rules_of old) above_body (state_at fs old.rest.now) st
    × (step (rules_of old) above_body st ≡ Err kind) × (is_empty st.rest ≡ false) × (left ≡ length st.rest)

-- Some steps lead from where these elements are open to the end of the document, or to the fault that was answered.
abbrev pub Ends : Reader → Reader → Bool → List OpenElement → Answer → Type 0
Ends old new has_doctype fs (Ok x) =
    (content : ValueForest) × (new.tree ≡ stack_items has_doctype (with_children body content ∷ []))
    × Reaches (rules_of old) above_body (state_at fs old.rest.now) (finished content)
Ends old new has_doctype fs (Err Memory) = ⊤
Ends old new has_doctype fs (Err (Refused left kind)) =
    (st : State) × Reaches (rules_of old) above_body (state_at fs old.rest.now) st
    × (step (rules_of old) above_body st ≡ Err kind) × (st.rest ≡ [] → 1 < length st.stack)
    × (left ≡ length st.rest)

-- a node without children
abbrev pub leaf : Data → ValueTree
leaf document_node = text []
leaf doctype_node = doctype
leaf (text_node s) = text s
leaf (comment_node s) = comment s
leaf (element_node name attributes) = element name attributes none

abbrev pub IsLeaf : Data → Type 0
IsLeaf document_node = ⊥
IsLeaf doctype_node = ⊥
IsLeaf (text_node s) = ⊤
IsLeaf (comment_node s) = ⊤
IsLeaf (element_node name attributes) = ⊤

-- A text with references stands where these elements are open.
pub record IsAtText (reader : Reader) (fs : List OpenElement) : Type 0 where
  pub more_text : is_empty reader.rest.now ≡ false
  pub no_markup : ends_text reader.scripting (innermost_name fs) reader.rest.now ≡ false
  pub no_raw_text : holds_raw_text reader.scripting (innermost_name fs) ≡ false
  pub no_end_of_rows : (is_implied fs && ends_rows reader.rest.now) ≡ false

-- A node with this number has been added to the innermost open element, which wasn't too deep.
pub record HasAdded (old new : Reader) (has_doctype : Bool) (fs : List OpenElement) (x : Data) (id : ℕ) : Type 0 where
  pub tree : new.tree ≡ old.tree ++ new_item old.tree (innermost_number has_doctype fs) x ∷ []
  pub number : id ≡ length old.tree
  pub shallow : is_too_deep (rules_of old) above_body fs ≡ false

-- memory was refused, or the innermost open element is too deep
abbrev pub StopsDeep : Reader → List OpenElement → Stop → Type 0
StopsDeep reader fs Memory = ⊤
StopsDeep reader fs (Refused left kind) =
    (kind ≡ TooDeep) × (left ≡ length reader.rest.now) × (is_too_deep (rules_of reader) above_body fs ≡ true)

-- No implied `tbody` that ends where the text that is left begins is open any more.
pub record HasImpliedClosed (old new : Reader) (has_doctype : Bool) (fs : List OpenElement) : Type 0 where
  pub opened : List OpenElement
  pub holds : Holds new has_doctype opened
  pub reaches : Reaches (rules_of old) above_body (state_at fs old.rest.now) (state_at opened old.rest.now)
  pub implied_is_closed : (is_implied opened && ends_rows old.rest.now) ≡ false
  pub scripting : new.scripting ≡ old.scripting

-- Some steps lead from where the first elements are open to where the reader is.
pub record HasRead (old new : Reader) (has_doctype : Bool) (fs : List OpenElement) : Type 0 where
  pub opened : List OpenElement
  pub holds : Holds new has_doctype opened
  pub reaches : Reaches (rules_of old) above_body (state_at fs old.rest.now) (state_at opened new.rest.now)
  pub scripting : new.scripting ≡ old.scripting
