-- The tree that a reader builds and the open elements that it keeps, as those of the grammar's steps.
use Rattle.std.specs.Prelude.{◌≡◌, ℕ, suc, Bool, true, false, List, [], ◌∷◌, ◌++◌, length, codes}
use Rattle.htmd_grammar.specs.Nesting.{parent_name, is_tbody, is_table}
use Rattle.htmd_grammar.specs.HtmlDocuments.{above_body}
use Rattle.htmd_grammar.specs.ReaderSteps.{OpenElement, names_of}
use Rattle.htmd_tree.specs.OpenItems.{stack_items}
use Rattle.htmd_tree.specs.Surroundings.{surroundings_of}
use Rattle.htmd_tree.specs.declared.reader.OpenNode.{OpenNode}
use Rattle.htmd_tree.specs.declared.reader.Reader.{Reader}

-- what is kept of the innermost open element
abbrev pub open_node : Bool → Bool → OpenElement → List OpenElement → OpenNode
open_node scripting has_doctype f fs =
    record {
      id = length (stack_items has_doctype fs);
      implied = f.implied;
      surroundings = surroundings_of scripting (names_of above_body (f ∷ fs));
    }

-- what is kept of the open elements, outermost first
abbrev pub open_nodes : Bool → Bool → List OpenElement → List OpenNode
open_nodes scripting has_doctype [] = []
open_nodes scripting has_doctype (f ∷ fs) =
    open_nodes scripting has_doctype fs ++ open_node scripting has_doctype f fs ∷ []

-- the name of the innermost open element
abbrev pub innermost_name : List OpenElement → List ℕ
innermost_name fs = parent_name (names_of above_body fs)

-- the outermost open element is `body`, and an implied one is a `tbody` right in a `table`
abbrev pub AreOpen : List OpenElement → Type 0
AreOpen [] = ⊥
AreOpen (f ∷ []) = (f.name ≡ codes "body") × (f.attributes ≡ []) × (f.implied ≡ false)
AreOpen (f ∷ g ∷ fs) =
    (f.implied ≡ true → (is_tbody f.name ≡ true) × (is_table g.name ≡ true)) × AreOpen (g ∷ fs)

-- an element may open there: an implied one is a `tbody` right in a `table`
abbrev pub MayOpen : List ℕ → Bool → List OpenElement → Type 0
MayOpen n implied fs = implied ≡ true → (is_tbody n ≡ true) × (is_table (innermost_name fs) ≡ true)

-- The reader is where these elements are open; the flag says whether the document has a Doctype.
pub record Holds (reader : Reader) (has_doctype : Bool) (fs : List OpenElement) : Type 0 where
  pub tree_is : reader.tree ≡ stack_items has_doctype fs
  pub stack_is : reader.stack.items ≡ open_nodes reader.scripting has_doctype fs
  pub are_open : AreOpen fs

-- it holds for all elements and flags that fit where the reader is
abbrev pub WhateverIsOpen : Reader → (Bool → List OpenElement → Type 0) → Type 0
WhateverIsOpen reader P =
    (has_doctype : Bool) (fs : List OpenElement) → Holds reader has_doctype fs → P has_doctype fs

-- the reader is where some elements are open
abbrev pub IsReading : Reader → Type 0
IsReading reader = (has_doctype : Bool) × (f : OpenElement) × (fs : List OpenElement)
    × Holds reader has_doctype (f ∷ fs)
