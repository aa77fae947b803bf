-- The nodes of a document that was read, and the parts of the document that they are.
use Rattle.std.specs.Prelude.{◌≡◌, ℕ, ◌<◌, Bool, true, List, map}
use Rattle.htmd_lexical.specs.AttributePairs.{AttributePair}
use Rattle.htmd_values.specs.ValueTrees.{document, ValueForest, none, more}
use Rattle.htmd_grammar.specs.Nesting.{Context}
use Rattle.htmd_grammar.specs.Rules.{project}
use Rattle.htmd_grammar.specs.HtmlDocuments.{ReadsDocument}
use Rattle.htmd_grammar.specs.ReadBack.{reads_alone, DenotesAlone}
use Rattle.htmd_lexical.specs.BlankLines.{with_blank_lines}
use Rattle.htmd_nodes.specs.Items.{Item, element_node, data_at, depth_at}
use Rattle.htmd_nodes.specs.NumberedTrees.{value_at}
use Rattle.htmd_nodes.specs.Ancestors.{ancestors_of}
use Rattle.htmd_nodes.specs.Layout.{document_items}

-- the names of a node's ancestors, innermost first
abbrev pub ancestor_names : List Item → ℕ → Context
ancestor_names items id = map (λ a. a.tag) (ancestors_of items id)

-- The text is a block of raw HTML of an element below `body` of a tree that was read. What is between the blank
-- lines denotes that element alone, in the context of its ancestors, unless it holds a carriage return, a comment,
-- `pre`, `textarea` or a raw text element.
abbrev pub IsReadBack : List Item → ℕ → List ℕ → Type 0
IsReadBack items id block =
    (scripting : Bool) (s : List ℕ) (children : ValueForest) → items ≡ document_items children
    → ReadsDocument (project scripting) s (document children) → 2 < depth_at items id
    → (name : List ℕ) (attributes : List AttributePair) → data_at items id ≡ element_node name attributes
    → reads_alone (value_at items id) ≡ true → (x : List ℕ) → block ≡ with_blank_lines x
    → DenotesAlone (project scripting) (ancestor_names items id) x (more (value_at items id) none)
