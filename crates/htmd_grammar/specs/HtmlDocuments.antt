-- A whole document: a byte order mark, a doctype, and the content of `body`.
use Rattle.std.specs.Prelude.{◌≡◌, ℕ, true, List, [], ◌∷◌, Option, Some, None, codes}
use Rattle.htmd_lexical.specs.Characters.{null}
use Rattle.htmd_values.specs.ValueTrees.{ValueTree, document, doctype, element, ValueForest, none, more}
use Rattle.htmd_lexical.specs.CharacterClasses.{lacks}
use Rattle.htmd_grammar.specs.Rules.{Rules}
use Rattle.htmd_grammar.specs.Comments.{behind_doctype}
use Rattle.htmd_grammar.specs.Nesting.{Context}
use Rattle.htmd_grammar.specs.Grammar.{reads}
use Rattle.htmd_lexical.specs.ByteOrderMarks.{behind_mark}

-- the ancestors of `body`: `html` and the Document
abbrev pub above_body : Context
above_body = codes "html" ∷ codes "html" ∷ []

-- the ancestors of the content
abbrev pub below_body : Context
below_body = codes "body" ∷ above_body

-- `html` with an empty `head`, and a `body` with this content
abbrev pub skeleton : ValueForest → ValueForest
skeleton content =
    more (element (codes "html") []
    (more (element (codes "head") [] none) (more (element (codes "body") [] content) none))) none

-- a Doctype comes first if the text begins with one
abbrev pub with_doctype : Option (List ℕ) → ValueForest → ValueForest
with_doctype None trees = trees
with_doctype (Some rest) trees = more doctype trees

-- what follows the doctype, if there is one
abbrev pub behind_prelude : Option (List ℕ) → List ℕ → List ℕ
behind_prelude None s = s
behind_prelude (Some rest) s = rest

-- the content of the text, after its byte order mark and its doctype
abbrev pub body_text : List ℕ → List ℕ
body_text s = behind_prelude (behind_doctype (behind_mark s)) (behind_mark s)

-- the tree of a text whose content denotes these
abbrev pub document_tree : List ℕ → ValueForest → ValueTree
document_tree s content = document (with_doctype (behind_doctype (behind_mark s)) (skeleton content))

-- The text, which has no U+0000, denotes this document.
abbrev pub ReadsDocument : Rules → List ℕ → ValueTree → Type 0
ReadsDocument rules s t =
    (lacks null s ≡ true) × (content : ValueForest) × (t ≡ document_tree s content) × reads rules below_body
    (body_text s) content
