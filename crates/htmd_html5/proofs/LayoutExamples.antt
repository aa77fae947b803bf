-- Worked rows: the nodes of a document, and the tree that they are laid out as.
use Rattle.std.proofs.Common.{◌≡◌, ℕ, List, [], ◌∷◌, codes, None, refl}
use Rattle.htmd_values.specs.ValueTrees.{ValueTree, ValueForest, text, element, comment, doctype, none, more}
use Rattle.htmd_nodes.specs.Items.{document_item}
use Rattle.htmd_nodes.specs.Layout.{document_items}
use Rattle.htmd_html5_state.specs.Nodes.{KindValue, NodeValue}
use Rattle.htmd_html5_state.specs.Nodes as nodes
use Rattle.htmd_html5_state.specs.Names.{other, html, svg}
use Rattle.htmd_html5.specs.Layout.{document_of}

-- ---- nodes; their parents don't count

abbrev node : KindValue → List ℕ → NodeValue
node kind children = record { kind = kind; parent = None; children = children }

abbrev document : List ℕ → NodeValue
document children = node nodes.document children

abbrev holding : List ℕ → List ℕ → NodeValue
holding name children = node (nodes.element (html (other name)) []) children

abbrev letters : List ℕ → NodeValue
letters s = node (nodes.text s) []

-- ---- trees

-- an element without attributes
abbrev with : List ℕ → ValueForest → ValueTree
with name children = element name [] children

abbrev one : ValueTree → ValueForest
one tree = more tree none

-- ---- rows

the_document_alone : document_of 9 (document [] ∷ []) ≡ document_item ∷ []
the_document_alone = refl

-- children come in the order of their parent, whatever their numbers
document_order : document_of 9
    (document (3 ∷ 1 ∷ []) ∷ holding (codes "p") (4 ∷ 2 ∷ []) ∷ letters (codes "b")
    ∷ node nodes.doctype []
    ∷ node (nodes.comment (codes "a")) [] ∷ [])
    ≡ document_items
    (more doctype (one (with (codes "p") (more (comment (codes "a")) (one (text (codes "b")))))))
document_order = refl

-- a tree keeps no namespaces
the_name_alone : document_of 9 (document (1 ∷ []) ∷ node (nodes.element (svg (codes "g")) []) [] ∷ [])
    ≡ document_items (one (with (codes "g") none))
the_name_alone = refl

-- a node that is nowhere isn't in the tree
nowhere : document_of 9 (document (2 ∷ []) ∷ letters (codes "a") ∷ letters (codes "b") ∷ [])
    ≡ document_items (one (text (codes "b")))
nowhere = refl

-- nor is one laid out twice
once : document_of 9 (document (1 ∷ []) ∷ holding (codes "p") (1 ∷ []) ∷ [])
    ≡ document_items (one (with (codes "p") none))
once = refl

-- ---- the deepest level

-- <b>a<i>b<u>c</u></i>d</b>e
abbrev page : List NodeValue
page =
    document (1 ∷ 8 ∷ []) ∷ holding (codes "b") (2 ∷ 3 ∷ 7 ∷ []) ∷ letters (codes "a")
    ∷ holding (codes "i") (4 ∷ 5 ∷ []) ∷ letters (codes "b") ∷ holding (codes "u") (6 ∷ [])
    ∷ letters (codes "c") ∷ letters (codes "d") ∷ letters (codes "e")
    ∷ []

within_the_levels : document_of 4 page
    ≡ document_items
    (more (with (codes "b")
    (more (text (codes "a"))
    (more (with (codes "i") (more (text (codes "b")) (one (with (codes "u") (one (text (codes "c")))))))
    (one (text (codes "d"))))))
    (one (text (codes "e"))))
within_the_levels = refl

-- the innermost element keeps no children
three_levels : document_of 3 page
    ≡ document_items
    (more (with (codes "b")
    (more (text (codes "a"))
    (more (with (codes "i")
    (more (text (codes "b")) (more (with (codes "u") none) (one (text (codes "c"))))))
    (one (text (codes "d"))))))
    (one (text (codes "e"))))
three_levels = refl

-- texts that become siblings are one
two_levels : document_of 2 page
    ≡ document_items
    (more (with (codes "b")
    (more (text (codes "a"))
    (more (with (codes "i") none)
    (more (text (codes "b")) (more (with (codes "u") none) (one (text (codes "cd"))))))))
    (one (text (codes "e"))))
two_levels = refl

one_level : document_of 1 page
    ≡ document_items
    (more (with (codes "b") none)
    (more (text (codes "a"))
    (more (with (codes "i") none)
    (more (text (codes "b")) (more (with (codes "u") none) (one (text (codes "cde"))))))))
one_level = refl

-- above the deepest level two texts stay two
texts_stay_apart : document_of 2 (document (1 ∷ 2 ∷ []) ∷ letters (codes "a") ∷ letters (codes "b") ∷ [])
    ≡ document_items (more (text (codes "a")) (one (text (codes "b"))))
texts_stay_apart = refl

texts_join : document_of 1 (document (1 ∷ 2 ∷ []) ∷ letters (codes "a") ∷ letters (codes "b") ∷ [])
    ≡ document_items (one (text (codes "ab")))
texts_join = refl
