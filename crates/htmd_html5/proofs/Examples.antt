-- Worked rows: pages and their trees.
use Rattle.std.proofs.Common.{◌≡◌, ℕ, List, [], codes, true, refl}
use Rattle.htmd_values.specs.ValueTrees.{ValueTree, ValueForest, text, element, none, more}
use Rattle.htmd_nodes.specs.Items.{Item}
use Rattle.htmd_nodes.specs.Layout.{document_items}
use Rattle.htmd_html5_state.specs.Adoption.{move_last, wrap_children}
use Rattle.htmd_html5.specs.BodyEnds.{text_end_rule}
use Rattle.htmd_html5.specs.BodyStarts.{block_rule, formatting_rule, phrasing_rule}
use Rattle.htmd_html5.specs.Html5Documents.{html5_document, state_after}
use Rattle.htmd_html5.specs.Layout.{document_of}

-- an element without attributes
abbrev with : List ℕ → ValueForest → ValueTree
with name children = element name [] children

abbrev one : ValueTree → ValueForest
one tree = more tree none

-- a page whose body holds this
abbrev page : ValueForest → List Item
page content =
    document_items (one (with (codes "html")
    (more (with (codes "head") none) (one (with (codes "body") content)))))

nothing : html5_document true (codes "") ≡ page none
unfolding html5_document
nothing = refl

a_paragraph_ends_another : html5_document true (codes "<p>a<p>b")
    ≡ page (more (with (codes "p") (one (text (codes "a")))) (one (with (codes "p") (one (text (codes "b"))))))
unfolding html5_document block_rule
a_paragraph_ends_another = refl

-- the adoption agency
formatting_goes_on_in_a_block : html5_document true (codes "<b>a<p>b</b>c")
    ≡ page (more (with (codes "b") (one (text (codes "a"))))
    (one (with (codes "p") (more (with (codes "b") (one (text (codes "b")))) (one (text (codes "c")))))))
unfolding html5_document block_rule formatting_rule text_end_rule move_last wrap_children
formatting_goes_on_in_a_block = refl

-- foster parenting
text_leaves_a_table : html5_document true (codes "<table>a<tr><td>b")
    ≡ page (more (text (codes "a"))
    (one (with (codes "table") (one (with (codes "tbody") (one (with (codes "tr")
    (one (with (codes "td") (one (text (codes "b"))))))))))))
unfolding html5_document block_rule
text_leaves_a_table = refl

html_leaves_foreign_content : html5_document true (codes "<svg><g><p>a")
    ≡ page (more (with (codes "svg") (one (with (codes "g") none))) (one (with (codes "p") (one (text (codes "a"))))))
unfolding html5_document block_rule formatting_rule phrasing_rule
html_leaves_foreign_content = refl

-- an `hr` in a `select` ends an option, and a group of options
an_hr_ends_an_option : html5_document true (codes "<select><option>a<hr><option>b")
    ≡ page (one (with (codes "select")
    (more (with (codes "option") (one (text (codes "a")))) (more (with (codes "hr") none)
    (one (with (codes "option") (one (text (codes "b")))))))))
unfolding html5_document block_rule formatting_rule phrasing_rule
an_hr_ends_an_option = refl

an_hr_ends_a_group : html5_document true (codes "<select><optgroup><option>a<hr>b")
    ≡ page (one (with (codes "select")
    (more (with (codes "optgroup") (one (with (codes "option") (one (text (codes "a"))))))
    (more (with (codes "hr") none) (one (text (codes "b")))))))
unfolding html5_document block_rule formatting_rule phrasing_rule
an_hr_ends_a_group = refl

-- at the deepest level, here the fourth, an element keeps no children, and texts are joined
the_deepest_level : document_of 4 (state_after true (codes "<i><u>a</u>b<s>c</s></i>d")).nodes
    ≡ page (more (with (codes "i")
    (more (with (codes "u") none) (more (text (codes "ab")) (more (with (codes "s") none) (one (text (codes "c")))))))
    (one (text (codes "d"))))
unfolding block_rule formatting_rule text_end_rule
the_deepest_level = refl
