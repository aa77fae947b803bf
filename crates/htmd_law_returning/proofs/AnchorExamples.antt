-- Worked rows of anchors: which come back from the page of what is read of Markdown. Each holds by computing.
use Rattle.std.proofs.Common.{◌≡◌, ℕ, Bool, true, false, List, [], ◌∷◌, refl, codes, Option, Some, None}
use Rattle.std.proofs.Common.{map, ◌++◌}
use Rattle.std.specs.Fmt.{digits}
use Rattle.std.specs.Str.{chars, is_utf8}
use Rattle.std.specs.Str.Lossy.{utf8_lossy, utf8_valid_len}
use Rattle.percent_encoding.specs.Percent.{percent_decode}
use Rattle.htmd_nodes.specs.NumberedTrees.{forest_from, tree_of}
use Rattle.htmd_document.specs.Documents.{Blocks}
use Rattle.htmd_flow.specs.Flows.{node_of}
use Rattle.htmd_shown.specs.Roles.{role_of, table_role, heading_or_block, block_role, inline_role, element_role}
use Rattle.htmd_shown.specs.Shown.{shown}
use Rattle.htmd_commonmark_reading.specs.Reading.{read, document}
use Rattle.htmd_document_of_tree.specs.declared.anchors.Anchors.{Anchors}
use Rattle.htmd_document_of_tree.specs.declared.anchors.Anchors.TheVariants as which
use Rattle.htmd_document_of_tree.specs.TreeDocuments.{document_by, document_of_tree}
use Rattle.htmd_law_returning.specs.RenderedPages.{page_of}
use Rattle.htmd_law_returning.specs.ReturningLaws.{whole_sight}
use Rattle.htmd_law_returning.specs.LastingAnchors.{anchors_stay}
use lib.Utf8.{encode}

abbrev returned : Anchors → List ℕ → Option Blocks
returned w s = Some (document_of_tree w (whole_sight false false) (page_of (read s)))

abbrev stay : Anchors → List ℕ → Bool
stay w s = decided (document s)
  where
    decided : Option Blocks → Bool
    decided None = false
    decided (Some d) = anchors_stay w d

-- an anchor x, and another y
abbrev x : List ℕ
x = codes "<a id=\"x\"></a>"

abbrev y : List ℕ
y = codes "<a id=\"y\"></a>"

-- ---- in lines

abbrev in_lines : List (List ℕ)
in_lines =
    (x ++ codes "a")
    ∷ (codes "a " ++ x ++ codes "b")
    ∷ (x ++ y ++ codes "a")
    ∷ (codes "a " ++ x ++ codes "*b*")
    ∷ (codes "a " ++ x ++ codes "[b](c)")
    ∷ (codes "[a](b)" ++ x ++ codes "[c](d)")
    ∷ (x ++ codes "`a`")
    ∷ (x ++ codes "![a](b)")
    ∷ (codes "a\\\n" ++ x ++ codes "b")
    ∷ (codes "*a " ++ x ++ codes "b*")
    ∷ (codes "*a* " ++ x ++ codes "**b**")
    ∷ []

in_lines_stay : map (stay which.All) in_lines ≡ map (λ s. true) in_lines
unfolding chars encode
in_lines_stay = refl

in_lines_return : map (returned which.All) in_lines ≡ map document in_lines
unfolding chars encode forest_from tree_of role_of table_role heading_or_block block_role inline_role element_role shown
    document_by document_of_tree node_of digits
in_lines_return = refl

-- ---- in blocks

abbrev in_blocks : List (List ℕ)
in_blocks =
    (codes "# " ++ x ++ y ++ codes "a *b*")
    ∷ (codes "- " ++ x ++ codes "a\n- b")
    ∷ (codes "- a\n\n  " ++ x ++ codes "b\n\n- c")
    ∷ (codes "> " ++ x ++ codes "a")
    ∷ (x ++ y ++ codes "\n\n```\na\n```")
    ∷ (codes "> " ++ x ++ codes "\n>\n> ```\n> a\n> ```")
    ∷ (codes "- a\n\n  " ++ x ++ codes "\n\n  ```\n  b\n  ```")
    ∷ (codes "***\n\n" ++ x)
    ∷ (codes "- [ ] " ++ x ++ codes "a")
    ∷ (codes "| " ++ x ++ codes "a | b |\n| - | - |\n| c " ++ y ++ codes "d | |")
    ∷ []

in_blocks_stay : map (stay which.All) in_blocks ≡ map (λ s. true) in_blocks
unfolding chars encode
in_blocks_stay = refl

in_blocks_return : map (returned which.All) in_blocks ≡ map document in_blocks
unfolding chars encode forest_from tree_of role_of table_role heading_or_block block_role inline_role element_role shown
    document_by document_of_tree node_of digits
in_blocks_return = refl

-- ---- what doesn't come back

abbrev lost : List (List ℕ)
lost =
    (codes "*a*" ++ x ++ codes "*b*")
    ∷ (codes "*a* " ++ x ++ codes "*b*")
    ∷ (codes "# a " ++ x ++ codes "b")
    ∷ (x ++ codes "\n\na")
    ∷ (x ++ codes "\n\n- a")
    ∷ (x ++ codes "\n\n***")
    ∷ (codes "> " ++ x)
    ∷ (codes "> " ++ x ++ codes "\n\na")
    ∷ (codes "- a\n\n  " ++ x)
    ∷ (x ++ codes "\n\n" ++ y)
    ∷ (x ++ codes "a " ++ x ++ codes "b")
    ∷ (codes "| *a* " ++ x ++ codes "*b* |\n| - |")
    ∷ []

they_dont_stay : map (stay which.All) lost ≡ map (λ s. false) lost
unfolding chars encode
they_dont_stay = refl

-- an anchor between two that are the same goes into them
into_one : returned which.All (codes "*a* " ++ x ++ codes "*b*") ≡ document (codes "*a " ++ x ++ codes "b*")
unfolding chars encode forest_from tree_of role_of table_role heading_or_block block_role inline_role element_role shown
    document_by document_of_tree node_of digits
into_one = refl

-- in a heading it goes to the beginning
to_the_beginning : returned which.All (codes "# a " ++ x ++ codes "b") ≡ document (codes "# " ++ x ++ codes "a b")
unfolding chars encode forest_from tree_of role_of table_role heading_or_block block_role inline_role element_role shown
    document_by document_of_tree node_of digits
to_the_beginning = refl

-- alone, to what shows next
to_the_next : returned which.All (x ++ codes "\n\na") ≡ document (x ++ codes "a")
unfolding chars encode forest_from tree_of role_of table_role heading_or_block block_role inline_role element_role shown
    document_by document_of_tree node_of digits
to_the_next = refl

-- ---- links to them

abbrev led : List (List ℕ)
led =
    (codes "[a](#x) " ++ x ++ codes "b")
    ∷ codes "[a](#x%20y) <a id=\"x y\"></a>b"
    ∷ (x ++ codes "a\n\n[b](#x)")
    ∷ (codes "# " ++ x ++ codes "a\n\n[b](#x)")
    ∷ (codes "# [a](#x) c\n\n# " ++ x ++ codes "b")
    ∷ (codes "| [a](#x) |\n| - |\n| " ++ x ++ codes "b |")
    ∷ []

led_stay : map (stay which.Linked) led ≡ map (λ s. true) led
unfolding chars encode percent_decode utf8_lossy utf8_valid_len is_utf8
led_stay = refl

led_return : map (returned which.Linked) led ≡ map document led
unfolding chars encode forest_from tree_of role_of table_role heading_or_block block_role inline_role element_role shown
    document_by document_of_tree node_of digits percent_decode utf8_lossy utf8_valid_len is_utf8
led_return = refl

abbrev not_led : List (List ℕ)
not_led =
    (x ++ codes "a")
    ∷ (codes "# " ++ x ++ codes "a [b](#x)")
    ∷ (x ++ codes "a [b](#y)")
    ∷ []

not_led_dont_stay : map (stay which.Linked) not_led ≡ map (λ s. false) not_led
unfolding chars encode percent_decode utf8_lossy utf8_valid_len is_utf8
not_led_dont_stay = refl

-- without links to them anchors are none
no_links : returned which.Linked (x ++ codes "a") ≡ document (codes "a")
unfolding chars encode forest_from tree_of role_of table_role heading_or_block block_role inline_role element_role shown
    document_by document_of_tree node_of digits
no_links = refl

-- nor with a link to them in their own heading alone, which a page has whose heading is in a link
own_link : returned which.Linked (codes "# " ++ x ++ codes "[a](#x)") ≡ document (codes "# [a](#x)")
unfolding chars encode forest_from tree_of role_of table_role heading_or_block block_role inline_role element_role shown
    document_by document_of_tree node_of digits percent_decode utf8_lossy utf8_valid_len is_utf8
own_link = refl
