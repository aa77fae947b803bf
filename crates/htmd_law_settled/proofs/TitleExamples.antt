-- Worked rows: a page whose summary has a link that is a sign alone, and one with more blocks in it. Each holds by
-- computing.
use Rattle.std.proofs.Common.{◌≡◌, ℕ, ◌+◌, List, [], true, false, refl, codes, None}
use Rattle.std.specs.Str.{chars}
use Rattle.htmd_nodes.specs.NumberedTrees as node
use Rattle.htmd_nodes.specs.NumberedTrees.{NumberedTree, NumberedForest}
use Rattle.htmd_document.specs.Documents.{Blocks, Inlines, block, element, inline, item, link, list, no_blocks}
use Rattle.htmd_document.specs.Documents.{no_inlines, no_items, paragraph, quote, text}
use Rattle.htmd_document.specs.declared.document.BlockElement.TheVariants as name
use Rattle.htmd_flow.specs.Flows.{node_of}
use Rattle.htmd_shown.specs.Roles.{role_of, table_role, heading_or_block, block_role, inline_role, element_role}
use Rattle.htmd_shown.specs.Shown.{shown}
use Rattle.htmd_document_of_tree.specs.declared.anchors.Anchors.TheVariants as which
use Rattle.htmd_document_of_tree.specs.TreeDocuments.{document_by, document_of_tree}
use Rattle.htmd_law_rendering.specs.RenderedTrees.{pairs_of_link}
use Rattle.htmd_law_returning.specs.ReturningLaws.{whole_sight}
use Rattle.htmd_law_settled.specs.CommonDocuments.{is_common}
use lib.Utf8.{encode}

abbrev a_paragraph : ℕ → List ℕ → NumberedForest → NumberedForest
a_paragraph id s f =
    node.more (node.element id (codes "p") [] (node.more (node.text (id + 1) s) node.none)) f

-- <details><summary><a href="#x"><p>#</p><p>b</p></a></summary>c</details>
abbrev a_page : NumberedTree
a_page =
    node.document 0 (node.more (node.element 1 (codes "details") []
    (node.more (node.element 2 (codes "summary") []
    (node.more (node.element 3 (codes "a") (pairs_of_link (codes "#x") None)
    (a_paragraph 4 (codes "#") (a_paragraph 6 (codes "b") node.none))) node.none))
    (node.more (node.text 8 (codes "c")) node.none))) node.none)

abbrev a_line : List ℕ → Inlines
a_line s = inline (text s) no_inlines

abbrev linked : List ℕ → Inlines
linked s = inline (link (codes "#x") None (a_line s)) no_inlines

abbrev with_summary : Blocks → Blocks
with_summary content =
    block (element name.Details [] (block (element name.Summary [] content)
    (block (paragraph (a_line (codes "c"))) no_blocks))) no_blocks

-- the link around both paragraphs is no sign alone, that in the first is one
abbrev with_sign : Blocks
with_sign =
    with_summary (block (paragraph (linked (codes "#"))) (block (paragraph (linked (codes "b"))) no_blocks))

it_has_a_sign : document_of_tree which.All (whole_sight false true) a_page ≡ with_sign
unfolding chars encode role_of table_role heading_or_block block_role inline_role element_role shown document_by
    document_of_tree node_of
it_has_a_sign = refl

it_is_not_common : is_common which.All with_sign ≡ false
unfolding chars encode
it_is_not_common = refl

-- other blocks may stand there
abbrev with_blocks : Blocks
with_blocks =
    with_summary (block (paragraph (linked (codes "b"))) (block (quote (block (paragraph (linked (codes "b")))
    no_blocks)) (block (list None true (item (block (paragraph (a_line (codes "#"))) no_blocks) no_items)) no_blocks)))

they_are_common : is_common which.All with_blocks ≡ true
unfolding chars encode
they_are_common = refl
