-- Worked rows: what comes back of what is read of Markdown, and what doesn't. Each holds by computing.
use Rattle.std.proofs.Common.{◌≡◌, ℕ, Bool, true, false, List, [], ◌∷◌, refl, codes, Option, Some, None}
use Rattle.std.proofs.Common.{◌++◌}
use Rattle.std.specs.Fmt.{digits}
use Rattle.std.specs.Str.{chars, is_utf8}
use Rattle.htmd_nodes.specs.NumberedTrees.{forest_from, tree_of}
use Rattle.htmd_document.specs.Documents.{Blocks, block, element}
use Rattle.htmd_document.specs.NormalDocuments.{is_normal_document}
use Rattle.htmd_flow.specs.Flows.{node_of}
use Rattle.htmd_shown.specs.Roles.{role_of, table_role, heading_or_block, block_role, inline_role, element_role}
use Rattle.htmd_shown.specs.Shown.{shown}
use Rattle.htmd_commonmark_reading.specs.Reading.{read, document}
use Rattle.htmd_document_of_tree.specs.declared.anchors.Anchors.TheVariants as which
use Rattle.htmd_document_of_tree.specs.TreeDocuments.{document_by, document_of_tree}
use Rattle.htmd_law_returning.specs.RenderedPages.{page_of}
use Rattle.htmd_law_returning.specs.PlainImages.{blocks_have_plain_images}
use Rattle.htmd_law_returning.specs.ReturningLaws.{whole_sight}
use Rattle.htmd_law_returning.specs.SettledDocuments.{are_settled, weight_in}
use Rattle.htmd_law_returning.specs.SettledDocuments.{said}
use Rattle.htmd_law_returning.specs.PageFormats.{formats_show}
use lib.Utf8.{encode}

-- the document of the page of a text
abbrev returned : List ℕ → Option Blocks
returned s = Some (document_of_tree which.Linked (whole_sight false false) (page_of (read s)))

abbrev is_normal : Option Blocks → Bool
is_normal None = false
is_normal (Some d) = is_normal_document d

-- ---- what comes back

abbrev is_settled : Option Blocks → Bool
is_settled None = false
is_settled (Some d) = are_settled d

abbrev settled : List ℕ
settled =
    codes "# a" ++ 0xC2 ∷ 0xA0 ∷ codes "a\n"
    ++ codes "\n*b* **c *d***~~e~~ `f g`\\\nl *m* ![n](o \"p\") and [*q*\\\nr](#s \"u\") [1](2)[3](4)\n"
    ++ codes "> h\n> > i\n\n***\n``` c\nj\n\n k\n```\n- v\n- # w\n- x\\\n  x\n  1. y *z*\n"
    ++ codes "     - A\n\n998. y\n\n     - z\n999. > 0\n\n+ # B\n\n  ***"

settled_is_settled : is_settled (document settled) ≡ true
unfolding chars encode is_utf8
settled_is_settled = refl

settled_returns : returned settled ≡ document settled
unfolding chars encode forest_from tree_of role_of table_role heading_or_block block_role inline_role element_role shown
    document_by document_of_tree node_of digits
settled_returns = refl

-- ---- tables

-- with empty cells, one in a row that ends there
abbrev a_table : List ℕ
a_table =
    codes "| a | *b* | |\n|:-|-:|-|\n| `c` |\n| | d\\|e | f |\n\n"
    ++ codes "> | a |\n> |:-:|\n\n- # a\n\n- | b |\n  |-|\n  | c |"

a_table_is_settled : is_settled (document a_table) ≡ true
unfolding chars encode is_utf8
a_table_is_settled = refl

a_table_returns : returned a_table ≡ document a_table
unfolding chars encode forest_from tree_of role_of table_role heading_or_block block_role inline_role element_role shown
    document_by document_of_tree node_of digits
a_table_returns = refl

-- a page has no column at its end in which nothing shows
an_empty_column : is_settled (document (codes "| a | |\n|-|-|\n| b |")) ≡ false
unfolding chars encode is_utf8
an_empty_column = refl

an_empty_column_is_lost : returned (codes "| a | |\n|-|-|\n| b |") ≡ document (codes "| a |\n|-|\n| b |")
unfolding chars encode forest_from tree_of role_of table_role heading_or_block block_role inline_role element_role shown
    document_by document_of_tree node_of digits
an_empty_column_is_lost = refl

-- a list of two items is loose by a table in one
a_table_in_a_list : is_settled (document (codes "- | a |\n  |-|\n- b")) ≡ false
unfolding chars encode is_utf8
a_table_in_a_list = refl

a_table_in_a_list_is_apart : returned (codes "- | a |\n  |-|\n- b") ≡ document (codes "- | a |\n  |-|\n\n- b")
unfolding chars encode forest_from tree_of role_of table_role heading_or_block block_role inline_role element_role shown
    document_by document_of_tree node_of digits
a_table_in_a_list_is_apart = refl

a_table_alone : is_settled (document (codes "- | a |\n  |-|")) ≡ true
unfolding chars encode is_utf8
a_table_alone = refl

-- in a rich document, too, it is a table
a_rich_table_returns
    : Some (document_of_tree which.Linked (whole_sight false true) (page_of (read a_table))) ≡ document a_table
unfolding chars encode forest_from tree_of role_of table_role heading_or_block block_role inline_role element_role shown
    document_by document_of_tree node_of digits
a_rich_table_returns = refl

-- but one in whose header nothing shows is an element
abbrev no_header : List ℕ
no_header = codes "| | |\n|-|-|\n| a | b |"

abbrev begins_with_element : Blocks → Bool
begins_with_element (block (element name attributes content) bs) = true
begins_with_element bs = false

a_table_without_header_returns : returned no_header ≡ document no_header
unfolding chars encode forest_from tree_of role_of table_role heading_or_block block_role inline_role element_role shown
    document_by document_of_tree node_of digits
a_table_without_header_returns = refl

it_is_an_element
    : begins_with_element (document_of_tree which.Linked (whole_sight false true) (page_of (read no_header))) ≡ true
unfolding chars encode forest_from tree_of role_of table_role heading_or_block block_role inline_role element_role shown
    document_by document_of_tree node_of digits
it_is_an_element = refl

-- ---- formats

abbrev shows : Bool → Option Blocks → Bool
shows is_rich None = false
shows is_rich (Some d) = formats_show is_rich d

-- what is above or below the line, in what is
abbrev raised : List ℕ
raised = codes "a<sup>b<sup>c</sup><sub>d</sub></sup> *<sub>e</sub>*"

raised_is_settled : is_settled (document raised) ≡ true
unfolding chars encode
raised_is_settled = refl

raised_shows : shows false (document raised) ≡ true
unfolding chars encode
raised_shows = refl

raised_returns : returned raised ≡ document raised
unfolding chars encode forest_from tree_of role_of table_role heading_or_block block_role inline_role element_role shown
    document_by document_of_tree node_of digits
raised_returns = refl

-- on a rich page
abbrev returned_rich : List ℕ → Option Blocks
returned_rich s = Some (document_of_tree which.Linked (whole_sight false true) (page_of (read s)))

abbrev elements : List ℕ
elements =
    codes "<ins>a</ins> <u>b</u> <mark>*c*</mark> <small>[d](e)</small> <kbd>`f`</kbd>"
    ++ codes " <abbr title=\"g &amp; h\">i</abbr>"

elements_are_settled : is_settled (document elements) ≡ true
unfolding chars encode
elements_are_settled = refl

elements_show : shows true (document elements) ≡ true
unfolding chars encode
elements_show = refl

elements_return : returned_rich elements ≡ document elements
unfolding chars encode forest_from tree_of role_of table_role heading_or_block block_role inline_role element_role shown
    document_by document_of_tree node_of digits
elements_return = refl

-- another page shows what is in them
elements_are_hidden : shows false (document (codes "<ins>a</ins>")) ≡ false
unfolding chars encode
elements_are_hidden = refl

an_element_is_lost : returned (codes "<ins>a</ins>") ≡ document (codes "a")
unfolding chars encode forest_from tree_of role_of table_role heading_or_block block_role inline_role element_role shown
    document_by document_of_tree node_of digits
an_element_is_lost = refl

-- ---- what is normal, and doesn't come back

-- what is beside each other in the same format is one
two_formats_apart : is_settled (document (codes "*a* *b*")) ≡ false
unfolding chars encode
two_formats_apart = refl

two_formats : is_normal (document (codes "*a* *b*")) ≡ true
unfolding chars encode is_utf8
two_formats = refl

two_are_one : returned (codes "*a* *b*") ≡ document (codes "*a b*")
unfolding chars encode forest_from tree_of role_of table_role heading_or_block block_role inline_role element_role shown
    document_by document_of_tree node_of digits
two_are_one = refl

-- nor is a break between
two_formats_broken : is_settled (document (codes "*a*\\\n*b*")) ≡ false
unfolding chars encode
two_formats_broken = refl

two_broken_are_one : returned (codes "*a*\\\n*b*") ≡ document (codes "*a\\\nb*")
unfolding chars encode forest_from tree_of role_of table_role heading_or_block block_role inline_role element_role shown
    document_by document_of_tree node_of digits
two_broken_are_one = refl

-- U+FEFF doesn't show
a_mark : is_normal (document (0xEF ∷ 0xBB ∷ 0xBF ∷ codes "a")) ≡ true
unfolding chars encode is_utf8
a_mark = refl

a_mark_is_lost : returned (0xEF ∷ 0xBB ∷ 0xBF ∷ codes "a") ≡ document (codes "a")
unfolding chars encode forest_from tree_of role_of table_role heading_or_block block_role inline_role element_role shown
    document_by document_of_tree node_of digits
a_mark_is_lost = refl

-- no white space is at the ends of a paragraph
a_wide_space : is_normal (document (0xC2 ∷ 0xA0 ∷ codes "a")) ≡ true
unfolding chars encode is_utf8
a_wide_space = refl

a_wide_space_is_no_more : is_settled (document (0xC2 ∷ 0xA0 ∷ codes "a")) ≡ false
unfolding chars encode
a_wide_space_is_no_more = refl

a_wide_space_is_lost : returned (0xC2 ∷ 0xA0 ∷ codes "a") ≡ document (codes "a")
unfolding chars encode forest_from tree_of role_of table_role heading_or_block block_role inline_role element_role shown
    document_by document_of_tree node_of digits
a_wide_space_is_lost = refl

-- in a heading, a link of one sign to a part of the page is for its own place
a_sign : is_settled (document (codes "# [#](#a) b")) ≡ false
unfolding chars encode
a_sign = refl

a_sign_is_lost : returned (codes "# [#](#a) b") ≡ document (codes "# b")
unfolding chars encode forest_from tree_of role_of table_role heading_or_block block_role inline_role element_role shown
    document_by document_of_tree node_of digits
a_sign_is_lost = refl

a_sign_in_a_paragraph : is_settled (document (codes "[#](#a) b")) ≡ true
unfolding chars encode
a_sign_in_a_paragraph = refl

-- the space at the end of a link stands outside it
a_wide_link : is_settled (document (codes "[a ](b)c")) ≡ false
unfolding chars encode
a_wide_link = refl

a_space_goes_out : returned (codes "[a ](b)c") ≡ document (codes "[a](b) c")
unfolding chars encode forest_from tree_of role_of table_role heading_or_block block_role inline_role element_role shown
    document_by document_of_tree node_of digits
a_space_goes_out = refl

-- a description is one line with single spaces
a_wide_description : is_settled (document (codes "![a  b](c)")) ≡ false
unfolding chars encode
a_wide_description = refl

a_wide_description_is_lost : returned (codes "![a  b](c)") ≡ document (codes "![a b](c)")
unfolding chars encode forest_from tree_of role_of table_role heading_or_block block_role inline_role element_role shown
    document_by document_of_tree node_of digits
a_wide_description_is_lost = refl

-- a page has a tag in a description as text
a_break_in_a_description : blocks_have_plain_images (read (codes "![a<br>b](c)")) ≡ false
a_break_in_a_description = refl

a_break_in_a_description_is_text : returned (codes "![a<br>b](c)") ≡ document (codes "![a\\<br>b](c)")
unfolding chars encode forest_from tree_of role_of table_role heading_or_block block_role inline_role element_role shown
    document_by document_of_tree node_of digits
a_break_in_a_description_is_text = refl

-- an address is percent-encoded
an_address_apart : is_settled (document (codes "![a](<b c>)")) ≡ false
unfolding chars encode
an_address_apart = refl

an_address : returned (codes "[a](<b c>)") ≡ document (codes "[a](b%20c)")
unfolding chars encode forest_from tree_of role_of table_role heading_or_block block_role inline_role element_role shown
    document_by document_of_tree node_of digits
an_address = refl

-- a list without a paragraph in an item is tight
a_loose_list : is_settled (document (codes "- # a\n\n- # b")) ≡ false
unfolding chars encode
a_loose_list = refl

a_loose_list_is_tight : returned (codes "- # a\n\n- # b") ≡ document (codes "- # a\n- # b")
unfolding chars encode forest_from tree_of role_of table_role heading_or_block block_role inline_role element_role shown
    document_by document_of_tree node_of digits
a_loose_list_is_tight = refl

-- no code block is empty, and names for none are none
an_empty_code : is_settled (document (codes "```\n```")) ≡ false
unfolding chars encode is_utf8
an_empty_code = refl

an_empty_code_is_lost : returned (codes "```\n```") ≡ document []
unfolding chars encode forest_from tree_of role_of table_role heading_or_block block_role inline_role element_role shown
    document_by document_of_tree node_of digits
an_empty_code_is_lost = refl

a_name_for_none : is_settled (document (codes "``` text\na\n```")) ≡ false
unfolding chars encode is_utf8
a_name_for_none = refl

a_name_for_none_is_lost : returned (codes "``` text\na\n```") ≡ document (codes "```\na\n```")
unfolding chars encode forest_from tree_of role_of table_role heading_or_block block_role inline_role element_role shown
    document_by document_of_tree node_of digits
a_name_for_none_is_lost = refl

-- ---- the budget

abbrev what_says : Option Blocks → ℕ
what_says None = 0
what_says (Some d) = said d

abbrev weight : Option Blocks → ℕ
weight None = 0
weight (Some d) = weight_in d

-- three letters, two spaces and an address, but not the description of an image
what_is_said : what_says (document (codes "a `b` [c](d)![e](f)")) ≡ 6
unfolding chars encode
what_is_said = refl

-- each address with its title once
each_once : what_says (document (codes "[a](bc)[d](bc)[e](bc \"f\")")) ≡ 8
unfolding chars encode
each_once = refl

in_tables_and_code : what_says (document (codes "a|b\n-|-\nc|d\n\n```\nef\n```")) ≡ 6
unfolding chars encode
in_tables_and_code = refl

-- an address of one character, and one more, for each of two things in the link
what_it_weighs : weight (document (codes "a `b` [c*e*](d)![e](f)")) ≡ 4
unfolding chars encode
what_it_weighs = refl
