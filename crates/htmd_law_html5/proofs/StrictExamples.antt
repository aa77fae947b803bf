-- Unambiguous texts, the tokens of texts of the strict grammar, and plain trees.
use Rattle.std.proofs.Common.{◌≡◌, true, false, [], ◌∷◌, refl}
use Rattle.std.specs.Prelude.{codes}
use Rattle.htmd_values.specs.ValueTrees.{none, more}
use Rattle.htmd_values.specs.Serialisation.{is_void}
use Rattle.htmd_html5_tokens.specs.NamedReferences.{old_names}
use Rattle.htmd_html5_tokens.specs.Tokens.{start_tag, end_tag, text, comment}
use Rattle.htmd_grammar.specs.HtmlDocuments.{skeleton}
use Rattle.htmd_nodes.specs.Layout.{document_items}
use Rattle.htmd_html5.specs.BodyEnds.{text_end_rule}
use Rattle.htmd_html5.specs.BodyStarts.{block_rule, formatting_rule, phrasing_rule}
use Rattle.htmd_html5.specs.Html5Documents.{html5_document}
use Rattle.htmd_law_html5.specs.StrictReferences.{outside, has_bare_reference}
use Rattle.htmd_law_html5.specs.StrictTokens.{tokens_of_text, tag_named, after_feed, is_simple}
use Rattle.htmd_law_html5.specs.StrictTrees.{is_plain_element, are_plain}
use Rattle.htmd_values.specs.ValueTrees as trees

-- ---- references by name

without_its_semicolon : has_bare_reference outside (codes "a &amp b") ≡ true
unfolding old_names
without_its_semicolon = refl

with_it : has_bare_reference outside (codes "a &amp; b") ≡ false
unfolding old_names
with_it = refl

-- `AT` is no name
a_bare_ampersand : has_bare_reference outside (codes "AT&T") ≡ false
unfolding old_names
a_bare_ampersand = refl

-- a name that more letters or `=` follow, in a value and in a text
in_an_address : has_bare_reference outside (codes "<a href=\"?a=1&section=2&copy=3\">b</a>") ≡ false
unfolding old_names
in_an_address = refl

in_a_text : has_bare_reference outside (codes "<b>?a=1&section=2</b>") ≡ true
unfolding old_names
in_a_text = refl

at_the_end_of_a_value : has_bare_reference outside (codes "<a href=\"?a&copy\">b</a>") ≡ true
unfolding old_names
at_the_end_of_a_value = refl

after_a_title : has_bare_reference outside (codes "<title></title><a href=\"?a&section=2\">b</a>") ≡ true
unfolding old_names
after_a_title = refl

-- ---- tokens

an_element : tokens_of_text false (codes "<p>a<br>b</p><!-- c -->")
    ≡ start_tag (tag_named (codes "p") [] false) ∷ text (codes "a") ∷ start_tag (tag_named (codes "br") [] false)
    ∷ text (codes "b") ∷ end_tag (tag_named (codes "p") [] false) ∷ comment (codes " c ") ∷ []
an_element = refl

only_text : tokens_of_text false (codes "<title><b></title>")
    ≡ start_tag (tag_named (codes "title") [] false) ∷ text (codes "<b>")
    ∷ end_tag (tag_named (codes "title") [] false) ∷ []
only_text = refl

a_feed_alone : after_feed (text (codes "\n") ∷ start_tag (tag_named (codes "b") [] false) ∷ [])
    ≡ start_tag (tag_named (codes "b") [] false) ∷ []
a_feed_alone = refl

a_feed_and_text : after_feed (text (codes "\na") ∷ []) ≡ text (codes "a") ∷ []
a_feed_and_text = refl

-- ---- elements

a_block : is_plain_element (codes "section") ≡ true
unfolding is_void
a_block = refl

a_name_of_its_own : is_plain_element (codes "my-card") ≡ true
unfolding is_void
a_name_of_its_own = refl

a_table : is_plain_element (codes "table") ≡ true
unfolding is_void
a_table = refl

a_caption_is_plain : is_plain_element (codes "caption") ≡ true
unfolding is_void
a_caption_is_plain = refl

columns_are_not : is_plain_element (codes "colgroup") ≡ false
unfolding is_void
columns_are_not = refl

an_element_of_only_text : is_plain_element (codes "style") ≡ true
unfolding is_void
an_element_of_only_text = refl

a_script_is_not_plain : is_plain_element (codes "script") ≡ false
unfolding is_void
a_script_is_not_plain = refl

a_script_is_set_aside : is_simple (more (trees.element (codes "script") [] none) none) ≡ false
a_script_is_set_aside = refl

a_plain_paragraph : are_plain (more (trees.element (codes "p") [] (more (trees.text (codes "a")) none)) none) ≡ true
unfolding is_void
a_plain_paragraph = refl

-- a `tbody` that begins with a row may have no tags in a table, and stands anywhere there
rows_in_a_table : are_plain (more (trees.element (codes "table") [] (more (trees.element (codes "tbody") []
    (more (trees.element (codes "tr") [] none) none)) none)) none) ≡ true
unfolding is_void
rows_in_a_table = refl

rows_before_a_caption : are_plain (more (trees.element (codes "table") [] (more (trees.element (codes "tbody") []
    (more (trees.element (codes "tr") [] none) none)) (more (trees.element (codes "caption") [] none) none))) none)
    ≡ true
unfolding is_void
rows_before_a_caption = refl

-- elsewhere it isn't plain, and one that begins with a line feed has its tags
a_body_of_rows : are_plain (more (trees.element (codes "tbody") []
    (more (trees.element (codes "tr") [] none) none)) none) ≡ false
unfolding is_void
a_body_of_rows = refl

a_body_of_lines : are_plain (more (trees.element (codes "tbody") [] (more (trees.text (codes "\n"))
    (more (trees.element (codes "tr") [] none) none))) none) ≡ true
unfolding is_void
a_body_of_lines = refl

-- ---- trees

a_text_and_a_paragraph : html5_document false (codes "a<p>b</p>")
    ≡ document_items (skeleton (more (trees.text (codes "a"))
    (more (trees.element (codes "p") [] (more (trees.text (codes "b")) none)) none)))
unfolding html5_document block_rule formatting_rule phrasing_rule text_end_rule
a_text_and_a_paragraph = refl

-- a `style` stays where it is, and holds only text
a_style_in_the_body : html5_document false (codes "a<style><b></style>")
    ≡ document_items (skeleton (more (trees.text (codes "a"))
    (more (trees.element (codes "style") [] (more (trees.text (codes "<b>")) none)) none)))
unfolding html5_document block_rule formatting_rule phrasing_rule text_end_rule
a_style_in_the_body = refl

-- a table with a caption and rows whose section has no tags
bare_rows : html5_document false (codes "<table><caption>a</caption><tr><td>b</td></tr></table>")
    ≡ document_items (skeleton (more (trees.element (codes "table") []
    (more (trees.element (codes "caption") [] (more (trees.text (codes "a")) none))
    (more (trees.element (codes "tbody") [] (more (trees.element (codes "tr") [] (more (trees.element (codes "td") []
    (more (trees.text (codes "b")) none)) none)) none)) none))) none))
unfolding html5_document block_rule formatting_rule phrasing_rule text_end_rule
bare_rows = refl

-- a caption ends the section of the rows before it
rows_around_a_caption : html5_document false (codes "<table><tr></tr>\n<caption>a</caption><tr></tr></table>")
    ≡ document_items (skeleton (more (trees.element (codes "table") []
    (more (trees.element (codes "tbody") [] (more (trees.element (codes "tr") [] none)
    (more (trees.text (codes "\n")) none)))
    (more (trees.element (codes "caption") [] (more (trees.text (codes "a")) none))
    (more (trees.element (codes "tbody") [] (more (trees.element (codes "tr") [] none) none)) none)))) none))
unfolding html5_document block_rule formatting_rule phrasing_rule text_end_rule
rows_around_a_caption = refl

-- a table in a list item, with lines between its parts
a_table_in_a_list : html5_document false
    (codes "<ul><li><table>\n<tbody>\n<tr><td><b>c</b></td></tr></tbody></table>d</li></ul>")
    ≡ document_items (skeleton (more (trees.element (codes "ul") [] (more (trees.element (codes "li") []
    (more (trees.element (codes "table") [] (more (trees.text (codes "\n"))
    (more (trees.element (codes "tbody") [] (more (trees.text (codes "\n"))
    (more (trees.element (codes "tr") [] (more (trees.element (codes "td") []
    (more (trees.element (codes "b") [] (more (trees.text (codes "c")) none)) none)) none)) none))) none)))
    (more (trees.text (codes "d")) none))) none)) none))
unfolding html5_document block_rule formatting_rule phrasing_rule text_end_rule
a_table_in_a_list = refl
