-- Texts and the documents that they denote.
use Rattle.std.proofs.Common.{List, [], codes, false, refl, true, ℕ, ◌++◌, ◌∷◌}
use Rattle.std.specs.Char.{encode_utf8}
use Rattle.htmd_grammar.specs.Nesting.{is_allowed}
use Rattle.htmd_grammar.specs.References.{may_be_numbered}
use Rattle.htmd_values.specs.Serialisation.{is_void}
use Rattle.htmd_grammar.specs.ReaderSteps.{step}
use Rattle.htmd_lexical.specs.AttributePairs.{AttributePair}
use Rattle.htmd_values.specs.ValueTrees.{comment, element, more, none, text}
use Rattle.htmd_grammar.proofs.ComputedSteps.{Denotes, denotes}
use lib.Utf8.{encode}

abbrev attribute_pair : List ℕ → List ℕ → AttributePair
attribute_pair n v = record { name = n; value = v }

empty : Denotes true [] none
unfolding step is_allowed is_void may_be_numbered encode
empty = denotes true [] none 60 refl refl

heading : Denotes true (codes "<h1>Hello</h1>") (more (element (codes "h1") [] (more (text (codes "Hello")) none)) none)
unfolding step is_allowed is_void may_be_numbered encode
heading = denotes true (codes "<h1>Hello</h1>") (more (element (codes "h1") [] (more (text (codes "Hello")) none)) none)
    60 refl refl

upper_case : Denotes true (codes "<A HREF=/x>t</A>")
    (more (element (codes "a") (attribute_pair (codes "href") (codes "/x") ∷ []) (more (text (codes "t")) none)) none)
unfolding step is_allowed is_void may_be_numbered encode
upper_case = denotes true (codes "<A HREF=/x>t</A>")
    (more (element (codes "a") (attribute_pair (codes "href") (codes "/x") ∷ []) (more (text (codes "t")) none)) none)
    60 refl refl

unquoted_slash : Denotes true (codes "<img src=/x/>")
    (more (element (codes "img") (attribute_pair (codes "src") (codes "/x/") ∷ []) none) none)
unfolding step is_allowed is_void may_be_numbered encode
unquoted_slash = denotes true (codes "<img src=/x/>")
    (more (element (codes "img") (attribute_pair (codes "src") (codes "/x/") ∷ []) none) none) 60 refl refl

void_slash : Denotes true (codes "<br/><hr >")
    (more (element (codes "br") [] none) (more (element (codes "hr") [] none) none))
unfolding step is_allowed is_void may_be_numbered encode
void_slash = denotes true (codes "<br/><hr >")
    (more (element (codes "br") [] none) (more (element (codes "hr") [] none) none)) 60 refl refl

value_forms : Denotes true (codes "<i a b=1 c='2\"' d = \"3'\"></i>")
    (more (element (codes "i") (attribute_pair (codes "a") [] ∷ attribute_pair (codes "b") (codes "1")
    ∷ attribute_pair (codes "c") (codes "2\"") ∷ attribute_pair (codes "d") (codes "3'") ∷ []) none) none)
unfolding step is_allowed is_void may_be_numbered encode
value_forms = denotes true (codes "<i a b=1 c='2\"' d = \"3'\"></i>")
    (more (element (codes "i") (attribute_pair (codes "a") [] ∷ attribute_pair (codes "b") (codes "1")
    ∷ attribute_pair (codes "c") (codes "2\"") ∷ attribute_pair (codes "d") (codes "3'") ∷ []) none) none) 60 refl
    refl

value_with_ampersands : Denotes true (codes "<a href=\"/x?a=1&b=2&amp;c\">t</a>")
    (more (element (codes "a") (attribute_pair (codes "href") (codes "/x?a=1&b=2&c") ∷ [])
    (more (text (codes "t")) none)) none)
unfolding step is_allowed is_void may_be_numbered encode
value_with_ampersands = denotes true (codes "<a href=\"/x?a=1&b=2&amp;c\">t</a>")
    (more (element (codes "a") (attribute_pair (codes "href") (codes "/x?a=1&b=2&c") ∷ [])
    (more (text (codes "t")) none)) none) 60 refl refl

end_tag_with_space : Denotes true (codes "<b>x</b\t>")
    (more (element (codes "b") [] (more (text (codes "x")) none)) none)
unfolding step is_allowed is_void may_be_numbered encode
end_tag_with_space = denotes true (codes "<b>x</b\t>")
    (more (element (codes "b") [] (more (text (codes "x")) none)) none) 60 refl refl

ampersand_alone : Denotes true (codes "AT&T &amp") (more (text (codes "AT&T &amp")) none)
unfolding step is_allowed is_void may_be_numbered encode
ampersand_alone = denotes true (codes "AT&T &amp") (more (text (codes "AT&T &amp")) none) 60 refl refl

less_than_alone : Denotes true (codes "1 < 2 <") (more (text (codes "1 < 2 <")) none)
unfolding step is_allowed is_void may_be_numbered encode
less_than_alone = denotes true (codes "1 < 2 <") (more (text (codes "1 < 2 <")) none) 60 refl refl

references : Denotes true (codes "&lt;&#65;&#x42;&#X43;&apos;a&amp;b") (more (text (codes "<ABC'a&b")) none)
unfolding step is_allowed is_void may_be_numbered encode
references = denotes true (codes "&lt;&#65;&#x42;&#X43;&apos;a&amp;b") (more (text (codes "<ABC'a&b")) none) 60 refl
    refl

line_ends : Denotes true (codes "a\r\nb\rc\n") (more (text (codes "a\nb\nc\n")) none)
unfolding step is_allowed is_void may_be_numbered encode
line_ends = denotes true (codes "a\r\nb\rc\n") (more (text (codes "a\nb\nc\n")) none) 60 refl refl

with_comment : Denotes true (codes "a<!--b\r\n<p>&amp;-->c")
    (more (text (codes "a")) (more (comment (codes "b\n<p>&amp;")) (more (text (codes "c")) none)))
unfolding step is_allowed is_void may_be_numbered encode
with_comment = denotes true (codes "a<!--b\r\n<p>&amp;-->c")
    (more (text (codes "a")) (more (comment (codes "b\n<p>&amp;")) (more (text (codes "c")) none))) 60 refl refl

dropped_line_feed : Denotes true (codes "<pre>\nx\r\ny</pre>")
    (more (element (codes "pre") [] (more (text (codes "x\ny")) none)) none)
unfolding step is_allowed is_void may_be_numbered encode
dropped_line_feed = denotes true (codes "<pre>\nx\r\ny</pre>")
    (more (element (codes "pre") [] (more (text (codes "x\ny")) none)) none) 60 refl refl

dropped_reference : Denotes true (codes "<pre>&#10;x</pre>")
    (more (element (codes "pre") [] (more (text (codes "x")) none)) none)
unfolding step is_allowed is_void may_be_numbered encode
dropped_reference = denotes true (codes "<pre>&#10;x</pre>")
    (more (element (codes "pre") [] (more (text (codes "x")) none)) none) 60 refl refl

dropped_alone : Denotes true (codes "<pre>\r\n</pre>") (more (element (codes "pre") [] none) none)
unfolding step is_allowed is_void may_be_numbered encode
dropped_alone = denotes true (codes "<pre>\r\n</pre>") (more (element (codes "pre") [] none) none) 60 refl refl

textarea : Denotes true (codes "<textarea>\n\n<b>&lt;</textarea>")
    (more (element (codes "textarea") [] (more (text (codes "\n<b><")) none)) none)
unfolding step is_allowed is_void may_be_numbered encode
textarea = denotes true (codes "<textarea>\n\n<b>&lt;</textarea>")
    (more (element (codes "textarea") [] (more (text (codes "\n<b><")) none)) none) 60 refl refl

title : Denotes true (codes "<title>a<b>&amp;</TITLE >")
    (more (element (codes "title") [] (more (text (codes "a<b>&")) none)) none)
unfolding step is_allowed is_void may_be_numbered encode
title = denotes true (codes "<title>a<b>&amp;</TITLE >")
    (more (element (codes "title") [] (more (text (codes "a<b>&")) none)) none) 60 refl refl

script : Denotes true (codes "<script>if (a<b) x&amp;</script>")
    (more (element (codes "script") [] (more (text (codes "if (a<b) x&amp;")) none)) none)
unfolding step is_allowed is_void may_be_numbered encode
script = denotes true (codes "<script>if (a<b) x&amp;</script>")
    (more (element (codes "script") [] (more (text (codes "if (a<b) x&amp;")) none)) none) 60 refl refl

style : Denotes true (codes "<style>a</b></style>")
    (more (element (codes "style") [] (more (text (codes "a</b>")) none)) none)
unfolding step is_allowed is_void may_be_numbered encode
style = denotes true (codes "<style>a</b></style>")
    (more (element (codes "style") [] (more (text (codes "a</b>")) none)) none) 60 refl refl

iframe : Denotes true (codes "<iframe><p></iframe>")
    (more (element (codes "iframe") [] (more (text (codes "<p>")) none)) none)
unfolding step is_allowed is_void may_be_numbered encode
iframe = denotes true (codes "<iframe><p></iframe>")
    (more (element (codes "iframe") [] (more (text (codes "<p>")) none)) none) 60 refl refl

noembed : Denotes true (codes "<noembed><p></noembed>")
    (more (element (codes "noembed") [] (more (text (codes "<p>")) none)) none)
unfolding step is_allowed is_void may_be_numbered encode
noembed = denotes true (codes "<noembed><p></noembed>")
    (more (element (codes "noembed") [] (more (text (codes "<p>")) none)) none) 60 refl refl

noframes : Denotes true (codes "<noframes><p></noframes>")
    (more (element (codes "noframes") [] (more (text (codes "<p>")) none)) none)
unfolding step is_allowed is_void may_be_numbered encode
noframes = denotes true (codes "<noframes><p></noframes>")
    (more (element (codes "noframes") [] (more (text (codes "<p>")) none)) none) 60 refl refl

xmp : Denotes true (codes "<xmp></xm></xmp>") (more (element (codes "xmp") [] (more (text (codes "</xm>")) none)) none)
unfolding step is_allowed is_void may_be_numbered encode
xmp = denotes true (codes "<xmp></xm></xmp>") (more (element (codes "xmp") [] (more (text (codes "</xm>")) none)) none)
    60 refl refl

empty_raw_text : Denotes true (codes "<style></style>") (more (element (codes "style") [] none) none)
unfolding step is_allowed is_void may_be_numbered encode
empty_raw_text = denotes true (codes "<style></style>") (more (element (codes "style") [] none) none) 60 refl refl

noscript_on : Denotes true (codes "<noscript><p>Hello</p>&lt;</noscript>")
    (more (element (codes "noscript") [] (more (text (codes "<p>Hello</p>&lt;")) none)) none)
unfolding step is_allowed is_void may_be_numbered encode
noscript_on = denotes true (codes "<noscript><p>Hello</p>&lt;</noscript>")
    (more (element (codes "noscript") [] (more (text (codes "<p>Hello</p>&lt;")) none)) none) 60 refl refl

noscript_off : Denotes false (codes "<noscript><p>Hello</p>&lt;</noscript>")
    (more (element (codes "noscript") [] (more (element (codes "p") [] (more (text (codes "Hello")) none))
    (more (text (codes "<")) none))) none)
unfolding step is_allowed is_void may_be_numbered encode
noscript_off = denotes false (codes "<noscript><p>Hello</p>&lt;</noscript>")
    (more (element (codes "noscript") [] (more (element (codes "p") [] (more (text (codes "Hello")) none))
    (more (text (codes "<")) none))) none) 60 refl refl

paragraph_with_phrase : Denotes true (codes "<p>a<b>c</b></p>")
    (more (element (codes "p") []
    (more (text (codes "a")) (more (element (codes "b") [] (more (text (codes "c")) none)) none))) none)
unfolding step is_allowed is_void may_be_numbered encode
paragraph_with_phrase = denotes true (codes "<p>a<b>c</b></p>")
    (more (element (codes "p") []
    (more (text (codes "a")) (more (element (codes "b") [] (more (text (codes "c")) none)) none))) none) 60 refl refl

heading_below_heading : Denotes true (codes "<h1><b><h2></h2></b></h1>")
    (more (element (codes "h1") [] (more (element (codes "b") [] (more (element (codes "h2") [] none) none)) none))
    none)
unfolding step is_allowed is_void may_be_numbered encode
heading_below_heading = denotes true (codes "<h1><b><h2></h2></b></h1>")
    (more (element (codes "h1") [] (more (element (codes "b") [] (more (element (codes "h2") [] none) none)) none))
    none) 60 refl refl

list_in_item : Denotes true (codes "<ul><li>a<ul><li>b</li></ul></li></ul>")
    (more (element (codes "ul") []
    (more (element (codes "li") []
    (more (text (codes "a")) (more
    (element (codes "ul") [] (more (element (codes "li") [] (more (text (codes "b")) none)) none)) none))) none)) none)
unfolding step is_allowed is_void may_be_numbered encode
list_in_item = denotes true (codes "<ul><li>a<ul><li>b</li></ul></li></ul>")
    (more (element (codes "ul") []
    (more (element (codes "li") []
    (more (text (codes "a")) (more
    (element (codes "ul") [] (more (element (codes "li") [] (more (text (codes "b")) none)) none)) none))) none)) none)
    60 refl refl

description_in_description : Denotes true (codes "<dl><dd><dl><dt></dt></dl></dd></dl>")
    (more (element (codes "dl") []
    (more (element (codes "dd") [] (more (element (codes "dl") [] (more (element (codes "dt") [] none) none)) none))
    none)) none)
unfolding step is_allowed is_void may_be_numbered encode
description_in_description = denotes true (codes "<dl><dd><dl><dt></dt></dl></dd></dl>")
    (more (element (codes "dl") []
    (more (element (codes "dd") [] (more (element (codes "dl") [] (more (element (codes "dt") [] none) none)) none))
    none)) none) 60 refl refl

select : Denotes true (codes "<select><optgroup>a<option>b</option></optgroup><!--c--></select>")
    (more (element (codes "select") []
    (more (element (codes "optgroup") []
    (more (text (codes "a")) (more (element (codes "option") [] (more (text (codes "b")) none)) none)))
    (more (comment (codes "c")) none))) none)
unfolding step is_allowed is_void may_be_numbered encode
select = denotes true (codes "<select><optgroup>a<option>b</option></optgroup><!--c--></select>")
    (more (element (codes "select") []
    (more (element (codes "optgroup") []
    (more (text (codes "a")) (more (element (codes "option") [] (more (text (codes "b")) none)) none)))
    (more (comment (codes "c")) none))) none) 60 refl refl

implied_tbody : Denotes true (codes "<table> <tr><td x>A</td></tr> </table>")
    (more (element (codes "table") []
    (more (text (codes " ")) (more
    (element (codes "tbody") []
    (more (element (codes "tr") []
    (more (element (codes "td") (attribute_pair (codes "x") [] ∷ []) (more (text (codes "A")) none)) none))
    (more (text (codes " ")) none))) none))) none)
unfolding step is_allowed is_void may_be_numbered encode
implied_tbody = denotes true (codes "<table> <tr><td x>A</td></tr> </table>")
    (more (element (codes "table") []
    (more (text (codes " ")) (more
    (element (codes "tbody") []
    (more (element (codes "tr") []
    (more (element (codes "td") (attribute_pair (codes "x") [] ∷ []) (more (text (codes "A")) none)) none))
    (more (text (codes " ")) none))) none))) none) 60 refl refl

implied_tbody_with_end_tag : Denotes true (codes "<table><tr><td>x</td></tr></tbody></table>")
    (more (element (codes "table") []
    (more (element (codes "tbody") []
    (more (element (codes "tr") [] (more (element (codes "td") [] (more (text (codes "x")) none)) none)) none)) none))
    none)
unfolding step is_allowed is_void may_be_numbered encode
implied_tbody_with_end_tag = denotes true (codes "<table><tr><td>x</td></tr></tbody></table>")
    (more (element (codes "table") []
    (more (element (codes "tbody") []
    (more (element (codes "tr") [] (more (element (codes "td") [] (more (text (codes "x")) none)) none)) none)) none))
    none) 60 refl refl

implied_tbody_before_tfoot : Denotes true (codes "<table><tr></tr><tfoot></tfoot><tr></tr><tbody></tbody></table>")
    (more (element (codes "table") [] (more (element (codes "tbody") [] (more (element (codes "tr") [] none) none))
    (more (element (codes "tfoot") [] none)
    (more (element (codes "tbody") [] (more (element (codes "tr") [] none) none))
    (more (element (codes "tbody") [] none) none))))) none)
unfolding step is_allowed is_void may_be_numbered encode
implied_tbody_before_tfoot = denotes true (codes "<table><tr></tr><tfoot></tfoot><tr></tr><tbody></tbody></table>")
    (more (element (codes "table") [] (more (element (codes "tbody") [] (more (element (codes "tr") [] none) none))
    (more (element (codes "tfoot") [] none)
    (more (element (codes "tbody") [] (more (element (codes "tr") [] none) none))
    (more (element (codes "tbody") [] none) none))))) none) 60 refl refl

implied_tbody_before_thead : Denotes true (codes "<table><tr></tr><thead></thead></table>")
    (more (element (codes "table") [] (more (element (codes "tbody") [] (more (element (codes "tr") [] none) none))
    (more (element (codes "thead") [] none) none))) none)
unfolding step is_allowed is_void may_be_numbered encode
implied_tbody_before_thead = denotes true (codes "<table><tr></tr><thead></thead></table>")
    (more (element (codes "table") [] (more (element (codes "tbody") [] (more (element (codes "tr") [] none) none))
    (more (element (codes "thead") [] none) none))) none) 60 refl refl

implied_tbody_before_caption : Denotes true (codes "<table><tr></tr><caption></caption></table>")
    (more (element (codes "table") [] (more (element (codes "tbody") [] (more (element (codes "tr") [] none) none))
    (more (element (codes "caption") [] none) none))) none)
unfolding step is_allowed is_void may_be_numbered encode
implied_tbody_before_caption = denotes true (codes "<table><tr></tr><caption></caption></table>")
    (more (element (codes "table") [] (more (element (codes "tbody") [] (more (element (codes "tr") [] none) none))
    (more (element (codes "caption") [] none) none))) none) 60 refl refl

table_parts : Denotes true
    (codes "<table><caption>c</caption><colgroup><col></colgroup>\n&#32;<thead><tr><th>h</th></tr></thead></table>")
    (more (element (codes "table") [] (more (element (codes "caption") [] (more (text (codes "c")) none))
    (more (element (codes "colgroup") [] (more (element (codes "col") [] none) none))
    (more (text (codes "\n "))
    (more (element (codes "thead") []
    (more (element (codes "tr") [] (more (element (codes "th") [] (more (text (codes "h")) none)) none)) none))
    none))))) none)
unfolding step is_allowed is_void may_be_numbered encode
table_parts = denotes true
    (codes "<table><caption>c</caption><colgroup><col></colgroup>\n&#32;<thead><tr><th>h</th></tr></thead></table>")
    (more (element (codes "table") [] (more (element (codes "caption") [] (more (text (codes "c")) none))
    (more (element (codes "colgroup") [] (more (element (codes "col") [] none) none))
    (more (text (codes "\n "))
    (more (element (codes "thead") []
    (more (element (codes "tr") [] (more (element (codes "th") [] (more (text (codes "h")) none)) none)) none))
    none))))) none) 60 refl refl

pounds : Denotes true (codes "&pound;5 &sect;2")
    (more (text (encode_utf8 0xA3 ++ codes "5 " ++ encode_utf8 0xA7 ++ codes "2")) none)
unfolding step is_allowed is_void may_be_numbered encode
pounds = denotes true (codes "&pound;5 &sect;2")
    (more (text (encode_utf8 0xA3 ++ codes "5 " ++ encode_utf8 0xA7 ++ codes "2")) none) 60 refl refl

paragraph_and_phrase : Denotes true (codes "<p>a<b c=\"d\">e</b></p>")
    (more (element (codes "p") []
    (more (text (codes "a")) (more (element (codes "b") (attribute_pair (codes "c") (codes "d") ∷ [])
    (more (text (codes "e")) none)) none))) none)
unfolding step is_allowed is_void may_be_numbered encode
paragraph_and_phrase = denotes true (codes "<p>a<b c=\"d\">e</b></p>")
    (more (element (codes "p") []
    (more (text (codes "a")) (more (element (codes "b") (attribute_pair (codes "c") (codes "d") ∷ [])
    (more (text (codes "e")) none)) none))) none) 60 refl refl

byte_order_mark : Denotes true (encode_utf8 0xFEFF ++ codes "<!DOCTYPE html><p>a</p>")
    (more (element (codes "p") [] (more (text (codes "a")) none)) none)
unfolding step is_allowed is_void may_be_numbered encode
byte_order_mark = denotes true (encode_utf8 0xFEFF ++ codes "<!DOCTYPE html><p>a</p>")
    (more (element (codes "p") [] (more (text (codes "a")) none)) none) 60 refl refl

doctype_in_any_case : Denotes true (codes "<!doctype\n\tHTML >x") (more (text (codes "x")) none)
unfolding step is_allowed is_void may_be_numbered encode
doctype_in_any_case = denotes true (codes "<!doctype\n\tHTML >x") (more (text (codes "x")) none) 60 refl refl

white_space_and_head_elements : Denotes true (codes " <!--c--><title>t</title><script>s</script>x")
    (more (text (codes " ")) (more (comment (codes "c"))
    (more (element (codes "title") [] (more (text (codes "t")) none))
    (more (element (codes "script") [] (more (text (codes "s")) none)) (more (text (codes "x")) none)))))
unfolding step is_allowed is_void may_be_numbered encode
white_space_and_head_elements = denotes true (codes " <!--c--><title>t</title><script>s</script>x")
    (more (text (codes " ")) (more (comment (codes "c"))
    (more (element (codes "title") [] (more (text (codes "t")) none))
    (more (element (codes "script") [] (more (text (codes "s")) none)) (more (text (codes "x")) none))))) 60 refl refl
