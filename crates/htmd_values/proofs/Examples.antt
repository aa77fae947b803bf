-- Small serialisations.
use Rattle.std.proofs.Common.{◌≡◌, ℕ, true, false, List, [], ◌∷◌, ◌++◌, refl}
use Rattle.std.specs.Prelude.{codes}
use Rattle.htmd_lexical.specs.AttributePairs.{AttributePair}
use Rattle.htmd_values.specs.ValueTrees.{document, doctype, text, comment, element, none, more}
use Rattle.htmd_values.specs.Serialisation.{is_void, is_raw_text, serialisation}
use Rattle.htmd_values.specs.RawBlocks.{without_blank_lines, raw_html}
use Rattle.htmd_values.specs.SerialiserSteps.{has_blank_line}

abbrev title : List ℕ → List AttributePair
title s = record { name = codes "title"; value = s } ∷ []

serialisation-text : serialisation (text (codes "1 < 2 & 3 > 2 \"")) ≡ codes "1 &lt; 2 &amp; 3 &gt; 2 \""
serialisation-text = refl

serialisation-no_break_space : serialisation
    (text (0xC2 ∷ 0xA0 ∷ 0xC2 ∷ 0xA9 ∷ [])) ≡ codes "&nbsp;" ++ 0xC2 ∷ 0xA9 ∷ []
serialisation-no_break_space = refl

serialisation-value : serialisation
    (element (codes "br") (title (codes "<&\">")) none) ≡ codes "<br title=\"<&amp;&quot;>\">"
unfolding is_void
serialisation-value = refl

serialisation-raw_text : serialisation
    (element (codes "script") [] (more (text (codes "a<b")) none)) ≡ codes "<script>a<b</script>"
unfolding is_void is_raw_text
serialisation-raw_text = refl

serialisation-document : serialisation
    (document
    (more doctype
    (more (element (codes "p") [] (more (text (codes "<")) none))
    (more (comment (codes "<")) none)))) ≡ codes "<!DOCTYPE html><p>&lt;</p><!--<-->"
unfolding is_void is_raw_text
serialisation-document = refl

without_blank_lines-line_feeds : without_blank_lines false (codes "a\n\n\n \nb") ≡ codes "a\n&#10;\n &#10;b"
without_blank_lines-line_feeds = refl

without_blank_lines-carriage_returns : without_blank_lines false
    (codes "\r\n \r\n\r\r\n") ≡ codes "\r\n &#13;&#10;\r\r\n"
without_blank_lines-carriage_returns = refl

without_blank_lines-lone_carriage_return : without_blank_lines false (codes "a\n\rb") ≡ codes "a\n\rb"
without_blank_lines-lone_carriage_return = refl

raw_html-line_feeds : raw_html (codes "a\n \n\n b") ≡ codes "a\n &#10;\n b"
raw_html-line_feeds = refl

has_blank_line-tab : has_blank_line (codes "a\n\t\nb") ≡ true
has_blank_line-tab = refl

has_blank_line-letter : has_blank_line (codes "a\nb\n") ≡ false
has_blank_line-letter = refl
