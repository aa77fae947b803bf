-- Words of a class that say what an element is for.
use Rattle.std.specs.Prelude.{ℕ, Bool, List, [], ◌∷◌, codes}
use Rattle.std.specs.List.{list_any}
use Rattle.htmd_lexical.specs.AttributePairs.{AttributePair}
use Rattle.htmd_shown.specs.Attributes.{text_of, words}
use Rattle.htmd_shown.specs.Roles.{is_among}

-- a word of the class is one of these
abbrev pub has_class : List (List ℕ) → List AttributePair → Bool
has_class names attributes = list_any (is_among names) (words (text_of (codes "class") attributes))

-- line numbers beside code
abbrev pub number_words : List (List ℕ)
number_words =
    codes "linenos" ∷ codes "lineno" ∷ codes "linenodiv" ∷ codes "lineNumbers" ∷ codes "line-numbers-rows"
    ∷ codes "gutter" ∷ codes "rouge-gutter" ∷ codes "hljs-ln-numbers" ∷ codes "blob-num" ∷ codes "ln-num"
    ∷ codes "listing_lines" ∷ []

-- links to the place that they stand in
abbrev pub permalink_words : List (List ℕ)
permalink_words =
    codes "headerlink" ∷ codes "anchor" ∷ codes "anchorjs-link" ∷ codes "permalink" ∷ codes "header-anchor"
    ∷ codes "heading-link" ∷ codes "hash-link" ∷ codes "anchor-link" ∷ codes "direct-link" ∷ []

-- what MathJax 2 puts before its script
abbrev pub mathjax_words : List (List ℕ)
mathjax_words =
    codes "MathJax" ∷ codes "MathJax_Display" ∷ codes "MathJax_Preview" ∷ codes "MathJax_SVG"
    ∷ codes "MathJax_SVG_Display" ∷ codes "MathJax_CHTML" ∷ codes "MJXc-display" ∷ codes "MJX_Assistive_MathML"
    ∷ []

-- what KaTeX and MediaWiki put after the MathML of a formula
abbrev pub katex_words : List (List ℕ)
katex_words = codes "katex-html" ∷ []

abbrev pub katex_source_words : List (List ℕ)
katex_source_words = codes "katex-mathml" ∷ []

abbrev pub wiki_words : List (List ℕ)
wiki_words = codes "mwe-math-fallback-image-inline" ∷ codes "mwe-math-fallback-image-display" ∷ []

abbrev pub wiki_source_words : List (List ℕ)
wiki_source_words =
    codes "mwe-math-mathml-inline" ∷ codes "mwe-math-mathml-display" ∷ codes "mwe-math-mathml-a11y" ∷ []
