-- What shows a formula again, beside the formula.
use Rattle.std.specs.Prelude.{ℕ, Bool, true, false, not, ◌||◌, ◌&&◌, if◌then◌else◌, List, codes, is_some, Option, Some, None}
use Rattle.std.specs.Str.{bytes_eq}
use Rattle.htmd_lexical.specs.AttributePairs.{AttributePair}
use Rattle.htmd_nodes.specs.NumberedTrees.{NumberedTree, text, element, NumberedForest}
use Rattle.htmd_nodes.specs.NumberedTrees.{none, more}
use Rattle.htmd_shown.specs.Spaces.{is_blank_text}
use Rattle.htmd_shown.specs.ClassWords.{has_class, mathjax_words, katex_words, katex_source_words}
use Rattle.htmd_shown.specs.ClassWords.{wiki_words, wiki_source_words}
use Rattle.htmd_shown.specs.Formulas.{is_tex_type, tex_of_script}
use Rattle.htmd_shown.specs.Roles.{is_among}

abbrev pub is_script : List ℕ → Bool
is_script name = bytes_eq name (codes "script")

-- a blank text, a comment, or what MathJax puts before its script
abbrev pub is_passed : NumberedTree → Bool
is_passed (text id s) = is_blank_text s
is_passed (element id name attributes children) = not (is_script name) && has_class mathjax_words attributes
is_passed _ = true

-- a script with TeX that isn't skipped
abbrev pub is_tex_script : List (List ℕ) → NumberedTree → Bool
is_tex_script skip (element id name attributes children) =
    is_script name && not (is_among skip (codes "script")) && is_some (tex_of_script attributes children)
is_tex_script skip _ = false

-- a script whose type says that it has TeX
abbrev pub is_script_element : NumberedTree → Bool
is_script_element (element id name attributes children) = is_script name && is_tex_type attributes
is_script_element _ = false

-- one of these is such
abbrev pub has_script : NumberedForest → Bool
has_script none = false
has_script (more tree trees) = is_script_element tree || has_script trees

-- the first of these that isn't passed is a script with TeX
abbrev pub leads_to_script : List (List ℕ) → NumberedForest → Bool
leads_to_script skip none = false
leads_to_script skip (more tree trees) =
    if is_passed tree then leads_to_script skip trees else is_tex_script skip tree

abbrev pub is_element : NumberedTree → Bool
is_element (element id name attributes children) = true
is_element _ = false

-- what KaTeX or MediaWiki put after the MathML; before: the attributes of the last element before
abbrev pub is_copy_of : List AttributePair → List AttributePair → Bool
is_copy_of before attributes =
    (has_class katex_words attributes && has_class katex_source_words before)
    || (has_class wiki_words attributes && has_class wiki_source_words before)

abbrev pub is_copied : Option (List AttributePair) → List AttributePair → Bool
is_copied None attributes = false
is_copied (Some before) attributes = is_copy_of before attributes

abbrev pub is_copy : Option (List AttributePair) → NumberedTree → Bool
is_copy before (element id name attributes children) = is_copied before attributes
is_copy before _ = false

-- It shows a formula again: as a copy, or as what MathJax made of the script that follows.
abbrev pub is_repeat : Option (List AttributePair) → NumberedTree → Bool → Bool
is_repeat before tree follows = is_copy before tree || (is_element tree && is_passed tree && follows)

-- the last element so far
abbrev pub last_element : Option (List AttributePair) → NumberedTree → Option (List AttributePair)
last_element before (element id name attributes children) = Some attributes
last_element before tree = before
