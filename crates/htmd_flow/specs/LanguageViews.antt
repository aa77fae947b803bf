-- What the source knows of the words of a class, and of the code in a code block.
use Rattle.std.specs.Prelude.{ℕ, Bool, true, false, not, filter, ◌&&◌, if◌then◌else◌, List, [], ◌∷◌, codes}
use Rattle.std.specs.Str.{bytes_eq}
use Rattle.htmd_lexical.specs.AttributePairs.{AttributePair}
use Rattle.htmd_shown.specs.SimpleTrees.{Simple, element}
use Rattle.htmd_shown.specs.Roles.{is_among}
use Rattle.htmd_flow.specs.FlowViews as flow
use Rattle.htmd_flow.specs.Languages.{rest_of, no_language, only_code, is_code, is_no_text, first_only, up_to_semicolon}
use Rattle.htmd_flow.specs.Languages.{up_to_semicolons}
use Rattle.htmd_flow.specs.declared.language.Next.{Next}
use Rattle.htmd_flow.specs.declared.language.Next.TheVariants as next
use Rattle.htmd_flow.specs.declared.place.Near.{Near}

abbrev pub near_in : Near → List (List AttributePair)
near_in near = flow.near_in near

-- the attributes of the code, if there is one
abbrev pub first_of : List (List AttributePair) → List AttributePair
first_of [] = []
first_of (attributes ∷ rest) = attributes

abbrev pub code_attributes : List Simple → List AttributePair
code_attributes trees = first_of (only_code trees)

abbrev pub attributes_if_code : Simple → List AttributePair
attributes_if_code (element id role facts attributes content) = if is_code role then attributes else []
attributes_if_code _ = []

-- those of the code, where all nodes before were texts, or one wasn't and these are its attributes
abbrev pub if_last : List AttributePair → List Simple → List AttributePair
if_last attributes [] = attributes
if_last attributes (tree ∷ trees) = []

abbrev pub code_among : Bool → List AttributePair → List Simple → List AttributePair
code_among true attributes trees = code_attributes trees
code_among false attributes trees = if_last attributes (filter is_no_text trees)

-- the name that a word is by the words before it
abbrev pub expected : Next → List ℕ → List (List ℕ)
expected next.Nothing word = []
expected next.Brush word = up_to_semicolon word ∷ []
expected next.Language word = if no_language word then [] else word ∷ []

-- the name after `brush:` in a word
abbrev pub brushed : List ℕ → List (List ℕ)
brushed word = up_to_semicolon (rest_of (codes "brush:") word) ∷ []

abbrev pub is_language : Next → Bool
is_language next.Language = true
is_language _ = false

-- what a word says about the next one
abbrev pub next_after : Next → List ℕ → Next
next_after n word =
    if bytes_eq word (codes "brush:") then next.Brush
    else (if is_among (codes "sourceCode" ∷ codes "hljs" ∷ []) word then next.Language
    else (if is_language n && no_language word then next.Language else next.Nothing))

-- the names that words are by the words before them
abbrev pub pending : Next → List (List ℕ) → List (List ℕ)
pending next.Nothing following = []
pending next.Brush following = up_to_semicolons (first_only following)
pending next.Language following = first_only (filter (λ w. not (no_language w)) following)
