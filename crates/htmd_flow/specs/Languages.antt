-- The language of a code block, by what pages say of it.
use Rattle.std.specs.Prelude.{ℕ, Bool, true, false, not, ◌||◌, ◌&&◌, ◌==◌, nat_le, if◌then◌else◌, List, [], ◌∷◌, ◌++◌, codes}
use Rattle.std.specs.Prelude.{drop, filter, flat_map, length, Option, Some, None}
use Rattle.std.specs.List.{list_all, starts_with, before_first}
use Rattle.std.specs.Option.{option_or}
use Rattle.htmd_lexical.specs.Characters.{semicolon}
use Rattle.htmd_lexical.specs.AttributePairs.{AttributePair}
use Rattle.htmd_shown.specs.SimpleTrees.{Simple, element, is_text}
use Rattle.htmd_shown.specs.Attributes.{value_of, text_of, words, is_any_case, is_filled, is_in_name}
use Rattle.htmd_shown.specs.Roles.{is_among}
use Rattle.htmd_shown.specs.declared.role.Role.{Role}
use Rattle.htmd_shown.specs.declared.role.Role.TheVariants.{Code}

-- ---- what an element says

abbrev pub begins_with : List ℕ → List ℕ → Bool
begins_with beginning word = starts_with (λ a b. a == b) word beginning

-- what follows a beginning, if the word has it
abbrev pub rest_of : List ℕ → List ℕ → List ℕ
rest_of beginning word = if begins_with beginning word then drop (length beginning) word else []

-- what follows the first of these beginnings that a word has, if something follows
abbrev pub after_beginning : List (List ℕ) → List ℕ → List (List ℕ)
after_beginning [] word = []
after_beginning (beginning ∷ rest) word =
    if is_filled (rest_of beginning word) then rest_of beginning word ∷ [] else after_beginning rest word

abbrev pub class_words : List AttributePair → List (List ℕ)
class_words attributes = words (text_of (codes "class") attributes)

abbrev pub prefixed : List (List ℕ) → List AttributePair → List (List ℕ)
prefixed beginnings attributes = flat_map (after_beginning beginnings) (class_words attributes)

abbrev pub own_beginnings : List (List ℕ)
own_beginnings = codes "language-" ∷ codes "lang-" ∷ []

abbrev pub near_beginnings : List (List ℕ)
near_beginnings =
    codes "highlight-source-" ∷ codes "mw-highlight-lang-" ∷ codes "language-" ∷ codes "highlight-"
    ∷ codes "lang-"
    ∷ []

abbrev pub if_said : Option (List ℕ) → List (List ℕ)
if_said None = []
if_said (Some s) = s ∷ []

abbrev pub said : List ℕ → List AttributePair → List (List ℕ)
said name attributes = if_said (value_of name attributes)

-- what the attributes for it say
abbrev pub data_of : List AttributePair → List (List ℕ)
data_of attributes =
    said (codes "data-lang") attributes ++ said (codes "data-language") attributes
    ++ said (codes "data-code-language") attributes

-- languages that pages name by a word of a class alone
abbrev pub languages : List (List ℕ)
languages =
    codes "bash" ∷ codes "c++" ∷ codes "cpp" ∷ codes "csharp" ∷ codes "css" ∷ codes "go" ∷ codes "haskell"
    ∷ codes "html" ∷ codes "java" ∷ codes "javascript" ∷ codes "js" ∷ codes "json" ∷ codes "kotlin"
    ∷ codes "lua"
    ∷ codes "perl" ∷ codes "php" ∷ codes "python" ∷ codes "qml" ∷ codes "ruby" ∷ codes "rust"
    ∷ codes "scala"
    ∷ codes "sh" ∷ codes "sql" ∷ codes "toml" ∷ codes "typescript" ∷ codes "xml" ∷ codes "yaml" ∷ []

-- words of pandoc and highlight.js that are no languages
abbrev pub no_languages : List (List ℕ)
no_languages =
    codes "numberSource" ∷ codes "numberLines" ∷ codes "literate" ∷ codes "hljs" ∷ codes "sourceCode" ∷ []

abbrev pub first_only : List (List ℕ) → List (List ℕ)
first_only [] = []
first_only (s ∷ rest) = s ∷ []

abbrev pub up_to_semicolon : List ℕ → List ℕ
up_to_semicolon s = before_first (λ b. b == semicolon) s

abbrev pub up_to_semicolons : List (List ℕ) → List (List ℕ)
up_to_semicolons [] = []
up_to_semicolons (s ∷ rest) = up_to_semicolon s ∷ up_to_semicolons rest

-- after `brush:`, in its word or in the next
abbrev pub brush : List ℕ → List (List ℕ) → List (List ℕ)
brush rest following =
    if is_filled rest then up_to_semicolon rest ∷ [] else up_to_semicolons (first_only following)

abbrev pub no_language : List ℕ → Bool
no_language word = is_among no_languages word

-- what a word says of the words after it
abbrev pub named_by : List ℕ → List (List ℕ) → List (List ℕ)
named_by word following =
    if begins_with (codes "brush:") word then brush (drop 6 word) following
    else (if is_among (codes "sourceCode" ∷ codes "hljs" ∷ []) word
    then first_only (filter (λ w. not (no_language w)) following) else [])

abbrev pub named_words : List (List ℕ) → List (List ℕ)
named_words [] = []
named_words (word ∷ following) = named_by word following ++ named_words following

-- by SyntaxHighlighter, pandoc and highlight.js, and then by a word that is a language
abbrev pub named : List AttributePair → List (List ℕ)
named attributes = named_words (class_words attributes) ++ filter (is_among languages) (class_words attributes)

-- ---- of a block

-- how many bytes a name has at most
abbrev pub longest_name : ℕ
longest_name = 64

abbrev pub is_name : List ℕ → Bool
is_name s = is_filled s && nat_le (length s) longest_name && list_all is_in_name s

-- names that say that there is none
abbrev pub is_none : List ℕ → Bool
is_none s =
    is_any_case (codes "text") s || is_any_case (codes "none") s || is_any_case (codes "plaintext") s
    || is_any_case (codes "default") s || is_any_case (codes "nohighlight") s || is_any_case (codes "notranslate") s

abbrev pub name_if : List ℕ → Option (List ℕ)
name_if s = if is_name s then Some s else None

abbrev pub first_name : List (List ℕ) → Option (List ℕ)
first_name [] = None
first_name (s ∷ found) = option_or (name_if s) (first_name found)

abbrev pub language_named : Option (List ℕ) → Option (List ℕ)
language_named None = None
language_named (Some s) = if is_none s then None else Some s

abbrev pub is_code : Role → Bool
is_code Code = true
is_code _ = false

abbrev pub is_no_text : Simple → Bool
is_no_text tree = not (is_text tree)

-- the attributes of the only node, if it is `code`
abbrev pub if_code : List Simple → List (List AttributePair)
if_code (element id role facts attributes content ∷ []) = if is_code role then attributes ∷ [] else []
if_code trees = []

-- texts aside
abbrev pub only_code : List Simple → List (List AttributePair)
only_code trees = if_code (filter is_no_text trees)

-- of its own elements, then of those near; each from the inside out
-- what the code itself says
abbrev pub own_languages : List (List AttributePair) → List (List ℕ)
own_languages own = flat_map (prefixed own_beginnings) own ++ flat_map named own ++ flat_map data_of own

-- what an element around it says
abbrev pub near_languages : List AttributePair → List (List ℕ)
near_languages attributes = prefixed near_beginnings attributes ++ data_of attributes

abbrev pub found_languages : List (List AttributePair) → List (List AttributePair) → List (List ℕ)
found_languages own near = own_languages own ++ flat_map near_languages near

-- the first name counts
abbrev pub language_of_block : List AttributePair → List Simple → List (List AttributePair) → Option (List ℕ)
language_of_block attributes trees near =
    language_named (first_name (found_languages (only_code trees ++ attributes ∷ []) near))
