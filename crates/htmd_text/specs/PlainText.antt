-- What a reader of Markdown must not find in text that stands for itself.
use Rattle.std.specs.Prelude.{ℕ, ◌+◌, Bool, true, not, ◌&&◌, ◌||◌, ◌==◌, nat_eq, nat_lt, if◌then◌else◌, List, [], ◌∷◌}
use Rattle.std.specs.Prelude.{slice_index, codes}
use Rattle.std.specs.List.{prefix_len, starts_with}
use Rattle.std.specs.Char.{is_ascii_alphabetic, is_ascii_digit, is_ascii_punctuation}
use Rattle.htmd_lexical.specs.Characters.{space, exclamation_mark, full_stop, slash, less_than_sign, question_mark}
use Rattle.htmd_lexical.specs.Characters.{backslash, is_one_of}

-- From each character on that no backslash escapes, the text passes (backslashes are read from left
-- to right, CommonMark 0.31.2, 2.4).
abbrev pub each_bare : (List ℕ → Bool) → List ℕ → Bool
each_bare passes [] = true
each_bare passes (b ∷ []) = passes (b ∷ [])
each_bare passes (b ∷ c ∷ s) =
    if (b == backslash) && is_ascii_punctuation c
    then each_bare passes s
    else passes (b ∷ c ∷ s) && each_bare passes (c ∷ s)

-- It does not begin with a character of code spans, emphasis, links or escapes (CommonMark 0.31.2,
-- 2.4, 6.1 to 6.4).
abbrev pub begins_no_inline : List ℕ → Bool
begins_no_inline [] = true
begins_no_inline (b ∷ s) = not (is_one_of (codes "\\*_`[]") b)

-- what follows a `<` opens no tag, instruction, declaration or comment (CommonMark 0.31.2, 6.6)
abbrev pub follows_no_html : List ℕ → Bool
follows_no_html [] = true
follows_no_html (c ∷ s) =
    not (is_ascii_alphabetic c
    || (c == question_mark)
    || ((c == slash) && is_ascii_alphabetic (slice_index s 0))
    || ((c == exclamation_mark) && not (starts_with nat_eq s (codes "\\[CDATA\\["))))

-- it does not begin with a `<` that opens HTML
abbrev pub begins_no_html : List ℕ → Bool
begins_no_html [] = true
begins_no_html (b ∷ s) = not (b == less_than_sign) || follows_no_html s

-- ASCII digits, a dot and a space (CommonMark 0.31.2, 5.2)
abbrev pub begins_item : List ℕ → Bool
begins_item s =
    let digits = prefix_len is_ascii_digit s
    in nat_lt 0 digits && (slice_index s digits == full_stop) && (slice_index s (digits + 1) == space)
