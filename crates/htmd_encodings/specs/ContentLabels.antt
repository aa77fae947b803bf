-- The label in the attribute `content` of a `meta`: the HTML Standard, 2.4.2, "extracting a character encoding from a
-- meta element".
use Rattle.std.specs.Prelude.{ℕ, Bool, not, ◌&&◌, ◌||◌, ◌==◌, if◌then◌else◌, List, [], ◌∷◌, drop, codes, Option, Some}
use Rattle.std.specs.Prelude.{None}
use Rattle.htmd_lexical.specs.Characters.{quotation_mark, apostrophe, equals_sign, semicolon}
use Rattle.htmd_lexical.specs.WhiteSpace.{is_ascii_white_space}
use Rattle.htmd_lexical.specs.CharacterClasses.{is_empty, first_is, begins_in_any_case, leading_run, behind_run}
use Rattle.htmd_lexical.specs.TagReading.{is_other}

-- a label without quotes goes on up to white space or `;`
abbrev pub is_label_byte : ℕ → Bool
is_label_byte b = not (is_ascii_white_space b || (b == semicolon))

-- what stands before the next such quote, if there is one
abbrev pub before_quote : ℕ → List ℕ → Option (List ℕ)
before_quote quote s =
    if is_empty (behind_run (is_other quote) s) then None else Some (leading_run (is_other quote) s)

-- a label, between quotes or not
abbrev pub label_at : List ℕ → Option (List ℕ)
label_at s =
    if first_is quotation_mark s then before_quote quotation_mark (drop 1 s)
    else if first_is apostrophe s then before_quote apostrophe (drop 1 s)
    else Some (leading_run is_label_byte s)

-- what follows `charset` and white space
abbrev pub after_charset : List ℕ → List ℕ
after_charset s = behind_run is_ascii_white_space (drop 7 s)

-- what follows `charset`, `=` and white space, if they are there
abbrev pub charset_value : List ℕ → Option (List ℕ)
charset_value s =
    if begins_in_any_case (codes "charset") s && first_is equals_sign (after_charset s)
    then Some (behind_run is_ascii_white_space (drop 1 (after_charset s))) else None

abbrev pub label_or : Option (List ℕ) → Option (List ℕ) → Option (List ℕ)
label_or None next = next
label_or (Some value) next = label_at value

-- the label after the first `charset` that `=` follows
abbrev pub content_label : List ℕ → Option (List ℕ)
content_label [] = None
content_label (b ∷ s) = label_or (charset_value (b ∷ s)) (content_label s)
