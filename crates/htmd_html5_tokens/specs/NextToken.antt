-- The next token (HTML Standard, 13.2.5), of a text whose line ends are line feeds.
use Rattle.std.specs.Prelude.{ℕ, zero, suc, Bool, false, not, ◌&&◌, ◌||◌, ◌==◌, if◌then◌else◌, List, [], ◌∷◌}
use Rattle.std.specs.Prelude.{drop, take, length, codes, Option, Some, None}
use Rattle.std.specs.Char.{is_ascii_alphabetic}
use Rattle.htmd_lexical.specs.Characters.{exclamation_mark, slash, less_than_sign, greater_than_sign, question_mark}
use Rattle.htmd_lexical.specs.CharacterClasses.{is_empty, first_is, begins_with, begins_in_any_case, up_to, onward}
use Rattle.htmd_html5_tokens.specs.Tokens.{text, end_of_file, Read}
use Rattle.htmd_html5_tokens.specs.Contents.{decoded}
use Rattle.htmd_html5_tokens.specs.Tags.{read_tag}
use Rattle.htmd_html5_tokens.specs.Comments.{read_comment, read_bogus_comment}
use Rattle.htmd_html5_tokens.specs.Doctypes.{read_doctype}
use Rattle.htmd_html5_tokens.specs.RawTexts.{reading_of, raw_text_len}
use Rattle.htmd_html5_tokens.specs.declared.contents.Reading.{Reading}
use Rattle.htmd_html5_tokens.specs.declared.contents.Reading.TheVariants.{Text}
use Rattle.htmd_lexical.specs.declared.content_model.ContentModel.{ContentModel}
use Rattle.htmd_lexical.specs.declared.content_model.ContentModel.TheVariants.{Normal, Raw}
use Rattle.htmd_lexical.specs.declared.content_model.RawElement.{RawElement}

abbrev pub at_end : Read
at_end = record { token = end_of_file; rest = [] }

-- ---- text (13.2.5.1)

-- after `</`: any character but `>`; at the end of the text `</` is text, and `</>` is nothing (13.2.5.7)
abbrev pub goes_on : List ℕ → Bool
goes_on [] = false
goes_on (b ∷ s) = not (b == greater_than_sign)

-- after `<`: a letter, `!`, `?`, or `/` and any character but `>` (13.2.5.6)
abbrev pub is_markup : List ℕ → Bool
is_markup [] = false
is_markup (b ∷ s) =
    is_ascii_alphabetic b || (b == exclamation_mark) || (b == question_mark) || (b == slash && goes_on s)

abbrev pub begins_markup : List ℕ → Bool
begins_markup [] = false
begins_markup (b ∷ s) = b == less_than_sign && is_markup s

abbrev pub text_token : Reading → List ℕ → List ℕ → Read
text_token reading held s = record { token = text (decoded reading 0 held); rest = s }

abbrev pub read_text : List ℕ → Read
read_text s = text_token Text (up_to begins_markup s) (onward begins_markup s)

-- ---- CDATA sections, in foreign content (13.2.5.69 to 13.2.5.71)

abbrev pub begins_section : Bool → List ℕ → Bool
begins_section foreign s = foreign && begins_with (codes "<![CDATA[") s

abbrev pub ends_section : List ℕ → Bool
ends_section s = begins_with (codes "]]>") s

-- what follows the end of a section
abbrev pub after_section_end : List ℕ → List ℕ
after_section_end s = if begins_with (codes "]]>") s then drop 3 s else []

-- a section from just after its `<![CDATA[`: its text is what it holds
abbrev pub read_section : List ℕ → Read
read_section s =
    record { token = text (up_to ends_section s); rest = after_section_end (onward ends_section s) }

-- ---- empty pieces, which denote nothing: `</>`, and in foreign content a CDATA section that holds nothing

-- what follows a section that holds nothing, given from just after its `<![CDATA[`
abbrev pub after_empty_section : List ℕ → Option (List ℕ)
after_empty_section s =
    if is_empty s then Some s
    else if begins_with (codes "]]>") s then Some (drop 3 s)
    else None

abbrev pub after_empty_piece : Bool → List ℕ → Option (List ℕ)
after_empty_piece foreign s =
    if begins_with (codes "</>") s then Some (drop 3 s)
    else if begins_section foreign s then after_empty_section (drop 9 s)
    else None

abbrev pub or_else : List ℕ → Option (List ℕ) → (List ℕ → List ℕ) → List ℕ
or_else s None go = s
or_else s (Some rest) go = go rest

-- what follows empty pieces, at most this many
abbrev pub after_pieces : ℕ → List ℕ → Bool → List ℕ
after_pieces zero s foreign = s
after_pieces (suc k) s foreign =
    or_else s (after_empty_piece foreign s) (λ rest. after_pieces k rest foreign)

-- what follows all empty pieces at the beginning; each has at least one character
abbrev pub after_empty_pieces : Bool → List ℕ → List ℕ
after_empty_pieces foreign s = after_pieces (length s) s foreign

-- ---- markup

-- markup from just after its `<!` (13.2.5.42)
abbrev pub read_declaration : List ℕ → Read
read_declaration s =
    if begins_with (codes "--") s then read_comment (drop 2 s)
    else if begins_in_any_case (codes "doctype") s then read_doctype (drop 7 s)
    else read_bogus_comment s

abbrev pub begins_letter : List ℕ → Bool
begins_letter [] = false
begins_letter (b ∷ s) = is_ascii_alphabetic b

-- markup from just after its `<` (13.2.5.6, 13.2.5.7)
abbrev pub read_markup : List ℕ → Read
read_markup s =
    if first_is exclamation_mark s then read_declaration (drop 1 s)
    else if first_is question_mark s then read_bogus_comment s
    else if first_is slash s && not (begins_letter (drop 1 s)) then read_bogus_comment (drop 1 s)
    else read_tag s

-- ---- the token

-- the token at the beginning of a text, which begins with no empty piece
abbrev pub read_piece : Bool → List ℕ → Read
read_piece foreign s =
    if is_empty s then at_end
    else if begins_section foreign s then read_section (drop 9 s)
    else if begins_markup s then read_markup (drop 1 s)
    else read_text s

-- the text that a raw text element holds, and if there is none its end tag (13.2.5.2 to 13.2.5.5)
abbrev pub read_held : Reading → List ℕ → List ℕ → Read
read_held reading held s =
    if not (is_empty held) then text_token reading held s
    else if first_is less_than_sign s then read_tag (drop 1 s)
    else at_end

abbrev pub read_raw : RawElement → List ℕ → Read
read_raw element s =
    read_held (reading_of element) (take (raw_text_len element s) s) (drop (raw_text_len element s) s)

-- The flag says whether the adjusted current node is in foreign content.
abbrev pub next_token : ContentModel → Bool → List ℕ → Read
next_token Normal foreign s = read_piece foreign (after_empty_pieces foreign s)
next_token (Raw element) foreign s = read_raw element s
