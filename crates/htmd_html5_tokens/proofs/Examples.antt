-- Tokens of small texts, from the HTML Standard.
use Rattle.std.proofs.Common.{◌≡◌, ℕ, Bool, true, false, List, [], ◌∷◌, ◌++◌, refl}
use Rattle.std.specs.Prelude.{codes, not, ◌&&◌}
use Rattle.std.specs.List.{list_all, list_any}
use Rattle.std.specs.Str.{bytes_eq}
use Rattle.std.specs.Char.{is_ascii_alphanumeric}
use Rattle.htmd_lexical.specs.CharacterClasses.{begins_with}
use Rattle.htmd_lexical.specs.AttributePairs.{AttributePair}
use Rattle.htmd_html5_tokens.specs.Preprocessing.{preprocessed}
use Rattle.htmd_html5_tokens.specs.Tokens.{TagValue, TokenValue, start_tag, end_tag, text, comment, doctype}
use Rattle.htmd_html5_tokens.specs.Tokens.{end_of_file}
use Rattle.htmd_html5_tokens.specs.NamedReferences.{NamedReference, capital_names, small_names, old_names}
use Rattle.htmd_html5_tokens.specs.References.{character_numbered}
use Rattle.htmd_html5_tokens.specs.Doctypes.{quirky_identifiers, quirky_beginnings, loose_beginnings}
use Rattle.htmd_html5_tokens.specs.Doctypes.{quirky_system_identifier}
use Rattle.htmd_html5_tokens.specs.NextToken.{next_token}
use Rattle.htmd_lexical.specs.declared.content_model.ContentModel.TheVariants.{Normal, Raw}
use Rattle.htmd_lexical.specs.declared.content_model.RawElement.{RawElement}
use Rattle.htmd_lexical.specs.declared.content_model.RawElement.TheVariants.{Title, Style, Script, Plaintext}
use lib.Utf8.{encode}

-- the first token of a text
abbrev token : List ℕ → TokenValue
token s = (next_token Normal false s).token

abbrev token_in_foreign_content : List ℕ → TokenValue
token_in_foreign_content s = (next_token Normal true s).token

abbrev token_in : RawElement → List ℕ → TokenValue
token_in element s = (next_token (Raw element) false s).token

-- a tag with this name, with attributes, that doesn't end in `/>`
abbrev tag : List ℕ → List AttributePair → TagValue
tag name attributes = record { name = name; attributes = attributes; self_closing = false }

abbrev pair : List ℕ → List ℕ → AttributePair
pair name value = record { name = name; value = value }

-- U+FFFD, and the characters of `&copy;`, `&not;`, `&notin;` and `&#x80;`
abbrev replacement : List ℕ
replacement = 0xEF ∷ 0xBF ∷ 0xBD ∷ []

abbrev copyright : List ℕ
copyright = 0xC2 ∷ 0xA9 ∷ []

abbrev not_sign : List ℕ
not_sign = 0xC2 ∷ 0xAC ∷ []

abbrev not_element_of : List ℕ
not_element_of = 0xE2 ∷ 0x88 ∷ 0x89 ∷ []

abbrev euro : List ℕ
euro = 0xE2 ∷ 0x82 ∷ 0xAC ∷ []

-- ---- what is read

preprocessed-line_ends : preprocessed (0xEF ∷ 0xBB ∷ 0xBF ∷ 97 ∷ 13 ∷ 10 ∷ 13 ∷ 98 ∷ [])
    ≡ 97 ∷ 10 ∷ 10 ∷ 98 ∷ []
preprocessed-line_ends = refl

-- ---- tags

next_token-start_tag : next_token Normal false (codes "<A Href=x>y") ≡ record {
  token = start_tag (tag (codes "a") (pair (codes "href") (codes "x") ∷ []));
  rest = codes "y";
}
next_token-start_tag = refl

token-attributes : token (codes "<a b='1' =c d=e/ f>") ≡ start_tag (tag (codes "a")
    (pair (codes "b") (codes "1") ∷ pair (codes "=c") [] ∷ pair (codes "d") (codes "e/") ∷ pair (codes "f") []
    ∷ []))
token-attributes = refl

-- the first of attributes with one name counts
token-equal_names : token (codes "<a b=1 B=2>") ≡ start_tag (tag (codes "a") (pair (codes "b") (codes "1") ∷ []))
token-equal_names = refl

token-self_closing : token (codes "<br />")
    ≡ start_tag (record { name = codes "br"; attributes = []; self_closing = true })
token-self_closing = refl

token-end_tag : token (codes "</P >") ≡ end_tag (tag (codes "p") [])
token-end_tag = refl

token-null_in_names : token (codes "<a" ++ 0 ∷ codes " b" ++ 0 ∷ codes "=" ++ 0 ∷ codes ">")
    ≡ start_tag (tag (codes "a" ++ replacement) (pair (codes "b" ++ replacement) replacement ∷ []))
unfolding encode
token-null_in_names = refl

-- a text that ends in a tag
token-cut_off : token (codes "<a b='c>") ≡ end_of_file
token-cut_off = refl

-- ---- references

token-reference : token (codes "&copy;&copy") ≡ text (copyright ++ copyright)
unfolding small_names old_names
token-reference = refl

-- the longest name counts: none of those that may stand without `;` begins another, and no name goes on after `;`
begins_another : NamedReference → Bool
begins_another r = list_any (λ q. not (bytes_eq r.name q.name) && begins_with r.name q.name) old_names

begins_another-none : list_any begins_another old_names ≡ false
unfolding begins_another old_names
begins_another-none = refl

is_plain_name : NamedReference → Bool
is_plain_name r = list_all is_ascii_alphanumeric r.name

is_plain_name-capital_names : list_all (λ b. list_all is_plain_name (capital_names b))
    (codes "ABCDEFGHIJKLMNOPQRSTUVWXYZ") ≡ true
unfolding is_plain_name capital_names
is_plain_name-capital_names = refl

is_plain_name-small_names : list_all (λ b. list_all is_plain_name (small_names b))
    (codes "abcdefghijklmnopqrstuvwxyz") ≡ true
unfolding is_plain_name small_names
is_plain_name-small_names = refl

token-longest_name : token (codes "&notit; &notin;") ≡ text (not_sign ++ codes "it; " ++ not_element_of)
unfolding small_names old_names
token-longest_name = refl

-- in a value a name without `;` isn't a reference before `=`, a letter or a digit
token-reference_in_value : token (codes "<a b='&copy=&copyx&copy;x&copy'>") ≡ start_tag (tag (codes "a")
    (pair (codes "b") (codes "&copy=&copyx" ++ copyright ++ codes "x" ++ copyright) ∷ []))
unfolding small_names old_names
token-reference_in_value = refl

token-references_by_number : token (codes "&#65;&#x41 &#0;&#xD800;&#x110000;&#x80;&#;")
    ≡ text (codes "AA " ++ replacement ++ replacement ++ replacement ++ euro ++ codes "&#;")
unfolding character_numbered encode
token-references_by_number = refl

-- ---- texts

token-less_than : token (codes "1 < 2</") ≡ text (codes "1 < 2</")
token-less_than = refl

-- `</>` is nothing, and no reference goes across it
token-nothing : token (codes "</>&</>lt;") ≡ text (codes "&lt;")
unfolding small_names old_names
token-nothing = refl

-- the tree construction treats U+0000
token-null : token (0 ∷ []) ≡ text (0 ∷ [])
token-null = refl

-- ---- comments

token-comment : token (codes "<!--a--b-->") ≡ comment (codes "a--b")
token-comment = refl

token-comment_with_bang : token (codes "<!--a--!>b-->") ≡ comment (codes "a")
token-comment_with_bang = refl

token-comment_ended_at_once : token (codes "<!-->-->") ≡ comment []
token-comment_ended_at_once = refl

token-comment_to_the_end : token (codes "<!--a-" ++ 0 ∷ codes "--") ≡ comment (codes "a-" ++ replacement)
unfolding encode
token-comment_to_the_end = refl

token-question_mark : token (codes "<?a>") ≡ comment (codes "?a")
token-question_mark = refl

token-section : token (codes "<![CDATA[a]]>") ≡ comment (codes "[CDATA[a]]")
token-section = refl

-- ---- doctypes

token-doctype : token (codes "<!doctype HTML>") ≡ doctype false
token-doctype = refl

token-doctype_without_name : token (codes "<!DOCTYPE>") ≡ doctype true
token-doctype_without_name = refl

token-doctype_3_2 : token (codes "<!DOCTYPE HTML PUBLIC \"-//W3C//DTD HTML 3.2//EN\">") ≡ doctype true
unfolding quirky_identifiers quirky_beginnings
token-doctype_3_2 = refl

token-doctype_html_pro : token (codes "<!DOCTYPE HTML PUBLIC \"+//Silmaril//dtd html Pro v0r11 19970101//EN\">")
    ≡ doctype true
unfolding quirky_identifiers quirky_beginnings
token-doctype_html_pro = refl

-- a system identifier keeps HTML 4.01 Transitional from quirks mode
token-doctype_transitional : token (codes "<!DOCTYPE HTML PUBLIC \"-//W3C//DTD HTML 4.01 Transitional//EN\">")
    ≡ doctype true
unfolding quirky_identifiers quirky_beginnings loose_beginnings
token-doctype_transitional = refl

token-doctype_with_system : token
    (codes "<!DOCTYPE HTML PUBLIC \"-//W3C//DTD HTML 4.01 Transitional//EN\" \"loose.dtd\">") ≡ doctype false
unfolding quirky_identifiers quirky_beginnings loose_beginnings quirky_system_identifier
token-doctype_with_system = refl

-- ---- raw texts and sections

token_in-title : token_in Title (codes "a&copy;" ++ 0 ∷ codes "</b></TITLE>")
    ≡ text (codes "a" ++ copyright ++ replacement ++ codes "</b>")
unfolding small_names old_names encode
token_in-title = refl

token_in-style : token_in Style (codes "&copy;</styles></style>") ≡ text (codes "&copy;</styles>")
token_in-style = refl

token_in-end_tag : token_in Style (codes "</style>") ≡ end_tag (tag (codes "style") [])
token_in-end_tag = refl

-- in `<!--` the end tag of an inner `<script>` doesn't end the script
token_in-script : token_in Script (codes "<!--<script></script></script>") ≡ text (codes "<!--<script></script>")
token_in-script = refl

token_in-plaintext : token_in Plaintext (codes "</plaintext>") ≡ text (codes "</plaintext>")
token_in-plaintext = refl

token_in_foreign_content-section : token_in_foreign_content (codes "<![CDATA[a]&lt;]]>b") ≡ text (codes "a]&lt;")
token_in_foreign_content-section = refl

-- an empty section is nothing
token_in_foreign_content-empty_section : token_in_foreign_content (codes "<![CDATA[]]>a") ≡ text (codes "a")
token_in_foreign_content-empty_section = refl
