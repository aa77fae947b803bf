-- Characters and references of the strict grammar, as the lenient reader reads them.
use Rattle.std.specs.Prelude.{◌≡◌, ℕ, Bool, true, false, not, ◌&&◌, ◌||◌, ◌==◌, if◌then◌else◌, List, [], ◌∷◌}
use Rattle.std.specs.Prelude.{length, drop, Option, Some, None, codes}
use Rattle.std.specs.Char.{is_ascii_alphanumeric, is_ascii_alphabetic}
use Rattle.htmd_lexical.specs.Characters.{null, carriage_return, ampersand, semicolon, less_than_sign}
use Rattle.htmd_lexical.specs.Characters.{greater_than_sign}
use Rattle.htmd_lexical.specs.CharacterClasses.{first_is, begins_in_any_case, behind_run, lacks, up_to}
use Rattle.htmd_grammar.specs.References.{decode}
use Rattle.htmd_grammar.specs.RawContent.{begins_markup}
use Rattle.htmd_grammar.specs.Rules.{named_characters}
use Rattle.htmd_html5_tokens.specs.NamedReferences.{NamedReference, longest_old}
use Rattle.htmd_html5_tokens.specs.References.{goes_on}
use Rattle.htmd_html5_tokens.specs.Contents.{decoded}
use Rattle.htmd_html5_tokens.specs.Tags.{attribute_of}
use Rattle.htmd_html5_tokens.specs.RawTexts.{reading_of}
use Rattle.htmd_html5_tokens.specs.NextToken.{read_text}
use Rattle.htmd_html5_tokens.specs.Tokens.{text}
use Rattle.htmd_lexical.specs.declared.content_model.RawElement.TheVariants.{Title}

-- ---- where a reference stands

-- outside start tags, in one, or after the start tag of a `title`, whose text may look like tags
pub data Place : Type 0 where
  outside : Place
  in_tag : Place
  after_title : Place

abbrev pub is_in_tag : Place → Bool
is_in_tag outside = false
is_in_tag in_tag = true
is_in_tag after_title = false

abbrev pub begins_letter : List ℕ → Bool
begins_letter [] = false
begins_letter (b ∷ s) = is_ascii_alphabetic b

-- after the `<` of a start tag, if this follows
abbrev pub place_of_tag : List ℕ → Place
place_of_tag s = if begins_in_any_case (codes "title") s then after_title else in_tag

-- `<` and a letter begin a start tag, and the first `>` ends it, in a value too
abbrev pub place_moved : Place → ℕ → List ℕ → Place
place_moved here b s =
    if b == less_than_sign && begins_letter s then place_of_tag s
    else if b == greater_than_sign then outside else here

-- after a byte, if these follow; a title is never left
abbrev pub place_after : Place → ℕ → List ℕ → Place
place_after after_title b s = after_title
place_after here b s = place_moved here b s

-- ---- references by name without `;`

-- a name without `;` counts, but in the value of an attribute not before `=`, a letter or a digit
abbrev pub counts : Bool → Option NamedReference → List ℕ → Bool
counts in_value None s = false
counts in_value (Some r) s = not (in_value && goes_on (drop (length r.name) s))

-- after `&`: a name that may stand without `;` and counts, and no `;` after the letters and digits that come
abbrev pub is_bare_reference : Bool → List ℕ → Bool
is_bare_reference in_value s =
    counts in_value (longest_old s) s && not (first_is semicolon (behind_run is_ascii_alphanumeric s))

-- somewhere in the text such a name stands without `;`: the strict grammar leaves it as it is
abbrev pub has_bare_reference : Place → List ℕ → Bool
has_bare_reference here [] = false
has_bare_reference here (b ∷ s) =
    (b == ampersand && is_bare_reference (is_in_tag here) s) || has_bare_reference (place_after here b s) s

-- A text that begins at such a place, whose line ends are line feeds, without U+0000, and where each reference by name
-- that counts has its `;`.
pub record IsUnambiguousAt (here : Place) (s : List ℕ) : Type 0 where
  pub line_feeds : lacks carriage_return s ≡ true
  pub no_null : lacks null s ≡ true
  pub references_end : has_bare_reference here s ≡ false

abbrev pub IsUnambiguous : List ℕ → Type 0
IsUnambiguous s = IsUnambiguousAt outside s

-- ---- the law

-- the value of an attribute that is spelled so
abbrev pub value_spelled : List ℕ → List ℕ
value_spelled s = (attribute_of (record { name = []; value = s })).value

-- What characters and references denote by the strict grammar is what they stand for by the lenient reader: in a text
-- where no markup begins, which is one token, in an element of only text, and in the value of an attribute.
abbrev pub ReferencesAgree : Type 0
ReferencesAgree =
    (s u : List ℕ) → decode named_characters 0 s ≡ Some u
    → (IsUnambiguous s → up_to begins_markup s ≡ s → read_text s ≡ record { token = text u; rest = [] })
    × (IsUnambiguousAt after_title s → decoded (reading_of Title) 0 s ≡ u)
    × (IsUnambiguousAt in_tag s → value_spelled s ≡ u)
