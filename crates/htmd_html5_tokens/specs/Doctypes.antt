-- Doctypes (HTML Standard, 13.2.5.53 to 13.2.5.68), and which of them mean quirks mode (13.2.6.4.1).
use Rattle.std.specs.Prelude.{ℕ, Bool, true, false, not, ◌||◌, if◌then◌else◌, List, [], ◌∷◌, drop, map}
use Rattle.std.specs.Prelude.{Option, Some, None, codes}
use Rattle.std.specs.List.{list_any}
use Rattle.std.specs.Str.{bytes_eq}
use Rattle.std.specs.Char.{to_ascii_lowercase}
use Rattle.htmd_lexical.specs.Characters.{quotation_mark, apostrophe}
use Rattle.htmd_lexical.specs.WhiteSpace.{is_ascii_white_space}
use Rattle.htmd_lexical.specs.CharacterClasses.{is_empty, first_is, begins_in_any_case, leading_run, behind_run}
use Rattle.htmd_lexical.specs.CharacterClasses.{is_among}
use Rattle.htmd_lexical.specs.TagReading.{is_other}
use Rattle.htmd_html5_tokens.specs.Comments.{before_sign, after_sign}
use Rattle.htmd_html5_tokens.specs.Tokens.{doctype, Read}

-- ---- identifiers that mean quirks mode, in lower case

-- public identifiers
unfoldable pub quirky_identifiers : List (List ℕ)
quirky_identifiers =
    codes "-//w3o//dtd w3 html strict 3.0//en//"
    ∷ codes "-/w3c/dtd html 4.0 transitional/en"
    ∷ codes "html"
    ∷ []

-- beginnings of public identifiers
unfoldable pub quirky_beginnings : List (List ℕ)
quirky_beginnings =
    codes "+//silmaril//dtd html pro v0r11 19970101//"
    ∷ codes "-//advasoft ltd//dtd html 3.0 aswedit + extensions//"
    ∷ codes "-//as//dtd html 3.0 aswedit + extensions//"
    ∷ codes "-//ietf//dtd html 2.0 level 1//"
    ∷ codes "-//ietf//dtd html 2.0 level 2//"
    ∷ codes "-//ietf//dtd html 2.0 strict level 1//"
    ∷ codes "-//ietf//dtd html 2.0 strict level 2//"
    ∷ codes "-//ietf//dtd html 2.0 strict//"
    ∷ codes "-//ietf//dtd html 2.0//"
    ∷ codes "-//ietf//dtd html 2.1e//"
    ∷ codes "-//ietf//dtd html 3.0//"
    ∷ codes "-//ietf//dtd html 3.2 final//"
    ∷ codes "-//ietf//dtd html 3.2//"
    ∷ codes "-//ietf//dtd html 3//"
    ∷ codes "-//ietf//dtd html level 0//"
    ∷ codes "-//ietf//dtd html level 1//"
    ∷ codes "-//ietf//dtd html level 2//"
    ∷ codes "-//ietf//dtd html level 3//"
    ∷ codes "-//ietf//dtd html strict level 0//"
    ∷ codes "-//ietf//dtd html strict level 1//"
    ∷ codes "-//ietf//dtd html strict level 2//"
    ∷ codes "-//ietf//dtd html strict level 3//"
    ∷ codes "-//ietf//dtd html strict//"
    ∷ codes "-//ietf//dtd html//"
    ∷ codes "-//metrius//dtd metrius presentational//"
    ∷ codes "-//microsoft//dtd internet explorer 2.0 html strict//"
    ∷ codes "-//microsoft//dtd internet explorer 2.0 html//"
    ∷ codes "-//microsoft//dtd internet explorer 2.0 tables//"
    ∷ codes "-//microsoft//dtd internet explorer 3.0 html strict//"
    ∷ codes "-//microsoft//dtd internet explorer 3.0 html//"
    ∷ codes "-//microsoft//dtd internet explorer 3.0 tables//"
    ∷ codes "-//netscape comm. corp.//dtd html//"
    ∷ codes "-//netscape comm. corp.//dtd strict html//"
    ∷ codes "-//o'reilly and associates//dtd html 2.0//"
    ∷ codes "-//o'reilly and associates//dtd html extended 1.0//"
    ∷ codes "-//o'reilly and associates//dtd html extended relaxed 1.0//"
    ∷ codes "-//softquad software//dtd hotmetal pro 6.0::19990601::extensions to html 4.0//"
    ∷ codes "-//softquad//dtd hotmetal pro 4.0::19971010::extensions to html 4.0//"
    ∷ codes "-//spyglass//dtd html 2.0 extended//"
    ∷ codes "-//sq//dtd html 2.0 hotmetal + extensions//"
    ∷ codes "-//sun microsystems corp.//dtd hotjava html//"
    ∷ codes "-//sun microsystems corp.//dtd hotjava strict html//"
    ∷ codes "-//w3c//dtd html 3 1995-03-24//"
    ∷ codes "-//w3c//dtd html 3.2 draft//"
    ∷ codes "-//w3c//dtd html 3.2 final//"
    ∷ codes "-//w3c//dtd html 3.2//"
    ∷ codes "-//w3c//dtd html 3.2s draft//"
    ∷ codes "-//w3c//dtd html 4.0 frameset//"
    ∷ codes "-//w3c//dtd html 4.0 transitional//"
    ∷ codes "-//w3c//dtd html experimental 19960712//"
    ∷ codes "-//w3c//dtd html experimental 970421//"
    ∷ codes "-//w3c//dtd w3 html//"
    ∷ codes "-//w3o//dtd w3 html 3.0//"
    ∷ codes "-//webtechs//dtd mozilla html 2.0//"
    ∷ codes "-//webtechs//dtd mozilla html//"
    ∷ []

-- the same, if there is no system identifier
unfoldable pub loose_beginnings : List (List ℕ)
loose_beginnings =
    codes "-//w3c//dtd html 4.01 frameset//"
    ∷ codes "-//w3c//dtd html 4.01 transitional//"
    ∷ []

-- a system identifier
unfoldable pub quirky_system_identifier : List ℕ
quirky_system_identifier = codes "http://www.ibm.com/data/dtd/v11/ibmxhtml1-transitional.dtd"

-- the text begins with one of these in any case
abbrev pub begins_with_one : List (List ℕ) → List ℕ → Bool
begins_with_one beginnings s = list_any (λ beginning. begins_in_any_case beginning s) beginnings

-- in any case
abbrev pub is_quirky : List ℕ → Bool
is_quirky public =
    is_among quirky_identifiers (map to_ascii_lowercase public) || begins_with_one quirky_beginnings public

abbrev pub is_loose : List ℕ → Bool
is_loose public = begins_with_one loose_beginnings public

abbrev pub is_quirky_system : List ℕ → Bool
is_quirky_system system = bytes_eq (map to_ascii_lowercase system) quirky_system_identifier

-- ---- what is between `<!DOCTYPE` and `>`. What isn't of the form means quirks mode.

-- what quotes hold at the beginning, and what follows them
pub record Quoted : Type 0 where
  pub held : List ℕ
  pub rest : List ℕ

abbrev pub quoted_by : ℕ → List ℕ → Option Quoted
quoted_by quote s =
    if is_empty (behind_run (is_other quote) s) then None
    else Some (record { held = leading_run (is_other quote) s; rest = drop 1 (behind_run (is_other quote) s) })

abbrev pub quoted : List ℕ → Option Quoted
quoted s =
    if first_is quotation_mark s then quoted_by quotation_mark (drop 1 s)
    else if first_is apostrophe s then quoted_by apostrophe (drop 1 s)
    else None

abbrev pub after_white : List ℕ → List ℕ
after_white s = behind_run is_ascii_white_space s

abbrev pub means_quirks_by_system : Option Quoted → Bool
means_quirks_by_system None = true
means_quirks_by_system (Some system) = is_quirky_system system.held

abbrev pub means_quirks_by_both : List ℕ → Option Quoted → Bool
means_quirks_by_both public None = true
means_quirks_by_both public (Some system) = is_quirky_system system.held || is_quirky public

-- after the public identifier (13.2.5.61, 13.2.5.62)
abbrev pub means_quirks_after_public : List ℕ → List ℕ → Bool
means_quirks_after_public public s =
    if is_empty s then is_quirky public || is_loose public else means_quirks_by_both public (quoted s)

abbrev pub means_quirks_by_public : Option Quoted → Bool
means_quirks_by_public None = true
means_quirks_by_public (Some public) = means_quirks_after_public public.held (after_white public.rest)

-- after the name (13.2.5.56)
abbrev pub means_quirks_by_identifiers : List ℕ → Bool
means_quirks_by_identifiers s =
    if is_empty s then false
    else if begins_in_any_case (codes "public") s then means_quirks_by_public (quoted (after_white (drop 6 s)))
    else if begins_in_any_case (codes "system") s then means_quirks_by_system (quoted (after_white (drop 6 s)))
    else true

abbrev pub is_black : ℕ → Bool
is_black b = not (is_ascii_white_space b)

-- from the name on, which must be `html`
abbrev pub means_quirks_from_name : List ℕ → Bool
means_quirks_from_name s =
    not (bytes_eq (map to_ascii_lowercase (leading_run is_black s)) (codes "html"))
    || means_quirks_by_identifiers (after_white (behind_run is_black s))

abbrev pub means_quirks : List ℕ → Bool
means_quirks s = means_quirks_from_name (after_white s)

-- a doctype from just after its `<!DOCTYPE`
abbrev pub read_doctype : List ℕ → Read
read_doctype s = record { token = doctype (means_quirks (before_sign s)); rest = after_sign s }
