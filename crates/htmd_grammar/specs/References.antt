-- Characters and character references (HTML Standard, 13.1.4), and what a run of them denotes. CR LF and a lone CR
-- are a line feed.
use Rattle.std.specs.Prelude.{ℕ, zero, suc, ◌+◌, Bool, not, ◌&&◌, ◌==◌, nat_le, nat_lt, if◌then◌else◌, List}
use Rattle.std.specs.Prelude.{[], ◌∷◌, ◌++◌, length, drop, Option, Some, None, codes}
use Rattle.std.specs.Str.{bytes_eq}
use Rattle.std.specs.Char.{encode_utf8, is_ascii_digit, is_ascii_hexdigit, is_ascii_alphanumeric}
use Rattle.htmd_lexical.specs.Characters.{line_feed, carriage_return, number_sign, ampersand, semicolon}
use Rattle.htmd_lexical.specs.CharacterClasses.{first_is, begins_in_any_case, leading_run, behind_run}
use Rattle.htmd_grammar.specs.Rules.{NamedCharacter, character_named}
use Rattle.htmd_grammar.specs.declared.fault.FaultKind.{FaultKind}
use Rattle.htmd_grammar.specs.declared.fault.FaultKind.TheVariants.{UnknownReference, BadNumber}
use Rattle.htmd_lexical.specs.Numbers.{number, is_between}

abbrev pub Names : Type 0
Names = List NamedCharacter

-- what begins at a byte of a text
pub data Piece : Type 0 where
  -- a character or a reference: this many bytes after the first one belong to it, and it stands for these
  stands : ℕ → List ℕ → Piece
  -- a reference that isn't right
  wrong : FaultKind → Piece

-- ---- references by number

-- the characters that a number may name: not U+0000, a surrogate, above U+10FFFF, or a control U+0080 to U+009F
unfoldable pub may_be_numbered : ℕ → Bool
may_be_numbered c = nat_lt 0 c && nat_le c 0x10_FFFF && not (is_between 0xD800 0xDFFF c) && not (is_between 0x80 0x9F c)

abbrev pub numbered : ℕ → ℕ → Piece
numbered n c = if may_be_numbered c then stands n (encode_utf8 c) else wrong BadNumber

-- at least one digit, and `;`
abbrev pub number_at : (ℕ → Bool) → ℕ → ℕ → List ℕ → Piece
number_at is_digit base n s =
    if first_is semicolon (behind_run is_digit s) && not (first_is semicolon s)
    then numbered (suc (n + length (leading_run is_digit s))) (number base 0 (leading_run is_digit s))
    else wrong BadNumber

-- after `&#`: decimal digits, or `x` or `X` and hexadecimal digits
abbrev pub behind_number_sign : List ℕ → Piece
behind_number_sign [] = wrong BadNumber
behind_number_sign (b ∷ s) =
    if begins_in_any_case (codes "x") (b ∷ s)
    then number_at is_ascii_hexdigit 16 2 s
    else number_at is_ascii_digit 10 1 (b ∷ s)

-- ---- references by name

abbrev pub named : ℕ → Option ℕ → Piece
named n None = wrong UnknownReference
named n (Some c) = stands n (encode_utf8 c)

-- after `&`: a number, or ASCII letters or digits and `;`, which are a name. Any other `&` is itself.
abbrev pub behind_ampersand : Names → List ℕ → Piece
behind_ampersand names s =
    if first_is number_sign s
    then behind_number_sign (drop 1 s)
    else if first_is semicolon (behind_run is_ascii_alphanumeric s) && not (first_is semicolon s)
    then named (suc (length (leading_run is_ascii_alphanumeric s)))
    (character_named names (leading_run is_ascii_alphanumeric s))
    else stands 0 (ampersand ∷ [])

-- ---- runs

-- the character or reference that begins with this byte, if these follow
abbrev pub piece_at : Names → ℕ → List ℕ → Piece
piece_at names b s =
    if b == ampersand
    then behind_ampersand names s
    else (if b == carriage_return
    then (if first_is line_feed s then stands 1 (line_feed ∷ []) else stands 0 (line_feed ∷ []))
    else stands 0 (b ∷ []))

abbrev pub behind : List ℕ → Option (List ℕ) → Option (List ℕ)
behind v None = None
behind v (Some u) = Some (v ++ u)

-- what a piece stands for, and then what the rest after it denotes
abbrev pub put : Piece → (ℕ → Option (List ℕ)) → Option (List ℕ)
put (wrong kind) rest = None
put (stands n v) rest = behind v (rest n)

-- what characters and references denote, after this many bytes of one that began before
abbrev pub decode : Names → ℕ → List ℕ → Option (List ℕ)
decode names n [] = Some []
decode names zero (b ∷ s) = put (piece_at names b s) (λ n. decode names n s)
decode names (suc n) (b ∷ s) = decode names n s

-- ---- the line feed that `pre` and `textarea` drop

abbrev pub less_line_feed : Piece → ℕ → List ℕ → List ℕ
less_line_feed (wrong kind) b s = b ∷ s
less_line_feed (stands n v) b s = if bytes_eq v (line_feed ∷ []) then drop n s else b ∷ s

-- the text without a line feed at its beginning, written or by reference
abbrev pub after_line_feed : Names → List ℕ → List ℕ
after_line_feed names [] = []
after_line_feed names (b ∷ s) = less_line_feed (piece_at names b s) b s
