-- What the characters of a text, of a raw text or of a value stand for, with the references among them.
use Rattle.std.specs.Prelude.{ℕ, zero, suc, Bool, true, false, not, ◌&&◌, ◌==◌, if◌then◌else◌, List, [], ◌∷◌, ◌++◌}
use Rattle.std.specs.Prelude.{codes}
use Rattle.std.specs.Prelude.{map}
use Rattle.std.specs.Char.{encode_utf8, to_ascii_lowercase}
use Rattle.htmd_lexical.specs.Characters.{null, ampersand, less_than_sign}
use Rattle.htmd_lexical.specs.CharacterClasses.{begins_with}
use Rattle.htmd_html5_tokens.specs.References.{Piece, replacement_character, after_ampersand}
use Rattle.htmd_html5_tokens.specs.declared.contents.Reading.{Reading}
use Rattle.htmd_html5_tokens.specs.declared.contents.Reading.TheVariants.{Text, EscapableRawText, RawText}
use Rattle.htmd_html5_tokens.specs.declared.contents.Reading.TheVariants.{AttributeValue}

-- whether `&` begins references
abbrev pub has_references : Reading → Bool
has_references Text = true
has_references EscapableRawText = true
has_references RawText = false
has_references AttributeValue = true

-- text outside raw text elements: `</>` stands for nothing in it, and U+0000 for itself, since the tree construction
-- treats that
abbrev pub is_text : Reading → Bool
is_text Text = true
is_text EscapableRawText = false
is_text RawText = false
is_text AttributeValue = false

abbrev pub is_value : Reading → Bool
is_value Text = false
is_value EscapableRawText = false
is_value RawText = false
is_value AttributeValue = true

-- what begins with a byte, if these follow
abbrev pub piece_at : Reading → ℕ → List ℕ → Piece
piece_at reading b s =
    if b == ampersand && has_references reading then after_ampersand (is_value reading) s
    else if b == less_than_sign && (is_text reading && begins_with (codes "/>") s)
    then record { following = 2; characters = [] }
    else if b == null && not (is_text reading)
    then record { following = 0; characters = encode_utf8 replacement_character }
    else record { following = 0; characters = b ∷ [] }

-- what a piece stands for, and then what the rest does
abbrev pub put : Piece → (ℕ → List ℕ) → List ℕ
put piece rest = piece.characters ++ rest piece.following

-- what the characters stand for, but for this many bytes of a piece that began before
abbrev pub decoded : Reading → ℕ → List ℕ → List ℕ
decoded reading n [] = []
decoded reading zero (b ∷ s) = put (piece_at reading b s) (λ n. decoded reading n s)
decoded reading (suc n) (b ∷ s) = decoded reading n s

-- a name: in lower case, with U+FFFD for U+0000
abbrev pub name_of : List ℕ → List ℕ
name_of s = map to_ascii_lowercase (decoded RawText 0 s)
