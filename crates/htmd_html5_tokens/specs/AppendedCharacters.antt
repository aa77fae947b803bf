-- How characters are appended to others.
use Rattle.std.specs.Prelude.{◌≡◌, ℕ, Bool, not, ◌&&◌, ◌||◌, ◌==◌, List, ◌++◌}
use Rattle.std.specs.Char.{is_ascii_uppercase}
use Rattle.htmd_lexical.specs.Characters.{null, ampersand, less_than_sign}
use Rattle.htmd_lexical.specs.CharacterClasses.{is_empty}
use Rattle.htmd_html5_tokens.specs.Contents.{decoded}
use Rattle.htmd_html5_tokens.specs.NextToken.{begins_markup}
use Rattle.htmd_html5_tokens.specs.declared.contents.Reading.{Reading}
use Rattle.htmd_html5_tokens.specs.declared.contents.Reading.TheVariants.{Text, EscapableRawText, RawText}
use Rattle.htmd_html5_tokens.specs.declared.contents.Reading.TheVariants.{AttributeValue}

-- a byte that stands for itself whatever follows
abbrev pub is_literal : Reading → ℕ → Bool
is_literal Text b = not (b == ampersand) && not (b == less_than_sign)
is_literal EscapableRawText b = not (b == ampersand) && not (b == null)
is_literal RawText b = not (b == null)
is_literal AttributeValue b = not (b == ampersand) && not (b == null)

-- a character of a name that stands for itself
abbrev pub is_small : ℕ → Bool
is_small b = not (b == null) && not (is_ascii_uppercase b)

-- what is between two places of a text was appended
abbrev pub HasPushed : Reading → List ℕ → List ℕ → List ℕ → List ℕ → Type 0
HasPushed reading before s after rest = after ++ decoded reading 0 rest ≡ before ++ decoded reading 0 s

-- a text ends here, at the end of the page or before markup
abbrev pub ends_text : List ℕ → Bool
ends_text s = is_empty s || begins_markup s
