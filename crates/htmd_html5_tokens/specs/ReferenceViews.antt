-- What the functions on references answer.
use Rattle.std.specs.Prelude.{◌≡◌, ℕ, ◌<◌, Bool, true, List}
use Rattle.std.specs.Char.{encode_utf8}
use Rattle.htmd_html5_tokens.specs.References.{Piece}
use Rattle.htmd_html5_tokens.specs.declared.references.Characters.{Characters}
use Rattle.htmd_html5_tokens.specs.declared.references.Characters.TheVariants.{One, Named}
use Rattle.htmd_html5_tokens.specs.declared.references.Reference.{Reference}

abbrev pub characters_of : Characters → List ℕ
characters_of (One c) = encode_utf8 c
characters_of (Named s) = s.now

abbrev pub piece_of : Reference → Piece
piece_of r = record { following = r.following; characters = characters_of r.characters }

-- only ASCII passes
abbrev pub IsAsciiTest : (ℕ → Bool) → Type 0
IsAsciiTest p = (b : ℕ) → p b ≡ true → b < 128
