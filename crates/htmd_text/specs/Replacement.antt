-- How the code squeezes white space: what is in place of one byte, and a test for texts that stay. No public clause
-- cites it.
use Rattle.std.specs.Prelude.{◌≡◌, ◌==◌, ℕ, Bool, true, false, not, ◌&&◌, ◌||◌, List, [], ◌∷◌, ◌++◌, drop, slice_index}
use Rattle.std.specs.Prelude.{Option, Some, None}
use Rattle.htmd_lexical.specs.Characters.{space}
use Rattle.htmd_lexical.specs.WhiteSpace.{is_ascii_white_space}
use Rattle.htmd_text.specs.SqueezedTexts.{squeezed_text}

-- the first byte is white space, and other bytes are in its place
pub record IsReplaced (s instead : List ℕ) : Type 0 where
  pub white : is_ascii_white_space (slice_index s 0) ≡ true
  pub whole : squeezed_text s ≡ instead ++ squeezed_text (drop 1 s)

-- after white space or not: each white space from here on is a single space
abbrev pub is_squeezed : Bool → List ℕ → Bool
is_squeezed after_white [] = true
is_squeezed after_white (b ∷ s) =
    (not (is_ascii_white_space b) || (not after_white && (b == space))) && is_squeezed (is_ascii_white_space b) s

-- the same after bytes of which it is known whether they end in white space, if each there is a single space
abbrev pub is_squeezed_after : Option Bool → List ℕ → Bool
is_squeezed_after None s = false
is_squeezed_after (Some after_white) s = is_squeezed after_white s
