-- A test for texts that are written as they are, as the code makes it. No public clause cites it.
use Rattle.std.specs.Prelude.{ℕ, Bool, true, not, ◌&&◌, ◌||◌, ◌==◌, nat_lt, if◌then◌else◌, List, [], ◌∷◌, codes}
use Rattle.std.specs.Char.{is_ascii_digit}
use Rattle.htmd_lexical.specs.Characters.{space, is_one_of}
use Rattle.htmd_text.specs.EscapeKinds.{is_special}

-- the byte stands for itself everywhere: not a backslash, white space or a control character
abbrev pub is_literal_byte : ℕ → Bool
is_literal_byte b = nat_lt space b && not (is_special b)

-- after a space or not: each byte from here on stands for itself, or is a single space
abbrev pub stays_literal : Bool → List ℕ → Bool
stays_literal after_space [] = true
stays_literal after_space (b ∷ s) = (is_literal_byte b || (not after_space && (b == space)))
    && stays_literal (b == space) s

-- at the start of a text the byte may begin a block or an ordered list item, or underline a heading
abbrev pub may_begin : ℕ → Bool
may_begin b = is_one_of (codes "=~>-+#") b || is_ascii_digit b

abbrev pub starts_literal : List ℕ → Bool
starts_literal [] = true
starts_literal (b ∷ s) = not (may_begin b)

-- neither the text nor what follows a space at its start begins with such a byte
abbrev pub begins_literal : List ℕ → Bool
begins_literal [] = true
begins_literal (b ∷ s) = if b == space then starts_literal s else not (may_begin b)
