-- Which of the two escapes is asked for, as the code hands it on. No public clause cites it.
use Rattle.std.specs.Prelude.{◌≡◌, ℕ, ◌<◌, true, length, Bool, not, ◌&&◌, ◌||◌, ◌==◌, List, slice_index, is_none}
use Rattle.std.specs.Char.{is_ascii}
use Rattle.std.specs.List.{list_any}
use Rattle.htmd_lexical.specs.Characters.{less_than_sign}
use Rattle.htmd_text.specs.declared.escape.EscapeKind.{EscapeKind}
use Rattle.htmd_text.specs.declared.escape.EscapeKind.TheVariants.{Html, Markdown}
use Rattle.htmd_text.specs.EscapedPlaces.{is_always_escaped, is_html_opener, is_html_opener_alone, is_place}

-- the places of a text that get a backslash
abbrev pub is_escaped_by : EscapeKind → List ℕ → ℕ → Bool
is_escaped_by Html s k = is_html_opener_alone s k
is_escaped_by (Markdown begins_block item_dot) s k =
    is_always_escaped (slice_index s k)
    || is_html_opener s k
    || ((k == 0) && begins_block)
    || is_place item_dot k

-- what gets a backslash is an ASCII character
abbrev pub AreAscii : EscapeKind → List ℕ → Type 0
AreAscii kind s = (k : ℕ) → k < length s → is_escaped_by kind s k ≡ true
    → is_ascii (slice_index s k) ≡ true

-- the character may get a backslash wherever it stands
abbrev pub is_special : ℕ → Bool
is_special b = is_always_escaped b || (b == less_than_sign)

-- no place gets a backslash, as far as its characters alone tell
abbrev pub needs_no_escape : EscapeKind → List ℕ → Bool
needs_no_escape Html s = not (list_any is_special s)
needs_no_escape (Markdown begins_block item_dot) s = not begins_block && is_none item_dot && not (list_any is_special s)
