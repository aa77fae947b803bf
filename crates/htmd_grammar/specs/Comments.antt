-- Comments (HTML Standard, 13.1.6) and the doctype (13.1.1).
use Rattle.std.specs.Prelude.{◌≡◌, ℕ, Bool, true, not, ◌&&◌, if◌then◌else◌, List, [], ◌∷◌, ◌++◌, drop, Option}
use Rattle.std.specs.Prelude.{Some, None, option_map, codes}
use Rattle.htmd_lexical.specs.Characters.{greater_than_sign}
use Rattle.htmd_lexical.specs.WhiteSpace.{is_ascii_white_space}
use Rattle.htmd_lexical.specs.CharacterClasses.{first_is, begins_with, begins_in_any_case, behind_run, holds}
use Rattle.htmd_lexical.specs.LineEnds.{normalized}

-- what comes before the first `-->`, and what follows it
abbrev pub before_comment_end : List ℕ → Option (List ℕ × List ℕ)
before_comment_end [] = None
before_comment_end (b ∷ s) =
    if begins_with (codes "-->") (b ∷ s) then Some ([], drop 2 s)
    else option_map (λ p. (b ∷ p.0, p.1)) (before_comment_end s)

-- the text of a comment neither begins with `>` or `->` nor holds `--!>`
abbrev pub is_comment_text : List ℕ → Bool
is_comment_text s = not (begins_with (codes ">") s) && not (begins_with (codes "->") s) && not (holds (codes "--!>") s)

-- a comment with this text
abbrev pub IsComment : List ℕ → List ℕ → Type 0
IsComment s u =
    (tail body : List ℕ) × (s ≡ codes "<!--" ++ tail) × (before_comment_end tail ≡ Some (body, []))
    × (is_comment_text body ≡ true) × (u ≡ normalized body)

-- ---- the doctype: `<!DOCTYPE`, white space, `html`, optional white space and `>`, in any case

abbrev pub doctype_end : List ℕ → Option (List ℕ)
doctype_end s = if first_is greater_than_sign s then Some (drop 1 s) else None

abbrev pub doctype_name : List ℕ → Option (List ℕ)
doctype_name s = if begins_in_any_case (codes "html") s then doctype_end (behind_run is_ascii_white_space (drop 4 s))
    else None

abbrev pub white_space_and_name : List ℕ → Option (List ℕ)
white_space_and_name [] = None
white_space_and_name (b ∷ s) = if is_ascii_white_space b then doctype_name (behind_run is_ascii_white_space s)
    else None

-- what follows the doctype with which the text begins
abbrev pub behind_doctype : List ℕ → Option (List ℕ)
behind_doctype s = if begins_in_any_case (codes "<!doctype") s then white_space_and_name (drop 9 s) else None
