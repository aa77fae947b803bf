-- Comments (HTML Standard, 13.2.5.41 to 13.2.5.52).
use Rattle.std.specs.Prelude.{ℕ, Bool, ◌||◌, if◌then◌else◌, List, [], ◌∷◌, drop, codes}
use Rattle.htmd_lexical.specs.Characters.{greater_than_sign}
use Rattle.htmd_lexical.specs.CharacterClasses.{is_among, begins_with, leading_run, behind_run, up_to}
use Rattle.htmd_lexical.specs.CharacterClasses.{onward}
use Rattle.htmd_lexical.specs.TagReading.{is_other}
use Rattle.htmd_html5_tokens.specs.Contents.{decoded}
use Rattle.htmd_html5_tokens.specs.Tokens.{comment, Read}
use Rattle.htmd_html5_tokens.specs.declared.contents.Reading.TheVariants.{RawText}

-- the token of a comment that holds this
abbrev pub comment_token : List ℕ → List ℕ → Read
comment_token held s = record { token = comment (decoded RawText 0 held); rest = s }

-- `-->` or `--!>` ends a comment, and so does a part of it at the end of the text
abbrev pub ends_comment : List ℕ → Bool
ends_comment s =
    begins_with (codes "-->") s || begins_with (codes "--!>") s
    || is_among (codes "-" ∷ codes "--" ∷ codes "--!" ∷ []) s

-- what follows the end of a comment
abbrev pub after_comment_end : List ℕ → List ℕ
after_comment_end s =
    if begins_with (codes "-->") s then drop 3 s
    else if begins_with (codes "--!>") s then drop 4 s
    else []

-- a comment from just after its `<!--`, which `>` and `->` end at once (13.2.5.43 to 13.2.5.52)
abbrev pub read_comment : List ℕ → Read
read_comment s =
    if begins_with (codes ">") s then comment_token [] (drop 1 s)
    else if begins_with (codes "->") s then comment_token [] (drop 2 s)
    else comment_token (up_to ends_comment s) (after_comment_end (onward ends_comment s))

-- what comes before the first `>`, and what follows it
abbrev pub before_sign : List ℕ → List ℕ
before_sign s = leading_run (is_other greater_than_sign) s

abbrev pub after_sign : List ℕ → List ℕ
after_sign s = drop 1 (behind_run (is_other greater_than_sign) s)

-- markup of no other kind is a comment up to `>` (13.2.5.41)
abbrev pub read_bogus_comment : List ℕ → Read
read_bogus_comment s = comment_token (before_sign s) (after_sign s)
