-- What is read where descriptions of images are text alone, and breaks are tags only where they may be.
use Rattle.std.specs.Prelude.{ℕ, Bool, true, false, not, ◌&&◌, ◌||◌, List, [], ◌∷◌, codes}
use Rattle.htmd_lexical.specs.CharacterClasses.{is_among}
use Rattle.htmd_commonmark_reading.specs.Markup.{Inlines, no_inlines, letter, code, formatted, link, image, line_break}
use Rattle.htmd_commonmark_reading.specs.Markup.{task, raw}

-- no raw tag stands in it
abbrev pub is_untagged : Inlines → Bool
is_untagged no_inlines = true
is_untagged (letter c xs) = is_untagged xs
is_untagged (code s xs) = is_untagged xs
is_untagged (formatted f content xs) = is_untagged content && is_untagged xs
is_untagged (link a t content xs) = is_untagged content && is_untagged xs
is_untagged (image a t content xs) = is_untagged content && is_untagged xs
is_untagged (line_break xs) = is_untagged xs
is_untagged (task d xs) = is_untagged xs
is_untagged (raw s xs) = false

abbrev pub is_break_tag : List ℕ → Bool
is_break_tag s = is_among (codes "<br>" ∷ codes "<br/>" ∷ codes "<br />" ∷ []) s

abbrev pub is_read_plainly : Bool → Inlines → Bool
is_read_plainly may no_inlines = true
is_read_plainly may (letter c xs) = is_read_plainly may xs
is_read_plainly may (code s xs) = is_read_plainly may xs
is_read_plainly may (formatted f content xs) = is_read_plainly may content && is_read_plainly may xs
is_read_plainly may (link a t content xs) = is_read_plainly may content && is_read_plainly may xs
is_read_plainly may (image a t content xs) = is_untagged content && is_read_plainly may xs
is_read_plainly may (line_break xs) = is_read_plainly may xs
is_read_plainly may (task d xs) = is_read_plainly may xs
is_read_plainly may (raw s xs) = (may || not (is_break_tag s)) && is_read_plainly may xs
