-- What is read plainly, piece by piece.
use Rattle.std.proofs.Common.{◌≡◌, ℕ, Bool, true, false, not, ◌&&◌, List, [], ◌∷◌, refl}
use Rattle.std.specs.Prelude.{◌||◌}
use Rattle.std.proofs.lemmas.Bool.{and_parts, and_from}
use Rattle.htmd_commonmark_reading.specs.Markup.{Inlines, no_inlines, letter, code, formatted, link, image, line_break}
use Rattle.htmd_commonmark_reading.specs.Markup.{task, raw, joined, letters}
use Rattle.htmd_law_inlines.specs.PlainReadings.{is_untagged, is_break_tag, is_read_plainly}

pub joined_plain : (may : Bool) (xs ys : Inlines) → is_read_plainly may xs ≡ true
    → is_read_plainly may ys ≡ true
    → is_read_plainly may (joined xs ys) ≡ true
joined_plain may no_inlines ys h k = k
joined_plain may (letter c xs) ys h k = joined_plain may xs ys h k
joined_plain may (code s xs) ys h k = joined_plain may xs ys h k
joined_plain may (formatted f content xs) ys h k =
    let p = and_parts (is_read_plainly may content) (is_read_plainly may xs) h in
    and_from (is_read_plainly may content) (is_read_plainly may (joined xs ys)) p.0 (joined_plain may xs ys p.1 k)
joined_plain may (link a t content xs) ys h k =
    let p = and_parts (is_read_plainly may content) (is_read_plainly may xs) h in
    and_from (is_read_plainly may content) (is_read_plainly may (joined xs ys)) p.0 (joined_plain may xs ys p.1 k)
joined_plain may (image a t content xs) ys h k =
    let p = and_parts (is_untagged content) (is_read_plainly may xs) h in
    and_from (is_untagged content) (is_read_plainly may (joined xs ys)) p.0 (joined_plain may xs ys p.1 k)
joined_plain may (line_break xs) ys h k = joined_plain may xs ys h k
joined_plain may (task d xs) ys h k = joined_plain may xs ys h k
joined_plain may (raw s xs) ys h k =
    let p = and_parts (may || not (is_break_tag s)) (is_read_plainly may xs) h in
    and_from (may || not (is_break_tag s)) (is_read_plainly may (joined xs ys)) p.0 (joined_plain may xs ys p.1 k)

pub letters_plain : (may : Bool) (s : List ℕ) → is_read_plainly may (letters s no_inlines) ≡ true
letters_plain may [] = refl
letters_plain may (c ∷ s) = letters_plain may s

pub letters_untagged : (s : List ℕ) → is_untagged (letters s no_inlines) ≡ true
letters_untagged [] = refl
letters_untagged (c ∷ s) = letters_untagged s

-- one of something whose content is plain
pub content_plain : (h k : Bool) → h ≡ true → k ≡ true → (h && k) ≡ true
content_plain h k e f = and_from h k e f

-- a tag that is no break
pub tag_plain : (may : Bool) (s : List ℕ) (xs : Inlines) → is_break_tag s ≡ false
    → is_read_plainly may xs ≡ true
    → is_read_plainly may (raw s xs) ≡ true
tag_plain true s xs e h = h
tag_plain false s xs e h = rw (e, h) refl
