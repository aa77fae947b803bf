-- Rows of underscores, and which places get a backslash.
use Rattle.std.proofs.Common.{◌≡◌, ℕ, suc, ◌+◌, ◌-◌, ◌<◌, Bool, true, false, cond, List, [], ◌∷◌, length}
use Rattle.std.proofs.Common.{get_or}
use Rattle.std.proofs.Common.{take, drop, refl, sym, ap, ◌∙◌, arith, ⊎_elim}
use Rattle.std.specs.Prelude.{◌==◌, ◌&&◌, ◌||◌, not, nat_le, slice_index, codes, Option, Some, None}
use Rattle.std.specs.Option.{option_or}
use Rattle.std.specs.Char.{is_ascii, is_ascii_digit}
use Rattle.std.specs.List.{prefix_len, suffix_len, list_all}
use Rattle.std.proofs.lemmas.Bool.{or_cases, and_parts, false≢true}
use Rattle.std.proofs.lemmas.Bool.Decides.{nat_tests}
use Rattle.std.proofs.lemmas.List.{drop_more, length-take-le, take-take}
use Rattle.std.proofs.lemmas.List.Sums.{suffix_len-take_yes, suffix_len-le-length}
use Rattle.htmd_lexical.specs.Characters.{underscore, hyphen, colon, number_sign, is_one_of, ampersand}
use Rattle.htmd_lexical.specs.Characters.{right_square_bracket, backslash, less_than_sign, exclamation_mark}
use Rattle.htmd_lexical.specs.CharacterClasses.{first_is}
use Rattle.htmd_text.specs.EscapedPlaces.{is_place}
use Rattle.htmd_text.specs.ListMarkers.{number_signs}
use Rattle.htmd_text.specs.Trims.{trimmed_start, trimmed_end}
use Rattle.htmd_text.proofs.TrimsLemmas.{OfAscii}
use Rattle.htmd_commonmark.specs.CharacterKinds.{first_character, last_character}
use Rattle.htmd_commonmark.specs.LineMarks.{begins_block, ends_marker, is_bullet, is_dashes, is_heading_marker}
use Rattle.htmd_commonmark.specs.LineMarks.{line_mark, number_mark}
use Rattle.htmd_commonmark.specs.TextEscapes.{Place, is_underscore, is_in_word, is_inline_mark, is_marked}
use Rattle.htmd_commonmark.specs.References.{is_reference}
use Rattle.htmd_commonmark.specs.TextEscapes.{character_before, character_after, is_of_word, next_byte, may_be_escaped}
use Rattle.htmd_commonmark.specs.TextEscapes.{may_be_in_tag, is_bracket}

pub underscore_of_ascii : OfAscii is_underscore
underscore_of_ascii b e = grind (arith, nat_tests)

-- ---- a row

row_before : (s : List ℕ) (k : ℕ) → k < length s → is_underscore (get_or s k 0) ≡ true
    → trimmed_end is_underscore (take (k + 1) s) ≡ trimmed_end is_underscore (take k s)
row_before s k lt here =
    let run : suffix_len is_underscore (take (k + 1) s) ≡ 1 + suffix_len is_underscore (take k s) =
    suffix_len-take_yes is_underscore s (k + 1) 0 (omega arith) (omega arith)
    (ap (λ n. is_underscore (get_or s n 0)) (omega arith) ∙ here)
    ∙ ap (λ n. 1 + suffix_len is_underscore (take n s)) (omega arith) in
    let longer : length (take (k + 1) s) ≡ k + 1 = length-take-le (k + 1) s (omega arith) in
    let shorter : length (take k s) ≡ k = length-take-le k s (omega arith) in
    let within = suffix_len-le-length is_underscore (take k s) in
    let n = k - suffix_len is_underscore (take k s) in
    ap (λ m. take m (take (k + 1) s)) (omega (arith, run, longer))
    ∙ take-take n (k + 1) s (omega arith)
    ∙ sym (ap (λ m. take m (take k s)) (omega (arith, shorter)) ∙ take-take n k s (omega arith))

first_passes : (b : ℕ) (s : List ℕ) → is_underscore b ≡ true
    → trimmed_start is_underscore (b ∷ s) ≡ trimmed_start is_underscore s
first_passes b s here =
    let more : prefix_len is_underscore (b ∷ s) ≡ suc (prefix_len is_underscore s) = rw here (omega arith) in
    ap (λ n. drop n (b ∷ s)) more

row_behind : (s : List ℕ) (k : ℕ) → k < length s → is_underscore (get_or s k 0) ≡ true
    → trimmed_start is_underscore (drop (k + 1) s) ≡ trimmed_start is_underscore (drop k s)
row_behind s k lt here =
    sym (ap (trimmed_start is_underscore) (drop_more s k 0 lt) ∙ first_passes (get_or s k 0) (drop (k + 1) s) here)

-- what is told of an underscore holds for the next one
pub row_goes_on : (place : Place) (s : List ℕ) (k : ℕ) → k < length s → slice_index s k ≡ underscore
    → is_in_word place s (k + 1) ≡ is_in_word place s k
row_goes_on place s k lt here =
    let passes : is_underscore (get_or s k 0) ≡ true = grind (arith, nat_tests) in
    ap (λ t. is_of_word (option_or (last_character t) place.before)
    && is_of_word (character_after place (drop (k + 1) s))) (row_before s k lt passes)
    ∙ ap (λ t.
    is_of_word (character_before place (take k s)) && is_of_word (option_or (first_character t) place.after))
    (row_behind s k lt passes)

-- an underscore with which no row begins follows another one
pub no_row : (b last i : ℕ) → b ≡ underscore
    → ((b == underscore) && ((i == 0) || not (last == underscore))) ≡ false → (0 < i) × (last ≡ underscore)
no_row b last i here other = (grind (arith, nat_tests), grind (arith, nat_tests))

-- ---- what gets a backslash is ASCII

inline_ascii : (b : ℕ) (p q r t u v w x y : Bool)
    → (is_one_of (codes "`*[~") b
    || ((b == right_square_bracket) && p)
    || ((b == backslash) && q)
    || ((b == underscore) && r)
    || ((b == less_than_sign) && t)
    || ((b == ampersand) && u)
    || ((b == exclamation_mark) && v && w)
    || (is_one_of (codes "^") b && x && y)) ≡ true
    → is_ascii b ≡ true
inline_ascii b p q r t u v w x y e = grind (arith, nat_tests)

heading_ascii : (b : ℕ) (s : List ℕ) (after : Option ℕ) (t : Bool) → (b == number_sign) ≡ t
    → is_heading_marker (b ∷ s) after ≡ true → is_ascii b ≡ true
heading_ascii b s after true here e = grind (arith, nat_tests)
heading_ascii b s after false other e =
    let none : number_signs (b ∷ s) ≡ 0 = rw other refl in
    absurd (false≢true (sym (ap (λ n. nat_le 1 n && nat_le n 6 && ends_marker (drop n (b ∷ s)) after) none) ∙ e))

first_ascii : (b : ℕ) (p q r : Bool)
    → (is_one_of (codes "=>|") b || (is_one_of (codes "-+") b && p) || ((b == hyphen) && q) || ((b == colon) && r))
    ≡ true
    → is_ascii b ≡ true
first_ascii b p q r e = grind (arith, nat_tests)

block_ascii : (b : ℕ) (s : List ℕ) (after : Option ℕ) → begins_block b s after ≡ true → is_ascii b ≡ true
block_ascii b s after e =
    ⊎_elim
    (first_ascii b (ends_marker s after) (list_all (is_one_of (codes "-:| ")) s) (first_is hyphen s))
    (heading_ascii b s after (b == number_sign) refl)
    (or_cases (is_one_of (codes "=>|") b || is_bullet b s after || is_dashes b s
    || ((b == colon) && first_is hyphen s)) (is_heading_marker (b ∷ s) after) e)

delimiter_ascii : (b : ℕ) → is_one_of (codes ".)") b ≡ true → is_ascii b ≡ true
delimiter_ascii b e = grind (arith, nat_tests)

number_ascii : (s : List ℕ) (d k : ℕ) (x y z : Bool)
    → is_place (cond (x && y && is_one_of (codes ".)") (slice_index s d) && z) (Some d) None) k ≡ true
    → is_ascii (slice_index s k) ≡ true
number_ascii s d k x y z e = decide (x && y && is_one_of (codes ".)") (slice_index s d) && z) refl e
  where
    decide : (t : Bool) → (x && y && is_one_of (codes ".)") (slice_index s d) && z) ≡ t
        → is_place (cond t (Some d) None) k ≡ true → is_ascii (slice_index s k) ≡ true
    decide true all at =
        let same : k ≡ d = grind (arith, nat_tests) in
        let parts = and_parts (x && y && is_one_of (codes ".)") (slice_index s d)) z all in
        ap (λ n. is_ascii (slice_index s n)) same
        ∙ delimiter_ascii (slice_index s d) (and_parts (x && y) (is_one_of (codes ".)") (slice_index s d)) parts.0).1
    decide false none at = absurd (false≢true at)

line_mark_ascii : (s : List ℕ) (after : Option ℕ) (k : ℕ) → is_place (line_mark s after) k ≡ true
    → is_ascii (slice_index s k) ≡ true
line_mark_ascii [] after k e = absurd (false≢true e)
line_mark_ascii (b ∷ s) after k e = decide (begins_block b s after) refl e
  where
    decide : (t : Bool) → begins_block b s after ≡ t
        → is_place (cond t (Some 0) (number_mark (b ∷ s) after)) k ≡ true
        → is_ascii (slice_index (b ∷ s) k) ≡ true
    decide true here at =
        let first : k ≡ 0 = grind (arith, nat_tests) in
        ap (λ n. is_ascii (slice_index (b ∷ s) n)) first ∙ block_ascii b s after here
    decide false other at =
        let digits = prefix_len is_ascii_digit (b ∷ s) in
        number_ascii (b ∷ s) digits k (nat_le 1 digits) (nat_le digits 9)
        (ends_marker (drop (digits + 1) (b ∷ s)) after) at

pub mark_is_ascii : (place : Place) (s : List ℕ) (k : ℕ) → is_marked place s k ≡ true
    → is_ascii (get_or s k 0) ≡ true
mark_is_ascii place s k e =
    ⊎_elim
    (inline_ascii (slice_index s k) place.in_brackets (may_be_escaped (next_byte place s k))
    (not (is_in_word place s k)) (may_be_in_tag (next_byte place s k)) (is_reference (drop (k + 1) s))
    (k + 1 == length s) (is_bracket place.after)
    (k == 0) (is_bracket place.before))
    (λ at. line_mark_ascii s place.after k (and_parts place.begins_line (is_place (line_mark s place.after) k) at).1)
    (or_cases (is_inline_mark place s k) (place.begins_line && is_place (line_mark s place.after) k) e)

-- the mark as the code tells it
pub mark_told : (place : Place) (s bytes : List ℕ) (k : ℕ) (result at_line : Bool) → bytes ≡ s
    → at_line ≡ (place.begins_line && is_place (line_mark bytes place.after) k)
    → result ≡ (is_inline_mark place bytes k || at_line) → result ≡ is_marked place s k
mark_told place s bytes k result at_line same at told =
    told ∙ ap (λ b. is_inline_mark place bytes k || b) at ∙ ap (λ l. is_marked place l k) same
